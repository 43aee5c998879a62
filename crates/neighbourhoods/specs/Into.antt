-- For each task the set of nodes with a link to it, and the backward walk over these sets.
use Rattle.std.specs.Prelude.{ℕ, suc, ◌-◌, ◌<◌, ◌≤◌, ◌≡◌, Bool, true, false, List, [], ◌∷◌, get_or}
use Rattle.model.specs.declared.Walk.{Walk}
use Rattle.model.specs.declared.Description.{Description}
use Rattle.model.specs.Graph.{System, linked}
use Rattle.model.specs.Order.{visit}
use Rattle.sets.specs.Sets.{member}

-- whether node p has a link to task x
abbrev pub link_into : List ℕ → ℕ → ℕ → Bool
link_into into p x = member (get_or into (x - 1) 0) (p - 1)

-- the walk asks a system for its links alone
abbrev pub into_system : List ℕ → System
into_system into = record { tasks = 0; sources = 0; run = λ j. 0; link = link_into into }

-- how many tasks are not met yet
unfoldable pub unmet : List Bool → ℕ
unmet [] = 0
unmet (true ∷ l) = unmet l
unmet (false ∷ l) = suc (unmet l)

-- a visit, for every bound on its depth that is enough
abbrev pub VisitIs : List ℕ → ℕ → ℕ → Walk → Walk → Type 0
VisitIs into j x w r = (f : ℕ) → unmet w.met < f → r ≡ visit f (into_system into) j x w

-- the links of a description as sets
abbrev pub IntoOf : Description → List ℕ → Type 0
IntoOf d into = (i j : ℕ) → 1 ≤ i → i ≤ 48 → 1 ≤ j → j ≤ 32 → link_into into i j ≡ linked d i j
