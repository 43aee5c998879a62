-- Every critical link is held, task by task: whether those from sources to one task are, at given spacings.
use Rattle.std.specs.Prelude.{ℕ, Bool, true, cond, not, ◌&&◌, leb, eqb}
use Rattle.model.specs.declared.Link.{Link}
use Rattle.model.specs.declared.Description.{Description}
use Rattle.model.specs.declared.Policy.{Policy}
use Rattle.model.specs.Basics.{all_n, any_n}
use Rattle.model.specs.Graph.{system, link_at}
use Rattle.model.specs.Verdicts.{verdict_of, doubtful}

-- whether a link is critical and goes from a source to task j
abbrev pub from_source : ℕ → Link → Bool
from_source j k = eqb k.critical 1 && (leb 33 k.from && eqb k.to j)

-- whether the link at place l is held at the spacings of gap
abbrev pub held_at : Policy → Description → (ℕ → ℕ) → ℕ → Bool
held_at p d gap l = not (doubtful (verdict_of p (system d) gap (link_at d l)))

-- whether every critical link from a source to task j is
unfoldable pub level_held : Policy → Description → (ℕ → ℕ) → ℕ → Bool
level_held p d gap j = all_n (λ l. cond (from_source j (link_at d l)) (held_at p d gap l) true) 0 d.link_count

-- whether a link is critical and goes from node i to task j
abbrev pub critical_link : ℕ → ℕ → Link → Bool
critical_link i j k = eqb k.critical 1 && (eqb k.from i && eqb k.to j)

-- whether one of the first n links is
unfoldable pub critical_to : Description → ℕ → ℕ → ℕ → Bool
critical_to d n i j = any_n (λ l. critical_link i j (link_at d l)) 0 n
