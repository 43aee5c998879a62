-- What the tests of a record ensure, of every description whose tables they are given.
use Rattle.std.specs.Prelude.{ℕ, ◌-◌, ◌≤◌, ◌<◌, Bool, List, ◌≡◌, get_or, drop, ltb}
use Rattle.model.specs.declared.Description.{Description}
use Rattle.model.specs.declared.Policy.{Policy}
use Rattle.model.specs.declared.Machine.{Machine}
use Rattle.model.specs.Basics.{sum_n, all_n, unset, given}
use Rattle.model.specs.Machine.{task_rule, link_rule, links_rule, source_rule, again_rule, late_rule, lates_rule, rules_kept, alone_rule, lawful}
use Rattle.wiring.specs.declared.Wiring.{Wiring}
use Rattle.wiring.specs.Rows.{WiringOf}
use Rattle.spacings.specs.Gaps.{GapsOf}

-- the table's first n entries are numbers of tasks
pub record Enters (to : List ℕ) (n : ℕ) : Type 0 where
  pub few : n ≤ 256
  pub some : (l : ℕ) → l < n → 1 ≤ get_or to l 0
  pub most : (l : ℕ) → l < n → get_or to l 0 ≤ 32

-- the rules, of every description whose wiring it is
abbrev pub TasksLawful : Wiring → Machine → Bool → Type 0
TasksLawful w m r = (d : Description) → WiringOf d w → r ≡ all_n (task_rule d m) 1 32

abbrev pub AbsentLawful : List Bool → ℕ → Bool → Type 0
AbsentLawful marks n r = r ≡ unset (drop n marks)

abbrev pub EachLinkLawful : Wiring → Machine → Bool → Type 0
EachLinkLawful w m r = (d : Description) → WiringOf d w → r ≡ all_n (link_rule d m) 0 d.link_count

abbrev pub LinksLawful : Wiring → Machine → Bool → Type 0
LinksLawful w m r = (d : Description) → WiringOf d w → r ≡ links_rule d m

abbrev pub SourcesLawful : Wiring → List ℕ → Machine → Bool → Type 0
SourcesLawful w gaps m r = (d : Description) → WiringOf d w → GapsOf d 200 gaps → r ≡ all_n (source_rule d m) 0 16

abbrev pub AgainsLawful : Machine → Bool → Type 0
AgainsLawful m r = r ≡ all_n (again_rule m) 1 32

abbrev pub EachLateLawful : Wiring → Machine → Bool → Type 0
EachLateLawful w m r = (d : Description) → WiringOf d w → r ≡ all_n (late_rule d m) 0 d.link_count

abbrev pub LatesLawful : Wiring → Machine → Bool → Type 0
LatesLawful w m r = (d : Description) → WiringOf d w → r ≡ lates_rule d m

abbrev pub RulesKept : Wiring → List ℕ → Machine → Bool → Type 0
RulesKept w gaps m r = (d : Description) → WiringOf d w → GapsOf d 200 gaps → r ≡ rules_kept d m

-- how many tasks are part done
abbrev pub parts_in : List ℕ → ℕ
parts_in used = sum_n (λ k. given (ltb 0 (get_or used (k - 1) 0)) 1) 1 32

abbrev pub Alone : Policy → Machine → Bool → Type 0
Alone p m r = r ≡ alone_rule p m

abbrev pub Lawful : Policy → Wiring → List ℕ → Machine → Bool → Type 0
Lawful p w gaps m r = (d : Description) → WiringOf d w → GapsOf d 200 gaps → r ≡ lawful p d m
