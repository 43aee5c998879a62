-- "Verdicts" and the quote.
use Rattle.std.specs.Prelude.{ℕ, zero, suc, ◌+◌, Bool, true, false, ◌&&◌, not, cond, List, replicate, ltb, leb, eqb, Ok}
use Rattle.model.specs.declared.Link.{Link}
use Rattle.model.specs.declared.Description.{Description}
use Rattle.model.specs.Refusals.{Outcome, Done, Refused, Quote, on_done}
use Rattle.model.specs.declared.Refusal.TheVariants.{OffKnob, NoTempo}
use Rattle.model.specs.declared.Policy.{Policy}
use Rattle.model.specs.declared.Verdict.{Verdict}
use Rattle.model.specs.declared.Verdict.TheVariants.{Free, HeldOrder, DoubtOrder, Held, Doubt}
use Rattle.model.specs.declared.VerdictSlot.{VerdictSlot}
use Rattle.model.specs.declared.Verdicts.{Verdicts}
use Rattle.model.specs.Basics.{tab, all_n}
use Rattle.model.specs.Graph.{System, system, link_at}
use Rattle.model.specs.Delays.{Settled, unchanged, reached, tail_of, delay_of, spacing_of}
use Rattle.model.specs.Order.{in_order}
use Rattle.model.specs.File.{read_file, judge}

-- "the link is held if the delay is below i's spacing, doubtful otherwise"; on the hold-on model "held means D + e(j) below i's spacing", and "D + e(j)
-- is the delay printed". What follows D is the tail
abbrev pub settled_verdict : Settled → ℕ → ℕ → Verdict
settled_verdict (unchanged d) tail m = Held (d + tail) m
settled_verdict reached tail m = Doubt m

unfoldable pub source_verdict : Policy → System → (ℕ → ℕ) → ℕ → ℕ → Verdict
source_verdict p s gap i j = settled_verdict (delay_of p s gap i j) (tail_of p s j) (gap i)

unfoldable pub order_verdict : System → ℕ → ℕ → Verdict
order_verdict s i j = cond (in_order s i j) HeldOrder DoubtOrder

-- "only critical links get one; others are free"
unfoldable pub verdict_of : Policy → System → (ℕ → ℕ) → Link → Verdict
verdict_of p s gap l =
    cond (eqb l.critical 0) Free
    (cond (ltb l.from 33) (order_verdict s l.from l.to)
    (source_verdict p s gap l.from l.to))

-- the verdict on the link at place l of a file, at tempo t
unfoldable pub verdict_at : Policy → Description → ℕ → ℕ → Verdict
verdict_at p d t l = verdict_of p (system d) (spacing_of d t) (link_at d l)

abbrev pub doubtful : Verdict → Bool
doubtful Free = false
doubtful HeldOrder = false
doubtful DoubtOrder = true
doubtful (Held d m) = false
doubtful (Doubt m) = true

-- the delay that a verdict prints
abbrev pub delay_in : Verdict → ℕ
delay_in Free = 0
delay_in HeldOrder = 0
delay_in DoubtOrder = 0
delay_in (Held d m) = d
delay_in (Doubt m) = 0

-- "every critical link is held" at tempo t
unfoldable pub all_held : Policy → Description → ℕ → Bool
all_held p d t = all_n (λ l. not (doubtful (verdict_at p d t l))) 0 d.link_count

-- "tempo is a whole number T of tenths of a beat per minute, 200 to 3,000"
abbrev pub on_knob : ℕ → Bool
on_knob t = leb 200 t && leb t 3000

-- how many tempos are on the knob
abbrev pub tempos : ℕ
tempos = 2801

-- the verdict call: 1 to 10 as judged, then 11
abbrev pub free_slot : VerdictSlot
free_slot = record { verdict = Free }

abbrev pub slot_at : Policy → Description → ℕ → ℕ → VerdictSlot
slot_at p d t l = cond (ltb l d.link_count) (record { verdict = verdict_at p d t l }) free_slot

unfoldable pub judge_at : Description → ℕ → Outcome
judge_at d t = on_done (judge d) (cond (on_knob t) Done (Refused OffKnob 0)) Refused

unfoldable pub verdicts : Policy → Description → ℕ → Verdicts
verdicts p d t = on_done (judge_at d t)
    (record { outcome = Done; slots = tab 256 (slot_at p d t) })
    (λ r place. record { outcome = Refused r place; slots = replicate 256 free_slot })

-- the largest tempo below 200 + n that passes a test, or 12
unfoldable pub largest_below : (ℕ → Bool) → ℕ → Quote
largest_below good zero = Refused NoTempo 0
largest_below good (suc n) = elim (good (200 + n)) [ true ↦ Ok (200 + n) | false ↦ largest_below good n ]

-- "the quote is the largest T at which every critical link is held"
unfoldable pub quote_of : Policy → Description → Quote
quote_of p d = on_done (judge d) (largest_below (all_held p d) tempos) Refused

-- the quote of a file
unfoldable pub quoted_file : Policy → List ℕ → Quote
quoted_file p s = on_done (read_file s).outcome (quote_of p (read_file s).description) Refused
