-- What firing and arriving on words of bits ensure: of every record that the words hold, they hold what the plain machine's step makes of it.
use Rattle.std.specs.Prelude.{ℕ, ◌<◌, true, false, ◌||◌, ◌&&◌, List, ◌≡◌, get_or, length}
use Rattle.model.specs.declared.Description.{Description}
use Rattle.model.specs.declared.Machine.{Machine}
use Rattle.model.specs.Machine.{fire, arrive}
use Rattle.theory.proofs.WellFormed.{WellFormed}
use Rattle.sets.specs.declared.wide.Wide.{Wide}
use Rattle.sets.specs.Sets.{member}
use Rattle.sets.specs.Wide.{inside}
use Rattle.wiring.specs.declared.Row.{Row}
use Rattle.wiring.specs.Rows.{RowsOf}
use Rattle.words.specs.declared.Words.{Words}
use Rattle.model.specs.Run.{heard, marks_in}
use Rattle.words.specs.Words.{Marks, Holds, raised_to, Above}
use Rattle.arrivals.specs.Parts.{Known}

-- the links of a set have fired, and their tasks were woken
pub record Sent (w : Words) (out : Wide) (wakes : ℕ) (w' : Words) : Type 0 where
  pub woken : (k : ℕ) → member w'.woken k ≡ (member w.woken k || member wakes k)
  pub fresh : (l : ℕ) → inside w'.fresh l ≡ (inside w.fresh l || inside out l)
  pub dropped : (l : ℕ) → inside w'.dropped l ≡ (inside w.dropped l || (inside w.fresh l && inside out l))
  pub same : (w'.part ≡ w.part) × (w'.taken ≡ w.taken)
  pub then : w'.tick ≡ w.tick
  pub knob : (w'.low ≡ w.low) × (w'.peak ≡ w.peak)
  pub runs : w'.running ≡ w.running

-- node x has fired
pub record Fires (rows : List Row) (x : ℕ) (w w' : Words) : Type 0 where
  pub fired : (d : Description) (m : Machine) → WellFormed d → RowsOf d d.link_count rows → Marks d w m → Marks d w' (fire d x m)
  pub then : w'.tick ≡ w.tick
  pub knob : (w'.low ≡ w.low) × (w'.peak ≡ w.peak)
  pub runs : w'.running ≡ w.running

-- a number is stored for each source of a mask below r, and for no other
pub record Stored (mask r v : ℕ) (l₀ l : List ℕ) : Type 0 where
  pub many : length l ≡ 16
  pub here : (u : ℕ) → u < r → heard mask u ≡ true → get_or l u 0 ≡ v
  pub others : (u : ℕ) → heard mask u ≡ false → get_or l u 0 ≡ get_or l₀ u 0

-- kept tempos of which none is below `low` are raised to the fastest given
pub record Folds (peak low : ℕ) (fastest fastest' : List ℕ) : Type 0 where
  pub many : length fastest' ≡ 16
  pub raised : Above low fastest → (u : ℕ) → u < 16 → get_or fastest' u 0 ≡ raised_to peak (get_or fastest u 0)

-- the words with other tempos
abbrev pub at_tempos : ℕ → ℕ → Words → Words
at_tempos low peak w = record { woken = w.woken; part = w.part; running = w.running; fresh = w.fresh; taken = w.taken; dropped = w.dropped; tick = w.tick; low = low; peak = peak }

-- the sources of a mask have arrived at tempo t, kept tempos being raised to the fastest given first
pub record Arrives (rows : List Row) (t peak mask : ℕ) (w : Words) (since fastest : List ℕ) (w' : Words) (since' fastest' : List ℕ) : Type 0 where
  pub arrived : (d : Description) (used : List ℕ) (m : Machine) → WellFormed d → RowsOf d d.link_count rows → Known d mask
      → Holds d w used since m → Holds d w' used since' (arrive d (marks_in mask) m)
  pub many : length fastest' ≡ 16
  pub fired : (u : ℕ) → u < 16 → heard mask u ≡ true → get_or fastest' u 0 ≡ t
  pub others : Above w.low fastest → (u : ℕ) → u < 16 → heard mask u ≡ false → get_or fastest' u 0 ≡ raised_to peak (get_or fastest u 0)
  pub then : w'.tick ≡ w.tick
  pub knob : (w'.low ≡ t) × (w'.peak ≡ t)
  pub runs : w'.running ≡ w.running
