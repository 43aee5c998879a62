-- The tables of a wiring and of sources. Assumes nothing.
use mathlib.Core.Path.{ap}
use mathlib.Core.List.{List}
use Prim.Native.Nat.{ℕ}
use native.Mathlib.Omega.{arith}
use lib.ListN.{get_or}
use Rattle.model.specs.declared.Description.{Description}
use Rattle.wiring.specs.declared.Wiring.{Wiring}
use Rattle.wiring.specs.Rows.{WiringOf}
use Rattle.spacings.specs.declared.Sources.{Sources}
use Rattle.spacings.specs.Sources.{SourcesOf}
use Rattle.machine.specs.Calls.{TablesOf}

pub tables_of : (d : Description) (w : Wiring) (s : Sources) → WiringOf d w → SourcesOf d s → TablesOf d w s
tables_of d w s r h = record {
  formed = r.formed;
  rowed = r.rowed;
  same_runs = λ k p. ap (λ (l : List ℕ). get_or l k 0) r.same_runs;
  same_sources = λ u p. h.at u (omega (arith, h.counted));
  as_wide = r.as_wide;
}
