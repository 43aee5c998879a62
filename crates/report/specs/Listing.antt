-- The lines of the first links of a description, with the verdicts from a table.
use Rattle.std.specs.Prelude.{ℕ, List, get_or}
use Rattle.model.specs.declared.Description.{Description}
use Rattle.model.specs.declared.VerdictSlot.{VerdictSlot}
use Rattle.model.specs.Basics.{joined}
use Rattle.model.specs.Graph.{link_at}
use Rattle.model.specs.Report.{link_line}
use Rattle.model.specs.Verdicts.{free_slot}

abbrev pub line_at : Description → List VerdictSlot → ℕ → List ℕ
line_at d slots l = link_line l (link_at d l) (get_or slots l free_slot).verdict

unfoldable pub listing : Description → List VerdictSlot → ℕ → List ℕ
listing d slots n = joined n (line_at d slots)
