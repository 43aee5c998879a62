-- Figures of verdicts by structure and spacings (C-12): Box with a pulse of each kind, each at a tempo where its spacing is 701, and Box with one more
-- source, which no link leaves.
use Rattle.std.specs.Prelude.{◌≡◌, [], ◌∷◌}
use Rattle.model.specs.declared.Source.{Source}
use Rattle.model.specs.declared.Source.TheVariants.{Fixed, Paced, Swung}
use Rattle.model.specs.declared.Policy.TheVariants.{Preemptive}
use Rattle.model.specs.declared.Description.{Description}
use Rattle.model.specs.Basics.{tab}
use Rattle.model.specs.Delays.{spacing}
use Rattle.model.specs.Verdicts.{verdict_at}
use Rattle.model.specs.figures.Marked.{box, box_of, box_with}
use Rattle.model.specs.figures.Swing.{swung_box}

-- Box with a fixed source in place of its pulse
abbrev pub fixed_box : Description
fixed_box = box_with (Fixed 701)

-- Box with a source 35
abbrev pub spare_box : Source → Description
spare_box spare = box_of (Paced 480 ∷ Fixed 2000 ∷ spare ∷ [])

pub record SpacingFigures : Type 0 where
  pub paced : spacing (Paced 480) 1783 ≡ 701
  pub swung : spacing (Swung 480 66) 1212 ≡ 701
  pub fixed : spacing (Fixed 701) 3000 ≡ 701
  -- the four links get the same verdicts
  pub paced_swung : tab 4 (verdict_at Preemptive box 1783) ≡ tab 4 (verdict_at Preemptive swung_box 1212)
  pub paced_fixed : tab 4 (verdict_at Preemptive box 1783) ≡ tab 4 (verdict_at Preemptive fixed_box 3000)
  pub spare : tab 4 (verdict_at Preemptive box 1783) ≡ tab 4 (verdict_at Preemptive (spare_box (Fixed 1)) 1783)
