-- Request C-11, "Swing on the sequencer": the files its figures speak of, and the figures as the rows of one statement.
use Rattle.std.specs.Prelude.{ℕ, ◌*◌, ◌/◌, List, [], ◌∷◌, ◌++◌, ◌≡◌}
use Rattle.model.specs.declared.Source.TheVariants.{Paced, Swung}
use Rattle.model.specs.declared.Policy.TheVariants.{Preemptive}
use Rattle.model.specs.declared.Description.{Description}
use Rattle.model.specs.declared.Field.TheVariants.{OfSource}
use Rattle.model.specs.Field.{Whole, field_bytes, take_field}
use Rattle.model.specs.declared.Verdict.TheVariants.{Held, Doubt}
use Rattle.model.specs.Refusals.{Numbered, accepted, of_reading}
use Rattle.model.specs.File.{read_file}
use Rattle.model.specs.Delays.{spacing}
use Rattle.model.specs.Verdicts.{verdict_at}
use Rattle.model.specs.figures.Marked.{box_with}

-- Box with a swing of 66
abbrev pub swung_box : Description
swung_box = box_with (Swung 480 66)

-- a file of a task of run 1 and a paced source with these bytes of length and body
abbrev pub paced_file : List ℕ → List ℕ
paced_file rest = (1 ∷ 0 ∷ 4 ∷ 0 ∷ 0 ∷ 0 ∷ 1 ∷ 3 ∷ []) ++ rest

-- how the reading of that file ends, in document 01's numbers
abbrev pub read_paced : List ℕ → Numbered
read_paced rest = of_reading (read_file (paced_file rest))

abbrev pub refused_at7 : ℕ → Numbered
refused_at7 number = record { number = number; value = 7 }

pub record SwingFigures : Type 0 where
  -- straight time keeps document 01's rule
  pub straight_rule : (p t : ℕ) → spacing (Paced p) t ≡ 600000000 / (t * p)
  -- 480 pulses at 120.0
  pub straight : spacing (Paced 480) 1200 ≡ 1041
  pub swing_66 : spacing (Swung 480 66) 1200 ≡ 708
  pub swing_75 : spacing (Swung 480 75) 1200 ≡ 520
  -- the least spacing that a paced source has
  pub least : spacing (Swung 960 75) 3000 ≡ 104
  -- the field
  pub written : field_bytes (OfSource (Swung 480 66)) ≡ 3 ∷ 0 ∷ 3 ∷ 1 ∷ 224 ∷ 66 ∷ []
  pub taken : take_field (3 ∷ 0 ∷ 3 ∷ 1 ∷ 224 ∷ 66 ∷ []) 0 ≡ Whole (OfSource (Swung 480 66)) 6
  -- "51 to 75"
  pub scale_50 : read_paced (0 ∷ 3 ∷ 0 ∷ 24 ∷ 50 ∷ []) ≡ refused_at7 6
  pub scale_51 : read_paced (0 ∷ 3 ∷ 0 ∷ 24 ∷ 51 ∷ []) ≡ accepted 0
  pub scale_75 : read_paced (0 ∷ 3 ∷ 0 ∷ 24 ∷ 75 ∷ []) ≡ accepted 0
  pub scale_76 : read_paced (0 ∷ 3 ∷ 0 ∷ 24 ∷ 76 ∷ []) ≡ refused_at7 6
  -- of tag 3 the lengths 2 and 3 are right, any other is 3, told before a body that passes the end
  pub length-1 : read_paced (0 ∷ 1 ∷ 24 ∷ []) ≡ refused_at7 3
  pub length-2 : read_paced (0 ∷ 2 ∷ 0 ∷ 24 ∷ []) ≡ accepted 0
  pub length-4 : read_paced (0 ∷ 4 ∷ 0 ∷ 24 ∷ 66 ∷ 66 ∷ []) ≡ refused_at7 3
  pub length-4_cut : read_paced (0 ∷ 4 ∷ 0 ∷ 24 ∷ []) ≡ refused_at7 3
  pub length-3_cut : read_paced (0 ∷ 3 ∷ 0 ∷ 24 ∷ []) ≡ refused_at7 1
  -- link 3 of Box at 121.2 and 121.3
  pub box_held : verdict_at Preemptive swung_box 1212 2 ≡ Held 700 701
  pub box_doubtful : verdict_at Preemptive swung_box 1213 2 ≡ Doubt 700
