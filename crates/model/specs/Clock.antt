-- "The clock table" (C-16): "the MIDI clock source has 24 pulses in straight time", and "players want its spacings as a list they can look up".
use Rattle.std.specs.Prelude.{ℕ, ◌+◌, List, ◌∷◌, ◌++◌}
use Rattle.model.specs.Basics.{joined}
use Rattle.model.specs.Delays.{paced_spacing}
use Rattle.model.specs.Verdicts.{tempos}
use Rattle.model.specs.Report.{decimal, line_of, tempo_text}

-- its spacing at tempo t, by the rule of every paced source
abbrev pub clock_spacing : ℕ → ℕ
clock_spacing t = paced_spacing 50 24 t

-- `120.0 20833`
unfoldable pub clock_line : ℕ → List ℕ
clock_line t = line_of (tempo_text t ++ (32 ∷ decimal (clock_spacing t)))

-- the list: a line for each tempo, "from 125,000 at 20.0 to 8,333 at 300.0"
unfoldable pub clock_list : List ℕ
clock_list = joined tempos (λ k. clock_line (200 + k))

-- its length in bytes
abbrev pub clock_length : ℕ
clock_length = 32363
