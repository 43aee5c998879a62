-- "The report": its text, line by line, in bytes.
use Rattle.std.specs.Prelude.{ℕ, zero, suc, ◌+◌, ◌/◌, ◌%◌, true, false, List, [], ◌∷◌, ◌++◌, ◌≡◌, take, ltb, Ok, Err}
use Rattle.model.specs.declared.Link.{Link}
use Rattle.model.specs.declared.Description.{Description}
use Rattle.model.specs.declared.Policy.{Policy}
use Rattle.model.specs.declared.Policy.TheVariants.{Preemptive, HoldOn}
use Rattle.model.specs.declared.Refusal.{Refusal}
use Rattle.model.specs.declared.Verdict.{Verdict}
use Rattle.model.specs.declared.Verdict.TheVariants.{Free, HeldOrder, DoubtOrder, Held, Doubt}
use Rattle.model.specs.Refusals.{Quote, Refused, Filled, refusal, on_done}
use Rattle.model.specs.Basics.{joined}
use Rattle.model.specs.Graph.{link_at}
use Rattle.model.specs.File.{read_file, fill_with, filled_by}
use Rattle.model.specs.Verdicts.{verdict_at, tempos, largest_below, all_held}

-- a number in decimal digits; the first number bounds how many
unfoldable pub digits : ℕ → ℕ → List ℕ
digits zero x = []
digits (suc n) x = elim (ltb x 10) [ true ↦ (48 + x) ∷ [] | false ↦ digits n (x / 10) ++ ((48 + x % 10) ∷ []) ]

unfoldable pub decimal : ℕ → List ℕ
decimal x = digits 20 x

-- the words of the report, a byte for each character
-- "tempo "
abbrev pub w_tempo : List ℕ
w_tempo = 116 ∷ 101 ∷ 109 ∷ 112 ∷ 111 ∷ 32 ∷ []

-- "none"
abbrev pub w_none : List ℕ
w_none = 110 ∷ 111 ∷ 110 ∷ 101 ∷ []

-- "refused "
abbrev pub w_refused : List ℕ
w_refused = 114 ∷ 101 ∷ 102 ∷ 117 ∷ 115 ∷ 101 ∷ 100 ∷ 32 ∷ []

-- " at "
abbrev pub w_at : List ℕ
w_at = 32 ∷ 97 ∷ 116 ∷ 32 ∷ []

-- "link "
abbrev pub w_link : List ℕ
w_link = 108 ∷ 105 ∷ 110 ∷ 107 ∷ 32 ∷ []

-- " free"
abbrev pub w_free : List ℕ
w_free = 32 ∷ 102 ∷ 114 ∷ 101 ∷ 101 ∷ []

-- " held order"
abbrev pub w_held_order : List ℕ
w_held_order = 32 ∷ 104 ∷ 101 ∷ 108 ∷ 100 ∷ 32 ∷ 111 ∷ 114 ∷ 100 ∷ 101 ∷ 114 ∷ []

-- " doubt order"
abbrev pub w_doubt_order : List ℕ
w_doubt_order = 32 ∷ 100 ∷ 111 ∷ 117 ∷ 98 ∷ 116 ∷ 32 ∷ 111 ∷ 114 ∷ 100 ∷ 101 ∷ 114 ∷ []

-- " held "
abbrev pub w_held : List ℕ
w_held = 32 ∷ 104 ∷ 101 ∷ 108 ∷ 100 ∷ 32 ∷ []

-- " doubt"
abbrev pub w_doubt : List ℕ
w_doubt = 32 ∷ 100 ∷ 111 ∷ 117 ∷ 98 ∷ 116 ∷ []

-- " of "
abbrev pub w_of : List ℕ
w_of = 32 ∷ 111 ∷ 102 ∷ 32 ∷ []

-- "hold"
abbrev pub w_hold : List ℕ
w_hold = 104 ∷ 111 ∷ 108 ∷ 100 ∷ []

-- "each line ends in one line feed"
abbrev pub line_of : List ℕ → List ℕ
line_of text = text ++ (10 ∷ [])

-- `tempo 178.3`: tenths of a beat per minute
unfoldable pub tempo_text : ℕ → List ℕ
tempo_text t = decimal (t / 10) ++ (46 ∷ (48 + t % 10) ∷ [])

unfoldable pub tempo_line : Quote → List ℕ
tempo_line (Ok t) = line_of (w_tempo ++ tempo_text t)
tempo_line (Err x) = line_of (w_tempo ++ w_none)

-- `free`, `held order`, `doubt order`, `held 700 of 701`, `doubt of 700`
unfoldable pub verdict_text : Verdict → List ℕ
verdict_text Free = w_free
verdict_text HeldOrder = w_held_order
verdict_text DoubtOrder = w_doubt_order
verdict_text (Held d m) = w_held ++ (decimal d ++ (w_of ++ decimal m))
verdict_text (Doubt m) = w_doubt ++ (w_of ++ decimal m)

-- "its place among the file's links, counted from 1, its ends, the verdict"
unfoldable pub link_line : ℕ → Link → Verdict → List ℕ
link_line l e v = line_of (w_link ++ (decimal (suc l) ++ (32 ∷ decimal e.from ++ (62 ∷ decimal e.to ++ verdict_text v))))

unfoldable pub link_lines : Policy → Description → ℕ → List ℕ
link_lines p d t = joined d.link_count (λ l. link_line l (link_at d l) (verdict_at p d t l))

-- `refused 4 at 26`: number and place
unfoldable pub refused_line : Refusal → ℕ → List ℕ
refused_line r place = let n = refusal r place in line_of (w_refused ++ (decimal n.number ++ (w_at ++ decimal n.value)))

-- "with refusal 12 the first line is `tempo none` and verdicts are at 20.0"
abbrev pub shown_tempo : Quote → ℕ
shown_tempo (Ok t) = t
shown_tempo (Err x) = 200

unfoldable pub report_for : Policy → Description → Quote → List ℕ
report_for p d q = tempo_line q ++ link_lines p d (shown_tempo q)

-- the report of a file in 01's form: "other refusals print only `refused 4 at 26`"
unfoldable pub plain_report : Policy → List ℕ → List ℕ
plain_report p file =
    let r = read_file file in
    on_done r.outcome (report_for p r.description (largest_below (all_held p r.description) tempos)) refused_line

-- "a line `hold` before its first, a refused line included"
abbrev pub policy_line : Policy → List ℕ
policy_line Preemptive = []
policy_line HoldOn = line_of w_hold

unfoldable pub report_of : Policy → List ℕ → List ℕ
report_of p file = policy_line p ++ plain_report p file

-- the report call: "the call that fills it is itself refused only by 13"
unfoldable pub reported : Policy → List ℕ → List ℕ → Filled
reported p file buffer = fill_with (report_of p file) buffer

unfoldable pub page_reported : Policy → List ℕ → List ℕ → List ℕ
page_reported p file buffer = filled_by (report_of p file) buffer

-- its answer, and the buffer after it
abbrev pub ReportMeets : Policy → List ℕ → List ℕ → Filled → List ℕ → Type 0
ReportMeets p file buffer r buffer' = (r ≡ reported p file buffer) × (buffer' ≡ page_reported p file buffer)

-- what the program of a model prints: it "reads the first 4,096 bytes of standard input and ignores the rest"
unfoldable pub printed : Policy → List ℕ → List ℕ
printed p input = report_of p (take 4096 input)
