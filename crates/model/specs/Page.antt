-- What the printed page alone assures: its lines, the words of the two lines that a dealer reads, and the promise that rests on them.
use Rattle.std.specs.Prelude.{ℕ, suc, ◌-◌, ◌≤◌, ◌<◌, true, false, List, [], ◌∷◌, ◌++◌, ◌≡◌, ◌↔◌, length, get_or, take, eqb, Ok}
use Rattle.model.specs.declared.Description.{Description}
use Rattle.model.specs.declared.Policy.{Policy}
use Rattle.model.specs.declared.Policy.TheVariants.{Preemptive, HoldOn}
use Rattle.model.specs.declared.Machine.{Machine}
use Rattle.model.specs.declared.Ticked.{Ticked}
use Rattle.model.specs.Refusals.{Done, Filled}
use Rattle.model.specs.declared.Verdict.TheVariants.{Held}
use Rattle.model.specs.Graph.{link_at}
use Rattle.model.specs.File.{read_file}
use Rattle.model.specs.Delays.{spacing_of}
use Rattle.model.specs.Verdicts.{verdict_at, quoted_file}
use Rattle.model.specs.History.{Call, history, fires, tick_at, wait_of}
use Rattle.model.specs.Promise.{StartMeets, Calls, UpTo, Assured}
use Rattle.model.specs.Report.{decimal, tempo_text, w_tempo, w_link, w_held, w_of, w_hold, report_of, ReportMeets}

-- a text cut into lines, "each line ends in one line feed": what stands before each, and a rest if there is one
abbrev pub longer : ℕ → List (List ℕ) → List (List ℕ)
longer c [] = (c ∷ []) ∷ []
longer c (line ∷ lines) = (c ∷ line) ∷ lines

unfoldable pub lines_of : List ℕ → List (List ℕ)
lines_of [] = []
lines_of (c ∷ text) = elim (eqb c 10) [ true ↦ [] ∷ lines_of text | false ↦ longer c (lines_of text) ]

-- line k of a page, the first being 0
abbrev pub line_at : List ℕ → ℕ → List ℕ
line_at page k = get_or (lines_of page) k []

-- the model that a page tells: hold-on exactly if its first line is `hold`
abbrev pub TellsModel : Policy → List ℕ → Type 0
TellsModel p page = (line_at page 0 ≡ w_hold) ↔ (p ≡ HoldOn)

-- the line that has the tempo: the first, or the one after `hold`
abbrev pub tempo_place : Policy → ℕ
tempo_place Preemptive = 0
tempo_place HoldOn = 1

-- that line of a page has these words; one of its lines has them
abbrev pub TempoLine : Policy → List ℕ → List ℕ → Type 0
TempoLine p page words = line_at page (tempo_place p) ≡ words

abbrev pub HasLine : List ℕ → List ℕ → Type 0
HasLine page words = (k : ℕ) × (k < length (lines_of page)) × (line_at page k ≡ words)

-- `tempo 178.3`
unfoldable pub tempo_words : ℕ → List ℕ
tempo_words q = w_tempo ++ tempo_text q

-- `link 3 33>2 held 700 of 701`
unfoldable pub held_words : ℕ → ℕ → ℕ → ℕ → ℕ → List ℕ
held_words l i j D M =
    w_link ++ (decimal l ++ (32 ∷ decimal i ++ (62 ∷ decimal j ++ (w_held ++ (decimal D ++ (w_of ++ decimal M))))))

-- what a line `link l i>j held D of M` says of a description whose quote is q: the link that it names, and how long events on it wait
pub record HeldLine (p : Policy) (d : Description) (q l i j D M : ℕ) : Type 0 where
  -- "its place among the file's links, counted from 1, its ends"
  pub first : 1 ≤ l
  pub last : l ≤ d.link_count
  pub from : (link_at d (l - 1)).from ≡ i
  pub to : (link_at d (l - 1)).to ≡ j
  pub critical : (link_at d (l - 1)).critical ≡ 1
  pub source : 33 ≤ i
  -- "the verdict, and for a source the delay and spacing at the quoted tempo"
  pub verdict : verdict_at p d q (l - 1) ≡ Held D M
  pub spacing : spacing_of d q i ≡ M
  pub below : D < M
  -- in every list of calls from the start, however the knob moves up to the quote, every event on the link waits at most D ticks
  pub waits : (x : ℕ) (cs : List Call) → UpTo q (history p d cs)
      → x < length (history p d cs) → fires (tick_at (history p d cs) x) i ≡ true
      → wait_of (history p d cs) j x ≤ D

-- what a page assures that has the tempo q
pub record FromPage (p : Policy) (file page : List ℕ) (q : ℕ) : Type 0 where
  pub accepted : (read_file file).outcome ≡ Done
  pub quoted : quoted_file p file ≡ Ok q
  pub low : 200 ≤ q
  pub high : q ≤ 3000
  -- the promise, however the knob moves up to q: of the record that the start call answers and every list of calls on it
  pub assured : (s : Ticked) (cs : List Call) (rs : List Ticked) (m : Machine)
      → StartMeets (read_file file).description s → Calls p (read_file file).description s.machine cs rs m
      → UpTo q (history p (read_file file).description cs) → Assured p (read_file file).description q cs rs m
  -- each line of a held source link is true
  pub held : (l i j D M : ℕ) → HasLine page (held_words l i j D M) → HeldLine p (read_file file).description q l i j D M
  -- and each critical link from a source has one
  pub told : (l : ℕ) → l < (read_file file).description.link_count → (link_at (read_file file).description l).critical ≡ 1
      → 33 ≤ (link_at (read_file file).description l).from
      → (D : ℕ) × (M : ℕ) × HasLine page (held_words (suc l) (link_at (read_file file).description l).from (link_at (read_file file).description l).to D M)

-- the report of any bytes, read as a page: whichever model it was made for, the page tells it
abbrev pub Paper : Type 0
Paper = (made p : Policy) (file : List ℕ) (q : ℕ) → ((i : ℕ) → get_or file i 0 < 256)
    → TellsModel p (report_of made file) → TempoLine p (report_of made file) (tempo_words q) → FromPage p file (report_of made file) q

-- the same of what a report call leaves at the front of a lent buffer
abbrev pub CallPaper : Type 0
CallPaper = (made p : Policy) (file buffer buffer' : List ℕ) (r : Filled) (n q : ℕ) → ((i : ℕ) → get_or file i 0 < 256)
    → ReportMeets made file buffer r buffer' → r ≡ Ok n
    → TellsModel p (take n buffer') → TempoLine p (take n buffer') (tempo_words q) → FromPage p file (take n buffer') q
