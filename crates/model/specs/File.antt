-- "The description file" as a whole: its bytes, its reading, acceptance, and the judging of a record.
use Rattle.std.specs.Prelude.{ℕ, zero, suc, ◌+◌, ◌-◌, ◌^◌, ◌<◌, Bool, cond, ◌||◌, List, ◌++◌, ◌≡◌, length, get_or, take, drop, replicate, eqb, ltb, Ok, Err}
use Rattle.model.specs.declared.Source.{Source}
use Rattle.model.specs.declared.Source.TheVariants.{Fixed, Paced, Swung}
use Rattle.model.specs.declared.Description.{Description}
use Rattle.model.specs.declared.Field.{Field}
use Rattle.model.specs.declared.Refusal.{Refusal}
use Rattle.model.specs.declared.Refusal.TheVariants.{CutShort, TooMany, NoTask, Loop, TooHeavy, ShortPage}
use Rattle.model.specs.Field.{Taken, Whole, Broken, End, Fine, Unfit, field_bytes, take_field, check_field, with_field, passed, no_progress, field_of, field_count}
use Rattle.model.specs.declared.Progress.{Progress}
use Rattle.model.specs.Refusals.{Outcome, Done, Refused, Filled, blank, no_link, no_source, on_done}
use Rattle.model.specs.declared.Reading.{Reading}
use Rattle.model.specs.declared.LoadSheet.{LoadSheet}
use Rattle.model.specs.Basics.{joined}
use Rattle.model.specs.Graph.{system, cyclic}
use Rattle.model.specs.Loads.{too_heavy, sheet, no_row}

-- the numbers of a record below its counts fit the widths that its type and the file have for them; of links and of a swing the bytes are given
abbrev pub SourceFits : Source → Type 0
SourceFits (Fixed m) = m < 2 ^ 32
SourceFits (Paced p) = p < 2 ^ 16
SourceFits (Swung p swing) = p < 2 ^ 16

pub record Widths (d : Description) : Type 0 where
  pub run_width : (k : ℕ) → k < d.task_count → get_or d.runs k 0 < 2 ^ 32
  pub source_width : (k : ℕ) → k < d.source_count → SourceFits (get_or d.sources k no_source).source

-- the bytes of a description: "fields follow each other without gaps"
unfoldable pub file_of : Description → List ℕ
file_of d = joined (field_count d) (λ k. field_bytes (field_of d k))

-- one step of a reading: "a field that does not come out whole ends the reading"; the refusal's place is the field's tag
abbrev pub refused_reading : Refusal → ℕ → Reading
refused_reading r place = record { outcome = Refused r place; description = blank }

abbrev pub on_taken : Taken → (Field → ℕ → Reading) → (Refusal → Reading) → Reading → Reading
on_taken (Whole f next) go stop done = go f next
on_taken (Broken r) go stop done = stop r
on_taken End go stop done = done

-- the fields from `at` on, after the progress and the description that those before it gave; the first number bounds how many
unfoldable pub parse_from : ℕ → List ℕ → ℕ → Progress → Description → Reading
parse_from zero s at p d = refused_reading CutShort at
parse_from (suc n) s at p d =
    on_taken (take_field s at)
    (λ f next. elim (check_field p f) [
      | Ok x ↦ parse_from n s next (passed p f) (with_field d f)
      | Err r ↦ refused_reading r at
    ])
    (λ r. refused_reading r at)
    (record { outcome = Done; description = d })

-- all fields: "taken field by field from a reading place in the caller's bytes"
unfoldable pub parse_file : List ℕ → Reading
parse_file s = parse_from (suc (length s)) s 0 no_progress blank

-- the same from a place of the bytes on; the place of a refused field is counted from the start of the bytes
abbrev pub parse_at : List ℕ → ℕ → Reading
parse_at s at = parse_from (suc (length s - at)) s at no_progress blank

-- "after the last field come 8, 9, 10"
unfoldable pub last_checks : Description → Outcome
last_checks d =
    cond (eqb d.task_count 0) (Refused NoTask 0)
    (cond (cyclic (system d)) (Refused Loop 0)
    (cond (too_heavy (system d)) (Refused TooHeavy 0)
    Done))

abbrev pub finished : Description → Reading
finished d = on_done (last_checks d) (record { outcome = Done; description = d }) refused_reading

unfoldable pub read_file : List ℕ → Reading
read_file s = let r = parse_file s in on_done r.outcome (finished r.description) refused_reading

-- the reading of the file that begins at a place of the bytes
unfoldable pub read_from : List ℕ → ℕ → Reading
read_from s at = let r = parse_at s at in on_done r.outcome (finished r.description) refused_reading

abbrev pub Accepted : List ℕ → Type 0
Accepted s = (read_file s).outcome ≡ Done

-- "judged as its file would be, counts above the limits giving 5 first at place 0"
unfoldable pub overfull : Description → Bool
overfull d = ltb 32 d.task_count || (ltb 16 d.source_count || ltb 256 d.link_count)

unfoldable pub judge : Description → Outcome
judge d = cond (overfull d) (Refused TooMany 0) (read_file (file_of d)).outcome

-- "entries past a count are not looked at, and the reader leaves 0 there"
unfoldable pub trimmed : Description → Description
trimmed d = record {
  task_count = d.task_count;
  runs = take d.task_count d.runs ++ replicate (32 - d.task_count) 0;
  source_count = d.source_count;
  sources = take d.source_count d.sources ++ replicate (16 - d.source_count) no_source;
  link_count = d.link_count;
  links = take d.link_count d.links ++ replicate (256 - d.link_count) no_link;
}

-- two records that agree below their counts
pub record SameTo (d e : Description) : Type 0 where
  pub tasks : d.task_count ≡ e.task_count
  pub sources : d.source_count ≡ e.source_count
  pub links : d.link_count ≡ e.link_count
  pub run : (k : ℕ) → k < d.task_count → get_or d.runs k 0 ≡ get_or e.runs k 0
  pub source : (k : ℕ) → k < d.source_count → get_or d.sources k no_source ≡ get_or e.sources k no_source
  pub link : (l : ℕ) → l < d.link_count → get_or d.links l no_link ≡ get_or e.links l no_link

-- "short page: a lent buffer is shorter than the file or report it is to take"; "only the bytes of that file or report are filled"
unfoldable pub fill_with : List ℕ → List ℕ → Filled
fill_with text buffer = cond (ltb (length buffer) (length text)) (Refused ShortPage 0) (Ok (length text))

unfoldable pub filled_by : List ℕ → List ℕ → List ℕ
filled_by text buffer = cond (ltb (length buffer) (length text)) buffer (text ++ drop (length text) buffer)

-- writing: the answer, and the buffer as it is left; "a refusal changes no byte of a lent buffer"
unfoldable pub written : Description → List ℕ → Filled
written d buffer = on_done (judge d) (fill_with (file_of d) buffer) Refused

unfoldable pub page_after : Description → List ℕ → List ℕ
page_after d buffer = on_done (judge d) (filled_by (file_of d) buffer) (λ r place. buffer)

-- the load sheet of a record: 1 to 10 as judged
unfoldable pub load_sheet : Description → LoadSheet
load_sheet d = on_done (judge d)
    (record { outcome = Done; rows = sheet (system d) })
    (λ r place. record { outcome = Refused r place; rows = replicate 48 no_row })
