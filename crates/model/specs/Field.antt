-- "The description file": one field, its bytes, its reading, and whether it may stand where it does.
use Rattle.std.specs.Prelude.{ℕ, Option, Some, None, Result, Ok, Err, ◌+◌, ◌-◌, Bool, true, cond, ◌&&◌, ◌||◌, not, List, [], ◌∷◌, ◌++◌, get_or, set, leb, ltb, eqb}
use Rattle.model.specs.declared.Source.{Source}
use Rattle.model.specs.declared.Source.TheVariants.{Fixed, Paced, Swung}
use Rattle.model.specs.declared.Description.{Description}
use Rattle.model.specs.declared.Field.{Field}
use Rattle.model.specs.declared.Field.TheVariants.{OfTask, OfSource, OfLink}
use Rattle.model.specs.declared.Refusal.TheVariants.{OutOfTurn, TooMany, OffScale, NoSuchEnd}
use Rattle.model.specs.Header.{HeaderAt, Body, Faulty, Ended, bytes_of, number_in, header_at}
use Rattle.model.specs.declared.Refusal.{Refusal}
use Rattle.model.specs.declared.Rejection.{Rejection}
use Rattle.model.specs.declared.Step.{Step}
use Rattle.model.specs.declared.Progress.{Progress}
use Rattle.model.specs.Refusals.{Numbered, Refused, accepted, refusal, no_link, no_source}

-- the table of fields: tag, length of the body, body. "A paced source may have a length of 3, the third byte being the swing in percent;
-- straight time keeps length 2" (C-11)
abbrev pub tag_of : Field → ℕ
tag_of (OfTask e) = 1
tag_of (OfSource (Fixed m)) = 2
tag_of (OfSource (Paced p)) = 3
tag_of (OfSource (Swung p swing)) = 3
tag_of (OfLink l) = 4

abbrev pub body_length : Field → ℕ
body_length (OfTask e) = 4
body_length (OfSource (Fixed m)) = 4
body_length (OfSource (Paced p)) = 2
body_length (OfSource (Swung p swing)) = 3
body_length (OfLink l) = 3

unfoldable pub body_of : Field → List ℕ
body_of (OfTask e) = bytes_of 4 e
body_of (OfSource (Fixed m)) = bytes_of 4 m
body_of (OfSource (Paced p)) = bytes_of 2 p
body_of (OfSource (Swung p swing)) = bytes_of 2 p ++ (swing ∷ [])
body_of (OfLink l) = l.from ∷ l.to ∷ l.critical ∷ []

-- "one byte of tag, two bytes of length, the body"
unfoldable pub field_bytes : Field → List ℕ
field_bytes f = tag_of f ∷ bytes_of 2 (body_length f) ++ body_of f

-- the lengths of the tags 1 to 4, as a table of tags: of a paced source 2 or 3
abbrev pub field_tags : List ℕ
field_tags = 0 ∷ 0 ∷ 4 ∷ 4 ∷ 4 ∷ 4 ∷ 2 ∷ 3 ∷ 3 ∷ 3 ∷ []

-- a paced source whose body begins at b and has n bytes: straight in two, and in three with a swing
abbrev pub paced_in : List ℕ → ℕ → ℕ → Source
paced_in s b n = cond (eqb n 2) (Paced (number_in s b 2)) (Swung (number_in s b 2) (get_or s (b + 2) 0))

-- the field of a tag whose body begins at b and has n bytes
unfoldable pub field_in : List ℕ → ℕ → ℕ → ℕ → Field
field_in s tag b n =
    cond (eqb tag 1) (OfTask (number_in s b 4))
    (cond (eqb tag 2) (OfSource (Fixed (number_in s b 4)))
    (cond (eqb tag 3) (OfSource (paced_in s b n))
    (OfLink (record { from = get_or s b 0; to = get_or s (b + 1) 0; critical = get_or s (b + 2) 0 }))))

-- what stands at a reading place: a whole field and where the next one begins, a refusal, or the end of the file
pub data Taken : Type 0 where
  Whole : Field → ℕ → Taken
  Broken : Refusal → Taken
  End : Taken

-- what a reader finds at its place: a whole field, a refusal with the offset of the field's tag, or nothing at the end of the file
abbrev pub Found : Type 0
Found = Result (Option Field) Rejection

pattern abbrev pub Read : Field → Found
Read f = Ok (Some f)

pattern abbrev pub Nothing : Found
Nothing = Ok None

-- whether a whole field may stand where it does
abbrev pub Check : Type 0
Check = Result (Unit {0}) Refusal

pattern abbrev pub Fine : Check
Fine = Ok tt

pattern abbrev pub Unfit : Refusal → Check
Unfit r = Err r

-- the field at a reading place: its header by that table, then its body
abbrev pub taken_by : List ℕ → HeaderAt → Taken
taken_by s (Ok (Some h)) = Whole (field_in s h.tag h.at h.size) (h.at + h.size)
taken_by s (Err r) = Broken r
taken_by s (Ok None) = End

unfoldable pub take_field : List ℕ → ℕ → Taken
take_field s at = taken_by s (header_at field_tags s at)

-- one step from a reading place: past a whole field; a refused one, with "the offset of the field's tag", and the end leave the place where it is
abbrev pub step_of : Taken → ℕ → Step
step_of (Whole f next) at = record { found = Read f; at = next }
step_of (Broken r) at = record { found = Refused r at; at = at }
step_of End at = record { found = Nothing; at = at }

abbrev pub step_at : List ℕ → ℕ → Step
step_at s at = step_of (take_field s at) at

-- what a reader finds, in document 01's numbers: the tag of a field, or a refusal with its place; at the end 0, which is no tag
abbrev pub of_found : Found → Numbered
of_found (Ok (Some f)) = accepted (tag_of f)
of_found (Err x) = refusal x.why x.place
of_found (Ok None) = accepted 0

-- "Tasks come first, then sources of both kinds, then links"; "links rise strictly by from, then by to"
abbrev pub in_turn : Progress → Field → Bool
in_turn p (OfTask e) = eqb p.sources 0 && eqb p.links 0
in_turn p (OfSource s) = eqb p.links 0
in_turn p (OfLink l) = eqb p.links 0 || (ltb p.from l.from || (eqb p.from l.from && ltb p.to l.to))

-- "1 to 32 tasks, 0 to 16 sources, 0 to 256 links"
abbrev pub has_room : Progress → Field → Bool
has_room p (OfTask e) = ltb p.tasks 32
has_room p (OfSource s) = ltb p.sources 16
has_room p (OfLink l) = ltb p.links 256

-- "longest run 1 to 10,000,000; least spacing 1 to 1,000,000,000; pulses 1 to 960; critical 0 or 1"; "the swing in percent, 51 to 75",
-- "a third byte of 50 is off scale, so a description still has one file only" (C-11)
abbrev pub on_scale : Field → Bool
on_scale (OfTask e) = leb 1 e && leb e 10000000
on_scale (OfSource (Fixed m)) = leb 1 m && leb m 1000000000
on_scale (OfSource (Paced p)) = leb 1 p && leb p 960
on_scale (OfSource (Swung p swing)) = (leb 1 p && leb p 960) && (leb 51 swing && leb swing 75)
on_scale (OfLink l) = leb l.critical 1

-- "the first task is number 1", "the first source is number 33, whatever the count of tasks"; a node is a task or a source
abbrev pub is_task : ℕ → ℕ → Bool
is_task tasks i = leb 1 i && leb i tasks

abbrev pub is_source : ℕ → ℕ → Bool
is_source sources i = leb 33 i && leb i (32 + sources)

-- no such end: "from" names no node of the file, or "to" no task
abbrev pub has_ends : Progress → Field → Bool
has_ends p (OfTask e) = true
has_ends p (OfSource s) = true
has_ends p (OfLink l) = (is_task p.tasks l.from || is_source p.sources l.from) && is_task p.tasks l.to

-- "then 4, 5, 6, 7"
unfoldable pub check_field : Progress → Field → Check
check_field p f =
    cond (not (in_turn p f)) (Unfit OutOfTurn)
    (cond (not (has_room p f)) (Unfit TooMany)
    (cond (not (on_scale f)) (Unfit OffScale)
    (cond (not (has_ends p f)) (Unfit NoSuchEnd)
    Fine)))

-- what is known after one field more
abbrev pub no_progress : Progress
no_progress = record { tasks = 0; sources = 0; links = 0; from = 0; to = 0 }

abbrev pub passed : Progress → Field → Progress
passed p (OfTask e) = record { tasks = p.tasks + 1; sources = p.sources; links = p.links; from = p.from; to = p.to }
passed p (OfSource s) = record { tasks = p.tasks; sources = p.sources + 1; links = p.links; from = p.from; to = p.to }
passed p (OfLink l) = record { tasks = p.tasks; sources = p.sources; links = p.links + 1; from = l.from; to = l.to }

-- the description with one field more
abbrev pub with_field : Description → Field → Description
with_field d (OfTask e) = record {
  task_count = d.task_count + 1;
  runs = set d.runs d.task_count e;
  source_count = d.source_count;
  sources = d.sources;
  link_count = d.link_count;
  links = d.links;
}
with_field d (OfSource s) = record {
  task_count = d.task_count;
  runs = d.runs;
  source_count = d.source_count + 1;
  sources = set d.sources d.source_count (record { source = s });
  link_count = d.link_count;
  links = d.links;
}
with_field d (OfLink l) = record {
  task_count = d.task_count;
  runs = d.runs;
  source_count = d.source_count;
  sources = d.sources;
  link_count = d.link_count + 1;
  links = set d.links d.link_count l;
}

-- the fields of a description: tasks, then sources, then links
abbrev pub field_count : Description → ℕ
field_count d = d.task_count + d.source_count + d.link_count

unfoldable pub field_of : Description → ℕ → Field
field_of d k =
    cond (ltb k d.task_count) (OfTask (get_or d.runs k 0))
    (cond (ltb k (d.task_count + d.source_count)) (OfSource (get_or d.sources (k - d.task_count) no_source).source)
    (OfLink (get_or d.links (k - (d.task_count + d.source_count)) no_link)))
