-- How long a description's file can be, and that a reading looks at no byte past the first 4,096. Assumes nothing.
use Rattle.std.specs.Prelude.{Ok, Err, Some}
use Prim.Native.Nat.{ℕ, zero, suc, ◌+◌, ◌-◌, ◌*◌, ◌≤◌, ◌<◌}
use mathlib.Core.Path.{◌≡◌, refl, sym, ap, ◌∙◌}
use mathlib.Core.Bool.{Bool, true, false, cond, not}
use mathlib.Core.List.{List}
use native.Mathlib.Omega.{arith}
use native.Mathlib.Nat.{add-zero, add-suc}
use lib.Dec.{ltb, eqb}
use lib.ListN.{length, get_or, take}
use lib.Seq.{get_or-take, length-take-le, take_all}
use borrow.Author.Tests.{lt-leb, le-ltb, ltb-true}
use Rattle.model.specs.declared.Source.{Source}
use Rattle.model.specs.declared.Link.{Link}
use Rattle.model.specs.declared.Description.{Description}
use Rattle.model.specs.declared.Field.{Field}
use Rattle.model.specs.declared.Field.TheVariants.{OfTask, OfSource, OfLink}
use Rattle.model.specs.declared.Progress.{Progress}
use Rattle.model.specs.Refusals.{Outcome, Done, Refused, blank, no_link, no_source, on_done}
use Rattle.model.specs.declared.Refusal.{Refusal}
use Rattle.model.specs.declared.Refusal.TheVariants.{CutShort, StrangeTag, WrongLength, NoTask, Loop, TooHeavy}
use Rattle.model.specs.Header.{HeaderAt, Body, Faulty, Ended, number_in, is_tag, length_fits, header_at}
use Rattle.model.specs.Field.{Taken, Whole, Broken, End, Check, Fine, Unfit, field_bytes, field_tags, field_in, taken_by, take_field, check_field, with_field, passed, no_progress, field_of}
use Rattle.model.specs.Basics.{joined}
use Rattle.model.specs.Graph.{system, cyclic}
use Rattle.model.specs.Loads.{too_heavy}
use Rattle.model.specs.File.{file_of, parse_from, parse_file, last_checks, finished, refused_reading, read_file}
use Rattle.lemmas.proofs.Tests.{Cmp, less, same, more, cmp}
use Rattle.theory.proofs.NumberBytes.{number_same}
use Rattle.theory.proofs.HeaderLaws.{header_headed}
use Rattle.theory.proofs.FieldLaws.{length-field, tag_range, body_most, take-took, by_form, took_length}
use Rattle.theory.proofs.RecordLaws.{offset, offset_more, field_task, field_source, field_link, parse_fine, parse_unfit, parse_broken, parse_end}
use Rattle.theory.proofs.JudgeLaws.{Few, fine_passes}

-- seven bytes for a task, at most seven for a source, six for a link
pub length-task : (e : ℕ) → length (field_bytes (OfTask e)) ≡ 7
length-task e = length-field (OfTask e)

pub length-source : (s : Source) → length (field_bytes (OfSource s)) ≤ 7
length-source s = omega (arith, length-field (OfSource s), body_most (OfSource s))

pub length-link : (l : Link) → length (field_bytes (OfLink l)) ≡ 6
length-link l = length-field (OfLink l)

pub offset_none : (d : Description) → offset d 0 ≡ 0
unfolding joined
offset_none d = refl

pub offset_most : (d : Description) (k : ℕ) → offset d k ≤ 7 * k
offset_most d zero = omega (arith, offset_none d)
offset_most d (suc k) =
    omega (arith, offset_more d k, offset_most d k, length-field (field_of d k), body_most (field_of d k))

pub offset_tasks : (d : Description) (k : ℕ) → k ≤ d.task_count → offset d k ≡ 7 * k
offset_tasks d zero h = offset_none d
offset_tasks d (suc k) h = rw (offset_more d k, field_task d k h, length-task (get_or d.runs k 0), offset_tasks d k (omega arith)) (omega arith)

pub offset_sources : (d : Description) (i : ℕ) → i ≤ d.source_count → offset d (d.task_count + i) ≤ 7 * (d.task_count + i)
offset_sources d zero h = rw add-zero (omega (arith, offset_tasks d d.task_count (omega arith)))
offset_sources d (suc i) h =
    rw (add-suc d.task_count i, offset_more d (d.task_count + i), field_source d i h)
    (omega (arith, length-source (get_or d.sources i no_source).source, offset_sources d i (omega arith)))

pub offset_links : (d : Description) (l : ℕ) → offset d (d.task_count + d.source_count + l) ≤ 7 * (d.task_count + d.source_count) + 6 * l
offset_links d zero = rw (add-zero (d.task_count + d.source_count)) (omega (arith, offset_sources d d.source_count (omega arith)))
offset_links d (suc l) =
    rw (add-suc (d.task_count + d.source_count) l, offset_more d (d.task_count + d.source_count + l), field_link d l)
    (omega (arith, length-link (get_or d.links l no_link), offset_links d l))

-- the longest file has 1,872 bytes
pub file_length : (d : Description) → Few d → length (file_of d) ≤ 1872
unfolding file_of
file_length d w = omega (arith, offset_links d d.link_count, w.tasks, w.sources, w.links)

-- where seven bytes or more are left, a field is not cut short
length_most : (t n : ℕ) → is_tag field_tags t ≡ true → length_fits field_tags t n ≡ true → n ≤ 4
length_most t n k e =
    by_form (λ t n. n ≤ 4) t n (tag_range t k).0 (tag_range t k).1 e (omega arith) (omega arith) (omega arith) (omega arith) (omega arith)

uncut : (left t n : ℕ) (w : HeaderAt) → 4 ≤ left → cond (not (is_tag field_tags t)) (Faulty StrangeTag) (cond (not (length_fits field_tags t n)) (Faulty WrongLength) (cond (ltb left n) (Faulty CutShort) w)) ≡ cond (not (is_tag field_tags t)) (Faulty StrangeTag) (cond (not (length_fits field_tags t n)) (Faulty WrongLength) w)
uncut left t n w h = go (is_tag field_tags t) (length_fits field_tags t n) refl refl
  where
    go : (a b : Bool) → is_tag field_tags t ≡ a → length_fits field_tags t n ≡ b → cond (not a) (Faulty StrangeTag) (cond (not b) (Faulty WrongLength) (cond (ltb left n) (Faulty CutShort) w)) ≡ cond (not a) (Faulty StrangeTag) (cond (not b) (Faulty WrongLength) w)
    go true true k e = rw (le-ltb left n (omega (arith, length_most t n k e)))
    go true false k e = refl
    go false b k e = refl

header_roomy : (s : List ℕ) (at : ℕ) → at + 7 ≤ length s → header_at field_tags s at ≡ cond (not (is_tag field_tags (get_or s at 0))) (Faulty StrangeTag) (cond (not (length_fits field_tags (get_or s at 0) (number_in s (at + 1) 2))) (Faulty WrongLength) (Body (get_or s at 0) (at + 3) (number_in s (at + 1) 2)))
unfolding header_at
header_roomy s at h =
    rw
    (lt-leb (length s) at (omega arith), le-ltb (length s - at) 3 (omega arith), uncut (length s - at - 3) (get_or s at 0) (number_in s (at + 1) 2) (Body (get_or s at 0) (at + 3) (number_in s (at + 1) 2)) (omega arith))

field_same : (s t : List ℕ) (b tag n : ℕ) → ((i : ℕ) → i < 4 → get_or s (b + i) 0 ≡ get_or t (b + i) 0) → field_in s tag b n ≡ field_in t tag b n
unfolding field_in
field_same s t b tag n h =
    let z : get_or s b 0 ≡ get_or t b 0 = rw add-zero at (h 0 (omega arith)) in
    rw
    (number_same s t b b 4 h, number_same s t b b 2 (λ i p. h i (omega arith)), z, h 1 (omega arith), h 2 (omega arith))

take_same : (s : List ℕ) (m at : ℕ) → at + 7 ≤ m → m ≤ length s → take_field (take m s) at ≡ take_field s at
unfolding take_field
take_same s m at h l = ap (taken_by (take m s)) header ∙ body (header_at field_tags s at) refl
  where
    shared : (i : ℕ) → i < m → get_or (take m s) i 0 ≡ get_or s i 0
    shared i p = get_or-take m s i 0 p

    header : header_at field_tags (take m s) at ≡ header_at field_tags s at
    header =
        rw
        (header_roomy (take m s) at (omega (arith, length-take-le m s l)), header_roomy s at (omega arith), shared at (omega arith), number_same (take m s) s (at + 1) (at + 1) 2 (λ i p. shared (at + 1 + i) (omega arith)))

    body : (k : HeaderAt) → header_at field_tags s at ≡ k → taken_by (take m s) k ≡ taken_by s k
    body (Ok (Some x)) q = ap (λ (f : Field). Whole f (x.at + x.size)) (field_same (take m s) s x.at x.tag x.size (λ i p. shared (x.at + i) (omega (arith, (header_headed field_tags s at x.tag x.at x.size q).begins))))
    body (Faulty r) q = refl
    body Ended q = refl

-- a place that the fields before it can have come to
record Near (at : ℕ) (p : Progress) : Type 0 where
  place : at ≤ 7 * (p.tasks + p.sources + p.links)
  tasks : p.tasks ≤ 32
  sources : p.sources ≤ 16
  links : p.links ≤ 256

next_most : (s : List ℕ) (at : ℕ) (f : Field) (next : ℕ) → take_field s at ≡ Whole f next → (at < next) × (next ≤ at + 7)
next_most s at f next e = omega (arith, took_length (take-took s at f next e), length-field f, body_most f)

near_more : (at : ℕ) (p : Progress) (f : Field) (next : ℕ) → next ≤ at + 7 → check_field p f ≡ Fine → Near at p → Near next (passed p f)
near_more at p (OfTask e) next b q y =
    let r = ltb-true p.tasks 32 (fine_passes p (OfTask e) q).room in
    record { place = omega (arith, y.place); tasks = omega arith; sources = y.sources; links = y.links }
near_more at p (OfSource s) next b q y =
    let r = ltb-true p.sources 16 (fine_passes p (OfSource s) q).room in
    record { place = omega (arith, y.place); tasks = y.tasks; sources = omega arith; links = y.links }
near_more at p (OfLink l) next b q y =
    let r = ltb-true p.links 256 (fine_passes p (OfLink l) q).room in
    record { place = omega (arith, y.place); tasks = y.tasks; sources = y.sources; links = omega arith }

-- a reading of more than 4,096 bytes ends before them, and so as the reading of the first 4,096 does
parse_same : (n m : ℕ) (s : List ℕ) (at : ℕ) (p : Progress) (d : Description) → 4096 ≤ length s → Near at p → length s < at + n → 4096 < at + m → parse_from m (take 4096 s) at p d ≡ parse_from n s at p d
parse_same zero m s at p d l y g h = absurd (omega (arith, y.place, y.tasks, y.sources, y.links))
parse_same (suc n) zero s at p d l y g h = absurd (omega (arith, y.place, y.tasks, y.sources, y.links))
parse_same (suc n) (suc m) s at p d l y g h = taken (take_field s at) refl (parse_same n m s)
  where
    short : {t : Taken} → take_field s at ≡ t → take_field (take 4096 s) at ≡ t
    short e = take_same s 4096 at (omega (arith, y.place, y.tasks, y.sources, y.links)) l ∙ e

    checked : (f : Field) (next : ℕ) → take_field s at ≡ Whole f next → (c : Check) → check_field p f ≡ c → ((a : ℕ) (q : Progress) (x : Description) → 4096 ≤ length s → Near a q → length s < a + n → 4096 < a + m → parse_from m (take 4096 s) a q x ≡ parse_from n s a q x) → parse_from (suc m) (take 4096 s) at p d ≡ parse_from (suc n) s at p d
    checked f next t Fine q ih =
        let b = next_most s at f next t in
        parse_fine m (take 4096 s) at p d f next (short t) q
        ∙ ih next (passed p f) (with_field d f) l (near_more at p f next b.1 q y) (omega arith) (omega arith)
        ∙ sym (parse_fine n s at p d f next t q)
    checked f next t (Unfit r) q ih =
        parse_unfit m (take 4096 s) at p d f next r (short t) q ∙ sym (parse_unfit n s at p d f next r t q)

    taken : (t : Taken) → take_field s at ≡ t → ((a : ℕ) (q : Progress) (x : Description) → 4096 ≤ length s → Near a q → length s < a + n → 4096 < a + m → parse_from m (take 4096 s) a q x ≡ parse_from n s a q x) → parse_from (suc m) (take 4096 s) at p d ≡ parse_from (suc n) s at p d
    taken (Whole f next) t ih = checked f next t (check_field p f) refl ih
    taken (Broken r) t ih = parse_broken m (take 4096 s) at p d r (short t) ∙ sym (parse_broken n s at p d r t)
    taken End t ih = parse_end m (take 4096 s) at p d (short t) ∙ sym (parse_end n s at p d t)

-- bytes past the first 4,096 alter no answer
pub parse_first : (s : List ℕ) → parse_file (take 4096 s) ≡ parse_file s
unfolding parse_file
parse_first s = go (cmp 4096 (length s))
  where
    long : 4096 ≤ length s → parse_from (suc (length (take 4096 s))) (take 4096 s) 0 no_progress blank ≡ parse_from (suc (length s)) s 0 no_progress blank
    long h =
        parse_same (suc (length s)) (suc (length (take 4096 s))) s 0 no_progress blank h
        (record { place = omega arith; tasks = omega arith; sources = omega arith; links = omega arith })
        (omega arith)
        (omega (arith, length-take-le 4096 s h))

    go : Cmp 4096 (length s) → parse_from (suc (length (take 4096 s))) (take 4096 s) 0 no_progress blank ≡ parse_from (suc (length s)) s 0 no_progress blank
    go (less h) = long (omega arith)
    go (same h) = long (omega arith)
    go (more h) = rw (take_all 4096 s (omega arith))

pub read_first : (s : List ℕ) → read_file (take 4096 s) ≡ read_file s
unfolding read_file
read_first s = rw (parse_first s)

-- the place of a refusal is within the longest file; 0 for none
abbrev pub place_in : Outcome → ℕ
place_in (Ok tt) = 0
place_in (Err x) = x.place

parse_place : (n : ℕ) (s : List ℕ) (at : ℕ) (p : Progress) (d : Description) → Near at p → place_in (parse_from n s at p d).outcome ≤ 2128
unfolding parse_from
parse_place zero s at p d y = omega (arith, y.place, y.tasks, y.sources, y.links)
parse_place (suc n) s at p d y = taken (take_field s at) refl (parse_place n s)
  where
    here : (r : Refusal) → place_in (refused_reading r at).outcome ≤ 2128
    here r = omega (arith, y.place, y.tasks, y.sources, y.links)

    checked : (f : Field) (next : ℕ) → take_field s at ≡ Whole f next → (c : Check) → check_field p f ≡ c → ((a : ℕ) (q : Progress) (x : Description) → Near a q → place_in (parse_from n s a q x).outcome ≤ 2128) → place_in (parse_from (suc n) s at p d).outcome ≤ 2128
    checked f next t (Ok tt) q ih = rw (parse_fine n s at p d f next t q) (ih next (passed p f) (with_field d f) (near_more at p f next (next_most s at f next t).1 q y))
    checked f next t (Unfit r) q ih = rw (parse_unfit n s at p d f next r t q) (here r)

    taken : (t : Taken) → take_field s at ≡ t → ((a : ℕ) (q : Progress) (x : Description) → Near a q → place_in (parse_from n s a q x).outcome ≤ 2128) → place_in (parse_from (suc n) s at p d).outcome ≤ 2128
    taken (Whole f next) t ih = checked f next t (check_field p f) refl ih
    taken (Broken r) t ih = rw (parse_broken n s at p d r t) (here r)
    taken End t ih = rw (parse_end n s at p d t) (omega arith)

last_place : (d : Description) → place_in (last_checks d) ≡ 0
unfolding last_checks
last_place d = go (eqb d.task_count 0) (cyclic (system d)) (too_heavy (system d))
  where
    go : (a b c : Bool) → place_in (cond a (Refused NoTask 0) (cond b (Refused Loop 0) (cond c (Refused TooHeavy 0) Done))) ≡ 0
    go true b c = refl
    go false true c = refl
    go false false true = refl
    go false false false = refl

pub read_place : (s : List ℕ) → place_in (read_file s).outcome ≤ 2128
unfolding read_file parse_file
read_place s = go (parse_file s).outcome refl
  where
    last : (o : Outcome) (d : Description) → place_in o ≡ 0 → place_in (on_done o (record { outcome = Done; description = d }) refused_reading).outcome ≤ 2128
    last (Ok tt) d e = omega arith
    last (Err x) d e = omega arith

    go : (o : Outcome) → (parse_file s).outcome ≡ o → place_in (on_done (parse_file s).outcome (finished (parse_file s).description) refused_reading).outcome ≤ 2128
    go (Ok tt) e = rw e (last (last_checks (parse_file s).description) (parse_file s).description (last_place (parse_file s).description))
    go (Err x) e =
        let b : place_in (parse_file s).outcome ≤ 2128 = parse_place (suc (length s)) s 0 no_progress blank (record { place = omega arith; tasks = omega arith; sources = omega arith; links = omega arith }) in
        rw e (rw e at b)
