-- Judging and reading put together from the checks of the fields and the checks after the last field. Assumes nothing.
use Prim.Native.Nat.{ℕ}
use Rattle.std.specs.Prelude.{Result, Ok, Err}
use mathlib.Core.Path.{◌≡◌, refl, sym, ap, subst, ◌∙◌}
use native.Mathlib.Omega.{arith}
use mathlib.Core.Bool.{Bool, true, false, cond}
use mathlib.Core.List.{List}
use native.Mathlib.Nat.{sub-zero}
use lib.ListN.{length}
use Rattle.model.specs.declared.Description.{Description}
use Rattle.model.specs.Refusals.{Outcome, Done, Refused, on_done}
use Rattle.model.specs.declared.Reading.{Reading}
use Rattle.model.specs.declared.Refusal.{Refusal}
use Rattle.model.specs.declared.Refusal.TheVariants.{TooMany}
use Rattle.model.specs.File.{Widths, file_of, parse_file, last_checks, read_file, finished, refused_reading, Accepted, judge, overfull, load_sheet}
use Rattle.theory.proofs.NumberBytes.{Bytes}
use Rattle.theory.proofs.WellFormed.{Fielded}
use Rattle.theory.proofs.FileLaws.{judge_steps, judge_well_formed, record_fielded}
use Rattle.theory.proofs.JudgeLaws.{LastPasses, last_passes}
use Rattle.theory.proofs.ReadBack.{read_judged, read_whence}
use Rattle.theory.proofs.WellFormed.{WellFormed}
use Rattle.refusals.specs.Beside.{refused_sheet}
use Rattle.lemmas.proofs.Outcomes.{refused_not}
use Rattle.model.specs.File.{parse_at}
use Rattle.reading.specs.Steps.{as_result, record_checks}
use Rattle.model.specs.declared.Rejection.{Rejection}
use Rattle.loads.specs.declared.Worked.{Worked}
use Rattle.loads.specs.Tables.{LoadsOf, WorkedOf, checked_loads}
use Rattle.files.specs.declared.Judged.{Judged}
use Rattle.model.specs.File.{read_from}
use Rattle.files.specs.Answers.{JudgedOf, ReadAs}
use Rattle.files.proofs.Places.{parsed_fielded_at}

judge_is : (d : Description) → Widths d → judge d ≡ on_done (record_checks d) (last_checks d) Refused
unfolding record_checks
judge_is d w = judge_steps d w

-- the fields of a record are refused
pub sheet_refused : (d : Description) (r : Refusal) (p : ℕ) → Widths d → record_checks d ≡ Refused r p → refused_sheet r p ≡ load_sheet d
unfolding load_sheet
sheet_refused d r p w e = rw (judge_is d w, e)

-- the fields are accepted
pub sheet_checked : (d : Description) → Widths d → record_checks d ≡ Done → checked_loads d ≡ load_sheet d
unfolding load_sheet checked_loads
sheet_checked d w e = rw (judge_is d w, e)

pub record_good : (d : Description) → Widths d → record_checks d ≡ Done → Fielded d
unfolding record_checks
record_good d w e = go (overfull d) refl e
  where
    go : (b : Bool) → overfull d ≡ b → cond b (Refused TooMany 0) (parse_file (file_of d)).outcome ≡ Done → Fielded d
    go true q f = refused_not f
    go false q f = record_fielded d w q f

-- a record whose fields are refused is judged so, and one whose fields are accepted is judged by the last checks
pub judge_refused : (d : Description) (r : Refusal) (p : ℕ) → Widths d → record_checks d ≡ Refused r p → judge d ≡ Refused r p
judge_refused d r p w e = judge_is d w ∙ ap (λ o. on_done o (last_checks d) Refused) e

pub judge_checked : (d : Description) → Widths d → record_checks d ≡ Done → judge d ≡ last_checks d
judge_checked d w e = judge_is d w ∙ ap (λ o. on_done o (last_checks d) Refused) e

-- a reading whose fields are refused
pub read_refused : (s : List ℕ) (at : ℕ) (r : Refusal) (p : ℕ) → (parse_at s at).outcome ≡ Refused r p → refused_reading r p ≡ read_from s at
unfolding read_from
read_refused s at r p e = rw e

-- a reading whose fields are accepted goes by the last checks
read_last : (s : List ℕ) (at : ℕ) → (parse_at s at).outcome ≡ Done → finished (parse_at s at).description ≡ read_from s at
unfolding read_from
read_last s at e = rw e

pub read_unchecked : (s : List ℕ) (at : ℕ) (r : Refusal) (p : ℕ) → (parse_at s at).outcome ≡ Done → last_checks (parse_at s at).description ≡ Refused r p → refused_reading r p ≡ read_from s at
read_unchecked s at r p e f = (rw f) ∙ read_last s at e

pub read_checked : (s : List ℕ) (at : ℕ) → (parse_at s at).outcome ≡ Done → last_checks (parse_at s at).description ≡ Done → parse_at s at ≡ read_from s at
read_checked s at e f =
    same_reading (parse_at s at) e ∙ (rw f) ∙ read_last s at e
  where
    same_reading : (x : Reading) → x.outcome ≡ Done → x ≡ record { outcome = Done; description = x.description }
    same_reading x h = λ i. record { outcome = h i; description = x.description }

-- from the start of the bytes it is the reading of a file
pub read_start : (s : List ℕ) → read_from s 0 ≡ read_file s
unfolding read_from read_file parse_file
read_start s = rw (sub-zero (length s))

-- a reading by its description or its refusal
pub result_refused : (r : Reading) (x : Rejection) → as_result r ≡ Err x → r.outcome ≡ Refused x.why x.place
result_refused r x e = go r.outcome refl e
  where
    go : (o : Outcome) → r.outcome ≡ o → on_done o (Ok r.description) Refused ≡ Err x → r.outcome ≡ Refused x.why x.place
    go (Ok tt) q f = absurd (let z : ◌≡◌ {A = ℕ} 0 1 = cc in omega arith)
    go (Err y) q f = let z : y ≡ x = cc in q ∙ ap Err z

pub record ResultOf (r : Reading) (d : Description) : Type 0 where
  pub fine : r.outcome ≡ Done
  pub same : r.description ≡ d

pub result_done : (r : Reading) (d : Description) → as_result r ≡ Ok d → ResultOf r d
result_done r d e = go r.outcome refl e
  where
    go : (o : Outcome) → r.outcome ≡ o → on_done o (Ok r.description) Refused ≡ Ok d → ResultOf r d
    go (Ok tt) q f = let z : r.description ≡ d = cc in record { fine = q; same = z }
    go (Err y) q f = absurd (let z : ◌≡◌ {A = ℕ} 0 1 = cc in omega arith)

-- a file whose fields are refused
pub fields_refused : (s : List ℕ) (at : ℕ) (x : Rejection) → as_result (parse_at s at) ≡ Err x → ReadAs (read_from s at) (Err x)
fields_refused s at x e = sym (ap (λ (r : Reading). r.outcome) (read_refused s at x.why x.place (result_refused (parse_at s at) x e)))

-- a file whose fields are accepted, and then its description by the last checks
module _ (s : List ℕ) (at : ℕ) (d : Description) (e : as_result (parse_at s at) ≡ Ok d) where
  parsed : ResultOf (parse_at s at) d
  parsed = result_done (parse_at s at) d e

  pub fields_good : Bytes s → Fielded d
  fields_good b = subst Fielded parsed.same (parsed_fielded_at s at b parsed.fine)

  pub unchecked_as : (x : Rejection) → last_checks d ≡ Refused x.why x.place → ReadAs (read_from s at) (Err x)
  unchecked_as x f =
      sym (ap (λ (r : Reading). r.outcome) (read_unchecked s at x.why x.place parsed.fine (ap last_checks parsed.same ∙ f)))

  pub checked_as : Bytes s → (w : Worked) → last_checks d ≡ Done → LoadsOf d w.brings w.works → ReadAs (read_from s at) (Ok (record { description = d; worked = w }))
  checked_as b w f l =
      let whole : parse_at s at ≡ read_from s at = read_checked s at parsed.fine (ap last_checks parsed.same ∙ f) in
      let p : LastPasses d = last_passes d f in
      record {
        judged = sym (ap (λ (y : Reading). y.outcome) whole) ∙ parsed.fine;
        same = sym parsed.same ∙ ap (λ (y : Reading). y.description) whole;
        good = record { fields = fields_good b; some_task = p.some; no_cycle = p.no_loop; not_heavy = p.light };
        worked = l;
      }

-- the reading that an answer of judging tells of
pub reading_of : (s : List ℕ) (at : ℕ) (j : Judged) → ReadAs (read_from s at) (Ok j) → record { outcome = Done; description = j.description } ≡ read_from s at
reading_of s at j a = λ i. record { outcome = sym a.judged i; description = a.same i }

pub refusal_of : (s : List ℕ) (at : ℕ) (x : Rejection) → ReadAs (read_from s at) (Err x) → refused_reading x.why x.place ≡ read_from s at
unfolding read_from
refusal_of s at x e = go (parse_at s at).outcome refl e
  where
    go : (o : Outcome) → (parse_at s at).outcome ≡ o → (on_done o (finished (parse_at s at).description) refused_reading).outcome ≡ Refused x.why x.place → refused_reading x.why x.place ≡ on_done (parse_at s at).outcome (finished (parse_at s at).description) refused_reading
    go (Ok tt) q f = rw q (last (last_checks (parse_at s at).description) refl f)
      where
        last : (o : Outcome) → last_checks (parse_at s at).description ≡ o → (on_done o (record { outcome = Done; description = (parse_at s at).description }) refused_reading).outcome ≡ Refused x.why x.place → refused_reading x.why x.place ≡ on_done (last_checks (parse_at s at).description) (record { outcome = Done; description = (parse_at s at).description }) refused_reading
        last (Ok tt) k g = absurd (let z : ◌≡◌ {A = ℕ} 0 1 = cc in omega arith)
        last (Err y) k g = let z : y ≡ x = cc in rw (k, z) refl
    go (Err y) q f = let z : y ≡ x = cc in rw (q, z) refl

-- a description that is read is well formed
pub read_good : (s : List ℕ) → Bytes s → Accepted s → WellFormed (read_file s).description
read_good s b a = judge_well_formed (read_file s).description (read_whence s b a).widths (read_judged s b a)

-- a record whose fields are accepted, by its last checks
pub judged_by : (d : Description) → Widths d → record_checks d ≡ Done → (r : Result Worked Rejection) → WorkedOf d r → JudgedOf d r
judged_by d w e (Ok r) h =
    let j : judge d ≡ Done = judge_checked d w e ∙ h.0 in
    record { judged = j; same = refl; good = judge_well_formed d w j; worked = h.1 }
judged_by d w e (Err x) h = judge_checked d w e ∙ h
