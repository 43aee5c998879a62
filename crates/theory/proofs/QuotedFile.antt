-- What a quote of a file says: the file is accepted, its numbers fit their types, and the quote is its description's. Assumes nothing.
use Rattle.std.specs.Prelude.{Ok, Err}
use Prim.Native.Nat.{ℕ}
use mathlib.Core.Path.{◌≡◌, refl}
use mathlib.Core.List.{List}
use native.Mathlib.Omega.{arith}
use Rattle.model.specs.Refusals.{Refused, Outcome, Done}
use Rattle.model.specs.declared.Refusal.{Refusal}
use Rattle.model.specs.declared.Policy.{Policy}
use Rattle.model.specs.File.{Widths, read_file}
use Rattle.model.specs.Verdicts.{quote_of, quoted_file}
use Rattle.theory.proofs.NumberBytes.{Bytes}
use Rattle.theory.proofs.ReadBack.{read_whence}

pub record QuotedFile (pol : Policy) (s : List ℕ) (q : ℕ) : Type 0 where
  pub accepted : (read_file s).outcome ≡ Done
  pub quoted : quote_of pol (read_file s).description ≡ Ok q
  pub widths : Widths (read_file s).description

pub quoted_file_lem : (pol : Policy) (s : List ℕ) (q : ℕ) → Bytes s → quoted_file pol s ≡ Ok q → QuotedFile pol s q
unfolding quoted_file
quoted_file_lem pol s q b e = go (read_file s).outcome refl
  where
    not_tempo : (r : Refusal) (p : ℕ) → Refused r p ≡ Ok q → ⊥
    not_tempo r p f = let z : ◌≡◌ {A = ℕ} 0 1 = cc in omega arith

    go : (o : Outcome) → (read_file s).outcome ≡ o → QuotedFile pol s q
    go (Ok tt) a = record { accepted = a; quoted = rw a at e; widths = (read_whence s b a).widths }
    go (Err x) a = absurd (not_tempo x.why x.place (rw a at e))
