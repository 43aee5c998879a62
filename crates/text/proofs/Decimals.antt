-- A number's digits on a page: all but the last, and then the last. Assumes nothing.
use Prim.Native.Nat.{ℕ, ◌<◌, ◌≤◌, ◌+◌, ◌/◌, ◌%◌, ◌^◌}
use mathlib.Core.Path.{◌≡◌, refl, ap, sym, ◌∙◌}
use mathlib.Core.List.{List, [], ◌∷◌, ◌++◌, append_assoc}
use native.Mathlib.Omega.{arith}
use lib.ListN.{length, take, length-append}
use Rattle.model.specs.Report.{decimal}
use Rattle.text.specs.declared.Page.{Page}
use Rattle.text.specs.Page.{Gains}
use Rattle.text.proofs.Digits.{decimal_one, decimal_more}

-- all but the last digit stands on the page
pub record Met (before : Page) (n : ℕ) (after : Page) : Type 0 where
  pub met_end : after.end + 1 ≡ before.end + length (decimal n)
  pub met_size : length after.bytes.now ≡ length before.bytes.now
  pub met_front : take after.end after.bytes.now ++ ((48 + n % 10) ∷ []) ≡ take before.end before.bytes.now ++ decimal n

pub met_more : (before after : Page) (n : ℕ) → 10 ≤ n → n < 10 ^ 20 → Gains before (decimal (n / 10)) after → Met before n after
met_more before after n h b en =
    let X : List ℕ = (48 + n % 10) ∷ [] in
    let dm = decimal_more n b h in
    let l = ap length dm ∙ length-append (decimal (n / 10)) X in
    let e0 = en.put_end in
    let front = take before.end before.bytes.now in
    record {
      met_end = omega arith;
      met_size = en.put_size;
      met_front = ap (λ l. l ++ X) en.put_front ∙ append_assoc front (decimal (n / 10)) X ∙ ap (λ l. front ++ l) (sym dm);
    }

pub met_one : (page : Page) (n : ℕ) → n < 10 → Met page n page
met_one page n h =
    let ds = decimal_one n h in
    let l = ap length ds in
    let d : 48 + n ≡ 48 + n % 10 = omega arith in
    record {
      met_end = omega arith;
      met_size = refl;
      met_front = ap (λ l. take page.end page.bytes.now ++ l) (sym (ds ∙ ap (λ x. x ∷ []) d));
    }
