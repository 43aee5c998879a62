-- A text on a page: what a run of writes leaves behind.
use Rattle.std.specs.Prelude.{ℕ, ◌+◌, ◌≡◌, ◌≤◌, List, ◌++◌, length, take}
use Rattle.text.specs.declared.Page.{Page}

-- the page `before`, with a text written from `at` to `end`, is the page `after`
pub record Put (before : List ℕ) (at : ℕ) (text after : List ℕ) (end : ℕ) : Type 0 where
  pub put_end : end ≡ at + length text
  pub put_size : length after ≡ length before
  pub put_front : take end after ≡ take at before ++ text

-- there is room on the page for a text more
abbrev pub HasRoom : Page → List ℕ → Type 0
HasRoom page text = page.end + length text ≤ length page.bytes.now

-- the page `before` with a text more at its end is the page `after`
abbrev pub Gains : Page → List ℕ → Page → Type 0
Gains before text after = Put before.bytes.now before.end text after.bytes.now after.end

-- and it lies in the same lent bytes
abbrev pub IsInPlace : Page → Page → Type 0
IsInPlace before after = after.bytes.ghost_name ≡ before.bytes.ghost_name
