-- The report read as a page: its lines, and that each line determines its parts. Assumes nothing.
use Rattle.std.specs.Prelude.{Ok, Err}
use Prim.Native.Nat.{ℕ, zero, suc, ◌+◌, ◌/◌, ◌%◌, ◌^◌, ◌≤◌, ◌<◌}
use mathlib.Core.Path.{◌≡◌, refl, sym, ap, ◌∙◌}
use mathlib.Core.Bool.{Bool, true, false, cond, not}
use mathlib.Core.Logic.{◌↔◌}
use mathlib.Core.List.{List, [], ◌∷◌, ◌++◌, append_assoc, append-nil, append_cancel_left, head-eq_of_cons-eq, tail-eq_of_cons-eq}
use native.Mathlib.Omega.{arith}
use lib.Dec.{eqb, leb, ltb}
use lib.ListN.{length, get_or, take, drop}
use lib.Seq.{take-append_seam}
use borrow.Author.Tests.{leb-true, ltb-false, le-ltb, eqb-false, ne_eqb, not-true}
use Rattle.model.specs.declared.Link.{Link}
use Rattle.model.specs.declared.Description.{Description}
use Rattle.model.specs.declared.Policy.{Policy}
use Rattle.model.specs.declared.Policy.TheVariants.{Preemptive, HoldOn}
use Rattle.model.specs.Refusals.{Outcome, Done, Refused, Quote, number_of}
use Rattle.model.specs.declared.Refusal.{Refusal}
use Rattle.model.specs.declared.Refusal.TheVariants.{ShortPage}
use Rattle.model.specs.declared.Verdict.{Verdict}
use Rattle.model.specs.declared.Verdict.TheVariants.{Free, HeldOrder, DoubtOrder, Held, Doubt}
use Rattle.model.specs.Basics.{tab, joined}
use Rattle.model.specs.Graph.{system, link_at}
use Rattle.model.specs.Delays.{Settled, unchanged, reached, tail_of, delay_of, spacing_of}
use Rattle.model.specs.Order.{in_order}
use Rattle.model.specs.File.{read_file, fill_with, filled_by}
use Rattle.model.specs.Verdicts.{settled_verdict, source_verdict, order_verdict, verdict_of, verdict_at, doubtful, all_held, tempos, largest_below}
use Rattle.model.specs.Report.{decimal, line_of, w_tempo, w_none, w_refused, w_at, w_link, w_held, w_of, tempo_text, tempo_line, verdict_text, link_line, link_lines, refused_line, shown_tempo, report_for, plain_report, policy_line, w_hold, report_of, printed}
use Rattle.model.specs.Page.{longer, lines_of, line_at, TellsModel, tempo_place, TempoLine, HasLine, tempo_words, held_words}
use Rattle.lemmas.proofs.Tests.{and_left, and_right}
use Rattle.lemmas.proofs.Table.{length-tab, get_d_tab}
use Rattle.lemmas.proofs.Decimal.{every, every_append, every_weaker, cut_same, is_digit, decimal_every, decimal_same, decimal_cut}
use Rattle.theory.proofs.WellFormed.{Fielded}
use Rattle.theory.proofs.FileLength.{read_first}
use Rattle.theory.proofs.Links.{from_most, to_most, link_gap_most}
use Rattle.theory.proofs.Rounds.{held_fixed}
use Rattle.theory.proofs.Quotes.{settled_held}

-- whether a byte is no line feed
abbrev plain : ℕ → Bool
plain c = not (eqb c 10)

-- a text without a line feed, a line feed after it: one line
lines_one : (s rest : List ℕ) → every plain s ≡ true → lines_of (s ++ (10 ∷ rest)) ≡ s ∷ lines_of rest
unfolding lines_of
lines_one [] rest e = refl
lines_one (c ∷ s) rest e =
    let p : eqb c 10 ≡ false = not-true (eqb c 10) (and_left (plain c) (every plain s) e) in
    rw (p, lines_of) (ap (longer c) (lines_one s rest (and_right (plain c) (every plain s) e)))

-- lines one after another
lines_joined : (n : ℕ) (f : ℕ → List ℕ) (rest : List ℕ) → ((l : ℕ) → l < n → every plain (f l) ≡ true) → lines_of (joined n (λ l. line_of (f l)) ++ rest) ≡ tab n f ++ lines_of rest
unfolding joined tab
lines_joined zero f rest h = refl
lines_joined (suc n) f rest h =
    let e : joined (suc n) (λ l. line_of (f l)) ++ rest ≡ joined n (λ l. line_of (f l)) ++ (f n ++ (10 ∷ rest)) = simp append_assoc in
    rw (e, lines_joined n f (f n ++ (10 ∷ rest)) (λ l p. h l (omega arith)), lines_one (f n) rest (h n (omega arith)))
    (sym (append_assoc (tab n f) (f n ∷ []) (lines_of rest)))

lines_all : (n : ℕ) (f : ℕ → List ℕ) → ((l : ℕ) → l < n → every plain (f l) ≡ true) → lines_of (joined n (λ l. line_of (f l))) ≡ tab n f
unfolding lines_of
lines_all n f h = ap lines_of (sym (append-nil (joined n (λ l. line_of (f l))))) ∙ lines_joined n f [] h ∙ append-nil (tab n f)

-- no text of a report has a line feed inside a line
decimal_plain : (x : ℕ) → every plain (decimal x) ≡ true
decimal_plain x = every_weaker is_digit plain digit (decimal x) (decimal_every x)
  where
    digit : (c : ℕ) → is_digit c ≡ true → plain c ≡ true
    digit c e = rw (ne_eqb c 10 (λ q. omega (arith, leb-true 48 c (and_left (leb 48 c) (leb c 57) e))))

verdict_plain : (v : Verdict) → every plain (verdict_text v) ≡ true
unfolding verdict_text
verdict_plain Free = refl
verdict_plain HeldOrder = refl
verdict_plain DoubtOrder = refl
verdict_plain (Held d m) = every_append plain (decimal d) (w_of ++ decimal m) (decimal_plain d) (decimal_plain m)
verdict_plain (Doubt m) = decimal_plain m

-- a link's line without its line feed
abbrev pub link_words : ℕ → Link → Verdict → List ℕ
link_words l e v = w_link ++ (decimal (suc l) ++ (32 ∷ decimal e.from ++ (62 ∷ decimal e.to ++ verdict_text v)))

link_plain : (l : ℕ) (e : Link) (v : Verdict) → every plain (link_words l e v) ≡ true
link_plain l e v =
    every_append plain (decimal (suc l)) _ (decimal_plain (suc l))
    (every_append plain (decimal e.from) _ (decimal_plain e.from)
    (every_append plain (decimal e.to) (verdict_text v) (decimal_plain e.to) (verdict_plain v)))

-- the first line without its line feed
abbrev pub quote_words : Quote → List ℕ
quote_words (Ok t) = tempo_words t
quote_words (Err x) = w_tempo ++ w_none

quote_plain : (q : Quote) → every plain (quote_words q) ≡ true
unfolding tempo_words tempo_text
quote_plain (Ok t) = every_append plain (decimal (t / 10)) (46 ∷ (48 + t % 10) ∷ []) (decimal_plain (t / 10)) (rw (ne_eqb (48 + t % 10) 10 (λ e. omega arith)))
quote_plain (Err x) = refl

quote_line : (q : Quote) → tempo_line q ≡ line_of (quote_words q)
unfolding tempo_line tempo_words
quote_line (Ok t) = refl
quote_line (Err x) = refl

-- the lines of a report: the tempo's, then one for each link
pub report_lines : (pol : Policy) (d : Description) (q : Quote) → lines_of (report_for pol d q) ≡ quote_words q ∷ tab d.link_count (λ l. link_words l (link_at d l) (verdict_at pol d (shown_tempo q) l))
unfolding report_for link_lines link_line
report_lines pol d q =
    let words : ℕ → List ℕ = λ l. link_words l (link_at d l) (verdict_at pol d (shown_tempo q) l) in
    let lines = joined d.link_count (λ l. line_of (words l)) in
    rw (quote_line q, append_assoc) (lines_one (quote_words q) lines (quote_plain q))
    ∙ ap (λ (x : List (List ℕ)). quote_words q ∷ x) (lines_all d.link_count words (λ l p. link_plain l (link_at d l) (verdict_at pol d (shown_tempo q) l)))

-- a byte that is no digit is not where a number and another such byte stand
not_number : (x c d : ℕ) (r u : List ℕ) → is_digit c ≡ false → is_digit d ≡ false → (c ≡ d → ⊥) → c ∷ r ≡ decimal x ++ (d ∷ u) → ⊥
not_number x c d r u a b h e = h (cut_same is_digit [] (decimal x) c d r u refl (decimal_every x) a b e).1

-- the words of the first line determine the tempo
tempo_read : (k : Quote) (q : ℕ) → ((t : ℕ) → k ≡ Ok t → t ≤ 3000) → quote_words k ≡ tempo_words q → k ≡ Ok q
unfolding tempo_words tempo_text
tempo_read (Ok t) q h e =
    let b : t ≤ 3000 = h t refl in
    let f = decimal_cut (t / 10) (q / 10) 46 46 _ _ (omega arith) refl refl (append_cancel_left w_tempo _ _ e) in
    let z : t ≡ q = omega (arith, f.0, head-eq_of_cons-eq f.2) in
    ap Ok z
tempo_read (Err x) q h e =
    absurd (not_number (q / 10) 110 46 _ _ refl refl (λ z. omega arith) (append_cancel_left w_tempo _ _ e))

-- the words of a verdict that is held determine its delay and spacing
verdict_read : (v : Verdict) (D M : ℕ) → ((x y : ℕ) → v ≡ Held x y → (x < 10 ^ 19) × (y < 10 ^ 19)) → verdict_text v ≡ w_held ++ (decimal D ++ (w_of ++ decimal M)) → v ≡ Held D M
unfolding verdict_text
verdict_read Free D M h e = absurd (omega (arith, head-eq_of_cons-eq (tail-eq_of_cons-eq e)))
verdict_read HeldOrder D M h e =
    absurd (not_number D 111 32 _ _ refl refl (λ z. omega arith) (append_cancel_left w_held _ _ e))
verdict_read DoubtOrder D M h e = absurd (omega (arith, head-eq_of_cons-eq (tail-eq_of_cons-eq e)))
verdict_read (Held x y) D M h e =
    let b = h x y refl in
    let f = decimal_cut x D 32 32 _ _ b.0 refl refl (append_cancel_left w_held _ _ e) in
    let g : y ≡ M = decimal_same y M b.1 (append_cancel_left (111 ∷ 102 ∷ 32 ∷ []) _ _ f.2) in
    rw (f.0, g)
verdict_read (Doubt y) D M h e = absurd (omega (arith, head-eq_of_cons-eq (tail-eq_of_cons-eq e)))

-- every verdict's words begin with a space
verdict_space : (v : Verdict) → (rest : List ℕ) × (verdict_text v ≡ 32 ∷ rest)
unfolding verdict_text
verdict_space Free = (_, refl)
verdict_space HeldOrder = (_, refl)
verdict_space DoubtOrder = (_, refl)
verdict_space (Held d m) = (_, refl)
verdict_space (Doubt m) = (_, refl)

-- the words of a link's line that is held determine its place, its ends, its delay and its spacing
pub record Named (l : ℕ) (e : Link) (v : Verdict) (place i j D M : ℕ) : Type 0 where
  pub place_is : suc l ≡ place
  pub from_is : e.from ≡ i
  pub to_is : e.to ≡ j
  pub verdict_is : v ≡ Held D M

link_read : (l : ℕ) (e : Link) (v : Verdict) (place i j D M : ℕ) → l < 256 → e.from < 49 → e.to < 49 → ((x y : ℕ) → v ≡ Held x y → (x < 10 ^ 19) × (y < 10 ^ 19)) → link_words l e v ≡ held_words place i j D M → Named l e v place i j D M
unfolding held_words
link_read l e v place i j D M a b c h q =
    let f = decimal_cut (suc l) place 32 32 _ _ (omega arith) refl refl (append_cancel_left w_link _ _ q) in
    let g = decimal_cut e.from i 62 62 _ _ (omega arith) refl refl f.2 in
    let t = verdict_space v in
    let k = decimal_cut e.to j 32 32 _ _ (omega arith) refl refl (ap (λ (x : List ℕ). decimal e.to ++ x) (sym t.1) ∙ g.2) in
    record {
      place_is = f.0;
      from_is = g.0;
      to_is = k.0;
      verdict_is = verdict_read v D M h (t.1 ∙ ap (λ (x : List ℕ). 32 ∷ x) k.2);
    }

-- what a verdict `held D of M` says of its link
pub record HeldSays (pol : Policy) (d : Description) (t l D M : ℕ) : Type 0 where
  pub critical : (link_at d l).critical ≡ 1
  pub source : 33 ≤ (link_at d l).from
  pub spacing : spacing_of d t (link_at d l).from ≡ M
  pub below : D < M
  pub most : M ≤ 1000000000

pub held_says : (pol : Policy) (d : Description) → Fielded d → (t l D M : ℕ) → l < d.link_count → verdict_at pol d t l ≡ Held D M → HeldSays pol d t l D M
unfolding verdict_at verdict_of source_verdict order_verdict
held_says pol d g t l D M h =
    go (eqb (link_at d l).critical 0) refl (ltb (link_at d l).from 33) refl (in_order (system d) (link_at d l).from (link_at d l).to) (delay_of pol (system d) gap (link_at d l).from (link_at d l).to) refl
  where
    gap : ℕ → ℕ
    gap = spacing_of d t

    go : (a : Bool) → eqb (link_at d l).critical 0 ≡ a → (b : Bool) → ltb (link_at d l).from 33 ≡ b → (c : Bool) (s : Settled) → delay_of pol (system d) gap (link_at d l).from (link_at d l).to ≡ s → cond a Free (cond b (cond c HeldOrder DoubtOrder) (settled_verdict s (tail_of pol (system d) (link_at d l).to) (gap (link_at d l).from))) ≡ Held D M → HeldSays pol d t l D M
    go true p b q c s r e = absurd (let z : ◌≡◌ {A = ℕ} 0 1 = cc in omega arith)
    go false p true q true s r e = absurd (let z : ◌≡◌ {A = ℕ} 0 1 = cc in omega arith)
    go false p true q false s r e = absurd (let z : ◌≡◌ {A = ℕ} 0 1 = cc in omega arith)
    go false p false q c reached r e = absurd (let z : ◌≡◌ {A = ℕ} 0 1 = cc in omega arith)
    go false p false q c (unchanged x) r e =
        let y : x + tail_of pol (system d) (link_at d l).to ≡ D = cc in
        let z : gap (link_at d l).from ≡ M = cc in
        let k : x + tail_of pol (system d) (link_at d l).to < gap (link_at d l).from = (held_fixed pol (system d) gap (link_at d l).from (link_at d l).to x r).1 in
        record {
          critical = omega (arith, g.link_critical l h, eqb-false (link_at d l).critical 0 p);
          source = ltb-false (link_at d l).from 33 q;
          spacing = z;
          below = omega arith;
          most = rw z at (link_gap_most d g t l h (ltb-false (link_at d l).from 33 q));
        }

-- a critical link from a source that is not doubtful is held with some delay
pub source_held : (pol : Policy) (d : Description) (t l : ℕ) → (link_at d l).critical ≡ 1 → 33 ≤ (link_at d l).from → doubtful (verdict_at pol d t l) ≡ false → (D : ℕ) × (verdict_at pol d t l ≡ Held D (spacing_of d t (link_at d l).from))
unfolding verdict_at verdict_of source_verdict
source_held pol d t l c s e =
    let v : verdict_at pol d t l ≡ settled_verdict (delay_of pol (system d) (spacing_of d t) (link_at d l).from (link_at d l).to) (tail_of pol (system d) (link_at d l).to) (spacing_of d t (link_at d l).from) = rw (c, le-ltb (link_at d l).from 33 s) refl in
    let k = settled_held (delay_of pol (system d) (spacing_of d t) (link_at d l).from (link_at d l).to) (tail_of pol (system d) (link_at d l).to) (spacing_of d t (link_at d l).from) (ap doubtful (sym v) ∙ e) in
    (k.0 + tail_of pol (system d) (link_at d l).to, v ∙ ap (λ (x : Settled). settled_verdict x (tail_of pol (system d) (link_at d l).to) (spacing_of d t (link_at d l).from)) k.1)

-- the lines of a report with its policy's line before the first
abbrev pub policy_lines : Policy → List (List ℕ)
policy_lines Preemptive = []
policy_lines HoldOn = w_hold ∷ []

pub policy_lines_lem : (pol : Policy) (text : List ℕ) → lines_of (policy_line pol ++ text) ≡ policy_lines pol ++ lines_of text
policy_lines_lem Preemptive text = refl
policy_lines_lem HoldOn text = ap (λ (x : List ℕ). lines_of x) (append_assoc w_hold (10 ∷ []) text) ∙ lines_one w_hold text refl

-- the tempo's line is the first line of what follows
policy_first : (pol : Policy) (lines : List (List ℕ)) → get_or (policy_lines pol ++ lines) (tempo_place pol) [] ≡ get_or lines 0 []
policy_first Preemptive lines = refl
policy_first HoldOn lines = refl

pub tempo_line_lem : (pol : Policy) (text words : List ℕ) → TempoLine pol (policy_line pol ++ text) words ↔ (get_or (lines_of text) 0 [] ≡ words)
tempo_line_lem pol text words =
    let e : get_or (lines_of (policy_line pol ++ text)) (tempo_place pol) [] ≡ get_or (lines_of text) 0 [] = ap (λ (x : List (List ℕ)). get_or x (tempo_place pol) []) (policy_lines_lem pol text) ∙ policy_first pol (lines_of text) in
    (λ h. sym e ∙ h, λ h. e ∙ h)

-- a line of a held link is not the policy's, and stands one place further on
policy_held : (pol : Policy) (lines : List (List ℕ)) (place i j D M k : ℕ) → k < length (policy_lines pol ++ lines) → get_or (policy_lines pol ++ lines) k [] ≡ held_words place i j D M → (n : ℕ) × (n < length lines) × (get_or lines n [] ≡ held_words place i j D M)
unfolding held_words
policy_held Preemptive lines place i j D M k b e = (k, b, e)
policy_held HoldOn lines place i j D M zero b e = absurd (omega (arith, head-eq_of_cons-eq e))
policy_held HoldOn lines place i j D M (suc n) b e = (n, omega arith, e)

pub held_line : (pol : Policy) (text : List ℕ) (place i j D M : ℕ) → HasLine (policy_line pol ++ text) (held_words place i j D M) ↔ HasLine text (held_words place i j D M)
held_line pol text place i j D M = (down, up pol)
  where
    down : HasLine (policy_line pol ++ text) (held_words place i j D M) → HasLine text (held_words place i j D M)
    down (k, b, e) = policy_held pol (lines_of text) place i j D M k (rw (policy_lines_lem pol text) at b) (rw (policy_lines_lem pol text) at e)

    up : (pol : Policy) → HasLine text (held_words place i j D M) → HasLine (policy_line pol ++ text) (held_words place i j D M)
    up Preemptive h = h
    up HoldOn (k, b, e) = (suc k, rw (policy_lines_lem HoldOn text) (omega arith), rw (policy_lines_lem HoldOn text) e)

module _ (pol : Policy) (d : Description) (q : Quote) where
  -- a line of a held link is the line of one link of the description
  pub page_held : Fielded d → (place i j D M : ℕ) → HasLine (report_for pol d q) (held_words place i j D M) → (l : ℕ) × (l < d.link_count) × Named l (link_at d l) (verdict_at pol d (shown_tempo q) l) place i j D M
  unfolding held_words tempo_words
  page_held g place i j D M (k, b, e) = go k (rw (report_lines pol d q) at b) (rw (report_lines pol d q) at e)
    where
      words : ℕ → List ℕ
      words l = link_words l (link_at d l) (verdict_at pol d (shown_tempo q) l)

      not_first : (x : Quote) → quote_words x ≡ held_words place i j D M → ⊥
      not_first (Ok t) f = omega (arith, head-eq_of_cons-eq f)
      not_first (Err x) f = omega (arith, head-eq_of_cons-eq f)

      small : (l : ℕ) → l < d.link_count → (x y : ℕ) → verdict_at pol d (shown_tempo q) l ≡ Held x y → (x < 10 ^ 19) × (y < 10 ^ 19)
      small l h x y f =
          let s = held_says pol d g (shown_tempo q) l x y h f in
          (omega (arith, s.below, s.most), omega (arith, s.most))

      go : (k : ℕ) → k < length (quote_words q ∷ tab d.link_count words) → get_or (quote_words q ∷ tab d.link_count words) k [] ≡ held_words place i j D M → (l : ℕ) × (l < d.link_count) × Named l (link_at d l) (verdict_at pol d (shown_tempo q) l) place i j D M
      go zero b f = absurd (not_first q f)
      go (suc l) b f =
          let h : l < d.link_count = omega (arith, length-tab d.link_count words) in
          (l, h, link_read l (link_at d l) (verdict_at pol d (shown_tempo q) l) place i j D M (omega (arith, g.few_links)) (from_most d g l h) (omega (arith, to_most d g l h)) (small l h) (sym (get_d_tab d.link_count words [] l h) ∙ f))

  -- and each link has its line
  pub page_told : (l D M : ℕ) → l < d.link_count → verdict_at pol d (shown_tempo q) l ≡ Held D M → HasLine (report_for pol d q) (held_words (suc l) (link_at d l).from (link_at d l).to D M)
  unfolding held_words verdict_text
  page_told l D M h e =
      let words : ℕ → List ℕ = λ k. link_words k (link_at d k) (verdict_at pol d (shown_tempo q) k) in (
        suc l,
        rw (report_lines pol d q) (omega (arith, length-tab d.link_count words)),
        rw (report_lines pol d q) (get_d_tab d.link_count words [] l h ∙ ap (link_words l (link_at d l)) e),
      )

  -- the first line is the quote's, and one with a tempo determines it
  pub page_first : get_or (lines_of (report_for pol d q)) 0 [] ≡ quote_words q
  page_first = rw (report_lines pol d q)

  pub page_tempo : (x : ℕ) → ((t : ℕ) → q ≡ Ok t → t ≤ 3000) → get_or (lines_of (report_for pol d q)) 0 [] ≡ tempo_words x → q ≡ Ok x
  page_tempo x h e = tempo_read q x h (rw (report_lines pol d q) at e)

-- the page of a refused file does not begin with a tempo
pub refused_no_tempo : (r : Refusal) (place x : ℕ) → get_or (lines_of (refused_line r place)) 0 [] ≡ tempo_words x → ⊥
unfolding refused_line tempo_words
refused_no_tempo r place x e =
    omega (arith, head-eq_of_cons-eq (sym (ap (λ (lines : List (List ℕ)). get_or lines 0 []) (lines_one (w_refused ++ (decimal (number_of r) ++ (w_at ++ decimal place))) [] words)) ∙ e))
  where
    words : every plain (w_refused ++ (decimal (number_of r) ++ (w_at ++ decimal place))) ≡ true
    words = every_append plain (decimal (number_of r)) _ (decimal_plain (number_of r)) (decimal_plain place)

-- the first line of a report is `hold` on the hold-on model alone
first_byte : (page : List ℕ) (c : ℕ) → get_or page 0 10 ≡ c → (c ≡ 10 → ⊥) → get_or (line_at page 0) 0 0 ≡ c
unfolding lines_of
first_byte [] c e h = absurd (h (sym e))
first_byte (b ∷ text) c e h = rw (ne_eqb b 10 (λ z. h (sym e ∙ z)), lines_of) (go (lines_of text) ∙ e)
  where
    go : (lines : List (List ℕ)) → get_or (get_or (longer b lines) 0 []) 0 0 ≡ b
    go [] = refl
    go (line ∷ lines) = refl

not_hold : (page : List ℕ) (c : ℕ) → get_or page 0 10 ≡ c → (c ≡ 10 → ⊥) → (c ≡ 104 → ⊥) → line_at page 0 ≡ w_hold → ⊥
not_hold page c p h k e = k (sym (first_byte page c p h) ∙ ap (λ (line : List ℕ). get_or line 0 0) e)

two_models : Preemptive ≡ HoldOn → ⊥
two_models e = let z : ◌≡◌ {A = ℕ} 0 1 = cc in omega arith

pub hold_first : (pol : Policy) (file : List ℕ) → TellsModel pol (report_of pol file)
unfolding report_of plain_report report_for refused_line tempo_line lines_of
hold_first HoldOn file = (λ e. refl, λ e. refl)
hold_first Preemptive file = (λ e. absurd (go (read_file file).outcome refl e), λ e. absurd (two_models e))
  where
    first : (d : Description) (q : Quote) → line_at (report_for Preemptive d q) 0 ≡ w_hold → ⊥
    first d (Ok t) e =
        not_hold (report_for Preemptive d (Ok t)) 116 refl (λ z. omega arith) (λ z. omega arith) e
    first d (Err x) e =
        not_hold (report_for Preemptive d (Refused x.why x.place)) 116 refl (λ z. omega arith) (λ z. omega arith) e

    go : (o : Outcome) → (read_file file).outcome ≡ o → line_at (plain_report Preemptive file) 0 ≡ w_hold → ⊥
    go Done a e =
        let d : Description = (read_file file).description in
        first d (largest_below (all_held Preemptive d) tempos) (rw a at e)
    go (Err x) a e =
        not_hold (refused_line x.why x.place) 114 refl (λ z. omega arith) (λ z. omega arith) (rw a at e)

-- so that the model is read off the page
pub model_told : (pol told : Policy) (file : List ℕ) → TellsModel told (report_of pol file) → told ≡ pol
model_told Preemptive Preemptive file t = refl
model_told Preemptive HoldOn file t = absurd (two_models ((hold_first Preemptive file).0 (t.1 refl)))
model_told HoldOn Preemptive file t = t.0 ((hold_first HoldOn file).1 refl)
model_told HoldOn HoldOn file t = refl

-- the program's page: it "ignores the rest, which alters no answer"
pub printed_whole : (pol : Policy) (input : List ℕ) → printed pol input ≡ report_of pol input
unfolding printed report_of plain_report
printed_whole pol input = rw (read_first input)

-- and the page that the report call leaves at the front of a lent buffer
pub filled_page : (text buffer : List ℕ) (n : ℕ) → fill_with text buffer ≡ Ok n → take n (filled_by text buffer) ≡ text
unfolding fill_with filled_by
filled_page text buffer n = go (ltb (length buffer) (length text))
  where
    go : (b : Bool) → cond b (Refused ShortPage 0) (Ok (length text)) ≡ Ok n → take n (cond b buffer (text ++ drop (length text) buffer)) ≡ text
    go true e = absurd (let z : ◌≡◌ {A = ℕ} 0 1 = cc in omega arith)
    go false e = let z : n ≡ length text = cc in rw z (take-append_seam text (drop (length text) buffer))
