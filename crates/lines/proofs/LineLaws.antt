-- The lines of a report as the parts that are written one after the other, and their lengths. Assumes nothing.
use Rattle.std.specs.Prelude.{Ok}
use Prim.Native.Nat.{ℕ, ◌+◌, ◌/◌, ◌%◌}
use mathlib.Core.Path.{◌≡◌, refl, ap}
use mathlib.Core.List.{List, [], ◌∷◌, ◌++◌, append_assoc}
use native.Mathlib.Numerals.{add-one}
use native.Mathlib.Omega.{arith}
use lib.ListN.{length, length-append}
use Rattle.model.specs.declared.Link.{Link}
use Rattle.model.specs.declared.Refusal.{Refusal}
use Rattle.model.specs.declared.Verdict.{Verdict}
use Rattle.model.specs.declared.Verdict.TheVariants.{Held, Doubt}
use Rattle.model.specs.Refusals.{number_of}
use Rattle.model.specs.Report.{decimal, w_tempo, w_refused, w_at, w_link, w_held, w_of, w_doubt, tempo_text, tempo_line, verdict_text, link_line, refused_line}
use Rattle.text.proofs.Digits.{decimal_one}

-- a line feed
abbrev pub feed : List ℕ
feed = 10 ∷ []

-- a tempo's tenth, with the point before it
abbrev pub tenth_text : ℕ → List ℕ
tenth_text t = (46 ∷ []) ++ decimal (t % 10)

pub tempo_text_parts : (t : ℕ) → tempo_text t ≡ decimal (t / 10) ++ tenth_text t
unfolding tempo_text
tempo_text_parts t = rw (decimal_one (t % 10) (omega arith))

pub tempo_parts : (t : ℕ) → tempo_line (Ok t) ≡ w_tempo ++ (tempo_text t ++ feed)
unfolding tempo_line
tempo_parts t = simp append_assoc

-- a held link's delay, and a link's spacing
abbrev pub delay_text : ℕ → List ℕ
delay_text d = w_held ++ decimal d

abbrev pub spacing_text : ℕ → List ℕ
spacing_text m = w_of ++ decimal m

pub held_parts : (d m : ℕ) → verdict_text (Held d m) ≡ delay_text d ++ spacing_text m
unfolding verdict_text
held_parts d m = simp append_assoc

pub doubt_parts : (m : ℕ) → verdict_text (Doubt m) ≡ (w_doubt ++ w_of) ++ decimal m
unfolding verdict_text
doubt_parts m = refl

-- a link's place and its ends
abbrev pub place_text : ℕ → List ℕ
place_text l = w_link ++ decimal (l + 1)

abbrev pub from_text : Link → List ℕ
from_text e = (32 ∷ []) ++ decimal e.from

abbrev pub to_text : Link → List ℕ
to_text e = (62 ∷ []) ++ decimal e.to

pub link_parts : (l : ℕ) (e : Link) (v : Verdict) → link_line l e v ≡ place_text l ++ (from_text e ++ (to_text e ++ (verdict_text v ++ feed)))
unfolding link_line
link_parts l e v = rw add-one (simp append_assoc)

-- a refusal's number and its place
abbrev pub number_text : ℕ → List ℕ
number_text x = w_refused ++ decimal x

abbrev pub at_text : ℕ → List ℕ
at_text place = w_at ++ decimal place

pub refused_parts : (r : Refusal) (x place : ℕ) → x ≡ number_of r → refused_line r place ≡ number_text x ++ (at_text place ++ feed)
unfolding refused_line
refused_parts r x place e = rw e (simp append_assoc)

pub tempo_text_length : (t : ℕ) → length (tempo_text t) ≡ length (decimal (t / 10)) + 1 + length (decimal (t % 10))
tempo_text_length t = rw (tempo_text_parts t) (simp length-append (omega arith))

pub tempo_line_length : (t : ℕ) → length (tempo_line (Ok t)) ≡ 7 + length (tempo_text t)
tempo_line_length t = rw (tempo_parts t) (simp length-append (omega arith))

pub tempo_length : (t : ℕ) → length (tempo_line (Ok t)) ≡ 9 + length (decimal (t / 10))
tempo_length t = omega (arith, tempo_line_length t, tempo_text_length t, ap length (decimal_one (t % 10) (omega arith)))

pub held_length : (d m : ℕ) → length (verdict_text (Held d m)) ≡ 10 + length (decimal d) + length (decimal m)
held_length d m = rw (held_parts d m) (simp length-append (omega arith))

pub doubt_length : (m : ℕ) → length (verdict_text (Doubt m)) ≡ 10 + length (decimal m)
doubt_length m = rw (doubt_parts m) (simp length-append (omega arith))

pub link_length : (l : ℕ) (e : Link) (v : Verdict) → length (link_line l e v) ≡ 8 + length (decimal (l + 1)) + length (decimal e.from) + length (decimal e.to) + length (verdict_text v)
link_length l e v = rw (link_parts l e v) (simp length-append (omega arith))

pub refused_length : (r : Refusal) (x place : ℕ) → x ≡ number_of r → length (refused_line r place) ≡ 13 + length (decimal x) + length (decimal place)
refused_length r x place e = rw (refused_parts r x place e) (simp length-append (omega arith))
