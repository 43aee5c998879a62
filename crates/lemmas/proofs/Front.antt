-- The first n places of a list, as a loop over them meets them. Assumes nothing.
use Prim.Native.Nat.{ℕ, ◌≤◌, ◌<◌}
use mathlib.Core.Path.{◌≡◌}
use mathlib.Core.List.{List}
use native.Mathlib.Omega.{arith}
use lib.ListN.{length, get_or, take}
use Rattle.model.specs.declared.Description.{Description}
use Rattle.model.specs.Refusals.{no_link}
use Rattle.model.specs.Graph.{link_at}
use Rattle.std.proofs.lemmas.List.{get_or-take, length-take}

module _ {A : Type 0} (n : ℕ) (l : List A) (i : ℕ) where
  -- one of them is below n, and stands there in the whole list
  pub front_below : i < length (take n l) → i < n
  front_below h = omega (arith, length-take n l)

  pub front_at : (d : A) → i < length (take n l) → get_or (take n l) i d ≡ get_or l i d
  front_at d h = get_or-take n l i d (front_below h)

  -- past the last of them all n are met
  pub front_all : n ≤ length l → length (take n l) ≤ i → n ≤ i
  front_all s h = omega (arith, length-take n l)

-- the links of a description, one after the other
module _ (d : Description) (l : ℕ) (h : l < length (take d.link_count d.links)) where
  pub link_below : l < d.link_count
  link_below = front_below d.link_count d.links l h

  pub link_here : get_or (take d.link_count d.links) l no_link ≡ link_at d l
  link_here = front_at d.link_count d.links l no_link h

-- past the last one all are met
pub links_met : (d : Description) (l : ℕ) → length d.links ≡ 256 → d.link_count ≤ 256 → l ≤ length (take d.link_count d.links) → length (take d.link_count d.links) ≤ l → l ≡ d.link_count
links_met d l z few p q = omega (arith, length-take d.link_count d.links)
