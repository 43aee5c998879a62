use native.Mathlib.Numerals.{towards_suc}
use Rattle.model.specs.Header.{bytes_of}
use Rattle.writing.proofs.put_swung.Goals as goal

pub returns : goal.returns
unfolding bytes_of
returns c = rw c.put_paced.ensures (simp towards_suc)
