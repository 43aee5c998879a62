-- The header by a table of tags: rows of a table that has the tag 6 alone, with bodies of length 6, and rows of the description's table.
use Rattle.std.specs.Prelude.{ℕ, List, [], ◌∷◌, ◌≡◌}
use Rattle.model.specs.declared.Refusal.TheVariants.{CutShort, StrangeTag, WrongLength}
use Rattle.model.specs.Header.{Body, Faulty, Ended, header_at}
use Rattle.model.specs.Field.{field_tags}

abbrev pub six_tags : List ℕ
six_tags = 0 ∷ 0 ∷ 0 ∷ 0 ∷ 0 ∷ 0 ∷ 0 ∷ 0 ∷ 0 ∷ 0 ∷ 0 ∷ 0 ∷ 6 ∷ 6 ∷ []

-- a field of this tag and length whose body has six bytes
abbrev pub six_bytes : ℕ → ℕ → List ℕ
six_bytes tag n = tag ∷ 0 ∷ n ∷ 1 ∷ 2 ∷ 3 ∷ 4 ∷ 5 ∷ 6 ∷ []

pub record HeaderFigures : Type 0 where
  pub whole : header_at six_tags (six_bytes 6 6) 0 ≡ Body 6 3 6
  pub end : header_at six_tags (six_bytes 6 6) 9 ≡ Ended
  pub cut_header : header_at six_tags (6 ∷ 0 ∷ []) 0 ≡ Faulty CutShort
  -- a tag that another table has, and one past this table; told before the length
  pub tag_4 : header_at six_tags (six_bytes 4 3) 0 ≡ Faulty StrangeTag
  pub tag_7 : header_at six_tags (six_bytes 7 6) 0 ≡ Faulty StrangeTag
  pub tag_0 : header_at six_tags (six_bytes 0 0) 0 ≡ Faulty StrangeTag
  -- a length of another number is told before a body that passes the end
  pub length-5 : header_at six_tags (six_bytes 6 5) 0 ≡ Faulty WrongLength
  pub length-7 : header_at six_tags (six_bytes 6 7) 0 ≡ Faulty WrongLength
  pub cut_body : header_at six_tags (6 ∷ 0 ∷ 6 ∷ 1 ∷ 2 ∷ 3 ∷ 4 ∷ 5 ∷ []) 0 ≡ Faulty CutShort
  -- by the description's table the tag 6 is strange, and tag 4 has bodies of length 3
  pub field_6 : header_at field_tags (six_bytes 6 6) 0 ≡ Faulty StrangeTag
  pub field_4 : header_at field_tags (six_bytes 4 3) 0 ≡ Body 4 3 3
