-- The form of names, with their printed form.
use Rattle.std.specs.Prelude.{◌≡◌, ℕ, ◌<◌, true, List, [], ◌∷◌, ◌++◌, length}
use Rattle.std.specs.Char.{is_ascii_graphic}
use Rattle.std.specs.Str.{all_ascii_digits}
use Rattle.sdf_lex.specs.Words.{is_plain}
use Rattle.sdf_reader.specs.Names.{escaped}

-- these bytes are a name, and those its printed form
pub data IsName (divider : ℕ) : List ℕ → List ℕ → Type 0 where
  none : IsName divider [] []
  plain : (b : ℕ) (bs ps : List ℕ) → is_plain b ≡ true → IsName divider bs ps → IsName divider (b ∷ bs) (b ∷ ps)
  split : (bs ps : List ℕ) → IsName divider bs ps → IsName divider (divider ∷ bs) (47 ∷ ps)
  bit : (digits bs ps : List ℕ) → all_ascii_digits digits ≡ true → 0 < length digits → IsName divider bs ps → IsName divider (91 ∷ (digits ++ 93 ∷ bs)) (91 ∷ (digits ++ 93 ∷ ps))
  escape : (b : ℕ) (bs ps : List ℕ) → is_ascii_graphic b ≡ true → IsName divider bs ps → IsName divider (92 ∷ b ∷ bs) (escaped b ++ ps)
