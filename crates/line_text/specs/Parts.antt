-- The parts of a text: its rows, which are the lines that are not skipped, and the fields of a row.
use Rattle.std.specs.Prelude.{◌≡◌, ℕ, ◌+◌, ◌==◌, ◌||◌, ◌&&◌, Bool, false, not, List, [], ◌∷◌, length, map, filter}
use Rattle.std.specs.List.{slice_split}

-- a part of a text: the offset at which it begins, and its bytes
pub record Part : Type 0 where
  pub at : ℕ
  pub bytes : List ℕ

-- these pieces one after the other, the first of them at this offset, with one byte between two
abbrev pub placed : ℕ → List (List ℕ) → List Part
placed at [] = []
placed at (bytes ∷ others) = record { at = at; bytes = bytes } ∷ placed (at + length bytes + 1) others

-- the parts that are left where a part is cut at each of these bytes
abbrev pub cut_at : (ℕ → Bool) → Part → List Part
cut_at cuts part = placed part.at (slice_split cuts part.bytes)

-- the first part of a cut, and what is behind the byte at which it is cut off, or nothing where the cut leaves one part
pub data IsCutOff (cuts : ℕ → Bool) (part first behind : Part) : Type 0 where
  cut : cut_at cuts part ≡ first ∷ cut_at cuts behind → IsCutOff cuts part first behind
  whole : cut_at cuts part ≡ first ∷ [] → behind.bytes ≡ [] → IsCutOff cuts part first behind

abbrev pub is_feed : ℕ → Bool
is_feed b = b == 10

-- a space or a tab
abbrev pub is_blank : ℕ → Bool
is_blank b = b == 32 || b == 9

abbrev pub is_empty : {A : Type 0} → List A → Bool
is_empty xs = length xs == 0

-- the line begins with `#`
abbrev pub begins_comment : List ℕ → Bool
begins_comment [] = false
begins_comment (b ∷ _) = b == 35

-- the fields of a line: the longest runs of bytes other than blanks
unfoldable pub fields : Part → List Part
fields line = filter (λ field. not (is_empty field.bytes)) (cut_at is_blank line)

-- the fields of a line that is not skipped
abbrev pub Row : Type 0
Row = List Part

-- the line is not skipped: it does not begin with `#`, and it has a field
abbrev pub is_row : Part → Bool
is_row line = not (begins_comment line.bytes) && not (is_empty (fields line))

-- the rows of a part of a text: its lines that are not skipped
unfoldable pub rows : Part → List Row
rows text = map fields (filter is_row (cut_at is_feed text))

-- the rows of a whole text
abbrev pub rows_of : List ℕ → List Row
rows_of text = rows (record { at = 0; bytes = text })
