-- The lines of a text with their numbers.
use Rattle.std.specs.Prelude.{ℕ, ◌+◌, List, [], ◌∷◌, filter}
use Rattle.line_text.specs.Parts.{Part, cut_at, is_feed, is_row}
use Rattle.line_text.specs.Spans.{part_of}
use Rattle.edit_reader.specs.declared.numbered.NumberedLine.{NumberedLine}

-- a line, and its number among all lines of the text
pub record Line : Type 0 where
  pub number : ℕ
  pub part : Part

-- these lines, the first of them with this number
abbrev pub numbered : ℕ → List Part → List Line
numbered n [] = []
numbered n (part ∷ parts) = record { number = n; part = part } ∷ numbered (n + 1) parts

-- the lines of a part of a text that are not skipped; the first line of the part has this number
unfoldable pub lines_from : ℕ → Part → List Line
lines_from n text = filter (λ line. is_row line.part) (numbered n (cut_at is_feed text))

-- those of a whole text, which are numbered from 1, skipped ones included
abbrev pub lines_of : List ℕ → List Line
lines_of text = lines_from 1 (record { at = 0; bytes = text })

abbrev pub line_of : NumberedLine → Line
line_of line = record { number = line.number; part = part_of line.part }
