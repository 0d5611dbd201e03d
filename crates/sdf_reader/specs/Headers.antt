-- Headers, which set the divider of names and the unit of values for the whole file.
use Rattle.std.specs.Prelude.{ℕ, ◌*◌, ◌-◌, ◌||◌, Bool, codes, List, take, drop, length, Option, Some, None, if◌then◌else◌}
use Rattle.std.specs.Str.{bytes_eq}
use Rattle.text_scan.specs.Left.{Left, ◌>>=◌, next}
use Rattle.sdf_lex.specs.Tokens.{Token}
use Rattle.sdf_reader.specs.Marks.{is_word, is_keyword, next_is, opening, closing, starts, word}
use Rattle.sdf_reader.specs.Until.{until}
use Rattle.sdf_reader.specs.Nests.{no_list, balanced}

-- the divider and the unit in ps; without headers they are `.` and 1,000
abbrev pub Set : Type 0
Set = ℕ × ℕ

-- the settings so far, and what is left
abbrev pub Heads : Type 0
Heads = Set × Left Token

abbrev pub divider_of : List ℕ → Option ℕ
divider_of bytes = if bytes_eq bytes (codes ".") then Some 46 else (if bytes_eq bytes (codes "/") then Some 47 else None)

-- `.` or `/`, and ")"
unfoldable pub divider : Left Token → Option (ℕ × Left Token)
divider left = do
  (token, left) ← word left
  d ← divider_of token.bytes
  left ← closing left
  Some (d, left)

abbrev pub times_of : List ℕ → Option ℕ
times_of bytes =
    if bytes_eq bytes (codes "1") || bytes_eq bytes (codes "1.0") then Some 1
    else (if bytes_eq bytes (codes "10") || bytes_eq bytes (codes "10.0") then Some 10
    else (if bytes_eq bytes (codes "100") || bytes_eq bytes (codes "100.0") then Some 100 else None))

-- in ps
abbrev pub unit_of : List ℕ → Option ℕ
unit_of bytes =
    if bytes_eq bytes (codes "us") then Some 1000000
    else (if bytes_eq bytes (codes "ns") then Some 1000
    else (if bytes_eq bytes (codes "ps") then Some 1 else None))

unfoldable pub scale_of : List ℕ → List ℕ → Option ℕ
scale_of times unit = do
  n ← times_of times
  u ← unit_of unit
  Some (n * u)

-- a number and a unit in two words
unfoldable pub two_words : List ℕ → Left Token → Option (ℕ × Left Token)
two_words first left = do
  (second, left) ← word left
  scale ← scale_of first second.bytes
  Some (scale, left)

-- or in one word, whose last two bytes are the unit
unfoldable pub one_word : List ℕ → Left Token → Option (ℕ × Left Token)
one_word first left = do
  scale ← scale_of (take (length first - 2) first) (drop (length first - 2) first)
  Some (scale, left)

abbrev pub words : List ℕ → Left Token → Option (ℕ × Left Token)
words first left = if next_is (λ token. is_word token.kind) left then two_words first left else one_word first left

-- a number and a unit, with or without space between, and ")"
unfoldable pub timescale : Left Token → Option (ℕ × Left Token)
timescale left = do
  (first, left) ← word left
  (scale, left) ← words first.bytes left
  left ← closing left
  Some (scale, left)

-- headers that set nothing
abbrev pub is_other_header : Token → Bool
is_other_header token =
    is_keyword (codes "SDFVERSION") token || is_keyword (codes "DESIGN") token || is_keyword (codes "DATE") token || is_keyword (codes "VENDOR") token
    || is_keyword (codes "PROGRAM") token || is_keyword (codes "VERSION") token || is_keyword (codes "VOLTAGE") token || is_keyword (codes "PROCESS") token
    || is_keyword (codes "TEMPERATURE") token

abbrev pub with_divider : Set → Option (ℕ × Left Token) → Option Heads
with_divider set read = do
  (divider, left) ← read
  Some ((divider, set.1), left)

abbrev pub with_unit : Set → Option (ℕ × Left Token) → Option Heads
with_unit set read = do
  (unit, left) ← read
  Some ((set.0, unit), left)

abbrev pub with_none : Set → Option (Left Token) → Option Heads
with_none set read = do
  left ← read
  Some (set, left)

-- what stands behind the word of a header
abbrev pub header_rest : Token → Heads → Option Heads
header_rest token (set, left) =
    if is_keyword (codes "DIVIDER") token then with_divider set (divider left)
    else (if is_keyword (codes "TIMESCALE") token then with_unit set (timescale left)
    else (if is_other_header token then with_none set (balanced left) else None))

-- "(" word balanced ")"; the last divider and the last unit stay
unfoldable pub header : Heads → Option Heads
header (set, left) = do
  left ← opening left
  (token, left) ← next left
  header_rest token (set, left)

-- a cell begins next, or no list at all
abbrev pub ends_headers : Heads → Bool
ends_headers s = no_list s.1 || starts (codes "CELL") s.1

-- {header}
unfoldable pub headers : Heads → Option Heads
headers s = until ends_headers header (length s.1.0) s
