-- The bytes of delay files (IEEE 1497): how far the stretches reach that make up a text.
use Rattle.std.specs.Prelude.{ℕ, ◌+◌, ◌==◌, ◌||◌, ◌&&◌, not, Bool, List, [], ◌∷◌, Option, Some, None, if◌then◌else◌}
use Rattle.std.specs.Char.{is_ascii_alphanumeric, is_ascii_graphic}
use Rattle.std.specs.Option.{option_map}

-- white space: a space, tab, line feed, carriage return or form feed
abbrev pub is_white : ℕ → Bool
is_white b = b == 32 || b == 9 || b == 10 || b == 13 || b == 12

-- a letter, a digit, `_` or `$`
abbrev pub is_plain : ℕ → Bool
is_plain b = is_ascii_alphanumeric b || b == 95 || b == 36

-- a byte that a word may have as it stands: also `.`, `/`, `[` and `]`
abbrev pub is_wordly : ℕ → Bool
is_wordly b = is_plain b || b == 46 || b == 47 || b == 91 || b == 93

-- `//` or `/*`
abbrev pub opens_comment : ℕ → ℕ → Bool
opens_comment b c = b == 47 && (c == 47 || c == 42)

-- how many bytes the first piece of a word takes: two for a backslash and the printable character after it, and one for
-- another byte of words, where no comment begins
abbrev pub unit : List ℕ → ℕ
unit [] = 0
unit (b ∷ []) = if is_wordly b then 1 else 0
unit (b ∷ c ∷ _) =
    if b == 92
    then (if is_ascii_graphic c then 2 else 0)
    else (if is_wordly b && not (opens_comment b c) then 1 else 0)

-- how many bytes the word at the front takes, as many as there are
unfoldable pub word_length : List ℕ → ℕ
word_length [] = 0
word_length (b ∷ []) = unit (b ∷ [])
word_length (b ∷ c ∷ bs) =
    if unit (b ∷ c ∷ bs) == 0
    then 0
    else (if unit (b ∷ c ∷ bs) == 1 then 1 + word_length (c ∷ bs) else 2 + word_length bs)

-- how many bytes a character of a string takes that begins with this byte: two where it is a backslash
abbrev pub string_unit : ℕ → ℕ
string_unit b = if b == 92 then 2 else 1

-- this many bytes further on
abbrev pub further : ℕ → Option ℕ → Option ℕ
further n found = option_map (λ m. n + m) found

-- behind the quote that opens a string: how many bytes there are up to and with the one that closes it. A backslash and
-- the character after it belong to the string.
unfoldable pub string_length : List ℕ → Option ℕ
string_length [] = None
string_length (b ∷ []) = if b == 34 then Some 1 else None
string_length (b ∷ c ∷ bs) =
    if b == 34
    then Some 1
    else (if b == 92 then further 2 (string_length bs) else further 1 (string_length (c ∷ bs)))

-- behind `/*`: how many bytes there are up to and with the first `*/`
unfoldable pub comment_length : List ℕ → Option ℕ
comment_length [] = None
comment_length (b ∷ []) = None
comment_length (b ∷ c ∷ bs) = if b == 42 && c == 47 then Some 2 else further 1 (comment_length (c ∷ bs))

-- how many bytes there are before the first line feed
unfoldable pub line_length : List ℕ → ℕ
line_length [] = 0
line_length (b ∷ bs) = if b == 10 then 0 else 1 + line_length bs
