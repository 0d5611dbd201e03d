-- The characters of a text, and what they are in words.
use Rattle.std.specs.Prelude.{ℕ, ◌==◌, ◌||◌, ◌&&◌, not, nat_lt, Bool, true, false, List, [], ◌∷◌, ◌++◌, length, if◌then◌else◌}
use Rattle.std.specs.Char.{is_ascii_digit}
use Rattle.tcl_words.specs.declared.characters.Character.{Character}
use Rattle.tcl_words.specs.declared.characters.Character.TheVariants.{Plain, Escaped}
use Rattle.tcl_words.specs.declared.characters.Scope.{Scope}
use Rattle.tcl_words.specs.declared.characters.Scope.TheVariants.{Line, Brackets}

-- the characters of a text: a backslash and the byte behind it are one, and so is any other byte
unfoldable pub characters : List ℕ → List Character
characters [] = []
characters (b ∷ []) = Plain b ∷ []
characters (b ∷ c ∷ bs) = if b == 92 then Escaped c ∷ characters bs else Plain b ∷ characters (c ∷ bs)

abbrev pub spelled : Character → List ℕ
spelled (Plain b) = b ∷ []
spelled (Escaped b) = 92 ∷ b ∷ []

-- the text that is made of these characters
abbrev pub spelling : List Character → List ℕ
spelling [] = []
spelling (c ∷ cs) = spelled c ++ spelling cs

-- how many bytes they are
abbrev pub size : List Character → ℕ
size cs = length (spelling cs)

-- this byte, without a backslash
abbrev pub is_byte : ℕ → Character → Bool
is_byte b (Plain c) = c == b
is_byte b (Escaped c) = false

-- the byte that a character stands for in bare and quoted words: a backslash before a line feed is a space
abbrev pub meaning : Character → ℕ
meaning (Plain b) = b
meaning (Escaped b) = if b == 10 then 32 else b

abbrev pub is_inside : Scope → Bool
is_inside Line = false
is_inside Brackets = true

-- white space: space, tab, form feed, carriage return, in brackets a line feed, and a backslash before a line feed
abbrev pub is_gap : Scope → Character → Bool
is_gap scope (Plain b) = b == 32 || (b == 9 || (b == 12 || (b == 13 || (is_inside scope && b == 10))))
is_gap scope (Escaped b) = b == 10

-- what ends a command, or brackets
abbrev pub is_end : Scope → Character → Bool
is_end Line (Plain b) = b == 10 || b == 59
is_end Brackets (Plain b) = b == 93
is_end Line (Escaped b) = false
is_end Brackets (Escaped b) = false

abbrev pub is_ascii : Character → Bool
is_ascii (Plain b) = nat_lt b 128
is_ascii (Escaped b) = nat_lt b 128

-- a dollar sign, a bracket that opens, or a backslash with nothing behind it
abbrev pub is_special : Character → Bool
is_special c = is_byte 36 c || (is_byte 91 c || is_byte 92 c)

-- a character that stands for itself in a bare word
abbrev pub is_ordinary : Scope → Character → Bool
is_ordinary scope c = is_ascii c && (not (is_gap scope c) && (not (is_end scope c) && not (is_special c)))

abbrev pub is_digit : Character → Bool
is_digit (Plain b) = is_ascii_digit b
is_digit (Escaped b) = false

-- a name character: a letter, a digit, `_`, or any behind a backslash
abbrev pub is_named : Character → Bool
is_named (Plain b) = is_ascii_digit b || (b == 95 || ((nat_lt 64 b && nat_lt b 91) || (nat_lt 96 b && nat_lt b 123)))
is_named (Escaped b) = true

-- a character of a word in quotes: all but a quote and a dollar sign without a backslash
abbrev pub is_quotable : Character → Bool
is_quotable c = not (is_byte 34 c) && not (is_byte 36 c)

-- a character with a line feed
abbrev pub is_feed : Character → Bool
is_feed (Plain b) = b == 10
is_feed (Escaped b) = b == 10
