-- Constants: a width, a base and digits.
use Rattle.std.specs.Prelude.{ℕ, ◌+◌, ◌-◌, ◌==◌, ◌&&◌, ◌||◌, nat_le, nat_lt, length, drop, Bool, List, [], ◌∷◌, Option, Some, None, if◌then◌else◌}
use Rattle.std.specs.Char.{is_ascii_digit}
use Rattle.std.specs.List.{list_all}
use Rattle.std.specs.Str.{byte}
use Rattle.text_scan.specs.Left.{◌>>=◌}
use Rattle.verilog_lex.specs.Kinds.{bytes_of, names}
use Rattle.verilog_lex.specs.declared.kinds.Token.{Token}
use Rattle.verilog_reader.specs.Left.{Left, Production, Word, next, breached, with_tokens}
use Rattle.verilog_reader.specs.Words.{sign}
use Rattle.verilog_reader.specs.Numbers.{number, value_up_to}
use Rattle.bud_syntax.specs.declared.modules.Piece.{Piece}
use Rattle.bud_syntax.specs.declared.modules.Piece.TheVariants.{Const}

-- how many digits the base has: b, o, d or h in either case
abbrev pub radix_of : List ℕ → Option ℕ
radix_of [] = None
radix_of (b ∷ _) =
    if b == 98 || b == 66 then Some 2
    else (if b == 111 || b == 79 then Some 8
    else (if b == 100 || b == 68 then Some 10
    else (if b == 104 || b == 72 then Some 16 else None)))

-- a digit from 0 to 9, or a to f for 10 to 15 in either case, below the number of digits; else x, z, `?` or `_`
abbrev pub is_digit_of : ℕ → ℕ → Bool
is_digit_of radix b =
    (is_ascii_digit b && nat_lt (b - 48) radix)
    || (radix == 16 && ((nat_le 97 b && nat_le b 102) || (nat_le 65 b && nat_le b 70)))
    || b == 120 || b == 88 || b == 122 || b == 90 || b == 63 || b == 95

-- what is left behind the words of such digits that stand directly one behind the other, the first at this offset
abbrev pub behind_digits : ℕ → List ℕ → ℕ → List Token → List Token
behind_digits radix text end [] = []
behind_digits radix text end (t ∷ ts) =
    if t.at == end && list_all (is_digit_of radix) (bytes_of text t)
    then behind_digits radix text (t.at + length (bytes_of text t)) ts
    else t ∷ ts

-- the digits that go on in this word, of which the first so many bytes are none, and in the words directly behind it
abbrev pub digits_from : ℕ → ℕ → Word → Left → Option Left
digits_from radix skipped word s =
    if list_all (is_digit_of radix) (drop skipped word.bytes)
    then Some (with_tokens s (behind_digits radix s.text (word.at + length word.bytes) s.tokens))
    else None

-- at least one digit, in the word of the base or behind it
unfoldable pub digits : ℕ → Word → Left → Option Left
digits radix base s =
    if nat_lt 1 (length base.bytes)
    then digits_from radix 1 base s
    else (do
      (word, s) ← next s
      digits_from radix 0 word s)

-- how many digits the base has that this word begins
abbrev pub radix_in : Word → Option ℕ
radix_in word = if names word.kind then radix_of word.bytes else None

-- base digits, the digits without white space
unfoldable pub spelled : Left → Option Left
spelled s = do
  (base, s) ← next s
  radix ← radix_in base
  digits radix base s

-- a width is from 1 to 65,536
abbrev pub is_width : ℕ → Bool
is_width n = nat_le 1 n && nat_le n 65536

-- num "'" base digits; only the width counts, and what is no width is a breach
unfoldable pub constant : Production Piece
constant s = do
  (word, s) ← number s
  s ← sign (byte "'") s
  s ← spelled s
  Some (Const (value_up_to word.bytes), if is_width (value_up_to word.bytes) then s else breached word.at s)
