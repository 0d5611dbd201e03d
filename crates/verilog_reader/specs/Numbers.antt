-- Numbers in brackets, and ranges.
use Rattle.std.specs.Prelude.{ℕ, min, nat_le, List, Option, Some, None, if◌then◌else◌}
use Rattle.std.specs.Str.{byte}
use Rattle.text_scan.specs.Digits.{value_of}
use Rattle.text_scan.specs.Left.{◌>>=◌}
use Rattle.verilog_lex.specs.Kinds.{numbers}
use Rattle.verilog_reader.specs.Left.{Production, Word, next, begins, breached}
use Rattle.verilog_reader.specs.Words.{sign, is_sign}
use Rattle.bud_syntax.specs.declared.modules.Range.{Range}

-- a number, as a word
unfoldable pub number : Production Word
number s = do
  (word, s) ← next s
  if numbers word.kind then Some (word, s) else None

-- what digits stand for, where 1,000,001 stands for all that is more
abbrev pub value_up_to : List ℕ → ℕ
value_up_to digits = min (value_of digits) 1000001

-- a number up to 1,000,000; a greater one is a breach
unfoldable pub num : Production ℕ
num s = do
  (word, s) ← number s
  Some (value_up_to word.bytes, if nat_le (value_up_to word.bytes) 1000000 then s else breached word.at s)

-- "[" num ":" num "]"
unfoldable pub range : Production Range
range s = do
  s ← sign (byte "[") s
  (first, s) ← num s
  s ← sign (byte ":") s
  (last, s) ← num s
  s ← sign (byte "]") s
  Some (record { left = first; right = last }, s)

-- [range]
unfoldable pub maybe_range : Production (Option Range)
maybe_range s =
    if begins (is_sign (byte "[")) s
    then (do
      (r, s) ← range s
      Some (Some r, s))
    else Some (None, s)
