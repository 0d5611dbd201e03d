-- Classes of bytes, and how far what stands at the front of a text may reach.
use Rattle.std.specs.Prelude.{ℕ, ◌<◌, ◌≤◌, Bool}
use Rattle.std.specs.Char.{is_ascii, is_ascii_digit, is_ascii_graphic}
use Rattle.verilog_lex.specs.Fronts.{is_white, is_of_name, is_of_line, is_of_string}
use Rattle.verilog_lex.specs.declared.classes.Class.{Class}
use Rattle.verilog_lex.specs.declared.classes.Class.TheVariants.{White, OfName, Digit, Graphic, OfLine, OfString, Ascii}
use Rattle.verilog_lex.specs.declared.fronts.Front.{Front}
use Rattle.verilog_lex.specs.declared.fronts.Front.TheVariants.{Skipped, Found, Refused}

abbrev pub passes : Class → ℕ → Bool
passes White b = is_white b
passes OfName b = is_of_name b
passes Digit b = is_ascii_digit b
passes Graphic b = is_ascii_graphic b
passes OfLine b = is_of_line b
passes OfString b = is_of_string b
passes Ascii b = is_ascii b

-- what is skipped or found has a byte, and ends within a text of this length; what is refused stands in it
abbrev pub IsFrontWithin : ℕ → Front → Type 0
IsFrontWithin size (Skipped n) = (1 ≤ n) × (n ≤ size)
IsFrontWithin size (Found kind n) = (1 ≤ n) × (n ≤ size)
IsFrontWithin size (Refused n) = n < size
