-- What is done at a token, as the code has it.
use Rattle.std.specs.Prelude.{ℕ, ◌≤◌, length}
use Rattle.std.specs.List.{All}
use Rattle.verilog_lex.specs.Tokens.{IsWithin}
use Rattle.verilog_words.specs.Outside as outside
use Rattle.verilog_words.specs.Outside.Turn.{passes, keeps}
use Rattle.verilog_words.specs.declared.regions.Turn.{Turn}
use Rattle.verilog_words.specs.declared.regions.Turn.TheVariants.{Passes, Keeps}

abbrev pub turn_of : Turn → outside.Turn
turn_of (Passes rest) = passes rest.now
turn_of (Keeps leaves) = keeps leaves

-- what is left is within a text of this size, and has no more tokens than this
abbrev pub IsTurnWithin : ℕ → ℕ → Turn → Type 0
IsTurnWithin size most (Passes rest) = All (IsWithin size) rest.now × (length rest.now ≤ most)
IsTurnWithin size most (Keeps leaves) = Unit {0}
