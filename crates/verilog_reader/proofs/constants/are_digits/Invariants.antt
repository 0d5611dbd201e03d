use Rattle.std.proofs.Common.{◌≡◌, drop}
use Rattle.std.specs.List.{list_all}
use Rattle.verilog_reader.specs.Constants.{is_digit_of}
use Rattle.verilog_reader.proofs.constants.are_digits.Given as goal

-- what is left decides
abbrev pub invariant-loop-byte : goal.invariant-loop-byte
invariant-loop-byte l = list_all (is_digit_of l.radix) (drop l.byte-index l.bytes) ≡ list_all (is_digit_of l.radix) l.bytes
