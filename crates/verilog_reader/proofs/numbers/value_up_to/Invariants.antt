use Rattle.std.proofs.Common.{◌≡◌, ◌≤◌, drop}
use Rattle.text_scan.proofs.DigitLemmas.{read_on}
use Rattle.verilog_reader.specs.Numbers.{value_up_to}
use Rattle.verilog_reader.proofs.numbers.value_up_to.Given as goal

-- what is left decides, after what has been read
abbrev pub invariant-loop-digit : goal.invariant-loop-digit
invariant-loop-digit l = record {
  low : l.value ≤ 1000001;
  read : read_on 1000001 l.value (drop l.digit-index l.digits) ≡ value_up_to l.digits;
}
