use Rattle.std.proofs.Common.{◌≡◌, ◌≤◌, min, drop, true}
use Rattle.std.specs.Str.{all_ascii_digits}
use Rattle.text_scan.specs.Digits.{value_of}
use Rattle.text_scan.proofs.DigitLemmas.{read_on}
use Rattle.text_scan.proofs.scans.whole_amount.Given as goal

-- what is left decides, after what has been read
abbrev pub invariant-loop-digit : goal.invariant-loop-digit
invariant-loop-digit l =
    let rest = drop l.digit-index l.digits in
    record {
      low : l.value ≤ 1000000001;
      are_digits : all_ascii_digits rest ≡ true;
      read : read_on 1000000001 l.value rest ≡ min (value_of l.digits) 1000000001;
    }
