use Rattle.std.proofs.Common.{◌≡◌, ◌≤◌, min, drop}
use Rattle.std.specs.Str.{all_ascii_digits}
use Rattle.text_scan.specs.Digits.{value_of}
use Rattle.text_scan.proofs.DigitLemmas.{read_on}
use Rattle.line_text.proofs.numbers.natural.Given as goal

-- what is left decides, after what has been read
abbrev pub invariant-loop-digit : goal.invariant-loop-digit
invariant-loop-digit l =
    let rest = drop l.digit-index l.digits in
    record {
      low : l.value ≤ 18446744073709551615;
      are_digits : all_ascii_digits rest ≡ all_ascii_digits l.digits;
      read : read_on 18446744073709551615 l.value rest ≡ min (value_of l.digits) 18446744073709551615;
    }
