use Rattle.std.proofs.Common.{◌≡◌, ◌≤◌, min, drop}
use Rattle.std.specs.Str.{all_ascii_digits}
use Rattle.text_scan.specs.Digits.{value_of}
use Rattle.text_scan.proofs.DigitLemmas.{read_on}
use Rattle.line_text.proofs.wide.wide_natural.Given as goal

-- what is left decides, after what has been read
abbrev pub invariant-loop-digit : goal.invariant-loop-digit
invariant-loop-digit l =
    let rest = drop l.digit-index l.digits in
    record {
      low : l.value ≤ 340282366920938463463374607431768211455;
      are_digits : all_ascii_digits rest ≡ all_ascii_digits l.digits;
      read : read_on 340282366920938463463374607431768211455 l.value rest ≡ min (value_of l.digits) 340282366920938463463374607431768211455;
    }
