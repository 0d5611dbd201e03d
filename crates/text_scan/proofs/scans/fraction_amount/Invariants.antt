use Rattle.std.proofs.Common.{◌≤◌, ◌<◌, ◌*◌, ◌^◌, length, drop}
use Rattle.text_scan.specs.Digits.{value_of}
use Rattle.text_scan.specs.Scans.{HasParts}
use Rattle.text_scan.proofs.scans.fraction_amount.Given as goal

-- the digits from here on are summed up
abbrev pub invariant-loop-place : goal.invariant-loop-place
invariant-loop-place l =
    let rest = drop l.place l.digits in
    record {
      within : l.place ≤ length l.digits;
      parts_are : HasParts (l.unit * value_of rest) (10 ^ length rest) l.parts l.inexact;
      low : l.parts < l.unit;
    }

abbrev pub decreases-loop-place : goal.decreases-loop-place
decreases-loop-place l = l.place
