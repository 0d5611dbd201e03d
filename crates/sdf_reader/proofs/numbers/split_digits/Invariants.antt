use Rattle.std.proofs.Common.{◌≡◌, ◌≤◌, ◌-◌, ◌++◌, length, take, drop}
use Rattle.text_scan.specs.Digits.{front, behind}
use Rattle.sdf_reader.proofs.numbers.split_digits.Given as goal

abbrev pub invariant-loop-length : goal.invariant-loop-length
invariant-loop-length l = record {
  within : l.length ≤ length l.text;
  front_is : take l.length l.text ++ front (drop l.length l.text) ≡ front l.text;
  behind_is : behind (drop l.length l.text) ≡ behind l.text;
}

abbrev pub decreases-loop-length : goal.decreases-loop-length
decreases-loop-length l = length l.text - l.length
