-- Numbers cut to what is past all ranges.
use Rattle.std.specs.Prelude.{ℤ, pos, ◌-ℤ◌, int_le, if◌then◌else◌}

-- the number, or 2^62 + 1 on the same side of 0 where it passes that
abbrev pub clipped : ℤ → ℤ
clipped n =
    if int_le (pos 4611686018427387905) n then pos 4611686018427387905
    else (if int_le n (pos 0 -ℤ pos 4611686018427387905) then pos 0 -ℤ pos 4611686018427387905 else n)

-- the same past 2^100 + 1
abbrev pub wide_clipped : ℤ → ℤ
wide_clipped n =
    if int_le (pos 1267650600228229401496703205377) n then pos 1267650600228229401496703205377
    else (if int_le n (pos 0 -ℤ pos 1267650600228229401496703205377) then pos 0 -ℤ pos 1267650600228229401496703205377 else n)
