-- Decimal digits at the front of a text, and what they stand for.
use Rattle.std.specs.Prelude.{ℕ, ◌+◌, ◌-◌, ◌*◌, ◌^◌, List, [], ◌∷◌, length, if◌then◌else◌}
use Rattle.std.specs.Char.{is_ascii_digit}

-- the digits at the front, as many as there are
abbrev pub front : List ℕ → List ℕ
front [] = []
front (b ∷ bs) = if is_ascii_digit b then b ∷ front bs else []

-- what stands behind them
abbrev pub behind : List ℕ → List ℕ
behind [] = []
behind (b ∷ bs) = if is_ascii_digit b then behind bs else b ∷ bs

-- what digits stand for, each of them by its place
abbrev pub value_of : List ℕ → ℕ
value_of [] = 0
value_of (digit ∷ digits) = (digit - 48) * 10 ^ length digits + value_of digits
