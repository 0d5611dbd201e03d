-- The draws that a made design is told by.
use Rattle.std.specs.Prelude.{ℕ, zero, suc, ◌+◌, ◌*◌, ◌/◌, ◌%◌}

-- the state behind one draw more
abbrev pub next : ℕ → ℕ
next x = (1103515245 * x + 12345) % 2147483648

-- the state behind so many draws
abbrev pub behind : ℕ → ℕ → ℕ
behind x zero = x
behind x (suc n) = next (behind x n)

-- what the n-th draw gives from a state on, n from 1
abbrev pub draw : ℕ → ℕ → ℕ
draw x n = behind x n / 65536
