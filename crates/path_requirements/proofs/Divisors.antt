-- The greatest common divisor, one division after the other.
use Rattle.std.specs.Prelude.{◌≡◌, ℕ, zero, suc, ◌<◌, ◌==◌, ◌%◌, false}
use Rattle.std.proofs.Common.{refl, arith}
use Rattle.std.proofs.lemmas.Nat.{mod_below}
use Rattle.bud_design.specs.Clocks.{divisor_in, common_divisor}

-- more divisions than are needed change nothing
divisor_in-enough : (n m a b : ℕ) → b < n → b < m → divisor_in n a b ≡ divisor_in m a b
divisor_in-enough zero m a b first second = absurd (omega (arith, first))
divisor_in-enough (suc n) zero a b first second = absurd (omega (arith, second))
divisor_in-enough (suc n) (suc m) a zero first second = refl
divisor_in-enough (suc n) (suc m) a (suc b) first second =
    let other : (suc b == 0) ≡ false = grind arith in
    let less = mod_below a (suc b) (omega arith) in
    rw other (divisor_in-enough n m (suc b) (a % suc b) (omega (arith, first, less)) (omega (arith, second, less)))

-- one division
pub common_divisor-step : (a b : ℕ) → 0 < b → common_divisor a b ≡ common_divisor b (a % b)
common_divisor-step a zero some = absurd (omega (arith, some))
common_divisor-step a (suc b) some =
    let other : (suc b == 0) ≡ false = grind arith in
    let less = mod_below a (suc b) (omega arith) in
    rw other (divisor_in-enough (suc b) (suc (a % suc b)) (suc b) (a % suc b) less (omega arith))

pub common_divisor-end : (a b : ℕ) → b ≡ 0 → common_divisor a b ≡ a
common_divisor-end a zero none = refl
common_divisor-end a (suc b) none = absurd (omega (arith, none))
