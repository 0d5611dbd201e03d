-- Products of whole numbers.
use Rattle.std.proofs.Common.{◌≡◌, ℤ, pos, negsuc, ◌+ℤ◌, ◌*ℤ◌, ◌-ℤ◌, ◌≤ℤ◌, ◌*◌, ◌+◌, arith, refl, ap, ◌∙◌}
use Rattle.std.proofs.Math.IntN.{*ℤ_comm}
use Rattle.std.proofs.Math.Nat.{mul-le-mul_left}
use Rattle.std.proofs.lemmas.Int.{ints}
use borrow.Author.Differences.{up, down, sum_is_lem, le_out}

pub mul-add : (a b c : ℤ) → a *ℤ (b +ℤ c) ≡ a *ℤ b +ℤ a *ℤ c
mul-add a b c = omega (arith, ints, ap (λ n. up a * n) (sum_is_lem b c), ap (λ n. down a * n) (sum_is_lem b c))

pub mul-sub : (a b c : ℤ) → a *ℤ (b -ℤ c) ≡ a *ℤ b -ℤ a *ℤ c
mul-sub a b c =
    let parts : up (b -ℤ c) + down b + up c ≡ down (b -ℤ c) + up b + down c = omega (arith, ints) in
    omega (arith, ints, ap (λ n. up a * n) parts, ap (λ n. down a * n) parts)

pub add-mul : (a b c : ℤ) → (a +ℤ b) *ℤ c ≡ a *ℤ c +ℤ b *ℤ c
add-mul a b c = rw (*ℤ_comm (a +ℤ b) c, mul-add c a b, *ℤ_comm c a, *ℤ_comm c b) refl

pub sub-mul : (a b c : ℤ) → (a -ℤ b) *ℤ c ≡ a *ℤ c -ℤ b *ℤ c
sub-mul a b c = *ℤ_comm (a -ℤ b) c ∙ mul-sub c a b ∙ ap (λ x. x -ℤ c *ℤ b) (*ℤ_comm c a) ∙ ap (λ x. a *ℤ c -ℤ x) (*ℤ_comm c b)

-- a factor of at least 0 keeps the order
pub mul-le : (a b c : ℤ) → pos 0 ≤ℤ a → b ≤ℤ c → (a *ℤ b) ≤ℤ (a *ℤ c)
mul-le (pos a) b c low below = omega (arith, ints, mul-le-mul_left a (le_out b c below))
mul-le (negsuc a) b c low below = absurd (omega (arith, ints))
