-- Products of whole numbers.
use Rattle.std.proofs.Common.{◌≡◌, ℤ, ◌+ℤ◌, ◌*ℤ◌, ◌-ℤ◌, ◌*◌, ◌+◌, arith, refl, ap, ◌∙◌}
use Rattle.std.proofs.Math.IntN.{*ℤ_comm}
use Rattle.std.proofs.lemmas.Int.{ints}
use borrow.Author.Differences.{up, down, sum_is_lem}

pub mul-add : (a b c : ℤ) → a *ℤ (b +ℤ c) ≡ a *ℤ b +ℤ a *ℤ c
mul-add a b c = omega (arith, ints, ap (λ n. up a * n) (sum_is_lem b c), ap (λ n. down a * n) (sum_is_lem b c))

mul-sub : (a b c : ℤ) → a *ℤ (b -ℤ c) ≡ a *ℤ b -ℤ a *ℤ c
mul-sub a b c =
    let parts : up (b -ℤ c) + down b + up c ≡ down (b -ℤ c) + up b + down c = omega (arith, ints) in
    omega (arith, ints, ap (λ n. up a * n) parts, ap (λ n. down a * n) parts)

pub add-mul : (a b c : ℤ) → (a +ℤ b) *ℤ c ≡ a *ℤ c +ℤ b *ℤ c
add-mul a b c = rw (*ℤ_comm (a +ℤ b) c, mul-add c a b, *ℤ_comm c a, *ℤ_comm c b) refl

pub sub-mul : (a b c : ℤ) → (a -ℤ b) *ℤ c ≡ a *ℤ c -ℤ b *ℤ c
sub-mul a b c = *ℤ_comm (a -ℤ b) c ∙ mul-sub c a b ∙ ap (λ x. x -ℤ c *ℤ b) (*ℤ_comm c a) ∙ ap (λ x. a *ℤ c -ℤ x) (*ℤ_comm c b)
