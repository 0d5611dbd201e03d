-- Chains of assigns over bits that have numbers.
use Rattle.std.specs.Prelude.{◌≡◌, ℕ, zero, suc, ◌<◌, List, length, slice_index, All}

-- where so many steps lead, a step leading from a bit to the one that its number stands beside
unfoldable pub steps : ℕ → List ℕ → ℕ → ℕ
steps zero next b = b
steps (suc n) next b = steps n next (slice_index next b)

-- each bit's next one is among the bits
pub record StayWithin (next : List ℕ) : Type 0 where
  pub each : (b : ℕ) → b < length next → slice_index next b < length next

-- for each bit, where so many steps lead
pub record IsFollowed (count : ℕ) (next reached : List ℕ) : Type 0 where
  pub size : length reached ≡ length next
  pub far : (b : ℕ) → b < length next → slice_index reached b ≡ steps count next b

-- each bit's next one of the next one
pub record IsDoubled (far twice : List ℕ) : Type 0 where
  pub size : length twice ≡ length far
  pub each : (b : ℕ) → b < length far → slice_index twice b ≡ slice_index far (slice_index far b)
