-- Numbers within a bound.
use Rattle.std.proofs.Common.{ℕ, ℤ, pos, ◌<◌, List, length, set, inl, inr, get_or-set_same, get_or-set_other}
use Rattle.std.proofs.lemmas.Bool.{cases_eq}
use Rattle.bud_flow.specs.Sums.{number_at}
use Rattle.residual.specs.Bounds.{IsWithin, AllWithin}

-- a number of a list that one write changed
pub IsWithin-set : (bound : ℤ) (numbers : List ℤ) (i k : ℕ) (x : ℤ) → i < length numbers → IsWithin bound x → IsWithin bound (number_at numbers k)
    → IsWithin bound (number_at (set numbers i x) k)
IsWithin-set bound numbers i k x there new old = elim (cases_eq k i) [
  | inl same ↦ rw (same, get_or-set_same numbers i x (pos 0) there) new
  | inr other ↦ rw (get_or-set_other numbers i k x (pos 0) other) old
]

pub AllWithin-set : (bound : ℤ) (numbers : List ℤ) (i : ℕ) (x : ℤ) → i < length numbers → IsWithin bound x → AllWithin bound numbers
    → (k : ℕ) → k < length numbers → IsWithin bound (number_at (set numbers i x) k)
AllWithin-set bound numbers i x there new old k below = IsWithin-set bound numbers i k x there new (old k below)
