-- Greatest members of sets of whole numbers that have a bound. In general a greatest member can't be computed, so it is shown that there isn't none.
use Rattle.std.proofs.Common.{◌==◌, ℕ, zero, suc, ℤ, pos, ◌+ℤ◌, ◌≤ℤ◌, ◌+◌, ◌<◌, arith, cond, refl, inl, inr, eq-eqb}
use Rattle.std.proofs.lemmas.Bool.{cases_eq, ne_eqb}
use Rattle.std.proofs.lemmas.Int.{ints, by_lt_z}
use borrow.Author.Differences.{up, down}

-- the number is in the set, and no member of the set is above it
pub record IsGreatest (In : ℤ → Type 0) (x : ℤ) : Type 0 where
  pub member : In x
  pub most : (y : ℤ) → In y → y ≤ℤ x

-- where there is no greatest member none is within `steps` of the bound
no_member : (In : ℤ → Type 0) (bound : ℤ) → ((y : ℤ) → In y → y ≤ℤ bound) → ((x : ℤ) → IsGreatest In x → ⊥)
    → (steps : ℕ) (x : ℤ) → In x → bound ≤ℤ (x +ℤ pos steps) → ⊥
no_member In bound bounded none zero x member near =
    none x (record { member = member; most = λ y in'. let high : y ≤ℤ bound = bounded y in' in omega (arith, ints) })
no_member In bound bounded none (suc steps) x member near =
    none x (record {
      member = member;
      most = λ y in'. by_lt_z x y (λ above. absurd (no_member In bound bounded none steps y in' (omega (arith, ints)))) (λ within. within);
    })

-- a set with a member and a bound isn't without a greatest member
pub IsGreatest-exists : (In : ℤ → Type 0) (x bound : ℤ) → In x → ((y : ℤ) → In y → y ≤ℤ bound) → ((y : ℤ) → IsGreatest In y → ⊥) → ⊥
IsGreatest-exists In x bound member bounded none =
    no_member In bound bounded none (up bound + down x) x member (omega (arith, ints))

-- one set more
IsGreatest-more : (In : ℕ → ℤ → Type 0) (n : ℕ) (a : ℕ → ℤ) (y : ℤ) → ((v : ℕ) → v < n → IsGreatest (In v) (a v)) → IsGreatest (In n) y
    → (v : ℕ) → v < suc n → IsGreatest (In v) (cond (v == n) y (a v))
IsGreatest-more In n a y each greatest v below = elim (cases_eq v n) [
  | inl same ↦ rw (same, eq-eqb n n refl) greatest
  | inr differs ↦ rw (ne_eqb v n differs) (each v (omega arith))
]

-- so numbers that are greatest in each of so many sets aren't wanting
pub IsGreatest-each : (In : ℕ → ℤ → Type 0) (n : ℕ) → ((v : ℕ) → v < n → ((y : ℤ) → IsGreatest (In v) y → ⊥) → ⊥)
    → ((a : ℕ → ℤ) → ((v : ℕ) → v < n → IsGreatest (In v) (a v)) → ⊥) → ⊥
IsGreatest-each In zero exists none = none (λ v. pos 0) (λ v below. absurd (omega arith))
IsGreatest-each In (suc n) exists none =
    IsGreatest-each In n (λ v below. exists v (omega arith)) (λ a each.
    exists n (omega arith) (λ y greatest. none (λ v. cond (v == n) y (a v)) (IsGreatest-more In n a y each greatest)))
