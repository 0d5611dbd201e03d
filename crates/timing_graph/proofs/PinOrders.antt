-- The order of pairs of pins.
use Rattle.std.specs.Prelude.{◌≡◌, ℕ, ◌<◌, ◌≤◌, ◌+◌, ◌*◌, ◌&&◌, ◌||◌, ◌==◌, nat_lt, Bool, true, false, ◌⊎◌}
use Rattle.std.proofs.Common.{refl, sym, ◌∙◌, arith, inl, inr, true≢false}
use Rattle.bud_design.specs.Orders.{pins_before}

pub before-means : (a b c d : ℕ) → pins_before a b c d ≡ true → (a < c) ⊎ ((a ≡ c) × (b < d))
before-means a b c d before = by_first (nat_lt a c) refl before
  where
    by_first : (t : Bool) → nat_lt a c ≡ t → t || (a == c && nat_lt b d) ≡ true → (a < c) ⊎ ((a ≡ c) × (b < d))
    by_first true less before = inl (grind arith)
    by_first false most before = inr (grind arith, grind arith)

pub before-from_first : (a b c d : ℕ) → a < c → pins_before a b c d ≡ true
before-from_first a b c d less = grind arith

pub before-from_second : (a b c d : ℕ) → a ≡ c → b < d → pins_before a b c d ≡ true
before-from_second a b c d same less = grind arith

pub before-never_itself : (a b : ℕ) → pins_before a b a b ≡ false
before-never_itself a b = grind arith

pub before-trans : (a b c d e f : ℕ) → pins_before a b c d ≡ true → pins_before c d e f ≡ true → pins_before a b e f ≡ true
before-trans a b c d e f first second = elim (before-means a b c d first) [
  | inl less ↦ elim (before-means c d e f second) [
    | inl later ↦ before-from_first a b e f (omega (arith, less, later))
    | inr then ↦ before-from_first a b e f (omega (arith, less, then.0))
  ]
  | inr same ↦ elim (before-means c d e f second) [
    | inl later ↦ before-from_first a b e f (omega (arith, same.0, later))
    | inr then ↦ before-from_second a b e f (same.0 ∙ then.0) (omega (arith, same.1, then.1))
  ]
]

-- of two pairs with different pins the one with the lesser number comes first
pub before-from_key : (a b c d : ℕ) → b < 4294967296 → d < 4294967296 → a * 4294967296 + b ≤ c * 4294967296 + d → (a ≡ c → b ≡ d → ⊥) → pins_before a b c d ≡ true
before-from_key a b c d small other most apart = by_first (nat_lt a c) refl
  where
    by_first : (t : Bool) → nat_lt a c ≡ t → pins_before a b c d ≡ true
    by_first true less = before-from_first a b c d (grind arith)
    by_first false not_less =
        let at_least : c ≤ a = grind arith in
        let same : a ≡ c = omega (arith, at_least, most, small, other) in
        by_second (nat_lt b d) refl same
      where
        by_second : (t : Bool) → nat_lt b d ≡ t → a ≡ c → pins_before a b c d ≡ true
        by_second true less same = before-from_second a b c d same (grind arith)
        by_second false not_less same =
            let least : d ≤ b = grind arith in
            let equal : b ≡ d = omega (arith, least, most, same) in
            absurd (apart same equal)
