-- The least of some numbers, by tests of whether one is at most a limit.
use Rattle.std.specs.Prelude.{◌≡◌, ℤ, ◌||◌, int_le, Bool, false, List, [], ◌∷◌, Option, Some, None}
use Rattle.std.specs.List.{list_any}
use Rattle.std.proofs.Common.{refl, ◌∙◌, ap, arith, true≢false}
use Rattle.std.proofs.lemmas.Int.{ints}
use Rattle.bud_design.specs.Lists.{least, lesser}

-- there is a number, at most the limit
abbrev pub is_at_most : Option ℤ → ℤ → Bool
is_at_most None limit = false
is_at_most (Some z) limit = int_le z limit

pub lesser-at_most : (z : ℤ) (o : Option ℤ) (limit : ℤ) → int_le (lesser z o) limit ≡ int_le z limit || is_at_most o limit
lesser-at_most z None limit = grind arith
lesser-at_most z (Some y) limit = grind (arith, ints)

pub least-at_most : (zs : List ℤ) (limit : ℤ) → is_at_most (least zs) limit ≡ list_any (λ z. int_le z limit) zs
least-at_most [] limit = refl
least-at_most (z ∷ zs) limit = lesser-at_most z (least zs) limit ∙ ap (λ b. int_le z limit || b) (least-at_most zs limit)

-- the tests decide the number
pub same-by_tests : (o p : Option ℤ) → ((limit : ℤ) → is_at_most o limit ≡ is_at_most p limit) → o ≡ p
same-by_tests None None same = refl
same-by_tests None (Some y) same = let here = same y in absurd (true≢false (grind (arith, ints)))
same-by_tests (Some z) None same = let here = same z in absurd (true≢false (grind (arith, ints)))
same-by_tests (Some z) (Some y) same =
    let first = same z in
    let second = same y in
    let equal : z ≡ y = grind (arith, ints) in
    ap (λ x. Some x) equal
