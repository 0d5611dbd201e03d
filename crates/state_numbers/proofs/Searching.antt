-- A search in a list in order of classes and numbers.
use Rattle.std.proofs.Common.{◌≡◌, ℕ, suc, ◌+◌, ◌<◌, ◌≤◌, ◌==◌, ◌&&◌, ◌||◌, nat_lt, Bool, true, false, List, [], length, get_or, Option, None, refl, sym, ◌∙◌, ap, subst, inl, inr, arith, eq-eqb}
use Rattle.std.specs.Prelude.{All, AllPairs}
use Rattle.std.proofs.lemmas.Bool.{cases_lt, cases_eq, true≢false}
use Rattle.std.proofs.lemmas.List.{get_or_default}
use Rattle.state_numbers.specs.Placed.{placed_before, placed_at, IsPlaced}
use Rattle.state_numbers.specs.declared.placed.Placed.{Placed}
use Rattle.state_numbers.proofs.Rising.{placed_before-joins}

abbrev pub sought : ℕ → ℕ → Placed
sought c v = record { «class» = c; number = v; with = 0 }

-- what lies below comes before, and what lies from the upper bound on comes behind
pub record IsSearched (xs : List Placed) (c v low high : ℕ) : Type 0 where
  pub ordered : low ≤ high
  pub within : high ≤ length xs
  pub below : (k : ℕ) (d : Placed) → k < low → placed_before (get_or xs k d) (sought c v) ≡ true
  pub above : (k : ℕ) (d : Placed) → high ≤ k → k < length xs → placed_before (sought c v) (get_or xs k d) ≡ true

pub IsSearched-first : (xs : List Placed) (c v high : ℕ) → high ≡ length xs → IsSearched xs c v 0 high
IsSearched-first xs c v high is = record {
  ordered = omega arith;
  within = omega (arith, is);
  below = λ k d under. absurd (omega (arith, under));
  above = λ k d past under. absurd (omega (arith, past, under, is));
}

pub IsSearched-low : (xs : List Placed) (c v low high middle : ℕ) (x : Placed) → AllPairs (λ x y. placed_before x y ≡ true) xs → middle < high → ((d : Placed) → get_or xs middle d ≡ x)
    → placed_before x (sought c v) ≡ true → IsSearched xs c v low high → IsSearched xs c v (middle + 1) high
IsSearched-low xs c v low high middle x rising under is less searched = record {
  ordered = omega (arith, under);
  within = searched.within;
  below = λ k d before. elim (cases_lt k middle) [
    | inl lower ↦ placed_before-joins (get_or xs k d) x (sought c v) (subst (λ y. placed_before (get_or xs k d) y ≡ true) (is d) (rising k middle d lower (omega (arith, under, searched.within)))) less
    | inr past ↦ let same : middle ≡ k = omega (arith, past, before) in subst (λ j. placed_before (get_or xs j d) (sought c v) ≡ true) same (subst (λ y. placed_before y (sought c v) ≡ true) (sym (is d)) less)
  ];
  above = searched.above;
}

pub IsSearched-high : (xs : List Placed) (c v low high middle : ℕ) (x : Placed) → AllPairs (λ x y. placed_before x y ≡ true) xs → low ≤ middle → middle < high → ((d : Placed) → get_or xs middle d ≡ x)
    → placed_before (sought c v) x ≡ true → IsSearched xs c v low high → IsSearched xs c v low middle
IsSearched-high xs c v low high middle x rising over under is more searched = record {
  ordered = over;
  within = omega (arith, under, searched.within);
  below = searched.below;
  above = λ k d past within. elim (cases_lt middle k) [
    | inl higher ↦ placed_before-joins (sought c v) x (get_or xs k d) more (subst (λ y. placed_before y (get_or xs k d) ≡ true) (is d) (rising middle k d higher within))
    | inr most ↦ let same : middle ≡ k = omega (arith, past, most) in subst (λ j. placed_before (sought c v) (get_or xs j d) ≡ true) same (subst (λ y. placed_before (sought c v) y ≡ true) (sym (is d)) more)
  ];
}

not_same : (a b c d : ℕ) → (nat_lt a c || (a == c && nat_lt b d)) ≡ true → a ≡ c → b ≡ d → ⊥
not_same a b c d before first second = absurd (grind (arith, before, first, second))

pub IsSearched-none : (xs : List Placed) (c v low high : ℕ) → high ≤ low → IsSearched xs c v low high → All (λ x. IsPlaced c v x → ⊥) xs
IsSearched-none xs c v low high met searched k d within same = elim (cases_lt k low) [
  | inl under ↦ not_same (get_or xs k d).«class» (get_or xs k d).number c v (searched.below k d under) same.0 same.1
  | inr past ↦ not_same c v (get_or xs k d).«class» (get_or xs k d).number (searched.above k d (omega (arith, met, past)) within) (sym same.0) (sym same.1)
]

pub IsSearched-behind : (xs : List Placed) (c v low high middle : ℕ) → AllPairs (λ x y. placed_before x y ≡ true) xs → middle < high
    → placed_before (placed_at xs middle) (sought c v) ≡ true → IsSearched xs c v low high → IsSearched xs c v (middle + 1) high
IsSearched-behind xs c v low high middle rising under less searched =
    IsSearched-low xs c v low high middle (placed_at xs middle) rising under (λ d. get_or_default xs middle d (placed_at [] 0) (omega (arith, under, searched.within))) less searched

pub IsSearched-before : (xs : List Placed) (c v low high middle : ℕ) → AllPairs (λ x y. placed_before x y ≡ true) xs → low ≤ middle → middle < high
    → placed_before (sought c v) (placed_at xs middle) ≡ true → IsSearched xs c v low high → IsSearched xs c v low middle
IsSearched-before xs c v low high middle rising over under more searched =
    IsSearched-high xs c v low high middle (placed_at xs middle) rising over under (λ d. get_or_default xs middle d (placed_at [] 0) (omega (arith, under, searched.within))) more searched

same_place : (a b c d : ℕ) → (nat_lt a c || (a == c && nat_lt b d)) ≡ false → (nat_lt c a || (c == a && nat_lt d b)) ≡ false → (a ≡ c) × (b ≡ d)
same_place a b c d first second = (grind (arith, first, second), grind (arith, first, second))

pub IsPlaced-between : (x : Placed) (c v : ℕ) → placed_before x (sought c v) ≡ false → placed_before (sought c v) x ≡ false → IsPlaced c v x
IsPlaced-between x c v first second = same_place x.«class» x.number c v first second
