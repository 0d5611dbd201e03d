-- What stands at a pin, in lists in order of their pins.
use Rattle.std.proofs.Common.{◌≡◌, ℕ, ◌<◌, ◌≤◌, ◌==◌, nat_lt, Bool, true, false, true≢false, List, length, get_or, refl, sym, ◌∙◌, ap, subst, arith, inl, inr}
use Rattle.std.specs.Prelude.{AllPairs}
use Rattle.std.specs.List.{list_any}
use Rattle.std.specs.List.Sorted.{IsNonDecreasingBy}
use Rattle.std.proofs.lemmas.Bool.{cases_lt}
use Rattle.std.proofs.lemmas.Bool.Decides.{Decides-eqb}
use Rattle.std.proofs.lemmas.List.{get_or_default}
use Rattle.std.proofs.lemmas.List.Folds.{list_any_at, list_any_none}
use Rattle.bud_design.specs.declared.timings.Check.{Check}
use Rattle.bud_design.specs.declared.timings.LaunchEdge.{LaunchEdge}
use Rattle.bud_design.specs.Orders.{check_before, edge_pin_before}

-- numbers that never fall between two places never fall
pub non_decreasing : {X : Type 0} (key : X → ℕ) (xs : List X) → ((i j : ℕ) (d : X) → i < j → j < length xs → key (get_or xs i d) ≤ key (get_or xs j d)) → IsNonDecreasingBy key xs
non_decreasing key xs pairs i j d most within = by_same (i == j) refl
  where
    by_same : (b : Bool) → (i == j) ≡ b → key (get_or xs i d) ≤ key (get_or xs j d)
    by_same true same = let equal : i ≡ j = (Decides-eqb i j).0 same in rw equal (omega arith)
    by_same false other = let less : i < j = grind arith in pairs i j d less within

check-pins : (x y : Check) → check_before x y ≡ true → x.pin.0 ≤ y.pin.0
check-pins x y before = elim (cases_lt y.pin.0 x.pin.0) [
  | inl less ↦
      let not_less : nat_lt x.pin.0 y.pin.0 ≡ false = grind (arith, less) in
      let not_equal : (x.pin.0 == y.pin.0) ≡ false = grind (arith, less) in
      let never : check_before x y ≡ false = rw (not_less, not_equal) refl in
      absurd (true≢false (sym before ∙ never))
  | inr most ↦ most
]

pub checks-rise : (xs : List Check) → AllPairs (λ x y. check_before x y ≡ true) xs → IsNonDecreasingBy (λ x. x.pin.0) xs
checks-rise xs order = non_decreasing (λ x. x.pin.0) xs (λ i j d less within. check-pins (get_or xs i d) (get_or xs j d) (order i j d less within))

pub edges-rise : (xs : List LaunchEdge) → AllPairs (λ x y. edge_pin_before x y ≡ true) xs → IsNonDecreasingBy (λ x. x.pin.0) xs
edges-rise xs order = non_decreasing (λ x. x.pin.0) xs (λ i j d less within. let lower = order i j d less within in grind arith)

-- none has the number, where each is less
pub none-behind : {X : Type 0} (key : X → ℕ) (xs : List X) (n i : ℕ) → ((k : ℕ) (d : X) → k < i → key (get_or xs k d) < n) → i ≡ length xs → false ≡ list_any (λ x. key x == n) xs
none-behind {X} key xs n i below all =
    sym (list_any_none (λ x. key x == n) xs
    (λ k d within. let less : key (get_or xs k d) < n = below k d (omega (arith, within, all)) in grind (arith, less)))

-- one has the number where the first does before which all are less
pub at-place : {X : Type 0} (key : X → ℕ) (xs : List X) (n i : ℕ) (x : X) → IsNonDecreasingBy key xs → ((k : ℕ) (d : X) → k < i → key (get_or xs k d) < n)
    → ((k : ℕ) (d : X) → i ≤ k → k < length xs → n ≤ key (get_or xs k d)) → i < length xs → x ≡ get_or xs i x → (key x == n) ≡ list_any (λ x. key x == n) xs
at-place {X} key xs n i x rise below above within is = by_test (key x == n) refl
  where
    by_test : (b : Bool) → (key x == n) ≡ b → (key x == n) ≡ list_any (λ x. key x == n) xs
    by_test true e = e ∙ sym (list_any_at (λ x. key x == n) xs i x within (ap (λ y. key y == n) (sym is) ∙ e))
    by_test false e =
        let here : n ≤ key (get_or xs i x) = above i x (omega arith) within in
        let most : n ≤ key x = subst (λ y. n ≤ key y) (sym is) here in
        let more : n < key x = grind (arith, most, e) in
        e ∙ sym (list_any_none (λ x. key x == n) xs (λ k d inside. elim (cases_lt k i) [
          | inl before ↦ let less : key (get_or xs k d) < n = below k d before in grind (arith, less)
          | inr behind ↦
              let first : key x ≡ key (get_or xs i d) = ap key (is ∙ get_or_default xs i x d within) in
              let later : key (get_or xs i d) ≤ key (get_or xs k d) = rise i k d behind inside in
              let past : n < key (get_or xs k d) = omega (arith, more, first, later) in
              grind (arith, past)
        ]))

-- at a place of the list
pub at-index : {X : Type 0} (key : X → ℕ) (xs : List X) (n i : ℕ) (d : X) → IsNonDecreasingBy key xs → ((k : ℕ) (d : X) → k < i → key (get_or xs k d) < n)
    → ((k : ℕ) (d : X) → i ≤ k → k < length xs → n ≤ key (get_or xs k d)) → i < length xs → (key (get_or xs i d) == n) ≡ list_any (λ x. key x == n) xs
at-index {X} key xs n i d rise below above within = at-place key xs n i (get_or xs i d) rise below above within (get_or_default xs i d (get_or xs i d) within)
