-- The arc of two pins, found by the place before which pins come before these.
use Rattle.std.specs.Prelude.{◌≡◌, ℕ, zero, suc, ◌<◌, ◌≤◌, ◌+◌, ◌&&◌, ◌==◌, Bool, true, false, List, [], ◌∷◌, map, drop, length, slice_index_or, All, Option, Some, None, if◌then◌else◌}
use Rattle.std.specs.List.{position_from}
use Rattle.std.proofs.Common.{refl, sym, ◌∙◌, ap, arith, true≢false}
use Rattle.std.specs.List.Sorted.{IsPartitionedBy}
use Rattle.std.proofs.Common.{inl, inr}
use Rattle.std.proofs.lemmas.Bool.{cases_eq}
use Rattle.bud_design.specs.Arcs.{arc_between}
use Rattle.bud_design.specs.Orders.{pins_before}
use Rattle.timing_graph.proofs.PinOrders.{before-trans}
use Rattle.timing_graph.specs.declared.graphs.Arc.{Arc}
use Rattle.timing_graph.specs.GraphViews.{arc_of, AreRising, IsPlaceFor}

abbrev joins : ℕ → ℕ → Arc → Bool
joins from to x = x.from.0 == from && x.to.0 == to

position-map : {X Y : Type 0} (f : X → Y) (q : Y → Bool) (n : ℕ) (xs : List X) → position_from q n (map f xs) ≡ position_from (λ x. q (f x)) n xs
position-map f q n [] = refl
position-map f q n (x ∷ xs) = by_test (q (f x)) (position-map f q (n + 1) xs)
  where
    by_test : (b : Bool) → position_from q (n + 1) (map f xs) ≡ position_from (λ x. q (f x)) (n + 1) xs
        → (if b then Some n else position_from q (n + 1) (map f xs)) ≡ (if b then Some n else position_from (λ x. q (f x)) (n + 1) xs)
    by_test true rest = refl
    by_test false rest = rest

position-none : {X : Type 0} (p : X → Bool) (n : ℕ) (xs : List X) → ((k : ℕ) (d : X) → k < length xs → p (slice_index_or xs k d) ≡ false) → position_from p n xs ≡ None
position-none p n [] fails = refl
position-none p n (x ∷ xs) fails =
    let here = fails 0 x (omega arith) in
    rw here (position-none p (n + 1) xs (λ k d below. fails (suc k) d (omega (arith, below))))

abbrev first_at : {X : Type 0} → (X → Bool) → ℕ → List X → Option ℕ
first_at p i [] = None
first_at p i (x ∷ xs) = if p x then Some i else None

position-at : {X : Type 0} (p : X → Bool) (n i : ℕ) (xs : List X) → i ≤ length xs → ((k : ℕ) (d : X) → k < i → p (slice_index_or xs k d) ≡ false)
    → ((k : ℕ) (d : X) → i < k → k < length xs → p (slice_index_or xs k d) ≡ false) → position_from p n xs ≡ first_at p (n + i) (drop i xs)
position-at p n zero [] within below above = refl
position-at p n (suc i) [] within below above = refl
position-at {X} p n zero (x ∷ xs) within below above = by_test (p x) refl
  where
    same : n ≡ n + 0
    same = omega arith

    by_test : (b : Bool) → p x ≡ b → position_from p n (x ∷ xs) ≡ (if p x then Some (n + 0) else None)
    by_test true e = rw (e, ← same) refl
    by_test false e = rw e (position-none p (n + 1) xs (λ k d inside. above (suc k) d (omega arith) (omega (arith, inside))))
position-at p n (suc i) (x ∷ xs) within below above =
    let here = below 0 x (omega arith) in
    let later : n + 1 + i ≡ n + suc i = omega arith in
    rw here
    (position-at p (n + 1) i xs (omega (arith, within)) (λ k d less. below (suc k) d (omega (arith, less))) (λ k d less inside. above (suc k) d (omega (arith, less)) (omega (arith, inside)))
    ∙ ap (λ m. first_at p m (drop i xs)) later)

not-same : (a b from to : ℕ) → pins_before a b from to ≡ true → a == from && b == to ≡ false
not-same a b from to before = grind arith

not-after : (a b c d from to : ℕ) → pins_before a b c d ≡ true → pins_before a b from to ≡ false → c == from && d == to ≡ false
not-after a b c d from to before other = by_test (c == from && d == to) refl
  where
    by_test : (e : Bool) → c == from && d == to ≡ e → c == from && d == to ≡ false
    by_test false is = is
    by_test true is =
        let first : c ≡ from = grind arith in
        let second : d ≡ to = grind arith in
        absurd (true≢false (sym before ∙ (ap (λ x. pins_before a b x d) first ∙ (ap (pins_before a b from) second ∙ other))))

found : (xs : List Arc) (from to i : ℕ) → AreRising xs → IsPlaceFor xs from to i → arc_between (map arc_of xs) from to ≡ first_at (joins from to) i (drop i xs)
found xs from to i rise place =
    position-map arc_of (λ x. x.from == from && x.to == to) 0 xs
    ∙ (position-at (joins from to) 0 i xs place.within (λ k d less. not-same _ _ from to (place.below k d less))
    (λ k d less inside. not-after _ _ _ _ from to (rise i k d less inside) (place.above i d (omega arith) (omega (arith, less, inside))))
    ∙ ap (λ m. first_at (joins from to) m (drop i xs)) (omega arith))

-- what comes before the pins stands in front
pub partitioned : (xs : List Arc) (from to : ℕ) → AreRising xs → IsPartitionedBy (λ x. pins_before x.from.0 x.to.0 from to) xs
partitioned xs from to rise i j d most inside before = elim (cases_eq i j) [
  | inl same ↦ ap (λ k. pins_before (slice_index_or xs k d).from.0 (slice_index_or xs k d).to.0 from to) same ∙ before
  | inr differs ↦ before-trans _ _ _ _ from to (rise i j d (omega (arith, most, differs)) inside) before
]

pub found-past : (xs : List Arc) (from to i : ℕ) → AreRising xs → IsPlaceFor xs from to i → i ≡ length xs → arc_between (map arc_of xs) from to ≡ None
found-past xs from to i rise place past = found xs from to i rise place ∙ first_past xs i past
  where
    first_past : (ys : List Arc) (k : ℕ) → k ≡ length ys → first_at (joins from to) i (drop k ys) ≡ None
    first_past [] zero past = refl
    first_past [] (suc k) past = refl
    first_past (y ∷ ys) zero past = absurd (omega (arith, past))
    first_past (y ∷ ys) (suc k) past = first_past ys k (omega (arith, past))

pub found-here : (xs : List Arc) (from to i : ℕ) (x d : Arc) → AreRising xs → IsPlaceFor xs from to i → i < length xs → x ≡ slice_index_or xs i d
    → arc_between (map arc_of xs) from to ≡ (if x.from.0 == from && x.to.0 == to then Some i else None)
found-here xs from to i x d rise place inside is = found xs from to i rise place ∙ (first_here xs i inside ∙ ap (λ y. if joins from to y then Some i else None) (sym is))
  where
    first_here : (ys : List Arc) (k : ℕ) → k < length ys → first_at (joins from to) i (drop k ys) ≡ (if joins from to (slice_index_or ys k d) then Some i else None)
    first_here [] k inside = absurd (omega (arith, inside))
    first_here (y ∷ ys) zero inside = refl
    first_here (y ∷ ys) (suc k) inside = first_here ys k (omega (arith, inside))
