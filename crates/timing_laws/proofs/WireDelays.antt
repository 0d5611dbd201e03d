-- What interconnects ask decides the delays of wires: two choices of delays that both give each wire the greatest of its rests agree.
use Rattle.std.specs.Prelude.{nat_lt, ◌&&◌, ◌≡◌, ℕ, zero, suc, ◌+◌, ◌<◌, ◌≤◌, ◌==◌, ◌||◌, ◌⊎◌, ℤ, pos, ◌+ℤ◌, int_le, Bool, true, false, List, [], ◌∷◌, ◌++◌, filter, length, slice_index_or, All, AllPairs, unwrap_or}
use Rattle.std.specs.List.{AllZip, range_with_len, list_any}
use Rattle.std.proofs.Common.{refl, sym, ◌∙◌, ap, subst, arith, inl, inr, eq-eqb, true≢false}
use Rattle.std.proofs.lemmas.Bool.Decides.{Decides-eqb}
use Rattle.std.proofs.lemmas.Bool.{cases_lt}
use Rattle.std.specs.Prelude.{nat_eq}
use Rattle.std.proofs.lemmas.Cmp.{nat_eq_equiv}
use Rattle.std.proofs.lemmas.Int.{ints}
use Rattle.std.proofs.lemmas.List.Elements.{All-head, All-tail, All-nil, All-cons, All-filter, filter_passes}
use Rattle.std.proofs.lemmas.List.Folds.{list_any_at}
use Rattle.std.proofs.lemmas.List.FromFn.{length-range_with_len, get_or-range_with_len}
use Rattle.std.proofs.lemmas.List.Kept.{AllPairs-cons}
use Rattle.std.proofs.lemmas.Map.Made.{length-le_from_is_member, IsDistinct-from_AllPairs}
use Rattle.bud_design.specs.Designs.{Design, is_inside, is_wire, Wired, LeadsTo}
use Rattle.bud_design.specs.Lists.{greatest}
use Rattle.bud_design.specs.DesignRules.{IsDesign}
use Rattle.bud_design.specs.declared.designs.Wire.{Wire}
use Rattle.timing_laws.specs.Delays.{sum_at, IsRestOf, AreDelaysOf, Interconnect, AreDelays, is_driven}

sum-append : (f : ℕ → ℤ) (xs : List ℕ) (v : ℕ) → sum_at f (xs ++ v ∷ []) ≡ sum_at f xs +ℤ f v
sum-append f [] v = omega (arith, ints)
sum-append f (x ∷ xs) v = omega (arith, ints, sum-append f xs v)

turned : List ℕ → List ℕ
turned [] = []
turned (v ∷ vs) = turned vs ++ v ∷ []

sum-turned : (f : ℕ → ℤ) (vs : List ℕ) → sum_at f (turned vs) ≡ sum_at f vs
unfolding turned
sum-turned f [] = refl
sum-turned f (v ∷ vs) = sum-append f (turned vs) v ∙ omega (arith, ints, sum-turned f vs)

-- numbers are the same or not
same_or_not : (a b : ℤ) → (a ≡ b) ⊎ (a ≡ b → ⊥)
same_or_not a b = by_order (int_le a b) (int_le b a) refl refl
  where
    by_order : (x y : Bool) → int_le a b ≡ x → int_le b a ≡ y → (a ≡ b) ⊎ (a ≡ b → ⊥)
    by_order true true first second = inl (grind (arith, ints))
    by_order true false first second = inr (λ same. grind (arith, ints))
    by_order false y first second = inr (λ same. grind (arith, ints))

-- where sums differ, numbers of a pin do
differing : (f g : ℕ → ℤ) (P : ℕ → Type 0) (vs : List ℕ) → All P vs → (sum_at f vs ≡ sum_at g vs → ⊥) → (u : ℕ) × (P u × (f u ≡ g u → ⊥))
differing f g P [] holds differ = absurd (differ refl)
differing f g P (v ∷ vs) holds differ = elim (same_or_not (f v) (g v)) [
  | inl same ↦ differing f g P vs (All-tail P v vs holds) (λ equal. differ (omega (arith, ints, same, equal)))
  | inr other ↦ (v, (All-head P v vs holds, other))
]

-- where lists of numbers for the same elements differ, those of one element do
differing-rest : {X : Type 0} (Q : X → Type 0) (R S : X → ℤ → Type 0) (xs : List X) (rs ss : List ℤ) → All Q xs → AllZip R xs rs → AllZip S xs ss
    → (rs ≡ ss) ⊎ ((x : X) × ((r : ℤ) × ((s : ℤ) × (Q x × (R x r × (S x s × (r ≡ s → ⊥)))))))
differing-rest Q R S [] [] [] holds first second = inl refl
differing-rest Q R S [] [] (s ∷ ss) holds first second = absurd second
differing-rest Q R S [] (r ∷ rs) ss holds first second = absurd first
differing-rest Q R S (x ∷ xs) [] ss holds first second = absurd first
differing-rest Q R S (x ∷ xs) (r ∷ rs) [] holds first second = absurd second
differing-rest Q R S (x ∷ xs) (r ∷ rs) (s ∷ ss) holds first second = elim (same_or_not r s) [
  | inr other ↦ inr (x, (r, (s, (All-head Q x xs holds, (first.0, (second.0, other))))))
  | inl same ↦ elim (differing-rest Q R S xs rs ss (All-tail Q x xs holds) first.1 second.1) [
    | inl rest ↦ inl (ap (λ z. z ∷ rs) same ∙ ap (λ zs. s ∷ zs) rest)
    | inr later ↦ inr later
  ]
]

rest-nil : {X : Type 0} (R : X → ℤ → Type 0) (xs : List X) (rs : List ℤ) → xs ≡ [] → AllZip R xs rs → rs ≡ []
rest-nil R [] [] none zip = refl
rest-nil R [] (r ∷ rs) none zip = absurd zip
rest-nil R (x ∷ xs) rs none zip = (cc)

filter-none : {X : Type 0} (p : X → Bool) (xs : List X) → All (λ x. p x ≡ false) xs → filter p xs ≡ []
filter-none p [] fails = refl
filter-none p (x ∷ xs) fails = rw (All-head (λ x. p x ≡ false) x xs fails) (filter-none p xs (All-tail (λ x. p x ≡ false) x xs fails))

and-left : (a b : Bool) → a && b ≡ true → a ≡ true
and-left true b both = refl
and-left false b both = absurd (true≢false (sym both))

and-right : (a b : Bool) → a && b ≡ true → b ≡ true
and-right true b both = both
and-right false b both = absurd (true≢false (sym both))

not-equal : (a b : ℕ) → (a ≡ b → ⊥) → (a == b) ≡ false
not-equal a b differ = by_test (a == b) refl
  where
    by_test : (t : Bool) → (a == b) ≡ t → (a == b) ≡ false
    by_test true is = absurd (differ ((Decides-eqb a b).0 is))
    by_test false is = is

member-below : (n q : ℕ) (xs : List ℕ) → All (λ x. x < n) xs → list_any (nat_eq q) xs ≡ true → q < n
member-below n q [] below has = absurd (true≢false (sym has))
member-below n q (x ∷ xs) below has = by_test (nat_eq q x) refl has (member-below n q xs (All-tail (λ x. x < n) x xs below))
  where
    by_test : (t : Bool) → nat_eq q x ≡ t → t || list_any (nat_eq q) xs ≡ true → (list_any (nat_eq q) xs ≡ true → q < n) → q < n
    by_test true is has rest = (let same : q ≡ x = (Decides-eqb q x).0 is in omega (arith, same, All-head (λ x. x < n) x xs below))
    by_test false is has rest = rest has

below-member : (n q : ℕ) → q < n → list_any (nat_eq q) (range_with_len 0 n) ≡ true
below-member n q below =
    list_any_at (nat_eq q) (range_with_len 0 n) q 0 (omega (arith, below, length-range_with_len 0 n))
    (eq-eqb q (slice_index_or (range_with_len 0 n) q 0) (omega (arith, get_or-range_with_len 0 n q 0 below)))

-- different numbers below a bound are at most as many
few-below : (n : ℕ) (xs : List ℕ) → AllPairs (λ x y. x ≡ y → ⊥) xs → All (λ x. x < n) xs → length xs ≤ n
few-below n xs differ below =
    let most = length-le_from_is_member {eq = nat_eq} nat_eq_equiv xs (range_with_len 0 n) (IsDistinct-from_AllPairs {eq = nat_eq} Decides-eqb xs differ)
    (λ q has. below-member n q (member-below n q xs below has)) in
    omega (arith, most, length-range_with_len 0 n)

module _ (d : Design) (root : ℕ) where
  lead-one : (a v : ℕ) → is_wire d root a v ≡ true → LeadsTo d root a v
  lead-one a v wire = (v, ([], (wire, refl)))

  Wired-append : (vs ws : List ℕ) (a b c : ℕ) → Wired d root a vs b → Wired d root b ws c → Wired d root a (vs ++ ws) c
  Wired-append [] ws a b c first second = subst (λ x. Wired d root x ws c) (sym first) second
  Wired-append (v ∷ vs) ws a b c first second = (first.0, Wired-append vs ws v b c first.1 second)

  lead-trans : (a b c : ℕ) → LeadsTo d root a b → LeadsTo d root b c → LeadsTo d root a c
  lead-trans a b c first second = (first.0, (first.1.0 ++ second.0 ∷ second.1.0, Wired-append (first.0 ∷ first.1.0) (second.0 ∷ second.1.0) a b c first.1.1 second.1.1))

  abbrev Reaches : ℕ → ℕ → Type 0
  Reaches a b = (a ≡ b) ⊎ LeadsTo d root a b

  reach-step : (a u v : ℕ) → Reaches a u → is_wire d root u v ≡ true → LeadsTo d root a v
  reach-step a u v (inl same) wire = lead-one a v (subst (λ x. is_wire d root x v ≡ true) (sym same) wire)
  reach-step a u v (inr leads) wire = lead-trans a u v leads (lead-one u v wire)

  -- the pins of a way, the last one first
  abbrev Back : ℕ → List ℕ → ℕ → Type 0
  Back a [] b = a ≡ b
  Back a (v ∷ vs) b = (v ≡ b) × ((u : ℕ) × ((is_wire d root u v ≡ true) × Back a vs u))

  Back-front : (a v : ℕ) (vs : List ℕ) (b : ℕ) → is_wire d root a v ≡ true → Back v vs b → Back a (vs ++ v ∷ []) b
  Back-front a v [] b wire same = (same, (a, (wire, refl)))
  Back-front a v (w ∷ vs) b wire way = (way.0, (way.1.0, (way.1.1.0, Back-front a v vs way.1.0 wire way.1.1.1)))

  Back-from_wired : (a : ℕ) (vs : List ℕ) (b : ℕ) → Wired d root a vs b → Back a (turned vs) b
  unfolding turned
  Back-from_wired a [] b way = way
  Back-from_wired a (v ∷ vs) b way = Back-front a v (turned vs) b way.0 (Back-from_wired v vs b way.1)

  Back-reaches : (a : ℕ) (vs : List ℕ) (b : ℕ) → Back a vs b → Reaches a b
  Back-reaches a [] b way = inl way
  Back-reaches a (v ∷ vs) b way = inr (subst (LeadsTo d root a) way.0 (reach-step a way.1.0 v (Back-reaches a vs way.1.0 way.1.1.1) way.1.1.0))

  Back-each : (a : ℕ) (vs : List ℕ) (b : ℕ) → Back a vs b → All (λ x. LeadsTo d root a x × Reaches x b) vs
  Back-each a [] b way = All-nil (λ x. LeadsTo d root a x × Reaches x b)
  Back-each a (v ∷ vs) b way =
      All-cons (λ x. LeadsTo d root a x × Reaches x b) v vs
      (reach-step a way.1.0 v (Back-reaches a vs way.1.0 way.1.1.1) way.1.1.0, inl way.0)
      (λ k e below.
      let other = Back-each a vs way.1.0 way.1.1.1 k e below in
      (other.0, inr (subst (LeadsTo d root (slice_index_or vs k e)) way.0 (reach-step (slice_index_or vs k e) way.1.0 v other.1 way.1.1.0))))

  sum-none : (f : ℕ → ℤ) (vs : List ℕ) → All (λ x. f x ≡ pos 0) vs → sum_at f vs ≡ pos 0
  sum-none f [] none = refl
  sum-none f (v ∷ vs) none =
      omega (arith, ints, All-head (λ x. f x ≡ pos 0) v vs none, sum-none f vs (All-tail (λ x. f x ≡ pos 0) v vs none))

  around : (a x : ℕ) → LeadsTo d root a x → Reaches x a → LeadsTo d root x x
  around a x there (inl same) = subst (λ y. LeadsTo d root y x) (sym same) there
  around a x there (inr back) = lead-trans x a x back there

  module _ (one : (a b v : ℕ) → is_wire d root a v ≡ true → is_wire d root b v ≡ true → a ≡ b) where
    module _ (f : ℕ → ℤ) (rings : (x : ℕ) → LeadsTo d root x x → f x ≡ pos 0) where
      ring-none : (a : ℕ) (vs : List ℕ) → Back a vs a → sum_at f vs ≡ pos 0
      ring-none a vs way = sum-none f vs (λ k e below. (let here = Back-each a vs a way k e below in rings (slice_index_or vs k e) (around a (slice_index_or vs k e) here.0 here.1)))

      same-back : (a : ℕ) (vs ws : List ℕ) (b : ℕ) → Back a vs b → Back a ws b → sum_at f vs ≡ sum_at f ws
      same-back a [] [] b first second = refl
      same-back a [] (w ∷ ws) b first second = sym (ring-none a (w ∷ ws) (subst (Back a (w ∷ ws)) (sym first) second))
      same-back a (v ∷ vs) [] b first second = ring-none a (v ∷ vs) (subst (Back a (v ∷ vs)) (sym second) first)
      same-back a (v ∷ vs) (w ∷ ws) b first second =
          let last : v ≡ w = first.0 ∙ sym second.0 in
          let driver : first.1.0 ≡ second.1.0 = one first.1.0 second.1.0 v first.1.1.0 (subst (λ x. is_wire d root second.1.0 x ≡ true) (sym last) second.1.1.0) in
          let others = same-back a vs ws first.1.0 first.1.1.1 (subst (Back a ws) (sym driver) second.1.1.1) in
          omega (arith, ints, others, ap f last)

      -- all ways from one pin to another add up to the same
      same-ways : (a : ℕ) (vs ws : List ℕ) (b : ℕ) → Wired d root a vs b → Wired d root a ws b → sum_at f vs ≡ sum_at f ws
      same-ways a vs ws b first second =
          sym (sum-turned f vs) ∙ (same-back a (turned vs) (turned ws) b (Back-from_wired a vs b first) (Back-from_wired a ws b second) ∙ sum-turned f ws)

  leads-some : (a : ℕ) (vs : List ℕ) (v b : ℕ) → Wired d root a (vs ++ v ∷ []) b → LeadsTo d root a b
  leads-some a [] v b way = (v, ([], way))
  leads-some a (w ∷ vs) v b way = (w, (vs ++ v ∷ [], way))

  -- each pin before the last leads to it
  lead-each : (a : ℕ) (vs : List ℕ) (v b : ℕ) → Wired d root a (vs ++ v ∷ []) b → All (λ u. LeadsTo d root u b) vs
  lead-each a [] v b way = All-nil (λ u. LeadsTo d root u b)
  lead-each a (w ∷ vs) v b way = All-cons (λ u. LeadsTo d root u b) w vs (leads-some w vs v b way.1) (lead-each w vs v b way.1)

  -- where numbers differ at a pin on no ring only where they differ at one that leads to it, they never differ
  module _ (n : ℕ) (below : (a b : ℕ) → LeadsTo d root a b → a < n) (f g : ℕ → ℤ)
      (step : (v : ℕ) → (f v ≡ g v → ⊥) → (u : ℕ) × ((f u ≡ g u → ⊥) × (LeadsTo d root u v × (LeadsTo d root v v → ⊥)))) where
    descend : (k v : ℕ) (vs : List ℕ) → (f v ≡ g v → ⊥) → v < n → All (λ x. LeadsTo d root v x) vs → AllPairs (λ x y. x ≡ y → ⊥) (v ∷ vs) → All (λ x. x < n) (v ∷ vs) → n ≤ length vs + k → ⊥
    descend zero v vs differ within leads apart small most = (let few = few-below n (v ∷ vs) apart small in omega (arith, few, most))
    descend (suc k) v vs differ within leads apart small most =
        let next = step v differ in
        let u : ℕ = next.0 in
        let less : u < n = below u v next.1.1.0 in
        let onward : All (λ x. LeadsTo d root u x) (v ∷ vs)
        = All-cons (λ x. LeadsTo d root u x) v vs next.1.1.0 (λ j e inside. lead-trans u v (slice_index_or vs j e) next.1.1.0 (leads j e inside)) in
        let no_ring : LeadsTo d root u u → ⊥ = (step u next.1.0).1.1.1 in
        descend k u (v ∷ vs) next.1.0 less onward
        (AllPairs-cons (λ x y. x ≡ y → ⊥) u (v ∷ vs) (λ j e inside same. no_ring (subst (LeadsTo d root u) (sym same) (onward j e inside))) apart)
        (All-cons (λ x. x < n) u (v ∷ vs) less small) (omega (arith, most))

    never-differ : (v : ℕ) → f v ≡ g v
    never-differ v = elim (same_or_not (f v) (g v)) [
      | inl same ↦ same
      | inr differ ↦
          let next = step v differ in
          let less = below next.0 v next.1.1.0 in
          absurd (descend n next.0 [] next.1.0 less (All-nil (λ x. LeadsTo d root next.0 x))
          (AllPairs-cons (λ x y. x ≡ y → ⊥) next.0 [] (All-nil (λ y. next.0 ≡ y → ⊥)) (λ i j e less inside. absurd (omega (arith, inside))))
          (All-cons (λ x. x < n) next.0 [] less (All-nil (λ x. x < n))) (omega arith))
    ]

  module _ {X : Type 0} (from to : X → ℕ) (value : X → ℤ) (xs : List X) (driven : ℕ → Bool) where
    abbrev IsRest : (ℕ → ℤ) → X → ℤ → Type 0
    IsRest f = IsRestOf d root from to value f

    abbrev AreGiven : (ℕ → ℤ) → Type 0
    AreGiven f = AreDelaysOf d root from to value xs driven f

    module _ (one : (a b v : ℕ) → is_wire d root a v ≡ true → is_wire d root b v ≡ true → a ≡ b) (n : ℕ) (below : (a b : ℕ) → LeadsTo d root a b → a < n)
        (off_rings : All (λ x. LeadsTo d root (to x) (to x) → ⊥) xs) where
      rings-none : (f : ℕ → ℤ) → AreGiven f → (v : ℕ) → LeadsTo d root v v → f v ≡ pos 0
      rings-none f are v ring = by_driven (driven v) refl
        where
          none : filter (λ x. to x == v) xs ≡ []
          none = filter-none (λ x. to x == v) xs (λ k e inside. not-equal (to (slice_index_or xs k e)) v (λ same. off_rings k e inside (subst (λ u. LeadsTo d root u u) (sym same) ring)))

          by_driven : (b : Bool) → driven v ≡ b → f v ≡ pos 0
          by_driven false is = are.none v is
          by_driven true is =
              let here = are.each v is in
              here.1.1 ∙ ap (λ rs. unwrap_or (greatest rs) (pos 0)) (rest-nil (IsRest f) (filter (λ x. to x == v) xs) here.0 none here.1.0)

      ends : (v : ℕ) → All (λ x. (to x ≡ v) × (LeadsTo d root (to x) (to x) → ⊥)) (filter (λ x. to x == v) xs)
      ends v k e inside = (
        (Decides-eqb (to (slice_index_or (filter (λ x. to x == v) xs) k e)) v).0 (filter_passes (λ x. to x == v) xs k e inside),
        All-filter (λ x. to x == v) (λ x. LeadsTo d root (to x) (to x) → ⊥) xs off_rings k e inside,
      )

      step-by : (f g : ℕ → ℤ) → AreGiven f → AreGiven g → (v : ℕ) → (f v ≡ g v → ⊥) → (u : ℕ) × ((f u ≡ g u → ⊥) × (LeadsTo d root u v × (LeadsTo d root v v → ⊥)))
      step-by f g first second v differ = by_driven (driven v) refl
        where
          found : (x : X) (r s : ℤ) → to x ≡ v → (LeadsTo d root (to x) (to x) → ⊥) → IsRest f x r → IsRest g x s → (r ≡ s → ⊥)
              → (u : ℕ) × ((f u ≡ g u → ⊥) × (LeadsTo d root u v × (LeadsTo d root v v → ⊥)))
          found x r s is no_ring rest other apart =
              let ways = same-ways one g (rings-none g second) (from x) (rest.before ++ to x ∷ []) (other.before ++ to x ∷ []) (to x) rest.wired other.wired in
              let same : sum_at g rest.before ≡ sum_at g other.before
              = omega (arith, ints, ways, sum-append g rest.before (to x), sum-append g other.before (to x)) in
              let sums : sum_at f rest.before ≡ sum_at g rest.before → ⊥
              = λ equal. apart (omega (arith, ints, rest.rest_is, other.rest_is, same, equal)) in
              let pin = differing f g (λ u. LeadsTo d root u (to x)) rest.before (lead-each (from x) rest.before (to x) (to x) rest.wired) sums in
              (pin.0, (pin.1.1, (subst (LeadsTo d root pin.0) is pin.1.0, subst (λ w. LeadsTo d root w w → ⊥) is no_ring)))

          by_driven : (b : Bool) → driven v ≡ b → (u : ℕ) × ((f u ≡ g u → ⊥) × (LeadsTo d root u v × (LeadsTo d root v v → ⊥)))
          by_driven false is = absurd (differ (first.none v is ∙ sym (second.none v is)))
          by_driven true is =
              let one_side = first.each v is in
              let other_side = second.each v is in
              elim (differing-rest (λ x. (to x ≡ v) × (LeadsTo d root (to x) (to x) → ⊥)) (IsRest f) (IsRest g) (filter (λ x. to x == v) xs) one_side.0 other_side.0 (ends v) one_side.1.0 other_side.1.0) [
                | inl same ↦ absurd (differ (one_side.1.1 ∙ (ap (λ rs. unwrap_or (greatest rs) (pos 0)) same ∙ sym other_side.1.1)))
                | inr there ↦ found there.0 there.1.0 there.1.1.0 there.1.1.1.0.0 there.1.1.1.0.1 there.1.1.1.1.0 there.1.1.1.1.1.0 there.1.1.1.1.1.1
              ]

      -- two choices of delays agree at every pin
      pub delays-agree : (f g : ℕ → ℤ) → AreGiven f → AreGiven g → (v : ℕ) → f v ≡ g v
      delays-agree f g first second = never-differ n below f g (step-by f g first second)

-- an element passes, at some place
any-at : {X : Type 0} (p : X → Bool) (xs : List X) → list_any p xs ≡ true → (k : ℕ) × ((k < length xs) × ((e : X) → p (slice_index_or xs k e) ≡ true))
any-at p [] has = absurd (true≢false (sym has))
any-at {X} p (x ∷ xs) has = by_test (p x) refl has (any-at p xs)
  where
    by_test : (t : Bool) → p x ≡ t → t || list_any p xs ≡ true → (list_any p xs ≡ true → (k : ℕ) × ((k < length xs) × ((e : X) → p (slice_index_or xs k e) ≡ true)))
        → (k : ℕ) × ((k < length (x ∷ xs)) × ((e : X) → p (slice_index_or (x ∷ xs) k e) ≡ true))
    by_test true is has rest = (0, (omega arith, λ e. is))
    by_test false is has rest = (let later = rest has in (suc later.0, (omega (arith, later.1.0), later.1.1)))

module _ (d : Design) (design : IsDesign d) where
  abbrev a_wire : Wire
  a_wire = record { from = record { 0 = 0 }; to = record { 0 = 0 }; home = 0 }

  -- a wire of the design joins the pins
  wire-at : (a v : ℕ) → is_wire d 0 a v ≡ true → (k : ℕ) × ((k < length d.wires) × (((slice_index_or d.wires k a_wire).from.0 ≡ a) × ((slice_index_or d.wires k a_wire).to.0 ≡ v)))
  wire-at a v wire =
      let there = any-at (λ (w : Wire). w.from.0 == a && (w.to.0 == v && is_inside d.places 0 w.home)) d.wires wire in
      let both = there.1.1 a_wire in
      let from : ((slice_index_or d.wires there.0 a_wire).from.0 == a) ≡ true = and-left _ _ both in
      let rest = and-right _ _ both in
      let to : ((slice_index_or d.wires there.0 a_wire).to.0 == v) ≡ true = and-left _ _ rest in
      (there.0, (there.1.0, ((Decides-eqb _ a).0 from, (Decides-eqb _ v).0 to)))

  one-driver : (a b v : ℕ) → is_wire d 0 a v ≡ true → is_wire d 0 b v ≡ true → a ≡ b
  one-driver a b v first second =
      let one = wire-at a v first in
      let other = wire-at b v second in
      elim (cases_lt one.0 other.0) [
        | inl less ↦ (let rises = design.by_last_pin one.0 other.0 a_wire less other.1.0 in absurd (apart _ _ rises (one.1.1.1 ∙ sym other.1.1.1)))
        | inr most ↦ elim (cases_lt other.0 one.0) [
          | inl less ↦ (let rises = design.by_last_pin other.0 one.0 a_wire less one.1.0 in absurd (apart _ _ rises (other.1.1.1 ∙ sym one.1.1.1)))
          | inr least ↦
              let same : one.0 ≡ other.0 = omega (arith, most, least) in
              sym one.1.1.0 ∙ (ap (λ k. (slice_index_or d.wires k a_wire).from.0) same ∙ other.1.1.0)
        ]
      ]
    where
      apart : (x y : ℕ) → nat_lt x y ≡ true → x ≡ y → ⊥
      apart x y less same = (let lower : x < y = grind arith in omega (arith, lower, same))

  leads-within : (a b : ℕ) → LeadsTo d 0 a b → a < length d.pins
  leads-within a b leads =
      let wire = wire-at a leads.0 leads.1.1.0 in
      let ends = design.wires wire.0 a_wire wire.1.0 in
      omega (arith, ends.from, wire.1.1.0)

  pub interconnects-decide : (xs : List Interconnect) (f g : ℕ → ℤ) → All (λ x. LeadsTo d 0 x.to x.to → ⊥) xs → AreDelays d xs f → AreDelays d xs g → (v : ℕ) → f v ≡ g v
  interconnects-decide xs f g off_rings first second v =
      delays-agree d 0 (λ (x : Interconnect). x.from) (λ (x : Interconnect). x.to) (λ (x : Interconnect). x.value) xs (is_driven d) one-driver (length d.pins) leads-within off_rings f g first second v
