-- Pairs from the greatest of delays through leaves.
use Rattle.std.specs.List.{All, AllPairs, Contains, filter_map}
use Rattle.std.specs.List.{cons_option}
use Rattle.std.proofs.Common.{◌≡◌, ℕ, ◌+◌, ◌<◌, ◌≤◌, ◌⊎◌, ◌==◌, ◌&&◌, ◌||◌, not, Bool, true, false, cond, ℤ, ◌≤ℤ◌, List, [], ◌∷◌, length, map, filter, get_or, Option, Some, None, refl, sym, ap, subst, ◌∙◌, inl, inr, arith, true≢false}
use Rattle.std.proofs.lemmas.Bool.{eqb-true, eq-eqb}
use Rattle.std.proofs.lemmas.Option.{same_Some, none-some}
use Rattle.std.proofs.lemmas.List.Elements.{All-nil, All-cons, All-head, All-tail, All-contains}
use Rattle.bud_base.specs.declared.ids.PinId.{PinId}
use Rattle.bud_design.specs.declared.timings.Pair.{Pair}
use Rattle.bud_design.specs.Designs.{Design}
use Rattle.bud_design.specs.Lists.{Lists, greatest}
use Rattle.bud_design.specs.Orders.{pins_before, pair_before}
use Rattle.registers.specs.Registers.{pin_place, is_counted, is_register, values, IsPair, IsLeftOut, IsLeftOutCount}
use Rattle.registers.specs.PairLists.{through_value, pair_by, pair_of, left_of}
use Rattle.registers.specs.Tables.{same_place, falls_before, place_before, IsGreatest, AreGreatest}
use Rattle.registers.specs.declared.entries.Through.{Through}
use Rattle.registers.specs.declared.entries.Setup.{Setup}
use Rattle.registers.specs.declared.tables.Valued.{Valued}
use Rattle.registers.proofs.Greatest.{HasOne, HasMost, greatest_from, greatest_one}
use Rattle.registers.proofs.Filtering.{contains_cases, contains_nil, contains_first, contains_later, filter_map-All, filter_map-Contains, filter_map-AllPairs}
use Rattle.registers.proofs.Sorting.{IsSame, same_is, is_same, fall_number}

-- the delays between two pins
abbrev pub joins : ℕ → ℕ → Through → Bool
joins a b t = t.from.0 == a && t.to.0 == b

abbrev pub through_time : Through → ℤ
through_time t = t.value

joins_is : (a b : ℕ) (t : Through) → joins a b t ≡ true → (t.from.0 ≡ a) × (t.to.0 ≡ b)
joins_is a b t holds = by (t.from.0 == a) refl holds
  where
    by : (c : Bool) → t.from.0 == a ≡ c → c && t.to.0 == b ≡ true → (t.from.0 ≡ a) × (t.to.0 ≡ b)
    by true is rest = (eqb-true t.from.0 a is, eqb-true t.to.0 b rest)
    by false is rest = absurd (true≢false (sym rest))

is_joined : (a b : ℕ) (t : Through) → t.from.0 ≡ a → t.to.0 ≡ b → joins a b t ≡ true
is_joined a b t from to = rw (eq-eqb t.from.0 a from, eq-eqb t.to.0 b to) refl

falls_not : (ts : List Through) (y : Valued) → Contains (map through_value ts) y → y.falls ≡ false
falls_not [] y found = absurd (contains_nil y found)
falls_not (t ∷ ts) y found = elim (contains_cases (through_value t) (map through_value ts) y found) [
  | inl same ↦ ap (λ (v : Valued). v.falls) (sym same)
  | inr later ↦ falls_not ts y later
]

one_from : (ts : List Through) (y : Valued) → Contains (map through_value ts) y → HasOne (joins y.first.0 y.second.0) through_time y.value ts
one_from [] y found = absurd (contains_nil y found)
one_from (t ∷ ts) y found = elim (contains_cases (through_value t) (map through_value ts) y found) [
  | inl same ↦ inl (is_joined y.first.0 y.second.0 t (ap (λ (v : Valued). v.first.0) same) (ap (λ (v : Valued). v.second.0) same), ap (λ (v : Valued). v.value) same)
  | inr later ↦ inr (one_from ts y later)
]

most_from : (ts : List Through) (y : Valued) → y.falls ≡ false → All (λ x. same_place x y ≡ true → x.value ≤ℤ y.value) (map through_value ts) → HasMost (joins y.first.0 y.second.0) through_time y.value ts
most_from [] y falls most = tt
most_from (t ∷ ts) y falls most = (
  (λ holds.
      let ends = joins_is y.first.0 y.second.0 t holds in
      All-head (λ x. same_place x y ≡ true → x.value ≤ℤ y.value) (through_value t) (map through_value ts) most
      (is_same (through_value t) y (record { first = ends.0; second = ends.1; falls = ap fall_number (sym falls) }))),
  most_from ts y falls (All-tail (λ x. same_place x y ≡ true → x.value ≤ℤ y.value) (through_value t) (map through_value ts) most),
)

-- the value is the greatest of the delays between its pins
greatest_at : (ts : List Through) (y : Valued) → IsGreatest (map through_value ts) y → greatest (values ts y.first.0 y.second.0) ≡ Some y.value
greatest_at ts y great =
    greatest_from (joins y.first.0 y.second.0) through_time ts y.value (one_from ts y great.stands) (most_from ts y (falls_not ts y great.stands) great.most)

found_at : (ts : List Through) (a b : ℕ) (v : ℤ) → HasOne (joins a b) through_time v ts → (x : Valued) × (Contains (map through_value ts) x × ((x.first.0 ≡ a) × (x.second.0 ≡ b)))
found_at [] a b v one = absurd one
found_at (t ∷ ts) a b v one = elim one [
  | inl here ↦ (through_value t, (contains_first (through_value t) (map through_value ts), joins_is a b t here.0))
  | inr later ↦ (let found = found_at ts a b v later in (found.0, (contains_later (through_value t) (map through_value ts) found.0 found.1.0, found.1.1)))
]

-- the pins between which a delay leads are listed with the greatest value
listed_at : (ts : List Through) (ys : List Valued) → AreGreatest (map through_value ts) ys → (a b : ℕ) (v : ℤ) → greatest (values ts a b) ≡ Some v
    → (y : Valued) × (Contains ys y × ((y.first.0 ≡ a) × ((y.second.0 ≡ b) × (y.value ≡ v))))
listed_at ts ys are a b v some =
    let found = found_at ts a b v (greatest_one (joins a b) through_time ts v some).0 in
    let kept = are.complete found.0 found.1.0 in
    let same = same_is found.0 kept.0 kept.1.1 in
    let first : kept.0.first.0 ≡ a = sym same.first ∙ found.1.1.0 in
    let second : kept.0.second.0 ≡ b = sym same.second ∙ found.1.1.1 in
    let great : IsGreatest (map through_value ts) kept.0 = All-contains (IsGreatest (map through_value ts)) ys kept.0 are.sound kept.1.0 in
    let value : Some kept.0.value ≡ Some v = sym (greatest_at ts kept.0 great) ∙ (ap (λ n. greatest (values ts n kept.0.second.0)) first ∙ (ap (λ n. greatest (values ts a n)) second ∙ some)) in
    (kept.0, (kept.1.0, (first, (second, same_Some kept.0.value v value))))

or-nothing : (x a b : Bool) → x || (a && (b && false)) ≡ true → x ≡ true
or-nothing true a b holds = refl
or-nothing false true true holds = holds
or-nothing false true false holds = holds
or-nothing false false b holds = holds

-- the order of places without edges is that of pins
pins_first : (x y : Valued) → x.falls ≡ false → y.falls ≡ false → place_before x y ≡ true → pins_before x.first.0 x.second.0 y.first.0 y.second.0 ≡ true
pins_first x y first second before =
    or-nothing (pins_before x.first.0 x.second.0 y.first.0 y.second.0) (x.first.0 == y.first.0) (x.second.0 == y.second.0)
    (subst (λ f. pins_before x.first.0 x.second.0 y.first.0 y.second.0 || (x.first.0 == y.first.0 && (x.second.0 == y.second.0 && falls_before f false)) ≡ true) first
    (subst (λ g. pins_before x.first.0 x.second.0 y.first.0 y.second.0 || (x.first.0 == y.first.0 && (x.second.0 == y.second.0 && falls_before x.falls g)) ≡ true) second before))

pair_by-some : (counted launch : Bool) (e : Valued) (x : Pair) → pair_by counted launch e ≡ Some x → (counted ≡ true) × (record { from = e.first; to = e.second; value = e.value; launch = launch } ≡ x)
pair_by-some true launch e x is = (refl, same_Some (record { from = e.first; to = e.second; value = e.value; launch = launch }) x is)
pair_by-some false launch e x is = absurd (none-some x is)

left-some : (counted : Bool) (p x : ℕ × ℕ) → cond counted None (Some p) ≡ Some x → (counted ≡ false) × (p ≡ x)
left-some true p x is = absurd (none-some x is)
left-some false p x is = (refl, same_Some p x is)

module _ (d : Design) (ts : List Through) (setups : List Setup) (ys : List Valued) (are : AreGreatest (map through_value ts) ys) where
  IsRising : Valued → Valued → Type 0
  IsRising x y = pins_before x.first.0 x.second.0 y.first.0 y.second.0 ≡ true

  rising : AllPairs IsRising ys
  unfolding IsRising
  rising = λ i j e less below. pins_first (get_or ys i e) (get_or ys j e)
      (falls_not ts (get_or ys i e) (are.sound i e (omega (arith, less, below))).stands) (falls_not ts (get_or ys j e) (are.sound j e below).stands) (are.rising i j e less below)

  pub Lists-pairs : Lists pair_before (IsPair d ts setups) (filter_map (pair_of d setups) ys)
  unfolding IsRising
  Lists-pairs = record {
    rising = filter_map-AllPairs (pair_of d setups) IsRising (λ x y. pair_before x y ≡ true) (λ x z y w before is other.
        let first = (pair_by-some (is_counted d setups x.first.0) (is_register d setups (pin_place d x.first.0)) x y is).1 in
        let second = (pair_by-some (is_counted d setups z.first.0) (is_register d setups (pin_place d z.first.0)) z w other).1 in
        subst (λ p. pair_before p w ≡ true) first (subst (λ q. pins_before x.first.0 x.second.0 q.from.0 q.to.0 ≡ true) second before)) ys rising;
    sound = filter_map-All (pair_of d setups) (IsGreatest (map through_value ts)) (IsPair d ts setups) (λ e x great is.
        let both = pair_by-some (is_counted d setups e.first.0) (is_register d setups (pin_place d e.first.0)) e x is in
        subst (IsPair d ts setups) both.1 (record { counted = both.0; value = greatest_at ts e great; launch = refl })) ys are.sound;
    complete = λ x such.
        let found = listed_at ts ys are x.from.0 x.to.0 x.value such.value in
        let from : found.0.first ≡ x.from = ap (λ n. record { 0 = n }) found.1.1.0 in
        let to : found.0.second ≡ x.to = ap (λ n. record { 0 = n }) found.1.1.1.0 in
        filter_map-Contains (pair_of d setups) ys found.0 x found.1.0
        (rw (from, such.counted, sym such.launch, to, found.1.1.1.1) refl);
  }

  pub IsLeftOutCount-pairs : IsLeftOutCount d ts setups (length (filter_map (left_of d setups) ys))
  unfolding IsRising
  IsLeftOutCount-pairs = record {
    pairs = filter_map (left_of d setups) ys;
    all = record {
      rising = filter_map-AllPairs (left_of d setups) IsRising (λ x y. pins_before x.0 x.1 y.0 y.1 ≡ true) (λ x z y w before is other.
          let first = (left-some (is_counted d setups x.first.0) (x.first.0, x.second.0) y is).1 in
          let second = (left-some (is_counted d setups z.first.0) (z.first.0, z.second.0) w other).1 in
          subst (λ p. pins_before p.0 p.1 w.0 w.1 ≡ true) first (subst (λ q. pins_before x.first.0 x.second.0 q.0 q.1 ≡ true) second before)) ys rising;
      sound = filter_map-All (left_of d setups) (IsGreatest (map through_value ts)) (IsLeftOut d ts setups) (λ e x great is.
          let both = left-some (is_counted d setups e.first.0) (e.first.0, e.second.0) x is in
          subst (IsLeftOut d ts setups) both.1 (record { uncounted = both.0; some = (e.value, greatest_at ts e great) })) ys are.sound;
      complete = λ x such.
          let found = listed_at ts ys are x.0 x.1 such.some.0 such.some.1 in
          filter_map-Contains (left_of d setups) ys found.0 x found.1.0
          (rw (found.1.1.0, such.uncounted, found.1.1.1.0) refl);
    };
    count_is = refl;
  }

length-cons : {Y : Type 0} (o : Option Y) (ys : List Y) → length (cons_option o ys) ≡ length (cons_option o []) + length ys
length-cons None ys = omega arith
length-cons (Some y) ys = omega arith

-- each delay is counted or left out
pub parted : (d : Design) (setups : List Setup) (ys : List Valued) → length (filter_map (pair_of d setups) ys) + length (filter_map (left_of d setups) ys) ≡ length ys
parted d setups [] = refl
parted d setups (e ∷ es) =
    let rest = parted d setups es in
    let first = length-cons (pair_of d setups e) (filter_map (pair_of d setups) es) in
    let second = length-cons (left_of d setups e) (filter_map (left_of d setups) es) in
    let one = parted-one (is_counted d setups e.first.0) (is_register d setups (pin_place d e.first.0)) e (e.first.0, e.second.0) in
    omega (arith, rest, first, second, one)
  where
    parted-one : (counted launch : Bool) (v : Valued) (p : ℕ × ℕ) → length (cons_option (pair_by counted launch v) []) + length (cons_option (cond counted None (Some p)) []) ≡ 1
    parted-one true launch v p = refl
    parted-one false launch v p = refl
