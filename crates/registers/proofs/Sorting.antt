-- What the order of sorted values says of their places and values.
use Rattle.std.specs.declared.cmp.Ordering.{Ordering}
use Rattle.std.specs.declared.cmp.Ordering.TheVariants.{Less, Equal, Greater}
use Rattle.std.specs.Prelude.{zero, suc}
use Rattle.std.specs.Bool.{beq}
use Rattle.std.specs.Ordering.{nat_cmp, int_cmp, bool_cmp, ordering_then, is_lt}
use Rattle.std.specs.Cmp.{IsTotalOrder, IsStrictWeakOrder, bool_cmp_total}
use Rattle.std.specs.List.Sorted.{IsSorted}
use Rattle.std.proofs.Common.{◌≡◌, ℕ, ◌+◌, ◌<◌, ◌≤◌, ◌⊎◌, ◌==◌, ◌&&◌, ◌||◌, nat_lt, Bool, true, false, cond, ℤ, ◌≤ℤ◌, List, [], length, get_or, refl, sym, ap, subst, ◌∙◌, inl, inr, arith, true≢false}
use Rattle.std.proofs.lemmas.Bool.{cases_lt, cases_eq, lt-ltb, le-ltb, eq-eqb, ne_eqb, eqb-true, ltb-true}
use Rattle.std.proofs.lemmas.Cmp.{nat_cmp_total, int_cmp_total, then_total, on_total}
use Rattle.std.proofs.lemmas.List.Sorted.{ranks_by, sorted_far}
use Rattle.std.proofs.lemmas.Grind.{common_steps}
use Rattle.std.proofs.lemmas.Int.{ints}
use Rattle.bud_design.specs.Orders.{pins_before}
use Rattle.registers.specs.Tables.{valued_at, valued_cmp, same_place, falls_before, place_before}
use Rattle.registers.specs.declared.tables.Valued.{Valued}

-- the edge as a number
abbrev pub fall_number : Bool → ℕ
fall_number false = 0
fall_number true = 1

pub record IsSame (x y : Valued) : Type 0 where
  pub first : x.first.0 ≡ y.first.0
  pub second : x.second.0 ≡ y.second.0
  pub falls : fall_number x.falls ≡ fall_number y.falls

abbrev pub IsBefore : Valued → Valued → Type 0
IsBefore x y =
    (x.first.0 < y.first.0)
    ⊎ ((x.first.0 ≡ y.first.0) × ((x.second.0 < y.second.0) ⊎ ((x.second.0 ≡ y.second.0) × (fall_number x.falls < fall_number y.falls))))

and-both : (a b : Bool) → a && b ≡ true → (a ≡ true) × (b ≡ true)
and-both true b holds = (refl, holds)
and-both false b holds = absurd (true≢false (sym holds))

beq-number : (a b : Bool) → beq a b ≡ true → fall_number a ≡ fall_number b
beq-number true true holds = refl
beq-number true false holds = absurd (true≢false (sym holds))
beq-number false true holds = absurd (true≢false (sym holds))
beq-number false false holds = refl

number-beq : (a b : Bool) → fall_number a ≡ fall_number b → beq a b ≡ true
number-beq true true is = refl
number-beq true false is = absurd (omega (arith, is))
number-beq false true is = absurd (omega (arith, is))
number-beq false false is = refl

pub same_is : (x y : Valued) → same_place x y ≡ true → IsSame x y
same_is x y holds =
    let first = and-both (x.first.0 == y.first.0) (x.second.0 == y.second.0 && beq x.falls y.falls) holds in
    let second = and-both (x.second.0 == y.second.0) (beq x.falls y.falls) first.1 in
    record { first = eqb-true x.first.0 y.first.0 first.0; second = eqb-true x.second.0 y.second.0 second.0; falls = beq-number x.falls y.falls second.1 }

pub is_same : (x y : Valued) → IsSame x y → same_place x y ≡ true
is_same x y same = rw (eq-eqb x.first.0 y.first.0 same.first, eq-eqb x.second.0 y.second.0 same.second, number-beq x.falls y.falls same.falls) refl

falls_before-number : (a b : Bool) → fall_number a < fall_number b → falls_before a b ≡ true
falls_before-number true true less = absurd (omega (arith, less))
falls_before-number true false less = absurd (omega (arith, less))
falls_before-number false true less = refl
falls_before-number false false less = absurd (omega (arith, less))

or-true : (b : Bool) → b || true ≡ true
or-true true = refl
or-true false = refl

pub is_before : (x y : Valued) → IsBefore x y → place_before x y ≡ true
is_before x y before = elim before [
  | inl less ↦ rw (lt-ltb x.first.0 y.first.0 less) refl
  | inr rest ↦ elim rest.1 [
    | inl less ↦ rw (le-ltb x.first.0 y.first.0 (omega (arith, rest.0)), eq-eqb x.first.0 y.first.0 rest.0, lt-ltb x.second.0 y.second.0 less) refl
    | inr last ↦
        rw (
          le-ltb x.first.0 y.first.0 (omega (arith, rest.0)),
          eq-eqb x.first.0 y.first.0 rest.0,
          le-ltb x.second.0 y.second.0 (omega (arith, last.0)),
          eq-eqb x.second.0 y.second.0 last.0,
          falls_before-number x.falls y.falls last.1,
        ) refl
  ]
]

-- a place isn't before itself, also where another lies between
pub before_differs : (x y : Valued) → IsBefore x y → IsSame x y → ⊥
before_differs x y before same = elim before [
  | inl less ↦ omega (arith, less, same.first)
  | inr rest ↦ elim rest.1 [
    | inl less ↦ omega (arith, less, same.second)
    | inr last ↦ omega (arith, last.1, same.falls)
  ]
]

before_second : (x y z : Valued) → (x.first.0 ≡ y.first.0) × ((x.second.0 < y.second.0) ⊎ ((x.second.0 ≡ y.second.0) × (fall_number x.falls < fall_number y.falls))) → IsBefore y z → IsSame x z → ⊥
before_second x y z first second same = elim second [
  | inl less ↦ omega (arith, less, first.0, same.first)
  | inr rest ↦ elim first.1 [
    | inl lower ↦ elim rest.1 [
      | inl less ↦ omega (arith, less, lower, same.second)
      | inr last ↦ omega (arith, last.0, lower, same.second)
    ]
    | inr lower ↦ elim rest.1 [
      | inl less ↦ omega (arith, less, lower.0, same.second)
      | inr last ↦ omega (arith, last.1, lower.1, same.falls)
    ]
  ]
]

pub before_twice : (x y z : Valued) → IsBefore x y → IsBefore y z → IsSame x z → ⊥
before_twice x y z first second same = elim first [
  | inl less ↦ elim second [
    | inl more ↦ omega (arith, less, more, same.first)
    | inr rest ↦ omega (arith, less, rest.0, same.first)
  ]
  | inr rest ↦ before_second x y z rest second same
]

pub same_trans : (x y z : Valued) → IsSame x y → IsSame y z → IsSame x z
same_trans x y z first second = record { first = first.first ∙ second.first; second = first.second ∙ second.second; falls = first.falls ∙ second.falls }

pub same_sym : (x y : Valued) → IsSame x y → IsSame y x
same_sym x y same = record { first = sym same.first; second = sym same.second; falls = sym same.falls }

-- what the order says where the second isn't less
nat-step : (a b : ℕ) (o : Ordering) → is_lt (ordering_then (nat_cmp b a) o) ≡ false → (a < b) ⊎ ((a ≡ b) × (is_lt o ≡ false))
nat-step a b o holds = elim (cases_lt a b) [
  | inl less ↦ inl less
  | inr more ↦ elim (cases_eq a b) [
    | inl same ↦
        let equal : nat_cmp b a ≡ Equal = rw (le-ltb b a (omega (arith, same)), eq-eqb b a (sym same)) refl in
        inr (same, rw equal at holds)
    | inr differs ↦
        let lower : b < a = omega arith in
        let least : nat_cmp b a ≡ Less = rw (lt-ltb b a lower) refl in
        absurd (true≢false (rw least at holds))
  ]
]

bool-step : (a b : Bool) (o : Ordering) → is_lt (ordering_then (bool_cmp b a) o) ≡ false → (fall_number a < fall_number b) ⊎ ((fall_number a ≡ fall_number b) × (is_lt o ≡ false))
bool-step true true o holds = inr (refl, holds)
bool-step true false o holds = absurd (true≢false holds)
bool-step false true o holds = inl (omega arith)
bool-step false false o holds = inr (refl, holds)

int-step : (x y : ℤ) → is_lt (int_cmp y x) ≡ false → x ≤ℤ y
int-step x y holds = grind (arith, common_steps, ints)

-- of two sorted values the first is before, or at the same place and no greater
abbrev pub IsNotAfter : Valued → Valued → Type 0
IsNotAfter x y = IsBefore x y ⊎ (IsSame x y × (x.value ≤ℤ y.value))

pub not_after : (x y : Valued) → is_lt (valued_cmp y x) ≡ false → IsNotAfter x y
not_after x y holds = elim (nat-step x.first.0 y.first.0 (ordering_then (nat_cmp y.second.0 x.second.0) (ordering_then (bool_cmp y.falls x.falls) (int_cmp y.value x.value))) holds) [
  | inl less ↦ inl (inl less)
  | inr first ↦ elim (nat-step x.second.0 y.second.0 (ordering_then (bool_cmp y.falls x.falls) (int_cmp y.value x.value)) first.1) [
    | inl less ↦ inl (inr (first.0, inl less))
    | inr second ↦ elim (bool-step x.falls y.falls (int_cmp y.value x.value) second.1) [
      | inl less ↦ inl (inr (first.0, inr (second.0, less)))
      | inr third ↦ inr (record { first = first.0; second = second.0; falls = third.0 }, int-step x.value y.value third.1)
    ]
  ]
]

valued_cmp_total : IsTotalOrder valued_cmp
valued_cmp_total =
    then_total (on_total (λ (v : Valued). v.first.0) nat_cmp_total)
    (then_total (on_total (λ (v : Valued). v.second.0) nat_cmp_total)
    (then_total (on_total (λ (v : Valued). v.falls) bool_cmp_total) (on_total (λ (v : Valued). v.value) int_cmp_total)))

-- any two sorted values
pub sorted_not_after : (xs : List Valued) → IsSorted valued_cmp xs → (i j : ℕ) → i ≤ j → j < length xs → IsNotAfter (valued_at xs i) (valued_at xs j)
sorted_not_after xs sorted i j before within =
    not_after (valued_at xs i) (valued_at xs j)
    (sorted_far (λ x y. is_lt (valued_cmp x y)) (ranks_by valued_cmp_total (λ (v : Valued). v)) xs sorted i j (valued_at [] 0) before within)
