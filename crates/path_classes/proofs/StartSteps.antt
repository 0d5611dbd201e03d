-- Where launches begin, one after another.
use Rattle.std.proofs.Common.{◌≡◌, ℕ, ◌+◌, ◌<◌, ◌≤◌, ◌==◌, ◌&&◌, ◌||◌, nat_lt, true, false, List, [], ◌∷◌, ◌++◌, length, get_or, Option, Some, None, refl, sym, ◌∙◌, ap, subst, inl, inr, arith}
use Rattle.std.specs.Prelude.{All, AllPairs, Contains}
use Rattle.std.proofs.lemmas.Bool.{cases_eq}
use Rattle.std.proofs.lemmas.Option.{none-some}
use Rattle.bud_design.specs.declared.clocks.Constraints.{Constraints}
use Rattle.bud_design.specs.declared.clocks.Launch.{Launch}
use Rattle.bud_design.specs.declared.layers.Class.{Class}
use Rattle.bud_design.specs.Exceptions.{class_of}
use Rattle.bud_design.specs.Layers.{class_number}
use Rattle.bud_design.specs.TimingPaths.{launch_at}
use Rattle.layer_theory.proofs.LayerPlaces.{one-place}
use Rattle.state_numbers.proofs.RankSteps.{Contains-behind, Contains-last, All-behind}
use Rattle.state_numbers.specs.Placed.{placed_before, placed_at, IsPlaced, IsFoundPlace}
use Rattle.state_numbers.specs.declared.placed.Placed.{Placed}
use Rattle.path_classes.specs.Placing.{AreDifferent, BeginsAtPlace, IsStartPlace, AreStarts}

-- equal classes have one place in a list of different ones
pub one-kind : (kinds : List Class) → AreDifferent kinds → (b c : ℕ) → b < length kinds → c < length kinds → class_number kinds b ≡ class_number kinds c → b ≡ c
one-kind kinds different b c first second same =
    one-place (λ j k. j ≡ k → ⊥) (λ j k. j ≡ k) kinds (λ x y equal other. other equal) different b c (class_number [] 0) first second same (sym same)

abbrev pub SamePlaced : Placed → Placed → Type 0
SamePlaced x y = (x.«class» ≡ y.«class») × (x.number ≡ y.number)

not_before : (a b c d : ℕ) → a ≡ c → b ≡ d → (nat_lt a c || (a == c && nat_lt b d)) ≡ true → ⊥
not_before a b c d first second before = absurd (grind (arith, before, first, second))

placed-never : (x y : Placed) → SamePlaced x y → placed_before x y ≡ true → ⊥
placed-never x y same before = not_before x.«class» x.number y.«class» y.number same.0 same.1 before

-- and a pin in a class has one place in a rising list
pub one-placed : (nodes : List Placed) → AllPairs (λ x y. placed_before x y ≡ true) nodes → (p q c v : ℕ) → p < length nodes → q < length nodes → IsPlaced c v (placed_at nodes p)
    → IsPlaced c v (placed_at nodes q) → p ≡ q
one-placed nodes rising p q c v first second here there =
    one-place (λ x y. placed_before x y ≡ true) SamePlaced nodes placed-never rising p q (placed_at [] 0) first second (here.0 ∙ sym there.0, here.1 ∙ sym there.1)
    (there.0 ∙ sym here.0, there.1 ∙ sym here.1)

module _ (all : Constraints) (kinds : List Class) (ranks : List (Option ℕ)) (nodes : List Placed) where
  -- no class of the list is the launch's
  pub IsStartPlace-unknown : (l : Launch) (k : Class) → k ≡ class_of all l (l.pin.0 ∷ []) → All (λ j. j ≡ k → ⊥) kinds → IsStartPlace all kinds ranks nodes l None
  IsStartPlace-unknown l k class_is unknown place begins = unknown begins.kind (class_number [] 0) begins.within (begins.class_is ∙ sym class_is)

  -- the launch's class is the one of this place
  pub kind-known : (l : Launch) (k : Class) (c place : ℕ) → AreDifferent kinds → k ≡ class_of all l (l.pin.0 ∷ []) → c < length kinds → class_number kinds c ≡ k
      → (begins : BeginsAtPlace all kinds ranks nodes l place) → begins.kind ≡ c
  kind-known l k c place different class_is within found begins = one-kind kinds different begins.kind c begins.within within (begins.class_is ∙ (sym class_is ∙ sym found))

  pub IsStartPlace-dead : (l : Launch) (k : Class) (c : ℕ) → AreDifferent kinds → k ≡ class_of all l (l.pin.0 ∷ []) → c < length kinds → class_number kinds c ≡ k → get_or ranks c None ≡ None
      → IsStartPlace all kinds ranks nodes l None
  IsStartPlace-dead l k c different class_is within found none place begins =
      none-some begins.rank (sym none ∙ (ap (λ b. get_or ranks b None) (sym (kind-known l k c place different class_is within found begins)) ∙ begins.ranked))

  pub IsStartPlace-found : (l : Launch) (k : Class) (c r : ℕ) (o : Option ℕ) → AreDifferent kinds → AllPairs (λ x y. placed_before x y ≡ true) nodes → k ≡ class_of all l (l.pin.0 ∷ [])
      → c < length kinds → class_number kinds c ≡ k → get_or ranks c None ≡ Some r → IsFoundPlace nodes r l.pin.0 o → IsStartPlace all kinds ranks nodes l o
  IsStartPlace-found l k c r None different rising class_is within found ranked absent =
      λ place begins. absent place (placed_at [] 0) begins.node (subst (λ b. IsPlaced b l.pin.0 (placed_at nodes place)) (sym (same-rank place begins)) begins.placed)
    where
      same-rank : (place : ℕ) (begins : BeginsAtPlace all kinds ranks nodes l place) → r ≡ begins.rank
      same-rank place begins =
          let e : Some r ≡ Some begins.rank = sym ranked ∙ (ap (λ b. get_or ranks b None) (sym (kind-known l k c place different class_is within found begins)) ∙ begins.ranked) in cc
  IsStartPlace-found l k c r (Some p) different rising class_is within found ranked there = (
    record { kind = c; within = within; class_is = found ∙ class_is; rank = r; ranked = ranked; node = there.0; placed = there.1 },
    λ other begins.
        let e : Some r ≡ Some begins.rank = sym ranked ∙ (ap (λ b. get_or ranks b None) (sym (kind-known l k c other different class_is within found begins)) ∙ begins.ranked) in
        let same : r ≡ begins.rank = cc in
        one-placed nodes rising other p r l.pin.0 begins.node there.0 (subst (λ b. IsPlaced b l.pin.0 (placed_at nodes other)) (sym same) begins.placed) there.1,
  )

  pub AreStarts-skip : (n : ℕ) (xs : List Placed) → IsStartPlace all kinds ranks nodes (launch_at all.launches n) None → AreStarts all kinds ranks nodes n xs → AreStarts all kinds ranks nodes (n + 1) xs
  AreStarts-skip n xs none are = record {
    flat = are.flat;
    within = λ k d below. omega (arith, are.within k d below);
    sound = are.sound;
    complete = λ m below place begins. elim (cases_eq m n) [
      | inl same ↦ absurd (none place (subst (λ j. BeginsAtPlace all kinds ranks nodes (launch_at all.launches j) place) same begins))
      | inr differs ↦ are.complete m (omega (arith, below, differs)) place begins
    ];
  }

  pub AreStarts-more : (n p : ℕ) (xs : List Placed) → IsStartPlace all kinds ranks nodes (launch_at all.launches n) (Some p) → AreStarts all kinds ranks nodes n xs
      → AreStarts all kinds ranks nodes (n + 1) (xs ++ record { «class» = 0; number = p; with = n } ∷ [])
  AreStarts-more n p xs is are =
      let x : Placed = record { «class» = 0; number = p; with = n } in
      record {
        flat = All-behind (λ (y : Placed). y.«class» ≡ 0) xs x are.flat refl;
        within = All-behind (λ (y : Placed). y.with < n + 1) xs x (λ k d below. omega (arith, are.within k d below)) (omega arith);
        sound = All-behind (λ (y : Placed). BeginsAtPlace all kinds ranks nodes (launch_at all.launches y.with) y.number) xs x are.sound is.0;
        complete = λ m below place begins. elim (cases_eq m n) [
          | inl same ↦
              let place_is : place ≡ p = is.1 place (subst (λ j. BeginsAtPlace all kinds ranks nodes (launch_at all.launches j) place) same begins) in
              let equal : x ≡ record { «class» = 0; number = place; with = m } = rw (place_is, same) refl in
              subst (Contains (xs ++ x ∷ [])) equal (Contains-last xs x)
          | inr differs ↦ Contains-behind xs x (record { «class» = 0; number = place; with = m }) (are.complete m (omega (arith, below, differs)) place begins)
        ];
      }

pub start-behind : (xs : List Placed) (i j m n : ℕ) → i ≡ j → m ≡ n → xs ++ record { «class» = 0; number = i; with = m } ∷ [] ≡ xs ++ record { «class» = 0; number = j; with = n } ∷ []
start-behind xs i j m n is same = rw (is, same) refl
