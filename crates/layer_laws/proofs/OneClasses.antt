-- A design has one list of classes.
use Rattle.std.specs.Prelude.{◌≡◌, ◌⊎◌, ℕ, zero, suc, ◌<◌, ◌==◌, ◌&&◌, ◌||◌, nat_lt, Bool, true, false, List, [], ◌∷◌, All, AllPairs, Contains, slice_index_or}
use Rattle.std.proofs.Common.{arith, sym, ◌∙◌, refl, subst, inl, inr, true≢false}
use Rattle.std.proofs.lemmas.List.Elements.{All-head, All-tail, All-contains}
use Rattle.bud_design.specs.Layers.{AreClasses, IsFirstLaunch, StandsBefore, steps_before}
use Rattle.bud_design.specs.TimingPaths.{View}
use Rattle.bud_design.specs.declared.layers.Met.{Met}
use Rattle.bud_design.specs.declared.layers.Class.{Class}
use Rattle.bud_design.proofs.ClassLaws.{pairs-head, pairs-tail}
use Rattle.bud_design.proofs.NameLaws.{cons-both}

Contains-nil : {X P : Type 0} (x : X) → Contains [] x → P
Contains-nil x (k, below, is) = absurd (omega (arith, below))

Contains-cons : {X : Type 0} (y : X) (ys : List X) (x : X) → Contains (y ∷ ys) x → (y ≡ x) ⊎ Contains ys x
Contains-cons y ys x (zero, below, is) = inl is
Contains-cons y ys x (suc k, below, is) = inr (k, omega (arith, below), is)

-- two lists of the same elements, where no two elements stand before one another
module _ {X : Type 0} (Before : X → X → Type 0) (never_back : (x y : X) → Before x y → Before y x → ⊥) where
  behind : (y : X) (ys : List X) (x : X) → AllPairs Before (y ∷ ys) → Contains ys x → Before y x
  behind y ys x rises within = All-contains (Before y) ys x (pairs-head Before y ys rises) within

  heads-same : (x y : X) (xs ys : List X) → AllPairs Before (x ∷ xs) → AllPairs Before (y ∷ ys) → Contains (y ∷ ys) x → Contains (x ∷ xs) y → x ≡ y
  heads-same x y xs ys risex risey inx iny = elim (Contains-cons y ys x inx) [
    | inl same ↦ sym same
    | inr later ↦ elim (Contains-cons x xs y iny) [
      | inl same ↦ same
      | inr there ↦ absurd (never_back x y (behind x xs y risex there) (behind y ys x risey later))
    ]
  ]

  others : (x y : X) (xs ys : List X) → x ≡ y → AllPairs Before (x ∷ xs) → All (Contains (y ∷ ys)) xs → All (Contains ys) xs
  others x y xs ys same rises all k d below =
      let z = slice_index_or xs k d in
      let later : Before x z = pairs-head Before x xs rises k d below in
      elim (Contains-cons y ys z (all k d below)) [
        | inl equal ↦ (let itself = subst (Before x) (sym equal ∙ sym same) later in absurd (never_back x x itself itself))
        | inr within ↦ within
      ]

  pub related-same : (xs ys : List X) → AllPairs Before xs → AllPairs Before ys → All (Contains ys) xs → All (Contains xs) ys → xs ≡ ys
  related-same [] [] risex risey inx iny = refl
  related-same [] (y ∷ ys) risex risey inx iny = Contains-nil y (All-head (Contains []) y ys iny)
  related-same (x ∷ xs) [] risex risey inx iny = Contains-nil x (All-head (Contains []) x xs inx)
  related-same (x ∷ xs) (y ∷ ys) risex risey inx iny =
      let same = heads-same x y xs ys risex risey (All-head (Contains (y ∷ ys)) x xs inx) (All-head (Contains (x ∷ xs)) y ys iny) in
      cons-both x y xs ys same
      (related-same xs ys (pairs-tail Before x xs risex) (pairs-tail Before y ys risey)
      (others x y xs ys same risex (All-tail (Contains (y ∷ ys)) x xs inx))
      (others y x ys xs (sym same) risey (All-tail (Contains (x ∷ xs)) y ys iny)))

-- by a first number, and then by the rest
less-never_back : (a b : ℕ) (p q : Bool) → (p ≡ true → q ≡ true → ⊥) → nat_lt a b || (a == b && p) ≡ true → nat_lt b a || (b == a && q) ≡ true → ⊥
less-never_back a b true true never first second = never refl refl
less-never_back a b true false never first second = grind arith
less-never_back a b false true never first second = grind arith
less-never_back a b false false never first second = grind arith

steps-never_back : (ls ms : List Met) → steps_before ls ms ≡ true → steps_before ms ls ≡ true → ⊥
steps-never_back [] ms first second = true≢false (sym first)
steps-never_back (l ∷ ls) [] first second = true≢false (sym first)
steps-never_back (l ∷ ls) (m ∷ ms) first second =
    less-never_back l.steps m.steps (steps_before ls ms) (steps_before ms ls) (steps-never_back ls ms) first second

first-one : (w : View) (k : Class) (m n : ℕ) → IsFirstLaunch w k m → IsFirstLaunch w k n → m ≡ n
first-one w k m n one other = omega (arith, one.first n other.begins, other.first m one.begins)

-- no two classes stand before one another
pub StandsBefore-never_back : (w : View) (j k : Class) → StandsBefore w j k → StandsBefore w k j → ⊥
StandsBefore-never_back w j k one other =
    never one.first one.second other.first other.second
    (first-one w j one.first other.second one.first_is other.second_is) (first-one w k one.second other.first one.second_is other.first_is) one.before other.before
  where
    never : (a b c e : ℕ) → a ≡ e → b ≡ c → (a < b) ⊎ ((a ≡ b) × (steps_before j.exceptions k.exceptions ≡ true))
        → (c < e) ⊎ ((c ≡ e) × (steps_before k.exceptions j.exceptions ≡ true)) → ⊥
    never a b c e fore back (inl less) (inl more) = omega (arith, fore, back, less, more)
    never a b c e fore back (inl less) (inr both) = omega (arith, fore, back, less, both.0)
    never a b c e fore back (inr both) (inl more) = omega (arith, fore, back, both.0, more)
    never a b c e fore back (inr both) (inr two) = steps-never_back j.exceptions k.exceptions both.1 two.1

pub classes-same : (w : View) (xs ys : List Class) → AreClasses w xs → AreClasses w ys → xs ≡ ys
classes-same w xs ys one other =
    related-same (StandsBefore w) (StandsBefore-never_back w) xs ys one.rising other.rising
    (λ k d below. other.complete (slice_index_or xs k d) (one.live k d below))
    (λ k d below. one.complete (slice_index_or ys k d) (other.live k d below))
