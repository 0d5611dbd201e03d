-- A table is the only list of what it lists.
use Rattle.std.specs.Prelude.{◌≡◌, ◌⊎◌, Bool, true, false, List, [], ◌∷◌, All, AllPairs, Contains, slice_index_or, zero, suc}
use Rattle.std.proofs.Common.{true≢false, arith, sym, ◌∙◌, refl, ap, inl, inr}
use Rattle.std.proofs.lemmas.List.Elements.{All-head, All-tail, All-contains}
use Rattle.bud_design.specs.Lists.{Lists}
use Rattle.bud_design.proofs.ClassLaws.{pairs-head, pairs-tail}
use Rattle.bud_design.proofs.NameLaws.{cons-both}

Contains-nil : {X P : Type 0} (x : X) → Contains [] x → P
Contains-nil x (k, below, is) = absurd (omega (arith, below))

Contains-cons : {X : Type 0} (y : X) (ys : List X) (x : X) → Contains (y ∷ ys) x → (y ≡ x) ⊎ Contains ys x
Contains-cons y ys x (zero, below, is) = inl is
Contains-cons y ys x (suc k, below, is) = inr (k, omega (arith, below), is)

module _ {X : Type 0} (before : X → X → Bool) (irreflexive : (x : X) → before x x ≡ false) (transitive : (x y z : X) → before x y ≡ true → before y z ≡ true → before x z ≡ true) where
  abbrev Rises : List X → Type 0
  Rises xs = AllPairs (λ x y. before x y ≡ true) xs

  behind : (y : X) (ys : List X) (x : X) → Rises (y ∷ ys) → Contains ys x → before y x ≡ true
  behind y ys x rises within = All-contains (λ z. before y z ≡ true) ys x (pairs-head (λ x y. before x y ≡ true) y ys rises) within

  heads-same : (x y : X) (xs ys : List X) → Rises (x ∷ xs) → Rises (y ∷ ys) → Contains (y ∷ ys) x → Contains (x ∷ xs) y → x ≡ y
  heads-same x y xs ys risex risey inx iny = elim (Contains-cons y ys x inx) [
    | inl same ↦ sym same
    | inr later ↦ elim (Contains-cons x xs y iny) [
      | inl same ↦ same
      | inr there ↦ absurd (true≢false (sym (transitive x y x (behind x xs y risex there) (behind y ys x risey later)) ∙ irreflexive x))
    ]
  ]

  -- what is among a list and behind its first is among the others
  others : (x y : X) (xs ys : List X) → x ≡ y → Rises (x ∷ xs) → All (Contains (y ∷ ys)) xs → All (Contains ys) xs
  others x y xs ys same rises all k d below = elim (Contains-cons y ys (slice_index_or xs k d) (all k d below)) [
    | inl equal ↦ absurd (true≢false (sym (pairs-head (λ x y. before x y ≡ true) x xs rises k d below) ∙ (ap (before x) (sym equal ∙ sym same) ∙ irreflexive x)))
    | inr within ↦ within
  ]

  rising-same : (xs ys : List X) → Rises xs → Rises ys → All (Contains ys) xs → All (Contains xs) ys → xs ≡ ys
  rising-same [] [] risex risey inx iny = refl
  rising-same [] (y ∷ ys) risex risey inx iny = Contains-nil y (All-head (Contains []) y ys iny)
  rising-same (x ∷ xs) [] risex risey inx iny = Contains-nil x (All-head (Contains []) x xs inx)
  rising-same (x ∷ xs) (y ∷ ys) risex risey inx iny =
      let same = heads-same x y xs ys risex risey (All-head (Contains (y ∷ ys)) x xs inx) (All-head (Contains (x ∷ xs)) y ys iny) in
      cons-both x y xs ys same
      (rising-same xs ys (pairs-tail (λ x y. before x y ≡ true) x xs risex) (pairs-tail (λ x y. before x y ≡ true) y ys risey)
      (others x y xs ys same risex (All-tail (Contains (y ∷ ys)) x xs inx))
      (others y x ys xs (sym same) risey (All-tail (Contains (x ∷ xs)) y ys iny)))

  -- two tables of the same are one
  pub table-same : (IsSuch : X → Type 0) (xs ys : List X) → Lists before IsSuch xs → Lists before IsSuch ys → xs ≡ ys
  table-same IsSuch xs ys one other =
      rising-same xs ys one.rising other.rising
      (λ k d below. other.complete (slice_index_or xs k d) (one.sound k d below))
      (λ k d below. one.complete (slice_index_or ys k d) (other.sound k d below))
