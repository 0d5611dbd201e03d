-- Ends, one after another.
use Rattle.std.proofs.Common.{◌≡◌, ℕ, ◌+◌, ◌<◌, ◌≤◌, nat_lt, true, List, [], ◌∷◌, ◌++◌, length, get_or, Option, Some, None, refl, sym, ◌∙◌, ap, subst, inl, inr, arith, length-append}
use Rattle.std.specs.Prelude.{All, AllPairs, Contains, ℤ}
use Rattle.std.proofs.Math.ListN.{get_or-append}
use Rattle.std.proofs.Math.Seq.{get_or-append_seam}
use Rattle.std.proofs.lemmas.Bool.{cases_eq, cases_lt}
use Rattle.std.proofs.lemmas.Option.{none-some}
use Rattle.bud_base.specs.declared.problems.End.{End}
use Rattle.bud_design.specs.declared.clocks.Constraints.{Constraints}
use Rattle.bud_design.specs.declared.layers.Class.{Class}
use Rattle.bud_design.specs.Exceptions.{class_requirement}
use Rattle.bud_design.specs.TimingPaths.{least_asked}
use Rattle.path_states.specs.Tables.{Table, pin_at, class_in}
use Rattle.state_numbers.proofs.RankSteps.{Contains-behind, Contains-last, All-behind}
use Rattle.state_numbers.specs.declared.placed.Placed.{Placed}
use Rattle.path_classes.specs.Placing.{AreStateEnds, AreNodeEnds, asked_at}

end-same : (i j : ℕ) (z y : ℤ) → i ≡ j → z ≡ y → ◌≡◌ {A = End} (record { node = record { 0 = i }; require = z }) (record { node = record { 0 = j }; require = y })
end-same i j z y is same = rw (is, same) refl

module _ (all : Constraints) (t : Table) where
  pub AreStateEnds-skip : (i : ℕ) (ends : List End) → least_asked all.captures (pin_at t i) (class_requirement all (class_in t i)) ≡ None → AreStateEnds all t i ends → AreStateEnds all t (i + 1) ends
  AreStateEnds-skip i ends none are = record {
    within = λ k d below. omega (arith, are.within k d below);
    sound = are.sound;
    complete = λ j below z asks. elim (cases_eq j i) [
      | inl same ↦ absurd (none-some z (sym (ap (λ k. least_asked all.captures (pin_at t k) (class_requirement all (class_in t k))) same ∙ none) ∙ asks))
      | inr differs ↦ are.complete j (omega (arith, below, differs)) z asks
    ];
  }

  pub AreStateEnds-more : (i : ℕ) (ends : List End) (z : ℤ) → least_asked all.captures (pin_at t i) (class_requirement all (class_in t i)) ≡ Some z → AreStateEnds all t i ends
      → AreStateEnds all t (i + 1) (ends ++ record { node = record { 0 = i }; require = z } ∷ [])
  AreStateEnds-more i ends z asks are =
      let e : End = record { node = record { 0 = i }; require = z } in
      record {
        within = All-behind (λ (f : End). f.node.0 < i + 1) ends e (λ k d below. omega (arith, are.within k d below)) (omega arith);
        sound = All-behind (λ (f : End). least_asked all.captures (pin_at t f.node.0) (class_requirement all (class_in t f.node.0)) ≡ Some f.require) ends e are.sound asks;
        complete = λ j below y other. elim (cases_eq j i) [
          | inl same ↦
              let is : Some z ≡ Some y = sym asks ∙ (ap (λ k. least_asked all.captures (pin_at t k) (class_requirement all (class_in t k))) (sym same) ∙ other) in
              let value : z ≡ y = cc in
              subst (Contains (ends ++ e ∷ [])) (end-same i j z y (sym same) value) (Contains-last ends e)
          | inr differs ↦ Contains-behind ends e (record { node = record { 0 = j }; require = y }) (are.complete j (omega (arith, below, differs)) y other)
        ];
      }

AllPairs-behind : {X : Type 0} (R : X → X → Type 0) (xs : List X) (y : X) → AllPairs R xs → All (λ x. R x y) xs → AllPairs R (xs ++ y ∷ [])
AllPairs-behind R xs y pairs last i j d before within = elim (cases_lt j (length xs)) [
  | inl below ↦
      subst (λ a. R a (get_or (xs ++ y ∷ []) j d)) (sym (get_or-append xs (y ∷ []) d i (omega (arith, before, below))))
      (subst (R (get_or xs i d)) (sym (get_or-append xs (y ∷ []) d j below)) (pairs i j d before below))
  | inr past ↦
      let same : length xs ≡ j = omega (arith, past, within, length-append xs (y ∷ [])) in
      subst (λ k. R (get_or (xs ++ y ∷ []) i d) (get_or (xs ++ y ∷ []) k d)) same
      (subst (λ a. R a (get_or (xs ++ y ∷ []) (length xs) d)) (sym (get_or-append xs (y ∷ []) d i (omega (arith, before, same))))
      (subst (R (get_or xs i d)) (sym (get_or-append_seam xs y [] d)) (last i d (omega (arith, before, same)))))
]

lt-test : (m n : ℕ) → m < n → nat_lt m n ≡ true
lt-test m n less = grind (arith, less)

module _ (all : Constraints) (classes : List Class) (nodes : List Placed) where
  pub AreNodeEnds-skip : (p : ℕ) (ends : List End) → asked_at all classes nodes p ≡ None → AreNodeEnds all classes nodes p ends → AreNodeEnds all classes nodes (p + 1) ends
  AreNodeEnds-skip p ends none are = record {
    rising = are.rising;
    within = λ k d below. omega (arith, are.within k d below);
    sound = are.sound;
    complete = λ j below z asks. elim (cases_eq j p) [
      | inl same ↦ absurd (none-some z (sym (ap (asked_at all classes nodes) same ∙ none) ∙ asks))
      | inr differs ↦ are.complete j (omega (arith, below, differs)) z asks
    ];
  }

  pub AreNodeEnds-more : (p : ℕ) (ends : List End) (z : ℤ) → asked_at all classes nodes p ≡ Some z → AreNodeEnds all classes nodes p ends
      → AreNodeEnds all classes nodes (p + 1) (ends ++ record { node = record { 0 = p }; require = z } ∷ [])
  AreNodeEnds-more p ends z asks are =
      let e : End = record { node = record { 0 = p }; require = z } in
      record {
        rising = AllPairs-behind (λ (f g : End). nat_lt f.node.0 g.node.0 ≡ true) ends e are.rising (λ k d below. lt-test (get_or ends k d).node.0 p (are.within k d below));
        within = All-behind (λ (f : End). f.node.0 < p + 1) ends e (λ k d below. omega (arith, are.within k d below)) (omega arith);
        sound = All-behind (λ (f : End). asked_at all classes nodes f.node.0 ≡ Some f.require) ends e are.sound asks;
        complete = λ j below y other. elim (cases_eq j p) [
          | inl same ↦
              let is : Some z ≡ Some y = sym asks ∙ (ap (asked_at all classes nodes) (sym same) ∙ other) in
              let value : z ≡ y = cc in
              subst (Contains (ends ++ e ∷ [])) (end-same p j z y (sym same) value) (Contains-last ends e)
          | inr differs ↦ Contains-behind ends e (record { node = record { 0 = j }; require = y }) (are.complete j (omega (arith, below, differs)) y other)
        ];
      }

pub end-behind : (ends : List End) (i j : ℕ) (z y : ℤ) → i ≡ j → z ≡ y → ends ++ record { node = record { 0 = i }; require = z } ∷ [] ≡ ends ++ record { node = record { 0 = j }; require = y } ∷ []
end-behind ends i j z y is same = ap (λ (e : End). ends ++ e ∷ []) (end-same i j z y is same)
