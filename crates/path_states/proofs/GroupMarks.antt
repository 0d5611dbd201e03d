-- Pins are marked one by one, group by group, and exception by exception.
use Rattle.std.proofs.Common.{◌≡◌, ℕ, ◌<◌, ◌+◌, ◌||◌, Bool, false, List, ◌∷◌, length, get_or, drop, refl, ◌∙◌, ap, arith}
use Rattle.std.specs.List.{list_any}
use Rattle.std.proofs.lemmas.List.{drop_more, drop_all}
use Rattle.path_states.specs.Groups.{Marks}

-- the marks of the first elements: what is left unmarked was so, and is inside the list exactly where it is inside its rest
pub record IsMarking {X : Type 0} (inside : X → ℕ → Bool) (xs : List X) (i : ℕ) (old now : List Bool) : Type 0 where
  pub size : length now ≡ length old
  pub left : (v : ℕ) → v < length old → get_or now v false ≡ false
      → (get_or old v false ≡ false) × (list_any (λ x. inside x v) xs ≡ list_any (λ x. inside x v) (drop i xs))

pub IsMarking-begun : {X : Type 0} (inside : X → ℕ → Bool) (xs : List X) (old : List Bool) → IsMarking inside xs 0 old old
IsMarking-begun inside xs old = record { size = refl; left = λ v below unmarked. (unmarked, refl) }

pub IsMarking-next : {X : Type 0} (inside : X → ℕ → Bool) (xs : List X) (i : ℕ) (x : X) (old now new : List Bool) → i < length xs → get_or xs i x ≡ x → IsMarking inside xs i old now → Marks (inside x) now new
    → IsMarking inside xs (i + 1) old new
IsMarking-next {X} inside xs i x old now new below here marking marks = record {
  size = marks.size ∙ marking.size;
  left = λ v within unmarked.
      let after = marks.left v (omega (arith, within, marking.size)) unmarked in
      let before = marking.left v within after.0 in
      let rest : drop i xs ≡ x ∷ drop (i + 1) xs = drop_more xs i x below ∙ ap (λ y. y ∷ drop (i + 1) xs) here in (
        before.0,
        before.1 ∙ (ap (λ ys. list_any (λ y. inside y v) ys) rest ∙ ap (λ b. b || list_any (λ y. inside y v) (drop (i + 1) xs)) after.1),
      );
}

pub Marks-ended : {X : Type 0} (inside : X → ℕ → Bool) (xs : List X) (i : ℕ) (old now : List Bool) → i ≡ length xs → IsMarking inside xs i old now → Marks (λ v. list_any (λ x. inside x v) xs) old now
Marks-ended inside xs i old now all marking = record {
  size = marking.size;
  left = λ v within unmarked.
      let before = marking.left v within unmarked in
      (before.0, before.1 ∙ ap (λ ys. list_any (λ x. inside x v) ys) (drop_all i xs (omega (arith, all))));
}
