-- Small facts of tests.
use Rattle.std.proofs.Common.{◌≡◌, ℕ, ◌+◌, ◌<◌, ◌==◌, ◌||◌, Bool, true, false, List, [], ◌∷◌, ◌++◌, length, get_or, take, refl, sym, ◌∙◌, ap, inl, inr}
use Rattle.std.specs.List.{list_any}
use Rattle.std.proofs.lemmas.Bool.{cases_eq, ne_eqb}
use Rattle.std.proofs.lemmas.List.{take_more}
use Rattle.std.proofs.lemmas.List.Folds.{list_any-append}

pub by_test : {P : Type 0} (test : Bool) → (test ≡ true → P) → (test ≡ false → P) → P
by_test true holds fails = holds refl
by_test false holds fails = fails refl

pub or-none : (a : Bool) → (a || false) ≡ a
or-none true = refl
or-none false = refl

pub or-all : (a : Bool) → (a || true) ≡ true
or-all true = refl
or-all false = refl

pub turned : (x y : ℕ) → (x == y) ≡ (y == x)
turned x y = elim (cases_eq x y) [
  | inl same ↦ rw same refl
  | inr other ↦ ne_eqb x y other ∙ sym (ne_eqb y x (λ e. other (sym e)))
]

-- one element more is tried
pub any-more : {X : Type 0} (p : X → Bool) (xs : List X) (i : ℕ) (x d : X) → i < length xs → x ≡ get_or xs i d → list_any p (take (i + 1) xs) ≡ (list_any p (take i xs) || p x)
any-more p xs i x d below is =
    ap (list_any p) (take_more xs i d below ∙ ap (λ y. take i xs ++ y ∷ []) (sym is))
    ∙ (list_any-append p (take i xs) (x ∷ []) ∙ ap (λ b. list_any p (take i xs) || b) (or-none (p x)))
