-- Modules by name, printed or not.
use Rattle.std.specs.Prelude.{◌≡◌, ℕ, Bool, true, false, List, [], ◌∷◌, find, Option, Some, None, if◌then◌else◌}
use Rattle.std.specs.Str.{bytes_eq}
use Rattle.std.proofs.Common.{true≢false, sym, ◌∙◌, refl, ap}
use Rattle.std.proofs.lemmas.Slice.Eq.{bytes_eq-Decides}
use Rattle.bud_syntax.specs.declared.modules.Module.{Module}
use Rattle.bud_design.specs.Names.{printed}
use Rattle.bud_design.proofs.NameLaws.{printed-injective}
use Rattle.module_nets.specs.Nets.{module_called}

-- printed names are equal where names are
pub same-printed : (x y : List ℕ) → bytes_eq (printed x) (printed y) ≡ bytes_eq x y
same-printed x y = by_both (bytes_eq (printed x) (printed y)) (bytes_eq x y) refl refl
  where
    by_both : (p q : Bool) → bytes_eq (printed x) (printed y) ≡ p → bytes_eq x y ≡ q → p ≡ q
    by_both true true e f = refl
    by_both false false e f = refl
    by_both true false e f = absurd (true≢false (sym ((bytes_eq-Decides x y).1 (printed-injective x y ((bytes_eq-Decides (printed x) (printed y)).0 e))) ∙ f))
    by_both false true e f = absurd (true≢false (sym ((bytes_eq-Decides (printed x) (printed y)).1 (ap printed ((bytes_eq-Decides x y).0 f))) ∙ e))

pub find-same : {X : Type 0} (f g : X → Bool) (xs : List X) → ((x : X) → f x ≡ g x) → find f xs ≡ find g xs
find-same f g [] same = refl
find-same f g (x ∷ xs) same = rw (same x, find-same f g xs same) refl

some-injective : {X : Type 0} (x y : X) → Some x ≡ Some y → x ≡ y
some-injective x y same = ap (λ o. or_else x o) same
  where
    or_else : {X : Type 0} → X → Option X → X
    or_else d None = d
    or_else d (Some z) = z

pub find-passes : {X : Type 0} (f : X → Bool) (xs : List X) (x : X) → find f xs ≡ Some x → f x ≡ true
find-passes f [] x found = absurd (true≢false (ap is_none found))
  where
    is_none : {X : Type 0} → Option X → Bool
    is_none None = true
    is_none (Some z) = false
find-passes f (y ∷ ys) x found = by_test (find-passes f ys x) (f y) refl found
  where
    by_test : (find f ys ≡ Some x → f x ≡ true) → (b : Bool) → f y ≡ b → (if b then Some y else find f ys) ≡ Some x → f x ≡ true
    by_test rest true is found = ap f (sym (some-injective y x found)) ∙ is
    by_test rest false is found = rest found

pub called-name : (modules : List Module) (name : List ℕ) (m : Module) → module_called modules name ≡ Some m → m.name ≡ name
called-name modules name m found = (bytes_eq-Decides m.name name).0 (find-passes (λ n. bytes_eq n.name name) modules m found)

-- a module found by its name is found by its printed name
pub called-printed : (modules : List Module) (name : List ℕ) (m : Module) → module_called modules name ≡ Some m → find (λ n. bytes_eq (printed n.name) (printed m.name)) modules ≡ Some m
called-printed modules name m found =
    find-same (λ n. bytes_eq (printed n.name) (printed m.name)) (λ n. bytes_eq n.name name) modules
    (λ n. same-printed n.name m.name ∙ ap (bytes_eq n.name) (called-name modules name m found)) ∙ found
