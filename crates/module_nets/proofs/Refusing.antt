-- The first of some refusals.
use Rattle.std.proofs.Common.{◌≡◌, ℕ, ◌+◌, ◌<◌, Option, None, List, drop, get_or, length, Result, sym, ap, ◌∙◌, subst}
use Rattle.std.specs.Option.{option_or}
use Rattle.bud_design.specs.Lists.{first_some}
use Rattle.module_nets.specs.Refusals.{IsRefusal, Answers}
use Rattle.module_nets.specs.declared.faults.ElabFault.{ElabFault}
use Rattle.module_nets.specs.declared.faults.ElabFault.TheVariants.{NoMemory}
use Rattle.module_nets.proofs.ListSteps.{drop_one}

pub refusal_first : (a b : Option ElabFault) (fault : ElabFault) → IsRefusal a fault → IsRefusal (option_or a b) fault
refusal_first a b NoMemory is = tt
refusal_first a b fault is = ap (λ o. option_or o b) is

pub refusal_later : (a b : Option ElabFault) (fault : ElabFault) → a ≡ None → IsRefusal b fault → IsRefusal (option_or a b) fault
refusal_later a b fault none is =
    let P : Option ElabFault → Type 0 = λ o. IsRefusal (option_or o b) fault in
    subst P (sym none) is

pub answers_later : {X : Type 0} (a b : Option ElabFault) (answer : Result X ElabFault) → a ≡ None → Answers b answer → Answers (option_or a b) answer
answers_later a b answer none is =
    let P : Option ElabFault → Type 0 = λ o. Answers (option_or o b) answer in
    subst P (sym none) is

pub both_none : {X : Type 0} (a b : Option X) → a ≡ None → b ≡ None → option_or a b ≡ None
both_none a b first second = ap (λ o. option_or o b) first ∙ second

pub answers_as : {X : Type 0} (a b : Option ElabFault) (answer : Result X ElabFault) → a ≡ b → Answers b answer → Answers a answer
answers_as a b answer same is =
    let P : Option ElabFault → Type 0 = λ o. Answers o answer in
    subst P (sym same) is

pub refusal_as : (a b : Option ElabFault) (fault : ElabFault) → a ≡ b → IsRefusal b fault → IsRefusal a fault
refusal_as a b fault same is =
    let P : Option ElabFault → Type 0 = λ o. IsRefusal o fault in
    subst P (sym same) is

pub refusal_memory : (a : Option ElabFault) (fault : ElabFault) → fault ≡ NoMemory → IsRefusal a fault
refusal_memory a fault memory =
    let P : ElabFault → Type 0 = IsRefusal a in
    subst P (sym memory) tt

-- the refusals of a list's elements, front first
pub some_on : {X : Type 0} (f : X → Option ElabFault) (xs : List X) (i : ℕ) (x : X) → i < length xs → x ≡ get_or xs i x → first_some f xs ≡ first_some f (drop i xs)
    → first_some f xs ≡ option_or (f x) (first_some f (drop (i + 1) xs))
some_on f xs i x within is so_far = so_far ∙ ap (first_some f) (drop_one xs i x within is)

pub some_on_slice : {X : Type 0} (f : X → Option ElabFault) (xs slice : List X) (i : ℕ) (x : X) → slice ≡ xs → i < length slice → x ≡ get_or slice i x → first_some f xs ≡ first_some f (drop i xs)
    → first_some f xs ≡ option_or (f x) (first_some f (drop (i + 1) xs))
some_on_slice {X = X} f xs slice i x same within is so_far =
    let P : List X → Type 0 = λ ys. i < length ys in
    some_on f xs i x (subst P same within) (is ∙ ap (λ ys. get_or ys i x) same) so_far
