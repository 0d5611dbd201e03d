-- What is refused as a module is entered, in the order in which it is tried.
use Rattle.std.proofs.Common.{◌≡◌, ℕ, ◌+◌, ◌<◌, ◌≤◌, min, Option, Some, None, List, refl, ap, ◌∙◌, subst, arith}
use Rattle.std.specs.Option.{option_or}
use Rattle.std.proofs.lemmas.Bool.{lt-ltb, le-ltb}
use Rattle.bud_design.specs.Lists.{first_some}
use Rattle.bud_syntax.specs.declared.modules.Module.{Module}
use Rattle.module_nets.specs.Entering.{top_inout, name_twice, too_large, instance_fault, assign_fault, body_fault}
use Rattle.module_nets.specs.Judging.{entry_at, entry_in}
use Rattle.module_nets.specs.Numbers.{capped}
use Rattle.module_nets.specs.Refusals.{IsRefusal}
use Rattle.module_nets.specs.declared.faults.ElabFault.{ElabFault}
use Rattle.module_nets.specs.declared.faults.ElabFault.TheVariants.{TooLarge}
use Rattle.module_nets.proofs.Refusing.{refusal_first, refusal_later, both_none}

abbrev insts : List Module → Module → List (List ℕ) → List ℕ → Option ElabFault
insts modules m path entered = first_some (instance_fault modules (entry_in modules m path entered)) m.instances

abbrev assigns : Module → List (List ℕ) → Option ElabFault
assigns m path = first_some (assign_fault (entry_at m path)) m.assigns

large : (n : ℕ) → 4194304 < n → too_large n ≡ Some (TooLarge 4194305)
large n passed = rw (lt-ltb 4194304 n passed) refl

small : (n : ℕ) → n ≤ 4194304 → too_large n ≡ None
small n within = rw (le-ltb 4194304 n within) refl

-- the refusals of a module by what was tried before
pub enter_top : (modules : List Module) (path : List (List ℕ)) (entered : List ℕ) (n : ℕ) (m all : Module) (fault : ElabFault) → m ≡ all
    → IsRefusal (top_inout (entry_at m path)) fault → IsRefusal (body_fault modules (entry_in modules all path entered) n) fault
enter_top modules path entered n m all fault same is =
    let P : Module → Type 0 = λ x. IsRefusal (body_fault modules (entry_in modules x path entered) n) fault in
    subst P same (refusal_first (top_inout (entry_at m path)) (option_or (name_twice (entry_at m path)) (option_or (too_large n) (option_or (insts modules m path entered) (assigns m path)))) fault is)

pub enter_twice : (modules : List Module) (path : List (List ℕ)) (entered : List ℕ) (n : ℕ) (m all : Module) (fault : ElabFault) → m ≡ all
    → top_inout (entry_at m path) ≡ None → IsRefusal (name_twice (entry_at m path)) fault → IsRefusal (body_fault modules (entry_in modules all path entered) n) fault
enter_twice modules path entered n m all fault same top is =
    let rest : Option ElabFault = option_or (too_large n) (option_or (insts modules m path entered) (assigns m path)) in
    let P : Module → Type 0 = λ x. IsRefusal (body_fault modules (entry_in modules x path entered) n) fault in
    subst P same (refusal_later (top_inout (entry_at m path)) (option_or (name_twice (entry_at m path)) rest) fault top (refusal_first (name_twice (entry_at m path)) rest fault is))

pub enter_large : (modules : List Module) (path : List (List ℕ)) (entered : List ℕ) (n : ℕ) (m all : Module) → m ≡ all
    → top_inout (entry_at m path) ≡ None → name_twice (entry_at m path) ≡ None → 4194304 < n → body_fault modules (entry_in modules all path entered) n ≡ Some (TooLarge 4194305)
enter_large modules path entered n m all same top twice passed =
    let rest : Option ElabFault = option_or (insts modules m path entered) (assigns m path) in
    let P : Module → Type 0 = λ x. body_fault modules (entry_in modules x path entered) n ≡ Some (TooLarge 4194305) in
    subst P same
    (ap (λ o. option_or o (option_or (name_twice (entry_at m path)) (option_or (too_large n) rest))) top
    ∙ (ap (λ o. option_or o (option_or (too_large n) rest)) twice ∙ ap (λ o. option_or o rest) (large n passed)))

pub enter_instances : (modules : List Module) (path : List (List ℕ)) (entered : List ℕ) (n : ℕ) (m own all : Module) (fault : ElabFault) → m ≡ all → own ≡ all
    → top_inout (entry_at m path) ≡ None → name_twice (entry_at m path) ≡ None → n ≤ 4194304 → IsRefusal (insts modules own path entered) fault
    → IsRefusal (body_fault modules (entry_in modules all path entered) n) fault
enter_instances modules path entered n m own all fault same own_is top twice within is =
    let P : Module → Type 0 = λ x. top_inout (entry_at x path) ≡ None in
    let Q : Module → Type 0 = λ x. name_twice (entry_at x path) ≡ None in
    let R : Module → Type 0 = λ x. IsRefusal (insts modules x path entered) fault in
    let rest : Option ElabFault = option_or (insts modules all path entered) (assigns all path) in
    refusal_later (top_inout (entry_at all path)) (option_or (name_twice (entry_at all path)) (option_or (too_large n) rest)) fault (subst P same top)
    (refusal_later (name_twice (entry_at all path)) (option_or (too_large n) rest) fault (subst Q same twice)
    (refusal_later (too_large n) rest fault (small n within) (refusal_first (insts modules all path entered) (assigns all path) fault (subst R own_is is))))

pub enter_assigns : (modules : List Module) (path : List (List ℕ)) (entered : List ℕ) (n : ℕ) (m own all : Module) (fault : ElabFault) → m ≡ all → own ≡ all
    → top_inout (entry_at m path) ≡ None → name_twice (entry_at m path) ≡ None → n ≤ 4194304 → insts modules own path entered ≡ None → IsRefusal (assigns own path) fault
    → IsRefusal (body_fault modules (entry_in modules all path entered) n) fault
enter_assigns modules path entered n m own all fault same own_is top twice within clean is =
    let P : Module → Type 0 = λ x. top_inout (entry_at x path) ≡ None in
    let Q : Module → Type 0 = λ x. name_twice (entry_at x path) ≡ None in
    let R : Module → Type 0 = λ x. IsRefusal (assigns x path) fault in
    let S : Module → Type 0 = λ x. insts modules x path entered ≡ None in
    let rest : Option ElabFault = option_or (insts modules all path entered) (assigns all path) in
    refusal_later (top_inout (entry_at all path)) (option_or (name_twice (entry_at all path)) (option_or (too_large n) rest)) fault (subst P same top)
    (refusal_later (name_twice (entry_at all path)) (option_or (too_large n) rest) fault (subst Q same twice)
    (refusal_later (too_large n) rest fault (small n within)
    (refusal_later (insts modules all path entered) (assigns all path) fault (subst S own_is clean) (subst R own_is is))))

pub enter_clean : (modules : List Module) (path : List (List ℕ)) (entered : List ℕ) (n : ℕ) (m own all : Module) → m ≡ all → own ≡ all
    → top_inout (entry_at m path) ≡ None → name_twice (entry_at m path) ≡ None → n ≤ 4194304 → insts modules own path entered ≡ None → assigns own path ≡ None
    → body_fault modules (entry_in modules all path entered) n ≡ None
enter_clean modules path entered n m own all same own_is top twice within clean fine =
    let P : Module → Type 0 = λ x. top_inout (entry_at x path) ≡ None in
    let Q : Module → Type 0 = λ x. name_twice (entry_at x path) ≡ None in
    let R : Module → Type 0 = λ x. assigns x path ≡ None in
    let S : Module → Type 0 = λ x. insts modules x path entered ≡ None in
    let rest : Option ElabFault = option_or (insts modules all path entered) (assigns all path) in
    both_none (top_inout (entry_at all path)) (option_or (name_twice (entry_at all path)) (option_or (too_large n) rest)) (subst P same top)
    (both_none (name_twice (entry_at all path)) (option_or (too_large n) rest) (subst Q same twice)
    (both_none (too_large n) rest (small n within)
    (both_none (insts modules all path entered) (assigns all path) (subst S own_is clean) (subst R own_is fine))))

-- ---- the count
pub count_passed : (before adds found count : ℕ) → found ≡ capped adds → count ≡ min (before + found) 18446744073709551615 → 4194304 < count → 4194304 < before + adds
count_passed before adds found count found_is count_is passed = omega (arith, found_is, count_is, passed)

pub count_within : (before adds found count : ℕ) → found ≡ capped adds → count ≡ min (before + found) 18446744073709551615 → count ≤ 4194304 → (before + adds ≤ 4194304) × (count ≡ before + adds)
count_within before adds found count found_is count_is within = (omega (arith, found_is, count_is, within), omega (arith, found_is, count_is, within))
