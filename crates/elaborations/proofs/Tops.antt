-- The top of a netlist is one of its modules, which is found by its name, and no cell.
use Rattle.std.specs.Prelude.{◌≡◌, ℕ, ◌<◌, ◌&&◌, ◌||◌, not, Bool, true, false, List, [], ◌∷◌, map, length, filter, find, flat_map, Option, Some, None, Result, Ok, Err, All, AllPairs, slice_index_or, zero, suc, if◌then◌else◌}
use Rattle.std.specs.Option.{option_or, option_map}
use Rattle.std.specs.Str.{bytes_eq}
use Rattle.std.proofs.Common.{true≢false, arith, sym, ◌∙◌, refl, ap, subst}
use Rattle.std.proofs.lemmas.Slice.Eq.{bytes_eq-Decides}
use Rattle.std.proofs.lemmas.List.Elements.{All-nil, All-cons, All-head, All-tail, All-map, All-filter, All-weaker, filter_passes}
use Rattle.std.proofs.lemmas.List.Kept.{AllPairs-cons}
use Rattle.bud_syntax.specs.declared.modules.Module.{Module}
use Rattle.bud_design.specs.Lists.{only, has_name, first_again}
use Rattle.bud_design.specs.Names.{Named, object_of, meaning, printed, plain}
use Rattle.bud_design.proofs.ClassLaws.{pairs-head, pairs-tail}
use Rattle.module_nets.specs.declared.faults.ElabFault.{ElabFault}
use Rattle.module_nets.specs.declared.faults.ElabFault.TheVariants.{ModuleTwice, NoTop}
use Rattle.module_nets.specs.Nets.{module_called}
use Rattle.module_nets.specs.Tops.{named_modules, plain_module, roots, one_root, chosen, unless_refused, top_module}

abbrev pub Differ_names : List (List ℕ) → Type 0
Differ_names names = AllPairs (λ a b. bytes_eq a b ≡ false) names

has_name-seen : (seen : List (List ℕ)) (a b : List ℕ) → has_name (a ∷ seen) b ≡ false → (bytes_eq a b ≡ false) × (has_name seen b ≡ false)
has_name-seen seen a b none = by_test (bytes_eq b a) refl none
  where
    by_test : (e : Bool) → bytes_eq b a ≡ e → (e || has_name seen b) ≡ false → (bytes_eq a b ≡ false) × (has_name seen b ≡ false)
    by_test true is none = absurd (true≢false none)
    by_test false is none = (flipped (bytes_eq a b) refl, none)
      where
        flipped : (f : Bool) → bytes_eq a b ≡ f → f ≡ false
        flipped true same = absurd (true≢false (sym ((bytes_eq-Decides b a).1 (sym ((bytes_eq-Decides a b).0 same))) ∙ is))
        flipped false same = refl

-- where no name stands twice the names differ from each other and from those seen
pub first_again-none : (seen names : List (List ℕ)) → first_again seen names ≡ None → Differ_names names × All (λ name. has_name seen name ≡ false) names
first_again-none seen [] none = (λ i j d less below. absurd (omega (arith, less, below)), All-nil (λ name. has_name seen name ≡ false))
first_again-none seen (name ∷ names) none = by_test (first_again-none (name ∷ seen) names) (has_name seen name) refl none
  where
    by_test : (first_again (name ∷ seen) names ≡ None → Differ_names names × All (λ n. has_name (name ∷ seen) n ≡ false) names) → (e : Bool) → has_name seen name ≡ e
        → (if e then Some name else first_again (name ∷ seen) names) ≡ None → Differ_names (name ∷ names) × All (λ n. has_name seen n ≡ false) (name ∷ names)
    by_test rest true is none = absurd (true≢false (ap is_some none))
      where
        is_some : Option (List ℕ) → Bool
        is_some None = false
        is_some (Some n) = true
    by_test rest false is none =
        let others = rest none in (
          AllPairs-cons (λ a b. bytes_eq a b ≡ false) name names
              (All-weaker (λ n. has_name (name ∷ seen) n ≡ false) (λ n. bytes_eq name n ≡ false) (λ n not_seen. (has_name-seen seen name n not_seen).0) names others.1) others.0,
          All-cons (λ n. has_name seen n ≡ false) name names is
              (All-weaker (λ n. has_name (name ∷ seen) n ≡ false) (λ n. has_name seen n ≡ false) (λ n not_seen. (has_name-seen seen name n not_seen).1) names others.1),
        )

own-called : (ms : List Module) → Differ_names (map (λ m. m.name) ms) → All (λ m. module_called ms m.name ≡ Some m) ms
own-called [] differ = All-nil (λ m. module_called [] m.name ≡ Some m)
own-called (m ∷ ms) differ =
    All-cons (λ n. module_called (m ∷ ms) n.name ≡ Some n) m ms (first m)
    (λ k d below. skipped m (slice_index_or ms k d) (head_apart k d below) ∙ own-called ms (pairs-tail (λ a b. bytes_eq a b ≡ false) m.name (map (λ m. m.name) ms) differ) k d below)
  where
    first : (m : Module) → (if bytes_eq m.name m.name then Some m else module_called ms m.name) ≡ Some m
    first m = rw ((bytes_eq-Decides m.name m.name).1 refl) refl

    skipped : (m n : Module) → bytes_eq m.name n.name ≡ false → (if bytes_eq m.name n.name then Some m else module_called ms n.name) ≡ module_called ms n.name
    skipped m n apart = rw apart refl

    head_apart : (k : ℕ) (d : Module) → k < length ms → bytes_eq m.name (slice_index_or ms k d).name ≡ false
    head_apart k d below = mapped ms (pairs-head (λ a b. bytes_eq a b ≡ false) m.name (map (λ m. m.name) ms) differ) k d below
      where
        mapped : (ns : List Module) → All (λ b. bytes_eq m.name b ≡ false) (map (λ n. n.name) ns) → (k : ℕ) (d : Module) → k < length ns → bytes_eq m.name (slice_index_or ns k d).name ≡ false
        mapped [] all k d below = absurd (omega (arith, below))
        mapped (n ∷ ns) all zero d below = All-head (λ b. bytes_eq m.name b ≡ false) n.name (map (λ n. n.name) ns) all
        mapped (n ∷ ns) all (suc k) d below = mapped ns (All-tail (λ b. bytes_eq m.name b ≡ false) n.name (map (λ n. n.name) ns) all) k d (omega (arith, below))

-- what is found among elements that are all such is such
pub find-all : {X : Type 0} (P : X → Type 0) (f : X → Bool) (xs : List X) (x : X) → All P xs → find f xs ≡ Some x → P x
find-all {X} P f [] x all found = absurd (true≢false (ap is_none found))
  where
    is_none : Option X → Bool
    is_none None = true
    is_none (Some y) = false
find-all {X} P f (y ∷ ys) x all found = by_test (find-all P f ys x (All-tail P y ys all)) (f y) found
  where
    some_or : X → Option X → X
    some_or d None = d
    some_or d (Some z) = z

    by_test : (find f ys ≡ Some x → P x) → (b : Bool) → (if b then Some y else find f ys) ≡ Some x → P x
    by_test rest true found = subst P (ap (some_or x) found) (All-head P y ys all)
    by_test rest false found = rest found

only-all : {X : Type 0} (P : X → Type 0) (xs : List X) (x : X) → All P xs → only xs ≡ Some x → P x
only-all {X} P [] x all found = absurd (true≢false (ap is_none found))
  where
    is_none : Option X → Bool
    is_none None = true
    is_none (Some y) = false
only-all {X} P (y ∷ []) x all found = subst P (ap (some_or x) found) (All-head P y [] all)
  where
    some_or : X → Option X → X
    some_or d None = d
    some_or d (Some z) = z
only-all {X} P (y ∷ z ∷ zs) x all found = absurd (true≢false (ap is_none found))
  where
    is_none : Option X → Bool
    is_none None = true
    is_none (Some y) = false

object-all : (P : Module → Type 0) (o : Option (Named Module)) (m : Module) → ((n : Named Module) → o ≡ Some n → P n.object) → object_of o ≡ Some m → P m
object-all P None m all found = absurd (true≢false (ap is_none found))
  where
    is_none : Option Module → Bool
    is_none None = true
    is_none (Some y) = false
object-all P (Some n) m all found = subst P (ap (some_or m) found) (all n refl)
  where
    some_or : Module → Option Module → Module
    some_or d None = d
    some_or d (Some z) = z

-- what a name means among modules that are all such is such
meaning-all : (P : Module → Type 0) (modules : List Module) (name : List ℕ) (m : Module) → All P modules → meaning (named_modules modules) name ≡ Some m → P m
meaning-all P modules name m all found = by_first (object_of (find (λ o. bytes_eq o.name name) (named_modules modules))) refl found
  where
    named : All (λ o. P o.object) (named_modules modules)
    named = All-map (λ o. P o.object) (λ m. record { name = printed m.name; object = m }) modules all

    by_first : (o : Option Module) → object_of (find (λ o. bytes_eq o.name name) (named_modules modules)) ≡ o
        → option_or o (object_of (only (filter (λ o. bytes_eq (plain o.name) name) (named_modules modules)))) ≡ Some m → P m
    by_first None is found =
        object-all P (only (filter (λ o. bytes_eq (plain o.name) name) (named_modules modules))) m
        (λ n one. only-all (λ o. P o.object) (filter (λ o. bytes_eq (plain o.name) name) (named_modules modules)) n
        (All-filter (λ o. bytes_eq (plain o.name) name) (λ o. P o.object) (named_modules modules) named) one) found
    by_first (Some k) is found =
        object-all P (find (λ o. bytes_eq o.name name) (named_modules modules)) m
        (λ n one. find-all (λ o. P o.object) (λ o. bytes_eq o.name name) (named_modules modules) n named one) (is ∙ found)

abbrev is_fine : Result Module ElabFault → Bool
is_fine (Ok m) = true
is_fine (Err fault) = false

abbrev module_or : Module → Result Module ElabFault → Module
module_or d (Ok m) = m
module_or d (Err fault) = d

-- a top: one of the modules, found by its name, and no cell
abbrev pub IsTop : List Module → (Module → Type 0) → Module → Type 0
IsTop modules P m = P m × (m.leaf ≡ false)

named-top : (modules : List Module) (P : Module → Type 0) (name : List ℕ) (m : Module) → All P modules → plain_module name (meaning (named_modules modules) name) ≡ Ok m → IsTop modules P m
named-top modules P name m all found = by_meaning (meaning (named_modules modules) name) refl found
  where
    by_leaf : (n : Module) (b : Bool) → n.leaf ≡ b → P n → (if b then Err (NoTop (Some name)) else Ok n) ≡ Ok m → IsTop modules P m
    by_leaf n true leaf such found = absurd (true≢false (sym (ap is_fine found)))
    by_leaf n false leaf such found = subst (IsTop modules P) (ap (module_or m) found) (such, leaf)

    by_meaning : (o : Option Module) → meaning (named_modules modules) name ≡ o → plain_module name o ≡ Ok m → IsTop modules P m
    by_meaning None is found = absurd (true≢false (sym (ap is_fine found)))
    by_meaning (Some n) is found = by_leaf n n.leaf refl (meaning-all P modules name n all is) found

root-top : (modules : List Module) (P : Module → Type 0) (ms : List Module) (m : Module) → All (IsTop modules P) ms → one_root ms ≡ Ok m → IsTop modules P m
root-top modules P [] m all found = absurd (true≢false (sym (ap is_fine found)))
root-top modules P (n ∷ []) m all found = subst (IsTop modules P) (ap (module_or m) found) (All-head (IsTop modules P) n [] all)
root-top modules P (n ∷ o ∷ ms) m all found = absurd (true≢false (sym (ap is_fine found)))

abbrev is_root : List Module → Module → Bool
is_root modules m = not m.leaf && not (has_name (flat_map (λ n. map (λ i. i.«module») n.instances) modules) m.name)

roots-top : (modules : List Module) (P : Module → Type 0) → All P modules → All (IsTop modules P) (roots modules)
roots-top modules P all k d below =
    (All-filter (is_root modules) P modules all k d below, plain_one (slice_index_or (roots modules) k d) (filter_passes (is_root modules) modules k d below))
  where
    plain_one : (m : Module) → is_root modules m ≡ true → m.leaf ≡ false
    plain_one m passes = by_leaf m.leaf refl passes
      where
        by_leaf : (b : Bool) → m.leaf ≡ b → not b && not (has_name (flat_map (λ n. map (λ i. i.«module») n.instances) modules) m.name) ≡ true → b ≡ false
        by_leaf true leaf passes = absurd (true≢false (sym passes))
        by_leaf false leaf passes = refl

chosen-top : (modules : List Module) (P : Module → Type 0) (top : Option (List ℕ)) (m : Module) → All P modules → chosen modules top ≡ Ok m → IsTop modules P m
chosen-top modules P None m all found = root-top modules P (roots modules) m (roots-top modules P all) found
chosen-top modules P (Some name) m all found = named-top modules P name m all found

-- the top is found by its name among the modules, and is no cell
pub top-called : (modules : List Module) (top : Option (List ℕ)) (m : Module) → top_module modules top ≡ Ok m → (module_called modules m.name ≡ Some m) × (m.leaf ≡ false)
top-called modules top m found = by_twice (first_again [] (map (λ m. m.name) modules)) refl found
  where
    by_twice : (o : Option (List ℕ)) → first_again [] (map (λ m. m.name) modules) ≡ o → unless_refused (option_map (λ name. ModuleTwice (printed name)) o) (chosen modules top) ≡ Ok m → (module_called modules m.name ≡ Some m) × (m.leaf ≡ false)
    by_twice (Some name) is found = absurd (true≢false (sym (ap is_fine found)))
    by_twice None is found =
        chosen-top modules (λ m. module_called modules m.name ≡ Some m) top m (own-called modules (first_again-none [] (map (λ m. m.name) modules) is).0) found
