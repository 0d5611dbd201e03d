-- What a name means among modules, and which are the roots.
use Rattle.std.proofs.Common.{◌≡◌, ℕ, ◌+◌, ◌<◌, ◌&&◌, ◌||◌, not, Bool, true, false, Option, Some, None, List, [], ◌∷◌, ◌++◌, take, drop, get_or, length, map, find, filter, refl, sym, ap, ◌∙◌, subst}
use Rattle.std.specs.Prelude.{Ok, Err, IfSome}
use Rattle.std.specs.List.{position_from}
use Rattle.std.specs.Option.{option_or, option_map}
use Rattle.std.specs.Str.{bytes_eq}
use Rattle.std.proofs.lemmas.List.{map-append, append-nil, get_or-drop}
use Rattle.std.proofs.lemmas.List.Concat.{flat_map-append}
use Rattle.std.proofs.lemmas.List.Elements.{filter_agree}
use Rattle.bud_design.specs.Lists.{first_again, has_name, only}
use Rattle.bud_design.specs.Names.{Named, object_of, printed, plain}
use Rattle.bud_design.proofs.NameLaws.{plain-printed}
use Rattle.bud_syntax.specs.declared.modules.Instance.{Instance}
use Rattle.bud_syntax.specs.declared.modules.Module.{Module}
use Rattle.module_nets.specs.Headers.{module_number}
use Rattle.module_nets.specs.Tables.{seen_behind, HasNames}
use Rattle.module_nets.specs.Tops.{meant, plain_module, is_root, instantiated, roots, one_root, chosen, top_module, unless_refused, module_at, IsPlainNumber}
use Rattle.module_nets.specs.declared.faults.ElabFault.TheVariants.{ModuleTwice, NoTop, ManyTops}
use Rattle.module_nets.proofs.Bytes.{by_test, bytes_same, bytes_turned}
use Rattle.module_nets.proofs.ListSteps.{take_one, at_place, no_place, at_start, filter_none, filter_first}
use Rattle.module_nets.proofs.NetLaws.{find-map, has_behind, or_none, again_head}
use Rattle.module_nets.proofs.TableSteps.{seen_behind-append}

-- ---- what a name means
filter-map : {X Y : Type 0} (test : Y → Bool) (f : X → Y) (xs : List X) → filter test (map f xs) ≡ map f (filter (λ x. test (f x)) xs)
filter-map test f [] = refl
filter-map test f (x ∷ xs) = by_test (test (f x)) (λ h. rw h (ap (λ ys. f x ∷ ys) (filter-map test f xs))) (λ h. rw h (filter-map test f xs))

only-map : {X Y : Type 0} (f : X → Y) (xs : List X) → only (map f xs) ≡ option_map f (only xs)
only-map f [] = refl
only-map f (x ∷ []) = refl
only-map f (x ∷ y ∷ xs) = refl

none_named : (seen : List (List ℕ)) (ms : List Module) (name : List ℕ) → first_again seen (map (λ m. m.name) ms) ≡ None → has_name seen name ≡ true → filter (λ m. bytes_eq m.name name) ms ≡ []
none_named seen [] name apart seen_is = refl
none_named seen (m ∷ ms) name apart seen_is =
    let parts = again_head seen m.name (map (λ x. x.name) ms) apart in
    by_test (bytes_eq m.name name)
    (λ h. let same : m.name ≡ name = bytes_same m.name name h in absurd (let g = ap (has_name seen) same in let k : true ≡ false = sym seen_is ∙ (sym g ∙ parts.0) in cc))
    (λ h. rw h (none_named (m.name ∷ seen) ms name parts.1 (ap (λ b. bytes_eq name m.name || b) seen_is ∙ or_true (bytes_eq name m.name))))
  where
    or_true : (a : Bool) → (a || true) ≡ true
    or_true true = refl
    or_true false = refl

only_named : (seen : List (List ℕ)) (ms : List Module) (name : List ℕ) → first_again seen (map (λ m. m.name) ms) ≡ None → only (filter (λ m. bytes_eq m.name name) ms) ≡ find (λ m. bytes_eq m.name name) ms
only_named seen [] name apart = refl
only_named seen (m ∷ ms) name apart =
    let parts = again_head seen m.name (map (λ x. x.name) ms) apart in
    by_test (bytes_eq m.name name)
    (λ h.
    let there : has_name (m.name ∷ seen) name ≡ true = let t : bytes_eq name m.name ≡ true = bytes_turned name m.name ∙ h in rw t refl in
    rw h (ap (λ ns. only (m ∷ ns)) (none_named (m.name ∷ seen) ms name parts.1 there)))
    (λ h. rw h (only_named (m.name ∷ seen) ms name parts.1))

object_is : (o : Option Module) → object_of (option_map (λ m. record { name = printed m.name; object = m }) o) ≡ o
object_is None = refl
object_is (Some m) = refl

pub meant_is : (ms : List Module) (name : List ℕ) → first_again [] (map (λ m. m.name) ms) ≡ None
    → meant ms name ≡ option_or (find (λ m. bytes_eq (printed m.name) name) ms) (find (λ m. bytes_eq m.name name) ms)
meant_is ms name apart =
    let f : Module → Named Module = λ m. record { name = printed m.name; object = m } in
    let second : only (filter (λ o. bytes_eq (plain o.name) name) (map f ms)) ≡ option_map f (find (λ m. bytes_eq m.name name) ms) =
    ap only (filter-map (λ o. bytes_eq (plain o.name) name) f ms)
    ∙ (only-map f (filter (λ m. bytes_eq (plain (printed m.name)) name) ms)
    ∙ ap (option_map f) (ap only (filter_agree (λ m. bytes_eq (plain (printed m.name)) name) (λ m. bytes_eq m.name name) (λ m. ap (λ n. bytes_eq n name) (plain-printed m.name)) ms)
    ∙ only_named [] ms name apart)) in
    ap (λ o. option_or (object_of o) (object_of (only (filter (λ o. bytes_eq (plain o.name) name) (map f ms))))) (find-map (λ o. bytes_eq o.name name) f ms)
    ∙ (ap (λ o. option_or (object_of (option_map f (find (λ m. bytes_eq (printed m.name) name) ms))) (object_of o)) second
    ∙ (ap (λ o. option_or o (object_of (option_map f (find (λ m. bytes_eq m.name name) ms)))) (object_is (find (λ m. bytes_eq (printed m.name) name) ms))
    ∙ ap (option_or (find (λ m. bytes_eq (printed m.name) name) ms)) (object_is (find (λ m. bytes_eq m.name name) ms))))

-- the module at the place that was found
pub found_number : (test : Module → Bool) (ms : List Module) (found : Option ℕ) → found ≡ position_from test 0 ms → option_map (module_at ms) found ≡ find test ms
found_number test ms None is = sym (no_place test ms (sym is))
found_number test ms (Some k) is = sym ((at_place test ms k (sym is)).element (record { name = []; leaf = false; ports = []; nets = []; assigns = []; instances = [] }))

pub found_within : (test : Module → Bool) (ms : List Module) (found : Option ℕ) → found ≡ position_from test 0 ms → IfSome found (λ k. k < length ms)
found_within test ms None is = tt
found_within test ms (Some k) is = (at_place test ms k (sym is)).within

pub meant_printed : (ms : List Module) (name : List ℕ) (k : ℕ) → first_again [] (map (λ m. m.name) ms) ≡ None → Some k ≡ position_from (λ m. bytes_eq (printed m.name) name) 0 ms
    → Some (module_at ms k) ≡ meant ms name
meant_printed ms name k apart is =
    sym (meant_is ms name apart ∙ ap (λ o. option_or o (find (λ m. bytes_eq m.name name) ms)) (sym (found_number (λ m. bytes_eq (printed m.name) name) ms (Some k) is)))

pub meant_named : (ms : List Module) (name : List ℕ) (found : Option ℕ) → first_again [] (map (λ m. m.name) ms) ≡ None → None ≡ position_from (λ m. bytes_eq (printed m.name) name) 0 ms → found ≡ module_number ms name
    → option_map (module_at ms) found ≡ meant ms name
meant_named ms name found apart none is =
    sym (meant_is ms name apart ∙ (ap (λ o. option_or o (find (λ m. bytes_eq m.name name) ms)) (sym (found_number (λ m. bytes_eq (printed m.name) name) ms None none))
    ∙ sym (found_number (λ m. bytes_eq m.name name) ms found is)))

-- unless it is a leaf
pub plain_none : (ms : List Module) (name : List ℕ) → None ≡ meant ms name → plain_module name (meant ms name) ≡ Err (NoTop (Some name))
plain_none ms name none = ap (plain_module name) (sym none)

pub plain_leaf : (ms : List Module) (name : List ℕ) (k : ℕ) (m : Module) → m ≡ module_at ms k → Some (module_at ms k) ≡ meant ms name → m.leaf ≡ true → plain_module name (meant ms name) ≡ Err (NoTop (Some name))
plain_leaf ms name k m own is leaf =
    let leaf_is : (module_at ms k).leaf ≡ true = ap (λ x. x.leaf) (sym own) ∙ leaf in
    ap (plain_module name) (sym is) ∙ rw leaf_is refl

pub plain_some : (ms : List Module) (name : List ℕ) (k : ℕ) (m : Module) → m ≡ module_at ms k → Some (module_at ms k) ≡ meant ms name → m.leaf ≡ false → plain_module name (meant ms name) ≡ Ok (module_at ms k)
plain_some ms name k m own is plain_is =
    let leaf_is : (module_at ms k).leaf ≡ false = ap (λ x. x.leaf) (sym own) ∙ plain_is in
    ap (plain_module name) (sym is) ∙ rw leaf_is refl

-- where no name stands twice, the top is the chosen one
pub top_is : (ms : List Module) (top : Option (List ℕ)) → first_again [] (map (λ m. m.name) ms) ≡ None → top_module ms top ≡ chosen ms top
top_is ms top apart = ap (λ o. unless_refused (option_map (λ name. ModuleTwice (printed name)) o) (chosen ms top)) apart

-- ---- names of instantiated modules
pub noted_more_names : (seen names : List (List ℕ)) (x : List ℕ) (old new : List ℕ → Bool) → HasNames (seen_behind seen names) old → ((q : List ℕ) → new q ≡ (bytes_eq q x || old q)) → HasNames (seen_behind seen (names ++ x ∷ [])) new
noted_more_names seen names x old new has noted q =
    noted q ∙ (ap (λ b. bytes_eq q x || b) (has q) ∙ ap (λ s. has_name s q) (sym (seen_behind-append seen names (x ∷ []))))

pub instances_more : (xs : List Instance) (i : ℕ) (x : Instance) (name : List ℕ) (seen : List (List ℕ)) (old new : List ℕ → Bool) → i < length xs → x ≡ get_or xs i x → name ≡ x.«module»
    → HasNames (seen_behind seen (map (λ y. y.«module») (take i xs))) old → ((q : List ℕ) → new q ≡ (bytes_eq q name || old q)) → HasNames (seen_behind seen (map (λ y. y.«module») (take (i + 1) xs))) new
instances_more xs i x name seen old new within is named has noted =
    let P : List (List ℕ) → Type 0 = λ ns. HasNames (seen_behind seen ns) new in
    subst P (sym (ap (map (λ y. y.«module»)) (take_one xs i x within is) ∙ map-append (λ y. y.«module») (take i xs) (x ∷ [])))
    (noted_more_names seen (map (λ y. y.«module») (take i xs)) x.«module» old new has (λ q. noted q ∙ ap (λ n. bytes_eq q n || old q) named))

names_in : Module → List (List ℕ)
names_in n = map (λ i. i.«module») n.instances

pub modules_more : (ms : List Module) (i : ℕ) (m : Module) (is : List Instance) (new : List ℕ → Bool) → i < length ms → m ≡ get_or ms i m → is ≡ m.instances
    → HasNames (seen_behind (seen_behind [] (instantiated (take i ms))) (map (λ x. x.«module») is)) new → HasNames (seen_behind [] (instantiated (take (i + 1) ms))) new
modules_more ms i m is new within m_is is_are has =
    let f : Module → List (List ℕ) = λ n. map (λ x. x.«module») n.instances in
    let one : instantiated (take (i + 1) ms) ≡ instantiated (take i ms) ++ map (λ x. x.«module») is =
    ap instantiated (take_one ms i m within m_is) ∙ (flat_map-append f (take i ms) (m ∷ [])
    ∙ ap (λ ns. instantiated (take i ms) ++ ns) (append-nil (f m) ∙ ap (map (λ x. x.«module»)) (sym is_are))) in
    let P : List (List ℕ) → Type 0 = λ ns. HasNames ns new in
    subst P (sym (ap (seen_behind []) one ∙ seen_behind-append [] (instantiated (take i ms)) (map (λ x. x.«module») is))) has

pub all_noted : (ms : List Module) (has : List ℕ → Bool) → HasNames (seen_behind [] (instantiated ms)) has → HasNames (instantiated ms) has
all_noted ms has noted q = noted q ∙ (has_behind [] (instantiated ms) q ∙ or_none (has_name (instantiated ms) q))

-- ---- roots
pub roots_are : (ms : List Module) (has : List ℕ → Bool) → HasNames (instantiated ms) has → filter (is_root has) ms ≡ roots ms
roots_are ms has noted = filter_agree (is_root has) (is_root (has_name (instantiated ms))) (λ m. ap (λ b. not m.leaf && not b) (noted m.name)) ms

default_module : Module
default_module = record { name = []; leaf = false; ports = []; nets = []; assigns = []; instances = [] }

pub no_root : (ms : List Module) (has : List ℕ → Bool) → HasNames (instantiated ms) has → first_again [] (map (λ m. m.name) ms) ≡ None → position_from (is_root has) 0 ms ≡ None → top_module ms None ≡ Err (NoTop None)
no_root ms has noted apart none = top_is ms None apart ∙ ap one_root (sym (roots_are ms has noted) ∙ filter_none (is_root has) 0 ms none)

pub one_is : (ms : List Module) (has : List ℕ → Bool) (first : ℕ) → HasNames (instantiated ms) has → first_again [] (map (λ m. m.name) ms) ≡ None → position_from (is_root has) 0 ms ≡ Some first
    → position_from (is_root has) (first + 1) (drop (first + 1) ms) ≡ None → top_module ms None ≡ Ok (module_at ms first)
one_is ms has first noted apart first_is none =
    top_is ms None apart ∙ ap one_root (sym (roots_are ms has noted) ∙ (filter_first (is_root has) 0 ms first (record { name = []; leaf = false; ports = []; nets = []; assigns = []; instances = [] }) (at_place (is_root has) ms first first_is)
    ∙ ap (λ ns. module_at ms first ∷ ns) (filter_none (is_root has) (first + 1) (drop (first + 1) ms) none)))

pub two_are : (ms : List Module) (has : List ℕ → Bool) (first second : ℕ) (m n : Module) (name other mname nname : List ℕ) → HasNames (instantiated ms) has → first_again [] (map (λ m. m.name) ms) ≡ None
    → position_from (is_root has) 0 ms ≡ Some first → position_from (is_root has) (first + 1) (drop (first + 1) ms) ≡ Some second → m ≡ module_at ms first → n ≡ module_at ms second
    → mname ≡ m.name → nname ≡ n.name → name ≡ printed mname → other ≡ printed nname → top_module ms None ≡ Err (ManyTops name other)
two_are ms has first second m n name other mname nname noted apart first_is second_is m_is n_is mname_is nname_is name_is other_is =
    let d : Module = record { name = []; leaf = false; ports = []; nets = []; assigns = []; instances = [] } in
    let later = at_start (is_root has) (first + 1) (drop (first + 1) ms) second second_is in
    let there : get_or (drop (first + 1) ms) later.0 d ≡ module_at ms second = get_or-drop (first + 1) ms later.0 d ∙ ap (module_at ms) later.1.0 in
    top_is ms None apart
    ∙ (ap one_root (sym (roots_are ms has noted) ∙ (filter_first (is_root has) 0 ms first d (at_place (is_root has) ms first first_is)
    ∙ ap (λ ns. module_at ms first ∷ ns) (filter_first (is_root has) (first + 1) (drop (first + 1) ms) later.0 d later.1.1)))
    ∙ (ap (λ x. Err (ManyTops (printed (module_at ms first).name) (printed x.name))) there
    ∙ (ap (λ x. Err (ManyTops (printed x) (printed (module_at ms second).name))) (ap (λ x. x.name) (sym m_is) ∙ sym mname_is)
    ∙ (ap (λ x. Err (ManyTops (printed mname) (printed x))) (ap (λ x. x.name) (sym n_is) ∙ sym nname_is)
    ∙ (ap (λ x. Err (ManyTops x (printed nname))) (sym name_is) ∙ ap (λ x. Err (ManyTops name x)) (sym other_is))))))

pub not_plain : (ms : List Module) (name : List ℕ) (found : Option ℕ) → found ≡ None → IsPlainNumber ms name found → plain_module name (meant ms name) ≡ Err (NoTop (Some name))
not_plain ms name found none is =
    let P : Option ℕ → Type 0 = IsPlainNumber ms name in
    subst P none is
