-- The nets of a module are apart, and their bits are all net bits.
use Rattle.std.proofs.Common.{◌≡◌, ℕ, ◌+◌, ◌||◌, Bool, true, false, Option, Some, None, List, [], ◌∷◌, ◌++◌, get_or, length, map, find, All, refl, sym, ap, ◌∙◌, subst, append_assoc}
use Rattle.std.specs.List.{flat_map}
use Rattle.std.specs.Option.{option_or, option_map}
use Rattle.std.specs.Str.{bytes_eq}
use Rattle.std.proofs.lemmas.List.{append-nil, map-append, length-map}
use Rattle.std.proofs.lemmas.List.Concat.{flat_map-append, flat_map-cons, length-flat_map}
use Rattle.std.proofs.lemmas.List.Elements.{All-nil, All-cons, All-head, All-tail}
use Rattle.std.proofs.lemmas.List.Folds.{find-append, flat_map-map, list_any-append}
use Rattle.std.proofs.lemmas.Option.{none-some}
use Rattle.bud_design.specs.Lists.{first_again, each_once, has_name}
use Rattle.bud_syntax.specs.declared.modules.Range.{Range}
use Rattle.bud_syntax.specs.declared.modules.Port.{Port}
use Rattle.bud_syntax.specs.declared.modules.NetDecl.{NetDecl}
use Rattle.bud_syntax.specs.declared.modules.Piece.{Piece}
use Rattle.bud_syntax.specs.declared.modules.Module.{Module}
use Rattle.module_nets.specs.Gathering.{place_among, Gathers, with_uses, used_by_instance, used_by_assign}
use Rattle.module_nets.specs.Nets.{NetBit, bit_of, range_bits, range_of, or_scalar, net_bits, local_bits, all_bits, implicit_nets, pieces_in, pieces_of_link, piece_net, names_if}
use Rattle.module_nets.specs.Numbers.{Net, net_of, module_nets, range_width, bits_in, declared_names, IsNamedApart}
use Rattle.module_nets.specs.Tables.{seen_behind}
use Rattle.module_nets.specs.declared.gathering.NetPlace.{NetPlace}
use Rattle.module_nets.specs.declared.gathering.Gathered.{Gathered}
use Rattle.module_nets.proofs.Bytes.{by_test, bytes_itself, bytes_turned}
use Rattle.module_nets.proofs.TableSteps.{first_again-append}
use Rattle.module_nets.proofs.GatherSteps.{with_uses-append}
use Rattle.module_nets.proofs.WidthLaws.{length-range_bits, sum_by-same}

-- ---- ranges
-- the range of the first net of a name, None for a scalar
abbrev pub ranged : List Net → List ℕ → Option Range
ranged nets name = or_scalar (option_map (λ n. n.range) (find (λ n. bytes_eq n.name name) nets))

pub find-map : {X Y : Type 0} (test : Y → Bool) (f : X → Y) (xs : List X) → find test (map f xs) ≡ option_map f (find (λ x. test (f x)) xs)
find-map test f [] = refl
find-map test f (x ∷ xs) = by_test (test (f x)) (λ h. rw h refl) (λ h. rw h (find-map test f xs))

scalar_only : (names : List (List ℕ)) (q : List ℕ) → or_scalar (option_map (λ n. n.range) (find (λ n. bytes_eq n.name q) (map (λ name. net_of name None) names))) ≡ None
scalar_only [] q = refl
scalar_only (x ∷ names) q = by_test (bytes_eq x q) (λ h. rw h refl) (λ h. rw h (scalar_only names q))

-- the first of three
three : (a : Option Port) (b : Option NetDecl) (c : Option Net) → or_scalar (option_map (λ n. n.range) c) ≡ None →
    or_scalar (option_map (λ n. n.range) (option_or (option_map (λ p. net_of p.name p.range) a) (option_or (option_map (λ n. net_of n.name n.range) b) c)))
    ≡ or_scalar (option_or (option_map (λ p. p.range) a) (option_map (λ n. n.range) b))
three (Some p) b c scalar = refl
three None (Some n) c scalar = refl
three None None c scalar = scalar

pub ranged_is : (m : Module) (q : List ℕ) → ranged (module_nets m) q ≡ range_of m q
ranged_is m q =
    let test : Net → Bool = λ n. bytes_eq n.name q in
    let ports : List Net = map (λ p. net_of p.name p.range) m.ports in
    let nets : List Net = map (λ n. net_of n.name n.range) m.nets in
    let rest : List Net = map (λ name. net_of name None) (implicit_nets m) in
    ap (λ o. or_scalar (option_map (λ n. n.range) o))
    (find-append test ports (nets ++ rest) ∙ ap (option_or (find test ports)) (find-append test nets rest)
    ∙ ap (λ o. option_or o (option_or (find test nets) (find test rest))) (find-map test (λ p. net_of p.name p.range) m.ports)
    ∙ ap (λ o. option_or (option_map (λ p. net_of p.name p.range) (find (λ p. bytes_eq p.name q) m.ports)) (option_or o (find test rest))) (find-map test (λ n. net_of n.name n.range) m.nets))
    ∙ three (find (λ p. bytes_eq p.name q) m.ports) (find (λ n. bytes_eq n.name q) m.nets) (find test rest) (scalar_only (implicit_nets m) q)

-- what a table of places says of ranges
abbrev pub range_at : Option NetPlace → Option Range
range_at None = None
range_at (Some place) = place.range

pub place_range : (before : ℕ) (nets : List Net) (q : List ℕ) → range_at (place_among before nets q) ≡ ranged nets q
place_range before [] q = refl
place_range before (n ∷ nets) q = by_test (bytes_eq n.name q) (λ h. rw h refl) (λ h. rw h (place_range (before + range_width n.range) nets q))

-- ---- names apart
pub again_head : (seen : List (List ℕ)) (x : List ℕ) (xs : List (List ℕ)) → first_again seen (x ∷ xs) ≡ None → (has_name seen x ≡ false) × (first_again (x ∷ seen) xs ≡ None)
again_head seen x xs none =
    by_test (has_name seen x)
    (λ h. absurd (none-some x (sym none ∙ rw h refl)))
    (λ h. (h, sym (rw h refl) ∙ none))

pub or_parts : (a b : Bool) → (a || b) ≡ false → (a ≡ false) × (b ≡ false)
or_parts true b no_one = absurd (cc)
or_parts false b no_one = (refl, no_one)

unseen : (seen : List (List ℕ)) (nets : List Net) → first_again seen (map (λ n. n.name) nets) ≡ None → All (λ n. has_name seen n.name ≡ false) nets
unseen seen [] none = All-nil (λ n. has_name seen n.name ≡ false)
unseen seen (n ∷ nets) none =
    let parts = again_head seen n.name (map (λ x. x.name) nets) none in
    All-cons (λ x. has_name seen x.name ≡ false) n nets parts.0
    (λ k d below. (or_parts (bytes_eq (get_or nets k d).name n.name) (has_name seen (get_or nets k d).name) (unseen (n.name ∷ seen) nets parts.1 k d below)).1)

-- the range found by a net's name is its own
pub own_range : (seen : List (List ℕ)) (nets : List Net) → first_again seen (map (λ n. n.name) nets) ≡ None → All (λ n. ranged nets n.name ≡ n.range) nets
own_range seen [] none = All-nil (λ n. ranged [] n.name ≡ n.range)
own_range seen (n ∷ nets) none =
    let parts = again_head seen n.name (map (λ x. x.name) nets) none in
    let itself = bytes_itself n.name in
    All-cons (λ x. ranged (n ∷ nets) x.name ≡ x.range) n nets (rw itself refl)
    (λ k d below.
    let x : Net = get_or nets k d in
    let apart = (or_parts (bytes_eq x.name n.name) (has_name seen x.name) (unseen (n.name ∷ seen) nets parts.1 k d below)).0 in
    let differ : bytes_eq n.name x.name ≡ false = bytes_turned n.name x.name ∙ apart in
    rw differ (own_range (n.name ∷ seen) nets parts.1 k d below))

same_behind : (s t : List (List ℕ)) (x : List ℕ) → ((q : List ℕ) → has_name s q ≡ has_name t q) → (q : List ℕ) → has_name (x ∷ s) q ≡ has_name (x ∷ t) q
same_behind s t x same q = ap (λ b. bytes_eq q x || b) (same q)

pub each_once-same : (s t xs : List (List ℕ)) → ((q : List ℕ) → has_name s q ≡ has_name t q) → each_once s xs ≡ each_once t xs
each_once-same s t [] same = refl
each_once-same s t (x ∷ xs) same =
    by_test (has_name t x)
    (λ h. let g : has_name s x ≡ true = same x ∙ h in rw (g, h) (each_once-same s t xs same))
    (λ h. let g : has_name s x ≡ false = same x ∙ h in rw (g, h) (ap (λ ys. x ∷ ys) (each_once-same (x ∷ s) (x ∷ t) xs (same_behind s t x same))))

once_apart : (s t xs : List (List ℕ)) → ((q : List ℕ) → has_name s q ≡ has_name t q) → first_again s (each_once t xs) ≡ None
once_apart s t [] same = refl
once_apart s t (x ∷ xs) same =
    by_test (has_name t x)
    (λ h. rw h (once_apart s t xs same))
    (λ h. let g : has_name s x ≡ false = same x ∙ h in rw (h, g) (once_apart (x ∷ s) (x ∷ t) xs (same_behind s t x same)))

pub table_range : (m : Module) (q : List ℕ) (found : Option NetPlace) → found ≡ place_among 0 (module_nets m) q → range_at found ≡ range_of m q
table_range m q found is = ap range_at is ∙ (place_range 0 (module_nets m) q ∙ ranged_is m q)

map-map : {X Y Z : Type 0} (f : X → Y) (g : Y → Z) (xs : List X) → map g (map f xs) ≡ map (λ x. g (f x)) xs
map-map f g [] = refl
map-map f g (x ∷ xs) = ap (λ ys. g (f x) ∷ ys) (map-map f g xs)

map-itself : {X Y : Type 0} (f : X → Y) (g : Y → X) (xs : List X) → ((x : X) → g (f x) ≡ x) → map g (map f xs) ≡ xs
map-itself f g [] same = refl
map-itself f g (x ∷ xs) same = rw (same x, map-itself f g xs same) refl

-- the names of ports and declared nets
abbrev pub declared_before : Module → List (List ℕ)
declared_before m = map (λ p. p.name) m.ports ++ map (λ n. n.name) m.nets

abbrev pub port_nets : Module → List Net
port_nets m = map (λ p. net_of p.name p.range) m.ports

abbrev pub declared_nets : Module → List Net
declared_nets m = map (λ n. net_of n.name n.range) m.nets

abbrev pub scalar_nets : List (List ℕ) → List Net
scalar_nets names = map (λ name. net_of name None) names

pub declared_names_are : (m : Module) → map (λ n. n.name) (port_nets m ++ declared_nets m) ≡ declared_before m
declared_names_are m =
    map-append (λ n. n.name) (port_nets m) (declared_nets m)
    ∙ ap (λ ns. ns ++ map (λ n. n.name) (declared_nets m)) (map-map (λ p. net_of p.name p.range) (λ n. n.name) m.ports)
    ∙ ap (λ ns. map (λ p. p.name) m.ports ++ ns) (map-map (λ n. net_of n.name n.range) (λ n. n.name) m.nets)

scalar_names : (names : List (List ℕ)) → map (λ n. n.name) (scalar_nets names) ≡ names
scalar_names names = map-itself (λ name. net_of name None) (λ n. n.name) names (λ name. refl)

pub net_names_are : (m : Module) → map (λ n. n.name) (module_nets m) ≡ declared_before m ++ implicit_nets m
net_names_are m =
    ap (map (λ n. n.name)) (sym (append_assoc (port_nets m) (declared_nets m) (scalar_nets (implicit_nets m))))
    ∙ map-append (λ n. n.name) (port_nets m ++ declared_nets m) (scalar_nets (implicit_nets m))
    ∙ ap (λ ns. ns ++ map (λ n. n.name) (scalar_nets (implicit_nets m))) (declared_names_are m)
    ∙ ap (λ ns. declared_before m ++ ns) (scalar_names (implicit_nets m))

pub has_behind : (seen xs : List (List ℕ)) (q : List ℕ) → has_name (seen_behind seen xs) q ≡ (has_name xs q || has_name seen q)
has_behind seen [] q = refl
has_behind seen (x ∷ xs) q = has_behind (x ∷ seen) xs q ∙ turned (bytes_eq q x) (has_name xs q) (has_name seen q)
  where
    turned : (a b c : Bool) → (b || (a || c)) ≡ ((a || b) || c)
    turned true true c = refl
    turned true false c = refl
    turned false true c = refl
    turned false false c = refl

pub or_none : (a : Bool) → (a || false) ≡ a
or_none true = refl
or_none false = refl

none_first : {X : Type 0} (a b : Option X) → option_or a b ≡ None → a ≡ None
none_first None b none = refl
none_first (Some x) b none = absurd (none-some x (sym none))

-- no two nets of a module have one name
pub nets_apart : (m : Module) → IsNamedApart m → first_again [] (map (λ n. n.name) (module_nets m)) ≡ None
nets_apart m apart =
    let split : declared_names m ≡ declared_before m ++ map (λ i. i.name) m.instances = sym (append_assoc (map (λ p. p.name) m.ports) (map (λ n. n.name) m.nets) (map (λ i. i.name) m.instances)) in
    let before : first_again [] (declared_before m) ≡ None =
    none_first (first_again [] (declared_before m)) (first_again (seen_behind [] (declared_before m)) (map (λ i. i.name) m.instances))
    (sym (first_again-append [] (declared_before m) (map (λ i. i.name) m.instances)) ∙ (ap (first_again []) (sym split) ∙ apart)) in
    ap (first_again []) (net_names_are m)
    ∙ (first_again-append [] (declared_before m) (implicit_nets m)
    ∙ rw before
    (once_apart (seen_behind [] (declared_before m)) (declared_before m) (flat_map (λ x. names_if (piece_net x)) (pieces_in m))
    (λ q. has_behind [] (declared_before m) q ∙ or_none (has_name (declared_before m) q))))

-- ---- all net bits
abbrev pub bits_of_net : Net → List NetBit
bits_of_net n = map (bit_of n.name) (range_bits n.range)

flat_map-all : {X Y : Type 0} (f g : X → List Y) (xs : List X) → All (λ x. f x ≡ g x) xs → flat_map f xs ≡ flat_map g xs
flat_map-all f g [] same = refl
flat_map-all f g (x ∷ xs) same =
    flat_map-cons f x xs ∙ (ap (λ ys. ys ++ flat_map f xs) (All-head (λ y. f y ≡ g y) x xs same)
    ∙ (ap (λ ys. g x ++ ys) (flat_map-all f g xs (All-tail (λ y. f y ≡ g y) x xs same)) ∙ sym (flat_map-cons g x xs)))

pub own_bits : (m : Module) → IsNamedApart m → All (λ n. net_bits m n.name ≡ bits_of_net n) (module_nets m)
own_bits m apart = λ k d below.
    let n : Net = get_or (module_nets m) k d in
    let range : range_of m n.name ≡ n.range = sym (ranged_is m n.name) ∙ own_range [] (module_nets m) (nets_apart m apart) k d below in
    ap (λ r. map (bit_of n.name) (range_bits r)) range

pub all_bits_are : (m : Module) → IsNamedApart m → all_bits m ≡ flat_map bits_of_net (module_nets m)
all_bits_are m apart =
    sym (flat_map-append (net_bits m) (map (λ p. p.name) m.ports) (map (λ n. n.name) m.nets ++ implicit_nets m))
    ∙ (ap (flat_map (net_bits m)) (sym (append_assoc (map (λ p. p.name) m.ports) (map (λ n. n.name) m.nets) (implicit_nets m)) ∙ sym (net_names_are m))
    ∙ (flat_map-map (net_bits m) (λ n. n.name) (module_nets m) ∙ flat_map-all (λ n. net_bits m n.name) bits_of_net (module_nets m) (own_bits m apart)))

pub length-bits_of_nets : (nets : List Net) → length (flat_map bits_of_net nets) ≡ bits_in nets
length-bits_of_nets nets =
    length-flat_map bits_of_net nets
    ∙ sum_by-same (λ n. length (bits_of_net n)) (λ n. range_width n.range) nets (λ n. length-map (range_bits n.range) (bit_of n.name) ∙ length-range_bits n.range)

pub count-all_bits : (m : Module) → IsNamedApart m → length (all_bits m) ≡ bits_in (module_nets m)
count-all_bits m apart = ap length (all_bits_are m apart) ∙ length-bits_of_nets (module_nets m)

abbrev pub local_nets : Module → List Net
local_nets m = declared_nets m ++ scalar_nets (implicit_nets m)

All-last : {X : Type 0} (P : X → Type 0) (xs ys : List X) → All P (xs ++ ys) → All P ys
All-last P [] ys all = all
All-last P (x ∷ xs) ys all = All-last P xs ys (All-tail P x (xs ++ ys) all)

pub count-local_bits : (m : Module) → IsNamedApart m → length (local_bits m) ≡ bits_in (local_nets m)
count-local_bits m apart =
    let names : map (λ n. n.name) (local_nets m) ≡ map (λ n. n.name) m.nets ++ implicit_nets m =
    map-append (λ n. n.name) (declared_nets m) (scalar_nets (implicit_nets m))
    ∙ (ap (λ ns. ns ++ map (λ n. n.name) (scalar_nets (implicit_nets m))) (map-map (λ n. net_of n.name n.range) (λ n. n.name) m.nets)
    ∙ ap (λ ns. map (λ n. n.name) m.nets ++ ns) (scalar_names (implicit_nets m))) in
    ap length (ap (flat_map (net_bits m)) (sym names) ∙ (flat_map-map (net_bits m) (λ n. n.name) (local_nets m)
    ∙ flat_map-all (λ n. net_bits m n.name) bits_of_net (local_nets m) (All-last (λ n. net_bits m n.name ≡ bits_of_net n) (port_nets m) (local_nets m) (own_bits m apart))))
    ∙ length-bits_of_nets (local_nets m)

-- ---- the nets as they are gathered
flat_map-flat_map : {X Y Z : Type 0} (f : X → List Y) (g : Y → List Z) (xs : List X) → flat_map g (flat_map f xs) ≡ flat_map (λ x. flat_map g (f x)) xs
flat_map-flat_map f g [] = refl
flat_map-flat_map f g (x ∷ xs) =
    ap (flat_map g) (flat_map-cons f x xs) ∙ (flat_map-append g (f x) (flat_map f xs)
    ∙ (ap (λ ys. flat_map g (f x) ++ ys) (flat_map-flat_map f g xs) ∙ sym (flat_map-cons (λ y. flat_map g (f y)) x xs)))

flat_map-same : {X Y : Type 0} (f g : X → List Y) (xs : List X) → ((x : X) → f x ≡ g x) → flat_map f xs ≡ flat_map g xs
flat_map-same f g xs same = flat_map-all f g xs (λ k d below. same (get_or xs k d))

pub names_used : (m : Module) → flat_map (λ x. names_if (piece_net x)) (pieces_in m) ≡ flat_map used_by_instance m.instances ++ flat_map used_by_assign m.assigns
names_used m =
    let f : Piece → List (List ℕ) = λ x. names_if (piece_net x) in
    flat_map-append f (flat_map (λ i. flat_map pieces_of_link i.links) m.instances) (flat_map (λ a. a.left ++ a.right) m.assigns)
    ∙ (ap (λ ns. ns ++ flat_map f (flat_map (λ a. a.left ++ a.right) m.assigns))
    (flat_map-flat_map (λ i. flat_map pieces_of_link i.links) f m.instances
    ∙ flat_map-same (λ i. flat_map f (flat_map pieces_of_link i.links)) used_by_instance m.instances (λ i. flat_map-flat_map pieces_of_link f i.links))
    ∙ ap (λ ns. flat_map used_by_instance m.instances ++ ns)
    (flat_map-flat_map (λ a. a.left ++ a.right) f m.assigns
    ∙ flat_map-same (λ a. flat_map f (a.left ++ a.right)) used_by_assign m.assigns (λ a. flat_map-append f a.left a.right)))

pub swapped : (a b : Bool) → (a || (b || false)) ≡ (b || a)
swapped true true = refl
swapped true false = refl
swapped false true = refl
swapped false false = refl

-- the used nets are the implicit ones, each once
pub uses_are : (ports nets : List Net) (names : List (List ℕ)) → with_uses ports nets names ≡ nets ++ scalar_nets (each_once (map (λ n. n.name) (ports ++ nets)) names)
uses_are ports nets [] = sym (append-nil nets)
uses_are ports nets (x ∷ names) =
    by_test (has_name (map (λ n. n.name) (ports ++ nets)) x)
    (λ h. rw h (uses_are ports nets names))
    (λ h. rw h
    (uses_are ports (nets ++ net_of x None ∷ []) names
    ∙ (append_assoc nets (net_of x None ∷ []) (scalar_nets (each_once (map (λ n. n.name) (ports ++ (nets ++ net_of x None ∷ []))) names))
    ∙ ap (λ ns. nets ++ (net_of x None ∷ scalar_nets ns))
    (each_once-same (map (λ n. n.name) (ports ++ (nets ++ net_of x None ∷ []))) (x ∷ map (λ n. n.name) (ports ++ nets)) names (last_first ports nets x)))))
  where
    last_first : (ports nets : List Net) (x : List ℕ) (q : List ℕ) → has_name (map (λ n. n.name) (ports ++ (nets ++ net_of x None ∷ []))) q ≡ has_name (x ∷ map (λ n. n.name) (ports ++ nets)) q
    last_first ports nets x q =
        ap (λ ns. has_name ns q)
        (ap (map (λ n. n.name)) (sym (append_assoc ports nets (net_of x None ∷ []))) ∙ map-append (λ n. n.name) (ports ++ nets) (net_of x None ∷ []))
        ∙ (list_any-append (bytes_eq q) (map (λ n. n.name) (ports ++ nets)) (x ∷ []) ∙ swapped (has_name (map (λ n. n.name) (ports ++ nets)) q) (bytes_eq q x))

pub gathered_are : (m : Module) → with_uses (port_nets m) (with_uses (port_nets m) (declared_nets m) (flat_map used_by_instance m.instances)) (flat_map used_by_assign m.assigns) ≡ local_nets m
gathered_are m =
    sym (with_uses-append (port_nets m) (declared_nets m) (flat_map used_by_instance m.instances) (flat_map used_by_assign m.assigns))
    ∙ (ap (with_uses (port_nets m) (declared_nets m)) (sym (names_used m))
    ∙ (uses_are (port_nets m) (declared_nets m) (flat_map (λ x. names_if (piece_net x)) (pieces_in m))
    ∙ ap (λ seen. declared_nets m ++ scalar_nets (each_once seen (flat_map (λ x. names_if (piece_net x)) (pieces_in m)))) (declared_names_are m)))

-- what is gathered of a module is what its table says
pub gathered_module : (m : Module) (g : Gathered) → IsNamedApart m
    → Gathers (port_nets m) (with_uses (port_nets m) (with_uses (port_nets m) (declared_nets m) (flat_map used_by_instance m.instances)) (flat_map used_by_assign m.assigns)) g
    → Gathers (port_nets m) (local_nets m) g
gathered_module m g apart gathers =
    let P : List Net → Type 0 = λ ns. Gathers (port_nets m) ns g in
    subst P (gathered_are m) gathers
