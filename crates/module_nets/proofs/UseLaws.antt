-- Each piece of a module is a constant or of one of its nets.
use Rattle.std.proofs.Common.{◌≡◌, ℕ, ◌||◌, Bool, true, false, Option, Some, None, List, [], ◌∷◌, ◌++◌, get_or, All, refl, ap, ◌∙◌, subst}
use Rattle.std.specs.List.{flat_map}
use Rattle.std.specs.Str.{bytes_eq}
use Rattle.std.proofs.lemmas.List.Concat.{flat_map-cons}
use Rattle.std.proofs.lemmas.List.Elements.{All-nil, All-cons, All-head, All-tail}
use Rattle.std.proofs.lemmas.List.Folds.{list_any-append}
use Rattle.bud_design.specs.Lists.{each_once, has_name}
use Rattle.bud_syntax.specs.declared.modules.Module.{Module}
use Rattle.module_nets.specs.NetTables.{IsNetOf, IsOfNet}
use Rattle.module_nets.specs.Nets.{implicit_nets, names_if, piece_net, pieces_in, pieces_of_link}
use Rattle.module_nets.proofs.Bytes.{by_test, bytes_same, bytes_itself}
use Rattle.module_nets.proofs.NetLaws.{declared_before, net_names_are}

or_right : (a : Bool) → (a || true) ≡ true
or_right true = refl
or_right false = refl

-- a name of the list is seen or stands among those that come once
once_has : (seen xs : List (List ℕ)) (q : List ℕ) → has_name xs q ≡ true → (has_name seen q || has_name (each_once seen xs) q) ≡ true
once_has seen [] q there = absurd (cc)
once_has seen (x ∷ xs) q there =
    by_test (has_name seen x)
    (λ h. by_test (bytes_eq q x)
    (λ same. let known : has_name seen q ≡ true = ap (has_name seen) (bytes_same q x same) ∙ h in rw (h, known) refl)
    (λ other. rw h (once_has seen xs q (rw other at there))))
    (λ h. by_test (bytes_eq q x)
    (λ same. rw (h, same) (or_right (has_name seen q)))
    (λ other.
    let rest : (has_name (x ∷ seen) q || has_name (each_once (x ∷ seen) xs) q) ≡ true = once_has (x ∷ seen) xs q (rw other at there) in
    rw (h, other) (rw other at rest)))

has_first : (xs ys : List (List ℕ)) (q : List ℕ) → has_name xs q ≡ true → has_name (xs ++ ys) q ≡ true
has_first xs ys q there = list_any-append (bytes_eq q) xs ys ∙ rw there refl

has_last : (xs ys : List (List ℕ)) (q : List ℕ) → has_name ys q ≡ true → has_name (xs ++ ys) q ≡ true
has_last xs ys q there = list_any-append (bytes_eq q) xs ys ∙ (ap (λ b. has_name xs q || b) there ∙ or_right (has_name xs q))

-- each element's names are among those of the list
all_named : {X : Type 0} (f : X → List (List ℕ)) (xs : List X) → All (λ x. (q : List ℕ) → has_name (f x) q ≡ true → has_name (flat_map f xs) q ≡ true) xs
all_named f [] = All-nil (λ x. (q : List ℕ) → has_name (f x) q ≡ true → has_name (flat_map f []) q ≡ true)
all_named f (x ∷ xs) =
    All-cons (λ y. (q : List ℕ) → has_name (f y) q ≡ true → has_name (flat_map f (x ∷ xs)) q ≡ true) x xs
    (λ q there. ap (λ ns. has_name ns q) (flat_map-cons f x xs) ∙ has_first (f x) (flat_map f xs) q there)
    (λ k d below q there. ap (λ ns. has_name ns q) (flat_map-cons f x xs) ∙ has_last (f x) (flat_map f xs) q (all_named f xs k d below q there))

net_of_name : (m : Module) (q : List ℕ) → has_name (flat_map (λ x. names_if (piece_net x)) (pieces_in m)) q ≡ true → IsNetOf m q
net_of_name m q there =
    ap (λ ns. has_name ns q) (net_names_are m)
    ∙ (list_any-append (bytes_eq q) (declared_before m) (implicit_nets m) ∙ once_has (declared_before m) (flat_map (λ x. names_if (piece_net x)) (pieces_in m)) q there)

of_net : (m : Module) (net : Option (List ℕ)) → ((q : List ℕ) → has_name (names_if net) q ≡ true → IsNetOf m q) → IsOfNet m net
of_net m None all = tt
of_net m (Some name) all = all name (rw (bytes_itself name) refl)

pub used_pieces : (m : Module) → All (λ x. IsOfNet m (piece_net x)) (pieces_in m)
used_pieces m = λ k d below.
    of_net m (piece_net (get_or (pieces_in m) k d)) (λ q there. net_of_name m q (all_named (λ x. names_if (piece_net x)) (pieces_in m) k d below q there))

-- what holds of all elements of two lists, or of lists one behind the other
pub all_first : {X : Type 0} (P : X → Type 0) (xs ys : List X) → All P (xs ++ ys) → All P xs
all_first P [] ys all = All-nil P
all_first P (x ∷ xs) ys all = All-cons P x xs (All-head P x (xs ++ ys) all) (all_first P xs ys (All-tail P x (xs ++ ys) all))

pub all_last : {X : Type 0} (P : X → Type 0) (xs ys : List X) → All P (xs ++ ys) → All P ys
all_last P [] ys all = all
all_last P (x ∷ xs) ys all = all_last P xs ys (All-tail P x (xs ++ ys) all)

pub all_flat : {X Y : Type 0} (P : Y → Type 0) (f : X → List Y) (xs : List X) → All P (flat_map f xs) → All (λ x. All P (f x)) xs
all_flat P f [] all = All-nil (λ x. All P (f x))
all_flat {Y = Y} P f (x ∷ xs) all =
    let Q : List Y → Type 0 = All P in
    let split = subst Q (flat_map-cons f x xs) all in
    All-cons (λ y. All P (f y)) x xs (all_first P (f x) (flat_map f xs) split) (all_flat P f xs (all_last P (f x) (flat_map f xs) split))

-- the pieces of links, and of both sides of assigns
pub used_links : (m : Module) → All (λ i. All (λ l. All (λ x. IsOfNet m (piece_net x)) (pieces_of_link l)) i.links) m.instances
used_links m = λ k d below.
    all_flat (λ x. IsOfNet m (piece_net x)) pieces_of_link (get_or m.instances k d).links
    (all_flat (λ x. IsOfNet m (piece_net x)) (λ i. flat_map pieces_of_link i.links) m.instances
    (all_first (λ x. IsOfNet m (piece_net x)) (flat_map (λ i. flat_map pieces_of_link i.links) m.instances) (flat_map (λ a. a.left ++ a.right) m.assigns) (used_pieces m)) k d below)

pub used_assigns : (m : Module) → All (λ a. All (λ x. IsOfNet m (piece_net x)) (a.left ++ a.right)) m.assigns
used_assigns m =
    all_flat (λ x. IsOfNet m (piece_net x)) (λ a. a.left ++ a.right) m.assigns
    (all_last (λ x. IsOfNet m (piece_net x)) (flat_map (λ i. flat_map pieces_of_link i.links) m.instances) (flat_map (λ a. a.left ++ a.right) m.assigns) (used_pieces m))
