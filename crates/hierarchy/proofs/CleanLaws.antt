-- A module whose body isn't refused is clean.
use Rattle.std.proofs.Common.{get_or, nat_lt, ◌≡◌, ℕ, suc, ◌≤◌, ◌==◌, Option, Some, None, List, [], ◌∷◌, ◌++◌, length, sum_by, All, refl, sym, ap, ◌∙◌, arith, inl, inr}
use Rattle.std.proofs.lemmas.Bool.{ltb-false}
use Rattle.bud_design.specs.Names.{printed}
use Rattle.std.specs.Option.{option_or, option_map}
use Rattle.std.proofs.lemmas.Bool.{eqb-true}
use Rattle.std.proofs.lemmas.List.{length-map}
use Rattle.std.proofs.lemmas.List.Elements.{All-nil, All-cons, All-head, All-tail}
use Rattle.std.proofs.lemmas.List.Sums.{sum_by-cons}
use Rattle.std.proofs.lemmas.Option.{none-some}
use Rattle.bud_design.specs.Lists.{first_some}
use Rattle.bud_syntax.specs.declared.modules.Assign.{Assign}
use Rattle.bud_syntax.specs.declared.modules.Instance.{Instance}
use Rattle.bud_syntax.specs.declared.modules.Link.{Link}
use Rattle.bud_syntax.specs.declared.modules.Link.TheVariants.{Named, Placed}
use Rattle.bud_syntax.specs.declared.modules.Module.{Module}
use Rattle.bud_syntax.specs.declared.modules.Piece.{Piece}
use Rattle.bud_syntax.specs.declared.modules.Port.{Port}
use Rattle.module_nets.specs.declared.faults.ElabFault.{ElabFault}
use Rattle.module_nets.specs.declared.faults.ElabFault.TheVariants.{TooLarge, UnknownModule, UnknownPort, Width, Select}
use Rattle.module_nets.specs.Entering.{Entry, body_fault, top_inout, name_twice, too_large, instance_count, entered_count, bad_select, select_fault, port_width_fault, joined_fault, free_port, port_in_place, link_faults, recursive, child_fault, instance_fault, assign_width, assign_fault, inout_port, printed_in}
use Rattle.module_nets.specs.Nets.{all_bits, port_bits, module_called, pieces_of_link, expression_bits, piece_net}
use Rattle.module_nets.specs.NetTables.{IsOfNet}
use Rattle.module_nets.specs.Numbers.{capped}
use Rattle.elaborations.proofs.Lists.{by_lt}
use Rattle.module_nets.proofs.Bytes.{by_test}
use Rattle.module_nets.proofs.UseLaws.{used_links, used_assigns, all_first, all_last}
use Rattle.net_drivers.specs.Appending.{IsFine}
use Rattle.net_drivers.specs.Joins.{IsSmallChild}
use Rattle.net_drivers.specs.Joints.{directions}
use Rattle.net_drivers.specs.Phases.{IsPaired, IsFineAssign, IsClean}
use Rattle.net_drivers.proofs.OwnLaws.{ports_directed}

or_parts : {X : Type 0} (a b : Option X) → option_or a b ≡ None → (a ≡ None) × (b ≡ None)
or_parts None b none = (refl, none)
or_parts (Some x) b none = absurd (none-some x (sym none))

map_none : {X Y : Type 0} (f : X → Y) (o : Option X) → option_map f o ≡ None → o ≡ None
map_none f None none = refl
map_none f (Some x) none = absurd (none-some (f x) (sym none))

none_of : {X Y : Type 0} (f : X → Option Y) (xs : List X) → first_some f xs ≡ None → All (λ x. f x ≡ None) xs
none_of f [] none = All-nil (λ x. f x ≡ None)
none_of f (x ∷ xs) none = let parts = or_parts (f x) (first_some f xs) none in All-cons (λ y. f y ≡ None) x xs parts.0 (none_of f xs parts.1)

selects : (e : Entry) (pieces : List Piece) → select_fault e pieces ≡ None → All (λ x. bad_select e.«module» x ≡ None) pieces
selects e pieces none = none_of (bad_select e.«module») pieces (map_none (λ name. Select (printed_in e name)) (first_some (bad_select e.«module») pieces) none)

joined_selects : (e : Entry) (unknown : ElabFault) (port : Option Port) (pieces : List Piece) → joined_fault e unknown port pieces ≡ None → All (λ x. bad_select e.«module» x ≡ None) pieces
joined_selects e unknown None pieces none = absurd (none-some unknown (sym none))
joined_selects e unknown (Some p) pieces none = selects e pieces (or_parts (select_fault e pieces) (port_width_fault e p pieces) none).0

link_selects : (e : Entry) (ports : List Port) (name : List ℕ) (linked : List (List ℕ)) (k : ℕ) (links : List Link) → link_faults e ports name linked k links ≡ None → All (λ l. All (λ x. bad_select e.«module» x ≡ None) (pieces_of_link l)) links
link_selects e ports name linked k [] none = All-nil (λ l. All (λ x. bad_select e.«module» x ≡ None) (pieces_of_link l))
link_selects e ports name linked k (Named port pieces ∷ links) none =
    let parts = or_parts (joined_fault e (UnknownPort (printed port)) (free_port linked ports port) pieces) (link_faults e ports name (port ∷ linked) (suc k) links) none in
    All-cons (λ l. All (λ x. bad_select e.«module» x ≡ None) (pieces_of_link l)) (Named port pieces) links
    (joined_selects e (UnknownPort (printed port)) (free_port linked ports port) pieces parts.0) (link_selects e ports name (port ∷ linked) (suc k) links parts.1)
link_selects e ports name linked k (Placed pieces ∷ links) none =
    let parts = or_parts (joined_fault e (UnknownPort (printed_in e name)) (port_in_place ports k) pieces) (link_faults e ports name linked (suc k) links) none in
    All-cons (λ l. All (λ x. bad_select e.«module» x ≡ None) (pieces_of_link l)) (Placed pieces) links
    (joined_selects e (UnknownPort (printed_in e name)) (port_in_place ports k) pieces parts.0) (link_selects e ports name linked (suc k) links parts.1)

-- the links of an instance that isn't refused select what is there
instance_selects : (e : Entry) (i : Instance) (child : Option Module) → child_fault e i child ≡ None → All (λ l. All (λ x. bad_select e.«module» x ≡ None) (pieces_of_link l)) i.links
instance_selects e i None none = absurd (none-some (UnknownModule (printed i.«module»)) (sym none))
instance_selects e i (Some child) none =
    let known = or_parts (recursive e i) (option_or (inout_port child) (link_faults e child.ports i.name [] 0 i.links)) none in
    let linked = or_parts (inout_port child) (link_faults e child.ports i.name [] 0 i.links) known.1 in
    link_selects e child.ports i.name [] 0 i.links linked.1

all_fine : (m : Module) (pieces : List Piece) → All (λ x. IsOfNet m (piece_net x)) pieces → All (λ x. bad_select m x ≡ None) pieces → All (IsFine m) pieces
all_fine m pieces used select = λ k d within. record { used = used k d within; select = select k d within }

-- the widths of an assign that isn't refused
paired : (e : Entry) (a : Assign) → assign_width e a ≡ None → IsPaired e.«module» a
paired e a none =
    by_test (length (expression_bits e.«module» a.left) == length (expression_bits e.«module» a.right))
    (λ h. inl (omega (arith, eqb-true _ _ h)))
    (λ h. inr (none_of piece_net a.left (map_none (λ name. Width (printed_in e name)) (first_some piece_net a.left) (rw h at none))))

count_small : (count : ℕ) → too_large count ≡ None → count ≤ 4194304
count_small count none = by_test (nat_lt 4194304 count) (λ h. let wrong : Some (TooLarge 4194305) ≡ None = rw h at none in absurd (none-some (TooLarge 4194305) (sym wrong))) (λ h. ltb-false 4194304 count h)

child_counted : (f : Instance → ℕ) (xs : List Instance) → All (λ i. f i ≤ sum_by f xs) xs
child_counted f [] = All-nil (λ i. f i ≤ 0)
child_counted f (x ∷ xs) =
    All-cons (λ i. f i ≤ sum_by f (x ∷ xs)) x xs (omega (arith, sum_by-cons f x xs))
    (λ k d within. omega (arith, sum_by-cons f x xs, child_counted f xs k d within))

small_child : (child : Option Module) → instance_count child ≤ 4194304 → IsSmallChild child
small_child None small = tt
small_child (Some child) small =
    let size : length (port_bits child) ≡ length (directions child.ports) = sym (length-map (port_bits child) (λ b. b.dir)) ∙ ap length (ports_directed child.ports) in
    omega (arith, small, size)

counted_child : (e : Entry) (i : Instance) (child : Option Module) → child_fault e i child ≡ None → 1 ≤ instance_count child
counted_child e i None none = absurd (none-some (UnknownModule (printed i.«module»)) (sym none))
counted_child e i (Some child) none = grind (arith)

as_many : (f : Instance → ℕ) (xs : List Instance) → All (λ i. 1 ≤ f i) xs → length xs ≤ sum_by f xs
as_many f [] all = grind (arith)
as_many f (x ∷ xs) all = omega (arith, sum_by-cons f x xs, All-head (λ i. 1 ≤ f i) x xs all, as_many f xs (All-tail (λ i. 1 ≤ f i) x xs all))

-- a module whose body isn't refused is clean
pub is-clean : (modules : List Module) (e : Entry) (count : ℕ) → body_fault modules e count ≡ None → entered_count modules e.«module» ≤ count → length (all_bits e.«module») ≤ 8388608 → IsClean modules e.«module»
is-clean modules e count none less small =
    let m = e.«module» in
    let instances = first_some (instance_fault modules e) m.instances in
    let assigns = first_some (assign_fault e) m.assigns in
    let named = (or_parts (top_inout e) (option_or (name_twice e) (option_or (too_large count) (option_or instances assigns))) none).1 in
    let large = or_parts (too_large count) (option_or instances assigns) ((or_parts (name_twice e) (option_or (too_large count) (option_or instances assigns)) named).1) in
    let last = or_parts instances assigns large.1 in
    let f : Instance → ℕ = λ i. instance_count (module_called modules i.«module») in
    let counted : sum_by f m.instances ≤ 4194304 = omega (arith, less, count_small count large.0) in
    let fine : All (λ i. instance_fault modules e i ≡ None) m.instances = none_of (instance_fault modules e) m.instances last.0 in
    record {
      small = small;
      instances = omega (arith, counted, as_many f m.instances (λ k d within. counted_child e (get_or m.instances k d) (module_called modules (get_or m.instances k d).«module») (fine k d within)));
      links = λ k d within j c inside.
          all_fine m (pieces_of_link (get_or (get_or m.instances k d).links j c)) (used_links m k d within j c inside)
          (instance_selects e (get_or m.instances k d) (module_called modules (get_or m.instances k d).«module») (fine k d within) j c inside);
      children = λ k d within. small_child (module_called modules (get_or m.instances k d).«module») (omega (arith, child_counted f m.instances k d within, counted));
      assigns = λ k d within. fine_assign e (get_or m.assigns k d) (used_assigns m k d within) (none_of (assign_fault e) m.assigns last.1 k d within);
    }
  where
    fine_assign : (e : Entry) (a : Assign) → All (λ x. IsOfNet e.«module» (piece_net x)) (a.left ++ a.right) → assign_fault e a ≡ None → IsFineAssign e.«module» a
    fine_assign e a used none =
        let m = e.«module» in
        let parts = or_parts (select_fault e (a.left ++ a.right)) (assign_width e a) none in
        let selected = selects e (a.left ++ a.right) parts.0 in
        record {
          left = all_fine m a.left (all_first (λ x. IsOfNet m (piece_net x)) a.left a.right used) (all_first (λ x. bad_select m x ≡ None) a.left a.right selected);
          right = all_fine m a.right (all_last (λ x. IsOfNet m (piece_net x)) a.left a.right used) (all_last (λ x. bad_select m x ≡ None) a.left a.right selected);
          paired = paired e a parts.1;
        }

-- few bits that are counted are few bits
pub few-bits : (n bits : ℕ) → bits ≡ capped n → bits ≤ 8388608 → n ≤ 8388608
few-bits n bits is few = by_lt n 18446744073709551615 (λ less. omega (arith, less, is, few)) (λ more. omega (arith, more, is, few))

pub neither : {X : Type 0} (a b : Option X) → a ≡ None → b ≡ None → option_or a b ≡ None
neither a b first second = rw (first, second) refl
