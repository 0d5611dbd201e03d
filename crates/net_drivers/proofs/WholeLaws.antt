-- The whole of a module: all its drives, what is driven twice, and its wires.
use Rattle.std.proofs.Common.{◌≡◌, ℕ, zero, suc, ◌+◌, ◌<◌, ◌≤◌, ◌==◌, nat_lt, Bool, true, false, cond, List, [], ◌∷◌, ◌++◌, get_or, length, map, filter, find, take, replicate, min, Option, Some, None, All, refl, sym, ap, ◌∙◌, subst, arith, append_assoc, length-append}
use Rattle.std.specs.List.{flat_map, range_with_len, filter_map}
use Rattle.std.specs.Option.{option_map}
use Rattle.std.proofs.lemmas.Bool.Decides.{nat_tests}
use Rattle.std.proofs.lemmas.List.{append-nil, length-map, length-take, map-append}
use Rattle.std.proofs.lemmas.List.Elements.{All-nil, All-cons, All-head, All-tail, All-append, filter_map-append}
use Rattle.bud_syntax.specs.declared.modules.Dir.TheVariants.{Input, Output}
use Rattle.bud_syntax.specs.declared.modules.Instance.{Instance}
use Rattle.bud_syntax.specs.declared.modules.Module.{Module}
use Rattle.bud_syntax.specs.declared.modules.NetDecl.{NetDecl}
use Rattle.module_nets.specs.Nets.{NetBit, same_bit, all_bits, net_bits, port_bits, module_called}
use Rattle.module_nets.specs.Numbers.{Net, net_of, module_nets, range_width, IsNamedApart}
use Rattle.module_nets.proofs.Bytes.{by_test}
use Rattle.module_nets.proofs.ListSteps.{take_one}
use Rattle.module_nets.proofs.NetLaws.{bits_of_net, own_bits, all_bits_are, port_nets, declared_nets, scalar_nets}
use Rattle.module_nets.specs.Nets.{implicit_nets, bit_of, range_bits}
use Rattle.module_nets.proofs.WidthLaws.{length-range_bits}
use Rattle.net_drivers.specs.declared.covers.Ends.{Ends}
use Rattle.net_drivers.specs.declared.pins.LocalPin.{LocalPin}
use Rattle.net_drivers.specs.declared.pins.LocalWire.{LocalWire}
use Rattle.net_drivers.specs.declared.slots.Slot.{Slot}
use Rattle.net_drivers.specs.declared.slots.Slot.TheVariants.{Free}
use Rattle.net_drivers.specs.declared.slots.Joint.{Joint}
use Rattle.net_drivers.specs.Covers.{ends_behind, ends_at, behind_in, passing, AreOrdered, IsFirstOf}
use Rattle.net_drivers.specs.Drivers.{Drive, drive, constant, input_drives, instance_drives, assign_drives, drives, driver, twice_driven, own_loads, child_loads, instance_loads, loads, local_wires, input_loads}
use Rattle.net_drivers.specs.Joints.{directions, own_joints, joints}
use Rattle.net_drivers.specs.Joins.{IsJoined}
use Rattle.net_drivers.specs.Numbering.{bit_at, named, AreApart, IsPut, Holds, ArePinsOf}
use Rattle.net_drivers.specs.Phases.{IsDriven, IsFilled, Counts, driving}
use Rattle.net_drivers.specs.Slots.{slot_at, IsBelow, pin_puts, constant_puts, widths, filled, counted}
use Rattle.net_drivers.specs.Wirings.{AreDrivers, load_wire}
use Rattle.net_drivers.specs.Wires.{pin_wires}
use Rattle.net_drivers.proofs.ApartLaws.{bits_apart}
use Rattle.net_drivers.proofs.CountLaws.{Counts-counted, Counts-both}
use Rattle.net_drivers.proofs.FillLaws.{Counts-same}
use Rattle.net_drivers.proofs.JointLaws.{dirs_of, input_drives-numbered, own_loads-numbered, input_loads-numbered}
use Rattle.net_drivers.proofs.NumberLaws.{Holds-filled, driver-number}
use Rattle.net_drivers.proofs.OwnLaws.{named_port_bits, bits_of_ports, ports_named, ports_directed, part_numbers, constant_drives, constants_named}
use Rattle.net_drivers.proofs.PhaseLaws.{pin_puts-valid, own-within, constant_puts-valid}
use Rattle.net_drivers.proofs.SlotSteps.{filled-append}

-- ---- the first bits
-- the bits of the nets that aren't ports
abbrev pub rest_bits : Module → List NetBit
rest_bits m = flat_map bits_of_net (map (λ n. net_of n.name n.range) m.nets) ++ flat_map bits_of_net (scalar_nets (implicit_nets m))

flat-append : (xs ys : List Net) → flat_map bits_of_net (xs ++ ys) ≡ flat_map bits_of_net xs ++ flat_map bits_of_net ys
flat-append [] ys = refl
flat-append (x ∷ xs) ys = ap (λ bs. bits_of_net x ++ bs) (flat-append xs ys) ∙ sym (append_assoc (bits_of_net x) (flat_map bits_of_net xs) (flat_map bits_of_net ys))

pub bits_split : (m : Module) → IsNamedApart m → all_bits m ≡ named_port_bits (port_bits m) ++ rest_bits m
bits_split m apart =
    all_bits_are m apart
    ∙ (flat-append (port_nets m) (declared_nets m ++ scalar_nets (implicit_nets m))
    ∙ (ap (λ bs. bs ++ flat_map bits_of_net (declared_nets m ++ scalar_nets (implicit_nets m))) (sym (ports_named m.ports))
    ∙ ap (λ bs. named_port_bits (port_bits m) ++ bs) (flat-append (declared_nets m) (scalar_nets (implicit_nets m)))))

pub length-own : (m : Module) → length (named_port_bits (port_bits m)) ≡ length (directions m.ports)
length-own m = length-map (port_bits m) (λ b. bit_of b.port b.bit) ∙ (sym (length-map (port_bits m) (λ b. b.dir)) ∙ ap length (ports_directed m.ports))

pub own_numbers : (m : Module) → IsNamedApart m → named_port_bits (port_bits m) ≡ map (bit_at (all_bits m)) (range_with_len 0 (length (port_bits m)))
own_numbers m apart =
    part_numbers (all_bits m) [] (named_port_bits (port_bits m)) (rest_bits m) (bits_split m apart)
    ∙ ap (λ n. map (bit_at (all_bits m)) (range_with_len 0 n)) (length-map (port_bits m) (λ b. bit_of b.port b.bit))

length-widths : (nets : List NetDecl) → length (flat_map bits_of_net (map (λ n. net_of n.name n.range) nets)) ≡ widths nets
length-widths [] = refl
length-widths (n ∷ nets) =
    length-append (bits_of_net (net_of n.name n.range)) (flat_map bits_of_net (map (λ x. net_of x.name x.range) nets))
    ∙ (ap (λ k. k + length (flat_map bits_of_net (map (λ x. net_of x.name x.range) nets))) (length-map (range_bits n.range) (bit_of n.name) ∙ length-range_bits n.range)
    ∙ ap (λ k. range_width n.range + k) (length-widths nets))

pub bits_fit : (m : Module) → IsNamedApart m → length (directions m.ports) + widths m.nets ≤ length (all_bits m)
bits_fit m apart =
    omega (
      arith,
      ap length (bits_split m apart),
      length-append (named_port_bits (port_bits m)) (rest_bits m),
      length-append (flat_map bits_of_net (map (λ n. net_of n.name n.range) m.nets)) (flat_map bits_of_net (scalar_nets (implicit_nets m))),
      length-own m,
      length-widths m.nets,
    )

-- ---- inputs and constants
pub IsDriven-inputs : (m : Module) (own : List Joint) {s t : List Slot} {q r : List Ends} → IsNamedApart m → own ≡ own_joints 0 (directions m.ports)
    → t ≡ filled (pin_puts Input None 0 own) s → r ≡ counted (pin_puts Input None 0 own) q → IsDriven (all_bits m) (input_drives 0 (port_bits m)) s t q r
IsDriven-inputs m own {s} {t} {q} {r} apart are slots rows =
    let fits = bits_fit m apart in
    record {
      puts = pin_puts Input None 0 own;
      named = ap (λ js. map (named (all_bits m)) (pin_puts Input None 0 js)) (are ∙ ap (own_joints 0) (sym (ports_directed m.ports))) ∙ input_drives-numbered (all_bits m) 0 (port_bits m) (own_numbers m apart);
      valid = pin_puts-valid (length (all_bits m)) Input None 0 own (subst (λ js. All (λ j. IsBelow (length (all_bits m)) j.bit) js) (sym are) (own-within (length (all_bits m)) 0 (directions m.ports) (omega (arith, fits))));
      slots = slots;
      rows = rows;
    }

all-front : {X : Type 0} (P : X → Type 0) (xs ys : List X) → All P (xs ++ ys) → All P xs
all-front P [] ys all = All-nil P
all-front P (x ∷ xs) ys all = All-cons P x xs (All-head P x (xs ++ ys) all) (all-front P xs ys (All-tail P x (xs ++ ys) all))

all-back : {X : Type 0} (P : X → Type 0) (xs ys : List X) → All P (xs ++ ys) → All P ys
all-back P [] ys all = all
all-back P (x ∷ xs) ys all = all-back P xs ys (All-tail P x (xs ++ ys) all)

all-map : {X Y : Type 0} (P : Y → Type 0) (f : X → Y) (xs : List X) → All P (map f xs) → All (λ x. P (f x)) xs
all-map P f [] all = All-nil (λ x. P (f x))
all-map P f (x ∷ xs) all = All-cons (λ y. P (f y)) x xs (All-head P (f x) (map f xs) all) (all-map P f xs (All-tail P (f x) (map f xs) all))

declared_bits : (m : Module) → IsNamedApart m → All (λ n. net_bits m n.name ≡ bits_of_net (net_of n.name n.range)) m.nets
declared_bits m apart =
    let P : Net → Type 0 = λ n. net_bits m n.name ≡ bits_of_net n in
    all-map P (λ n. net_of n.name n.range) m.nets (all-front P (declared_nets m) (scalar_nets (implicit_nets m)) (all-back P (port_nets m) (declared_nets m ++ scalar_nets (implicit_nets m)) (own_bits m apart)))

constant_drives-are : (m : Module) (nets : List NetDecl) → All (λ n. net_bits m n.name ≡ bits_of_net (net_of n.name n.range)) nets
    → constant_drives nets ≡ flat_map (λ n. map (λ b. drive b constant) (net_bits m n.name)) (filter (λ n. n.constant) nets)
constant_drives-are m [] all = refl
constant_drives-are m (n ∷ nets) all =
    let here = All-head (λ x. net_bits m x.name ≡ bits_of_net (net_of x.name x.range)) n nets all in
    let rest = constant_drives-are m nets (All-tail (λ x. net_bits m x.name ≡ bits_of_net (net_of x.name x.range)) n nets all) in
    by_test n.constant
    (λ h. rw h (ap (λ bs. map (λ b. drive b constant) bs ++ constant_drives nets) (sym here) ∙ ap (λ ds. map (λ b. drive b constant) (net_bits m n.name) ++ ds) rest))
    (λ h. rw h rest)

abbrev pub constants_in : Module → List Drive
constants_in m = flat_map (λ n. map (λ b. drive b constant) (net_bits m n.name)) (filter (λ n. n.constant) m.nets)

pub IsDriven-constants : (m : Module) (first : ℕ) {s t : List Slot} {q r : List Ends} → IsNamedApart m → first ≡ length (directions m.ports)
    → t ≡ filled (constant_puts first m.nets) s → r ≡ counted (constant_puts first m.nets) q → IsDriven (all_bits m) (constants_in m) s t q r
IsDriven-constants m first {s} {t} {q} {r} apart is slots rows = record {
  puts = constant_puts first m.nets;
  named =
      ap (λ k. map (named (all_bits m)) (constant_puts k m.nets)) (is ∙ sym (length-own m))
      ∙ (constants_named (all_bits m) (named_port_bits (port_bits m)) m.nets (flat_map bits_of_net (scalar_nets (implicit_nets m))) (bits_split m apart)
      ∙ constant_drives-are m m.nets (declared_bits m apart));
  valid = constant_puts-valid (length (all_bits m)) first m.nets (omega (arith, bits_fit m apart, is));
  slots = slots;
  rows = rows;
}

-- ---- all drives
pub drives-are : (modules : List Module) (m : Module) → (input_drives 0 (port_bits m) ++ (constants_in m ++ instance_drives modules m 0 m.instances)) ++ flat_map (assign_drives m) m.assigns ≡ drives modules m
unfolding drives
drives-are modules m =
    append_assoc (input_drives 0 (port_bits m)) (constants_in m ++ instance_drives modules m 0 m.instances) (flat_map (assign_drives m) m.assigns)
    ∙ ap (λ ds. input_drives 0 (port_bits m) ++ ds) (append_assoc (constants_in m) (instance_drives modules m 0 m.instances) (flat_map (assign_drives m) m.assigns))

pub Counts-driven : {bits : List NetBit} {ds : List Drive} {s t : List Slot} {q r : List Ends} → AreApart bits → length q ≡ length bits → IsDriven bits ds s t q r → Counts bits ds q r
Counts-driven {bits} {ds} {s} {t} {q} {r} apart size driven =
    let counts = Counts-counted bits driven.puts q apart size driven.valid in
    Counts-same driven.named (subst (λ rows. Counts bits (map (named bits) driven.puts) q rows) (sym driven.rows) counts)

pub Holds-all : {bits : List NetBit} {ds es : List Drive} {s t u : List Slot} {q r : List Ends} → AreApart bits → length s ≡ length bits → ((k : ℕ) → slot_at s k ≡ Free)
    → IsDriven bits ds s t q r → IsFilled bits es t u → Holds bits (ds ++ es) u
Holds-all {bits} {ds} {es} {s} {t} {u} {q} {r} apart size free driven filled' =
    let puts = driven.puts ++ filled'.puts in
    let names : map (named bits) puts ≡ ds ++ es = map-append (named bits) driven.puts filled'.puts ∙ (ap (λ xs. xs ++ map (named bits) filled'.puts) driven.named ∙ ap (λ xs. ds ++ xs) filled'.named) in
    let slots : u ≡ filled puts s = filled'.slots ∙ (ap (filled filled'.puts) driven.slots ∙ sym (filled-append driven.puts filled'.puts s)) in
    let holds = Holds-filled bits puts s apart size free (All-append (IsPut (length bits)) driven.puts filled'.puts driven.valid filled'.valid) in
    subst (Holds bits (ds ++ es)) (sym slots) (subst (λ xs. Holds bits xs (filled puts s)) names holds)

-- ---- what is driven twice
find-none : {X : Type 0} (p : X → Bool) (d : X) (xs : List X) → ((k : ℕ) → k < length xs → p (get_or xs k d) ≡ false) → find p xs ≡ None
find-none p d [] none = refl
find-none p d (x ∷ xs) none = let here = none 0 (omega arith) in rw here (find-none p d xs (λ k within. none (suc k) (omega arith)))

find-some : {X : Type 0} (p : X → Bool) (d : X) (xs : List X) (n : ℕ) → n < length xs → p (get_or xs n d) ≡ true → ((k : ℕ) → k < n → p (get_or xs k d) ≡ false) → find p xs ≡ Some (get_or xs n d)
find-some p d [] n within holds none = absurd (omega (arith, within))
find-some p d (x ∷ xs) zero within holds none = rw holds refl
find-some p d (x ∷ xs) (suc n) within holds none = let here = none 0 (omega arith) in rw here (find-some p d xs n (omega (arith, within)) holds (λ k less. none (suc k) (omega arith)))

pub find-first : {X : Type 0} (p : X → Bool) (test : ℕ → Bool) (d : X) (xs : List X) (result : Option ℕ) → ((k : ℕ) → k < length xs → test k ≡ p (get_or xs k d)) → IsFirstOf test (length xs) result
    → find p xs ≡ option_map (λ n. get_or xs n d) result
find-first p test d xs None same first = find-none p d xs (λ k within. sym (same k within) ∙ first k within)
find-first p test d xs (Some n) same first = find-some p d xs n first.0 (sym (same n first.0) ∙ first.1) (λ k less. sym (same k (omega (arith, less, first.0))) ∙ first.2 k less)

behind-none : (n : ℕ) (rows : List Ends) (b : ℕ) → ((k : ℕ) → ends_at rows k ≡ record { last = 0; second = 0 }) → behind_in n rows b ≡ 0
behind-none zero rows b none = refl
behind-none (suc n) rows b none =
    let row : ends_behind (ends_at rows n) b ≡ 0 = ap (λ e. ends_behind e b) (none n) ∙ zero-behind b in
    omega (arith, behind-none n rows b none, row)
  where
    zero-behind : (k : ℕ) → ends_behind (record { last = 0; second = 0 }) k ≡ 0
    zero-behind k = grind (arith, nat_tests)

passing-none : (rows : List Ends) (b : ℕ) → ((k : ℕ) → ends_at rows k ≡ record { last = 0; second = 0 }) → passing rows b ≡ 0
unfolding passing
passing-none rows b none = ap (min 2) (behind-none (suc b) rows b none)

more_than_one : (old new d : ℕ) → old ≡ 0 → new ≡ min 2 (old + d) → nat_lt 1 new ≡ nat_lt 1 d
more_than_one old new d none is = grind (arith, nat_tests)

-- the first number of a bit that is driven twice gives the bit
pub twice-found : (modules : List Module) (m : Module) (old new : List Ends) (result : Option ℕ) → length old ≡ length (all_bits m) → AreOrdered old → ((k : ℕ) → ends_at old k ≡ record { last = 0; second = 0 })
    → Counts (all_bits m) (drives modules m) old new → IsFirstOf (λ b. nat_lt 1 (passing new b)) (length new) result
    → twice_driven modules m ≡ option_map (bit_at (all_bits m)) result
twice-found modules m old new result size ordered none counts first =
    let d : NetBit = record { net = []; bit = None } in
    let p : NetBit → Bool = λ b. nat_lt 1 (driving b (drives modules m)) in
    let length' : length new ≡ length (all_bits m) = counts.size ∙ size in
    find-first p (λ b. nat_lt 1 (passing new b)) d (all_bits m) result
    (λ k within. more_than_one (passing old k) (passing new k) (driving (bit_at (all_bits m) k) (drives modules m)) (passing-none old k none) (counts.counts ordered k within))
    (subst (λ n. IsFirstOf (λ b. nat_lt 1 (passing new b)) n result) length' first)

-- ---- wires
pub AreDrivers-pins : (most : ℕ) (bits : List NetBit) (ds : List Drive) (slots : List Slot) (pins : List (Option LocalPin)) → Holds bits ds slots → ArePinsOf most slots pins → AreDrivers (length bits) bits (driver most ds) pins
AreDrivers-pins most bits ds slots pins holds are = record {
  each = λ n within. let w : n < length slots = omega (arith, holds.size) in are.each n w ∙ sym (driver-number most bits ds slots are.next holds are.are n within);
}

pub own_wires : (m : Module) (follow : NetBit → Option LocalPin) (pins : List (Option LocalPin)) (own : List Joint) → IsNamedApart m → AreDrivers (length (all_bits m)) (all_bits m) follow pins → own ≡ own_joints 0 (directions m.ports)
    → filter_map (load_wire follow) (own_loads 0 (port_bits m)) ≡ pin_wires pins Output None 0 own
own_wires m follow pins own apart are is =
    let size : length (port_bits m) ≡ length (directions m.ports) = sym (length-map (port_bits m) (λ b. b.dir)) ∙ ap length (ports_directed m.ports) in
    own_loads-numbered (length (all_bits m)) (all_bits m) follow pins 0 (port_bits m) are (omega (arith, bits_fit m apart, size)) (own_numbers m apart)
    ∙ ap (λ ds. pin_wires pins Output None 0 (own_joints 0 ds)) (ports_directed m.ports) ∙ ap (pin_wires pins Output None 0) (sym is)

pub child_wires : (m : Module) (n : ℕ) (i : Instance) (child : Option Module) (follow : NetBit → Option LocalPin) (pins : List (Option LocalPin)) (pairs : List Joint) → AreDrivers (length (all_bits m)) (all_bits m) follow pins
    → IsJoined m i child pairs → filter_map (load_wire follow) (child_loads m n i child) ≡ pin_wires pins Input (Some n) 0 pairs
child_wires m n i None follow pins pairs are none = ap (pin_wires pins Input (Some n) 0) (sym none)
child_wires m n i (Some child) follow pins pairs are joined =
    ap (λ ns. filter_map (load_wire follow) (input_loads n 0 (port_bits child) ns)) (sym joined.are.named)
    ∙ (input_loads-numbered (length (all_bits m)) (all_bits m) follow pins n 0 (port_bits child) joined.numbers are joined.are.below
    ∙ ap (λ ds. pin_wires pins Input (Some n) 0 (joints ds joined.numbers)) (ports_directed child.ports) ∙ ap (pin_wires pins Input (Some n) 0) (sym joined.pairs))

instance_loads-append : (modules : List Module) (m : Module) (k : ℕ) (xs ys : List Instance) → instance_loads modules m k (xs ++ ys) ≡ instance_loads modules m k xs ++ instance_loads modules m (k + length xs) ys
instance_loads-append modules m k [] ys = let e : k + 0 ≡ k = omega arith in rw e refl
instance_loads-append modules m k (x ∷ xs) ys =
    let here = child_loads m k x (module_called modules x.«module») in
    let e : k + suc (length xs) ≡ suc k + length xs = omega arith in
    ap (λ ls. here ++ ls) (instance_loads-append modules m (suc k) xs ys)
    ∙ (sym (append_assoc here (instance_loads modules m (suc k) xs) (instance_loads modules m (suc k + length xs) ys))
    ∙ ap (λ n. (here ++ instance_loads modules m (suc k) xs) ++ instance_loads modules m n ys) (sym e))

-- the wires to the instances before one and to it
pub instance_wires-next : (modules : List Module) (m : Module) (follow : NetBit → Option LocalPin) (xs : List Instance) (i : ℕ) (x : Instance) (start before after here : List LocalWire) → i < length xs → x ≡ get_or xs i x
    → before ≡ start ++ filter_map (load_wire follow) (instance_loads modules m 0 (take i xs))
    → after ≡ before ++ here → filter_map (load_wire follow) (child_loads m i x (module_called modules x.«module»)) ≡ here
    → after ≡ start ++ filter_map (load_wire follow) (instance_loads modules m 0 (take (i + 1) xs))
instance_wires-next modules m follow xs i x start before after here within is so_far on is_here =
    let size : 0 + length (take i xs) ≡ i = omega (arith, length-take i xs) in
    let child = child_loads m i x (module_called modules x.«module») in
    let loads' : instance_loads modules m 0 (take (i + 1) xs) ≡ instance_loads modules m 0 (take i xs) ++ child
    = ap (instance_loads modules m 0) (take_one xs i x within is)
    ∙ (instance_loads-append modules m 0 (take i xs) (x ∷ [])
    ∙ (ap (λ n. instance_loads modules m 0 (take i xs) ++ instance_loads modules m n (x ∷ [])) size
    ∙ ap (λ ls. instance_loads modules m 0 (take i xs) ++ ls) (append-nil child))) in
    on ∙ (ap (λ ws. ws ++ here) so_far
    ∙ (append_assoc start (filter_map (load_wire follow) (instance_loads modules m 0 (take i xs))) here
    ∙ ap (λ ws. start ++ ws) (sym (ap (filter_map (load_wire follow)) loads' ∙ (filter_map-append (load_wire follow) (instance_loads modules m 0 (take i xs)) child ∙ ap (λ ws. filter_map (load_wire follow) (instance_loads modules m 0 (take i xs)) ++ ws) is_here)))))

pub local_wires-are : (most : ℕ) (modules : List Module) (m : Module) → filter_map (load_wire (driver most (drives modules m))) (own_loads 0 (port_bits m)) ++ filter_map (load_wire (driver most (drives modules m))) (instance_loads modules m 0 m.instances) ≡ local_wires most modules m
unfolding loads
local_wires-are most modules m = sym (filter_map-append (load_wire (driver most (drives modules m))) (own_loads 0 (port_bits m)) (instance_loads modules m 0 m.instances))
