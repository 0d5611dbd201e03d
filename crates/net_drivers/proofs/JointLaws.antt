-- Port bits by number drive and hang on what they do by name.
use Rattle.std.proofs.Common.{◌≡◌, ℕ, zero, suc, ◌+◌, ◌<◌, Bool, true, false, List, [], ◌∷◌, ◌++◌, length, map, slice_index_or, Option, Some, None, All, ◌≤◌, refl, sym, ◌∙◌, ap, subst, arith, append_assoc}
use Rattle.std.specs.Option.{option_map}
use Rattle.std.specs.List.{range_with_len, filter_map, cons_option}
use Rattle.std.proofs.lemmas.List.Elements.{All-head, All-tail}
use Rattle.bud_design.specs.Designs.{is_input, is_output}
use Rattle.bud_syntax.specs.declared.modules.Dir.{Dir}
use Rattle.bud_syntax.specs.declared.modules.Dir.TheVariants.{Input, Output, Inout}
use Rattle.module_nets.specs.Nets.{NetBit, PortBit, bit_of}
use Rattle.net_drivers.specs.declared.pins.LocalPin.{LocalPin}
use Rattle.net_drivers.specs.declared.pins.LocalWire.{LocalWire}
use Rattle.net_drivers.specs.declared.slots.Slot.{Slot}
use Rattle.net_drivers.specs.declared.slots.Slot.TheVariants.{Free, Pin, Constant, Assigned}
use Rattle.net_drivers.specs.Drivers.{Source, pin, constant, assigned, Drive, drive, drive_if, input_drives, output_drives, pair_drives, local_pin, Load, load_if, own_loads, input_loads}
use Rattle.net_drivers.specs.Slots.{Put, put_if, pin_puts, assigned_puts, is_dir, IsBelow}
use Rattle.net_drivers.specs.Joints.{own_joints, joints}
use Rattle.net_drivers.specs.Numbering.{bit_at, named}
use Rattle.net_drivers.specs.Wirings.{AreDrivers, load_wire}
use Rattle.net_drivers.specs.Wires.{wire_to, wire_if, pin_wires}

abbrev pub dirs_of : List PortBit → List Dir
dirs_of bs = map (λ b. b.dir) bs

-- numbers stand for these bits
abbrev pub named_bits : List NetBit → List (Option ℕ) → List (Option NetBit)
named_bits bits ns = map (λ n. option_map (bit_at bits) n) ns

map-append : {X Y : Type 0} (f : X → Y) (xs ys : List X) → map f (xs ++ ys) ≡ map f xs ++ map f ys
map-append f [] ys = refl
map-append f (x ∷ xs) ys = ap (λ zs. f x ∷ zs) (map-append f xs ys)

named-put_if : (bits : List NetBit) (drives : Bool) (n : Option ℕ) (p : LocalPin) → map (named bits) (put_if drives n (Pin p)) ≡ drive_if drives (option_map (bit_at bits) n) (pin p)
named-put_if bits false n p = refl
named-put_if bits true None p = refl
named-put_if bits true (Some n) p = refl

named-assigned_if : (bits : List NetBit) (l r : Option ℕ) → map (named bits) (put_if true l (Assigned r)) ≡ drive_if true (option_map (bit_at bits) l) (assigned (option_map (bit_at bits) r))
named-assigned_if bits None r = refl
named-assigned_if bits (Some l) None = refl
named-assigned_if bits (Some l) (Some r) = refl

pub pair_drives-numbered : (bits : List NetBit) (ls rs : List (Option ℕ)) → map (named bits) (assigned_puts ls rs) ≡ pair_drives (named_bits bits ls) (named_bits bits rs)
pair_drives-numbered bits [] rs = refl
pair_drives-numbered bits (l ∷ ls) [] = refl
pair_drives-numbered bits (l ∷ ls) (r ∷ rs) =
    map-append (named bits) (put_if true l (Assigned r)) (assigned_puts ls rs)
    ∙ (ap (λ ds. ds ++ map (named bits) (assigned_puts ls rs)) (named-assigned_if bits l r)
    ∙ ap (λ ds. drive_if true (option_map (bit_at bits) l) (assigned (option_map (bit_at bits) r)) ++ ds) (pair_drives-numbered bits ls rs))

pub output_drives-numbered : (bits : List NetBit) (i k : ℕ) (bs : List PortBit) (ns : List (Option ℕ)) → map (named bits) (pin_puts Output (Some i) k (joints (dirs_of bs) ns)) ≡ output_drives i k bs (named_bits bits ns)
output_drives-numbered bits i k [] ns = refl
output_drives-numbered bits i k (b ∷ bs) [] = refl
output_drives-numbered bits i k (b ∷ bs) (n ∷ ns) =
    let here = put_if (is_output b.dir) n (Pin (local_pin (Some i) k)) in
    let rest = pin_puts Output (Some i) (suc k) (joints (dirs_of bs) ns) in
    map-append (named bits) here rest
    ∙ (ap (λ ds. ds ++ map (named bits) rest) (named-put_if bits (is_output b.dir) n (local_pin (Some i) k))
    ∙ ap (λ ds. drive_if (is_output b.dir) (option_map (bit_at bits) n) (pin (local_pin (Some i) k)) ++ ds) (output_drives-numbered bits i (suc k) bs ns))

-- the port bits of a module by name
abbrev pub own_bits : List PortBit → List NetBit
own_bits bs = map (λ b. bit_of b.port b.bit) bs

pub input_drives-numbered : (bits : List NetBit) (k : ℕ) (bs : List PortBit) → own_bits bs ≡ map (bit_at bits) (range_with_len k (length bs))
    → map (named bits) (pin_puts Input None k (own_joints k (dirs_of bs))) ≡ input_drives k bs
input_drives-numbered bits k [] own = refl
input_drives-numbered bits k (b ∷ bs) own =
    let here = put_if (is_input b.dir) (Some k) (Pin (local_pin None k)) in
    let rest = pin_puts Input None (suc k) (own_joints (suc k) (dirs_of bs)) in
    let first : bit_at bits k ≡ bit_of b.port b.bit = cc in
    let others : own_bits bs ≡ map (bit_at bits) (range_with_len (k + 1) (length bs)) = cc in
    let others' : own_bits bs ≡ map (bit_at bits) (range_with_len (suc k) (length bs)) = let e : k + 1 ≡ suc k = omega arith in subst (λ j. own_bits bs ≡ map (bit_at bits) (range_with_len j (length bs))) e others in
    map-append (named bits) here rest
    ∙ (ap (λ ds. ds ++ map (named bits) rest) (named-put_if bits (is_input b.dir) (Some k) (local_pin None k) ∙ ap (λ x. drive_if (is_input b.dir) (Some x) (pin (local_pin None k))) first)
    ∙ ap (λ ds. drive_if (is_input b.dir) (Some (bit_of b.port b.bit)) (pin (local_pin None k)) ++ ds) (input_drives-numbered bits (suc k) bs others'))

wire-cons : (to : LocalPin) (from : Option LocalPin) (rest : List LocalWire) → cons_option (option_map (λ p. record { from = p; to = to }) from) rest ≡ wire_to to from ++ rest
wire-cons to None rest = refl
wire-cons to (Some p) rest = refl

wire-load : (count : ℕ) (bits : List NetBit) (follow : NetBit → Option LocalPin) (pins : List (Option LocalPin)) (hangs : Bool) (to : LocalPin) (n : Option ℕ) (rest : List Load)
    → AreDrivers count bits follow pins → IsBelow count n
    → filter_map (load_wire follow) (load_if hangs to (option_map (bit_at bits) n) ++ rest) ≡ wire_if hangs to pins n ++ filter_map (load_wire follow) rest
wire-load count bits follow pins false to n rest are below = refl
wire-load count bits follow pins true to None rest are below = refl
wire-load count bits follow pins true to (Some n) rest are below =
    wire-cons to (follow (bit_at bits n)) (filter_map (load_wire follow) rest) ∙ ap (λ from. wire_to to from ++ filter_map (load_wire follow) rest) (sym (are.each n below))

pub own_loads-numbered : (count : ℕ) (bits : List NetBit) (follow : NetBit → Option LocalPin) (pins : List (Option LocalPin)) (k : ℕ) (bs : List PortBit) → AreDrivers count bits follow pins
    → k + length bs ≤ count → own_bits bs ≡ map (bit_at bits) (range_with_len k (length bs))
    → filter_map (load_wire follow) (own_loads k bs) ≡ pin_wires pins Output None k (own_joints k (dirs_of bs))
own_loads-numbered count bits follow pins k [] are fits own = refl
own_loads-numbered count bits follow pins k (b ∷ bs) are fits own =
    let first : bit_of b.port b.bit ≡ bit_at bits k = cc in
    let others : own_bits bs ≡ map (bit_at bits) (range_with_len (k + 1) (length bs)) = cc in
    let others' : own_bits bs ≡ map (bit_at bits) (range_with_len (suc k) (length bs)) = let e : k + 1 ≡ suc k = omega arith in subst (λ j. own_bits bs ≡ map (bit_at bits) (range_with_len j (length bs))) e others in
    ap (λ x. filter_map (load_wire follow) (load_if (is_output b.dir) (local_pin None k) (Some x) ++ own_loads (suc k) bs)) first
    ∙ (wire-load count bits follow pins (is_output b.dir) (local_pin None k) (Some k) (own_loads (suc k) bs) are (omega arith)
    ∙ ap (λ ws. wire_if (is_output b.dir) (local_pin None k) pins (Some k) ++ ws) (own_loads-numbered count bits follow pins (suc k) bs are (omega arith) others'))

pub input_loads-numbered : (count : ℕ) (bits : List NetBit) (follow : NetBit → Option LocalPin) (pins : List (Option LocalPin)) (i k : ℕ) (bs : List PortBit) (ns : List (Option ℕ)) → AreDrivers count bits follow pins
    → All (IsBelow count) ns
    → filter_map (load_wire follow) (input_loads i k bs (named_bits bits ns)) ≡ pin_wires pins Input (Some i) k (joints (dirs_of bs) ns)
input_loads-numbered count bits follow pins i k [] ns are below = refl
input_loads-numbered count bits follow pins i k (b ∷ bs) [] are below = refl
input_loads-numbered count bits follow pins i k (b ∷ bs) (n ∷ ns) are below =
    wire-load count bits follow pins (is_input b.dir) (local_pin (Some i) k) n (input_loads i (suc k) bs (named_bits bits ns)) are (All-head (IsBelow count) n ns below)
    ∙ ap (λ ws. wire_if (is_input b.dir) (local_pin (Some i) k) pins n ++ ws) (input_loads-numbered count bits follow pins i (suc k) bs ns are (All-tail (IsBelow count) n ns below))
