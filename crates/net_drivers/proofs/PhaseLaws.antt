-- What is driven by instances, step by step.
use Rattle.std.proofs.Common.{◌≡◌, ℕ, zero, suc, ◌+◌, ◌^◌, ◌<◌, ◌≤◌, cond, Bool, true, false, List, [], ◌∷◌, ◌++◌, get_or, length, map, take, Option, Some, None, All, refl, sym, ap, ◌∙◌, subst, arith, append_assoc}
use Rattle.std.proofs.lemmas.List.{append-nil, length-take, map-append}
use Rattle.std.proofs.lemmas.List.Elements.{All-nil, All-cons, All-head, All-tail, All-append}
use Rattle.bud_design.specs.Designs.{is_output}
use Rattle.bud_syntax.specs.declared.modules.Dir.{Dir}
use Rattle.bud_syntax.specs.declared.modules.Dir.TheVariants.{Input, Output}
use Rattle.bud_syntax.specs.declared.modules.Instance.{Instance}
use Rattle.bud_syntax.specs.declared.modules.Module.{Module}
use Rattle.bud_syntax.specs.declared.modules.NetDecl.{NetDecl}
use Rattle.module_nets.specs.Nets.{NetBit, all_bits, port_bits, joined_bits, module_called}
use Rattle.module_nets.specs.Numbers.{range_width}
use Rattle.module_nets.proofs.ListSteps.{take_one}
use Rattle.net_drivers.specs.declared.covers.Ends.{Ends}
use Rattle.net_drivers.specs.declared.pins.LocalPin.{LocalPin}
use Rattle.net_drivers.specs.declared.slots.Slot.{Slot}
use Rattle.net_drivers.specs.declared.slots.Slot.TheVariants.{Pin, Constant, Assigned}
use Rattle.net_drivers.specs.declared.slots.Joint.{Joint}
use Rattle.net_drivers.specs.Drivers.{Drive, child_drives, instance_drives, output_drives, local_pin}
use Rattle.net_drivers.specs.Joints.{directions, own_joints, joints}
use Rattle.net_drivers.specs.Joins.{AreJoints, IsJoined, IsSmallChild}
use Rattle.net_drivers.specs.Numbering.{bit_at, named, IsPut}
use Rattle.net_drivers.specs.Phases.{IsDriven, IsFilled}
use Rattle.net_drivers.specs.Slots.{Put, put_if, pin_puts, constant_bits, net_puts, constant_puts, assigned_puts, widths, is_dir, IsBelow, BitsWithin, filled, counted}
use Rattle.net_drivers.proofs.JointLaws.{dirs_of, named_bits, output_drives-numbered}
use Rattle.net_drivers.proofs.OwnLaws.{ports_directed}
use Rattle.net_drivers.proofs.SlotSteps.{filled-append, counted-append}

pub IsDriven-none : (bits : List NetBit) (slots : List Slot) (rows : List Ends) → IsDriven bits [] slots slots rows rows
IsDriven-none bits slots rows = record { puts = []; named = refl; valid = All-nil (IsPut (length bits)); slots = refl; rows = refl }

pub IsDriven-both : {bits : List NetBit} {ds es : List Drive} {s t u : List Slot} {q r v : List Ends} → IsDriven bits ds s t q r → IsDriven bits es t u r v → IsDriven bits (ds ++ es) s u q v
IsDriven-both {bits} {ds} {es} {s} {t} {u} {q} {r} {v} first second = record {
  puts = first.puts ++ second.puts;
  named = map-append (named bits) first.puts second.puts ∙ (ap (λ xs. xs ++ map (named bits) second.puts) first.named ∙ ap (λ xs. ds ++ xs) second.named);
  valid = All-append (IsPut (length bits)) first.puts second.puts first.valid second.valid;
  slots = second.slots ∙ (ap (filled second.puts) first.slots ∙ sym (filled-append first.puts second.puts s));
  rows = second.rows ∙ (ap (counted second.puts) first.rows ∙ sym (counted-append first.puts second.puts q));
}

pub IsDriven-same : {bits : List NetBit} {ds es : List Drive} {s t : List Slot} {q r : List Ends} → ds ≡ es → IsDriven bits ds s t q r → IsDriven bits es s t q r
IsDriven-same {bits} {ds} {es} {s} {t} {q} {r} same driven = subst (λ xs. IsDriven bits xs s t q r) same driven

put_if-valid : (count : ℕ) (drives : Bool) (n : Option ℕ) (p : LocalPin) → IsBelow count n → All (IsPut count) (put_if drives n (Pin p))
put_if-valid count false n p below = All-nil (IsPut count)
put_if-valid count true None p below = All-nil (IsPut count)
put_if-valid count true (Some n) p below = All-cons (IsPut count) (record { bit = n; slot = Pin p }) [] (record { bit = below; taken = tt; slot = tt }) (All-nil (IsPut count))

pub pin_puts-valid : (count : ℕ) (meant : Dir) (instance : Option ℕ) (k : ℕ) (js : List Joint) → BitsWithin count js → All (IsPut count) (pin_puts meant instance k js)
pin_puts-valid count meant instance k [] within = All-nil (IsPut count)
pin_puts-valid count meant instance k (j ∷ js) within =
    All-append (IsPut count) (put_if (is_dir meant j.dir) j.bit (Pin (local_pin instance k))) (pin_puts meant instance (suc k) js)
    (put_if-valid count (is_dir meant j.dir) j.bit (local_pin instance k) (All-head (λ i. IsBelow count i.bit) j js within))
    (pin_puts-valid count meant instance (suc k) js (All-tail (λ i. IsBelow count i.bit) j js within))

pub joints-within : (count : ℕ) (dirs : List Dir) (numbers : List (Option ℕ)) → All (IsBelow count) numbers → BitsWithin count (joints dirs numbers)
joints-within count [] numbers below = All-nil (λ i. IsBelow count i.bit)
joints-within count (d ∷ ds) [] below = All-nil (λ i. IsBelow count i.bit)
joints-within count (d ∷ ds) (n ∷ ns) below =
    All-cons (λ i. IsBelow count i.bit) (record { dir = d; bit = n }) (joints ds ns) (All-head (IsBelow count) n ns below) (joints-within count ds ns (All-tail (IsBelow count) n ns below))

pub own-within : (count k : ℕ) (dirs : List Dir) → k + length dirs ≤ count → BitsWithin count (own_joints k dirs)
own-within count k [] fits = All-nil (λ i. IsBelow count i.bit)
own-within count k (d ∷ ds) fits = All-cons (λ i. IsBelow count i.bit) (record { dir = d; bit = Some k }) (own_joints (suc k) ds) (omega arith) (own-within count (suc k) ds (omega arith))

pub length-joints : (dirs : List Dir) (numbers : List (Option ℕ)) → length (joints dirs numbers) ≤ length dirs
length-joints [] numbers = omega arith
length-joints (d ∷ ds) [] = omega arith
length-joints (d ∷ ds) (n ∷ ns) = omega (arith, length-joints ds ns)

pub length-own_joints : (k : ℕ) (dirs : List Dir) → length (own_joints k dirs) ≡ length dirs
length-own_joints k [] = refl
length-own_joints k (d ∷ ds) = ap suc (length-own_joints (suc k) ds)

constant_bits-valid : (count first width : ℕ) → first + width ≤ count → All (IsPut count) (constant_bits first width)
constant_bits-valid count first zero fits = All-nil (IsPut count)
constant_bits-valid count first (suc width) fits = All-cons (IsPut count) (record { bit = first; slot = Constant }) (constant_bits (first + 1) width) (record { bit = omega arith; taken = tt; slot = tt }) (constant_bits-valid count (first + 1) width (omega arith))

net_puts-valid : (count first : ℕ) (n : NetDecl) (constant : Bool) → first + range_width n.range ≤ count → All (IsPut count) (cond constant (constant_bits first (range_width n.range)) [])
net_puts-valid count first n true fits = constant_bits-valid count first (range_width n.range) fits
net_puts-valid count first n false fits = All-nil (IsPut count)

pub constant_puts-valid : (count first : ℕ) (nets : List NetDecl) → first + widths nets ≤ count → All (IsPut count) (constant_puts first nets)
constant_puts-valid count first [] fits = All-nil (IsPut count)
constant_puts-valid count first (n ∷ ns) fits =
    All-append (IsPut count) (net_puts first n) (constant_puts (first + range_width n.range) ns)
    (net_puts-valid count first n n.constant (omega arith))
    (constant_puts-valid count (first + range_width n.range) ns (omega arith))

-- the port bits of an instance are joined to bits of the module
pub joined-within : (m : Module) (i : Instance) (child : Option Module) (pairs : List Joint) → IsJoined m i child pairs → BitsWithin (length (all_bits m)) pairs
joined-within m i None pairs none = subst (BitsWithin (length (all_bits m))) (sym none) (All-nil (λ j. IsBelow (length (all_bits m)) j.bit))
joined-within m i (Some child) pairs are = subst (BitsWithin (length (all_bits m))) (sym are.pairs) (joints-within (length (all_bits m)) (directions child.ports) are.numbers are.are.below)

pub joined-small : (m : Module) (i : Instance) (child : Option Module) (pairs : List Joint) → IsSmallChild child → IsJoined m i child pairs → length pairs < 2 ^ 32
joined-small m i None pairs small none = let e : length pairs ≡ 0 = ap length none in omega (arith, e)
joined-small m i (Some child) pairs small are = omega (arith, ap length are.pairs, length-joints (directions child.ports) are.numbers, small)

child-named : (m : Module) (n : ℕ) (i : Instance) (child : Option Module) (pairs : List Joint) → IsJoined m i child pairs → map (named (all_bits m)) (pin_puts Output (Some n) 0 pairs) ≡ child_drives m n i child
child-named m n i None pairs none = ap (λ js. map (named (all_bits m)) (pin_puts Output (Some n) 0 js)) none
child-named m n i (Some child) pairs are =
    ap (λ js. map (named (all_bits m)) (pin_puts Output (Some n) 0 js)) (are.pairs ∙ ap (λ ds. joints ds are.numbers) (sym (ports_directed child.ports)))
    ∙ (output_drives-numbered (all_bits m) n 0 (port_bits child) are.numbers ∙ ap (output_drives n 0 (port_bits child)) are.are.named)

pub IsDriven-child : (m : Module) (n : ℕ) (i : Instance) (child : Option Module) (pairs : List Joint) {s t : List Slot} {q r : List Ends} → IsJoined m i child pairs
    → t ≡ filled (pin_puts Output (Some n) 0 pairs) s → r ≡ counted (pin_puts Output (Some n) 0 pairs) q → IsDriven (all_bits m) (child_drives m n i child) s t q r
IsDriven-child m n i child pairs {s} {t} {q} {r} joined slots rows = record {
  puts = pin_puts Output (Some n) 0 pairs;
  named = child-named m n i child pairs joined;
  valid = pin_puts-valid (length (all_bits m)) Output (Some n) 0 pairs (joined-within m i child pairs joined);
  slots = slots;
  rows = rows;
}

instance_drives-append : (modules : List Module) (m : Module) (k : ℕ) (xs ys : List Instance) → instance_drives modules m k (xs ++ ys) ≡ instance_drives modules m k xs ++ instance_drives modules m (k + length xs) ys
instance_drives-append modules m k [] ys = let e : k + 0 ≡ k = omega arith in rw e refl
instance_drives-append modules m k (x ∷ xs) ys =
    let here = child_drives m k x (module_called modules x.«module») in
    let e : k + suc (length xs) ≡ suc k + length xs = omega arith in
    ap (λ ds. here ++ ds) (instance_drives-append modules m (suc k) xs ys)
    ∙ (sym (append_assoc here (instance_drives modules m (suc k) xs) (instance_drives modules m (suc k + length xs) ys))
    ∙ ap (λ n. (here ++ instance_drives modules m (suc k) xs) ++ instance_drives modules m n ys) (sym e))

pub instances-next : (modules : List Module) (m : Module) (xs : List Instance) (i : ℕ) (x : Instance) → i < length xs → x ≡ get_or xs i x
    → instance_drives modules m 0 (take i xs) ++ child_drives m i x (module_called modules x.«module») ≡ instance_drives modules m 0 (take (i + 1) xs)
instances-next modules m xs i x within is =
    let size : 0 + length (take i xs) ≡ i = omega (arith, length-take i xs) in
    sym (ap (instance_drives modules m 0) (take_one xs i x within is)
    ∙ (instance_drives-append modules m 0 (take i xs) (x ∷ [])
    ∙ (ap (λ n. instance_drives modules m 0 (take i xs) ++ instance_drives modules m n (x ∷ [])) size
    ∙ ap (λ ds. instance_drives modules m 0 (take i xs) ++ ds) (append-nil (child_drives m i x (module_called modules x.«module»))))))
