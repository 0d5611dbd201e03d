-- What is driven by number is what is driven by name.
use Rattle.std.proofs.Common.{◌≡◌, ℕ, zero, suc, ◌+◌, ◌-◌, ◌<◌, ◌≤◌, ◌==◌, Bool, true, false, cond, List, [], ◌∷◌, ◌++◌, length, map, find, get_or, slice_index, Option, Some, None, All, refl, sym, ◌∙◌, ap, subst, arith, ⊎_elim}
use Rattle.std.proofs.lemmas.Grind.{common_steps, get_or-set_at}
use Rattle.std.proofs.lemmas.Bool.{cases_lt, cases_eq, cases_Bool}
use Rattle.std.proofs.lemmas.Bool.Decides.{nat_tests}
use Rattle.std.proofs.lemmas.List.{get_or-set_other}
use Rattle.std.proofs.Math.ListN.{set, length-set}
use Rattle.std.proofs.lemmas.List.Elements.{All-head, All-tail}
use Rattle.std.specs.Option.{option_or, option_map}
use Rattle.module_nets.specs.Nets.{NetBit, same_bit}
use Rattle.net_drivers.specs.declared.pins.LocalPin.{LocalPin}
use Rattle.net_drivers.specs.declared.slots.Slot.{Slot}
use Rattle.net_drivers.specs.declared.slots.Slot.TheVariants.{Free, Pin, Constant, Assigned}
use Rattle.net_drivers.specs.Chains.{steps, StayWithin, IsFollowed}
use Rattle.net_drivers.specs.Drivers.{Source, pin, constant, assigned, Drive, drive, source_of, through, driver}
use Rattle.net_drivers.specs.Slots.{Put, IsBelow, is_free, slot_at, put, filled}
use Rattle.net_drivers.specs.Numbering.{bit_at, AreApart, source_at, or_constant, named, IsSlotBelow, IsTaken, IsPut, Holds, pin_in, step_from, AreSteps, AreSlotsBelow, ArePinsAt, ArePinsOf}
use Rattle.net_drivers.proofs.ChainLemmas.{StayWithin-followed}

pub length-put : (n : ℕ) (slot : Slot) (slots : List Slot) → length (put n slot slots) ≡ length slots
length-put n slot slots = elim (is_free (slot_at slots n)) as (λ free. length (cond free (set slots n slot) slots) ≡ length slots) [ true ↦ length-set slots n slot | false ↦ refl ]

pub source_of-cons : (d : Drive) (ds : List Drive) (b : NetBit) → source_of (d ∷ ds) b ≡ cond (same_bit d.bit b) (Some d.source) (source_of ds b)
source_of-cons d ds b =
    elim (same_bit d.bit b) as (λ same. option_map (λ x. x.source) (cond same (Some d) (find (λ x. same_bit x.bit b) ds)) ≡ cond same (Some d.source) (option_map (λ x. x.source) (find (λ x. same_bit x.bit b) ds)))
    [ true ↦ refl | false ↦ refl ]

option_or-none : {X : Type 0} (x : Option X) → x ≡ option_or x None
option_or-none None = refl
option_or-none (Some x) = refl

same-number : (i j : ℕ) → i ≡ j → (i == j) ≡ true
same-number i j e = grind (arith, nat_tests)

other-number : (i j : ℕ) → (i ≡ j → ⊥) → (i == j) ≡ false
other-number i j other = grind (arith, nat_tests)

source-taken : (bits : List NetBit) (slot : Slot) → IsTaken slot → source_at bits slot ≡ Some (or_constant (source_at bits slot))
source-taken bits Free taken = absurd taken
source-taken bits (Pin p) taken = refl
source-taken bits Constant taken = refl
source-taken bits (Assigned None) taken = refl
source-taken bits (Assigned (Some n)) taken = refl

source-free : (bits : List NetBit) (slot : Slot) → is_free slot ≡ true → source_at bits slot ≡ None
source-free bits Free free = refl
source-free bits (Pin p) free = cc
source-free bits Constant free = cc
source-free bits (Assigned n) free = cc

source-kept : (bits : List NetBit) (slot : Slot) (other : Option Source) → is_free slot ≡ false → option_or (source_at bits slot) other ≡ source_at bits slot
source-kept bits Free other free = cc
source-kept bits (Pin p) other free = refl
source-kept bits Constant other free = refl
source-kept bits (Assigned None) other free = refl
source-kept bits (Assigned (Some n)) other free = refl

slot-put_other : (n k : ℕ) (slot : Slot) (slots : List Slot) → (k ≡ n → ⊥) → slot_at (put n slot slots) k ≡ slot_at slots k
slot-put_other n k slot slots other = elim (is_free (slot_at slots n)) as (λ free. slot_at (cond free (set slots n slot) slots) k ≡ slot_at slots k) [ true ↦ get_or-set_other slots n k slot Free other | false ↦ refl ]

slot-put_here : (n : ℕ) (slot : Slot) (slots : List Slot) → n < length slots → slot_at (put n slot slots) n ≡ cond (is_free (slot_at slots n)) slot (slot_at slots n)
slot-put_here n slot slots within = elim (is_free (slot_at slots n)) as (λ free. slot_at (cond free (set slots n slot) slots) n ≡ cond free slot (slot_at slots n)) [ true ↦ get_or-set_at slots n n slot Free refl within | false ↦ refl ]

source-put_here : (bits : List NetBit) (n : ℕ) (slot : Slot) (slots : List Slot) (other : Option Source) → n < length slots → IsTaken slot
    → option_or (source_at bits (slot_at (put n slot slots) n)) other ≡ option_or (source_at bits (slot_at slots n)) (Some (or_constant (source_at bits slot)))
source-put_here bits n slot slots other within taken =
    rw (slot-put_here n slot slots within)
    (⊎_elim
    (λ free. rw free (rw (source-free bits (slot_at slots n) free, source-taken bits slot taken) refl))
    (λ held. rw held (source-kept bits (slot_at slots n) other held ∙ sym (source-kept bits (slot_at slots n) _ held)))
    (cases_Bool (is_free (slot_at slots n))))

pub filled-source : (bits : List NetBit) (ps : List Put) (slots : List Slot) (k : ℕ) → AreApart bits → length slots ≡ length bits → All (IsPut (length bits)) ps → k < length bits
    → source_at bits (slot_at (filled ps slots) k) ≡ option_or (source_at bits (slot_at slots k)) (source_of (map (named bits) ps) (bit_at bits k))
filled-source bits [] slots k apart size puts within = option_or-none (source_at bits (slot_at slots k))
filled-source bits (p ∷ ps) slots k apart size puts within =
    let here = All-head (IsPut (length bits)) p ps puts in
    let after = put p.bit p.slot slots in
    let rest = source_of (map (named bits) ps) (bit_at bits k) in
    let source : Source = or_constant (source_at bits p.slot) in
    let on = filled-source bits ps after k apart (length-put p.bit p.slot slots ∙ size) (All-tail (IsPut (length bits)) p ps puts) within in
    let first : source_of (named bits p ∷ map (named bits) ps) (bit_at bits k) ≡ cond (p.bit == k) (Some source) rest
    = source_of-cons (named bits p) (map (named bits) ps) (bit_at bits k) ∙ ap (λ same. cond same (Some source) rest) (apart.apart p.bit k here.bit within) in
    let within' : p.bit < length slots = omega (arith, here.bit) in
    on ∙ ⊎_elim
    (λ same.
    let put' : option_or (source_at bits (slot_at after k)) rest ≡ option_or (source_at bits (slot_at slots k)) (Some source)
    = subst (λ j. option_or (source_at bits (slot_at after j)) rest ≡ option_or (source_at bits (slot_at slots j)) (Some source)) same (source-put_here bits p.bit p.slot slots rest within' here.taken) in
    put' ∙ ap (option_or (source_at bits (slot_at slots k))) (sym (first ∙ ap (λ same. cond same (Some source) rest) (same-number p.bit k same))))
    (λ other.
    ap (λ slot. option_or (source_at bits slot) rest) (slot-put_other p.bit k p.slot slots (λ e. other (sym e)))
    ∙ ap (option_or (source_at bits (slot_at slots k))) (sym (first ∙ ap (λ same. cond same (Some source) rest) (other-number p.bit k other))))
    (cases_eq p.bit k)

pub length-filled : (ps : List Put) (slots : List Slot) → length (filled ps slots) ≡ length slots
length-filled [] slots = refl
length-filled (p ∷ ps) slots = length-filled ps (put p.bit p.slot slots) ∙ length-put p.bit p.slot slots

put-below : (count n k : ℕ) (slot : Slot) (slots : List Slot) → n < length slots → IsSlotBelow count slot → IsSlotBelow count (slot_at slots k) → IsSlotBelow count (slot_at (put n slot slots) k)
put-below count n k slot slots within below rest =
    ⊎_elim
    (λ here.
    subst (λ j. IsSlotBelow count (slot_at (put n slot slots) j)) (sym here)
    (subst (IsSlotBelow count) (sym (slot-put_here n slot slots within))
    (elim (is_free (slot_at slots n)) as (λ free. IsSlotBelow count (cond free slot (slot_at slots n))) [ true ↦ below | false ↦ subst (λ j. IsSlotBelow count (slot_at slots j)) here rest ])))
    (λ other. subst (IsSlotBelow count) (sym (slot-put_other n k slot slots other)) rest)
    (cases_eq k n)

pub filled-below : (bits : List NetBit) (ps : List Put) (slots : List Slot) (k : ℕ) → length slots ≡ length bits → All (IsPut (length bits)) ps → IsSlotBelow (length bits) (slot_at slots k) → IsSlotBelow (length bits) (slot_at (filled ps slots) k)
filled-below bits [] slots k size puts below = below
filled-below bits (p ∷ ps) slots k size puts below =
    let here = All-head (IsPut (length bits)) p ps puts in
    filled-below bits ps (put p.bit p.slot slots) k (length-put p.bit p.slot slots ∙ size) (All-tail (IsPut (length bits)) p ps puts)
    (put-below (length bits) p.bit k p.slot slots (omega (arith, here.bit)) here.slot below)

-- slots that were free hold what drives each bit first
pub Holds-filled : (bits : List NetBit) (ps : List Put) (slots : List Slot) → AreApart bits → length slots ≡ length bits → ((k : ℕ) → slot_at slots k ≡ Free) → All (IsPut (length bits)) ps → Holds bits (map (named bits) ps) (filled ps slots)
Holds-filled bits ps slots apart size free puts = record {
  size = length-filled ps slots ∙ size;
  sources = λ k within. filled-source bits ps slots k apart size puts within ∙ ap (λ slot. option_or (source_at bits slot) (source_of (map (named bits) ps) (bit_at bits k))) (free k);
  below = λ k. filled-below bits ps slots k size puts (subst (IsSlotBelow (length bits)) (sym (free k)) tt);
}

-- a bit from which no step leads on stays
steps-stay : (n : ℕ) (next : List ℕ) (k : ℕ) → slice_index next k ≡ k → steps n next k ≡ k
unfolding steps
steps-stay zero next k stays = refl
steps-stay (suc n) next k stays = ap (steps n next) stays ∙ steps-stay n next k stays

pub AreSteps-within : {slots : List Slot} {next : List ℕ} → ((k : ℕ) → IsSlotBelow (length slots) (slot_at slots k)) → AreSteps slots next → StayWithin next
AreSteps-within {slots} {next} below are = record {
  each = λ k within.
      let w : k < length slots = omega (arith, are.size) in
      let e = are.each k w in
      let s : step_from k (slot_at slots k) < length slots = step-within k (slot_at slots k) w (below k) in
      omega (arith, e, s, are.size);
}
  where
    step-within : (k : ℕ) (slot : Slot) → k < length slots → IsSlotBelow (length slots) slot → step_from k slot < length slots
    step-within k Free within below = within
    step-within k (Pin p) within below = within
    step-within k Constant within below = within
    step-within k (Assigned None) within below = within
    step-within k (Assigned (Some n)) within below = below

pin-stays : (n : ℕ) (slots : List Slot) (next : List ℕ) (k : ℕ) (slot : Slot) → slice_index next k ≡ k → slot ≡ slot_at slots k → pin_in slot ≡ pin_in (slot_at slots (steps n next k))
pin-stays n slots next k slot stays is = ap pin_in is ∙ ap (λ j. pin_in (slot_at slots j)) (sym (steps-stay n next k stays))

driver-step : (n : ℕ) (bits : List NetBit) (slots : List Slot) (next : List ℕ) (k : ℕ) (slot : Slot) (follow : NetBit → Option LocalPin)
    → ((j : ℕ) → j < length bits → follow (bit_at bits j) ≡ pin_in (slot_at slots (steps n next j)))
    → IsSlotBelow (length bits) slot → slice_index next k ≡ step_from k slot → slot ≡ slot_at slots k
    → through follow (source_at bits slot) ≡ pin_in (slot_at slots (steps n next (step_from k slot)))
driver-step n bits slots next k Free follow followed below on is = pin-stays n slots next k Free on is
driver-step n bits slots next k (Pin p) follow followed below on is = pin-stays n slots next k (Pin p) on is
driver-step n bits slots next k Constant follow followed below on is = pin-stays n slots next k Constant on is
driver-step n bits slots next k (Assigned None) follow followed below on is = pin-stays n slots next k (Assigned None) on is
driver-step n bits slots next k (Assigned (Some j)) follow followed below on is = followed j below

driver-none : (bits : List NetBit) (slot : Slot) → through (λ b. None) (source_at bits slot) ≡ pin_in slot
driver-none bits Free = refl
driver-none bits (Pin p) = refl
driver-none bits Constant = refl
driver-none bits (Assigned None) = refl
driver-none bits (Assigned (Some j)) = refl

-- the pin that drives a bit is in the slot to which the steps from it lead
pub driver-number : (n : ℕ) (bits : List NetBit) (ds : List Drive) (slots : List Slot) (next : List ℕ) → Holds bits ds slots → AreSteps slots next → (k : ℕ) → k < length bits
    → driver n ds (bit_at bits k) ≡ pin_in (slot_at slots (steps n next k))
unfolding driver steps
driver-number zero bits ds slots next holds are k within = ap (through (λ b. None)) (sym (holds.sources k within)) ∙ driver-none bits (slot_at slots k)
driver-number (suc n) bits ds slots next holds are k within =
    let w : k < length slots = omega (arith, holds.size) in
    ap (through (driver n ds)) (sym (holds.sources k within))
    ∙ driver-step n bits slots next k (slot_at slots k) (driver n ds) (driver-number n bits ds slots next holds are) (holds.below k) (are.each k w) refl
    ∙ ap (λ j. pin_in (slot_at slots (steps n next j))) (sym (are.each k w))

pub far-within : {slots : List Slot} {next far : List ℕ} {n : ℕ} → AreSlotsBelow slots → AreSteps slots next → IsFollowed n next far → (k : ℕ) → k < length far → slice_index far k < length slots
far-within {slots} {next} {far} {n} below are followed k within =
    let stay = StayWithin-followed (AreSteps-within below.each are) followed in
    omega (arith, stay.each k within, followed.size, are.size)

pub ArePinsOf-followed : {slots : List Slot} {next far : List ℕ} {pins : List (Option LocalPin)} {n : ℕ} → AreSteps slots next → IsFollowed n next far → ArePinsAt slots far pins → ArePinsOf n slots pins
ArePinsOf-followed {slots} {next} {far} {pins} {n} are followed at' = record {
  size = at'.size ∙ (followed.size ∙ are.size);
  next = next;
  are = are;
  each = λ k within.
      let w : k < length far = omega (arith, followed.size, are.size) in
      let v : k < length next = omega (arith, are.size) in
      at'.each k w ∙ ap (λ j. pin_in (slot_at slots j)) (followed.far k v);
}
