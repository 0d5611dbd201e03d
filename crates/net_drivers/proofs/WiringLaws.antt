-- From the drives of a module to its wires.
use Rattle.std.proofs.Common.{◌≡◌, ℕ, zero, suc, ◌+◌, ◌<◌, ◌≤◌, nat_lt, Bool, true, List, [], ◌∷◌, ◌++◌, get_or, length, map, replicate, Option, Some, None, All, refl, sym, ap, ◌∙◌, subst, arith}
use Rattle.std.specs.List.{flat_map}
use Rattle.std.specs.Option.{option_map}
use Rattle.bud_syntax.specs.declared.modules.Module.{Module}
use Rattle.module_nets.specs.Nets.{NetBit, all_bits, port_bits}
use Rattle.module_nets.specs.Numbers.{IsNamedApart}
use Rattle.net_drivers.specs.declared.covers.Ends.{Ends}
use Rattle.net_drivers.specs.declared.slots.Slot.{Slot}
use Rattle.net_drivers.specs.declared.slots.Slot.TheVariants.{Free}
use Rattle.net_drivers.specs.Covers.{ends_at, passing, AreOrdered, IsFirstOf}
use Rattle.net_drivers.specs.Drivers.{Drive, assign_drives, drives, twice_driven}
use Rattle.net_drivers.specs.Numbering.{bit_at, Holds, AreSlotsBelow, IsSlotBelow}
use Rattle.net_drivers.specs.Phases.{IsDriven, IsFilled, Counts}
use Rattle.net_drivers.specs.Slots.{slot_at, IsBelow}
use Rattle.net_drivers.specs.Wirings.{pin_drives, IsStaged, IsJudged}
use Rattle.net_drivers.proofs.ApartLaws.{bits_apart}
use Rattle.net_drivers.proofs.CountLaws.{Counts-both}
use Rattle.net_drivers.proofs.FillLaws.{Counts-same}
use Rattle.net_drivers.proofs.WholeLaws.{drives-are, Counts-driven, Holds-all, twice-found}

replicate-all : {X : Type 0} (n k : ℕ) (x : X) → get_or (replicate n x) k x ≡ x
replicate-all zero k x = refl
replicate-all (suc n) zero x = refl
replicate-all (suc n) (suc k) x = replicate-all n k x

pub rows-none : (n : ℕ) (rows : List Ends) → rows ≡ replicate n (record { last = 0; second = 0 }) → (k : ℕ) → ends_at rows k ≡ record { last = 0; second = 0 }
rows-none n rows is k = ap (λ r. ends_at r k) is ∙ replicate-all n k (record { last = 0; second = 0 })

pub rows-ordered : (rows : List Ends) → ((k : ℕ) → ends_at rows k ≡ record { last = 0; second = 0 }) → AreOrdered rows
rows-ordered rows none = record { each = λ k. let P : Ends → Type 0 = λ e. e.second ≤ e.last in subst P (sym (none k)) (omega arith) }

pub slots-free : (n : ℕ) (slots : List Slot) → slots ≡ replicate n Free → (k : ℕ) → slot_at slots k ≡ Free
slots-free n slots is k = ap (λ s. slot_at s k) is ∙ replicate-all n k Free

pub Counts-staged : {modules : List Module} {m : Module} {before after : List Slot} {old new : List Ends} → IsNamedApart m → length old ≡ length (all_bits m) → IsStaged modules m before after old new → Counts (all_bits m) (drives modules m) old new
Counts-staged {modules} {m} {before} {after} {old} {new} apart size staged = Counts-same (drives-are modules m) (Counts-both (Counts-driven (bits_apart m apart) size staged.driven) staged.assigns)

first-below : (test : ℕ → Bool) (bound count : ℕ) (result : Option ℕ) → bound ≡ count → IsFirstOf test bound result → IsBelow count result
first-below test bound count None same first = tt
first-below test bound count (Some n) same first = omega (arith, first.0)

pub IsJudged-staged : {modules : List Module} {m : Module} {before after : List Slot} {old new : List Ends} (result : Option ℕ) → IsNamedApart m → length old ≡ length (all_bits m) → ((k : ℕ) → ends_at old k ≡ record { last = 0; second = 0 })
    → IsStaged modules m before after old new → IsFirstOf (λ b. nat_lt 1 (passing new b)) (length new) result → IsJudged modules m before after result
IsJudged-staged {modules} {m} {before} {after} {old} {new} result apart size none staged first =
    let counts = Counts-staged apart size staged in
    record {
      old = old;
      middle = staged.middle;
      driven = staged.driven;
      below = first-below (λ b. nat_lt 1 (passing new b)) (length new) (length (all_bits m)) result (counts.size ∙ size) first;
      twice = twice-found modules m old new result size (rows-ordered old none) none counts first;
    }

pub Holds-judged : {modules : List Module} {m : Module} {before middle after : List Slot} {number : Option ℕ} → IsNamedApart m → length before ≡ length (all_bits m) → ((k : ℕ) → slot_at before k ≡ Free)
    → IsJudged modules m before middle number → IsFilled (all_bits m) (flat_map (assign_drives m) m.assigns) middle after → Holds (all_bits m) (drives modules m) after
Holds-judged {modules} {m} {before} {middle} {after} {number} apart size free judged filled' =
    subst (λ ds. Holds (all_bits m) ds after) (drives-are modules m) (Holds-all (bits_apart m apart) size free judged.driven filled')

pub below-held : {bits : List NetBit} {slots : List Slot} {ds : List Drive} → Holds bits ds slots → AreSlotsBelow slots
below-held {bits} {slots} {ds} holds = record { each = λ k. subst (λ n. IsSlotBelow n (slot_at slots k)) (sym holds.size) (holds.below k) }
