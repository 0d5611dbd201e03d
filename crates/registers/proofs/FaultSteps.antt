-- Refusals of registers, pin by pin and instance by instance.
use Rattle.std.specs.Prelude.{zero, suc}
use Rattle.std.specs.List.{list_any, range_with_len}
use Rattle.std.specs.Option.{option_or}
use Rattle.std.proofs.Common.{◌≡◌, ℕ, ◌+◌, ◌-◌, ◌<◌, ◌≤◌, ◌==◌, ◌&&◌, ◌||◌, not, Bool, true, false, cond, List, [], ◌∷◌, length, filter, get_or, set, Option, Some, None, refl, sym, ap, subst, ◌∙◌, inl, inr, arith, get_or-set_same, get_or-set_other}
use Rattle.std.proofs.lemmas.Bool.{cases_eq, eq-eqb, ne_eqb}
use Rattle.std.proofs.lemmas.Grind.{common_steps}
use Rattle.bud_design.specs.declared.designs.Pin.{Pin}
use Rattle.bud_design.specs.Designs.{Design, pin_at, bits_of}
use Rattle.bud_design.specs.Lists.{first_some}
use Rattle.registers.specs.Registers.{pin_place, is_data_pin, is_latch, latch, unless_one, mixed_edge, register_fault, launch_edge, is_clock_pin}
use Rattle.registers.specs.Marks.{mark_at}
use Rattle.registers.specs.Launches.{marked_edge}
use Rattle.registers.specs.FaultLists.{marked_mixed, fault_at, first_mixed, marked_latch, latch_by, fault_of, put_fault}
use Rattle.registers.specs.RegisterMarks.{AreMarks}
use Rattle.registers.specs.declared.entries.Through.{Through}
use Rattle.registers.specs.declared.entries.Setup.{Setup}
use Rattle.registers.specs.declared.faults.RegisterFault.{RegisterFault}
use Rattle.registers.specs.declared.register_marks.RegisterMarks.{RegisterMarks}
use Rattle.registers.proofs.LaunchLaws.{edge_is, clock_within}

range_first : (low left next : ℕ) → left ≡ suc next → range_with_len low left ≡ low ∷ range_with_len (low + 1) next
range_first low left next is = rw is refl

put-same : (faults : List (Option RegisterFault)) (p : ℕ) (o : Option RegisterFault) → p < length faults → fault_at (put_fault faults p o) p ≡ option_or o (fault_at faults p)
put-same faults p None within = refl
put-same faults p (Some f) within = get_or-set_same faults p (Some f) None within

put-other : (faults : List (Option RegisterFault)) (p q : ℕ) (o : Option RegisterFault) → (q ≡ p → ⊥) → fault_at (put_fault faults p o) q ≡ fault_at faults q
put-other faults p q None differs = refl
put-other faults p q (Some f) differs = get_or-set_other faults p q (Some f) None differs

pub put-size : (faults : List (Option RegisterFault)) (p : ℕ) (o : Option RegisterFault) → length (put_fault faults p o) ≡ length faults
put-size faults p None = refl
put-size faults p (Some f) = grind (arith, common_steps)

module _ (pins : List Pin) (m : RegisterMarks) where
  mixed_here : (low next p : ℕ) → (pin_at pins low).place ≡ p → first_mixed pins m low (suc next) p ≡ option_or (marked_mixed m low) (first_mixed pins m (low + 1) next p)
  mixed_here low next p is = rw (eq-eqb (pin_at pins low).place p is) refl

  mixed_other : (low next p : ℕ) → ((pin_at pins low).place ≡ p → ⊥) → first_mixed pins m low (suc next) p ≡ first_mixed pins m (low + 1) next p
  mixed_other low next p differs = rw (ne_eqb (pin_at pins low).place p differs) refl

  -- one pin more
  pub mixed_more : (faults : List (Option RegisterFault)) (low next place : ℕ) (o : Option RegisterFault) → place ≡ (pin_at pins low).place → place < length faults → o ≡ marked_mixed m low
      → ((p : ℕ) → fault_at faults p ≡ first_mixed pins m (low + 1) next p) → (p : ℕ) → fault_at (put_fault faults place o) p ≡ first_mixed pins m low (suc next) p
  mixed_more faults low next place o is within fault so_far p = elim (cases_eq p place) [
    | inl same ↦
        subst (λ q. fault_at (put_fault faults place o) q ≡ first_mixed pins m low (suc next) q) (sym same)
        (put-same faults place o within
        ∙ (ap (λ x. option_or x (fault_at faults place)) fault
        ∙ (ap (option_or (marked_mixed m low)) (so_far place) ∙ sym (mixed_here low next place (sym is)))))
    | inr differs ↦ put-other faults place p o differs ∙ (so_far p ∙ sym (mixed_other low next p (λ same. differs (sym same ∙ sym is))))
  ]

or-none : {X : Type 0} (o : Option X) → option_or None o ≡ o
or-none o = refl

-- one instance more without refusal
pub fault_skip : (faults : List (Option RegisterFault)) (latches : List Bool) (place left next : ℕ) → left ≡ suc next → fault_at faults place ≡ None → mark_at latches place ≡ false
    → first_some (fault_of faults latches) (range_with_len place left) ≡ first_some (fault_of faults latches) (range_with_len (place + 1) next)
fault_skip faults latches place left next is none quiet = rw (is, none, quiet) refl

pub is_none : {A : Type 0} (o : Option A) → ((x : A) → o ≡ Some x → ⊥) → o ≡ None
is_none None other = refl
is_none (Some x) other = absurd (other x refl)

first-same : {X : Type 0} (f g : ℕ → Option X) → (xs : List ℕ) → ((x : ℕ) → f x ≡ g x) → first_some f xs ≡ first_some g xs
first-same f g [] same = refl
first-same f g (x ∷ xs) same = ap (λ o. option_or o (first_some f xs)) (same x) ∙ ap (option_or (g x)) (first-same f g xs same)

any-same : {X : Type 0} (p q : X → Bool) (xs : List X) → ((x : X) → p x ≡ q x) → list_any p xs ≡ list_any q xs
any-same p q [] same = refl
any-same p q (x ∷ xs) same = ap (λ b. b || list_any p xs) (same x) ∙ ap (λ b. q x || b) (any-same p q xs same)

module _ (d : Design) (ts : List Through) (ss : List Setup) (m : RegisterMarks) (marks : AreMarks d ts ss m) where
  mixed-by : (v : ℕ) (b : Bool) → is_clock_pin ss v ≡ b → cond b (unless_one v (marked_edge m v)) None ≡ cond b (unless_one v (launch_edge ts ss v)) None
  mixed-by v true clock = ap (unless_one v) (edge_is d ts ss m marks v (clock_within d ts ss m marks v clock))
  mixed-by v false clock = refl

  mixed_is : (v : ℕ) → marked_mixed m v ≡ mixed_edge ts ss v
  mixed_is v = ap (λ b. cond b (unless_one v (marked_edge m v)) None) (marks.clocks v) ∙ mixed-by v (is_clock_pin ss v) refl

  latch_is : (p : ℕ) (t : Through) → marked_latch d.pins m p t ≡ (pin_place d t.from.0 == p && is_data_pin ss t.from.0)
  latch_is p t =
      ap (λ b. (pin_at d.pins t.from.0).place == p && (b && not (mark_at m.clocks.items t.from.0))) (marks.checked t.from.0)
      ∙ ap (λ b. (pin_at d.pins t.from.0).place == p && (list_any (λ s. s.pin.0 == t.from.0) ss && not b)) (marks.clocks t.from.0)

  -- the first refusal by the marks is the first by the entries
  pub register_fault-marked : (faults : List (Option RegisterFault)) (latches : List Bool) → ((p : ℕ) → fault_at faults p ≡ first_mixed d.pins m 0 (length d.pins) p)
      → ((p : ℕ) → mark_at latches p ≡ list_any (marked_latch d.pins m p) ts) → first_some (fault_of faults latches) (range_with_len 0 (length d.places)) ≡ register_fault d ts ss
  register_fault-marked faults latches first quiet =
      first-same (fault_of faults latches) (λ p. option_or (first_some (mixed_edge ts ss) (bits_of d p)) (latch d ts ss p)) (range_with_len 0 (length d.places)) (λ p.
      ap (λ o. option_or o (latch_by (mark_at latches p) p)) (first p ∙ first-same (marked_mixed m) (mixed_edge ts ss) (bits_of d p) mixed_is)
      ∙ ap (λ b. option_or (first_some (mixed_edge ts ss) (bits_of d p)) (latch_by b p))
      (quiet p ∙ any-same (marked_latch d.pins m p) (λ t. pin_place d t.from.0 == p && is_data_pin ss t.from.0) ts (latch_is p)))
