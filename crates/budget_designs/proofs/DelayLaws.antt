-- A delay file gives a design one timing, or is refused, and not both.
use Rattle.std.proofs.Common.{◌≡◌, ℕ, ℤ, List, ◌∷◌, ◌++◌, length, All, Some, Err, ap, sym, ◌∙◌, subst}
use Rattle.std.proofs.Math.Seq.{drop-append_seam}
use Rattle.std.proofs.lemmas.List.Elements.{All-head, All-drop}
use Rattle.bud_syntax.specs.declared.delays.SdfRow.{SdfRow}
use Rattle.bud_design.specs.declared.designs.Wire.{Wire}
use Rattle.bud_design.specs.declared.timings.Timing.{Timing}
use Rattle.bud_design.specs.Designs.{Design}
use Rattle.bud_design.specs.DesignRules.{IsDesign}
use Rattle.timing_laws.proofs.OneTables.{pairs-same}
use Rattle.net_delays.specs.Nets.{HasNegativeRest}
use Rattle.delay_bind.specs.Rows.{IsAcceptedRow, IsFirstRefused, IsJoined, IsNetFault, IsRowFault}
use Rattle.delay_bind.specs.Entries.{entries_of}
use Rattle.delay_bind.specs.Bindings.{IsBound, IsBindAnswer, IsRegisterFault, IsNegativeDelay, IsNegativeRest, negative_pair}
use Rattle.delay_bind.specs.declared.faults.BindFault.{BindFault}
use Rattle.delay_bind.specs.declared.faults.BindFault.TheVariants.{UnknownInstance, WrongCell, NotALeaf, UnknownPin, NotOneNet, MixedEdge, Latch, NegativeDelay, NegativeRest, NoMemory}
use Rattle.delay_bind.proofs.EntryLaws.{nets-accepted}
use Rattle.bind_laws.proofs.OneTiming.{one-timing}
use Rattle.bind_laws.proofs.WireLists.{one-list_of_delays}
use Rattle.budget_report.specs.DesignFaults.{bind_status}
use Rattle.budget_report.specs.declared.causes.Cause.TheVariants as cause
use Rattle.budget_steps.specs.Steps.{IsCause}
use Rattle.budget_steps.proofs.Courses.{IsSure}
use Rattle.budget_designs.specs.Designs.{IsTiming}
use Rattle.budget_designs.proofs.DesignFaults.{bind_refused}

-- what holds of all holds of one in the middle
pub All-middle : {X : Type 0} (P : X → Type 0) (xs : List X) (y : X) (ys : List X) → All P (xs ++ y ∷ ys) → P y
All-middle P xs y ys all = All-head P y ys (subst (All P) (drop-append_seam xs (y ∷ ys)) (All-drop P (length xs) (xs ++ y ∷ ys) all))

-- ---- accepted or refused
module _ (d : Design) (rows : List SdfRow) (t : Timing) (design : IsDesign d) (bound : IsBound d rows t) where
  accepted_row : (row : SdfRow) → IsFirstRefused d rows row → IsAcceptedRow d row
  accepted_row row first =
      All-middle (IsAcceptedRow d) first.before row first.behind (subst (All (IsAcceptedRow d)) first.stands bound.accepted.rows_are)

  no_row_fault : (fault : BindFault) → IsRowFault d rows fault → ⊥
  no_row_fault fault refused = let named = (accepted_row refused.row refused.first).named in let wrong = refused.refused in absurd (cc)

  no_net_fault : (from to : List ℕ) → IsNetFault d rows from to → ⊥
  no_net_fault from to refused =
      refused.apart.apart (subst (IsJoined d refused.row) refused.apart.wire (accepted_row refused.row refused.first).joined)

  no_register_fault : (fault : BindFault) → IsRegisterFault d rows fault → ⊥
  no_register_fault fault refused = let none = bound.accepted.registers in let some = refused.refused in absurd (cc)

  no_negative_delay : (from to : List ℕ) → IsNegativeDelay d rows from to → ⊥
  no_negative_delay from to refused =
      let same = pairs-same _ refused.pair.pairs t.pairs refused.pair.are_pairs bound.timing.pairs in
      let some : negative_pair t.pairs ≡ Some refused.pair.pair = sym (ap negative_pair same) ∙ refused.pair.first in
      let none = bound.delays in
      absurd (cc)

  no_negative_rest : (to : List ℕ) → IsNegativeRest d rows to → ⊥
  no_negative_rest to refused =
      let alongs = (entries_of d rows).alongs in
      let same = one-list_of_delays d design alongs (nets-accepted d rows bound.accepted.rows_are) refused.wire.numbers t.wires refused.wire.are_delays bound.timing.wires in
      let wires : All (λ (w : Wire). HasNegativeRest d alongs t.wires w.to.0 → ⊥) d.wires = bound.rests in
      All-middle (λ (w : Wire). HasNegativeRest d alongs t.wires w.to.0 → ⊥) refused.wire.before refused.wire.wire refused.wire.behind
      (subst (All (λ (w : Wire). HasNegativeRest d alongs t.wires w.to.0 → ⊥)) refused.wire.stands wires)
      (subst (λ (zs : List ℤ). HasNegativeRest d alongs zs refused.wire.wire.to.0) same refused.wire.negative)

  pub bound_apart : (fault : BindFault) → IsCause (bind_status fault) → IsBindAnswer d rows (Err fault) → ⊥
  bound_apart (UnknownInstance name) is refused = no_row_fault (UnknownInstance name) refused
  bound_apart (WrongCell name) is refused = no_row_fault (WrongCell name) refused
  bound_apart (NotALeaf name) is refused = no_row_fault (NotALeaf name) refused
  bound_apart (UnknownPin name) is refused = no_row_fault (UnknownPin name) refused
  bound_apart (NotOneNet from to) is refused = no_net_fault from to refused
  bound_apart (MixedEdge name) is refused = no_register_fault (MixedEdge name) refused
  bound_apart (Latch name) is refused = no_register_fault (Latch name) refused
  bound_apart (NegativeDelay from to) is refused = no_negative_delay from to refused
  bound_apart (NegativeRest name) is refused = no_negative_rest name refused
  bound_apart NoMemory is refused = absurd is

pub timing_sure : (d : Design) (rows : List SdfRow) → IsDesign d → IsSure ◌≡◌ (IsTiming d rows) (λ fault. cause.Bind fault)
timing_sure d rows design = record {
  one = λ a b x y. one-timing d rows a b design x.bound y.bound;
  apart = λ t fault is x y. bound_apart d rows t design x.bound fault is y;
  status = λ f g is is' x y. bind_refused f is ∙ sym (bind_refused g is');
}
