-- The steps on a design: its elaboration, its delays, its arcs, its constraints and the limits on its paths.
use Rattle.std.specs.Prelude.{◌≡◌, ℕ, suc, List, [], ◌∷◌, All, Option, Result, Ok, Err}
use Rattle.bud_syntax.specs.declared.modules.Module.{Module}
use Rattle.bud_syntax.specs.declared.delays.SdfRow.{SdfRow}
use Rattle.bud_syntax.specs.declared.constraints.SdcCommand.{SdcCommand}
use Rattle.bud_design.specs.declared.clocks.Constraints.{Constraints}
use Rattle.bud_design.specs.declared.policies.NumberedCommand.{NumberedCommand}
use Rattle.bud_design.specs.declared.timings.Timing.{Timing}
use Rattle.bud_design.specs.Arcs.{Arc, Graph}
use Rattle.bud_design.specs.Designs.{Design}
use Rattle.bud_design.specs.DesignRules.{IsDesign}
use Rattle.bud_design.specs.TimingPaths.{View}
use Rattle.elaborations.specs.Elaborations.{IsFlatDesign, IsElaborateAnswer}
use Rattle.module_nets.specs.declared.faults.ElabFault.{ElabFault}
use Rattle.bud_design.specs.TimingRules.{IsSoundTiming, StartsInLeaf}
use Rattle.delay_bind.specs.Bindings.{IsBound, IsBindAnswer}
use Rattle.delay_bind.specs.declared.faults.BindFault.{BindFault}
use Rattle.timing_graph.specs.Graphs.{IsGraph, IsArcsAnswer}
use Rattle.timing_graph.specs.declared.faults.GraphFault.{GraphFault}
use Rattle.timing_objects.specs.declared.faults.ResolveFault.{ResolveFault}
use Rattle.requirements.specs.Constraining.{IsResolveAnswer}
use Rattle.layer_theory.specs.LayerAnswers.{HasManyStates, HasManyItems}
use Rattle.layer_theory.specs.declared.refusals.LayerFault.{LayerFault}
use Rattle.layer_theory.specs.declared.refusals.LayerFault.TheVariants.{UnknownArc, UnknownInstance, NestedBlocks, UnknownClock, TooManyStates, TooManyItems, NoMemory}
use Rattle.budget_report.specs.declared.causes.Cause.TheVariants as cause
use Rattle.budget_report.specs.Subjects.{bare, pins}
use Rattle.budget_steps.specs.Steps.{Course, step}

-- the flat design of a netlist, or the first refusal of its elaboration
pub record IsElaborated (modules : List Module) (top : Option (List ℕ)) (d : Design) : Type 0 where
  pub flat : IsFlatDesign modules top d
  pub design : IsDesign d

abbrev pub IsElaboration : List Module → Option (List ℕ) → Result Design ElabFault → Type 0
IsElaboration modules top (Ok d) = IsElaborated modules top d
IsElaboration modules top (Err fault) = IsElaborateAnswer modules top (Err fault)

abbrev pub elaborated : List Module → Option (List ℕ) → Course Design
elaborated modules top = step (IsElaboration modules top) bare (λ fault. cause.Elab fault)

-- the delays and checks that a delay file gives the design, or its first refusal
pub record IsTimed (d : Design) (rows : List SdfRow) (t : Timing) : Type 0 where
  pub bound : IsBound d rows t
  pub sound : IsSoundTiming d t
  pub leaves : All (StartsInLeaf d) t.pairs

abbrev pub IsTiming : Design → List SdfRow → Result Timing BindFault → Type 0
IsTiming d rows (Ok t) = IsTimed d rows t
IsTiming d rows (Err fault) = IsBindAnswer d rows (Err fault)

abbrev pub timed : Design → List SdfRow → Course Timing
timed d rows = step (IsTiming d rows) bare (λ fault. cause.Bind fault)

-- the arcs of the design, which follow some order of its pins, or a cycle of them
abbrev pub AreOrderedArcs : Design → Timing → List Arc → Type 0
AreOrderedArcs d t arcs = (g : Graph) × (IsGraph d t g × (arcs ≡ g.arcs))

abbrev pub AreArcsOrCycle : Design → Timing → Result (List Arc) GraphFault → Type 0
AreArcsOrCycle d t (Ok arcs) = AreOrderedArcs d t arcs
AreArcsOrCycle d t (Err fault) = IsArcsAnswer d t (Err fault)

abbrev pub joined : Design → Timing → Course (List Arc)
joined d t = step (AreArcsOrCycle d t) (pins d) (λ fault. cause.Graph fault)

-- the timing commands of a constraints text, numbered from 1
abbrev pub numbered_from : ℕ → List SdcCommand → List NumberedCommand
numbered_from n [] = []
numbered_from n (command ∷ commands) = record { number = n; command = command } ∷ numbered_from (suc n) commands

abbrev pub numbered : List SdcCommand → List NumberedCommand
numbered commands = numbered_from 1 commands

-- the constraints that the commands give the design, or the first refusal of the first command that has one
abbrev pub AreConstrained : Design → Timing → List SdcCommand → Result Constraints ResolveFault → Type 0
AreConstrained d t commands answer = IsResolveAnswer (record { design = d; root = 0; timing = t }) (numbered commands) answer

abbrev pub constrained : Design → Timing → List SdcCommand → Course Constraints
constrained d t commands = step (AreConstrained d t commands) bare (λ fault. cause.Resolve fault)

-- the whole design with its arcs and constraints
abbrev pub view_of : Design → List Arc → Constraints → View
view_of d arcs all = record { design = d; root = 0; arcs = arcs; all = all }

-- no limit is passed: on pins in classes of exceptions with groups, and on arcs in classes
abbrev pub IsWithinLimits : View → Result (Unit {0}) LayerFault → Type 0
IsWithinLimits w (Ok _) = (HasManyStates w → ⊥) × (HasManyItems w → ⊥)
IsWithinLimits w (Err (UnknownArc from to)) = ⊥
IsWithinLimits w (Err (UnknownInstance name)) = ⊥
IsWithinLimits w (Err (NestedBlocks a b)) = ⊥
IsWithinLimits w (Err (UnknownClock name)) = ⊥
IsWithinLimits w (Err (TooManyStates count)) = HasManyStates w × (count ≡ 8388609)
IsWithinLimits w (Err (TooManyItems count)) = (HasManyStates w → ⊥) × (HasManyItems w × (count ≡ 4194305))
IsWithinLimits w (Err NoMemory) = Unit {0}

abbrev pub within_limits : View → Course (Unit {0})
within_limits w = step (IsWithinLimits w) bare (λ fault. cause.Layer fault)
