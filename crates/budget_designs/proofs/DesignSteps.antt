-- Each step on a design has one value, or is refused, and not both.
use Rattle.std.proofs.Common.{◌≡◌, ℕ, List, [], ◌∷◌, map, All, Option, Result, Ok, Err, ap, sym, ◌∙◌, subst, refl, nat_lt}
use Rattle.std.proofs.lemmas.List.Elements.{All-nil, All-cons}
use Rattle.bud_base.specs.declared.ids.ArcId.{ArcId}
use Rattle.bud_syntax.specs.declared.modules.Module.{Module}
use Rattle.bud_syntax.specs.declared.constraints.SdcCommand.{SdcCommand}
use Rattle.bud_design.specs.declared.clocks.Constraints.{Constraints}
use Rattle.bud_design.specs.declared.policies.NumberedCommand.{NumberedCommand}
use Rattle.bud_design.specs.declared.timings.Timing.{Timing}
use Rattle.bud_design.specs.Arcs.{Arc, arc_at, Leads, IsArcCycle}
use Rattle.bud_design.specs.Designs.{Design}
use Rattle.bud_design.specs.DesignRules.{IsDesign}
use Rattle.bud_design.specs.Lists.{Lists}
use Rattle.bud_design.specs.Orders.{launch_before, capture_before}
use Rattle.bud_design.specs.TimingPaths.{View}
use Rattle.bud_design.specs.TimingRules.{IsSoundArc, IsSoundTiming, StartsInLeaf}
use Rattle.module_nets.specs.declared.faults.ElabFault.{ElabFault}
use Rattle.module_nets.specs.declared.faults.ElabFault.TheVariants as elab
use Rattle.elaborations.specs.Elaborations.{Built, elaborated as built_of, IsElaborateAnswer}
use Rattle.elaborations.proofs.OneDesign.{one_design}
use Rattle.timing_laws.proofs.OneTables.{launches-same, captures-same, pins-same, Constraints-same}
use Rattle.timing_graph.specs.Graphs.{IsArcsAnswer, pins_of_arc}
use Rattle.timing_graph.specs.declared.faults.GraphFault.{GraphFault}
use Rattle.timing_graph.specs.declared.faults.GraphFault.TheVariants as graph
use Rattle.timing_graph.proofs.ArcLists.{AreArcs-sound}
use Rattle.timing_graph.proofs.CycleLaws.{no-cycle, one-list_of_arcs, IsSoundGraph-from_graph}
use Rattle.timing_objects.specs.Objects.{Subject}
use Rattle.timing_objects.specs.declared.faults.ResolveFault.{ResolveFault}
use Rattle.timing_objects.specs.declared.faults.ResolveFault.TheVariants as resolve
use Rattle.timing_scopes.specs.Resolving.{resolved}
use Rattle.timing_scopes.specs.declared.scopes.Scope.{Scope}
use Rattle.requirements.specs.Constraining.{AreConstraints, IsLaunch, IsCapture, IsUnclocked, IsResolveAnswer}
use Rattle.layer_theory.specs.declared.refusals.LayerFault.{LayerFault}
use Rattle.layer_theory.specs.declared.refusals.LayerFault.TheVariants as layer
use Rattle.budget_report.specs.declared.statuses.Status.{Status}
use Rattle.budget_report.specs.declared.statuses.Status.TheVariants.{Limit}
use Rattle.budget_report.specs.declared.causes.Cause.TheVariants as cause
use Rattle.budget_report.specs.DesignFaults.{elab_status, graph_status, resolve_status, layer_status, IsPairOf, HasPins}
use Rattle.budget_steps.specs.Steps.{IsCause}
use Rattle.budget_steps.proofs.Courses.{IsSure}
use Rattle.budget_designs.specs.Designs.{IsElaboration, AreOrderedArcs, AreArcsOrCycle, AreConstrained, numbered, IsWithinLimits}
use Rattle.budget_designs.proofs.DesignFaults.{graph_refused, resolve_refused}

-- ---- elaboration
elab_refusal : (modules : List Module) (top : Option (List ℕ)) (fault : ElabFault) → IsCause (elab_status fault) → IsElaborateAnswer modules top (Err fault)
    → built_of modules top ≡ Err fault
elab_refusal modules top (elab.ModuleTwice name) is e = e
elab_refusal modules top (elab.NoTop name) is e = e
elab_refusal modules top (elab.ManyTops a b) is e = e
elab_refusal modules top (elab.TooDeep count) is e = e
elab_refusal modules top (elab.InoutPort name) is e = e
elab_refusal modules top (elab.NameTwice name) is e = e
elab_refusal modules top (elab.TooLarge count) is e = e
elab_refusal modules top (elab.UnknownModule name) is e = e
elab_refusal modules top (elab.Recursive name) is e = e
elab_refusal modules top (elab.UnknownPort name) is e = e
elab_refusal modules top (elab.Select name) is e = e
elab_refusal modules top (elab.Width name) is e = e
elab_refusal modules top (elab.TwoDrivers name) is e = e
elab_refusal modules top elab.NoMemory is e = absurd is

built_or_refused : {r : Result Built ElabFault} (built : Built) (fault : ElabFault) → r ≡ Ok built → r ≡ Err fault → ⊥
built_or_refused built fault first second = cc

abbrev refused_status : Result Built ElabFault → Status
refused_status (Ok built) = Limit
refused_status (Err fault) = elab_status fault

same_refusal : (r : Result Built ElabFault) (f g : ElabFault) → r ≡ Err f → r ≡ Err g → elab_status f ≡ elab_status g
same_refusal r f g first second = ap refused_status (sym first ∙ second)

pub elaboration_sure : (modules : List Module) (top : Option (List ℕ)) → IsSure ◌≡◌ (IsElaboration modules top) (λ fault. cause.Elab fault)
elaboration_sure modules top = record {
  one = λ a b x y. one_design modules top a b x.flat y.flat;
  apart = λ d fault is x y. built_or_refused (record { places = d.places; pins = d.pins; count = x.flat.count }) fault x.flat.built (elab_refusal modules top fault is y);
  status = λ f g is is' x y. same_refusal (built_of modules top) f g (elab_refusal modules top f is x) (elab_refusal modules top g is' y);
}

-- ---- arcs
module _ (d : Design) (t : Timing) (design : IsDesign d) (timing : IsSoundTiming d t) (leaves : All (StartsInLeaf d) t.pairs) where
  pairs-within : (arcs : List Arc) → All (IsSoundArc d) arcs → (v w : ℕ) (ring : List ArcId) → Leads arcs v ring w → All (IsPairOf d) (map (pins_of_arc arcs) ring)
  pairs-within arcs sound v w [] leads = All-nil _
  pairs-within arcs sound v w (a ∷ xs) leads =
      let arc = sound a.0 (arc_at [] 0) leads.0 in
      All-cons (IsPairOf d) (pins_of_arc arcs a) (map (pins_of_arc arcs) xs) (record { from = arc.from; to = arc.to })
      (pairs-within arcs sound (arc_at arcs a.0).to w xs leads.2)

  -- the pins of a cycle are the design's
  pub cycle_within : (fault : GraphFault) → IsArcsAnswer d t (Err fault) → HasPins d fault
  cycle_within (graph.Cycle pairs) cycle =
      let sound = AreArcs-sound d t design timing leaves cycle.arcs cycle.are_arcs in
      let first = (arc_at cycle.arcs cycle.is_cycle.first.0).from in
      subst (All (IsPairOf d)) (sym cycle.pairs_are) (pairs-within cycle.arcs sound first first cycle.cycle cycle.is_cycle.closed)
  cycle_within graph.NoMemory cycle = tt

  arcs_apart : (arcs : List Arc) (fault : GraphFault) → IsCause (graph_status fault) → AreOrderedArcs d t arcs → IsArcsAnswer d t (Err fault) → ⊥
  arcs_apart arcs (graph.Cycle pairs) is ordered cycle =
      let g = ordered.0 in
      let same = one-list_of_arcs d t cycle.arcs g.arcs cycle.are_arcs ordered.1.0.arcs in
      no-cycle d g cycle.cycle (IsSoundGraph-from_graph d t g design timing leaves ordered.1.0) (subst (λ (xs : List Arc). IsArcCycle xs cycle.cycle) same cycle.is_cycle)
  arcs_apart arcs graph.NoMemory is ordered cycle = absurd is

  pub arcs_sure : IsSure ◌≡◌ (AreArcsOrCycle d t) (λ fault. cause.Graph fault)
  arcs_sure = record {
    one = λ a b x y. x.1.1 ∙ (one-list_of_arcs d t x.0.arcs y.0.arcs x.1.0.arcs y.1.0.arcs ∙ sym y.1.1);
    apart = arcs_apart;
    status = λ f g is is' x y. graph_refused f is ∙ sym (graph_refused g is');
  }

-- ---- constraints
resolve_refusal : (s : Subject) (commands : List NumberedCommand) (fault : ResolveFault) → IsCause (resolve_status fault) → IsResolveAnswer s commands (Err fault)
    → resolved s commands ≡ Err fault
resolve_refusal s commands (resolve.UnknownObject name) is e = e
resolve_refusal s commands (resolve.UnknownClock name) is e = e
resolve_refusal s commands (resolve.NotASource name) is e = e
resolve_refusal s commands (resolve.NotAStart name) is e = e
resolve_refusal s commands (resolve.NotAnEnd name) is e = e
resolve_refusal s commands (resolve.NotAPin name) is e = e
resolve_refusal s commands (resolve.ClockTwice name) is e = e
resolve_refusal s commands (resolve.BadWaveform name) is e = e
resolve_refusal s commands resolve.NoMemory is e = absurd is

scope_or_refused : {r : Result Scope ResolveFault} (scope : Scope) (fault : ResolveFault) → r ≡ Ok scope → r ≡ Err fault → ⊥
scope_or_refused scope fault first second = cc

one_scope : {r : Result Scope ResolveFault} (a b : Scope) → r ≡ Ok a → r ≡ Ok b → a ≡ b
one_scope a b first second = cc

-- commands give a design one list of constraints
pub one_constraints : (s : Subject) (commands : List NumberedCommand) (a b : Constraints) → AreConstraints s commands a → AreConstraints s commands b → a ≡ b
one_constraints s commands a b first second =
    let same : first.scope ≡ second.scope = one_scope first.scope second.scope first.says second.says in
    Constraints-same a b
    (first.clocks ∙ (ap (λ (x : Scope). x.clocks) same ∙ sym second.clocks))
    (launches-same (IsLaunch s first.scope) a.launches b.launches first.launches (subst (λ (x : Scope). Lists launch_before (IsLaunch s x) b.launches) (sym same) second.launches))
    (captures-same (IsCapture s first.scope) a.captures b.captures first.captures (subst (λ (x : Scope). Lists capture_before (IsCapture s x) b.captures) (sym same) second.captures))
    (first.exceptions ∙ (ap (λ (x : Scope). x.exceptions) same ∙ sym second.exceptions))
    (pins-same (IsUnclocked s first.scope) a.unclocked b.unclocked first.unclocked (subst (λ (x : Scope). Lists (λ v w. nat_lt v.0 w.0) (IsUnclocked s x) b.unclocked) (sym same) second.unclocked))

pub constraints_sure : (d : Design) (t : Timing) (commands : List SdcCommand) → IsSure ◌≡◌ (AreConstrained d t commands) (λ fault. cause.Resolve fault)
constraints_sure d t commands = record {
  one = λ a b x y. one_constraints (record { design = d; root = 0; timing = t }) (numbered commands) a b x y;
  apart = λ all fault is x y. scope_or_refused x.scope fault x.says (resolve_refusal (record { design = d; root = 0; timing = t }) (numbered commands) fault is y);
  status = λ f g is is' x y. resolve_refused f is ∙ sym (resolve_refused g is');
}

-- ---- limits
limits_apart : (w : View) (done : Unit {0}) (fault : LayerFault) → IsCause (layer_status fault) → IsWithinLimits w (Ok done) → IsWithinLimits w (Err fault) → ⊥
limits_apart w done (layer.UnknownArc from to) is within passed = passed
limits_apart w done (layer.UnknownInstance name) is within passed = passed
limits_apart w done (layer.NestedBlocks a b) is within passed = passed
limits_apart w done (layer.UnknownClock name) is within passed = passed
limits_apart w done (layer.TooManyStates count) is within passed = within.0 passed.0
limits_apart w done (layer.TooManyItems count) is within passed = within.1 passed.1.0
limits_apart w done layer.NoMemory is within passed = absurd is

limit_passed : (w : View) (fault : LayerFault) → IsCause (layer_status fault) → IsWithinLimits w (Err fault) → layer_status fault ≡ Limit
limit_passed w (layer.UnknownArc from to) is passed = absurd passed
limit_passed w (layer.UnknownInstance name) is passed = absurd passed
limit_passed w (layer.NestedBlocks a b) is passed = absurd passed
limit_passed w (layer.UnknownClock name) is passed = absurd passed
limit_passed w (layer.TooManyStates count) is passed = refl
limit_passed w (layer.TooManyItems count) is passed = refl
limit_passed w layer.NoMemory is passed = absurd is

pub limits_sure : (w : View) → IsSure ◌≡◌ (IsWithinLimits w) (λ fault. cause.Layer fault)
limits_sure w = record {
  one = λ a b x y. refl;
  apart = limits_apart w;
  status = λ f g is is' x y. limit_passed w f is x ∙ sym (limit_passed w g is' y);
}
