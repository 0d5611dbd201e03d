-- A design has one layering under a policy, or is refused, and not both.
use Rattle.std.proofs.Common.{◌≡◌, Option, Some, None, Ok, Err, sym, ◌∙◌, refl}
use Rattle.bud_design.specs.TimingPaths.{View}
use Rattle.bud_design.specs.declared.layers.Layered.{Layered}
use Rattle.bud_design.specs.declared.policies.Policy.{Policy}
use Rattle.budget_report.specs.DesignFaults.{layer_status}
use Rattle.budget_report.specs.declared.causes.Cause.TheVariants as cause
use Rattle.budget_report.specs.declared.statuses.Status.TheVariants.{Design as Unfit, Limit}
use Rattle.budget_steps.specs.Steps.{IsCause}
use Rattle.budget_steps.proofs.Courses.{IsSure}
use Rattle.layer_laws.proofs.OneLayering.{one_layering}
use Rattle.layer_theory.specs.LayerAnswers.{HasManyStates, HasManyItems, IsLayerAnswer}
use Rattle.layer_theory.specs.PolicyRefusals.{policy_fault}
use Rattle.layer_theory.specs.declared.refusals.LayerFault.{LayerFault}
use Rattle.layer_theory.specs.declared.refusals.LayerFault.TheVariants.{UnknownArc, UnknownInstance, NestedBlocks, UnknownClock, TooManyStates, TooManyItems, NoMemory}

module _ (w : View) (policy : Policy) where
  abbrev lines_fault : Option LayerFault
  lines_fault = policy_fault w.design w.arcs w.all.clocks policy.lines

  -- a line is refused, or a limit is passed
  data IsKind (fault : LayerFault) : Type 0 where
    line : lines_fault ≡ Some fault → layer_status fault ≡ Unfit → IsKind fault
    states : lines_fault ≡ None → HasManyStates w → layer_status fault ≡ Limit → IsKind fault
    items : lines_fault ≡ None → HasManyItems w → layer_status fault ≡ Limit → IsKind fault

  kind_of : (fault : LayerFault) → IsCause (layer_status fault) → IsLayerAnswer w policy (Err fault) → IsKind fault
  kind_of (UnknownArc from to) is answer = line answer refl
  kind_of (UnknownInstance name) is answer = line answer refl
  kind_of (NestedBlocks a b) is answer = line answer refl
  kind_of (UnknownClock name) is answer = line answer refl
  kind_of (TooManyStates count) is answer = states answer.0 answer.1 refl
  kind_of (TooManyItems count) is answer = items answer.0.lines answer.1 refl
  kind_of NoMemory is answer = absurd is

  none_or_some : {P : Type 0} (o : Option LayerFault) (fault : LayerFault) → o ≡ None → o ≡ Some fault → P
  none_or_some o fault first second = absurd (cc)

  one_status : (a b : LayerFault) → IsKind a → IsKind b → layer_status a ≡ layer_status b
  one_status a b (line e s) (line e' s') = s ∙ sym s'
  one_status a b (line e s) (states e' m s') = none_or_some lines_fault a e' e
  one_status a b (line e s) (items e' m s') = none_or_some lines_fault a e' e
  one_status a b (states e m s) (line e' s') = none_or_some lines_fault b e e'
  one_status a b (states e m s) (states e' m' s') = s ∙ sym s'
  one_status a b (states e m s) (items e' m' s') = s ∙ sym s'
  one_status a b (items e m s) (line e' s') = none_or_some lines_fault b e e'
  one_status a b (items e m s) (states e' m' s') = s ∙ sym s'
  one_status a b (items e m s) (items e' m' s') = s ∙ sym s'

  apart : (layered : Layered) (fault : LayerFault) → IsLayerAnswer w policy (Ok layered) → IsKind fault → ⊥
  apart layered fault answer (line e s) = none_or_some lines_fault fault answer.0.lines e
  apart layered fault answer (states e m s) = answer.0.states m
  apart layered fault answer (items e m s) = answer.1 m

  pub layered_sure : IsSure ◌≡◌ (IsLayerAnswer w policy) (λ fault. cause.Layer fault)
  layered_sure = record {
    one = λ a b x y. one_layering w policy a b x.2 y.2;
    apart = λ a fault is x y. apart a fault x (kind_of fault is y);
    status = λ f g is is' x y. one_status f g (kind_of f is x) (kind_of g is' y);
  }
