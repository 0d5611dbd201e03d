-- How an edit is answered: by the new state, or by its first refusal.
use Rattle.std.specs.Prelude.{◌≡◌, true, false, Result, Ok, Err}
use Rattle.bud_design.specs.declared.clocks.Constraints.{Constraints}
use Rattle.bud_design.specs.declared.layers.Layered.{Layered}
use Rattle.bud_design.specs.declared.policies.Edit.{Edit}
use Rattle.layer_theory.specs.LayerAnswers.{IsLayerAnswer}
use Rattle.layer_theory.specs.declared.refusals.LayerFault.{LayerFault}
use Rattle.layer_theory.specs.declared.refusals.LayerFault.TheVariants as layer
use Rattle.requirements.specs.Constraining.{AreConstraints}
use Rattle.timing_objects.specs.declared.faults.ResolveFault.{ResolveFault}
use Rattle.timing_scopes.specs.Resolving.{resolved}
use Rattle.edit_states.specs.Edits.{edited}
use Rattle.edit_states.specs.Ranges.{is_in_range}
use Rattle.edit_states.specs.States.{State, subject_of, view_of}
use Rattle.edit_states.specs.declared.faults.EditFault.{EditFault}
use Rattle.edit_states.specs.declared.faults.EditFault.TheVariants.{Range, UnknownArc, UnknownCommand, Resolve, Layer, NoMemory}
use Rattle.edit_states.specs.declared.faults.SessionFault.{SessionFault}
use Rattle.edit_states.specs.declared.faults.SessionFault.TheVariants as session

-- the commands say these constraints of the design, which are laid out so under the policy
pub record IsLaidOut (s : State) (all : Constraints) (layered : Layered) : Type 0 where
  pub resolves : AreConstraints (subject_of s) s.commands all
  pub layers : IsLayerAnswer (view_of s all) s.policy (Ok layered)

-- nothing is refused of the state
abbrev pub IsAccepted : State → Type 0
IsAccepted s = (all : Constraints) × ((layered : Layered) × IsLaidOut s all layered)

-- its commands are refused so
abbrev pub IsUnresolved : State → ResolveFault → Type 0
IsUnresolved s fault = resolved (subject_of s) s.commands ≡ Err fault

-- its commands are accepted, and the layering is refused so, which isn't for want of memory
pub record IsUnlayered (s : State) (fault : LayerFault) : Type 0 where
  pub all : Constraints
  pub resolves : AreConstraints (subject_of s) s.commands all
  pub refused : IsLayerAnswer (view_of s all) s.policy (Err fault)
  pub judged : fault ≡ layer.NoMemory → ⊥

-- the edit's numbers are in range, and it comes to this
pub record ComesTo (s : State) (e : Edit) (new : Result State EditFault) : Type 0 where
  pub in_range : is_in_range s.next e ≡ true
  pub edited_is : edited s e ≡ new

-- The refusals are tried in this order: of a number out of its range, of an arc or a command that isn't there, of the new
-- commands, of the new layering. The first that stands is the answer, and else the new state.
abbrev pub IsEditAnswer : State → Edit → Result State EditFault → Type 0
IsEditAnswer s e (Ok new) = ComesTo s e (Ok new) × IsAccepted new
IsEditAnswer s e (Err Range) = is_in_range s.next e ≡ false
IsEditAnswer s e (Err (UnknownArc from to)) = ComesTo s e (Err (UnknownArc from to))
IsEditAnswer s e (Err (UnknownCommand number)) = ComesTo s e (Err (UnknownCommand number))
IsEditAnswer s e (Err (Resolve fault)) = (new : State) × (ComesTo s e (Ok new) × IsUnresolved new fault)
IsEditAnswer s e (Err (Layer fault)) = (new : State) × (ComesTo s e (Ok new) × IsUnlayered new fault)
IsEditAnswer s e (Err NoMemory) = Unit {0}

-- how it is answered that a state is begun with
abbrev pub IsBegunAnswer : State → Result State SessionFault → Type 0
IsBegunAnswer s (Ok new) = (new ≡ s) × IsAccepted s
IsBegunAnswer s (Err (session.Resolve fault)) = IsUnresolved s fault
IsBegunAnswer s (Err (session.Layer fault)) = IsUnlayered s fault
IsBegunAnswer s (Err session.NoMemory) = Unit {0}
