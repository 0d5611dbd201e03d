-- How the layering is answered: the limits on states and items, and the refusals.
use Rattle.std.specs.Prelude.{◌≡◌, ℕ, ◌<◌, nat_lt, Bool, true, List, length, All, AllPairs, Some, None, Result, Ok, Err}
use Rattle.std.specs.List.{list_any}
use Rattle.bud_base.specs.declared.ids.ArcId.{ArcId}
use Rattle.bud_design.specs.declared.clocks.Constraints.{Constraints}
use Rattle.bud_design.specs.declared.layers.Met.{Met}
use Rattle.bud_design.specs.declared.layers.Class.{Class}
use Rattle.bud_design.specs.declared.layers.Layered.{Layered}
use Rattle.bud_design.specs.declared.policies.Policy.{Policy}
use Rattle.layer_theory.specs.declared.refusals.LayerFault.{LayerFault}
use Rattle.layer_theory.specs.declared.refusals.LayerFault.TheVariants.{UnknownArc, UnknownInstance, NestedBlocks, UnknownClock, TooManyStates, TooManyItems, NoMemory}
use Rattle.bud_design.specs.Arcs.{Leads}
use Rattle.bud_design.specs.Exceptions.{class_of, groups_of}
use Rattle.bud_design.specs.Layers.{IsItem, IsLayering}
use Rattle.layer_theory.specs.PolicyRefusals.{policy_fault}
use Rattle.bud_design.specs.TimingPaths.{View, launch_at, passed}

-- arcs from a launch, none or some, reach a pin in a class
pub record IsState (w : View) (v : ℕ) (k : Class) : Type 0 where
  pub launch : ℕ
  pub number : launch < length w.all.launches
  pub front : List ArcId
  pub joined : Leads w.arcs (launch_at w.all.launches launch).pin.0 front v
  pub class_is : k ≡ class_of w.all (launch_at w.all.launches launch) (passed w.arcs (launch_at w.all.launches launch).pin.0 front)

abbrev pub is_grouped : List Met → Constraints → Bool
is_grouped ms all = list_any (λ m. nat_lt 0 (length (groups_of all.exceptions m.number))) ms

-- a state whose class lists an exception with groups
pub record IsCountedState (w : View) (x : ℕ × Class) : Type 0 where
  pub state : IsState w x.0 x.1
  pub grouped : is_grouped x.1.exceptions w.all ≡ true

-- so many different ones there are
pub record AreMore {X : Type 0} (IsSuch : X → Type 0) (limit : ℕ) : Type 0 where
  pub xs : List X
  pub such : All IsSuch xs
  pub different : AllPairs (λ x y. x ≡ y → ⊥) xs
  pub more : limit < length xs

abbrev pub HasManyStates : View → Type 0
HasManyStates w = AreMore (IsCountedState w) 8388608

abbrev pub HasManyItems : View → Type 0
HasManyItems w = AreMore (λ (x : ArcId × Class). IsItem w x.0 x.1) 4194304

pub record IsAcceptedPolicy (w : View) (policy : Policy) : Type 0 where
  pub lines : policy_fault w.design w.arcs w.all.clocks policy.lines ≡ None
  pub states : HasManyStates w → ⊥

-- what each answer of `layer` says
abbrev pub IsLayerAnswer : View → Policy → Result Layered LayerFault → Type 0
IsLayerAnswer w policy (Ok layered) = IsAcceptedPolicy w policy × (HasManyItems w → ⊥) × IsLayering w policy layered
IsLayerAnswer w policy (Err (UnknownArc from to)) = policy_fault w.design w.arcs w.all.clocks policy.lines ≡ Some (UnknownArc from to)
IsLayerAnswer w policy (Err (UnknownInstance name)) = policy_fault w.design w.arcs w.all.clocks policy.lines ≡ Some (UnknownInstance name)
IsLayerAnswer w policy (Err (NestedBlocks a b)) = policy_fault w.design w.arcs w.all.clocks policy.lines ≡ Some (NestedBlocks a b)
IsLayerAnswer w policy (Err (UnknownClock name)) = policy_fault w.design w.arcs w.all.clocks policy.lines ≡ Some (UnknownClock name)
IsLayerAnswer w policy (Err (TooManyStates count)) = (policy_fault w.design w.arcs w.all.clocks policy.lines ≡ None) × HasManyStates w × (count ≡ 8388609)
IsLayerAnswer w policy (Err (TooManyItems count)) = IsAcceptedPolicy w policy × HasManyItems w × (count ≡ 4194305)
IsLayerAnswer w policy (Err NoMemory) = Unit {0}
