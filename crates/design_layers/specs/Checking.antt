-- A layering whose problem is checked.
use Rattle.std.specs.Prelude.{◌≡◌, Result, Ok, Err}
use Rattle.bud_base.specs.Soundness.{IsSound}
use Rattle.bud_design.specs.declared.layers.Layered.{Layered}
use Rattle.layer_theory.specs.declared.refusals.LayerFault.{LayerFault}
use Rattle.layer_theory.specs.declared.refusals.LayerFault.TheVariants.{UnknownArc, UnknownInstance, NestedBlocks, UnknownClock, TooManyStates, TooManyItems, NoMemory}

-- the layering as it was, with a sound problem, or want of memory
abbrev pub IsCheckedAnswer : Layered → Result Layered LayerFault → Type 0
IsCheckedAnswer layered (Ok same) = (same ≡ layered) × IsSound layered.problem
IsCheckedAnswer layered (Err (UnknownArc from to)) = ⊥
IsCheckedAnswer layered (Err (UnknownInstance name)) = ⊥
IsCheckedAnswer layered (Err (NestedBlocks a b)) = ⊥
IsCheckedAnswer layered (Err (UnknownClock name)) = ⊥
IsCheckedAnswer layered (Err (TooManyStates count)) = ⊥
IsCheckedAnswer layered (Err (TooManyItems count)) = ⊥
IsCheckedAnswer layered (Err NoMemory) = Unit {0}
