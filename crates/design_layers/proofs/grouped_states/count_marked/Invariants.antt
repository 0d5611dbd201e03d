use Rattle.std.proofs.Common.{◌≡◌, ◌≤◌, ◌+◌, false, drop, filter, length, slice_index_or}
use Rattle.path_states.specs.declared.tables.State.{State}
use Rattle.design_layers.proofs.grouped_states.count_marked.Given as goal

abbrev pub invariant-loop-state : goal.invariant-loop-state
invariant-loop-state l =
    (length (filter (λ (s : State). slice_index_or l.marks s.kind false) l.states) ≡ l.count + length (filter (λ (s : State). slice_index_or l.marks s.kind false) (drop l.state-index l.states)))
    × (l.count ≤ l.state-index)
