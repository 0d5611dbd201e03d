use Rattle.std.proofs.Common.{◌≡◌, ◌≤◌, [], drop, take, map, length}
use Rattle.std.specs.List.{AllZip}
use Rattle.layer_theory.specs.PolicyRefusals.{lines_fault}
use Rattle.policy_lines.specs.Lines.{line_number as number_of, IsBlockNumber}
use Rattle.policy_lines.proofs.refusals.line_numbers.Given as goal

abbrev pub invariant-loop-place : goal.invariant-loop-place
invariant-loop-place l =
    (lines_fault l.flat l.graph.arcs l.clocks [] l.lines ≡ lines_fault l.flat l.graph.arcs l.clocks (take l.place l.lines) (drop l.place l.lines))
    × (l.numbers.items ≡ map (number_of l.flat l.graph.arcs) (take l.place l.lines))
    × AllZip (IsBlockNumber l.flat) (take l.place l.lines) l.numbers.items
    × (l.place ≤ length l.lines)
