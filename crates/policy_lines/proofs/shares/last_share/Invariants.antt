use Rattle.std.proofs.Common.{◌≡◌, ◌≤◌, take, length}
use Rattle.bud_design.specs.Policies.{share, share_of as share_by}
use Rattle.policy_lines.proofs.LineLaws.{last_of}
use Rattle.policy_lines.proofs.shares.last_share.Given as goal

abbrev pub invariant-loop-place : goal.invariant-loop-place
invariant-loop-place l = (share l.flat l.graph.arcs l.lines l.arc.0 l.clock ≡ last_of (share_by l.flat l.graph.arcs l.arc.0 l.clock) (take l.place l.lines)) × (l.place ≤ length l.lines)

abbrev pub decreases-loop-place : goal.decreases-loop-place
decreases-loop-place l = l.place
