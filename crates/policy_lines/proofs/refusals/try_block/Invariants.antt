use Rattle.std.proofs.Common.{◌≡◌, drop}
use Rattle.policy_lines.proofs.LineLaws.{nested_block}
use Rattle.policy_lines.proofs.refusals.try_block.Given as goal

abbrev pub invariant-loop-index : goal.invariant-loop-index
invariant-loop-index l = nested_block l.flat l.place l.before ≡ nested_block l.flat l.place (drop l.index l.before)
