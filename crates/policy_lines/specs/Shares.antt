-- Shares as definitions see them, and lines whose shares are in range.
use Rattle.std.specs.Prelude.{pos, ◌≤ℤ◌, ◌≤◌}
use Rattle.bud_design.specs.Policies as policies
use Rattle.bud_design.specs.declared.policies.PolicyLine.{PolicyLine}
use Rattle.bud_design.specs.declared.policies.PolicyLine.TheVariants as line
use Rattle.policy_lines.specs.declared.shares.Share.{Share}

abbrev pub share_seen : Share → policies.Share
share_seen x = record { extra = x.extra; weight = x.weight }

-- an extra of 0 to 10^9 ps and a weight of at most 2^20
pub record IsSoundShare (x : policies.Share) : Type 0 where
  pub low : pos 0 ≤ℤ x.extra
  pub high : x.extra ≤ℤ pos 1000000000
  pub most : x.weight ≤ 1048576

-- what a policy's line may give
abbrev pub IsSoundLine : PolicyLine → Type 0
IsSoundLine (line.Block path) = Unit {0}
IsSoundLine (line.Default extra weight clock) = IsSoundShare (record { extra = extra; weight = weight })
IsSoundLine (line.Inst path extra weight clock) = IsSoundShare (record { extra = extra; weight = weight })
IsSoundLine (line.Arc from to extra weight clock) = IsSoundShare (record { extra = extra; weight = weight })
