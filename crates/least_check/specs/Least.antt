-- What a check answers, and the path that it keeps.
use Rattle.std.specs.Prelude.{ℤ, pos, ◌≤ℤ◌, ◌<ℤ◌, int_lt, if◌then◌else◌}
use Rattle.bud_base.specs.Paths.{Path, IsPathOfSlack, IsLeastSlack, HasNoPath}
use Rattle.bud_base.specs.declared.problems.Problem.{Problem}
use Rattle.least_check.specs.declared.checks.Least.{Least}
use Rattle.least_check.specs.declared.checks.Least.TheVariants.{NoPaths, Meets, Violated}

-- there is no path, or this is the least slack, which is at least 0 where the problem meets and below 0 where it is violated
abbrev pub IsLeastAnswer : Problem → Least → Type 0
IsLeastAnswer p NoPaths = HasNoPath p
IsLeastAnswer p (Meets s) = IsLeastSlack p s × (pos 0 ≤ℤ s)
IsLeastAnswer p (Violated s) = IsLeastSlack p s × (s <ℤ pos 0)

-- where there is a path, the kept one has the slack that was answered
abbrev pub KeepsWorst : Problem → Path → Least → Type 0
KeepsWorst p path NoPaths = Unit {0}
KeepsWorst p path (Meets s) = IsPathOfSlack p s path
KeepsWorst p path (Violated s) = IsPathOfSlack p s path

-- what a least slack says
abbrev pub judgement : ℤ → Least
judgement s = if int_lt s (pos 0) then Violated s else Meets s
