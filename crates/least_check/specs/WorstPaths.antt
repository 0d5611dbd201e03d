-- A path of the least slack in a buffer.
use Rattle.std.specs.Prelude.{◌≤◌, Option, Some, None, List, length, drop}
use Rattle.bud_base.specs.Paths.{Path, IsPathOfSlack, IsLeastSlack, HasNoPath}
use Rattle.bud_base.specs.declared.ids.ItemId.{ItemId}
use Rattle.bud_base.specs.declared.problems.Problem.{Problem}
use Rattle.least_check.specs.declared.worst_paths.WorstPath.{WorstPath}

-- the path whose items stand from its beginning to the buffer's end
abbrev pub path_in : List ItemId → WorstPath → Path
path_in buffer worst = record { start = worst.start; items = drop worst.begin buffer; end = worst.end }

pub record IsWorst (p : Problem) (buffer : List ItemId) (worst : WorstPath) : Type 0 where
  pub within : worst.begin ≤ length buffer
  pub has_slack : IsPathOfSlack p worst.slack (path_in buffer worst)
  pub least : IsLeastSlack p worst.slack

-- a path of the least slack, or none where there is no path
abbrev pub IsWorstPath : Problem → List ItemId → Option WorstPath → Type 0
IsWorstPath p buffer None = HasNoPath p
IsWorstPath p buffer (Some worst) = IsWorst p buffer worst
