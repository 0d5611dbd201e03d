use Rattle.std.proofs.Common.{◌≡◌, drop}
use Rattle.timing_objects.specs.Answers.{each}
use Rattle.timing_objects.proofs.AnswerLaws.{behind}
use Rattle.timing_scopes.specs.Resolving.{group_of}
use Rattle.timing_scopes.proofs.exceptions.groups_of.Given as goal

abbrev pub invariant-loop-group : goal.invariant-loop-group
invariant-loop-group l = each (group_of l.scene l.clocks) l.groups ≡ behind l.found.items (each (group_of l.scene l.clocks) (drop l.group-index l.groups))
