use Rattle.std.proofs.Common.{◌≡◌, drop}
use Rattle.timing_objects.specs.Answers.{each}
use Rattle.timing_objects.specs.Objects.{things_in}
use Rattle.timing_objects.proofs.AnswerLaws.{behind}
use Rattle.timing_objects.proofs.judging.all_things.Given as goal

abbrev pub invariant-loop-object : goal.invariant-loop-object
invariant-loop-object l = each (things_in l.scene l.role l.clocks) l.objects ≡ behind l.things.items (each (things_in l.scene l.role l.clocks) (drop l.object-index l.objects))
