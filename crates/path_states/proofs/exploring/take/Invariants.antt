use Rattle.bud_base.proofs.Trials.{rest_of}
use Rattle.path_states.specs.Tables.{table_of}
use Rattle.path_states.proofs.ExploringSteps.{IsTaking}
use Rattle.path_states.proofs.exploring.take.Given as goal

abbrev pub invariant-loop-next : goal.invariant-loop-next
invariant-loop-next l = IsTaking l.arcs l.all (table_of l.table) l.done l.launch l.next

abbrev pub decreases-loop-next : goal.decreases-loop-next
decreases-loop-next l = rest_of l.arcs l.next
