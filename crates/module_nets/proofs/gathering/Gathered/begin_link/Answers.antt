use Rattle.module_nets.specs.Gathering.{Gathers}
use Rattle.module_nets.proofs.JudgeSteps.{on_ok}
use Rattle.module_nets.proofs.gathering.Gathered.begin_link.Goals as goal

pub returns-clause-same : goal.returns-clause-same
returns-clause-same c = λ ports nets so_far.
    on_ok c.put_link.result (Gathers ports nets _) (record { places = so_far.places; bits = so_far.bits; local = so_far.local; names = so_far.names })
