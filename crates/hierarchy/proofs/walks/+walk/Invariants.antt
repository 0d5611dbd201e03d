use Rattle.std.proofs.Common.{◌≡◌, ◌+◌, ◌*◌, drop}
use Rattle.module_nets.specs.Tops.{module_at}
use Rattle.hierarchy.specs.Walking.{built_of, SameTrail, IsWalk, steps}
use Rattle.hierarchy.proofs.walks.+walk.Given as goal

abbrev pub invariant-put_inside-loop-k : goal.invariant-put_inside-loop-k
invariant-put_inside-loop-k l = record {
  rest : steps l.library.modules.now l.levels l.kind l.initial.walk.trail l.here (drop l.k (module_at l.library.modules.now l.kind).instances) (built_of l.walk)
      ≡ steps l.library.modules.now l.levels l.kind l.initial.walk.trail l.here (module_at l.library.modules.now l.kind).instances (built_of l.initial.walk);
  trail : SameTrail l.initial.walk.trail l.walk.trail;
  walk : IsWalk l.library.modules.now l.walk;
}

abbrev pub decreases-put_inside : goal.decreases-put_inside
decreases-put_inside l = 2 * l.levels + 1

abbrev pub decreases-put_whole : goal.decreases-put_whole
decreases-put_whole l = 2 * l.levels
