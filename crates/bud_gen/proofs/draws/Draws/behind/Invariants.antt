use Rattle.std.proofs.Common.{◌≡◌, ◌<◌}
use Rattle.bud_gen.specs.Draws.{behind}
use Rattle.bud_gen.proofs.draws.Draws.behind.Given as goal

abbrev pub invariant-loop : goal.invariant-loop
invariant-loop l = (l.draws.state ≡ behind l.number l.counter) × (l.draws.state < 2147483648)
