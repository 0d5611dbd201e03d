use Rattle.state_numbers.specs.Ranks.{AreKeys}
use Rattle.state_numbers.proofs.ranks.live_keys.Given as goal

abbrev pub invariant-loop-kind : goal.invariant-loop-kind
invariant-loop-kind l = AreKeys l.firsts l.kind l.keys.items
