use Rattle.std.proofs.Common.{◌≡◌, true, arith}
use Rattle.state_numbers.specs.Placed.{placed_before}
use Rattle.state_numbers.proofs.Rising.{AllPairs-from_adjacent, placed_before-joins}
use Rattle.state_numbers.proofs.placed.are_rising.Goals as goal

pub returns : goal.returns
returns c = λ is. AllPairs-from_adjacent (λ x y. placed_before x y ≡ true) placed_before-joins c.args.list.now (λ k d below. c.loop-place.invariant k d (omega (arith, below)))
