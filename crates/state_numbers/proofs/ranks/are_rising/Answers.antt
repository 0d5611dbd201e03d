use Rattle.std.proofs.Common.{◌≡◌, true, arith}
use Rattle.state_numbers.specs.Ranks.{key_before}
use Rattle.state_numbers.proofs.Rising.{AllPairs-from_adjacent, key_before-joins}
use Rattle.state_numbers.proofs.ranks.are_rising.Goals as goal

pub returns : goal.returns
returns c =
    λ is. AllPairs-from_adjacent (λ x y. key_before c.args.classes.now x y ≡ true) (key_before-joins c.args.classes.now) c.args.keys.now
    (λ k d below. c.loop-place.invariant k d (omega (arith, below)))
