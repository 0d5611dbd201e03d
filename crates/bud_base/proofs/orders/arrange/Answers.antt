use Rattle.std.proofs.Common.{[], arith}
use Rattle.bud_base.specs.Paths.{item_at}
use Rattle.bud_base.proofs.Arrangements.{IsArranged-new, IsOrder-from_arranged}
use Rattle.bud_base.proofs.orders.arrange.Goals as goal

pub loop-root-init : goal.loop-root-init
loop-root-init c = (IsArranged-new _ _ _ c.requires.new, λ n below. absurd (omega arith))

pub returns : goal.returns
returns c =
    IsOrder-from_arranged _ _ _ _ (omega arith)
    (λ i inside. let ends = c.requires.within i (item_at [] 0) inside in omega (arith, ends.from))
    (λ n below. c.loop-root.invariant.1 n (omega arith)) c.loop-root.invariant.0
