use Rattle.std.proofs.Common.{◌+◌, ◌-◌, ◌/◌, sym, ◌∙◌, arith}
use Rattle.state_numbers.proofs.Searching.{IsSearched-behind, IsSearched-before, IsPlaced-between}
use Rattle.state_numbers.proofs.placed.find_placed.Goals as goal

pub loop-low-preserved-then-is_before : goal.loop-low-preserved-then-is_before
loop-low-preserved-then-is_before c =
    IsSearched-behind c.args.list.now c.args.«class» c.args.number c.loop-low.low c.loop-low.high (c.loop-low.low + (c.loop-low.high - c.loop-low.low) / 2) c.requires (omega arith)
    (sym c.is_before.ensures ∙ c.if-is_before.true) c.loop-low.invariant

pub loop-low-preserved : goal.loop-low-preserved
loop-low-preserved c =
    IsSearched-before c.args.list.now c.args.«class» c.args.number c.loop-low.low c.loop-low.high (c.loop-low.low + (c.loop-low.high - c.loop-low.low) / 2) c.requires (omega arith) (omega arith)
    (sym c.is_before-else-is_before.ensures ∙ c.if-is_before-2.true) c.loop-low.invariant
