use Rattle.least_check.proofs.TraceSteps.{IsTracing-none, IsTracing-more}
use Rattle.least_check.proofs.traces.trace.Goals as goal

pub loop-last-init : goal.loop-last-init
loop-last-init c = IsTracing-none _ _ _ _ _ c.requires.swept c.requires.node c.requires.room c.unwrap-last.ensures

pub loop-last-preserved : goal.loop-last-preserved
loop-last-preserved c =
    IsTracing-more _ _ _ _ _ _ _ _ c.requires.sound c.in-OfItem.is (rw c.as_slice-items.ensures at c.unwrap-last-in-OfItem.ensures) c.loop-last.invariant
