use Rattle.std.proofs.Common.{◌≡◌, ◌<◌, None, replicate, length, ◌∙◌, arith, rules}
use Rattle.std.proofs.lemmas.List.{get_or_default}
use Rattle.clock_reach.proofs.WalkLemmas.{IsWalked-first, IsWalked-more, AreMarks-from_walk, NoneMarked-new}
use Rattle.clock_reach.proofs.walks.mark_pins.Goals as goal

pub loop-done-init : goal.loop-done-init
loop-done-init c =
    let made : c.in_ok-marks.marks.items ≡ replicate c.args.pins None = search rules in
    IsWalked-first _ _ _ _ _ (omega (arith, c.in_ok-marks.ensures.len)) (NoneMarked-new _ _ made) c.requires.sources c.in_ok-queue.ensures

pub loop-done-preserved : goal.loop-done-preserved
loop-done-preserved c =
    let here : c.loop-done.done < length c.loop-done.walk.queue.items = omega arith in
    IsWalked-more _ _ _ _ _ _ _ _ c.loop-done.invariant here c.index-front.result.now (c.index-front.ensures ∙ get_or_default _ _ _ _ here) c.in_ok-spread.ensures

pub returns : goal.returns
returns c = AreMarks-from_walk _ _ _ _ _ c.loop-done.done (omega arith) c.loop-done.invariant
