use Rattle.std.proofs.Common.{sym, ◌∙◌, arith}
use Rattle.block_objects.proofs.FreeLetters.{taken_low, find_on, find_here}
use Rattle.block_objects.proofs.prefixes.prefix.Goals as goal

pub loop-letters-preserved : goal.loop-letters-preserved
loop-letters-preserved c =
    let taken = sym c.in_ok-is_taken.ensures.value ∙ c.if-branch.true in
    let low = taken_low c.args.clocks.now c.loop-letters.letters taken in
    (c.loop-letters.invariant.0 ∙ find_on c.args.clocks.now c.loop-letters.letters c.loop-letters.invariant.1 taken, omega (arith, low))

pub returns : goal.returns
returns c =
    let free = sym c.in_ok-is_taken.ensures.value ∙ c.if-branch.false in
    c.from_vec.ensures ∙ (c.in_ok-prefix_with.ensures ∙ sym (find_here c.args.clocks.now c.loop-letters.letters c.loop-letters.invariant.1 free c.loop-letters.invariant.0))
