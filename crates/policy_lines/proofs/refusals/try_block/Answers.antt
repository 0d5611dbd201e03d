use Rattle.std.proofs.Common.{None, slice_index_or, subst, sym, arith}
use Rattle.std.proofs.lemmas.Slice.Zip.{AllZip-long}
use Rattle.bud_design.specs.declared.policies.PolicyLine.{PolicyLine}
use Rattle.layer_theory.proofs.LayerPlaces.{zip-at}
use Rattle.policy_lines.specs.Lines.{IsBlockNumber}
use Rattle.policy_lines.proofs.refusals.try_block.Goals as goal

pub bounds-numbers-index : goal.bounds-numbers-index
bounds-numbers-index c = omega (arith, AllZip-long (IsBlockNumber c.args.flat.now) c.args.before.now c.args.numbers.now c.requires.numbers, c.loop-index-test.true)

pub is_nested-requires-clause-number : goal.is_nested-requires-clause-number
is_nested-requires-clause-number c =
    subst (λ (x : PolicyLine). IsBlockNumber c.args.flat.now x (slice_index_or c.args.numbers.now c.loop-index.index None)) (sym c.index-before-index.is)
    (zip-at (IsBlockNumber c.args.flat.now) c.args.before.now c.args.numbers.now c.requires.numbers c.loop-index.index c.index-before-index.result None c.loop-index-test.true)
