use Rattle.std.proofs.Common.{◌+◌, ◌*◌, ℕ, arith, subst}
use Rattle.residual.specs.Arcs.{arc_at}
use Rattle.residual.specs.Leaving.{AreListed}
use Rattle.residual.proofs.Leaving.{AreListed-none, AreListed-more, tail_of-arc, tail_of-reverse}
use Rattle.residual.proofs.adjacency.lists_of.Goals as goal

pub loop-arc-init : goal.loop-arc-init
loop-arc-init c = AreListed-none c.args.arcs.now c.in_ok-lists.lists c.args.nodes c.in_ok-lists.ensures

pub push-requires : goal.push-requires
push-requires c = omega (arith, c.requires.nodes.from c.loop-arc.arc c.loop-arc-test.true, c.loop-arc.invariant.size)

pub loop-arc-preserved : goal.loop-arc-preserved
loop-arc-preserved c =
    let j : ℕ = c.loop-arc.arc in
    let first : AreListed c.args.arcs.now c.push.new.self c.args.nodes (2 * j + 1) =
    AreListed-more c.args.arcs.now c.loop-arc.lists c.push.new.self c.args.nodes (2 * j) (2 * j + 1) (arc_at c.args.arcs.now j).from.0 (c.requires.nodes.from j c.loop-arc-test.true) (tail_of-arc c.args.arcs.now j) (omega arith)
    c.in_ok-push.ensures.pushed c.loop-arc.invariant in
    AreListed-more c.args.arcs.now c.push.new.self c.push-in-loop-arc.new.self c.args.nodes (2 * j + 1) (2 * (j + 1)) (arc_at c.args.arcs.now j).to.0 (c.requires.nodes.to j c.loop-arc-test.true) (tail_of-reverse c.args.arcs.now j) (omega arith)
    c.in_ok-push-2.ensures.pushed first

pub returns : goal.returns
returns c =
    let P : ℕ → Type 0 = λ k. AreListed c.args.arcs.now c.loop-arc.lists c.args.nodes k in
    subst P (omega (arith, c.loop-arc-test.false, c.loop-arc.auto.arc-end)) c.loop-arc.invariant
