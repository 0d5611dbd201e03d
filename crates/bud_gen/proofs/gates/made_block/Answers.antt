use Rattle.std.proofs.Common.{◌∙◌, ap}
use Rattle.bud_gen.specs.Gates.{gate_from}
use Rattle.bud_gen.proofs.BlockLemmas.{block_next}
use Rattle.bud_gen.proofs.gates.made_block.Goals as goal

pub loop-g-preserved : goal.loop-g-preserved
loop-g-preserved c =
    block_next c.args.number c.first-low.result c.loop-g.g c.loop-g.draws.state c.made_gate-gate.new.draws.state
    c.loop-g.list.items c.push.new.self.items c.loop-g.signals.items c.push-in-loop-g.new.self.items c.made_gate-gate.result c.given.result
    c.loop-g.invariant
    (c.made_gate-gate.ensures.gate ∙ ap (λ s. gate_from c.loop-g.draws.state s c.loop-g.g) c.as_slice.ensures.value)
    c.given.ensures
    c.made_gate-gate.ensures.state
    c.made_gate-gate.ensures.range
    c.in_ok-push.ensures.items
    c.in_ok-push-2.ensures.items
