use Rattle.std.proofs.Common.{sym, ◌∙◌, arith}
use Rattle.bud_design.specs.Arcs.{is_clocked}
use Rattle.timing_objects.proofs.SpanSteps.{any-yes, any-no, any-end}
use Rattle.timing_objects.proofs.scenes.Scene.is_register.Goals as goal

pub returns-then-is_clocked : goal.returns-then-is_clocked
returns-then-is_clocked c =
    sym (c.loop-number.invariant ∙ any-yes (is_clocked c.args.self.now.timing) c.loop-number.number c.span_of-span.result.end (omega arith) (sym c.is_clocked.ensures ∙ c.if-is_clocked.true))

pub loop-number-preserved : goal.loop-number-preserved
loop-number-preserved c =
    c.loop-number.invariant ∙ any-no (is_clocked c.args.self.now.timing) c.loop-number.number c.span_of-span.result.end (omega arith) (sym c.is_clocked.ensures ∙ c.if-is_clocked.false)

pub returns : goal.returns
returns c = sym (c.loop-number.invariant ∙ any-end (is_clocked c.args.self.now.timing) c.loop-number.number c.span_of-span.result.end (omega arith))
