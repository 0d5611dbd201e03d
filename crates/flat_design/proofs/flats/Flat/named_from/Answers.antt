use Rattle.std.proofs.Common.{◌<◌, sym, ◌∙◌, arith}
use Rattle.flat_design.specs.Kinds.{count_of}
use Rattle.flat_design.proofs.FlatLaws.{named-here, named-next, named-on, named-less}
use Rattle.flat_design.proofs.flats.Flat.named_from.Goals as goal

pub returns-then-has_name : goal.returns-then-has_name
returns-then-has_name c =
    let below : c.loop-number.number < count_of c.args.kind c.args.self.now = omega (arith, c.loop-number-test.true, c.count-count.ensures.count) in
    named-here c.args.kind c.args.form c.args.self.now c.args.name.now c.args.start c.loop-number.number below (sym c.has_name.ensures ∙ c.if-has_name.true) c.loop-number.invariant.0

pub loop-number-smaller : goal.loop-number-smaller
loop-number-smaller c =
    let below : c.loop-number.number < count_of c.args.kind c.args.self.now = omega (arith, c.loop-number-test.true, c.count-count.ensures.count) in
    let leads = named-next c.args.kind c.args.form c.args.self.now c.args.name.now c.chains-chains.result.now c.loop-number.number c.next-number.result c.chains-chains.ensures
    c.loop-number.invariant.1 below (c.loop-number.invariant.3 below) c.next-number.ensures in
    named-less (count_of c.args.kind c.args.self.now) c.loop-number.number c.next-number.result leads.behind leads.within below

pub loop-number-preserved : goal.loop-number-preserved
loop-number-preserved c =
    let below : c.loop-number.number < count_of c.args.kind c.args.self.now = omega (arith, c.loop-number-test.true, c.count-count.ensures.count) in
    named-on c.args.kind c.args.form c.args.self.now c.args.name.now c.chains-chains.result.now c.args.start c.loop-number.number c.next-number.result c.chains-chains.ensures
    c.loop-number.invariant.1 below (c.loop-number.invariant.3 below) (sym c.has_name.ensures ∙ c.if-has_name.false) c.next-number.ensures c.loop-number.invariant.0
