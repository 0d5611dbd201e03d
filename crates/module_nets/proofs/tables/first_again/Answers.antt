use Rattle.std.proofs.Common.{◌≡◌, ap, Bool, true, false, not}
use Rattle.module_nets.specs.Tables.{holds}
use Rattle.module_nets.proofs.TableSteps.{items_again, items_more, items_all}
use Rattle.module_nets.proofs.tables.first_again.Goals as goal

was_there : (fresh there : Bool) → fresh ≡ not there → fresh ≡ false → there ≡ true
was_there true there is f = absurd (cc)
was_there false true is f = ap (λ b. b) (λ k. true)
was_there false false is f = absurd (cc)

was_new : (fresh there : Bool) → fresh ≡ not there → fresh ≡ true → there ≡ false
was_new false there is f = absurd (cc)
was_new true true is f = absurd (cc)
was_new true false is f = ap (λ b. b) (λ k. false)

pub returns-then-not-branch-clause-again : goal.returns-then-not-branch-clause-again
returns-then-not-branch-clause-again g c = λ seen noted.
    items_again g.T.Declared.name_of c.args.items.now c.loop-item.item-index c.item-item.result seen (holds c.loop-item.names) (holds c.note.new.names) c.name-name.result.now
    c.loop-item-test.true c.item-item.is c.name-name.ensures (c.loop-item.invariant seen noted)
    (was_there c.in_ok-note.field-0 (holds c.loop-item.names c.name-name.result.now) c.in_ok-note.ensures.fresh c.if-not-branch.true)

pub loop-item-preserved : goal.loop-item-preserved
loop-item-preserved g c = λ seen noted.
    items_more g.T.Declared.name_of c.args.items.now c.loop-item.item-index c.item-item.result seen (holds c.loop-item.names) (holds c.note.new.names) c.name-name.result.now
    c.loop-item-test.true c.item-item.is c.name-name.ensures (c.loop-item.invariant seen noted)
    (was_new c.in_ok-note.field-0 (holds c.loop-item.names c.name-name.result.now) c.in_ok-note.ensures.fresh c.if-not-branch.false) c.in_ok-note.ensures.noted

pub returns-clause-again : goal.returns-clause-again
returns-clause-again g c = λ seen noted. items_all g.T.Declared.name_of c.args.items.now c.loop-item.item-index seen (holds c.loop-item.names) c.loop-item-test.false (c.loop-item.invariant seen noted)
