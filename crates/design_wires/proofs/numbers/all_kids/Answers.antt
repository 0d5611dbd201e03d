use Rattle.std.proofs.Common.{◌+◌, ℕ, List, length, sym, subst}
use Rattle.bud_design.specs.DesignRules.{HasParent}
use Rattle.design_wires.specs.Numbers.{IsBelow, AreKidsBefore}
use Rattle.design_wires.proofs.NumberLaws.{kids-step, parent-below}
use Rattle.design_wires.proofs.numbers.all_kids.Goals as goal

pub put_kid-requires : goal.put_kid-requires
put_kid-requires c =
    let has = subst (HasParent c.loop-number.number) (sym c.above.ensures) (c.requires.parents c.loop-number.number c.loop-number-test.true) in
    subst (λ (n : ℕ). IsBelow n c.above.result) (sym c.loop-number.invariant.size) (parent-below c.loop-number.number (length c.args.places.now) c.above.result c.loop-number-test.true has)

pub loop-number-preserved : goal.loop-number-preserved
loop-number-preserved c =
    let has = subst (HasParent c.loop-number.number) (sym c.above.ensures) (c.requires.parents c.loop-number.number c.loop-number-test.true) in
    let below = parent-below c.loop-number.number (length c.args.places.now) c.above.result c.loop-number-test.true has in
    subst (λ (kids : List (List ℕ)). AreKidsBefore c.args.places.now (c.loop-number.number + 1) kids) (sym c.in_ok-put_kid.ensures)
    (kids-step c.args.places.now c.loop-number.number c.loop-number.kids.items c.above.result (sym c.above.ensures) below c.loop-number.invariant)
