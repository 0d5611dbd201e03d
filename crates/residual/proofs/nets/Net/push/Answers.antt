use Rattle.std.proofs.Common.{◌≡◌, ◌+ℤ◌, ◌^◌, pos, length, ◌/◌, List, ℤ, to_z, of_z, arith, set, false, refl, sym, ap, subst, ◌∙◌}
use Rattle.std.proofs.lemmas.Int.{ints}
use mir.Syntax.{w128}
use Rattle.std.specs.Vec.{with_items}
use Rattle.std.proofs.lemmas.List.{with_items_is}
use Rattle.residual.specs.Excesses.{AreExcesses, forward, flows_after, excesses_after}
use Rattle.bud_flow.specs.Sums.{number_at}
use Rattle.node_potentials.specs.Rounds.{Round}
use Rattle.residual.specs.Arcs.{arc_at}
use Rattle.residual.specs.Bounds.{IsWithin, AllWithin}
use Rattle.residual.specs.Networks.{Network, IsKey, IsLawful}
use Rattle.residual.specs.Insides.{network_of}
use Rattle.residual.proofs.Laws.{IsLawful-pushed}
use Rattle.residual.proofs.Keeping.{pushed_is, excesses-within, amount-within, AreExcesses-pushed}
use Rattle.residual.proofs.nets.Net.push.Goals as goal

pub forward_amount-amount-requires : goal.forward_amount-amount-requires
forward_amount-amount-requires c =
    let lawful : IsLawful c.args.self.now = subst IsLawful c.self.view_is c.self.invariant.lawful in
    let same : to_z w128 (of_z w128 c.args.amount) ≡ c.args.amount = omega (arith, ints, c.ranges.amount.sfits) in
    subst (IsWithin (pos (2 ^ 80))) (sym same) (amount-within c.args.self.now c.args.arc c.args.amount lawful c.requires.key c.requires.least c.requires.room)

pub move_excess-requires-clause-excess : goal.move_excess-requires-clause-excess
move_excess-requires-clause-excess c =
    let P : List ℤ → Type 0 = AllWithin (pos (2 ^ 113)) in
    subst P (sym c.deref_mut-2.ensures.value) (excesses-within (network_of c.self.inside) c.self.inside.excess.items c.self.invariant.lawful c.self.invariant.excesses)

pub returns-clause-pushed : goal.returns-clause-pushed
returns-clause-pushed c =
    let over : ℤ = to_z w128 (of_z w128 c.forward_amount-amount.result) in
    let same : to_z w128 (of_z w128 c.args.amount) ≡ c.args.amount = omega (arith, ints, c.ranges.amount.sfits) in
    let is_over : over ≡ forward c.args.arc c.args.amount =
    (omega (arith, ints, c.forward_amount-amount.ensures.within.low, c.forward_amount-amount.ensures.within.high)) ∙ c.forward_amount-amount.ensures.value ∙ ap (forward c.args.arc) same in
    let flows_size : length c.add_at.new.numbers ≡ c.self.inside.flows.len = c.add_at.auto.numbers ∙ c.deref_mut.ensures.len in
    let flows : List ℤ = (with_items c.self.inside.flows c.add_at.new.numbers).items in
    let is_flows : flows ≡ set c.self.inside.flows.items (c.args.arc / 2) (number_at c.self.inside.flows.items (c.args.arc / 2) +ℤ over)
    = with_items_is c.self.inside.flows c.add_at.new.numbers flows_size ∙ rw (← c.deref_mut.ensures.value) c.add_at.ensures in
    let before : Network = network_of c.self.inside in
    let with_round : Round → Network = λ r. record before { flows = flows; kept = r.kept; potentials = r.present; is_open = false } in
    ap with_round c.keep.ensures ∙ pushed_is before c.args.self.now c.args.arc c.args.amount over flows before.potentials c.self.view_is is_flows is_over refl

pub returns-clause-lawful : goal.returns-clause-lawful
returns-clause-lawful c =
    let lawful : IsLawful c.args.self.now = subst IsLawful c.self.view_is c.self.invariant.lawful in
    subst IsLawful (sym (returns-clause-pushed c))
    (IsLawful-pushed c.args.self.now c.args.arc c.args.amount lawful c.requires.key c.requires.reduced c.requires.tight c.requires.least c.requires.room)

pub invariant_of-self : goal.invariant_of-self
invariant_of-self c =
    let net : Network = network_of c.self.inside in
    let same_flows : (with_items c.self.inside.flows c.add_at.new.numbers).items ≡ flows_after c.self.inside.flows.items c.args.arc c.args.amount
    = ap (λ (n : Network). n.flows) (returns-clause-pushed c) ∙ ap (λ (n : Network). flows_after n.flows c.args.arc c.args.amount) (sym c.self.view_is) in
    let over : ℤ = to_z w128 (of_z w128 c.forward_amount-amount.result) in
    let same : to_z w128 (of_z w128 c.args.amount) ≡ c.args.amount = omega (arith, ints, c.ranges.amount.sfits) in
    let is_over : over ≡ forward c.args.arc c.args.amount =
    (omega (arith, ints, c.forward_amount-amount.ensures.within.low, c.forward_amount-amount.ensures.within.high)) ∙ c.forward_amount-amount.ensures.value ∙ ap (forward c.args.arc) same in
    let moved : c.move_excess.new.excess ≡ excesses_after (arc_at c.self.inside.arcs.items (c.args.arc / 2)) (forward c.args.arc c.args.amount) c.self.inside.excess.items
    = rw (c.deref.ensures.value, c.deref_mut-2.ensures.value, is_over) at c.move_excess.ensures in
    let size : length c.move_excess.new.excess ≡ c.self.inside.excess.len = c.move_excess.auto.excess ∙ c.deref_mut-2.ensures.len in
    let written : (with_items c.self.inside.excess c.move_excess.new.excess).items ≡ c.move_excess.new.excess = with_items_is c.self.inside.excess c.move_excess.new.excess size in
    let K : Network → Type 0 = λ n. IsKey n c.args.arc in
    let told : AreExcesses net.arcs (flows_after net.flows c.args.arc c.args.amount) (excesses_after (arc_at net.arcs (c.args.arc / 2)) (forward c.args.arc c.args.amount) c.self.inside.excess.items)
    = AreExcesses-pushed net c.self.inside.excess.items c.args.arc c.args.amount c.self.invariant.lawful (subst K (sym c.self.view_is) c.requires.key) c.self.invariant.excess_size c.self.invariant.excesses in
    let P : List ℤ → Type 0 = λ fs. AreExcesses net.arcs fs (with_items c.self.inside.excess c.move_excess.new.excess).items in
    let Q : List ℤ → Type 0 = λ es. AreExcesses net.arcs (flows_after net.flows c.args.arc c.args.amount) es in
    record {
      lawful = returns-clause-lawful c;
      excess_size = ap length written ∙ c.move_excess.auto.excess ∙ ap length c.deref_mut-2.ensures.value ∙ c.self.invariant.excess_size;
      listed = c.self.invariant.listed;
      ways = c.self.invariant.ways;
      excesses = subst P (sym same_flows) (subst Q (sym (written ∙ moved)) told);
    }
