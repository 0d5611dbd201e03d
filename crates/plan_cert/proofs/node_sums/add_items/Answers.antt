use Rattle.std.proofs.Common.{arith, length, ◌≤◌, to_z, of_z, w64}
use Rattle.std.proofs.lemmas.Int.{ints}
use Rattle.std.proofs.lemmas.List.{length-map}
use Rattle.cert_text.specs.Certs.{plan_in}
use Rattle.plan_cert.proofs.NodeSumLemmas.{AreSums-range, items_sum-range, items_sum-middle, items_sum-step}
use Rattle.plan_cert.proofs.node_sums.add_items.Goals as goal

pub add-requires-clause-sum : goal.add-requires-clause-sum
add-requires-clause-sum c =
    let few : c.loop-i.i ≤ 8388608 = omega (arith, c.requires.sound.limits.items) in
    let within : c.loop-i.i ≤ length (plan_in c.args.cert.now).flow = simp length-map (omega arith) in
    AreSums-range _ _ _ c.loop-i.invariant (λ v. items_sum-range c.args.problem.now (plan_in c.args.cert.now) c.requires.numbers c.loop-i.i v within few) _
    (rw c.as_slice.ensures (c.requires.sound.items c.loop-i.i _ (omega arith)).to)

pub subtract-requires-clause-sum : goal.subtract-requires-clause-sum
subtract-requires-clause-sum c =
    let few : c.loop-i.i ≤ 8388608 = omega (arith, c.requires.sound.limits.items) in
    let within : c.loop-i.i ≤ length (plan_in c.args.cert.now).flow = simp length-map (omega arith) in
    items_sum-middle c.args.problem.now (plan_in c.args.cert.now) c.loop-i.i c.as_slice.result.now c.loop-i.sums c.add.new.sums (to_z w64 (of_z w64 c.item_flow_at-flow.result))
    c.as_slice.ensures (omega (arith, ints, c.item_flow_at-flow.ensures)) c.loop-i.invariant c.add.ensures c.requires.numbers
    (record { low = omega (arith, ints, c.item_flow_at-flow.ensures); high = omega (arith, ints, c.item_flow_at-flow.ensures) }) within few _
    (rw c.as_slice.ensures (c.requires.sound.items c.loop-i.i _ (omega arith)).from)

pub loop-i-preserved : goal.loop-i-preserved
loop-i-preserved c =
    items_sum-step c.args.problem.now (plan_in c.args.cert.now) c.loop-i.i c.as_slice.result.now c.loop-i.sums c.add.new.sums (to_z w64 (of_z w64 c.item_flow_at-flow.result))
    c.as_slice.ensures (omega (arith, ints, c.item_flow_at-flow.ensures)) c.loop-i.invariant c.add.ensures c.subtract.new.sums (omega arith) (omega arith) c.subtract.ensures
