use Rattle.std.proofs.Common.{arith, length, ◌≤◌, ◌≡◌, to_z, of_z, w64}
use Rattle.std.proofs.lemmas.Int.{ints}
use Rattle.std.proofs.lemmas.List.{length-map}
use Rattle.cert_text.specs.Certs.{plan_in}
use Rattle.plan_cert.proofs.NodeSumLemmas.{AreSums-range, inflow_sum-range, inflow_sum-step}
use Rattle.plan_cert.proofs.node_sums.add_starts.Goals as goal

pub add-requires-clause-sum : goal.add-requires-clause-sum
add-requires-clause-sum c =
    let items : length c.args.problem.now.items ≡ length (plan_in c.args.cert.now).flow = simp length-map (omega arith) in
    let few : length c.args.problem.now.items ≤ 8388608 = omega (arith, c.requires.sound.limits.items) in
    let within : c.loop-s.s ≤ length (plan_in c.args.cert.now).start_flow = simp length-map (omega arith) in
    let starts : c.loop-s.s ≤ 8388608 = omega (arith, c.requires.sound.limits.starts) in
    AreSums-range _ _ _ c.loop-s.invariant (λ v. inflow_sum-range c.args.problem.now (plan_in c.args.cert.now) c.requires.numbers c.loop-s.s v items few within starts) _
    (rw c.as_slice.ensures (c.requires.sound.starts c.loop-s.s _ (omega arith)).node)

pub loop-s-preserved : goal.loop-s-preserved
loop-s-preserved c =
    inflow_sum-step c.args.problem.now (plan_in c.args.cert.now) c.loop-s.s c.as_slice.result.now c.loop-s.sums c.add.new.sums (to_z w64 (of_z w64 c.start_flow_at-flow.result))
    c.as_slice.ensures (omega (arith, ints, c.start_flow_at-flow.ensures)) c.loop-s.invariant (omega arith) c.add.ensures
