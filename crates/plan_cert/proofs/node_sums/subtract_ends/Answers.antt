use Rattle.std.proofs.Common.{arith, length, ◌≤◌, ◌≡◌, to_z, of_z, w64}
use Rattle.std.proofs.lemmas.Int.{ints}
use Rattle.std.proofs.lemmas.List.{length-map}
use Rattle.cert_text.specs.Certs.{plan_in}
use Rattle.plan_cert.proofs.NodeSumLemmas.{AreSums-range, excess_sum-range, excess_sum-step}
use Rattle.plan_cert.proofs.node_sums.subtract_ends.Goals as goal

pub subtract-requires-clause-sum : goal.subtract-requires-clause-sum
subtract-requires-clause-sum c =
    let items : length c.args.problem.now.items ≡ length (plan_in c.args.cert.now).flow = simp length-map (omega arith) in
    let few : length c.args.problem.now.items ≤ 8388608 = omega (arith, c.requires.sound.limits.items) in
    let within : c.loop-e.e ≤ length (plan_in c.args.cert.now).end_flow = simp length-map (omega arith) in
    let starts : length c.args.problem.now.starts ≡ length (plan_in c.args.cert.now).start_flow = simp length-map (omega arith) in
    let all : length c.args.problem.now.starts ≤ 8388608 = c.requires.sound.limits.starts in
    let ends : c.loop-e.e ≤ 8388608 = omega (arith, c.requires.sound.limits.ends) in
    AreSums-range _ _ _ c.loop-e.invariant (λ v. excess_sum-range c.args.problem.now (plan_in c.args.cert.now) c.requires.numbers c.loop-e.e v items few starts all within ends) _
    (rw c.as_slice.ensures (c.requires.sound.ends c.loop-e.e _ (omega arith)).node)

pub loop-e-preserved : goal.loop-e-preserved
loop-e-preserved c =
    excess_sum-step c.args.problem.now (plan_in c.args.cert.now) c.loop-e.e c.as_slice.result.now c.loop-e.sums c.subtract.new.sums (to_z w64 (of_z w64 c.end_flow_at-flow.result))
    c.as_slice.ensures (omega (arith, ints, c.end_flow_at-flow.ensures)) c.loop-e.invariant (omega arith) c.subtract.ensures
