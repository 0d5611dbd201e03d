use Rattle.std.proofs.lemmas.Result.{err_from_is_err_and}
use Rattle.policy_reader.proofs.PolicyLaws.{refused, policy_sound}
use Rattle.policy_reader.proofs.reader.read_in_ranges.Goals as goal

pub returns-in_err-policy-clause-answer : goal.returns-in_err-policy-clause-answer
returns-in_err-policy-clause-answer c =
    let p = err_from_is_err_and c.from_residual.result c.from_residual.ensures.1 in
    rw (p.1, p.2) (refused _ _ c.in_err-policy.ensures.read)

pub returns-in-None-clause-answer : goal.returns-in-None-clause-answer
returns-in-None-clause-answer c = policy_sound _ _ _ (rw c.in-None.is at c.in_ok-policy.ensures.read)

pub returns-in-Some-clause-answer : goal.returns-in-Some-clause-answer
returns-in-Some-clause-answer c = (c.in_ok-policy.policy, policy_sound _ _ _ (rw c.in-Some.is at c.in_ok-policy.ensures.read))
