use Rattle.std.proofs.Common.{ap, ◌∙◌}
use Rattle.std.proofs.Common.{ℕ, suc}
use Rattle.budget_designs.proofs.Numbers.{numbers_on, numbers_few}
use Rattle.budget_designs.proofs.designs.numbers.Goals as goal

pub loop-command-preserved : goal.loop-command-preserved
loop-command-preserved c = record {
  numbered = c.in_ok-push.ensures.ok ∙ numbers_on c.loop-command.yielded c.loop-command.list c.in-Some.command c.in_ok-number.number c.loop-command.invariant.numbered (c.in_ok-number.ensures.number ∙ ap (λ (n : ℕ). suc n) c.len.ensures);
  few = numbers_few c.loop-command.list c.in-Some.command c.in_ok-number.number c.push.new.self c.in_ok-push.ensures.ok (c.in_ok-number.ensures.number ∙ ap (λ (n : ℕ). suc n) c.len.ensures) c.in_ok-number.ensures.few;
}
