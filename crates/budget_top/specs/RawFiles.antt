-- The file of a raw problem: a problem text.
use Rattle.bud_base.specs.declared.problems.Problem.{Problem}
use Rattle.bud_base.specs.declared.texts.TextFault.{TextFault}
use Rattle.budget_report.specs.declared.causes.Cause.TheVariants.{Text}
use Rattle.problem_text.specs.Problems.{IsReadAnswer as IsProblemAnswer}
use Rattle.budget_steps.specs.Inputs.{Grammar}

abbrev pub problems : Grammar Problem TextFault
problems = record { answers = IsProblemAnswer; cause = λ name fault. Text name fault }
