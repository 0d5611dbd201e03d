-- The numbers of the statuses.
use Rattle.std.specs.Prelude.{ℕ}
use Rattle.budget_report.specs.declared.statuses.Status.{Status}
use Rattle.budget_report.specs.declared.statuses.Status.TheVariants.{Done, Violated, Words, Fault, Refused, Design, Limit, Certificate, Memory}

abbrev pub code_of : Status → ℕ
code_of Done = 0
code_of Violated = 1
code_of Words = 2
code_of Fault = 3
code_of Refused = 4
code_of Design = 5
code_of Limit = 6
code_of Certificate = 7
code_of Memory = 8
