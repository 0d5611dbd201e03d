-- What a job comes to: an answer, or a refusal with its cause.
use Rattle.std.specs.Prelude.{ℕ, List, [], Result, Ok, Err}
use Rattle.budget_report.specs.declared.causes.Cause.{Cause}
use Rattle.budget_report.specs.declared.statuses.Status.{Status}
use Rattle.budget_report.specs.declared.statuses.Status.TheVariants.{Done, Memory}
use Rattle.budget_report.specs.Causes.{status_of, text_of, memory_text}
use Rattle.budget_report.specs.Subjects.{Subject}
use Rattle.budget_steps.specs.declared.outcomes.Said.{Said}
use Rattle.budget_steps.specs.declared.outcomes.Write.{Write}
use Rattle.budget_steps.specs.declared.outcomes.Answer.{Answer}

-- a cause, and what it speaks of
pub record Refusal : Type 0 where
  pub subject : Subject
  pub cause : Cause

abbrev pub Outcome : Type 0
Outcome = Result Answer Refusal

-- how a run ends, and what is printed
abbrev pub says : Status → List ℕ → Said
says status text = record { status = status; text = text }

-- the job is done and prints this, and writes no file
abbrev pub done : List ℕ → Answer
done text = record { said = says Done text; writes = [] }

abbrev pub refusal_said : Refusal → Said
refusal_said r = says (status_of r.cause) (text_of r.subject r.cause)

abbrev pub said_of : Outcome → Said
said_of (Ok answer) = answer.said
said_of (Err refusal) = refusal_said refusal

-- the files to be written, in order
abbrev pub writes_of : Outcome → List Write
writes_of (Ok answer) = answer.writes
writes_of (Err refusal) = []

abbrev pub memory_said : Said
memory_said = says Memory memory_text
