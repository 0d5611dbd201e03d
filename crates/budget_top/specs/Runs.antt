-- A whole run: the words, the job's outcome, the files that it writes, and the sink.
use Rattle.std.specs.Prelude.{◌≡◌, ◌≢◌, ◌⊎◌, ℕ, ◌≤◌, List, Option, Some, None, Result, Ok, Err}
use Rattle.std.specs.declared.alloc.AllocError.{AllocError}
use Rattle.bud_shelf.specs.Outside.{Files, Rose, OthersStay, IsPutAnswer, IsAppended}
use Rattle.bud_shelf.specs.declared.sinks.SinkFault.{SinkFault}
use Rattle.bud_shelf.specs.declared.sinks.SinkFault.TheVariants.{Failed, NoMemory}
use Rattle.budget_report.specs.declared.statuses.Status.{Status}
use Rattle.budget_report.specs.declared.statuses.Status.TheVariants.{Done, Violated, Words, Fault, Refused, Design, Limit, Certificate, Memory}
use Rattle.budget_report.specs.Statuses.{code_of}
use Rattle.budget_steps.specs.declared.outcomes.Said.{Said}
use Rattle.budget_steps.specs.declared.outcomes.Answer.{Answer}
use Rattle.budget_steps.specs.declared.outcomes.Stop.{Stop}
use Rattle.budget_steps.specs.declared.outcomes.Stop.TheVariants.{Refused as Ended, NoMemory as Wanting}
use Rattle.budget_steps.specs.Outcomes.{Outcome, said_of, writes_of, memory_said}
use Rattle.budget_steps.specs.Inputs.{Seen, unfaulted}
use Rattle.budget_top.specs.Words.{Asked}
use Rattle.budget_top.specs.Jobs.{course, met_by}
use Rattle.budget_top.specs.Writing.{AreWritten, ArePartlyWritten, unwritten, IsKept}

-- the job came to this outcome, and its files are written
pub record Came (job : Option Asked) (shelf : Seen (Option Files)) (outcome : Outcome) : Type 0 where
  pub comes : course shelf job outcome
  pub written : AreWritten shelf.old shelf.new (writes_of outcome)

-- the job came to an outcome, but not all of its files are written: the one of this name is not
pub record Broke (job : Option Asked) (shelf : Seen (Option Files)) (name : List ℕ) : Type 0 where
  pub outcome : Outcome
  pub comes : course shelf job outcome
  pub partly : ArePartlyWritten shelf.old shelf.new (writes_of outcome) name

-- what a run has to say: the outcome; or the file that could not be written, since the count of faults rose; or want of memory
abbrev pub IsSaid : Option Asked → Seen (Option Files) → Said → Type 0
IsSaid job shelf said =
    ((outcome : Outcome) × (Came job shelf outcome × (said ≡ said_of outcome)))
    ⊎ (((name : List ℕ) × (Broke job shelf name × (Rose shelf.before shelf.now × (said ≡ unwritten name))))
    ⊎ (((shelf.new ≡ shelf.old) ⊎ ((name : List ℕ) × Broke job shelf name)) × (said ≡ memory_said)))

-- what there is to say of an end before the answer
abbrev pub stop_said : Stop → Said
stop_said (Ended said) = said
stop_said Wanting = memory_said

-- what there is to say where the files are written, or one isn't
abbrev pub kept_said : Said → Result (Unit {0}) Stop → Said
kept_said said (Ok _) = said
kept_said said (Err stop) = stop_said stop

-- the number that is answered: that of the status, or that of the sink's refusal
abbrev pub answered : Status → Result (Unit {0}) SinkFault → ℕ
answered status (Ok _) = code_of status
answered status (Err Failed) = code_of Fault
answered status (Err NoMemory) = code_of Memory

-- the text was put, and the number is that of the status or of the sink's refusal
abbrev pub IsPut : Seen (Option (List ℕ)) → Said → ℕ → Type 0
IsPut out said number =
    (r : Result (Unit {0}) SinkFault) × (IsPutAnswer out.old out.new out.before out.now said.text r × (number ≡ answered said.status r))

-- what is said of how the job ended, once the files that it writes are written
abbrev pub IsEnd : Result Answer Stop → Seen (Option Files) → Said → Type 0
IsEnd (Ok answer) shelf said =
    (kept : Result (Unit {0}) Stop) × (IsKept shelf answer.writes kept × (said ≡ kept_said answer.said kept))
IsEnd (Err stop) shelf said = (shelf.new ≡ shelf.old) × (said ≡ stop_said stop)

-- the text is put of how the job ended
abbrev pub IsFinished : Result Answer Stop → Seen (Option Files) → Seen (Option (List ℕ)) → ℕ → Type 0
IsFinished ended shelf out number = (said : Said) × (IsEnd ended shelf said × IsPut out said number)

abbrev pub said_or_memory : Result Said AllocError → Said
said_or_memory (Ok said) = said
said_or_memory (Err e) = memory_said

abbrev pub IsRun : Option Asked → Seen (Option Files) → Seen (Option (List ℕ)) → ℕ → Type 0
IsRun job shelf out number = (said : Said) × (IsSaid job shelf said × IsPut out said number)

-- the job came to an outcome of this status, its files are written, and the sink took its text whole
abbrev pub Ends : Option Asked → Seen (Option Files) → Seen (Option (List ℕ)) → Status → Type 0
Ends job shelf out status =
    (outcome : Outcome) × (Came job shelf outcome × (((said_of outcome).status ≡ status) × IsAppended out.old out.new (said_of outcome).text))

-- a file could not be written, and the sink took the line that names it whole
abbrev pub Breaks : Option Asked → Seen (Option Files) → Seen (Option (List ℕ)) → Type 0
Breaks job shelf out =
    (name : List ℕ) × (Broke job shelf name × (Rose shelf.before shelf.now × IsAppended out.old out.new (unwritten name).text))

-- the number is that of the status, unless memory was wanting or a count of faults rose
abbrev pub IsCalled : Seen (Option Files) → Seen (Option (List ℕ)) → Status → ℕ → Type 0
IsCalled shelf out status number =
    (number ≡ code_of status) ⊎ ((number ≡ code_of Memory) ⊎ (Rose shelf.before shelf.now ⊎ Rose out.before out.now))

-- the causes of the statuses, by their numbers
pub record HasCauses (job : Option Asked) (shelf : Seen (Option Files)) (out : Seen (Option (List ℕ))) (number : ℕ) : Type 0 where
  pub done : number ≡ 0 → Ends job shelf out Done
  pub violated : number ≡ 1 → Ends job shelf out Violated
  pub words : number ≡ 2 → job ≡ None
  pub misfit : job ≡ None → IsCalled shelf out Words number
  pub fault : number ≡ 3 → Rose out.before out.now ⊎ (Ends job shelf out Fault ⊎ Breaks job shelf out)
  pub refused : number ≡ 4 → Ends job shelf out Refused
  pub design : number ≡ 5 → Ends job shelf out Design
  pub limit : number ≡ 6 → Ends job shelf out Limit
  pub certificate : number ≡ 7 → Ends job shelf out Certificate
  pub range : number ≤ 8

-- a shelf that tells its files calls for this status
abbrev pub CallsFor : Option Asked → Option Files → Status → Type 0
CallsFor job (Some files) status = (outcome : Outcome) × (course (unfaulted files) job outcome × ((said_of outcome).status ≡ status))
CallsFor job None status = ⊥

-- a shelf that tells its files holds the inputs of a job that finds budgets; they are accepted, and no path is violated at least delays
abbrev pub HasBudgets : Option Asked → Option Files → Type 0
HasBudgets (Some asked) (Some files) = met_by (unfaulted files) asked (Ok tt)
HasBudgets (Some asked) None = ⊥
HasBudgets None files = ⊥

-- no file changes but the job's output
abbrev pub KeepsOthers : Option (List ℕ) → Option Files → Option Files → Type 0
KeepsOthers None old new = new ≡ old
KeepsOthers (Some name) old new = OthersStay old new name

-- the numbers where no file changes: all but those of a job that is done, of a fault and of want of memory
abbrev pub LeavesFiles : ℕ → Type 0
LeavesFiles number = (number ≢ 0) × (number ≢ 3) × (number ≢ 8)
