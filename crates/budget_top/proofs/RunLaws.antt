-- Laws of whole runs.
use Rattle.std.proofs.Common.{◌≡◌, ◌≢◌, ◌⊎◌, ℕ, ◌≤◌, List, Option, Some, None, Result, Ok, Err, arith, ap, sym, ◌∙◌, subst, inl, inr, refl, nat_eq, if◌then◌else◌}
use Rattle.bud_shelf.specs.Outside.{Files, Rose, IsPutAnswer, IsAppended}
use Rattle.bud_shelf.specs.declared.sinks.SinkFault.{SinkFault}
use Rattle.bud_shelf.specs.declared.sinks.SinkFault.TheVariants.{Failed, NoMemory}
use Rattle.budget_report.specs.declared.statuses.Status.{Status}
use Rattle.budget_report.specs.declared.statuses.Status.TheVariants.{Done, Violated, Words, Fault, Refused, Design, Limit, Certificate, Memory}
use Rattle.budget_report.specs.Statuses.{code_of}
use Rattle.budget_report.specs.Causes.{status_of}
use Rattle.budget_steps.specs.declared.outcomes.Said.{Said}
use Rattle.budget_steps.specs.declared.outcomes.Write.{Write}
use Rattle.budget_steps.specs.declared.outcomes.Answer.{Answer}
use Rattle.budget_steps.specs.declared.outcomes.Stop.{Stop}
use Rattle.budget_steps.specs.declared.outcomes.Stop.TheVariants.{Refused as Ended, NoMemory as Wanting}
use Rattle.budget_steps.specs.Outcomes.{Refusal, Outcome, said_of, writes_of}
use Rattle.budget_steps.specs.Steps.{Follows}
use Rattle.budget_steps.specs.Inputs.{Seen, unfaulted}
use Rattle.budget_top.specs.Words.{Asked}
use Rattle.budget_top.specs.Jobs.{course, output}
use Rattle.budget_top.specs.Writing.{AreWritten, IsKept}
use Rattle.budget_top.specs.Runs.{Broke, IsSaid, IsEnd, kept_said, answered, IsFinished, IsRun, Ends, Breaks, IsCalled, HasCauses, CallsFor, HasBudgets, KeepsOthers, LeavesFiles}
use Rattle.budget_top.specs.BestBudgets.{HasBest}
use Rattle.budget_steps.proofs.Courses.{Within, SameEnd, follows_within}
use Rattle.budget_steps.proofs.FileLaws.{IsDuring, rose_since}
use Rattle.budget_steps.proofs.JobLaws.{SameStatus}
use Rattle.budget_top.proofs.KeptFiles.{WritesTo, no_writes, same_kept, written_kept, partly_kept}
use Rattle.budget_top.proofs.BestBudgets.{best_of}
use Rattle.budget_top.proofs.JobCourses.{job_is, job_writes, job_met, IsDone}

-- ---- the numbers of statuses
status_at : ℕ → Status
status_at n =
    if nat_eq n 0 then Done
    else (if nat_eq n 1 then Violated
    else (if nat_eq n 2 then Words
    else (if nat_eq n 3 then Fault
    else (if nat_eq n 4 then Refused
    else (if nat_eq n 5 then Design
    else (if nat_eq n 6 then Limit
    else (if nat_eq n 7 then Certificate
    else Memory)))))))

status_at-code : (s : Status) → status_at (code_of s) ≡ s
unfolding status_at
status_at-code Done = refl
status_at-code Violated = refl
status_at-code Words = refl
status_at-code Fault = refl
status_at-code Refused = refl
status_at-code Design = refl
status_at-code Limit = refl
status_at-code Certificate = refl
status_at-code Memory = refl

one_code : (a b : Status) → code_of a ≡ code_of b → a ≡ b
one_code a b e = sym (status_at-code a) ∙ (ap status_at e ∙ status_at-code b)

code_most : (s : Status) → code_of s ≤ 8
code_most Done = omega arith
code_most Violated = omega arith
code_most Words = omega arith
code_most Fault = omega arith
code_most Refused = omega arith
code_most Design = omega arith
code_most Limit = omega arith
code_most Certificate = omega arith
code_most Memory = omega arith

-- ---- how the end of a job makes the run
course_during : (asked : Option Asked) (inner outer : Seen (Option Files)) → IsDuring inner outer → Within (course inner asked) (course outer asked)
course_during None inner outer during r came = came
course_during (Some asked) inner outer during r came = (job_is asked).during inner outer during r came

-- what is seen of a shelf from a later count on
abbrev from_count : Seen (Option Files) → ℕ → Seen (Option Files)
from_count shelf mid = record { old = shelf.old; new = shelf.new; before = mid; now = shelf.now }

said_kept : (asked : Option Asked) (shelf : Seen (Option Files)) (mid : ℕ) (answer : Answer) (said : Said) (kept : Result (Unit {0}) Stop) → shelf.before ≤ mid
    → course shelf asked (Ok answer) → IsKept (from_count shelf mid) answer.writes kept → said ≡ kept_said answer.said kept → IsSaid asked shelf said
said_kept asked shelf mid answer said (Ok _) late came keeps e = inl (Ok answer, (record { comes = came; written = keeps }, e))
said_kept asked shelf mid answer said (Err (Ended s)) late came keeps e =
    let broke : Broke asked shelf keeps.0 = record { outcome = Ok answer; comes = came; partly = keeps.1.0 } in
    inr (inl (keeps.0, (broke, (rose_since shelf.before mid shelf.now late keeps.1.1.0, e ∙ keeps.1.1.1))))
said_kept asked shelf mid answer said (Err Wanting) late came keeps e = inr (inr (inr (keeps.0, record { outcome = Ok answer; comes = came; partly = keeps.1 }), e))

said_at_end : (asked : Option Asked) (shelf : Seen (Option Files)) (mid : ℕ) (ended : Result Answer Stop) (said : Said) → shelf.before ≤ mid
    → Follows (course shelf asked) ended → IsEnd ended (from_count shelf mid) said → IsSaid asked shelf said
said_at_end asked shelf mid (Ok answer) said late came end = said_kept asked shelf mid answer said end.0 late came end.1.0 end.1.1
said_at_end asked shelf mid (Err (Ended s)) said late came end = inl (Err came.0, (record { comes = came.1.0; written = end.0 }, end.1 ∙ came.1.1))
said_at_end asked shelf mid (Err Wanting) said late came end = inr (inr (inl end.0, end.1))

pub run_from : (asked : Option Asked) (f0 f1 f2 : Option Files) (b m n : ℕ) (ended : Result Answer Stop) (out : Seen (Option (List ℕ))) (number : ℕ) → f1 ≡ f0 → b ≤ m → m ≤ n
    → Follows (course (record { old = f0; new = f1; before = b; now = m }) asked) ended
    → IsFinished ended (record { old = f1; new = f2; before = m; now = n }) out number
    → IsRun asked (record { old = f0; new = f2; before = b; now = n }) out number
run_from asked f0 f1 f2 b m n ended out number same early late came finished =
    let inner : Seen (Option Files) = record { old = f0; new = f1; before = b; now = m } in
    let shelf : Seen (Option Files) = record { old = f0; new = f2; before = b; now = n } in
    let during : IsDuring inner shelf = record { files = refl; before = omega arith; now = late } in
    let end = subst (λ (f : Option Files). IsEnd ended (record { old = f; new = f2; before = m; now = n }) finished.0) same finished.1.0 in
    let follows = follows_within (course inner asked) (course shelf asked) ended (course_during asked inner shelf during) came in
    (finished.0, (said_at_end asked shelf m ended finished.0 early follows end, finished.1.1))

-- ---- why a run has its number
-- a run: what was asked, what was seen of the shelf and of the sink, and the number
pub record Run : Type 0 where
  pub asked : Option Asked
  pub shelf : Seen (Option Files)
  pub out : Seen (Option (List ℕ))
  pub number : ℕ
  pub is_run : IsRun asked shelf out number

abbrev said_status : Said → Status
said_status said = said.status

-- the job ended with the status, and the sink took its text; or a file could not be written, or the sink failed; or memory was wanting
abbrev Reason : Run → Status → Type 0
Reason r status =
    Ends r.asked r.shelf r.out status
    ⊎ (((status ≡ Fault) × (Breaks r.asked r.shelf r.out ⊎ Rose r.out.before r.out.now)) ⊎ (status ≡ Memory))

-- the number is that of a status for which there is a reason
abbrev HasReason : Run → Type 0
HasReason r = (status : Status) × ((r.number ≡ code_of status) × Reason r status)

reason_said : (r : Run) (said : Said) → IsAppended r.out.old r.out.new said.text → IsSaid r.asked r.shelf said → Reason r said.status
reason_said r said put (inl (outcome, ended)) =
    inl (outcome, (ended.0, (sym (ap said_status ended.1), subst (λ (s : Said). IsAppended r.out.old r.out.new s.text) ended.1 put)))
reason_said r said put (inr (inl (name, broke))) =
    let line = subst (λ (s : Said). IsAppended r.out.old r.out.new s.text) broke.1.1 put in
    inr (inl (ap said_status broke.1.1, inl (name, (broke.0, (broke.1.0, line)))))
reason_said r said put (inr (inr wanting)) = inr (inr (ap said_status wanting.1))

reason_put : (r : Run) (said : Said) (put : Result (Unit {0}) SinkFault) → IsPutAnswer r.out.old r.out.new r.out.before r.out.now said.text put
    → r.number ≡ answered said.status put → IsSaid r.asked r.shelf said → HasReason r
reason_put r said (Ok _) put e is_said = (said.status, (e, reason_said r said put is_said))
reason_put r said (Err Failed) put e is_said = (Fault, (e, inr (inl (refl, inr put.1))))
reason_put r said (Err NoMemory) put e is_said = (Memory, (e, inr (inr refl)))

reason_of : (r : Run) → HasReason r
reason_of r = let run = r.is_run in reason_put r run.0 run.1.1.0 run.1.1.1.0 run.1.1.1.1 run.1.0

reason_at : (r : Run) (status : Status) → r.number ≡ code_of status → Reason r status
reason_at r status e =
    let reason = reason_of r in subst (λ (s : Status). Reason r s) (one_code reason.0 status (sym reason.1.0 ∙ e)) reason.1.1

-- ---- the causes of statuses
-- statuses that nothing but the end of a job has
abbrev IsEnding : Status → Type 0
IsEnding Fault = ⊥
IsEnding Memory = ⊥
IsEnding other = Unit {0}

ends_at : (r : Run) (status : Status) → IsEnding status → r.number ≡ code_of status → Ends r.asked r.shelf r.out status
ends_at r status ending e = elim (reason_at r status e) [
  | inl ends ↦ ends
  | inr other ↦ elim other [
    | inl fault ↦ absurd (subst (λ (s : Status). IsEnding s) fault.0 ending)
    | inr memory ↦ absurd (subst (λ (s : Status). IsEnding s) memory ending)
  ]
]

fault_at : (r : Run) → Reason r Fault → Rose r.out.before r.out.now ⊎ (Ends r.asked r.shelf r.out Fault ⊎ Breaks r.asked r.shelf r.out)
fault_at r (inl ends) = inr (inl ends)
fault_at r (inr (inl (e, inl breaks))) = inr (inr breaks)
fault_at r (inr (inl (e, inr rose))) = inl rose
fault_at r (inr (inr e)) = absurd (cc)

words_came : (asked : Option Asked) (shelf : Seen (Option Files)) (outcome : Outcome) → course shelf asked outcome → (said_of outcome).status ≡ Words → asked ≡ None
words_came None shelf outcome came e = refl
words_came (Some asked) shelf outcome came e = absurd ((job_is asked).fits shelf outcome came e)

words_end : (r : Run) → Ends r.asked r.shelf r.out Words → r.asked ≡ None
words_end r ends = words_came r.asked r.shelf ends.0 ends.1.0.comes ends.1.1.0

-- ---- the status that is called for
-- the job comes to this status alone, unless the shelf's count rises
abbrev ComesAs : Run → Status → Type 0
ComesAs r status = (outcome : Outcome) → course r.shelf r.asked outcome → ((said_of outcome).status ≡ status) ⊎ Rose r.shelf.before r.shelf.now

called_as : (r : Run) (status own : Status) → ComesAs r status → r.number ≡ code_of own → Reason r own → IsCalled r.shelf r.out status r.number
called_as r status own comes e (inl (outcome, ends)) = elim (comes outcome ends.0.comes) [
  | inl same ↦ inl (e ∙ ap code_of (sym ends.1.0 ∙ same))
  | inr rose ↦ inr (inr (inl rose))
]
called_as r status own comes e (inr (inl (fault, inl (name, breaks)))) = inr (inr (inl breaks.1.0))
called_as r status own comes e (inr (inl (fault, inr rose))) = inr (inr (inr rose))
called_as r status own comes e (inr (inr memory)) = inr (inl (e ∙ ap code_of memory))

called_of : (r : Run) (status : Status) → ComesAs r status → IsCalled r.shelf r.out status r.number
called_of r status comes = let reason = reason_of r in called_as r status reason.0 comes reason.1.0 reason.1.1

misfit_status : (shelf : Seen (Option Files)) (outcome : Outcome) → course shelf None outcome → (said_of outcome).status ≡ Words
misfit_status shelf (Ok answer) came = absurd came
misfit_status shelf (Err r) came = ap (λ (x : Refusal). status_of x.cause) came

run_misfit : (r : Run) → r.asked ≡ None → IsCalled r.shelf r.out Words r.number
run_misfit r e =
    called_of r Words (λ outcome came. inl (misfit_status r.shelf outcome (subst (λ (a : Option Asked). course r.shelf a outcome) e came)))

pub run_causes : (r : Run) → HasCauses r.asked r.shelf r.out r.number
run_causes r = record {
  done = ends_at r Done tt;
  violated = ends_at r Violated tt;
  words = λ e. words_end r (ends_at r Words tt e);
  misfit = run_misfit r;
  fault = λ e. fault_at r (reason_at r Fault e);
  refused = ends_at r Refused tt;
  design = ends_at r Design tt;
  limit = ends_at r Limit tt;
  certificate = ends_at r Certificate tt;
  range = let reason = reason_of r in let most = code_most reason.0 in omega (arith, most, reason.1.0);
}

-- ---- told files have one status
same_status : (o o' : Outcome) → SameEnd SameStatus o o' → (said_of o).status ≡ (said_of o').status
same_status (Ok a) (Ok b) same = same
same_status (Ok a) (Err s) same = absurd same
same_status (Err r) (Ok b) same = absurd same
same_status (Err r) (Err s) same = same

abbrev told : Files → Option Files → ℕ → ℕ → Seen (Option Files)
told files new before now = record { old = Some files; new = new; before = before; now = now }

course_alike : (asked : Option Asked) (files : Files) (new : Option Files) (before now : ℕ) (o o' : Outcome)
    → course (told files new before now) asked o → course (unfaulted files) asked o' → ((said_of o).status ≡ (said_of o').status) ⊎ Rose before now
course_alike None files new before now o o' x y = inl (misfit_status (told files new before now) o x ∙ sym (misfit_status (unfaulted files) o' y))
course_alike (Some asked) files new before now o o' x y = elim ((job_is asked).alike files new before now o o' x y) [
  | inl same ↦ inl (same_status o o' same)
  | inr rose ↦ inr rose
]

-- a run ends with the status that told files call for
pub run_called : (asked : Option Asked) (old new : Option Files) (before now : ℕ) (out : Seen (Option (List ℕ))) (number : ℕ)
    → IsRun asked (record { old = old; new = new; before = before; now = now }) out number
    → (status : Status) → CallsFor asked old status → IsCalled (record { old = old; new = new; before = before; now = now }) out status number
run_called asked None new before now out number run status called = absurd called
run_called asked (Some files) new before now out number run status called =
    called_of (record { asked = asked; shelf = told files new before now; out = out; number = number; is_run = run }) status
    (λ o came. elim (course_alike asked files new before now o called.0 came called.1.0) [ inl same ↦ inl (same ∙ called.1.1) | inr rose ↦ inr rose ])

done_end : (o : Outcome) → SameEnd IsDone o (Ok tt) → (said_of o).status ≡ Done
done_end (Ok a) same = same
done_end (Err r) same = absurd same

-- where no path of told inputs is violated, budgets are found
pub run_budgets : (asked : Option Asked) (old new : Option Files) (before now : ℕ) (out : Seen (Option (List ℕ))) (number : ℕ)
    → IsRun asked (record { old = old; new = new; before = before; now = now }) out number
    → HasBudgets asked old → IsCalled (record { old = old; new = new; before = before; now = now }) out Done number
run_budgets None old new before now out number run met = absurd met
run_budgets (Some asked) None new before now out number run met = absurd met
run_budgets (Some asked) (Some files) new before now out number run met =
    called_of (record { asked = Some asked; shelf = told files new before now; out = out; number = number; is_run = run }) Done
    (λ o came. elim (job_met asked files new before now o (Ok tt) came met) [ inl same ↦ inl (done_end o same) | inr rose ↦ inr rose ])

-- ---- no file changes but the job's output
course_writes : (asked : Option Asked) (shelf : Seen (Option Files)) (outcome : Outcome) → course shelf asked outcome
    → WritesTo (output asked) (said_of outcome).status (writes_of outcome)
course_writes None shelf (Ok answer) came = absurd came
course_writes (Some asked) shelf (Ok answer) came = job_writes asked shelf answer came
course_writes asked shelf (Err r) came = no_writes (output asked) (status_of r.cause)

files_broke : (asked : Option Asked) (shelf : Seen (Option Files)) (name : List ℕ) → Broke asked shelf name → KeepsOthers (output asked) shelf.old shelf.new
files_broke asked shelf name broke =
    partly_kept (output asked) shelf.old shelf.new (writes_of broke.outcome) name (course_writes asked shelf broke.outcome broke.comes).named broke.partly

files_said : (asked : Option Asked) (shelf : Seen (Option Files)) (said : Said) → IsSaid asked shelf said → KeepsOthers (output asked) shelf.old shelf.new
files_said asked shelf said (inl (outcome, ended)) =
    written_kept (output asked) shelf.old shelf.new (writes_of outcome) (course_writes asked shelf outcome ended.0.comes).named ended.0.written
files_said asked shelf said (inr (inl (name, broke))) = files_broke asked shelf name broke.0
files_said asked shelf said (inr (inr wanting)) = elim wanting.0 [
  | inl same ↦ same_kept (output asked) shelf.old shelf.new same
  | inr broke ↦ files_broke asked shelf broke.0 broke.1
]

pub run_files : (r : Run) → KeepsOthers (output r.asked) r.shelf.old r.shelf.new
run_files r = files_said r.asked r.shelf r.is_run.0 r.is_run.1.0

-- none changes where the job isn't done, no file is left unwritten and memory isn't wanting
reason_same : (r : Run) (status : Status) → Reason r status → (status ≡ Done → ⊥) → (status ≡ Fault → ⊥) → (status ≡ Memory → ⊥) → r.shelf.new ≡ r.shelf.old
reason_same r status (inl (outcome, ends)) not_done not_fault not_memory =
    let none = (course_writes r.asked r.shelf outcome ends.0.comes).done (λ e. not_done (sym ends.1.0 ∙ e)) in
    subst (λ (ws : List Write). AreWritten r.shelf.old r.shelf.new ws) none ends.0.written
reason_same r status (inr (inl fault)) not_done not_fault not_memory = absurd (not_fault fault.0)
reason_same r status (inr (inr memory)) not_done not_fault not_memory = absurd (not_memory memory)

pub run_unchanged : (r : Run) → LeavesFiles r.number → r.shelf.new ≡ r.shelf.old
run_unchanged r leaves =
    let reason = reason_of r in
    let differs : (status : Status) → (r.number ≢ code_of status) → reason.0 ≡ status → ⊥ = λ status apart e. apart (reason.1.0 ∙ ap code_of e) in
    reason_same r reason.0 reason.1.1 (differs Done leaves.0) (differs Fault leaves.1) (differs Memory leaves.2)

-- ---- status 0 of the jobs with budgets
pub run_best : (r : Run) → r.number ≡ 0 → HasBest r.asked r.shelf
run_best r e =
    let ends = ends_at r Done tt e in best_of r.asked r.shelf ends.0 ends.1.0.comes ends.1.0.written ends.1.1.0
