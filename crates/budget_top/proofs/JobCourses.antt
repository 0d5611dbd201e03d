-- The jobs, each by its steps in order.
use Rattle.std.proofs.Common.{◌≡◌, ℕ, List, [], Option, Some, None, Ok, Err, ap, sym, subst, inl, inr, refl}
use Rattle.bud_base.specs.declared.problems.Problem.{Problem}
use Rattle.bud_shelf.specs.Outside.{Files, Rose}
use Rattle.cert_text.specs.declared.certs.Cert.{Cert}
use Rattle.budget_report.specs.declared.causes.Cause.TheVariants.{Problem as Unsound, Cert as Uncertified}
use Rattle.budget_report.specs.declared.statuses.Status.{Status}
use Rattle.budget_report.specs.declared.statuses.Status.TheVariants.{Done, Violated, Words}
use Rattle.budget_report.specs.Subjects.{raw as of_raw}
use Rattle.budget_steps.specs.declared.outcomes.Answer.{Answer}
use Rattle.budget_steps.specs.declared.outcomes.Write.{Write}
use Rattle.budget_steps.specs.Outcomes.{Outcome, said_of}
use Rattle.budget_steps.specs.Steps.{Course, ◌>>=◌, ◌>>◌}
use Rattle.budget_steps.specs.Inputs.{Seen, input, unfaulted}
use Rattle.budget_plans.specs.Files.{certificates}
use Rattle.budget_top.specs.RawFiles.{problems}
use Rattle.budget_top.specs.Problems.{sound, measured, verdict, IsSoundness, IsVerdict}
use Rattle.budget_designs.proofs.JobLaws.{least_is, least_quiet}
use Rattle.budget_plans.proofs.JobLaws.{plan_is, check_is, met_job}
use Rattle.budget_plans.specs.Layouts.{Laid}
use Rattle.budget_plans.specs.Plans.{IsPlanAnswer}
use Rattle.budget_top.specs.Words.{Asked, raw, prove, least, plan, check, make}
use Rattle.budget_top.specs.Jobs.{raw_job, prove_job, steps_of, met, met_raw, met_by, output_of}
use Rattle.budget_steps.proofs.Courses.{Alike, alike_then, alike_step}
use Rattle.budget_steps.proofs.FileLaws.{input_alike}
use Rattle.budget_makes.proofs.MakeLaws.{make_is, make_quiet, make_met}
use Rattle.budget_plans.proofs.PolicyFiles.{certificates_are}
use Rattle.budget_top.proofs.RawFileLaws.{problems_are}
use Rattle.budget_top.proofs.Soundnesses.{soundness_sure, soundness_fits}
use Rattle.budget_top.proofs.Measures.{one_measured, meets_done, measured_fits}
use Rattle.budget_top.proofs.Verdicts.{verdict_sure}
use Rattle.budget_steps.proofs.JobLaws.{IsJob, SameStatus, after_input, after_step, last}
use Rattle.budget_top.proofs.KeptFiles.{AreNamed, WritesTo, writes_none}

-- ---- the last steps
measured_alike : (p : Problem) → Alike SameStatus ⊥ (measured p) (measured p)
measured_alike p (Ok a) (Ok b) x y = inl (one_measured p a.said.status b.said.status a.said.text b.said.text x.0 y.0)
measured_alike p (Ok a) (Err s) x y = absurd y
measured_alike p (Err r) y' x y = absurd x

measured_job : (p : Problem) → IsJob (λ shelf. measured p)
measured_job p = last (measured p) (measured_alike p) (measured_fits p)

verdict_fits : (p : Problem) (c : Cert) (outcome : Outcome) → verdict p c outcome → (said_of outcome).status ≡ Words → ⊥
verdict_fits p c (Ok answer) came e = let done = ap (λ (a : Answer). a.said.status) came.1 in cc
verdict_fits p c (Err r) came e = let e' = came.1.1.1 in cc

verdict_job : (p : Problem) (c : Cert) → IsJob (λ shelf. verdict p c)
verdict_job p c =
    last (verdict p c) (alike_step SameStatus ⊥ (IsVerdict p c) (of_raw p) (λ fault. Uncertified fault) (verdict_sure p c)) (verdict_fits p c)

-- ---- the jobs
sound_then : (p : Problem) (course : Course Answer) → IsJob (λ shelf. course) → IsJob (λ shelf. sound p >> course)
sound_then p course next =
    after_step (IsSoundness p) (of_raw p) (λ fault. Unsound fault) (λ _ shelf. course) (soundness_sure p) soundness_fits (λ _ _. next)

raw_is : (problem : List ℕ) → IsJob (λ shelf. raw_job shelf problem)
raw_is problem = after_input problems problem (λ p shelf. sound p >> measured p) problems_are (λ p _. sound_then p (measured p) (measured_job p))

prove_is : (problem cert : List ℕ) → IsJob (λ shelf. prove_job shelf problem cert)
prove_is problem cert =
    after_input problems problem (λ p shelf. input shelf certificates cert >>= λ c. sound p >> verdict p c) problems_are
    (λ p _. after_input certificates cert (λ c shelf. sound p >> verdict p c) certificates_are (λ c _. sound_then p (verdict p c) (verdict_job p c)))

pub job_is : (asked : Asked) → IsJob (λ shelf. steps_of shelf asked)
job_is (raw problem) = raw_is problem
job_is (prove problem cert) = prove_is problem cert
job_is (least netlist delays constraints) = least_is netlist delays constraints
job_is (plan names) = plan_is names.netlist names.delays names.constraints names.policy names.cert
job_is (check names) = check_is names.netlist names.delays names.constraints names.policy names.cert
job_is (make gates number) = make_is gates number

-- ---- the files that a job writes
plan_writes : (l : Laid) (cert : List ℕ) (status : Status) (text : List ℕ) (writes : List Write) → IsPlanAnswer l cert status text writes → WritesTo (Some cert) status writes
plan_writes l cert Done text writes planned =
    record { named = subst (λ (ws : List Write). AreNamed cert ws) (sym planned.written.one) (planned.written.named, tt); done = λ other. absurd (other refl) }
plan_writes l cert Violated text writes violated =
    record { named = subst (λ (ws : List Write). AreNamed cert ws) (sym violated.1) tt; done = λ other. violated.1 }
plan_writes l cert other text writes none = absurd none

quiet : (answer : Answer) → answer.writes ≡ [] → WritesTo None answer.said.status answer.writes
quiet answer none = writes_none answer.said.status answer.writes none

pub job_writes : (asked : Asked) (shelf : Seen (Option Files)) (answer : Answer) → steps_of shelf asked (Ok answer) → WritesTo (output_of asked) answer.said.status answer.writes
job_writes (raw problem) shelf answer came = quiet answer came.1.1.1.1.1
job_writes (prove problem cert) shelf answer came = quiet answer (ap (λ (a : Answer). a.writes) came.1.1.1.1.1.1.1)
job_writes (least netlist delays constraints) shelf answer came = quiet answer (least_quiet shelf netlist delays constraints answer came)
job_writes (plan names) shelf answer came = plan_writes came.0 names.cert answer.said.status answer.said.text answer.writes came.1.1
job_writes (check names) shelf answer came = quiet answer (ap (λ (a : Answer). a.writes) came.1.1.1.1.1.1.1.1.1)
job_writes (make gates number) shelf answer came = quiet answer (make_quiet gates number answer came)

-- ---- where no path is violated, budgets are found
abbrev pub IsDone : Answer → Unit {0} → Type 0
IsDone answer _ = answer.said.status ≡ Done

judged_alike : (p : Problem) (Unless : Type 0) → Alike IsDone Unless (sound p >> measured p) (met p)
judged_alike p Unless (Ok a) (Ok b) x y = inl (meets_done p a.said.status a.said.text y.1 x.1.1.0)
judged_alike p Unless (Err r) (Ok b) x y = elim x [
  | inl unsound ↦ absurd ((soundness_sure p).apart tt unsound.0 unsound.1.1.0 y.0 unsound.1.0)
  | inr later ↦ absurd later.1.1
]
judged_alike p Unless x' (Err s) x y = absurd y

raw_met : (problem : List ℕ) (files : Files) (new : Option Files) (before now : ℕ)
    → Alike IsDone (Rose before now) (raw_job (record { old = Some files; new = new; before = before; now = now }) problem) (met_raw (unfaulted files) problem)
raw_met problem files new before now =
    alike_then IsDone (Rose before now) (input (record { old = Some files; new = new; before = before; now = now }) problems problem) (input (unfaulted files) problems problem)
    (λ p. sound p >> measured p)
    met
    (input_alike problems problem problems_are files new before now)
    (λ p _. judged_alike p (Rose before now))

pub job_met : (asked : Asked) (files : Files) (new : Option Files) (before now : ℕ)
    → Alike IsDone (Rose before now) (steps_of (record { old = Some files; new = new; before = before; now = now }) asked) (met_by (unfaulted files) asked)
job_met (raw problem) files new before now = raw_met problem files new before now
job_met (prove problem cert) files new before now = λ r s x y. absurd y
job_met (least netlist delays constraints) files new before now = λ r s x y. absurd y
job_met (plan names) files new before now = met_job names.netlist names.delays names.constraints names.policy names.cert files new before now
job_met (check names) files new before now = λ r s x y. absurd y
job_met (make gates number) files new before now = make_met gates number (Rose before now)
