-- Laws of jobs: what holds of a job if it holds of each of its steps.
use Rattle.std.proofs.Common.{◌≡◌, ℕ, Option, Some, Result, Ok, Err, inl, inr}
use Rattle.std.proofs.Common.{List}
use Rattle.bud_shelf.specs.Outside.{Files, Rose}
use Rattle.budget_report.specs.declared.causes.Cause.{Cause}
use Rattle.budget_report.specs.declared.statuses.Status.TheVariants.{Words}
use Rattle.budget_report.specs.Causes.{status_of}
use Rattle.budget_report.specs.Subjects.{Subject}
use Rattle.budget_steps.specs.declared.outcomes.Answer.{Answer}
use Rattle.budget_steps.specs.Outcomes.{Refusal, Outcome, said_of}
use Rattle.budget_steps.specs.Steps.{Course, ◌>>=◌, step}
use Rattle.budget_steps.specs.Inputs.{Seen, Grammar, IsRead, input, unfaulted}
use Rattle.budget_steps.proofs.Courses.{Within, within_then, Alike, alike_then, alike_unless, IsSure}
use Rattle.budget_steps.proofs.FileLaws.{IsDuring, IsGrammar}
use Rattle.budget_steps.proofs.Sources.{IsSource, step_source, input_source}

abbrev pub SameStatus : Answer → Answer → Type 0
SameStatus a b = a.said.status ≡ b.said.status

-- later counts of faults keep what the job comes to; files that are told have one status, unless a count rose; and the
-- words fit
pub record IsJob (course : Seen (Option Files) → Course Answer) : Type 0 where
  pub during : (inner outer : Seen (Option Files)) → IsDuring inner outer → Within (course inner) (course outer)
  pub alike : (files : Files) (new : Option Files) (before now : ℕ)
      → Alike SameStatus (Rose before now) (course (record { old = Some files; new = new; before = before; now = now })) (course (unfaulted files))
  pub fits : (shelf : Seen (Option Files)) (outcome : Outcome) → course shelf outcome → (said_of outcome).status ≡ Words → ⊥

fits_then : {A : Type 0} (w : Course A) (f : A → Course Answer) → ((r : Refusal) → w (Err r) → status_of r.cause ≡ Words → ⊥)
    → ((a : A) → w (Ok a) → (outcome : Outcome) → f a outcome → (said_of outcome).status ≡ Words → ⊥)
    → (outcome : Outcome) → (w >>= f) outcome → (said_of outcome).status ≡ Words → ⊥
fits_then w f first next (Ok answer) came e = next came.0 came.1.0 (Ok answer) came.1.1 e
fits_then w f first next (Err r) came e = elim came [
  | inl early ↦ first r early e
  | inr later ↦ next later.0 later.1.0 (Err r) later.1.1 e
]

-- a part of the job that comes to a value, and then what follows from it
pub then_job : {A : Type 0} (Known : A → Type 0) (w : Seen (Option Files) → Course A) (f : A → Seen (Option Files) → Course Answer)
    → IsSource Known w → ((a : A) → Known a → IsJob (f a)) → IsJob (λ shelf. w shelf >>= λ a. f a shelf)
then_job Known w f first next = record {
  during = λ inner outer during. within_then (w inner) (w outer) (λ a. f a inner) (λ a. f a outer)
      (first.during inner outer during) (λ a came. (next a (first.known inner a came)).during inner outer during);
  alike = λ files new before now. alike_then SameStatus (Rose before now)
      (w (record { old = Some files; new = new; before = before; now = now }))
      (w (unfaulted files))
      (λ a. f a (record { old = Some files; new = new; before = before; now = now }))
      (λ a. f a (unfaulted files))
      (first.alike files new before now)
      (λ a came. (next a (first.known (record { old = Some files; new = new; before = before; now = now }) a came)).alike files new before now);
  fits = λ shelf. fits_then (w shelf) (λ a. f a shelf) (first.fits shelf) (λ a came. (next a (first.known shelf a came)).fits shelf);
}

-- an input, and then what follows from its value
pub after_input : {V F : Type 0} (grammar : Grammar V F) (name : List ℕ) (course : V → Seen (Option Files) → Course Answer) → IsGrammar grammar
    → ((v : V) → IsRead grammar v → IsJob (course v)) → IsJob (λ shelf. input shelf grammar name >>= λ v. course v shelf)
after_input grammar name course is next =
    then_job (λ v. IsRead grammar v) (λ shelf. input shelf grammar name) course (input_source grammar name is) next

-- a step, and then what follows from its value
pub after_step : {A F : Type 0} (answers : Result A F → Type 0) (subject : Subject) (cause : F → Cause) (course : A → Seen (Option Files) → Course Answer)
    → IsSure ◌≡◌ answers cause → ((fault : F) → status_of (cause fault) ≡ Words → ⊥)
    → ((a : A) → answers (Ok a) → IsJob (course a)) → IsJob (λ shelf. step answers subject cause >>= λ a. course a shelf)
after_step answers subject cause course sure fits next =
    then_job (λ a. answers (Ok a)) (λ shelf. step answers subject cause) course (step_source answers subject cause sure fits) next

-- the last step
pub last : (course : Course Answer) → Alike SameStatus ⊥ course course
    → ((outcome : Outcome) → course outcome → (said_of outcome).status ≡ Words → ⊥) → IsJob (λ shelf. course)
last course alike fits = record {
  during = λ inner outer during r came. came;
  alike = λ files new before now. alike_unless SameStatus (Rose before now) course course alike;
  fits = λ shelf. fits;
}
