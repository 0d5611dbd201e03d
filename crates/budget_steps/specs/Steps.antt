-- The steps of a job, one after another. Each may come to a value, or to a refusal that ends the job.
use Rattle.std.specs.Prelude.{◌≡◌, ◌⊎◌, Result, Ok, Err}
use Rattle.budget_report.specs.declared.causes.Cause.{Cause}
use Rattle.budget_report.specs.declared.statuses.Status.{Status}
use Rattle.budget_report.specs.declared.statuses.Status.TheVariants.{Memory}
use Rattle.budget_report.specs.Causes.{status_of}
use Rattle.budget_report.specs.Subjects.{Subject}
use Rattle.budget_steps.specs.declared.outcomes.Stop.{Stop}
use Rattle.budget_steps.specs.declared.outcomes.Stop.TheVariants.{Refused as Ended, NoMemory}
use Rattle.budget_steps.specs.Outcomes.{Refusal, refusal_said}

infixl 10 ◌>>=◌
infixl 10 ◌>>◌
-- what may come
abbrev pub Course : Type 0 → Type 1
Course A = Result A Refusal → Type 0

-- first the one, and where it comes to a value, what follows from that
abbrev pub ◌>>=◌ : {A B : Type 0} → Course A → (A → Course B) → Course B
◌>>=◌ {A} first next (Ok b) = (a : A) × (first (Ok a) × next a (Ok b))
◌>>=◌ {A} first next (Err r) = first (Err r) ⊎ ((a : A) × (first (Ok a) × next a (Err r)))

-- just this value
abbrev pub comes_to : {A : Type 0} → A → Course A
comes_to a (Ok b) = b ≡ a
comes_to a (Err r) = ⊥

abbrev pub ◌>>◌ : {A B : Type 0} → Course A → Course B → Course B
◌>>◌ first next = first >>= λ _. next

-- want of memory is no cause
abbrev pub IsCause : Status → Type 0
IsCause Memory = ⊥
IsCause other = Unit {0}

-- a call of which this is known: its value, or its fault as the cause of a refusal
abbrev pub step : {A F : Type 0} → (Result A F → Type 0) → Subject → (F → Cause) → Course A
step answers subject cause (Ok a) = answers (Ok a)
step {A} {F} answers subject cause (Err r) =
    (fault : F) × (answers (Err fault) × (IsCause (status_of (cause fault)) × (r ≡ record { subject = subject; cause = cause fault })))

-- the end of a job that is refused so; memory may be wanting
abbrev pub IsRefused : Refusal → Stop → Type 0
IsRefused r (Ended said) = IsCause (status_of r.cause) × (said ≡ refusal_said r)
IsRefused r NoMemory = Unit {0}

-- the function goes this course; memory may be wanting
abbrev pub Follows : {A : Type 0} → Course A → Result A Stop → Type 0
Follows course (Ok a) = course (Ok a)
Follows course (Err (Ended said)) = (r : Refusal) × (course (Err r) × (said ≡ refusal_said r))
Follows course (Err NoMemory) = Unit {0}
