-- Courses in which files are read: what holds of one if it holds of each of its steps, and what is known of its value.
use Rattle.std.proofs.Common.{◌≡◌, ℕ, List, Option, Some, Result, Ok, Err, ap, sym, ◌∙◌, subst, inl, inr}
use Rattle.bud_shelf.specs.Outside.{Files, Rose}
use Rattle.budget_report.specs.declared.causes.Cause.{Cause}
use Rattle.budget_report.specs.declared.statuses.Status.TheVariants.{Words}
use Rattle.budget_report.specs.Causes.{status_of}
use Rattle.budget_report.specs.Subjects.{Subject}
use Rattle.budget_steps.specs.declared.outcomes.Stop.{Stop}
use Rattle.budget_steps.specs.Outcomes.{Refusal}
use Rattle.budget_steps.specs.Steps.{Course, ◌>>=◌, comes_to, step, Follows}
use Rattle.budget_steps.specs.Inputs.{Seen, Grammar, IsRead, input, unfaulted}
use Rattle.budget_steps.proofs.Courses.{Within, within_then, follows_within, follows_first, follows_next, Alike, alike_then, alike_step, IsSure}
use Rattle.budget_steps.proofs.FileLaws.{IsDuring, input_during, IsGrammar, input_alike, input_fits}

-- This is known of each value; later counts of faults keep what the course comes to; files that are told have one value, or
-- refusals of one status, unless a count rose; and the words fit.
pub record IsSource {A : Type 0} (Known : A → Type 0) (course : Seen (Option Files) → Course A) : Type 0 where
  pub known : (shelf : Seen (Option Files)) (a : A) → course shelf (Ok a) → Known a
  pub during : (inner outer : Seen (Option Files)) → IsDuring inner outer → Within (course inner) (course outer)
  pub alike : (files : Files) (new : Option Files) (before now : ℕ)
      → Alike ◌≡◌ (Rose before now) (course (record { old = Some files; new = new; before = before; now = now })) (course (unfaulted files))
  pub fits : (shelf : Seen (Option Files)) (r : Refusal) → course shelf (Err r) → status_of r.cause ≡ Words → ⊥

-- ---- one after another
refused_then : {A B : Type 0} (w : Course A) (f : A → Course B) → ((r : Refusal) → w (Err r) → status_of r.cause ≡ Words → ⊥)
    → ((a : A) → w (Ok a) → (r : Refusal) → f a (Err r) → status_of r.cause ≡ Words → ⊥)
    → (r : Refusal) → (w >>= f) (Err r) → status_of r.cause ≡ Words → ⊥
refused_then w f first next r came e = elim came [
  | inl early ↦ first r early e
  | inr later ↦ next later.0 later.1.0 r later.1.1 e
]

pub then_source : {A B : Type 0} (Known : A → Type 0) (Found : B → Type 0) (w : Seen (Option Files) → Course A) (f : A → Seen (Option Files) → Course B)
    → IsSource Known w → ((a : A) → Known a → IsSource Found (f a)) → IsSource Found (λ shelf. w shelf >>= λ a. f a shelf)
then_source Known Found w f first next = record {
  known = λ shelf b came. (next came.0 (first.known shelf came.0 came.1.0)).known shelf b came.1.1;
  during = λ inner outer during. within_then (w inner) (w outer) (λ a. f a inner) (λ a. f a outer)
      (first.during inner outer during) (λ a came. (next a (first.known inner a came)).during inner outer during);
  alike = λ files new before now. alike_then ◌≡◌ (Rose before now)
      (w (record { old = Some files; new = new; before = before; now = now }))
      (w (unfaulted files))
      (λ a. f a (record { old = Some files; new = new; before = before; now = now }))
      (λ a. f a (unfaulted files))
      (first.alike files new before now)
      (λ a came. (next a (first.known (record { old = Some files; new = new; before = before; now = now }) a came)).alike files new before now);
  fits = λ shelf. refused_then (w shelf) (λ a. f a shelf) (first.fits shelf) (λ a came. (next a (first.known shelf a came)).fits shelf);
}

-- ---- steps, inputs and values
pub step_source : {A F : Type 0} (answers : Result A F → Type 0) (subject : Subject) (cause : F → Cause) → IsSure ◌≡◌ answers cause
    → ((fault : F) → status_of (cause fault) ≡ Words → ⊥) → IsSource (λ a. answers (Ok a)) (λ shelf. step answers subject cause)
step_source answers subject cause sure fits = record {
  known = λ shelf a came. came;
  during = λ inner outer during r came. came;
  alike = λ files new before now. alike_step ◌≡◌ (Rose before now) answers subject cause sure;
  fits = λ shelf r came e. fits came.0 (sym (ap (λ (x : Refusal). status_of x.cause) came.1.1.1) ∙ e);
}

pub input_source : {V F : Type 0} (grammar : Grammar V F) (name : List ℕ) → IsGrammar grammar → IsSource (λ v. IsRead grammar v) (λ shelf. input shelf grammar name)
input_source grammar name is = record {
  known = λ shelf v came. (came.0, (came.1.0.1, came.1.1));
  during = input_during grammar name;
  alike = input_alike grammar name is;
  fits = input_fits grammar name is;
}

value_alike : {A : Type 0} (a : A) (Unless : Type 0) → Alike ◌≡◌ Unless (comes_to a) (comes_to a)
value_alike a Unless (Ok b) (Ok c) x y = inl (x ∙ sym y)
value_alike a Unless (Ok b) (Err s) x y = absurd y
value_alike a Unless (Err r) (Ok c) x y = absurd x
value_alike a Unless (Err r) (Err s) x y = absurd x

pub value_source : {A : Type 0} (Known : A → Type 0) (a : A) → Known a → IsSource Known (λ shelf. comes_to a)
value_source Known a is = record {
  known = λ shelf b came. subst Known (sym came) is;
  during = λ inner outer during r came. came;
  alike = λ files new before now. value_alike a (Rose before now);
  fits = λ shelf r came e. absurd came;
}

-- ---- functions that go such a course
-- a part of it comes to a value
pub source_next : {A B : Type 0} (Known : A → Type 0) (w : Seen (Option Files) → Course A) → IsSource Known w → (inner outer : Seen (Option Files)) (f : A → Course B) (a : A)
    (r : Result B Stop) → IsDuring inner outer → w inner (Ok a) → Follows (f a) r → Follows (w outer >>= f) r
source_next Known w source inner outer f a r during came next = follows_next (w outer) f a r (source.during inner outer during (Ok a) came) next

-- or it ends the job
pub source_first : {A B : Type 0} (Known : A → Type 0) (w : Seen (Option Files) → Course A) → IsSource Known w → (inner outer : Seen (Option Files)) (f : A → Course B)
    (stop : Stop) → IsDuring inner outer → Follows {A = A} (w inner) (Err stop) → Follows (w outer >>= f) (Err stop)
source_first Known w source inner outer f stop during came =
    follows_first (w outer) f stop (follows_within (w inner) (w outer) (Err stop) (source.during inner outer during) came)
