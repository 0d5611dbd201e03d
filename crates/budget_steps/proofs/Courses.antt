-- Laws of courses: what holds of steps one after another.
use Rattle.std.proofs.Common.{◌≡◌, ◌⊎◌, Result, Ok, Err, ap, sym, ◌∙◌, subst, inl, inr, refl}
use Rattle.std.specs.Result.{IsErrAnd}
use Rattle.budget_report.specs.declared.causes.Cause.{Cause}
use Rattle.budget_report.specs.declared.statuses.Status.{Status}
use Rattle.budget_report.specs.Causes.{status_of}
use Rattle.budget_report.specs.Subjects.{Subject}
use Rattle.budget_steps.specs.declared.outcomes.Stop.{Stop}
use Rattle.budget_steps.specs.declared.outcomes.Stop.TheVariants.{Refused as Ended, NoMemory}
use Rattle.budget_steps.specs.Outcomes.{Refusal}
use Rattle.budget_steps.specs.Steps.{Course, ◌>>=◌, IsCause, step, IsRefused, Follows}

-- ---- a course within another
-- what may come of the one may come of the other
abbrev pub Within : {A : Type 0} → Course A → Course A → Type 0
Within {A} w v = (r : Result A Refusal) → w r → v r

pub within_then : {A B : Type 0} (w v : Course A) (f g : A → Course B) → Within w v → ((a : A) → w (Ok a) → Within (f a) (g a)) → Within (w >>= f) (v >>= g)
within_then w v f g first next (Ok b) came = (came.0, (first (Ok came.0) came.1.0, next came.0 came.1.0 (Ok b) came.1.1))
within_then w v f g first next (Err r) came = elim came [
  | inl early ↦ inl (first (Err r) early)
  | inr later ↦ inr (later.0, (first (Ok later.0) later.1.0, next later.0 later.1.0 (Err r) later.1.1))
]

-- ---- functions that go a course
pub follows_within : {A : Type 0} (w v : Course A) (r : Result A Stop) → Within w v → Follows w r → Follows v r
follows_within w v (Ok a) within came = within (Ok a) came
follows_within w v (Err (Ended said)) within came = (came.0, (within (Err came.0) came.1.0, came.1.1))
follows_within w v (Err NoMemory) within came = tt

-- the first step ends the job
pub follows_first : {A B : Type 0} (w : Course A) (f : A → Course B) (stop : Stop) → Follows w (Err stop) → Follows (w >>= f) (Err stop)
follows_first w f (Ended said) came = (came.0, (inl came.1.0, came.1.1))
follows_first w f NoMemory came = tt

-- the first step comes to a value
pub follows_next : {A B : Type 0} (w : Course A) (f : A → Course B) (a : A) (r : Result B Stop) → w (Ok a) → Follows (f a) r → Follows (w >>= f) r
follows_next w f a (Ok b) came next = (a, (came, next))
follows_next w f a (Err (Ended said)) came next = (next.0, (inr (a, (came, next.1.0)), next.1.1))
follows_next w f a (Err NoMemory) came next = tt

pub follows_refused : {A : Type 0} (w : Course A) (r : Refusal) (stop : Stop) → (IsCause (status_of r.cause) → w (Err r)) → IsRefused r stop → Follows w (Err stop)
follows_refused w r (Ended said) came refused = (r, (came refused.0, refused.1))
follows_refused w r NoMemory came refused = tt

-- what the exit of a `?` returns
pub follows_exit : {A : Type 0} (w : Course A) (r : Result A Stop) (stop : Stop) → IsErrAnd r (λ e. e ≡ stop) → Follows w (Err stop) → Follows w r
follows_exit w (Ok a) stop exit came = absurd exit
follows_exit w (Err e) stop exit came = subst (λ (s : Stop). Follows w (Err s)) (sym exit) came

-- the call of a step ends the job with its fault
pub step_refused : {A F : Type 0} (answers : Result A F → Type 0) (subject : Subject) (cause : F → Cause) (fault : F) (stop : Stop) → answers (Err fault)
    → IsRefused (record { subject = subject; cause = cause fault }) stop → Follows {A = A} (step answers subject cause) (Err stop)
step_refused answers subject cause fault stop answer refused =
    follows_refused (step answers subject cause) (record { subject = subject; cause = cause fault }) stop (λ is. (fault, (answer, (is, refl)))) refused

-- ---- courses that come to the same
-- both to a value, or both to a refusal of one status
abbrev pub SameEnd : {A B : Type 0} → (A → B → Type 0) → Result A Refusal → Result B Refusal → Type 0
SameEnd Same (Ok a) (Ok b) = Same a b
SameEnd Same (Ok a) (Err s) = ⊥
SameEnd Same (Err r) (Ok b) = ⊥
SameEnd Same (Err r) (Err s) = status_of r.cause ≡ status_of s.cause

abbrev pub Alike : {A B : Type 0} → (A → B → Type 0) → Type 0 → Course A → Course B → Type 0
Alike {A} {B} Same Unless w v = (r : Result A Refusal) (s : Result B Refusal) → w r → v s → SameEnd Same r s ⊎ Unless

alike_next : {A B C : Type 0} (Same : B → C → Type 0) (Unless : Type 0) (w v : Course A) (f : A → Course B) (g : A → Course C)
    → Alike ◌≡◌ Unless w v → ((a : A) → w (Ok a) → Alike Same Unless (f a) (g a))
    → (a a' : A) → w (Ok a) → v (Ok a') → (r : Result B Refusal) (s : Result C Refusal) → f a r → g a' s → SameEnd Same r s ⊎ Unless
alike_next Same Unless w v f g first next a a' came came' r s then then' = elim (first (Ok a) (Ok a') came came') [
  | inl e ↦ next a' (subst (λ x. w (Ok x)) e came) r s (subst (λ x. f x r) e then) then'
  | inr unless ↦ inr unless
]

none_alike : {P Unless : Type 0} → ⊥ ⊎ Unless → P ⊎ Unless
none_alike (inl never) = absurd never
none_alike (inr unless) = inr unless

pub alike_then : {A B C : Type 0} (Same : B → C → Type 0) (Unless : Type 0) (w v : Course A) (f : A → Course B) (g : A → Course C)
    → Alike ◌≡◌ Unless w v → ((a : A) → w (Ok a) → Alike Same Unless (f a) (g a)) → Alike Same Unless (w >>= f) (v >>= g)
alike_then Same Unless w v f g first next (Ok b) (Ok c) x y =
    alike_next Same Unless w v f g first next x.0 y.0 x.1.0 y.1.0 (Ok b) (Ok c) x.1.1 y.1.1
alike_then Same Unless w v f g first next (Ok b) (Err s) x y = elim y [
  | inl early ↦ none_alike (first (Ok x.0) (Err s) x.1.0 early)
  | inr later ↦ alike_next Same Unless w v f g first next x.0 later.0 x.1.0 later.1.0 (Ok b) (Err s) x.1.1 later.1.1
]
alike_then Same Unless w v f g first next (Err r) (Ok c) x y = elim x [
  | inl early ↦ none_alike (first (Err r) (Ok y.0) early y.1.0)
  | inr later ↦ alike_next Same Unless w v f g first next later.0 y.0 later.1.0 y.1.0 (Err r) (Ok c) later.1.1 y.1.1
]
alike_then Same Unless w v f g first next (Err r) (Err s) x y = elim x [
  | inl early ↦ elim y [
    | inl early' ↦ first (Err r) (Err s) early early'
    | inr later' ↦ none_alike (first (Err r) (Ok later'.0) early later'.1.0)
  ]
  | inr later ↦ elim y [
    | inl early' ↦ none_alike (first (Ok later.0) (Err s) later.1.0 early')
    | inr later' ↦ alike_next Same Unless w v f g first next later.0 later'.0 later.1.0 later'.1.0 (Err r) (Err s) later.1.1 later'.1.1
  ]
]

pub alike_unless : {A B : Type 0} (Same : A → B → Type 0) (Unless : Type 0) (w : Course A) (v : Course B) → Alike Same ⊥ w v → Alike Same Unless w v
alike_unless Same Unless w v alike r s x y = elim (alike r s x y) [ inl same ↦ inl same | inr never ↦ absurd never ]

-- a call has one value or faults of one status
pub record IsSure {A F : Type 0} (Same : A → A → Type 0) (answers : Result A F → Type 0) (cause : F → Cause) : Type 0 where
  pub one : (a b : A) → answers (Ok a) → answers (Ok b) → Same a b
  pub apart : (a : A) (fault : F) → IsCause (status_of (cause fault)) → answers (Ok a) → answers (Err fault) → ⊥
  pub status : (fault other : F) → IsCause (status_of (cause fault)) → IsCause (status_of (cause other)) → answers (Err fault) → answers (Err other)
      → status_of (cause fault) ≡ status_of (cause other)

abbrev cause_status : Refusal → Status
cause_status r = status_of r.cause

pub alike_step : {A F : Type 0} (Same : A → A → Type 0) (Unless : Type 0) (answers : Result A F → Type 0) (subject : Subject) (cause : F → Cause)
    → IsSure Same answers cause → Alike Same Unless (step answers subject cause) (step answers subject cause)
alike_step Same Unless answers subject cause sure (Ok a) (Ok b) x y = inl (sure.one a b x y)
alike_step Same Unless answers subject cause sure (Ok a) (Err s) x y = absurd (sure.apart a y.0 y.1.1.0 x y.1.0)
alike_step Same Unless answers subject cause sure (Err r) (Ok b) x y = absurd (sure.apart b x.0 x.1.1.0 y x.1.0)
alike_step Same Unless answers subject cause sure (Err r) (Err s) x y =
    inl (ap cause_status x.1.1.1 ∙ (sure.status x.0 y.0 x.1.1.0 y.1.1.0 x.1.0 y.1.0 ∙ sym (ap cause_status y.1.1.1)))
