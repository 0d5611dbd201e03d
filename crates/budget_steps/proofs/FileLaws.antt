-- Laws of files and of what they read as.
use Rattle.std.proofs.Common.{◌≡◌, ◌⊎◌, ℕ, ◌<◌, ◌≤◌, List, length, Option, Some, None, Result, Ok, Err, arith, ap, sym, ◌∙◌, subst, inl, inr, refl}
use Rattle.std.specs.Option.{option_map}
use Rattle.std.specs.FinMap.{get}
use Rattle.std.proofs.lemmas.Option.{same_Some}
use Rattle.bud_shelf.specs.Outside.{longest_file, Files, Rose, IsMissing, IsReadAnswer}
use Rattle.bud_shelf.specs.declared.shelves.ShelfFault.{ShelfFault}
use Rattle.bud_shelf.specs.declared.shelves.ShelfFault.TheVariants.{Missing, Failed, TooLong, NoMemory as ShelfMemory}
use Rattle.budget_steps.specs.declared.outcomes.Stop.{Stop}
use Rattle.budget_report.specs.declared.causes.Cause.{Cause}
use Rattle.budget_report.specs.declared.causes.Cause.TheVariants.{Shelf, Length}
use Rattle.budget_report.specs.declared.statuses.Status.{Status}
use Rattle.budget_report.specs.declared.statuses.Status.TheVariants.{Fault, Limit, Words}
use Rattle.budget_report.specs.Causes.{status_of}
use Rattle.budget_report.specs.Subjects.{bare}
use Rattle.budget_steps.specs.Outcomes.{Refusal}
use Rattle.budget_steps.specs.Steps.{Course, ◌>>=◌, step, Follows}
use Rattle.budget_steps.specs.Inputs.{Seen, IsWhole, IsOut, IsUnread, IsStopped, file, Grammar, input, unfaulted}
use Rattle.budget_steps.proofs.Courses.{Within, within_then, follows_refused, follows_within, follows_first, follows_next, Alike, alike_then, alike_step, IsSure}

-- ---- counts that go on
-- the files are the same, and the counts of the first lie within those of the second
pub record IsDuring (inner outer : Seen (Option Files)) : Type 0 where
  pub files : inner.old ≡ outer.old
  pub before : outer.before ≤ inner.before
  pub now : inner.now ≤ outer.now

pub rose_since : (before mid now : ℕ) → before ≤ mid → Rose mid now → Rose before now
rose_since before mid now early rose = omega arith

pub rose_during : (inner outer : Seen (Option Files)) → IsDuring inner outer → Rose inner.before inner.now → Rose outer.before outer.now
rose_during inner outer during rose = omega (arith, during.before, during.now)

missing_during : (files : Option Files) (name : List ℕ) (before now before' now' : ℕ) → before' ≤ before → now ≤ now' → IsMissing files name before now → IsMissing files name before' now'
missing_during (Some files) name before now before' now' earlier later missing = missing
missing_during None name before now before' now' earlier later missing = omega arith

out_during : (inner outer : Seen (Option Files)) (name : List ℕ) → IsDuring inner outer → IsOut inner name → IsOut outer name
out_during inner outer name during (inl missing) =
    inl (missing_during outer.old name inner.before inner.now outer.before outer.now during.before during.now
    (subst (λ (f : Option Files). IsMissing f name inner.before inner.now) during.files missing))
out_during inner outer name during (inr rose) = inr (rose_during inner outer during rose)

unread_during : (inner outer : Seen (Option Files)) (name : List ℕ) (cause : Cause) → IsDuring inner outer → IsUnread inner name cause → IsUnread outer name cause
unread_during inner outer name (Shelf other) during u = (u.0, out_during inner outer name during u.1)
unread_during inner outer name (Length other count) during u = rw (sym during.files) u
unread_during inner outer name other during u = absurd u

file_during : (inner outer : Seen (Option Files)) (name : List ℕ) → IsDuring inner outer → Within (file inner name) (file outer name)
file_during inner outer name during (Ok bytes) came = subst (λ (f : Option Files). IsWhole f name bytes) during.files came
file_during inner outer name during (Err r) came = (came.0, unread_during inner outer name r.cause during came.1)

pub input_during : {V F : Type 0} (grammar : Grammar V F) (name : List ℕ) (inner outer : Seen (Option Files)) → IsDuring inner outer
    → Within (input inner grammar name) (input outer grammar name)
input_during grammar name inner outer during =
    within_then (file inner name) (file outer name) (λ bytes. step (grammar.answers bytes) bare (grammar.cause name))
    (λ bytes. step (grammar.answers bytes) bare (grammar.cause name))
    (file_during inner outer name during)
    (λ bytes _ r came. came)

-- ---- functions that read
-- the counts up to the end of the job
pub until : (files : Option Files) (new new' : Option Files) (before now now' : ℕ) → now ≤ now'
    → IsDuring (record { old = files; new = new; before = before; now = now }) (record { old = files; new = new'; before = before; now = now' })
until files new new' before now now' later = record { files = refl; before = omega arith; now = later }

-- an input that is read in the course of a job comes to a value
pub reads_next : {V F B : Type 0} (grammar : Grammar V F) (name : List ℕ) (inner outer : Seen (Option Files)) (f : V → Course B) (v : V) (r : Result B Stop)
    → IsDuring inner outer → input inner grammar name (Ok v) → Follows (f v) r → Follows (input outer grammar name >>= f) r
reads_next grammar name inner outer f v r during came next =
    follows_next (input outer grammar name) f v r (input_during grammar name inner outer during (Ok v) came) next

-- or it ends the job
pub reads_first : {V F B : Type 0} (grammar : Grammar V F) (name : List ℕ) (inner outer : Seen (Option Files)) (f : V → Course B) (stop : Stop)
    → IsDuring inner outer → Follows {A = V} (input inner grammar name) (Err stop) → Follows (input outer grammar name >>= f) (Err stop)
reads_first grammar name inner outer f stop during came =
    follows_first (input outer grammar name) f stop
    (follows_within (input inner grammar name) (input outer grammar name) (Err stop) (input_during grammar name inner outer during) came)

-- a shelf that doesn't give the file ends the job
pub file_stopped : (shelf : Seen (Option Files)) (name into : List ℕ) (fault : ShelfFault) (stop : Stop)
    → IsReadAnswer shelf.old shelf.before shelf.now name into (Err fault) → IsStopped name fault stop → Follows (file shelf name) (Err stop)
file_stopped shelf name into Missing stop answer stopped =
    follows_refused (file shelf name) (record { subject = bare; cause = Shelf name }) stop (λ is. (refl, (refl, inl answer.1))) stopped
file_stopped shelf name into Failed stop answer stopped =
    follows_refused (file shelf name) (record { subject = bare; cause = Shelf name }) stop (λ is. (refl, (refl, inr answer.1))) stopped
file_stopped shelf name into (TooLong count) stop answer stopped =
    follows_refused (file shelf name) (record { subject = bare; cause = Length name count }) stop (λ is. (refl, (refl, (answer.1, answer.2)))) stopped
file_stopped shelf name into ShelfMemory stop answer stopped =
    subst (λ (s : Stop). Follows {A = List ℕ} (file shelf name) (Err s)) (sym stopped) tt

-- ---- one outcome of a told file
-- why a file isn't read
data Unread (files : Files) (name : List ℕ) : Status → Type 0 where
  lacks : get files name ≡ None → Unread files name Fault
  long : (bytes : List ℕ) → get files name ≡ Some bytes → longest_file < length bytes → Unread files name Limit

-- the length of a file that is told
long_file : (found : Option (List ℕ)) (n : ℕ) → option_map length found ≡ Some n → (bytes : List ℕ) × ((found ≡ Some bytes) × (length bytes ≡ n))
long_file None n e = absurd (cc)
long_file (Some bytes) n e = (bytes, (refl, same_Some _ _ e))

unread_of : (files : Files) (new : Option Files) (before now : ℕ) (name : List ℕ) (cause : Cause) → IsUnread (record { old = Some files; new = new; before = before; now = now }) name cause
    → Unread files name (status_of cause) ⊎ Rose before now
unread_of files new before now name (Shelf other) u = elim u.1 [ inl missing ↦ inl (lacks missing) | inr rose ↦ inr rose ]
unread_of files new before now name (Length other count) u =
    let found = long_file (get files name) count u.1.1 in
    inl (long found.0 found.1.0 (omega (arith, found.1.1, u.1.0)))
unread_of files new before now name other u = absurd u

same_file : (files : Files) (name a b : List ℕ) → get files name ≡ Some a → get files name ≡ Some b → a ≡ b
same_file files name a b e e' = same_Some _ _ (sym e ∙ e')

one_unread : (files : Files) (name : List ℕ) (a b : Status) → Unread files name a → Unread files name b → a ≡ b
one_unread files name _ _ (lacks e) (lacks e') = refl
one_unread files name _ _ (lacks e) (long bytes e' l) = absurd (cc)
one_unread files name _ _ (long bytes e l) (lacks e') = absurd (cc)
one_unread files name _ _ (long bytes e l) (long bytes' e' l') = refl

unread_apart : (files : Files) (name bytes : List ℕ) (status : Status) → Unread files name status → IsWhole (Some files) name bytes → ⊥
unread_apart files name bytes _ (lacks e) whole = let e' = whole.0 in cc
unread_apart files name bytes _ (long bytes' e l) whole = let s = ap length (same_file files name bytes' bytes e whole.0) in omega (arith, whole.1)

-- a count that stands at 0 did not rise
not_risen : Rose 0 0 → ⊥
not_risen rose = absurd (omega arith)

file_alike : (files : Files) (new : Option Files) (before now : ℕ) (name : List ℕ)
    → Alike ◌≡◌ (Rose before now) (file (record { old = Some files; new = new; before = before; now = now }) name) (file (unfaulted files) name)
file_alike files new before now name (Ok a) (Ok b) x y = inl (same_file files name a b x.0 y.0)
file_alike files new before now name (Ok a) (Err s) x y = elim (unread_of files (Some files) 0 0 name s.cause y.1) [
  | inl unread ↦ absurd (unread_apart files name a (status_of s.cause) unread x)
  | inr rose ↦ absurd (not_risen rose)
]
file_alike files new before now name (Err r) (Ok b) x y = elim (unread_of files new before now name r.cause x.1) [
  | inl unread ↦ absurd (unread_apart files name b (status_of r.cause) unread y)
  | inr rose ↦ inr rose
]
file_alike files new before now name (Err r) (Err s) x y = elim (unread_of files new before now name r.cause x.1) [
  | inl unread ↦ elim (unread_of files (Some files) 0 0 name s.cause y.1) [
    | inl unread' ↦ inl (one_unread files name (status_of r.cause) (status_of s.cause) unread unread')
    | inr rose ↦ absurd (not_risen rose)
  ]
  | inr rose ↦ inr rose
]

-- bytes have one value, or are refused
pub record IsGrammar {V F : Type 0} (grammar : Grammar V F) : Type 0 where
  pub sure : (name bytes : List ℕ) → IsSure ◌≡◌ (grammar.answers bytes) (grammar.cause name)
  pub fits : (name : List ℕ) (fault : F) → status_of (grammar.cause name fault) ≡ Words → ⊥

pub input_alike : {V F : Type 0} (grammar : Grammar V F) (name : List ℕ) → IsGrammar grammar → (files : Files) (new : Option Files) (before now : ℕ)
    → Alike ◌≡◌ (Rose before now) (input (record { old = Some files; new = new; before = before; now = now }) grammar name) (input (unfaulted files) grammar name)
input_alike grammar name one files new before now =
    alike_then ◌≡◌ (Rose before now) (file (record { old = Some files; new = new; before = before; now = now }) name) (file (unfaulted files) name)
    (λ bytes. step (grammar.answers bytes) bare (grammar.cause name))
    (λ bytes. step (grammar.answers bytes) bare (grammar.cause name))
    (file_alike files new before now name)
    (λ bytes _. alike_step ◌≡◌ (Rose before now) (grammar.answers bytes) bare (grammar.cause name) (one.sure name bytes))

unread_fits : (shelf : Seen (Option Files)) (name : List ℕ) (cause : Cause) → IsUnread shelf name cause → status_of cause ≡ Words → ⊥
unread_fits shelf name (Shelf other) u e = cc
unread_fits shelf name (Length other count) u e = cc
unread_fits shelf name other u e = absurd u

-- no input is refused as words that fit no job
pub input_fits : {V F : Type 0} (grammar : Grammar V F) (name : List ℕ) → IsGrammar grammar → (shelf : Seen (Option Files)) (r : Refusal) → input shelf grammar name (Err r)
    → status_of r.cause ≡ Words → ⊥
input_fits grammar name one shelf r (inl unread) e = unread_fits shelf name r.cause unread.1 e
input_fits grammar name one shelf r (inr read) e = one.fits name read.1.1.0 (sym (ap (λ (x : Refusal). status_of x.cause) read.1.1.1.1.1) ∙ e)
