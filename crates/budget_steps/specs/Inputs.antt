-- Input files: their bytes, and the values that these read as.
use Rattle.std.specs.Prelude.{◌≡◌, ◌≤◌, ◌<◌, ◌⊎◌, ℕ, List, length, Option, Some, Result, Ok, Err}
use Rattle.bud_shelf.specs.Outside.{longest_file, Files, IsFile, HasLength, IsMissing, Rose}
use Rattle.budget_report.specs.declared.causes.Cause.{Cause}
use Rattle.budget_report.specs.declared.causes.Cause.TheVariants.{Shelf, Length}
use Rattle.budget_report.specs.Subjects.{bare}
use Rattle.bud_shelf.specs.declared.shelves.ShelfFault.{ShelfFault}
use Rattle.bud_shelf.specs.declared.shelves.ShelfFault.TheVariants.{Missing, Failed, TooLong, NoMemory}
use Rattle.budget_steps.specs.declared.outcomes.Stop.{Stop}
use Rattle.budget_steps.specs.declared.outcomes.Stop.TheVariants.{NoMemory as Wanting}
use Rattle.budget_steps.specs.Steps.{Course, ◌>>=◌, step, IsRefused}

-- what a shelf or a sink tells, before and after, and its counts of faults
pub record Seen (A : Type 0) : Type 0 where
  pub old : A
  pub new : A
  pub before : ℕ
  pub now : ℕ

abbrev pub seen : {X A : Type 0} → (X → A) → (X → ℕ) → X → X → Seen A
seen told faults old new = record { old = told old; new = told new; before = faults old; now = faults new }

-- the file of this name holds exactly these bytes, and no more than a shelf reads
abbrev pub IsWhole : Option Files → List ℕ → List ℕ → Type 0
IsWhole files name bytes = IsFile files name bytes × (length bytes ≤ longest_file)

-- the file of this name is missing, or the count of faults rose
abbrev pub IsOut : Seen (Option Files) → List ℕ → Type 0
IsOut shelf name = IsMissing shelf.old name shelf.before shelf.now ⊎ Rose shelf.before shelf.now

-- the file of this name has so many bytes, more than a shelf reads
abbrev pub IsLong : Option Files → List ℕ → ℕ → Type 0
IsLong files name count = (longest_file < count) × HasLength files name count

-- the cause that a file isn't read
abbrev pub IsUnread : Seen (Option Files) → List ℕ → Cause → Type 0
IsUnread shelf name (Shelf other) = (other ≡ name) × IsOut shelf name
IsUnread shelf name (Length other count) = (other ≡ name) × IsLong shelf.old name count
IsUnread shelf name other = ⊥

-- the bytes of a file
abbrev pub file : Seen (Option Files) → List ℕ → Course (List ℕ)
file shelf name (Ok bytes) = IsWhole shelf.old name bytes
file shelf name (Err r) = (r.subject ≡ bare) × IsUnread shelf name r.cause

-- the end of a job that can't read or write the file, for this refusal of the shelf
abbrev pub IsStopped : List ℕ → ShelfFault → Stop → Type 0
IsStopped name Missing stop = IsRefused (record { subject = bare; cause = Shelf name }) stop
IsStopped name Failed stop = IsRefused (record { subject = bare; cause = Shelf name }) stop
IsStopped name (TooLong count) stop = IsRefused (record { subject = bare; cause = Length name count }) stop
IsStopped name NoMemory stop = stop ≡ Wanting

-- a kind of file: what a reader answers to its bytes, and the cause of a refusal, with the file's name
pub record Grammar (V F : Type 0) : Type 1 where
  pub answers : List ℕ → Result V F → Type 0
  pub cause : List ℕ → F → Cause

-- some bytes, no more than a shelf reads, read as the value
abbrev pub IsRead : {V F : Type 0} → Grammar V F → V → Type 0
IsRead grammar v = (bytes : List ℕ) × ((length bytes ≤ longest_file) × grammar.answers bytes (Ok v))

-- the value that a file reads as
abbrev pub input : {V F : Type 0} → Seen (Option Files) → Grammar V F → List ℕ → Course V
input shelf grammar name = do
  bytes ← file shelf name
  step (grammar.answers bytes) bare (grammar.cause name)

-- what is told before any fault
abbrev pub unfaulted : Files → Seen (Option Files)
unfaulted files = record { old = Some files; new = Some files; before = 0; now = 0 }
