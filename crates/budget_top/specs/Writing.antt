-- The files that a job writes, in order: whole, or a first part of them.
use Rattle.std.specs.Prelude.{◌≡◌, ℕ, List, [], ◌∷◌, ◌++◌, Option, Result, Ok, Err, string_bytes}
use Rattle.bud_shelf.specs.Outside.{Files, IsWritten, OthersStay}
use Rattle.bud_shelf.specs.Outside.{Rose}
use Rattle.budget_report.specs.declared.causes.Cause.TheVariants.{Shelf}
use Rattle.budget_report.specs.Subjects.{bare}
use Rattle.budget_steps.specs.declared.outcomes.Said.{Said}
use Rattle.budget_steps.specs.declared.outcomes.Write.{Write}
use Rattle.budget_steps.specs.declared.outcomes.Stop.{Stop}
use Rattle.budget_steps.specs.declared.outcomes.Stop.TheVariants.{Refused, NoMemory}
use Rattle.budget_steps.specs.Outcomes.{refusal_said}
use Rattle.budget_steps.specs.Inputs.{Seen}

-- all are written whole, and no other file changes
abbrev pub AreWritten : Option Files → Option Files → List Write → Type 0
AreWritten old new [] = new ≡ old
AreWritten old new (write ∷ writes) =
    (mid : Option Files) × (IsWritten old mid (string_bytes write.name) write.bytes × AreWritten mid new writes)

-- those of a first part are written whole, the next one, which has this name, may hold anything, and no other file changes
pub record ArePartlyWritten (old new : Option Files) (writes : List Write) (name : List ℕ) : Type 0 where
  pub first : List Write
  pub next : Write
  pub others : List Write
  pub in_order : writes ≡ first ++ next ∷ others
  pub named : string_bytes next.name ≡ name
  pub mid : Option Files
  pub whole : AreWritten old mid first
  pub stay : OthersStay mid new name

-- the file of this name could not be written
abbrev pub unwritten : List ℕ → Said
unwritten name = refusal_said (record { subject = bare; cause = Shelf name })

-- all are written; or one isn't, since the count of faults rose, and is named; or memory was wanting for one
abbrev pub IsKept : Seen (Option Files) → List Write → Result (Unit {0}) Stop → Type 0
IsKept shelf writes (Ok _) = AreWritten shelf.old shelf.new writes
IsKept shelf writes (Err (Refused said)) =
    (name : List ℕ) × (ArePartlyWritten shelf.old shelf.new writes name × (Rose shelf.before shelf.now × (said ≡ unwritten name)))
IsKept shelf writes (Err NoMemory) = (name : List ℕ) × ArePartlyWritten shelf.old shelf.new writes name
