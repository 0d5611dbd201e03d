-- What is written under one name leaves all other files as they were.
use Rattle.std.proofs.Common.{◌≡◌, ◌≢◌, ℕ, List, [], ◌∷◌, ◌++◌, Option, Some, None, Bool, true, false, cond, string_bytes, ap, sym, ◌∙◌, subst, refl}
use Rattle.std.specs.FinMap.{get, insert}
use Rattle.std.specs.Str.{bytes_eq}
use Rattle.std.proofs.lemmas.Slice.Eq.{bytes_eq-Decides}
use Rattle.bud_shelf.specs.Outside.{Files, IsWritten, OthersStay}
use Rattle.bud_shelf.proofs.Names.{get-insert_name}
use Rattle.budget_report.specs.declared.statuses.Status.{Status}
use Rattle.budget_report.specs.declared.statuses.Status.TheVariants.{Done}
use Rattle.budget_steps.specs.declared.outcomes.Write.{Write}
use Rattle.budget_top.specs.Runs.{KeepsOthers}
use Rattle.budget_top.specs.Writing.{AreWritten, ArePartlyWritten}

-- each of the files has this name
abbrev pub AreNamed : List ℕ → List Write → Type 0
AreNamed name [] = Unit {0}
AreNamed name (write ∷ writes) = (string_bytes write.name ≡ name) × AreNamed name writes

-- the files are all of the name of a job's output, and there are none where it has none
abbrev pub AreOf : Option (List ℕ) → List Write → Type 0
AreOf None writes = writes ≡ []
AreOf (Some name) writes = AreNamed name writes

-- what a job writes is of its output, and only where the job is done
pub record WritesTo (out : Option (List ℕ)) (status : Status) (writes : List Write) : Type 0 where
  pub named : AreOf out writes
  pub done : (status ≡ Done → ⊥) → writes ≡ []

pub no_writes : (out : Option (List ℕ)) (status : Status) → WritesTo out status []
no_writes None status = record { named = refl; done = λ other. refl }
no_writes (Some name) status = record { named = tt; done = λ other. refl }

pub writes_none : (status : Status) (writes : List Write) → writes ≡ [] → WritesTo None status writes
writes_none status writes none = record { named = none; done = λ other. none }

-- ---- one file
apart_eq : (b : Bool) (a c : List ℕ) → (b ≡ true → a ≡ c) → a ≢ c → b ≡ false
apart_eq true a c same apart = absurd (apart (same refl))
apart_eq false a c same apart = refl

other_got : (files : Files) (name bytes other : List ℕ) → other ≢ name → get (insert files name bytes) other ≡ get files other
other_got files name bytes other apart =
    get-insert_name files name bytes other
    ∙ ap (λ (b : Bool). cond b (Some bytes) (get files other)) (apart_eq (bytes_eq other name) other name (bytes_eq-Decides other name).0 apart)

stays : (files : Option Files) (name : List ℕ) → OthersStay files files name
stays (Some files) name = λ other apart. refl
stays None name = tt

stays_on : (old mid new : Option Files) (name : List ℕ) → OthersStay old mid name → OthersStay mid new name → OthersStay old new name
stays_on (Some old) (Some mid) (Some new) name first second = λ other apart. second other apart ∙ first other apart
stays_on (Some old) (Some mid) None name first second = absurd second
stays_on (Some old) None new name first second = absurd first
stays_on None mid new name first second = tt

written_stays : (old new : Option Files) (name bytes : List ℕ) → IsWritten old new name bytes → OthersStay old new name
written_stays (Some old) new name bytes written =
    subst (λ (files : Option Files). OthersStay (Some old) files name) (sym written) (λ other apart. other_got old name bytes other apart)
written_stays None new name bytes written = tt

-- ---- files in order
all_stay : (old new : Option Files) (writes : List Write) (name : List ℕ) → AreNamed name writes → AreWritten old new writes → OthersStay old new name
all_stay old new [] name named written = subst (λ (files : Option Files). OthersStay old files name) (sym written) (stays old name)
all_stay old new (write ∷ writes) name named written =
    stays_on old written.0 new name
    (subst (λ (n : List ℕ). OthersStay old written.0 n) named.0 (written_stays old written.0 (string_bytes write.name) write.bytes written.1.0))
    (all_stay written.0 new writes name named.1 written.1.1)

named_first : (name : List ℕ) (first : List Write) (next : Write) (others : List Write) → AreNamed name (first ++ next ∷ others)
    → AreNamed name first × (string_bytes next.name ≡ name)
named_first name [] next others named = (tt, named.0)
named_first name (write ∷ first) next others named = let rest = named_first name first next others named.1 in ((named.0, rest.0), rest.1)

partly_stay : (old new : Option Files) (writes : List Write) (name other : List ℕ) → AreNamed name writes → ArePartlyWritten old new writes other → OthersStay old new name
partly_stay old new writes name other named partly =
    let split = named_first name partly.first partly.next partly.others (subst (λ (ws : List Write). AreNamed name ws) partly.in_order named) in
    stays_on old partly.mid new name (all_stay old partly.mid partly.first name split.0 partly.whole)
    (subst (λ (n : List ℕ). OthersStay partly.mid new n) (sym partly.named ∙ split.1) partly.stay)

none_first : (first : List Write) (next : Write) (others : List Write) → [] ≡ first ++ next ∷ others → ⊥
none_first [] next others e = cc
none_first (write ∷ first) next others e = cc

-- ---- the output of a job
pub same_kept : (out : Option (List ℕ)) (old new : Option Files) → new ≡ old → KeepsOthers out old new
same_kept None old new same = same
same_kept (Some name) old new same = subst (λ (files : Option Files). OthersStay old files name) (sym same) (stays old name)

pub written_kept : (out : Option (List ℕ)) (old new : Option Files) (writes : List Write) → AreOf out writes → AreWritten old new writes → KeepsOthers out old new
written_kept None old new writes are written = subst (λ (ws : List Write). AreWritten old new ws) are written
written_kept (Some name) old new writes are written = all_stay old new writes name are written

pub partly_kept : (out : Option (List ℕ)) (old new : Option Files) (writes : List Write) (name : List ℕ) → AreOf out writes → ArePartlyWritten old new writes name
    → KeepsOthers out old new
partly_kept None old new writes name are partly = absurd (none_first partly.first partly.next partly.others (sym are ∙ partly.in_order))
partly_kept (Some own) old new writes name are partly = partly_stay old new writes own name are partly
