-- Laws of writing files one after another.
use Rattle.std.proofs.Common.{◌≡◌, ℕ, ◌+◌, ◌<◌, ◌≤◌, List, [], ◌∷◌, drop, length, get_or, Option, Err, string_bytes, ap, sym, ◌∙◌, subst, refl}
use Rattle.std.proofs.lemmas.List.{drop_more}
use Rattle.bud_shelf.specs.Outside.{Files, IsWritten, OthersStay, IsWriteAnswer}
use Rattle.bud_shelf.specs.declared.shelves.ShelfFault.{ShelfFault}
use Rattle.bud_shelf.specs.declared.shelves.ShelfFault.TheVariants.{Missing, Failed, TooLong, NoMemory as ShelfMemory}
use Rattle.budget_steps.specs.declared.outcomes.Write.{Write}
use Rattle.budget_steps.specs.declared.outcomes.Stop.{Stop}
use Rattle.budget_steps.specs.declared.outcomes.Stop.TheVariants.{Refused as Ended, NoMemory as Wanting}
use Rattle.budget_steps.specs.Inputs.{IsStopped}
use Rattle.budget_top.specs.Writing.{AreWritten, ArePartlyWritten, IsKept}
use Rattle.budget_steps.proofs.FileLaws.{rose_since}

-- what becomes of the rest of the files also becomes of all of them
pub record GoesOn (old mid : Option Files) (writes rest : List Write) : Type 0 where
  pub whole : (new : Option Files) → AreWritten mid new rest → AreWritten old new writes
  pub partly : (new : Option Files) (name : List ℕ) → ArePartlyWritten mid new rest name → ArePartlyWritten old new writes name

pub goes_on_begun : (old : Option Files) (writes : List Write) → GoesOn old old writes writes
goes_on_begun old writes = record { whole = λ new written. written; partly = λ new name written. written }

partly_more : (old mid new : Option Files) (write : Write) (rest : List Write) (name : List ℕ) → IsWritten old mid (string_bytes write.name) write.bytes
    → ArePartlyWritten mid new rest name → ArePartlyWritten old new (write ∷ rest) name
partly_more old mid new write rest name written partly = record {
  first = write ∷ partly.first;
  next = partly.next;
  others = partly.others;
  in_order = rw partly.in_order refl;
  named = partly.named;
  mid = partly.mid;
  whole = (mid, (written, partly.whole));
  stay = partly.stay;
}

partly_here : (old new : Option Files) (write : Write) (rest : List Write) → OthersStay old new (string_bytes write.name)
    → ArePartlyWritten old new (write ∷ rest) (string_bytes write.name)
partly_here old new write rest stay = record {
  first = [];
  next = write;
  others = rest;
  in_order = refl;
  named = refl;
  mid = old;
  whole = refl;
  stay = stay;
}

-- the place of the file that is next
at_next : (old mid : Option Files) (writes : List Write) (i : ℕ) (write : Write) → i < length writes → write ≡ get_or writes i write
    → GoesOn old mid writes (drop i writes) → GoesOn old mid writes (write ∷ drop (i + 1) writes)
at_next old mid writes i write within e goes =
    let P : List Write → Type 0 = λ rest. GoesOn old mid writes rest in
    subst P (drop_more writes i write within ∙ ap (λ (x : Write). x ∷ drop (i + 1) writes) (sym e)) goes

-- it is written
pub keeps_on : (old mid new : Option Files) (writes : List Write) (i : ℕ) (write : Write) (name bytes : List ℕ) → i < length writes → write ≡ get_or writes i write
    → name ≡ string_bytes write.name → bytes ≡ write.bytes → GoesOn old mid writes (drop i writes) → IsWritten mid new name bytes
    → GoesOn old new writes (drop (i + 1) writes)
keeps_on old mid new writes i write name bytes within e named held goes written =
    let here = at_next old mid writes i write within e goes in
    let N : List ℕ → Type 0 = λ n. IsWritten mid new n write.bytes in
    let B : List ℕ → Type 0 = λ b. IsWritten mid new name b in
    let done = subst N named (subst B held written) in
    record {
      whole = λ last rest. here.whole last (new, (done, rest));
      partly = λ last other rest. here.partly last other (partly_more mid new last write (drop (i + 1) writes) other done rest);
    }

-- it isn't
stops_here : (old mid new : Option Files) (writes : List Write) (i : ℕ) (write : Write) (name : List ℕ) → i < length writes → write ≡ get_or writes i write
    → name ≡ string_bytes write.name → GoesOn old mid writes (drop i writes) → OthersStay mid new name → ArePartlyWritten old new writes name
stops_here old mid new writes i write name within e named goes stay =
    let here = at_next old mid writes i write within e goes in
    let O : List ℕ → Type 0 = λ n. OthersStay mid new n in
    let P : List ℕ → Type 0 = λ n. ArePartlyWritten old new writes n in
    subst P (sym named) (here.partly new (string_bytes write.name) (partly_here mid new write (drop (i + 1) writes) (subst O named stay)))

pub keeps_stopped : (old mid new : Option Files) (before count now : ℕ) (writes : List Write) (i : ℕ) (write : Write) (name bytes : List ℕ) (fault : ShelfFault) (stop : Stop)
    → i < length writes → write ≡ get_or writes i write → name ≡ string_bytes write.name → GoesOn old mid writes (drop i writes) → before ≤ count
    → IsWriteAnswer mid new count now name bytes (Err fault) → IsStopped name fault stop
    → IsKept (record { old = old; new = new; before = before; now = now }) writes (Err stop)
keeps_stopped old mid new before count now writes i write name bytes Missing stop within e named goes earlier answer stopped = absurd answer
keeps_stopped old mid new before count now writes i write name bytes (TooLong n) stop within e named goes earlier answer stopped = absurd answer
keeps_stopped old mid new before count now writes i write name bytes Failed (Ended said) within e named goes earlier answer stopped =
    (name, (stops_here old mid new writes i write name within e named goes answer.0, (rose_since before count now earlier answer.1, stopped.1)))
keeps_stopped old mid new before count now writes i write name bytes Failed Wanting within e named goes earlier answer stopped =
    (name, stops_here old mid new writes i write name within e named goes answer.0)
keeps_stopped old mid new before count now writes i write name bytes ShelfMemory stop within e named goes earlier answer stopped =
    let K : Stop → Type 0 = λ s. IsKept (record { old = old; new = new; before = before; now = now }) writes (Err s) in
    subst K (sym stopped) (name, stops_here old mid new writes i write name within e named goes answer)
