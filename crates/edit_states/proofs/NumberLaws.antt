-- Numbers of commands, as commands come and go.
use Rattle.std.specs.Prelude.{◌≡◌, ℕ, ◌+◌, ◌<◌, ◌≤◌, ◌==◌, not, ℤ, Bool, true, false, List, [], ◌∷◌, ◌++◌, filter, All, AllPairs, Option, Some, None, Result, Ok, Err, if◌then◌else◌}
use Rattle.std.proofs.Common.{refl, subst, arith}
use Rattle.std.proofs.lemmas.List.Elements.{All-nil, All-cons, All-append, All-head, All-tail}
use Rattle.std.proofs.lemmas.List.Kept.{AllPairs-cons}
use Rattle.bud_design.proofs.ClassLaws.{pairs-head, pairs-tail}
use Rattle.timing_graph.proofs.Apartness.{AllPairs-append}
use Rattle.bud_design.specs.declared.policies.Edit.{Edit}
use Rattle.bud_design.specs.declared.policies.Edit.TheVariants as edit
use Rattle.bud_design.specs.declared.policies.NumberedCommand.{NumberedCommand}
use Rattle.bud_design.specs.Policies.{arc_called}
use Rattle.edit_states.specs.Edits.{edited, delayed, has_command, without}
use Rattle.edit_states.specs.States.{State, HasNumbers}
use Rattle.edit_states.specs.declared.faults.EditFault.{EditFault}
use Rattle.edit_states.specs.declared.faults.EditFault.TheVariants.{UnknownArc, UnknownCommand}

-- what is kept of a list keeps what all its elements keep
kept-all : {X : Type 0} (P : X → Type 0) (p : X → Bool) (xs : List X) → All P xs → All P (filter p xs)
kept-all P p [] all = all
kept-all {X} P p (x ∷ xs) all = by-test (p x) refl (kept-all P p xs (All-tail P x xs all))
  where
    by-test : (b : Bool) → p x ≡ b → All P (filter p xs) → All P (filter p (x ∷ xs))
    by-test true is rest = rw is (All-cons P x (filter p xs) (All-head P x xs all) rest)
    by-test false is rest = rw is rest

kept-pairs : {X : Type 0} (R : X → X → Type 0) (p : X → Bool) (xs : List X) → AllPairs R xs → AllPairs R (filter p xs)
kept-pairs R p [] all = all
kept-pairs {X} R p (x ∷ xs) all = by-test (p x) refl (kept-pairs R p xs (pairs-tail R x xs all))
  where
    by-test : (b : Bool) → p x ≡ b → AllPairs R (filter p xs) → AllPairs R (filter p (x ∷ xs))
    by-test true is rest = rw is (AllPairs-cons R x (filter p xs) (kept-all (R x) p xs (pairs-head R x xs all)) rest)
    by-test false is rest = rw is rest

-- one number below the number of a command
one-above : (n next : ℕ) (c : NumberedCommand) → c.number ≡ next → n < next → All (λ b. n < b.number) (c ∷ [])
one-above n next c is low = All-cons (λ b. n < b.number) c [] (omega (arith, is, low)) (All-nil (λ b. n < b.number))

-- a command more, with the next number
added : (s : State) (c : NumberedCommand) → c.number ≡ s.next → HasNumbers s → HasNumbers (record s { commands = s.commands ++ c ∷ []; next = s.next + 1 })
added s c is numbers = record {
  rising =
      AllPairs-append (λ a b. a.number < b.number) s.commands (c ∷ []) numbers.rising (λ i j d less below. absurd (omega (arith, less, below)))
      (λ k d within. one-above _ s.next c is (numbers.below k d within));
  below =
      All-append (λ a. a.number < s.next + 1) s.commands (c ∷ []) (λ k d below. (let low = numbers.below k d below in omega (arith, low)))
      (All-cons (λ a. a.number < s.next + 1) c [] (omega (arith, is)) (All-nil (λ a. a.number < s.next + 1)));
}

dropped : (s : State) (number : ℕ) → HasNumbers s → HasNumbers (record s { commands = without s.commands number })
dropped s number numbers = record {
  rising = kept-pairs (λ a b. a.number < b.number) (λ c. not (c.number == number)) s.commands numbers.rising;
  below = kept-all (λ c. c.number < s.next) (λ c. not (c.number == number)) s.commands numbers.below;
}

-- two answers of one edit
pub same_state : (a b : State) → ◌≡◌ {A = Result State EditFault} (Ok a) (Ok b) → a ≡ b
same_state a b same = cc

delay_keeps : (s : State) (amount : ℤ) (unknown : EditFault) (o : Option ℕ) (new : State) → delayed s amount unknown o ≡ Ok new → HasNumbers s → HasNumbers new × (s.next ≤ new.next)
delay_keeps s amount unknown None new is numbers = (let no : ⊥ = cc in absurd no)
delay_keeps s amount unknown (Some a) new is numbers =
    subst (λ (t : State). HasNumbers t × (s.next ≤ t.next)) (same_state _ new is) (record { rising = numbers.rising; below = numbers.below }, omega arith)

drop_keeps : (s : State) (number : ℕ) (b : Bool) (new : State) →
    ◌≡◌ {A = Result State EditFault} (if b then Ok (record s { commands = without s.commands number }) else Err (UnknownCommand number)) (Ok new) → HasNumbers s → HasNumbers new × (s.next ≤ new.next)
drop_keeps s number true new is numbers = subst (λ (t : State). HasNumbers t × (s.next ≤ t.next)) (same_state _ new is) (dropped s number numbers, omega arith)
drop_keeps s number false new is numbers = (let no : ⊥ = cc in absurd no)

-- numbers rise and lie below the next one, which never falls
pub keeps : (s : State) (e : Edit) (new : State) → HasNumbers s → edited s e ≡ Ok new → HasNumbers new × (s.next ≤ new.next)
keeps s (edit.Delay from to amount) new numbers is = delay_keeps s amount (UnknownArc from to) (arc_called s.design s.arcs from to) new is numbers
keeps s (edit.Add command) new numbers is =
    subst (λ (t : State). HasNumbers t × (s.next ≤ t.next)) (same_state _ new is) (added s (record { number = s.next; command = command }) refl numbers, omega arith)
keeps s (edit.Drop number) new numbers is = drop_keeps s number (has_command s.commands number) new is numbers
keeps s (edit.Line line) new numbers is =
    subst (λ (t : State). HasNumbers t × (s.next ≤ t.next)) (same_state _ new is) (record { rising = numbers.rising; below = numbers.below }, omega arith)
