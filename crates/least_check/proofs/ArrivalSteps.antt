-- What one more arrival changes.
use Rattle.std.proofs.Common.{◌≡◌, ◌≢◌, ℕ, ℤ, ◌≤ℤ◌, ◌<◌, List, length, get_or, set, Option, Some, None, arith, refl, inl, inr, get_or-set_same, get_or-set_other, IfSome}
use Rattle.std.proofs.lemmas.Bool.{cases_eq}
use Rattle.std.proofs.lemmas.Grind.{common_steps}
use Rattle.std.proofs.lemmas.Int.{ints}
use Rattle.least_check.specs.Arrivals.{arrival_at, later, ArrivesFrom}
use Rattle.least_check.specs.declared.arrivals.Arrival.{Arrival}

-- what was arrived at still is
pub ArrivesFrom-held : (o : Option Arrival) (new : Arrival) (t : ℤ) → ArrivesFrom t o → t ≤ℤ (later o new).time
ArrivesFrom-held None new t from = absurd from
ArrivesFrom-held (Some held) new t from = grind (arith, common_steps, ints)

-- the later of two is no sooner than the new one
pub later-new : (o : Option Arrival) (new : Arrival) → new.time ≤ℤ (later o new).time
later-new None new = grind (arith, ints)
later-new (Some held) new = grind (arith, common_steps, ints)

-- the later of two is one of them
pub later-each : (P : Arrival → Type 0) (o : Option Arrival) (new : Arrival) → IfSome o P → P new → P (later o new)
later-each P None new _ here = here
later-each P (Some held) new there here = grind (arith, common_steps, ints)

-- the arrivals after one more at the node of this number
abbrev pub arrived : List (Option Arrival) → ℕ → Arrival → List (Option Arrival)
arrived arrivals n new = set arrivals n (Some (later (get_or arrivals n None) new))

-- at other nodes nothing changes
pub arrived-other : (arrivals : List (Option Arrival)) (n : ℕ) (new : Arrival) (m : ℕ) → m ≢ n → arrival_at (arrived arrivals n new) m ≡ arrival_at arrivals m
arrived-other arrivals n new m other = get_or-set_other arrivals n m (Some (later (get_or arrivals n None) new)) None other

pub arrived-same : (arrivals : List (Option Arrival)) (n : ℕ) (new : Arrival) → n < length arrivals → arrival_at (arrived arrivals n new) n ≡ Some (later (arrival_at arrivals n) new)
arrived-same arrivals n new there = get_or-set_same arrivals n (Some (later (get_or arrivals n None) new)) None there

-- every node's arrival is as late as before
pub arrived-held : (arrivals : List (Option Arrival)) (n : ℕ) (new : Arrival) → n < length arrivals → (m : ℕ) (t : ℤ)
    → ArrivesFrom t (arrival_at arrivals m) → ArrivesFrom t (arrival_at (arrived arrivals n new) m)
arrived-held arrivals n new there m t from = elim (cases_eq m n) [
  | inl same ↦ rw (same, arrived-same arrivals n new there) (ArrivesFrom-held (arrival_at arrivals n) new t (rw same at from))
  | inr other ↦ rw (arrived-other arrivals n new m other) from
]

-- the new arrival counts
pub arrived-new : (arrivals : List (Option Arrival)) (n : ℕ) (new : Arrival) (t : ℤ) → n < length arrivals → t ≤ℤ new.time
    → ArrivesFrom t (arrival_at (arrived arrivals n new) n)
arrived-new arrivals n new t there early = rw (arrived-same arrivals n new there) (omega (arith, ints, later-new (arrival_at arrivals n) new))

-- what holds of the new arrival, and of each before, holds of each after
pub arrived-each : (P : ℕ → Arrival → Type 0) (arrivals : List (Option Arrival)) (n : ℕ) (new : Arrival) → n < length arrivals
    → ((m : ℕ) → IfSome (arrival_at arrivals m) (P m)) → P n new → (m : ℕ) → IfSome (arrival_at (arrived arrivals n new) m) (P m)
arrived-each P arrivals n new there before here m = elim (cases_eq m n) [
  | inl same ↦ rw (same, arrived-same arrivals n new there) (later-each (P n) (arrival_at arrivals n) new (before n) here)
  | inr other ↦ rw (arrived-other arrivals n new m other) (before m)
]

-- there is no value where it is none of them
pub is_none : {A : Type 0} (o : Option A) → ((x : A) → o ≡ Some x → ⊥) → o ≡ None
is_none None _ = refl
is_none (Some x) other = absurd (other x refl)
