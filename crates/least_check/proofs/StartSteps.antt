-- The arrivals of one more start.
use Rattle.std.proofs.Common.{◌≡◌, ℕ, pos, ◌+◌, ◌<◌, ◌≤◌, List, length, get_or, Option, Some, None, arith, inl, inr}
use Rattle.std.proofs.lemmas.Bool.{cases_eq}
use Rattle.std.proofs.lemmas.Int.{ints}
use Rattle.std.proofs.Math.ListN.{length-set}
use Rattle.bud_base.specs.Paths.{start_at}
use Rattle.bud_base.specs.declared.problems.Problem.{Problem}
use Rattle.least_check.specs.Arrivals.{arrival_at, later, AreOfStarts, IsBetween, IsStartCause}
use Rattle.least_check.specs.declared.arrivals.Arrival.{Arrival}
use Rattle.least_check.specs.declared.arrivals.Cause.TheVariants.{OfStart}
use Rattle.least_check.proofs.ArrivalSteps.{arrived, arrived-held, arrived-new, arrived-each}

-- no arrivals are those of no start
pub AreOfStarts-none : (p : Problem) (arrivals : List (Option Arrival)) → p.nodes ≤ length arrivals → ((n : ℕ) → arrival_at arrivals n ≡ None) → AreOfStarts p 0 arrivals
AreOfStarts-none p arrivals room none = record {
  room = room;
  started = λ s below. absurd (omega arith);
  caused = λ n. rw (none n) tt;
  bounded = λ n. rw (none n) tt;
}

pub AreOfStarts-more : (p : Problem) (count n : ℕ) (new : Arrival) (arrivals : List (Option Arrival)) → count < length p.starts → n < p.nodes
    → (start_at p.starts count).node.0 ≡ n → (start_at p.starts count).offset ≡ new.time → new.cause ≡ OfStart count → IsBetween (pos 2000000000000) new
    → AreOfStarts p count arrivals → AreOfStarts p (count + 1) (arrived arrivals n new)
AreOfStarts-more p count n new arrivals within inside node time cause between so_far =
    let there : n < length arrivals = omega (arith, so_far.room) in
    record {
      room = omega (arith, so_far.room, length-set arrivals n (Some (later (get_or arrivals n None) new)));
      started = λ s below. elim (cases_eq s count) [
        | inl same ↦ rw (same, node) (arrived-new arrivals n new (start_at p.starts count).offset there (omega (arith, ints, time)))
        | inr other ↦ arrived-held arrivals n new there (start_at p.starts s).node.0 (start_at p.starts s).offset (so_far.started s (omega arith))
      ];
      caused = arrived-each (λ m a. IsStartCause p m a.time a.cause) arrivals n new there so_far.caused
          (rw cause (record { within = within; node = node; offset = time }));
      bounded = arrived-each (λ m. IsBetween (pos 2000000000000)) arrivals n new there so_far.bounded between;
    }
