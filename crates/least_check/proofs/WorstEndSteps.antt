-- The worst end of one end more.
use Rattle.std.proofs.Common.{◌≡◌, ℕ, ℤ, ◌+◌, ◌-ℤ◌, ◌<◌, ◌≤ℤ◌, List, Option, Some, None, arith, sym, inl, inr, subst, IsSomeAnd, int_le}
use Rattle.std.proofs.lemmas.Bool.{cases_eq, cases_Bool}
use Rattle.std.proofs.lemmas.Int.{ints}
use Rattle.bud_base.specs.Paths.{end_at}
use Rattle.bud_base.specs.declared.problems.Problem.{Problem}
use Rattle.least_check.specs.Arrivals.{arrival_at, ArrivesFrom}
use Rattle.least_check.specs.WorstEnds.{worse_of, Leaves, IsWorst, IsWorstEnd}
use Rattle.least_check.specs.declared.arrivals.Arrival.{Arrival}
use Rattle.least_check.specs.declared.worst_ends.WorstEnd.{WorstEnd}

-- an end without arrival changes nothing
pub IsWorstEnd-skip : (p : Problem) (count : ℕ) (arrivals : List (Option Arrival)) (held : Option WorstEnd) → arrival_at arrivals (end_at p.ends count).node.0 ≡ None
    → IsWorstEnd p count arrivals held → IsWorstEnd p (count + 1) arrivals held
IsWorstEnd-skip p count arrivals None none so_far = λ e below. elim (cases_eq e count) [
  | inl same ↦ rw same none
  | inr other ↦ so_far e (omega arith)
]
IsWorstEnd-skip p count arrivals (Some worst) none so_far = record {
  within = omega (arith, so_far.within);
  slack = so_far.slack;
  least = λ e below. elim (cases_eq e count) [
    | inl same ↦ λ t arrives. absurd (subst (ArrivesFrom t) none (rw same at arrives))
    | inr other ↦ so_far.least e (omega arith)
  ];
}

-- the worst end so far, where no arrival at the next one leaves less
IsWorst-keep : (p : Problem) (count : ℕ) (arrivals : List (Option Arrival)) (worst : WorstEnd) → Leaves p arrivals worst.slack count
    → IsWorst p count arrivals worst → IsWorst p (count + 1) arrivals worst
IsWorst-keep p count arrivals worst leaves so_far = record {
  within = omega (arith, so_far.within);
  slack = so_far.slack;
  least = λ e below. elim (cases_eq e count) [
    | inl same ↦ rw same leaves
    | inr other ↦ so_far.least e (omega arith)
  ];
}

Leaves-less : (p : Problem) (arrivals : List (Option Arrival)) (s r : ℤ) (e : ℕ) → r ≤ℤ s → Leaves p arrivals s e → Leaves p arrivals r e
Leaves-less p arrivals s r e less leaves = λ t arrives. omega (arith, ints, leaves t arrives)

-- what the latest arrival leaves is left by every one
Leaves-latest : (p : Problem) (arrivals : List (Option Arrival)) (e : ℕ) (a : Arrival) (s : ℤ) → arrival_at arrivals (end_at p.ends e).node.0 ≡ Some a
    → (end_at p.ends e).require -ℤ a.time ≡ s → Leaves p arrivals s e
Leaves-latest p arrivals e a s is slack = λ t arrives.
    let early : t ≤ℤ a.time = subst (ArrivesFrom t) is arrives in
    omega (arith, ints)

-- the next end is the worst
IsWorst-new : (p : Problem) (count : ℕ) (arrivals : List (Option Arrival)) (a : Arrival) (new : WorstEnd) → arrival_at arrivals (end_at p.ends count).node.0 ≡ Some a
    → (end_at p.ends count).require -ℤ a.time ≡ new.slack → new.end ≡ count → ((e : ℕ) → e < count → Leaves p arrivals new.slack e) → IsWorst p (count + 1) arrivals new
IsWorst-new p count arrivals a new is slack number before = record {
  within = omega (arith, number);
  slack = rw number (let P : Option Arrival → Type 0 = λ o. IsSomeAnd o (λ b. (end_at p.ends count).require -ℤ b.time ≡ new.slack) in subst P (sym is) slack);
  least = λ e below. elim (cases_eq e count) [
    | inl same ↦ rw same (Leaves-latest p arrivals count a new.slack is slack)
    | inr other ↦ before e (omega arith)
  ];
}

pub IsWorstEnd-more : (p : Problem) (count : ℕ) (arrivals : List (Option Arrival)) (held : Option WorstEnd) (a : Arrival) (new : WorstEnd)
    → arrival_at arrivals (end_at p.ends count).node.0 ≡ Some a → (end_at p.ends count).require -ℤ a.time ≡ new.slack → new.end ≡ count
    → IsWorstEnd p count arrivals held → IsWorst p (count + 1) arrivals (worse_of held new)
IsWorstEnd-more p count arrivals None a new is slack number so_far =
    IsWorst-new p count arrivals a new is slack number (λ e below t arrives. absurd (subst (ArrivesFrom t) (so_far e below) arrives))
IsWorstEnd-more p count arrivals (Some held) a new is slack number so_far =
    elim (cases_Bool (int_le held.slack new.slack)) [
      | inl less ↦ rw less (IsWorst-keep p count arrivals held (Leaves-less p arrivals new.slack held.slack count (grind (arith, ints)) (Leaves-latest p arrivals count a new.slack is slack)) so_far)
      | inr more ↦ rw more (IsWorst-new p count arrivals a new is slack number (λ e below. Leaves-less p arrivals held.slack new.slack e (grind (arith, ints)) (so_far.least e below)))
    ]
