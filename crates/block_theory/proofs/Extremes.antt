-- Arrivals that suit budgets lie between the earliest and the latest of each node, and so do the delays that are written for them.
use Rattle.std.specs.Prelude.{ℕ, ℤ, ◌≤ℤ◌, List}
use Rattle.std.proofs.Common.{arith}
use Rattle.std.proofs.lemmas.Int.{ints}
use Rattle.bud_base.specs.Arrivals.{FollowDelays}
use Rattle.bud_base.specs.Paths.{least_of, start_at, end_at}
use Rattle.bud_base.specs.declared.problems.Problem.{Problem}
use Rattle.bud_base.proofs.Sums.{sum_along-le_arrivals}
use Rattle.bud_flow.specs.Sums.{number_at}
use Rattle.bud_plans.specs.Budgets.{AreWithinBounds, SuitBudgets}
use Rattle.block_theory.specs.BlockValues.{ArrivesBy, LeavesBy, AreExtremes, LieBetween}

module _ (p : Problem) (budgets arrivals : List ℤ) (bounds : AreWithinBounds p budgets) (suit : SuitBudgets p budgets arrivals) where
  follow-least : FollowDelays p.items (least_of p) (number_at arrivals)
  follow-least i below = omega (arith, ints, (bounds.each i below).low, suit.suit.items i below)

  arrives-most : (n : ℕ) (time : ℤ) → ArrivesBy p n time → time ≤ℤ number_at arrivals n
  arrives-most n time by =
      omega (
        arith,
        ints,
        by.time_is,
        suit.suit.starts by.start by.number,
        sum_along-le_arrivals p.items (least_of p) (number_at arrivals) by.items (start_at p.starts by.start).node.0 n follow-least by.joined,
      )

  leaves-least : (n : ℕ) (time : ℤ) → LeavesBy p n time → number_at arrivals n ≤ℤ time
  leaves-least n time by =
      omega (
        arith,
        ints,
        by.time_is,
        suit.suit.ends by.end by.number,
        sum_along-le_arrivals p.items (least_of p) (number_at arrivals) by.items n (end_at p.ends by.end).node.0 follow-least by.joined,
      )

  pub LieBetween-suiting : (early late : List ℤ) → AreExtremes p early late → LieBetween p early arrivals late
  LieBetween-suiting early late are = record {
    from = λ n below. arrives-most n (number_at early n) (are.earliest n below).attained;
    to = λ n below. leaves-least n (number_at late n) (are.latest n below).attained;
  }
