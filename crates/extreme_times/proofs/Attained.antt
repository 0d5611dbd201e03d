-- Times that suit, each by a cause, are the earliest and the latest.
use Rattle.std.specs.Prelude.{◌≡◌, ℕ, zero, suc, ◌+◌, ◌<◌, ◌≤◌, ℤ, ◌+ℤ◌, ◌≤ℤ◌, List, [], ◌∷◌, ◌++◌}
use Rattle.std.proofs.Common.{refl, sym, ◌∙◌, ap, arith, inl, inr}
use Rattle.std.proofs.lemmas.Int.{ints}
use Rattle.bud_base.specs.declared.ids.ItemId.{ItemId}
use Rattle.bud_base.specs.declared.problems.Problem.{Problem}
use Rattle.bud_base.specs.Orders.{IsOrder}
use Rattle.bud_base.specs.Paths.{Joins, item_at, start_at, end_at, least_of, sum_along}
use Rattle.bud_base.specs.Soundness.{IsSound}
use Rattle.bud_base.proofs.Joining.{Joins-append}
use Rattle.bud_base.proofs.Sums.{sum_along-append, sum_along-le_arrivals}
use Rattle.bud_flow.specs.Sums.{number_at}
use Rattle.block_theory.specs.BlockValues.{ArrivesBy, LeavesBy, IsEarliest, IsLatest, AreExtremes}
use Rattle.extreme_times.specs.Causes.{HasEarlyCause, HasLateCause}
use Rattle.extreme_times.specs.Extremes.{AreEarly, AreLate}

abbrev id : ℕ → ItemId
id i = record { 0 = i }

module _ (p : Problem) (sound : IsSound p) where
  order : IsOrder p.nodes p.items sound.order.0
  order = sound.order.1

  -- ---- the earliest times
  module _ (times : List ℤ) (are : AreEarly p times) where
    -- by the nodes' places: a cause is a start, or an item from a node at an earlier place
    arrives : (m n : ℕ) → n < p.nodes → order.place n < m → ArrivesBy p n (number_at times n)
    arrives zero n below before = absurd (omega (arith, before))
    arrives (suc m) n below before = by_cause (are.causes n below) (arrives m)
      where
        by_cause : HasEarlyCause p times n → ((k : ℕ) → k < p.nodes → order.place k < m → ArrivesBy p k (number_at times k)) → ArrivesBy p n (number_at times n)
        by_cause (inl starts) onward = record { start = starts.start; number = starts.below; items = []; joined = starts.node; time_is = omega (arith, ints, starts.time) }
        by_cause (inr comes) onward =
            let i = comes.item in
            let from = (item_at p.items i).from.0 in
            let earlier : order.place from < m = omega (arith, order.follows i comes.below, ap order.place comes.to, before) in
            let by = onward from (sound.items i (item_at [] 0) comes.below).from earlier in
            let last : Joins p.items from (id i ∷ []) n = (comes.below, refl, comes.to) in
            let sum : sum_along (least_of p) (by.items ++ id i ∷ []) ≡ sum_along (least_of p) by.items +ℤ (item_at p.items i).least
            = sum_along-append (least_of p) by.items (id i ∷ []) ∙ omega (arith, ints) in
            let here : number_at times from +ℤ (item_at p.items i).least ≡ number_at times n = comes.tight ∙ ap (number_at times) comes.to in
            record {
              start = by.start;
              number = by.number;
              items = by.items ++ id i ∷ [];
              joined = Joins-append p.items by.items (id i ∷ []) (start_at p.starts by.start).node.0 from n by.joined last;
              time_is = omega (arith, ints, by.time_is, sum, here);
            }

    none-later : (n : ℕ) (other : ℤ) → ArrivesBy p n other → other ≤ℤ number_at times n
    none-later n other by =
        omega (
          arith,
          ints,
          by.time_is,
          are.starts by.start by.number,
          sum_along-le_arrivals p.items (least_of p) (number_at times) by.items (start_at p.starts by.start).node.0 n are.items by.joined,
        )

    pub earliest-is : (n : ℕ) → n < p.nodes → IsEarliest p n (number_at times n)
    earliest-is n below = record { attained = arrives (suc (order.place n)) n below (omega arith); greatest = none-later n }

  -- ---- and the latest
  module _ (times : List ℤ) (are : AreLate p times) where
    leaves : (m n : ℕ) → n < p.nodes → p.nodes ≤ order.place n + m → LeavesBy p n (number_at times n)
    leaves zero n below behind = absurd (omega (arith, behind, order.placed n below))
    leaves (suc m) n below behind = by_cause (are.causes n below) (leaves m)
      where
        by_cause : HasLateCause p times n → ((k : ℕ) → k < p.nodes → p.nodes ≤ order.place k + m → LeavesBy p k (number_at times k)) → LeavesBy p n (number_at times n)
        by_cause (inl ends) onward = record { end = ends.end; number = ends.below; items = []; joined = sym ends.node; time_is = omega (arith, ints, ends.time) }
        by_cause (inr goes) onward =
            let i = goes.item in
            let to = (item_at p.items i).to.0 in
            let later : p.nodes ≤ order.place to + m = omega (arith, order.follows i goes.below, ap order.place goes.from, behind) in
            let by = onward to (sound.items i (item_at [] 0) goes.below).to later in
            let here : number_at times n +ℤ (item_at p.items i).least ≡ number_at times to = ap (λ k. number_at times k +ℤ (item_at p.items i).least) (sym goes.from) ∙ goes.tight in
            record {
              end = by.end;
              number = by.number;
              items = id i ∷ by.items;
              joined = (goes.below, goes.from, by.joined);
              time_is = omega (arith, ints, by.time_is, here);
            }

    none-sooner : (n : ℕ) (other : ℤ) → LeavesBy p n other → number_at times n ≤ℤ other
    none-sooner n other by =
        omega (
          arith,
          ints,
          by.time_is,
          are.ends by.end by.number,
          sum_along-le_arrivals p.items (least_of p) (number_at times) by.items n (end_at p.ends by.end).node.0 are.items by.joined,
        )

    pub latest-is : (n : ℕ) → n < p.nodes → IsLatest p n (number_at times n)
    latest-is n below = record { attained = leaves p.nodes n below (omega arith); least = none-sooner n }

  pub AreExtremes-found : (early late : List ℤ) → AreEarly p early → AreLate p late → AreExtremes p early late
  AreExtremes-found early late first last = record {
    early_one_each = first.size;
    late_one_each = last.size;
    earliest = earliest-is early first;
    latest = latest-is late last;
  }
