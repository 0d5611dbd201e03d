-- Budgets that fit weigh no more than a balanced flow is worth.
use Rattle.std.proofs.Common.{◌≡◌, ℕ, ℤ, pos, ◌+ℤ◌, ◌-ℤ◌, ◌*ℤ◌, ◌≤ℤ◌, ◌<◌, List, [], ◌∷◌, ◌++◌, length, arith, subst, refl, inl, inr}
use Rattle.std.proofs.lemmas.Int.{ints, by_lt_z}
use Rattle.std.proofs.lemmas.Bool.{cases_Bool}
use Rattle.std.specs.Prelude.{int_lt}
use Rattle.bud_base.specs.Paths.{Joins, sum_along, item_at, start_at, end_at}
use Rattle.bud_base.specs.Orders.{Reaches, IsLive}
use Rattle.bud_base.specs.Soundness.{IsSound}
use Rattle.bud_base.specs.declared.ids.ItemId.{ItemId}
use Rattle.bud_base.specs.declared.problems.Item.{Item}
use Rattle.bud_base.specs.declared.problems.Problem.{Problem}
use Rattle.bud_flow.specs.Sums.{sum_below, number_at}
use Rattle.bud_flow.specs.Flows.{Flow, StandsAtNodes, IsBalanced, item_value, value_of}
use Rattle.bud_base.specs.Arrivals.{AreSuiting}
use Rattle.bud_flow.proofs.Ints.{mul-le, sub-mul}
use Rattle.bud_flow.proofs.SumLemmas.{sum_below-le, sum_below-add}
use Rattle.bud_base.proofs.Joining.{Joins-append}
use Rattle.bud_base.proofs.Sums.{sum_along-append, sum_along-le_room}
use Rattle.bud_flow.proofs.Exchange.{StandsAtNodes-from_sound, gain_of-kept}
use Rattle.bud_plans.specs.Plans.{IsHolding, flow_of}
use Rattle.bud_plans.specs.declared.plans.Plan.{Plan}
use Rattle.bud_plans.specs.Budgets.{AreWithinBounds, Fit, AreBest, weight_of, budget_in, SuitBudgets}
use Rattle.bud_plans.proofs.Greatest.{IsGreatest, IsGreatest-exists, IsGreatest-each}

-- ---- items one after another
-- delays of at least 0 add up to at least 0
sum_along-positive : (items : List Item) (delay : ItemId → ℤ) → ((i : ItemId) → i.0 < length items → pos 0 ≤ℤ delay i)
    → (a : ℕ) (is : List ItemId) (b : ℕ) → Joins items a is b → pos 0 ≤ℤ sum_along delay is
sum_along-positive items delay positive a [] b joins = omega (arith, ints)
sum_along-positive items delay positive a (i ∷ is) b joins =
    omega (arith, ints, positive i joins.0, sum_along-positive items delay positive (item_at items i.0).to.0 is b joins.2)

-- ---- arrivals from budgets that fit: the greatest offset and sum of budgets on the way to each node
-- a start's offset and the budgets of items from there to the node add up to the time
record Arrives (p : Problem) (budgets : List ℤ) (node : ℕ) (time : ℤ) : Type 0 where
  start : ℕ
  items : List ItemId
  within : start < length p.starts
  joined : Joins p.items (start_at p.starts start).node.0 items node
  sum : (start_at p.starts start).offset +ℤ sum_along (budget_in budgets) items ≡ time

module _ (p : Problem) (budgets : List ℤ) (sound : IsSound p) (fit : Fit p budgets) where
  positive : (i : ItemId) → i.0 < length p.items → pos 0 ≤ℤ budget_in budgets i
  positive i within = omega (arith, ints, (sound.items i.0 (item_at [] 0) within).low, (fit.bounds.each i.0 within).low)

  -- a time of arrival at a node from which items lead to an end is at most what the end requires
  Arrives-bound : (node : ℕ) (time : ℤ) → Arrives p budgets node time → (on : Reaches p node) → time ≤ℤ (end_at p.ends on.end).require
  Arrives-bound node time arrives on =
      omega (
        arith,
        ints,
        arrives.sum,
        sum_along-append (budget_in budgets) arrives.items on.items,
        sum_along-positive p.items (budget_in budgets) positive node on.items (end_at p.ends on.end).node.0 on.joined,
        fit.paths (record { start = arrives.start; items = arrives.items ++ on.items; end = on.end })
            (record {
              start = arrives.within;
              end = on.within;
              joined = Joins-append p.items arrives.items on.items (start_at p.starts arrives.start).node.0 node (end_at p.ends on.end).node.0 arrives.joined on.joined;
            }),
      )

  -- a node of a path isn't without a greatest time of arrival
  Arrives-greatest : (node : ℕ) → IsLive p node → ((time : ℤ) → IsGreatest (Arrives p budgets node) time → ⊥) → ⊥
  Arrives-greatest node live none =
      IsGreatest-exists (Arrives p budgets node) ((start_at p.starts live.0.start).offset +ℤ sum_along (budget_in budgets) live.0.items)
      (end_at p.ends live.1.end).require
      (record { start = live.0.start; items = live.0.items; within = live.0.within; joined = live.0.joined; sum = refl })
      (λ time arrives. Arrives-bound node time arrives live.1) none

  -- the greatest times of arrival suit the budgets
  AreSuiting-greatest : (a : ℕ → ℤ) → ((v : ℕ) → v < p.nodes → IsGreatest (Arrives p budgets v) (a v)) → AreSuiting p (budget_in budgets) a
  AreSuiting-greatest a greatest =
      let stands : StandsAtNodes p = StandsAtNodes-from_sound p sound in
      record {
        items = λ i within.
            let before : Arrives p budgets (item_at p.items i).from.0 (a (item_at p.items i).from.0) = (greatest (item_at p.items i).from.0 (stands.from i within)).member in
            (greatest (item_at p.items i).to.0 (stands.to i within)).most (a (item_at p.items i).from.0 +ℤ number_at budgets i) (record {
              start = before.start;
              items = before.items ++ record { 0 = i } ∷ [];
              within = before.within;
              joined = Joins-append p.items before.items (record { 0 = i } ∷ []) (start_at p.starts before.start).node.0 (item_at p.items i).from.0 (item_at p.items i).to.0 before.joined (within, refl, refl);
              sum = omega (arith, ints, before.sum, sum_along-append (budget_in budgets) before.items (record { 0 = i } ∷ []));
            });
        starts = λ s within. (greatest (start_at p.starts s).node.0 (stands.starts s within)).most (start_at p.starts s).offset
            (record { start = s; items = []; within = within; joined = refl; sum = omega (arith, ints) });
        ends = λ e within. Arrives-bound (end_at p.ends e).node.0 (a (end_at p.ends e).node.0) (greatest (end_at p.ends e).node.0 (stands.ends e within)).member
            (record { items = []; end = e; within = within; joined = refl });
      }

  -- so arrivals that suit the budgets aren't wanting
  AreSuiting-exists : ((a : ℕ → ℤ) → AreSuiting p (budget_in budgets) a → ⊥) → ⊥
  AreSuiting-exists none =
      IsGreatest-each (Arrives p budgets) p.nodes (λ v below. Arrives-greatest v (sound.live v below)) (λ a greatest. none a (AreSuiting-greatest a greatest))

-- ---- weight against value, with arrivals between
-- an item's weight times its budget is at most its value and what flow times budget comes to
item_value-le : (x : Item) (f b : ℤ) → x.least ≤ℤ b → b ≤ℤ x.greatest → (pos x.weight *ℤ b) ≤ℤ (item_value x f +ℤ f *ℤ b)
item_value-le x f b low high = elim (cases_Bool (int_lt f (pos x.weight))) [
  | inl below ↦ rw below (omega (
    arith,
    ints,
    below,
    sub-mul (pos x.weight) f b,
    mul-le (pos x.weight -ℤ f) b x.greatest (omega (arith, ints, below)) high,
  ))
  | inr above ↦ rw above (omega (
    arith,
    ints,
    above,
    sub-mul f (pos x.weight) b,
    mul-le (f -ℤ pos x.weight) x.least b (omega (arith, ints, above)) low,
  ))
]

module _ (p : Problem) (budgets : List ℤ) (flow : Flow) (a : ℕ → ℤ) (sound : IsSound p) (bounds : AreWithinBounds p budgets)
    (suit : AreSuiting p (budget_in budgets) a) (balanced : IsBalanced p flow) where
  weight_of-le : weight_of p budgets ≤ℤ value_of p flow
  weight_of-le =
      let stands : StandsAtNodes p = StandsAtNodes-from_sound p sound in
      let items : weight_of p budgets ≤ℤ (sum_below (length p.items) (λ i. item_value (item_at p.items i) (number_at flow.items i))
      +ℤ sum_below (length p.items) (λ i. number_at flow.items i *ℤ number_at budgets i))
      = subst (λ z. weight_of p budgets ≤ℤ z) (sum_below-add (length p.items) _ _)
      (sum_below-le (length p.items) _ (λ i. item_value (item_at p.items i) (number_at flow.items i) +ℤ number_at flow.items i *ℤ number_at budgets i)
      (λ i within. item_value-le (item_at p.items i) (number_at flow.items i) (number_at budgets i) (bounds.each i within).low (bounds.each i within).high)) in
      let along : sum_below (length p.items) (λ i. number_at flow.items i *ℤ number_at budgets i)
      ≤ℤ sum_below (length p.items) (λ i. number_at flow.items i *ℤ (a (item_at p.items i).to.0 -ℤ a (item_at p.items i).from.0))
      = sum_below-le (length p.items) _ _ (λ i within. mul-le (number_at flow.items i) (number_at budgets i) _
      (balanced.items i (pos 0) (omega (arith, balanced.sizes.items))) (omega (arith, ints, suit.items i within))) in
      let starts : sum_below (length p.starts) (λ s. number_at flow.starts s *ℤ (start_at p.starts s).offset)
      ≤ℤ sum_below (length p.starts) (λ s. number_at flow.starts s *ℤ a (start_at p.starts s).node.0)
      = sum_below-le (length p.starts) _ _ (λ s within. mul-le (number_at flow.starts s) _ _
      (balanced.starts s (pos 0) (omega (arith, balanced.sizes.starts))) (suit.starts s within)) in
      let ends : sum_below (length p.ends) (λ e. number_at flow.ends e *ℤ a (end_at p.ends e).node.0)
      ≤ℤ sum_below (length p.ends) (λ e. number_at flow.ends e *ℤ (end_at p.ends e).require)
      = sum_below-le (length p.ends) _ _ (λ e within. mul-le (number_at flow.ends e) _ _
      (balanced.ends e (pos 0) (omega (arith, balanced.sizes.ends))) (suit.ends e within)) in
      omega (arith, ints, items, along, starts, ends, gain_of-kept p flow a stands balanced.kept)

-- ---- the laws
-- no budgets that fit weigh more than any balanced flow is worth
pub weight_of-value : (p : Problem) (budgets : List ℤ) (flow : Flow) → IsSound p → Fit p budgets → IsBalanced p flow → weight_of p budgets ≤ℤ value_of p flow
weight_of-value p budgets flow sound fit balanced =
    by_lt_z (value_of p flow) (weight_of p budgets)
    (λ above. absurd (AreSuiting-exists p budgets sound fit (λ a suit.
    let within : weight_of p budgets ≤ℤ value_of p flow = weight_of-le p budgets flow a sound fit.bounds suit balanced in omega (arith, ints))))
    (λ within. within)

-- budgets within bounds that some arrivals suit fit
pub Fit-from_arrivals : (p : Problem) (budgets arrivals : List ℤ) → AreWithinBounds p budgets → SuitBudgets p budgets arrivals → Fit p budgets
Fit-from_arrivals p budgets arrivals bounds suits = record {
  bounds = bounds;
  paths = λ path is. sum_along-le_room p (budget_in budgets) (number_at arrivals) path suits.suit is;
}

-- the budgets of a plan that holds are best
pub AreBest-from_plan : (p : Problem) (plan : Plan) → IsSound p → IsHolding p plan → AreBest p plan.budgets
AreBest-from_plan p plan sound holds = record {
  fit = Fit-from_arrivals p plan.budgets plan.arrivals holds.bounds holds.arrivals;
  most = λ others fits. omega (arith, ints, holds.weight, holds.value, weight_of-value p others (flow_of plan) sound fits holds.balanced);
}
