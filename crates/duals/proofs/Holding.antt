-- The plan that a settled network proves.
use Rattle.std.proofs.Common.{◌≡◌, ℕ, ℤ, pos, ◌+ℤ◌, ◌*ℤ◌, ◌≤ℤ◌, ◌+◌, ◌<◌, ◌^◌, ◌⊎◌, map, length, get_or, arith, ap, sym, subst, ◌∙◌, cond, inl, inr}
use Rattle.std.specs.Prelude.{int_lt, All}
use Rattle.std.proofs.lemmas.Int.{ints, by_lt_z}
use Rattle.std.proofs.lemmas.List.{get_or-map, length-map}
use Rattle.std.proofs.lemmas.List.Elements.{All-from_get_or}
use Rattle.bud_base.specs.Paths.{item_at, start_at, end_at, least_of}
use Rattle.bud_base.specs.Soundness.{IsSound}
use Rattle.bud_base.specs.declared.problems.Problem.{Problem}
use Rattle.bud_flow.specs.Sums.{sum_below, number_at}
use Rattle.bud_flow.specs.Flows.{StandsAtNodes, IsBalanced, IsNonNegative, item_value, value_of}
use Rattle.bud_flow.specs.Arrivals.{Suit}
use Rattle.bud_flow.proofs.SumLemmas.{sum_below-same, sum_below-add}
use Rattle.bud_flow.proofs.Exchange.{StandsAtNodes-from_sound, gain_of-kept}
use Rattle.bud_plans.specs.Budgets.{AreWithinBounds, SuitBudgets, weight_of}
use Rattle.bud_plans.specs.Plans.{IsHolding, IsPlanNumber, HasPlanNumbers, flow_of}
use Rattle.bud_plans.specs.declared.plans.Plan.{Plan}
use Rattle.residual.specs.Arcs.{arc_at, limited_arc, open_arc, start_arc, end_arc}
use Rattle.residual.specs.Networks.{Network, AreReduced, IsLawful, Fits, item_flow_at, start_flow_at, end_flow_at}
use Rattle.residual.specs.Balances.{HasRoom, IsSettled}
use Rattle.residual.proofs.Blocks.{by_block}
use Rattle.residual.proofs.Pairs.{HoldsPair, HoldsPair-from_reduced}
use Rattle.residual.proofs.Sweeping.{sound_item}
use Rattle.residual.proofs.Theory.{Stands-from_fits, Suit-from_reduced, IsWithin-from_suit}
use Rattle.residual.specs.declared.arcs.Arc.{Arc}
use Rattle.duals.specs.Duals.{gain_along, budget_by}
use Rattle.duals.specs.Terms.{AreTerms, IsSmallTotal}
use Rattle.duals.proofs.Blocks.{CarriesFlows, kept-from_excess}
use Rattle.duals.proofs.Slackness.{IsSlack, worth-slack, lesser-first, lesser-second, times_same}

-- the lesser of two numbers is at most either, and at least what both are
pub record IsLesser (low d g b : ℤ) : Type 0 where
  pub least : low ≤ℤ b
  pub first : b ≤ℤ d
  pub second : b ≤ℤ g

lesser-between : (low d g : ℤ) → low ≤ℤ d → low ≤ℤ g → IsLesser low d g (cond (int_lt d g) d g)
lesser-between low d g first second =
    by_lt_z d g
    (λ less. let is = lesser-first d g (omega (arith, ints, less)) in record { least = omega (arith, ints, is, first); first = omega (arith, ints, is); second = omega (arith, ints, is, less) })
    (λ more. let is = lesser-second d g more in record { least = omega (arith, ints, is, second); first = omega (arith, ints, is, more); second = omega (arith, ints, is) })

-- the numbers of the plan are those of the network
pub record IsTakenFrom (net : Network) (p : Problem) (plan : Plan) : Type 0 where
  pub budgets : plan.budgets ≡ map (budget_by net.potentials) p.items
  pub arrivals : AreTerms (number_at net.potentials) p.nodes plan.arrivals
  pub flow : AreTerms (item_flow_at net) (length p.items) plan.flow
  pub start_flow : AreTerms (start_flow_at net) (length p.starts) plan.start_flow
  pub end_flow : AreTerms (end_flow_at net) (length p.ends) plan.end_flow
  pub weight : IsSmallTotal (λ i. pos (item_at p.items i).weight *ℤ number_at plan.budgets i) (length p.items) plan.weight

module _ (net : Network) (p : Problem) (sound : IsSound p) (lawful : IsLawful net) (fits : Fits net p) (settled : IsSettled net) where
  -- ---- the law of the network
  least : (j : ℕ) → j < length net.arcs → pos 0 ≤ℤ number_at net.flows j
  least j below = (lawful.flows j below).least

  small : (j : ℕ) → j < length net.arcs → number_at net.flows j ≤ℤ pos (2 ^ 44)
  small j below =
      by_block net.items net.items net.starts net.ends j (λ k. number_at net.flows k ≤ℤ pos (2 ^ 44))
      (λ i within. omega (arith, ints, settled.items i within, least (net.items + i) (omega (arith, lawful.sizes.arcs))))
      (λ i within. omega (arith, ints, settled.items i within, least i (omega (arith, lawful.sizes.arcs))))
      settled.starts settled.ends (omega (arith, lawful.sizes.arcs))

  room : HasRoom net
  room j below = omega (arith, ints, small j below)

  reduced : AreReduced net net.potentials
  reduced = subst (AreReduced net) (sym (lawful.closed settled.closed)) lawful.reduced

  root : number_at net.potentials p.nodes ≡ pos 0
  root = ap (number_at net.potentials) (sym fits.nodes) ∙ lawful.root

  pub suit-settled : Suit p (least_of p) (number_at net.potentials)
  suit-settled = Suit-from_reduced net p net.potentials lawful.sizes fits room reduced root

  pair : (j : ℕ) (a : Arc) → j < length net.arcs → arc_at net.arcs j ≡ a → HoldsPair a (number_at net.flows j) net.potentials
  pair j a below is =
      let P : Arc → Type 0 = λ b. HoldsPair b (number_at net.flows j) net.potentials in
      subst P is (HoldsPair-from_reduced net.arcs net.flows net.potentials j reduced below)

  most : (i : ℕ) → i < length p.items → number_at net.flows i ≤ℤ pos (item_at p.items i).weight
  most i within =
      let P : Arc → Type 0 = λ a. number_at net.flows i ≤ℤ a.limit in
      subst P (fits.limited_arcs i within) (lawful.flows i ((Stands-from_fits net p lawful.sizes fits).limited i within)).most

  slack : (i : ℕ) → i < length p.items
      → IsSlack (item_at p.items i) (number_at net.flows i) (number_at net.flows (length p.items + i)) (gain_along net.potentials (item_at p.items i))
  slack i within =
      let stands = Stands-from_fits net p lawful.sizes fits in
      let limited = pair i (limited_arc (item_at p.items i)) (stands.limited i within) (fits.limited_arcs i within) in
      let without = pair (length p.items + i) (open_arc (item_at p.items i)) (stands.open_items i within) (fits.open_arcs i within) in
      record {
        between = (sound_item p i sound within).between;
        least = omega (arith, ints, suit-settled.items i within);
        limited_least = least i (stands.limited i within);
        limited_most = most i within;
        without_least = least (length p.items + i) (stands.open_items i within);
        room = λ less. omega (arith, ints, limited.ahead less);
        limited_flow = λ some. omega (arith, ints, limited.back some);
        without_flow = λ some. omega (arith, ints, without.back some);
      }

  -- ---- the budgets
  lesser : (i : ℕ) → i < length p.items
      → IsLesser (item_at p.items i).least (gain_along net.potentials (item_at p.items i)) (item_at p.items i).greatest (budget_by net.potentials (item_at p.items i))
  lesser i within =
      let one = slack i within in
      lesser-between (item_at p.items i).least (gain_along net.potentials (item_at p.items i)) (item_at p.items i).greatest one.least one.between

  budget-small : (i : ℕ) → i < length (map (budget_by net.potentials) p.items)
      → (pos 0 ≤ℤ get_or (map (budget_by net.potentials) p.items) i (pos 0)) × (get_or (map (budget_by net.potentials) p.items) i (pos 0) ≤ℤ pos 2000000000)
  budget-small i below =
      let within : i < length p.items = omega (arith, length-map p.items (budget_by net.potentials)) in
      let is : get_or (map (budget_by net.potentials) p.items) i (pos 0) ≡ budget_by net.potentials (item_at p.items i) = get_or-map (budget_by net.potentials) p.items i _ (pos 0) within in
      let x = sound_item p i sound within in
      (omega (arith, ints, is, (lesser i within).least, x.low), omega (arith, ints, is, (lesser i within).second, x.high))

  pub budgets-small : All (λ budget. (pos 0 ≤ℤ budget) × (budget ≤ℤ pos 2000000000)) (map (budget_by net.potentials) p.items)
  budgets-small = All-from_get_or (λ budget. (pos 0 ≤ℤ budget) × (budget ≤ℤ pos 2000000000)) (map (budget_by net.potentials) p.items) (pos 0) budget-small

  module _ (plan : Plan) (taken : IsTakenFrom net p plan) where
    budget_is : (i : ℕ) → i < length p.items → number_at plan.budgets i ≡ budget_by net.potentials (item_at p.items i)
    budget_is i within = ap (λ budgets. number_at budgets i) taken.budgets ∙ get_or-map (budget_by net.potentials) p.items i _ (pos 0) within

    bounds : AreWithinBounds p plan.budgets
    bounds = record {
      size = ap length taken.budgets ∙ length-map p.items (budget_by net.potentials);
      each = λ i within. record {
        low = omega (arith, ints, budget_is i within, (lesser i within).least);
        high = omega (arith, ints, budget_is i within, (lesser i within).second);
      };
    }

    arrivals : SuitBudgets p plan.budgets plan.arrivals
    arrivals =
        let stands : StandsAtNodes p = StandsAtNodes-from_sound p sound in
        record {
          size = taken.arrivals.size;
          suit = record {
            items = λ i within. omega (
              arith,
              ints,
              taken.arrivals.each (item_at p.items i).from.0 (stands.from i within),
              taken.arrivals.each (item_at p.items i).to.0 (stands.to i within),
              budget_is i within,
              (lesser i within).first,
            );
            starts = λ s within. omega (arith, ints, taken.arrivals.each (start_at p.starts s).node.0 (stands.starts s within), suit-settled.starts s within);
            ends = λ e within. omega (arith, ints, taken.arrivals.each (end_at p.ends e).node.0 (stands.ends e within), suit-settled.ends e within);
          };
        }

    -- ---- the flow
    flow_is : (i : ℕ) → i < length p.items → number_at plan.flow i ≡ number_at net.flows i +ℤ number_at net.flows (length p.items + i)
    flow_is i within = taken.flow.each i within ∙ ap (λ n. number_at net.flows i +ℤ number_at net.flows (n + i)) fits.items

    start_is : (s : ℕ) → s < length p.starts → number_at plan.start_flow s ≡ number_at net.flows (length p.items + length p.items + s)
    start_is s within = taken.start_flow.each s within ∙ ap (λ n. number_at net.flows (n + n + s)) fits.items

    end_is : (e : ℕ) → e < length p.ends → number_at plan.end_flow e ≡ number_at net.flows (length p.items + length p.items + length p.starts + e)
    end_is e within =
        taken.end_flow.each e within ∙ ap (λ n. number_at net.flows (n + n + net.starts + e)) fits.items
        ∙ ap (λ n. number_at net.flows (length p.items + length p.items + n + e)) fits.starts

    balanced : IsBalanced p (flow_of plan)
    balanced =
        let stands = Stands-from_fits net p lawful.sizes fits in
        let carries : CarriesFlows net p (flow_of plan) = record { items = taken.flow.each; starts = taken.start_flow.each; ends = taken.end_flow.each } in
        record {
          sizes = record { items = taken.flow.size; starts = taken.start_flow.size; ends = taken.end_flow.size };
          items = All-from_get_or IsNonNegative plan.flow (pos 0) (λ i below.
              let within : i < length p.items = omega (arith, taken.flow.size) in
              omega (arith, ints, flow_is i within, least i (stands.limited i within), least (length p.items + i) (stands.open_items i within)));
          starts = All-from_get_or IsNonNegative plan.start_flow (pos 0) (λ s below.
              let within : s < length p.starts = omega (arith, taken.start_flow.size) in
              omega (arith, ints, start_is s within, least _ (stands.starts s within)));
          ends = All-from_get_or IsNonNegative plan.end_flow (pos 0) (λ e below.
              let within : e < length p.ends = omega (arith, taken.end_flow.size) in
              omega (arith, ints, end_is e within, least _ (stands.ends e within)));
          kept = λ v is_node. kept-from_excess net p (flow_of plan) v lawful.sizes fits carries is_node (settled.balanced v (omega (arith, fits.nodes)));
        }

    -- a start with flow is tight, and so is an end
    start_worth : (s : ℕ) → s < length p.starts
        → number_at plan.start_flow s *ℤ number_at net.potentials (start_at p.starts s).node.0 ≡ number_at plan.start_flow s *ℤ (start_at p.starts s).offset
    start_worth s within =
        let stands = Stands-from_fits net p lawful.sizes fits in
        let both = pair _ (start_arc p.nodes (start_at p.starts s)) (stands.starts s within) (fits.start_arcs s within) in
        let which : (number_at plan.start_flow s ≡ pos 0) ⊎ (number_at net.potentials (start_at p.starts s).node.0 ≡ (start_at p.starts s).offset)
        = by_lt_z (pos 0) (number_at net.flows (length p.items + length p.items + s))
        (λ some. inr (omega (arith, ints, root, both.back some, suit-settled.starts s within)))
        (λ none. inl (omega (arith, ints, start_is s within, none, least _ (stands.starts s within)))) in
        times_same (number_at plan.start_flow s) _ _ which

    end_worth : (e : ℕ) → e < length p.ends
        → number_at plan.end_flow e *ℤ number_at net.potentials (end_at p.ends e).node.0 ≡ number_at plan.end_flow e *ℤ (end_at p.ends e).require
    end_worth e within =
        let stands = Stands-from_fits net p lawful.sizes fits in
        let both = pair _ (end_arc p.nodes (end_at p.ends e)) (stands.ends e within) (fits.end_arcs e within) in
        let which : (number_at plan.end_flow e ≡ pos 0) ⊎ (number_at net.potentials (end_at p.ends e).node.0 ≡ (end_at p.ends e).require)
        = by_lt_z (pos 0) (number_at net.flows (length p.items + length p.items + length p.starts + e))
        (λ some. inr (omega (arith, ints, root, both.back some, suit-settled.ends e within)))
        (λ none. inl (omega (arith, ints, end_is e within, none, least _ (stands.ends e within)))) in
        times_same (number_at plan.end_flow e) _ _ which

    item_worth : (i : ℕ) → i < length p.items
        → pos (item_at p.items i).weight *ℤ number_at plan.budgets i
        ≡ item_value (item_at p.items i) (number_at plan.flow i) +ℤ number_at plan.flow i *ℤ gain_along net.potentials (item_at p.items i)
    item_worth i within =
        ap (λ b. pos (item_at p.items i).weight *ℤ b) (budget_is i within)
        ∙ worth-slack (item_at p.items i) (number_at net.flows i) (number_at net.flows (length p.items + i)) (gain_along net.potentials (item_at p.items i)) (slack i within)
        ∙ ap (λ f. item_value (item_at p.items i) f +ℤ f *ℤ gain_along net.potentials (item_at p.items i)) (sym (flow_is i within))

    -- the flow is worth what the budgets weigh
    value : value_of p (flow_of plan) ≡ weight_of p plan.budgets
    value =
        let items : weight_of p plan.budgets
        ≡ sum_below (length p.items) (λ i. item_value (item_at p.items i) (number_at plan.flow i))
        +ℤ sum_below (length p.items) (λ i. number_at plan.flow i *ℤ gain_along net.potentials (item_at p.items i))
        = sum_below-same (length p.items) _ _ item_worth ∙ sum_below-add (length p.items) _ _ in
        let starts = sum_below-same (length p.starts) _ _ start_worth in
        let ends = sum_below-same (length p.ends) _ _ end_worth in
        let gain = gain_of-kept p (flow_of plan) (number_at net.potentials) (StandsAtNodes-from_sound p sound) balanced.kept in
        omega (arith, ints, items, starts, ends, gain)

    pub IsHolding-taken : IsHolding p plan
    IsHolding-taken = record {
      bounds = bounds;
      arrivals = arrivals;
      balanced = balanced;
      weight = sym taken.weight.value;
      value = value ∙ sym taken.weight.value;
    }

    pub HasPlanNumbers-taken : HasPlanNumbers plan
    HasPlanNumbers-taken =
        let stands = Stands-from_fits net p lawful.sizes fits in
        record {
          budgets = All-from_get_or IsPlanNumber plan.budgets (pos 0) (λ i below.
              let within : i < length p.items = omega (arith, bounds.size) in
              let x = sound_item p i sound within in
              record { low = omega (arith, ints, (bounds.each i within).low, x.low); high = omega (arith, ints, (bounds.each i within).high, x.high) });
          arrivals = All-from_get_or IsPlanNumber plan.arrivals (pos 0) (λ v below.
              let within : v < p.nodes = omega (arith, taken.arrivals.size) in
              let one = IsWithin-from_suit p (number_at net.potentials) v sound suit-settled within in
              record { low = omega (arith, ints, taken.arrivals.each v within, one.low); high = omega (arith, ints, taken.arrivals.each v within, one.high) });
          flow = All-from_get_or IsPlanNumber plan.flow (pos 0) (λ i below.
              let within : i < length p.items = omega (arith, taken.flow.size) in
              record {
                low = omega (arith, ints, flow_is i within, least i (stands.limited i within), least (length p.items + i) (stands.open_items i within));
                high = omega (arith, ints, taken.flow.each i within, settled.items i (omega (arith, fits.items)));
              });
          start_flow = All-from_get_or IsPlanNumber plan.start_flow (pos 0) (λ s below.
              let within : s < length p.starts = omega (arith, taken.start_flow.size) in
              record {
                low = omega (arith, ints, start_is s within, least _ (stands.starts s within));
                high = omega (arith, ints, taken.start_flow.each s within, settled.starts s (omega (arith, fits.starts)));
              });
          end_flow = All-from_get_or IsPlanNumber plan.end_flow (pos 0) (λ e below.
              let within : e < length p.ends = omega (arith, taken.end_flow.size) in
              record {
                low = omega (arith, ints, end_is e within, least _ (stands.ends e within));
                high = omega (arith, ints, taken.end_flow.each e within, settled.ends e (omega (arith, fits.ends)));
              });
          weight = record { low = omega (arith, ints, taken.weight.low); high = omega (arith, ints, taken.weight.high, sound.limits.items) };
        }
