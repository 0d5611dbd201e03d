use Rattle.std.proofs.Common.{◌≡◌, ℤ, pos, ◌*ℤ◌, ◌≤ℤ◌, List, map, length, arith, refl, ap, sym, subst, ◌∙◌, to_z, of_z}
use mir.Syntax.{w128}
use Rattle.std.specs.Prelude.{All}
use Rattle.std.proofs.lemmas.Int.{ints}
use Rattle.bud_base.specs.Paths.{item_at}
use Rattle.bud_base.specs.declared.problems.Item.{Item}
use Rattle.bud_base.specs.declared.problems.Problem.{Problem}
use Rattle.bud_flow.specs.Sums.{number_at}
use Rattle.bud_plans.proofs.Duality.{AreBest-from_plan}
use Rattle.duals.specs.Duals.{budget_by}
use Rattle.duals.specs.Terms.{IsSmallTotal}
use Rattle.duals.proofs.TermLemmas.{AreTerms-same}
use Rattle.duals.proofs.Holding.{IsTakenFrom, budgets-small, IsHolding-taken, HasPlanNumbers-taken}
use Rattle.duals.proofs.plans.plan_of.Goals as goal

-- the total of weights and budgets, over the lists of the problem and of the plan
same_total : (p : Problem) (items : List Item) (budgets shared : List ℤ) (total weight : ℤ) → items ≡ p.items → shared ≡ budgets → weight ≡ total
    → IsSmallTotal (λ i. pos (item_at items i).weight *ℤ number_at shared i) (length items) total
    → IsSmallTotal (λ i. pos (item_at p.items i).weight *ℤ number_at budgets i) (length p.items) weight
same_total p items budgets shared total weight same_items same_budgets same_weight is = rw (← same_items, ← same_budgets, same_weight) is

pub weight_of-weight-requires-clause-budgets : goal.weight_of-weight-requires-clause-budgets
weight_of-weight-requires-clause-budgets c =
    let P : List ℤ → Type 0 = λ budgets. All (λ budget. (pos 0 ≤ℤ budget) × (budget ≤ℤ pos 2000000000)) budgets in
    subst P (sym (c.deref.ensures.value ∙ c.in_ok-budgets.ensures ∙ ap (map (budget_by c.args.net.now.potentials)) c.as_slice-items.ensures))
    (budgets-small c.args.net.now c.args.problem.now c.requires.sound c.in_ok-arrivals.ensures.lawful c.requires.fits c.requires.settled)

-- the plan's lists and its weight
taken : (c : goal.After-from_vec-5) → IsTakenFrom c.args.net.now c.args.problem.now (record {
  budgets = c.from_vec.result;
  arrivals = c.from_vec-2.result;
  flow = c.from_vec-3.result;
  start_flow = c.from_vec-4.result;
  end_flow = c.from_vec-5.result;
  weight = to_z w128 (of_z w128 c.weight_of-weight.result);
})
taken c = record {
  budgets = c.from_vec.ensures ∙ c.in_ok-budgets.ensures ∙ ap (map (budget_by c.args.net.now.potentials)) c.as_slice-items.ensures;
  arrivals = AreTerms-same _ _ _ _ _ c.in_ok-arrivals.ensures.arrivals c.from_vec-2.ensures refl;
  flow = AreTerms-same _ _ _ _ _ c.in_ok-flow.ensures c.from_vec-3.ensures c.len.ensures;
  start_flow = AreTerms-same _ _ _ _ _ c.in_ok-start_flow.ensures c.from_vec-4.ensures c.len-2.ensures;
  end_flow = AreTerms-same _ _ _ _ _ c.in_ok-end_flow.ensures c.from_vec-5.ensures c.len-3.ensures;
  weight = same_total c.args.problem.now _ _ _ c.weight_of-weight.result _ c.as_slice-items.ensures (c.deref.ensures.value ∙ sym c.from_vec.ensures)
      (omega (arith, ints, c.weight_of-weight.ensures, ap length c.as_slice-items.ensures, c.requires.sound.limits.items)) c.weight_of-weight.ensures;
}

pub returns-clause-holds : goal.returns-clause-holds
returns-clause-holds c =
    IsHolding-taken c.args.net.now c.args.problem.now c.requires.sound c.in_ok-arrivals.ensures.lawful c.requires.fits c.requires.settled _ (taken c)

pub returns-clause-best : goal.returns-clause-best
returns-clause-best c = AreBest-from_plan c.args.problem.now _ c.requires.sound (returns-clause-holds c)

pub returns-clause-numbers : goal.returns-clause-numbers
returns-clause-numbers c =
    HasPlanNumbers-taken c.args.net.now c.args.problem.now c.requires.sound c.in_ok-arrivals.ensures.lawful c.requires.fits c.requires.settled _ (taken c)
