-- Running sums at the nodes.
use Rattle.std.proofs.Common.{◌≡◌, ◌==◌, Option, Bool, true, false, ℕ, zero, suc, ℤ, pos, ◌+ℤ◌, ◌-ℤ◌, ◌≤ℤ◌, ◌+◌, ◌*◌, ◌<◌, ◌≤◌, List, length, set, cond, arith, refl, sym, subst, ◌∙◌, inl, inr, add-one, eq-eqb, get_or-set_same, get_or-set_other}
use Rattle.std.proofs.lemmas.Bool.{cases_eq, cases_Bool, ne_eqb}
use Rattle.std.proofs.lemmas.Int.{ints}
use Rattle.bud_base.specs.Paths.{item_at, start_at, end_at}
use Rattle.bud_base.specs.declared.problems.Item.{Item}
use Rattle.bud_base.specs.declared.problems.Start.{Start}
use Rattle.bud_base.specs.declared.problems.End.{End}
use Rattle.plan_cert.specs.Numbers.{IsKeptAt}
use Rattle.plan_cert.specs.Failures.{IsFailure}
use Rattle.plan_cert.proofs.FailureLemmas.{IsFailure-same}
use Rattle.bud_base.specs.declared.problems.Problem.{Problem}
use Rattle.bud_flow.specs.Sums.{sum_at, number_at}
use Rattle.bud_plans.specs.Plans.{IsPlanNumber, HasPlanNumbers}
use Rattle.bud_plans.specs.declared.plans.Plan.{Plan}
use Rattle.plan_cert.specs.NodeSums.{IsNodeSum, AreSums, items_sum, inflow_sum, excess_sum}

-- a number is taken from the sum of one node
pub number_at-less : (sums : List ℤ) (node : ℕ) (stored number : ℤ) → node < length sums → stored ≡ number_at sums node -ℤ number
    → (v : ℕ) → number_at (set sums node stored) v ≡ number_at sums v -ℤ cond (node == v) number (pos 0)
number_at-less sums node stored number within is v = elim (cases_eq v node) [
  | inl same ↦ rw (same, get_or-set_same sums node stored (pos 0) within, eq-eqb node node refl) is
  | inr differs ↦ rw (get_or-set_other sums node v stored (pos 0) differs, ne_eqb node v (λ e. differs (sym e))) (omega (arith, ints))
]

-- so many numbers in range add up to a number in range
sum_at-range : (count : ℕ) (place_of : ℕ → ℕ) (term : ℕ → ℤ) (node : ℕ) → ((k : ℕ) → k < count → IsPlanNumber (term k))
    → (pos 0 ≤ℤ (sum_at count place_of term node +ℤ pos (17592186044416 * count))) × (sum_at count place_of term node ≤ℤ pos (17592186044416 * count))
sum_at-range zero place_of term node range = (omega (arith, ints), omega (arith, ints))
sum_at-range (suc n) place_of term node range =
    let before = sum_at-range n place_of term node (λ k below. range k (omega arith)) in
    let last = range n (omega arith) in
    elim (cases_Bool (place_of n == node)) [
      | inl here ↦ rw here (omega (arith, ints, before), omega (arith, ints, before))
      | inr other ↦ rw other (omega (arith, ints, before), omega (arith, ints, before))
    ]

-- what so many items bring and take at a node is within 2^68 either way
pub items_sum-tight : (p : Problem) (plan : Plan) → HasPlanNumbers plan → (count node : ℕ) → count ≤ length plan.flow → count ≤ 8388608
    → (pos 0 ≤ℤ (items_sum p plan count node +ℤ pos 295147905179352825856)) × (items_sum p plan count node ≤ℤ pos 295147905179352825856)
items_sum-tight p plan numbers count node within few =
    let to = sum_at-range count (λ i. (item_at p.items i).to.0) (number_at plan.flow) node (λ k below. numbers.flow k (pos 0) (omega arith)) in
    let from = sum_at-range count (λ i. (item_at p.items i).from.0) (number_at plan.flow) node (λ k below. numbers.flow k (pos 0) (omega arith)) in
    (omega (arith, ints, to, from), omega (arith, ints, to, from))

pub items_sum-range : (p : Problem) (plan : Plan) → HasPlanNumbers plan → (count node : ℕ) → count ≤ length plan.flow → count ≤ 8388608 → IsNodeSum (items_sum p plan count node)
items_sum-range p plan numbers count node within few =
    let tight = items_sum-tight p plan numbers count node within few in record { low = omega (arith, ints, tight); high = omega (arith, ints, tight) }

-- one item more
pub items_sum-more : (p : Problem) (plan : Plan) (i node : ℕ) → items_sum p plan (i + 1) node
    ≡ items_sum p plan i node +ℤ cond ((item_at p.items i).to.0 == node) (number_at plan.flow i) (pos 0) -ℤ cond ((item_at p.items i).from.0 == node) (number_at plan.flow i) (pos 0)
items_sum-more p plan i node = rw add-one (omega (arith, ints))

-- the sum of a node is in range where the term is
pub AreSums-range : (nodes : ℕ) (sums : List ℤ) (term : ℕ → ℤ) → AreSums nodes sums term → ((v : ℕ) → IsNodeSum (term v)) → (v : ℕ) → v < nodes → IsNodeSum (number_at sums v)
AreSums-range nodes sums term are range v within = subst IsNodeSum (sym (are.each v within)) (range v)

-- a term that is a number or 0 is in range
cond-range : (b : Bool) (number : ℤ) → IsPlanNumber number → IsPlanNumber (cond b number (pos 0))
cond-range true number range = range
cond-range false number range = record { low = omega (arith, ints); high = omega (arith, ints) }

pub sum_at-more : (k : ℕ) (place_of : ℕ → ℕ) (term : ℕ → ℤ) (place : ℕ)
    → sum_at (k + 1) place_of term place ≡ sum_at k place_of term place +ℤ cond (place_of k == place) (term k) (pos 0)
sum_at-more k place_of term place = rw add-one refl

-- one item: its flow is added where it leads to, and taken where it comes from
module _ (p : Problem) (plan : Plan) (i : ℕ) (items : List Item) (sums middle : List ℤ) (number : ℤ)
    (same_items : items ≡ p.items) (value : number ≡ number_at plan.flow i)
    (before : AreSums p.nodes sums (items_sum p plan i))
    (added : (v : ℕ) → number_at middle v ≡ number_at sums v +ℤ cond ((item_at items i).to.0 == v) number (pos 0)) where
  pub items_sum-middle : HasPlanNumbers plan → IsPlanNumber number → i ≤ length plan.flow → i ≤ 8388608 → (v : ℕ) → v < p.nodes → IsNodeSum (number_at middle v)
  items_sum-middle numbers range within few v below =
      let old = items_sum-tight p plan numbers i v within few in
      let new = cond-range ((item_at items i).to.0 == v) number range in
      record { low = omega (arith, ints, old, added v, before.each v below); high = omega (arith, ints, old, added v, before.each v below) }

  pub items_sum-step : (after : List ℤ) → length middle ≡ length sums → length after ≡ length middle
      → ((v : ℕ) → number_at after v ≡ number_at middle v -ℤ cond ((item_at items i).from.0 == v) number (pos 0))
      → AreSums p.nodes after (items_sum p plan (i + 1))
  items_sum-step after same also taken = record {
    size = omega (arith, before.size);
    each = λ v below.
        let to : number_at middle v ≡ number_at sums v +ℤ cond ((item_at p.items i).to.0 == v) (number_at plan.flow i) (pos 0) = rw (← same_items, ← value) (added v) in
        let from : number_at after v ≡ number_at middle v -ℤ cond ((item_at p.items i).from.0 == v) (number_at plan.flow i) (pos 0) = rw (← same_items, ← value) (taken v) in
        omega (arith, ints, to, from, before.each v below, items_sum-more p plan i v);
  }

-- what all items and so many starts bring at a node is within 2^69 either way
pub inflow_sum-tight : (p : Problem) (plan : Plan) → HasPlanNumbers plan → (count node : ℕ) → length p.items ≡ length plan.flow → length p.items ≤ 8388608
    → count ≤ length plan.start_flow → count ≤ 8388608
    → (pos 0 ≤ℤ (inflow_sum p plan count node +ℤ pos 590295810358705651712)) × (inflow_sum p plan count node ≤ℤ pos 590295810358705651712)
inflow_sum-tight p plan numbers count node same few within starts =
    let items = items_sum-tight p plan numbers (length p.items) node (omega arith) few in
    let in' = sum_at-range count (λ s. (start_at p.starts s).node.0) (number_at plan.start_flow) node (λ k below. numbers.start_flow k (pos 0) (omega arith)) in
    (omega (arith, ints, items, in'), omega (arith, ints, items, in'))

pub inflow_sum-range : (p : Problem) (plan : Plan) → HasPlanNumbers plan → (count node : ℕ) → length p.items ≡ length plan.flow → length p.items ≤ 8388608
    → count ≤ length plan.start_flow → count ≤ 8388608 → IsNodeSum (inflow_sum p plan count node)
inflow_sum-range p plan numbers count node same few within starts =
    let tight = inflow_sum-tight p plan numbers count node same few within starts in record { low = omega (arith, ints, tight); high = omega (arith, ints, tight) }

pub excess_sum-range : (p : Problem) (plan : Plan) → HasPlanNumbers plan → (count node : ℕ) → length p.items ≡ length plan.flow → length p.items ≤ 8388608
    → length p.starts ≡ length plan.start_flow → length p.starts ≤ 8388608 → count ≤ length plan.end_flow → count ≤ 8388608
    → IsNodeSum (excess_sum p plan count node)
excess_sum-range p plan numbers count node same few also starts within ends =
    let tight = inflow_sum-tight p plan numbers (length p.starts) node same few (omega arith) starts in
    let out = sum_at-range count (λ e. (end_at p.ends e).node.0) (number_at plan.end_flow) node (λ k below. numbers.end_flow k (pos 0) (omega arith)) in
    record { low = omega (arith, ints, tight, out); high = omega (arith, ints, tight, out) }

-- one start: its flow is added at its node
pub inflow_sum-step : (p : Problem) (plan : Plan) (s : ℕ) (starts : List Start) (sums after : List ℤ) (number : ℤ)
    → starts ≡ p.starts → number ≡ number_at plan.start_flow s → AreSums p.nodes sums (inflow_sum p plan s) → length after ≡ length sums
    → ((v : ℕ) → number_at after v ≡ number_at sums v +ℤ cond ((start_at starts s).node.0 == v) number (pos 0))
    → AreSums p.nodes after (inflow_sum p plan (s + 1))
inflow_sum-step p plan s starts sums after number same value before long added = record {
  size = omega (arith, before.size);
  each = λ v below.
      let in' : number_at after v ≡ number_at sums v +ℤ cond ((start_at p.starts s).node.0 == v) (number_at plan.start_flow s) (pos 0) = rw (← same, ← value) (added v) in
      omega (arith, ints, in', before.each v below, sum_at-more s (λ s. (start_at p.starts s).node.0) (number_at plan.start_flow) v);
}

-- one end: its flow is taken from its node
pub excess_sum-step : (p : Problem) (plan : Plan) (e : ℕ) (ends : List End) (sums after : List ℤ) (number : ℤ)
    → ends ≡ p.ends → number ≡ number_at plan.end_flow e → AreSums p.nodes sums (excess_sum p plan e) → length after ≡ length sums
    → ((v : ℕ) → number_at after v ≡ number_at sums v -ℤ cond ((end_at ends e).node.0 == v) number (pos 0))
    → AreSums p.nodes after (excess_sum p plan (e + 1))
excess_sum-step p plan e ends sums after number same value before long taken = record {
  size = omega (arith, before.size);
  each = λ v below.
      let out : number_at after v ≡ number_at sums v -ℤ cond ((end_at p.ends e).node.0 == v) (number_at plan.end_flow e) (pos 0) = rw (← same, ← value) (taken v) in
      omega (arith, ints, out, before.each v below, sum_at-more e (λ e. (end_at p.ends e).node.0) (number_at plan.end_flow) v);
}

-- the node is kept where the sum of all is 0
pub excess_sum-kept : (p : Problem) (plan : Plan) (node : ℕ)
    → (excess_sum p plan (length p.ends) node ≡ pos 0 → IsKeptAt p plan node) × (IsKeptAt p plan node → excess_sum p plan (length p.ends) node ≡ pos 0)
excess_sum-kept p plan node = (λ none. omega (arith, ints, none), λ kept. omega (arith, ints, kept))

-- so the first sum that isn't 0 is that of the first node that isn't kept
pub IsFailure-kept : (p : Problem) (plan : Plan) (sums : List ℤ) (r : Option ℕ) → AreSums p.nodes sums (excess_sum p plan (length p.ends))
    → IsFailure (λ node. number_at sums node ≡ pos 0) (length sums) r → IsFailure (IsKeptAt p plan) p.nodes r
IsFailure-kept p plan sums r are first =
    IsFailure-same (λ node. number_at sums node ≡ pos 0) (IsKeptAt p plan) p.nodes r
    (λ v below. (λ zero. (excess_sum-kept p plan v).0 (sym (are.each v below) ∙ zero), λ kept. are.each v below ∙ (excess_sum-kept p plan v).1 kept))
    (subst (λ n. IsFailure (λ node. number_at sums node ≡ pos 0) n r) are.size first)
