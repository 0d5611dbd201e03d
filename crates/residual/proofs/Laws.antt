-- The law of a network under lifts and pushes.
use Rattle.std.proofs.Common.{◌≡◌, ◌==◌, ℕ, zero, suc, ℤ, pos, ◌+ℤ◌, ◌-ℤ◌, ◌≤ℤ◌, ◌<ℤ◌, ◌*◌, ◌/◌, ◌%◌, ◌<◌, ◌≤◌, ◌^◌, List, length, set, arith, refl, sym, subst, ◌∙◌, inl, inr, cond, Bool, true, false, get_or-set_same, get_or-set_other}
use Rattle.std.proofs.lemmas.Int.{ints}
use Rattle.std.proofs.lemmas.Bool.{cases_eq}
use Rattle.std.proofs.Math.ListN.{length-set}
use Rattle.bud_flow.specs.Sums.{sum_at, number_at}
use Rattle.residual.specs.Bounds.{IsWithin}
use Rattle.residual.specs.Arcs.{arc_at, residual_of, residual_at, reduced_cost, CanCarry, CarryAll, HoldsReduced}
use Rattle.residual.specs.Excesses.{excess_of, excess_below, forward, flows_after}
use Rattle.residual.specs.Networks.{Network, IsKey, residual, AreReduced, IsLawful}
use Rattle.residual.proofs.Within.{AllWithin-set}
use Rattle.residual.specs.declared.arcs.Arc.{Arc}

-- what stands at a place is at most the bound for each number
sum_at-bounds : (n b : ℕ) (place_of : ℕ → ℕ) (term : ℕ → ℤ) (v : ℕ) → ((k : ℕ) → k < n → (pos 0 ≤ℤ term k) × (term k ≤ℤ pos b))
    → (pos 0 ≤ℤ sum_at n place_of term v) × (sum_at n place_of term v ≤ℤ pos (n * b))
sum_at-bounds zero b place_of term v bounds = (omega (arith, ints), omega (arith, ints))
sum_at-bounds (suc n) b place_of term v bounds =
    let before = sum_at-bounds n b place_of term v (λ k below. bounds k (omega arith)) in
    let last = one (place_of n == v) (term n) (bounds n (omega arith)) in
    (omega (arith, ints, before.0, last.0), omega (arith, ints, before.1, last.1))
  where
    one : (c : Bool) (t : ℤ) → (pos 0 ≤ℤ t) × (t ≤ℤ pos b) → (pos 0 ≤ℤ cond c t (pos 0)) × (cond c t (pos 0) ≤ℤ pos b)
    one true t bounds = bounds
    one false t bounds = (omega (arith, ints), omega (arith, ints))

-- excesses are small
pub excess_below-within : (count : ℕ) (arcs : List Arc) (flows : List ℤ) (v : ℕ) → count ≤ length arcs → length arcs < 2 ^ 32 → CarryAll arcs flows
    → IsWithin (pos (2 ^ 113)) (excess_below count arcs flows v)
excess_below-within count arcs flows v inside few carried =
    let bounds : (k : ℕ) → k < count → (pos 0 ≤ℤ number_at flows k) × (number_at flows k ≤ℤ pos (2 ^ 80))
    = λ k below. let one = carried k (omega (arith, below, inside)) in (one.least, omega (arith, ints, one.most, one.limit)) in
    let to = sum_at-bounds count (2 ^ 80) (λ j. (arc_at arcs j).to.0) (number_at flows) v bounds in
    let from = sum_at-bounds count (2 ^ 80) (λ j. (arc_at arcs j).from.0) (number_at flows) v bounds in
    record { low = omega (arith, ints, to.0, to.1, from.0, from.1, few, inside); high = omega (arith, ints, to.0, to.1, from.0, from.1, few, inside) }

pub excess_of-within : (arcs : List Arc) (flows : List ℤ) (v : ℕ) → length arcs < 2 ^ 32 → CarryAll arcs flows → IsWithin (pos (2 ^ 113)) (excess_of arcs flows v)
excess_of-within arcs flows v few carried = excess_below-within (length arcs) arcs flows v (omega arith) few carried

-- an arc and its reverse are tight together, whatever their flow
pub reduced_cost-tight : (a : Arc) (flow other : ℤ) (b c : Bool) (potentials : List ℤ) → reduced_cost potentials (residual_of a flow b) ≡ pos 0
    → reduced_cost potentials (residual_of a other c) ≡ pos 0
reduced_cost-tight a flow other true true potentials tight = tight
reduced_cost-tight a flow other false false potentials tight = tight
reduced_cost-tight a flow other true false potentials tight = omega (arith, ints, tight)
reduced_cost-tight a flow other false true potentials tight = omega (arith, ints, tight)

-- an amount over a tight residual arc leaves reduced costs of arcs with room at least 0
pub HoldsReduced-after : (arcs : List Arc) (flows potentials : List ℤ) (key : ℕ) (amount : ℤ)
    → ((k : ℕ) → k < 2 * length arcs → HoldsReduced arcs flows potentials k) → reduced_cost potentials (residual_at arcs flows key) ≡ pos 0
    → (k : ℕ) → k < 2 * length arcs → HoldsReduced arcs (flows_after flows key amount) potentials k
HoldsReduced-after arcs flows potentials key amount reduced tight k below room = elim (cases_eq (k / 2) (key / 2)) [
  | inl same ↦
      let zero_cost : reduced_cost potentials (residual_at arcs (flows_after flows key amount) k) ≡ pos 0
      = rw same (reduced_cost-tight (arc_at arcs (key / 2)) (number_at flows (key / 2)) _ (key % 2 == 0) (k % 2 == 0) potentials tight) in
      omega (arith, ints, zero_cost)
  | inr other ↦
      let P : ℤ → Type 0 = λ f. pos 0 <ℤ (residual_of (arc_at arcs (k / 2)) f (k % 2 == 0)).room → pos 0 ≤ℤ reduced_cost potentials (residual_of (arc_at arcs (k / 2)) f (k % 2 == 0)) in
      subst P (sym (get_or-set_other flows (key / 2) (k / 2) _ (pos 0) other)) (reduced k below) room
]

-- the flow of an arc stays within its limit where no more than its room went over it, or over its reverse
CanCarry-forward : (a : Arc) (flow amount : ℤ) (b : Bool) → CanCarry a flow → pos 0 ≤ℤ amount → amount ≤ℤ (residual_of a flow b).room
    → CanCarry a (flow +ℤ cond b amount (pos 0 -ℤ amount))
CanCarry-forward a flow amount true carries least room = record { least = omega (arith, ints, carries.least, least); most = omega (arith, ints, room); limit = carries.limit; cost = carries.cost }
CanCarry-forward a flow amount false carries least room = record { least = omega (arith, ints, room); most = omega (arith, ints, carries.most, least); limit = carries.limit; cost = carries.cost }

pub CarryAll-after : (arcs : List Arc) (flows : List ℤ) (key : ℕ) (amount : ℤ) → CarryAll arcs flows → length flows ≡ length arcs → key < 2 * length arcs
    → pos 0 ≤ℤ amount → amount ≤ℤ (residual_at arcs flows key).room → CarryAll arcs (flows_after flows key amount)
CarryAll-after arcs flows key amount carried sizes within least room j below = elim (cases_eq j (key / 2)) [
  | inl same ↦
      let there : key / 2 < length flows = omega arith in
      rw (same, get_or-set_same flows (key / 2) (number_at flows (key / 2) +ℤ forward key amount) (pos 0) there)
      (CanCarry-forward (arc_at arcs (key / 2)) (number_at flows (key / 2)) amount (key % 2 == 0) (carried (key / 2) (omega arith)) least room)
  | inr other ↦ rw (get_or-set_other flows (key / 2) j (number_at flows (key / 2) +ℤ forward key amount) (pos 0) other) (carried j below)
]

pub IsLawful-pushed : (net : Network) (key : ℕ) (amount : ℤ) → IsLawful net → IsKey net key → AreReduced net net.potentials
    → reduced_cost net.potentials (residual net key) ≡ pos 0 → pos 0 ≤ℤ amount → amount ≤ℤ (residual net key).room
    → IsLawful (record net { flows = flows_after net.flows key amount; kept = net.potentials; is_open = false })
IsLawful-pushed net key amount lawful is_key reduced tight least room = record {
  sizes = record {
    arcs = lawful.sizes.arcs;
    flows = length-set net.flows (key / 2) _ ∙ lawful.sizes.flows;
    kept = lawful.sizes.potentials;
    potentials = lawful.sizes.potentials;
    joins = lawful.sizes.joins;
    shape = lawful.sizes.shape;
    count = lawful.sizes.count;
  };
  flows = CarryAll-after net.arcs net.flows key amount lawful.flows lawful.sizes.flows is_key least room;
  reduced = HoldsReduced-after net.arcs net.flows net.potentials key amount reduced tight;
  small = lawful.small;
  root = lawful.root;
  kept_root = lawful.root;
  closed = λ _. refl;
}

pub IsLawful-lifted : (net : Network) (v : ℕ) (time : ℤ) → IsLawful net → v < net.nodes → IsWithin (pos (2 ^ 60)) time
    → IsLawful (record net { potentials = set net.potentials v time; is_open = true })
IsLawful-lifted net v time lawful is_node small = record {
  sizes = record {
    arcs = lawful.sizes.arcs;
    flows = lawful.sizes.flows;
    kept = lawful.sizes.kept;
    potentials = length-set net.potentials v time ∙ lawful.sizes.potentials;
    joins = lawful.sizes.joins;
    shape = lawful.sizes.shape;
    count = lawful.sizes.count;
  };
  flows = lawful.flows;
  reduced = lawful.reduced;
  small = λ k below. AllWithin-set (pos (2 ^ 60)) net.potentials v time (omega (arith, lawful.sizes.potentials)) small lawful.small k (omega (arith, length-set net.potentials v time));
  root = get_or-set_other net.potentials v net.nodes time (pos 0) (λ e. omega arith) ∙ lawful.root;
  kept_root = lawful.kept_root;
  closed = λ e. absurd (cc);
}
