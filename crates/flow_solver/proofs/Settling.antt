-- A network as it was made has slack, and one whose excess is settled carries little.
use Rattle.std.proofs.Common.{◌≡◌, ◌==◌, ℕ, ℤ, pos, ◌-ℤ◌, ◌*ℤ◌, ◌≤ℤ◌, ◌+◌, ◌<◌, ◌^◌, length, arith, ap, sym, subst, ◌∙◌, cond, Bool, true, false}
use Rattle.std.specs.Prelude.{int_lt}
use Rattle.std.proofs.lemmas.Int.{ints, by_lt_z}
use Rattle.bud_base.specs.Paths.{item_at}
use Rattle.bud_base.specs.Soundness.{IsSound}
use Rattle.bud_base.specs.declared.problems.Problem.{Problem}
use Rattle.bud_flow.specs.Sums.{sum_below, sum_at, number_at}
use Rattle.bud_flow.proofs.SumLemmas.{sum_below-same, sum_below-le, sum_below-none, sum_below-add, sum_at-exchange}
use Rattle.bud_flow.proofs.SumParts.{sum_below-blocks, sum_below-constant}
use Rattle.residual.specs.Arcs.{arc_at, first_flow}
use Rattle.residual.specs.Networks.{Network, IsLawful, Fits, IsFresh, excess_at, item_flow_at}
use Rattle.residual.specs.Balances.{above, surplus, HasNoExcess, IsSettled, total_weight}
use Rattle.residual.specs.Trims.{AreLess, total_limit}
use Rattle.flow_solver.specs.Pushes.{SameNetwork}
use Rattle.residual.proofs.Balance.{sum_below-least}
use Rattle.residual.proofs.Blocks.{by_block}
use Rattle.residual.proofs.Sweeping.{sound_item}
use Rattle.flow_solver.specs.Rounds.{HasSlack}
use Rattle.flow_solver.proofs.Augments.{above-most, above-least, surplus-positive}

times_one : (z : ℤ) → z *ℤ pos 1 ≡ z
times_one z = omega (arith, ints)

one_times : (z : ℤ) → pos 1 *ℤ z ≡ z
one_times z = omega (arith, ints)

cond-positive : (b : Bool) (z : ℤ) → pos 0 ≤ℤ z → pos 0 ≤ℤ cond b z (pos 0)
cond-positive true z least = least
cond-positive false z least = omega (arith, ints)

cond-most : (b : Bool) (z most : ℤ) → z ≤ℤ most → pos 0 ≤ℤ most → cond b z (pos 0) ≤ℤ most
cond-most true z most below least = below
cond-most false z most below least = least

-- what a node has above what it gives on is at most what it gets
above-gets : (gets gives : ℤ) → pos 0 ≤ℤ gets → pos 0 ≤ℤ gives → above (gets -ℤ gives) ≤ℤ gets
above-gets gets gives some others =
    by_lt_z gives gets
    (λ more. omega (arith, ints, above-least (gets -ℤ gives) (omega (arith, ints, more)), others))
    (λ less. omega (arith, ints, above-most (gets -ℤ gives) (omega (arith, ints, less)), some))

-- the surplus is at most all flows together
surplus-flows : (net : Network) → IsLawful net → surplus net ≤ℤ sum_below (length net.arcs) (number_at net.flows)
surplus-flows net lawful =
    let gets : ℕ → ℤ = sum_at (length net.arcs) (λ j. (arc_at net.arcs j).to.0) (number_at net.flows) in
    let gives : ℕ → ℤ = sum_at (length net.arcs) (λ j. (arc_at net.arcs j).from.0) (number_at net.flows) in
    let each : surplus net ≤ℤ sum_below (net.nodes + 1) gets
    = sum_below-le (net.nodes + 1) (λ v. above (excess_at net v)) gets (λ v _. above-gets (gets v) (gives v)
    (sum_below-least (length net.arcs) _ (λ j below. cond-positive ((arc_at net.arcs j).to.0 == v) (number_at net.flows j) (lawful.flows j below).least))
    (sum_below-least (length net.arcs) _ (λ j below. cond-positive ((arc_at net.arcs j).from.0 == v) (number_at net.flows j) (lawful.flows j below).least))) in
    let all : sum_below (net.nodes + 1) gets ≡ sum_below (length net.arcs) (number_at net.flows)
    = sum_below-same (net.nodes + 1) gets (λ v. pos 1 *ℤ gets v) (λ v _. sym (one_times (gets v)))
    ∙ sum_at-exchange (net.nodes + 1) (length net.arcs) (λ j. (arc_at net.arcs j).to.0) (number_at net.flows) (λ _. pos 1) lawful.sizes.joins.to
    ∙ sum_below-same (length net.arcs) _ (number_at net.flows) (λ j _. times_one (number_at net.flows j)) in
    omega (arith, ints, each, all)

module _ (net : Network) (p : Problem) (sound : IsSound p) (lawful : IsLawful net) (fits : Fits net p) (fresh : IsFresh p net) where
  -- an item carries at most its weight
  item-small : (i : ℕ) → i < length p.items → item_flow_at net i ≤ℤ pos (2 ^ 20)
  item-small i within =
      let most : first_flow net.potentials (item_at p.items i) ≤ℤ pos (2 ^ 20)
      = cond-most (int_lt (number_at net.potentials (item_at p.items i).to.0 -ℤ number_at net.potentials (item_at p.items i).from.0) (item_at p.items i).greatest)
      (pos (item_at p.items i).weight) (pos (2 ^ 20)) (omega (arith, ints, (sound_item p i sound within).weight)) (omega (arith, ints)) in
      omega (arith, ints, fresh.items i within, most)

  flow-small : (j : ℕ) → j < length net.arcs → number_at net.flows j ≤ℤ pos (2 ^ 20)
  flow-small j below =
      by_block net.items net.items net.starts net.ends j (λ k. number_at net.flows k ≤ℤ pos (2 ^ 20))
      (λ i within. omega (arith, ints, item-small i (omega (arith, fits.items)), (lawful.flows (net.items + i) (omega (arith, lawful.sizes.arcs))).least))
      (λ i within. omega (arith, ints, item-small i (omega (arith, fits.items)), (lawful.flows i (omega (arith, lawful.sizes.arcs))).least))
      (λ s within. omega (arith, ints, fresh.starts s (omega (arith, fits.starts))))
      (λ e within. omega (arith, ints, fresh.ends e (omega (arith, fits.ends))))
      (omega (arith, lawful.sizes.arcs))

  all-small : sum_below (length net.arcs) (number_at net.flows) ≤ℤ pos (2 ^ 42)
  all-small =
      let items = sum_below-le net.items (item_flow_at net) (λ _. pos (2 ^ 20)) (λ i within. item-small i (omega (arith, fits.items))) in
      let starts = sum_below-same net.starts (λ s. number_at net.flows (net.items + net.items + s)) (λ _. pos 0) (λ s within. fresh.starts s (omega (arith, fits.starts))) in
      let ends = sum_below-same net.ends (λ e. number_at net.flows (net.items + net.items + net.starts + e)) (λ _. pos 0) (λ e within. fresh.ends e (omega (arith, fits.ends))) in
      omega (
        arith,
        ints,
        ap (λ n. sum_below n (number_at net.flows)) lawful.sizes.arcs,
        sum_below-blocks net.items net.items net.starts net.ends (number_at net.flows),
        sum_below-add net.items (number_at net.flows) (λ i. number_at net.flows (net.items + i)),
        items,
        sum_below-constant net.items (2 ^ 20),
        starts,
        sum_below-none net.starts,
        ends,
        sum_below-none net.ends,
        fits.items,
        sound.limits.items,
      )

  pub HasSlack-fresh : HasSlack net
  HasSlack-fresh j below = omega (arith, ints, flow-small j below, all-small, surplus-flows net lawful)

-- flows within 2^43 without excess are settled
pub IsSettled-slack : (net : Network) → IsLawful net → net.is_open ≡ false → HasSlack net → HasNoExcess net → IsSettled net
IsSettled-slack net lawful closed slack balanced =
    let small : (j : ℕ) → j < length net.arcs → number_at net.flows j ≤ℤ pos (2 ^ 43) = λ j below. omega (arith, ints, slack j below, surplus-positive net) in
    record {
      balanced = balanced;
      closed = closed;
      items = λ i within. omega (arith, ints, small i (omega (arith, lawful.sizes.arcs)), small (net.items + i) (omega (arith, lawful.sizes.arcs)));
      starts = λ s within. omega (arith, ints, small (net.items + net.items + s) (omega (arith, lawful.sizes.arcs)));
      ends = λ e within. omega (arith, ints, small (net.items + net.items + net.starts + e) (omega (arith, lawful.sizes.arcs)));
    }

-- ---- surpluses are taken off
-- nothing but flows has changed, and none has risen
pub IsSettled-trimmed : (old new : Network) → IsSettled old → new ≡ record old { flows = new.flows } → AreLess old.flows new.flows → HasNoExcess new → IsSettled new
IsSettled-trimmed old new settled same less balanced =
    let fewer : IsSettled (record old { flows = new.flows }) = record {
      balanced = subst HasNoExcess same balanced;
      closed = settled.closed;
      items = λ i within. omega (arith, ints, settled.items i within, less.less i, less.less (old.items + i));
      starts = λ s within. omega (arith, ints, settled.starts s within, less.less (old.items + old.items + s));
      ends = λ e within. omega (arith, ints, settled.ends e within, less.less (old.items + old.items + old.starts + e));
    } in
    subst IsSettled (sym same) fewer

pub SameNetwork-trimmed : (old new : Network) → new ≡ record old { flows = new.flows } → SameNetwork old new
SameNetwork-trimmed old new same = record {
  nodes = ap (λ (n : Network). n.nodes) same;
  items = ap (λ (n : Network). n.items) same;
  starts = ap (λ (n : Network). n.starts) same;
  ends = ap (λ (n : Network). n.ends) same;
  arcs = ap (λ (n : Network). n.arcs) same;
}

-- what the first arcs of the items can carry is the sum of the weights
pub total_limit-weight : (net : Network) (p : Problem) → Fits net p → total_limit net ≡ total_weight p
total_limit-weight net p fits =
    ap (λ n. sum_below n (λ i. (arc_at net.arcs i).limit)) fits.items
    ∙ sum_below-same (length p.items) _ _ (λ i within. ap (λ a. a.limit) (fits.limited_arcs i within))
