-- Sums over items, starts and ends against sums over nodes.
use Rattle.std.proofs.Common.{◌≡◌, ℕ, ℤ, pos, ◌+ℤ◌, ◌*ℤ◌, ◌-ℤ◌, ◌<◌, length, arith, ap, ◌∙◌}
use Rattle.std.proofs.lemmas.Int.{ints}
use Rattle.bud_base.specs.Paths.{item_at, start_at, end_at}
use Rattle.bud_base.specs.Soundness.{IsSound}
use Rattle.std.proofs.Math.IntN.{*ℤ-zero}
use Rattle.bud_base.specs.declared.problems.Problem.{Problem}
use Rattle.bud_flow.specs.Sums.{sum_below, sum_at, number_at}
use Rattle.bud_flow.specs.Flows.{Flow, StandsAtNodes, gain_of, flow_into, flow_out_of, excess}
use Rattle.bud_flow.proofs.Ints.{mul-sub}
use Rattle.bud_flow.proofs.SumLemmas.{sum_below-none, sum_below-same, sum_below-sub, sum_below-spread, sum_at-exchange}

-- a sound problem's items, starts and ends stand at its nodes
pub StandsAtNodes-from_sound : (p : Problem) → IsSound p → StandsAtNodes p
StandsAtNodes-from_sound p sound = record {
  from = λ i within. (sound.items i _ within).from;
  to = λ i within. (sound.items i _ within).to;
  starts = λ s within. (sound.starts s _ within).node;
  ends = λ e within. (sound.ends e _ within).node;
}

-- the gain of a flow is that of its excess
pub gain_of-excess : (p : Problem) (flow : Flow) (x : ℕ → ℤ) → StandsAtNodes p → gain_of p flow x ≡ sum_below p.nodes (λ v. x v *ℤ excess p flow v)
gain_of-excess p flow x stands =
    let to : sum_below p.nodes (λ v. x v *ℤ sum_at (length p.items) (λ i. (item_at p.items i).to.0) (number_at flow.items) v)
    ≡ sum_below (length p.items) (λ i. number_at flow.items i *ℤ x (item_at p.items i).to.0)
    = sum_at-exchange p.nodes (length p.items) (λ i. (item_at p.items i).to.0) (number_at flow.items) x stands.to in
    let from : sum_below p.nodes (λ v. x v *ℤ sum_at (length p.items) (λ i. (item_at p.items i).from.0) (number_at flow.items) v)
    ≡ sum_below (length p.items) (λ i. number_at flow.items i *ℤ x (item_at p.items i).from.0)
    = sum_at-exchange p.nodes (length p.items) (λ i. (item_at p.items i).from.0) (number_at flow.items) x stands.from in
    let starts : sum_below p.nodes (λ v. x v *ℤ sum_at (length p.starts) (λ s. (start_at p.starts s).node.0) (number_at flow.starts) v)
    ≡ sum_below (length p.starts) (λ s. number_at flow.starts s *ℤ x (start_at p.starts s).node.0)
    = sum_at-exchange p.nodes (length p.starts) (λ s. (start_at p.starts s).node.0) (number_at flow.starts) x stands.starts in
    let ends : sum_below p.nodes (λ v. x v *ℤ sum_at (length p.ends) (λ e. (end_at p.ends e).node.0) (number_at flow.ends) v)
    ≡ sum_below (length p.ends) (λ e. number_at flow.ends e *ℤ x (end_at p.ends e).node.0)
    = sum_at-exchange p.nodes (length p.ends) (λ e. (end_at p.ends e).node.0) (number_at flow.ends) x stands.ends in
    let along : sum_below (length p.items) (λ i. number_at flow.items i *ℤ (x (item_at p.items i).to.0 -ℤ x (item_at p.items i).from.0))
    ≡ sum_below (length p.items) (λ i. number_at flow.items i *ℤ x (item_at p.items i).to.0)
    -ℤ sum_below (length p.items) (λ i. number_at flow.items i *ℤ x (item_at p.items i).from.0)
    = sum_below-same (length p.items) _ _ (λ i _. mul-sub (number_at flow.items i) _ _) ∙ sum_below-sub (length p.items) _ _ in
    let parts : sum_below p.nodes (λ v. x v *ℤ excess p flow v)
    ≡ (sum_below p.nodes (λ v. x v *ℤ sum_at (length p.items) (λ i. (item_at p.items i).to.0) (number_at flow.items) v)
    +ℤ sum_below p.nodes (λ v. x v *ℤ sum_at (length p.starts) (λ s. (start_at p.starts s).node.0) (number_at flow.starts) v))
    -ℤ (sum_below p.nodes (λ v. x v *ℤ sum_at (length p.items) (λ i. (item_at p.items i).from.0) (number_at flow.items) v)
    +ℤ sum_below p.nodes (λ v. x v *ℤ sum_at (length p.ends) (λ e. (end_at p.ends e).node.0) (number_at flow.ends) v))
    = sum_below-spread p.nodes x _ _ _ _ in
    omega (arith, ints, to, from, starts, ends, along, parts)

-- and a flow that is kept at each node gains nothing
pub gain_of-kept : (p : Problem) (flow : Flow) (x : ℕ → ℤ) → StandsAtNodes p → ((v : ℕ) → v < p.nodes → flow_into p flow v ≡ flow_out_of p flow v)
    → gain_of p flow x ≡ pos 0
gain_of-kept p flow x stands kept =
    gain_of-excess p flow x stands
    ∙ sum_below-same p.nodes (λ v. x v *ℤ excess p flow v) (λ v. pos 0) (λ v below.
    let none : excess p flow v ≡ pos 0 = omega (arith, ints, kept v below) in ap (λ a. x v *ℤ a) none ∙ *ℤ-zero (x v))
    ∙ sum_below-none p.nodes
