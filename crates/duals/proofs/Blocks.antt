-- Sums over the four blocks of a network's arcs.
use Rattle.std.proofs.Common.{◌≡◌, ◌==◌, ◌≢◌, ℕ, ℤ, pos, ◌+ℤ◌, ◌+◌, ◌<◌, length, arith, refl, ap, sym, ◌∙◌, cond, Bool, true, false}
use Rattle.std.proofs.lemmas.Int.{ints}
use Rattle.std.proofs.lemmas.Bool.{ne_eqb}
use Rattle.bud_base.specs.Paths.{item_at, start_at, end_at}
use Rattle.bud_base.specs.declared.problems.Problem.{Problem}
use Rattle.bud_flow.specs.Sums.{sum_below, sum_at, number_at}
use Rattle.bud_flow.specs.Flows.{Flow, flow_into, flow_out_of}
use Rattle.bud_flow.proofs.SumParts.{sum_below-blocks}
use Rattle.bud_flow.proofs.SumLemmas.{sum_below-same, sum_below-add, sum_below-none}
use Rattle.residual.specs.Arcs.{arc_at}
use Rattle.residual.specs.Networks.{Network, HasSizes, Fits, excess_at, item_flow_at, start_flow_at, end_flow_at}

-- a number at one place is none at any other
elsewhere : (place v : ℕ) (z : ℤ) → place ≢ v → cond (place == v) z (pos 0) ≡ pos 0
elsewhere place v z differs = ap (λ b. cond b z (pos 0)) (ne_eqb place v differs)

cond-add : (b : Bool) (x y : ℤ) → cond b (x +ℤ y) (pos 0) ≡ cond b x (pos 0) +ℤ cond b y (pos 0)
cond-add true x y = refl
cond-add false x y = refl

-- the flow has the numbers of the network
pub record CarriesFlows (net : Network) (p : Problem) (flow : Flow) : Type 0 where
  pub items : (i : ℕ) → i < length p.items → number_at flow.items i ≡ item_flow_at net i
  pub starts : (s : ℕ) → s < length p.starts → number_at flow.starts s ≡ start_flow_at net s
  pub ends : (e : ℕ) → e < length p.ends → number_at flow.ends e ≡ end_flow_at net e

module _ (net : Network) (p : Problem) (flow : Flow) (v : ℕ) (sizes : HasSizes net) (fits : Fits net p) (carries : CarriesFlows net p flow) (is_node : v < p.nodes) where
  -- two arcs with the item's flow
  two_arcs : (place_of : ℕ → ℕ)
      → sum_at (length p.items) place_of (number_at flow.items) v
      ≡ sum_below (length p.items) (λ i. cond (place_of i == v) (number_at net.flows i) (pos 0))
      +ℤ sum_below (length p.items) (λ i. cond (place_of i == v) (number_at net.flows (length p.items + i)) (pos 0))
  two_arcs place_of =
      sum_below-same (length p.items) _ _ (λ i below. let is : number_at flow.items i ≡ number_at net.flows i +ℤ number_at net.flows (length p.items + i)
      = carries.items i below ∙ ap (λ n. number_at net.flows i +ℤ number_at net.flows (n + i)) fits.items in
      ap (λ z. cond (place_of i == v) z (pos 0)) is ∙ cond-add (place_of i == v) (number_at net.flows i) (number_at net.flows (length p.items + i)))
      ∙ sum_below-add (length p.items) _ _

  size : length net.arcs ≡ length p.items + length p.items + length p.starts + length p.ends
  size = omega (arith, sizes.arcs, fits.items, fits.starts, fits.ends)

  -- what the arcs carry to the node is what the flow does
  into : sum_at (length net.arcs) (λ j. (arc_at net.arcs j).to.0) (number_at net.flows) v ≡ flow_into p flow v
  into =
      let term : ℕ → ℤ = λ j. cond ((arc_at net.arcs j).to.0 == v) (number_at net.flows j) (pos 0) in
      let limited : sum_below (length p.items) term ≡ sum_below (length p.items) (λ i. cond ((item_at p.items i).to.0 == v) (number_at net.flows i) (pos 0))
      = sum_below-same (length p.items) _ _ (λ i below. ap (λ a. cond (a.to.0 == v) (number_at net.flows i) (pos 0)) (fits.limited_arcs i below)) in
      let without : sum_below (length p.items) (λ i. term (length p.items + i)) ≡ sum_below (length p.items) (λ i. cond ((item_at p.items i).to.0 == v) (number_at net.flows (length p.items + i)) (pos 0))
      = sum_below-same (length p.items) _ _ (λ i below. ap (λ a. cond (a.to.0 == v) (number_at net.flows (length p.items + i)) (pos 0)) (fits.open_arcs i below)) in
      let starts : sum_below (length p.starts) (λ s. term (length p.items + length p.items + s)) ≡ sum_at (length p.starts) (λ s. (start_at p.starts s).node.0) (number_at flow.starts) v
      = sum_below-same (length p.starts) _ _ (λ s below.
      let is : number_at flow.starts s ≡ number_at net.flows (length p.items + length p.items + s)
      = carries.starts s below ∙ ap (λ n. number_at net.flows (n + n + s)) fits.items in
      ap (λ a. cond (a.to.0 == v) (number_at net.flows (length p.items + length p.items + s)) (pos 0)) (fits.start_arcs s below)
      ∙ ap (λ z. cond ((start_at p.starts s).node.0 == v) z (pos 0)) (sym is)) in
      let ends : sum_below (length p.ends) (λ e. term (length p.items + length p.items + length p.starts + e)) ≡ pos 0
      = sum_below-same (length p.ends) _ (λ _. pos 0) (λ e below.
      ap (λ a. cond (a.to.0 == v) (number_at net.flows (length p.items + length p.items + length p.starts + e)) (pos 0)) (fits.end_arcs e below)
      ∙ elsewhere p.nodes v _ (λ same. omega arith)) ∙ sum_below-none (length p.ends) in
      ap (λ n. sum_below n term) size
      ∙ sum_below-blocks (length p.items) (length p.items) (length p.starts) (length p.ends) term
      ∙ omega (arith, ints, limited, without, starts, ends, two_arcs (λ i. (item_at p.items i).to.0))

  -- and what they take from it
  out : sum_at (length net.arcs) (λ j. (arc_at net.arcs j).from.0) (number_at net.flows) v ≡ flow_out_of p flow v
  out =
      let term : ℕ → ℤ = λ j. cond ((arc_at net.arcs j).from.0 == v) (number_at net.flows j) (pos 0) in
      let limited : sum_below (length p.items) term ≡ sum_below (length p.items) (λ i. cond ((item_at p.items i).from.0 == v) (number_at net.flows i) (pos 0))
      = sum_below-same (length p.items) _ _ (λ i below. ap (λ a. cond (a.from.0 == v) (number_at net.flows i) (pos 0)) (fits.limited_arcs i below)) in
      let without : sum_below (length p.items) (λ i. term (length p.items + i)) ≡ sum_below (length p.items) (λ i. cond ((item_at p.items i).from.0 == v) (number_at net.flows (length p.items + i)) (pos 0))
      = sum_below-same (length p.items) _ _ (λ i below. ap (λ a. cond (a.from.0 == v) (number_at net.flows (length p.items + i)) (pos 0)) (fits.open_arcs i below)) in
      let starts : sum_below (length p.starts) (λ s. term (length p.items + length p.items + s)) ≡ pos 0
      = sum_below-same (length p.starts) _ (λ _. pos 0) (λ s below.
      ap (λ a. cond (a.from.0 == v) (number_at net.flows (length p.items + length p.items + s)) (pos 0)) (fits.start_arcs s below)
      ∙ elsewhere p.nodes v _ (λ same. omega arith)) ∙ sum_below-none (length p.starts) in
      let ends : sum_below (length p.ends) (λ e. term (length p.items + length p.items + length p.starts + e)) ≡ sum_at (length p.ends) (λ e. (end_at p.ends e).node.0) (number_at flow.ends) v
      = sum_below-same (length p.ends) _ _ (λ e below.
      let is : number_at flow.ends e ≡ number_at net.flows (length p.items + length p.items + length p.starts + e)
      = carries.ends e below ∙ ap (λ n. number_at net.flows (n + n + net.starts + e)) fits.items ∙ ap (λ n. number_at net.flows (length p.items + length p.items + n + e)) fits.starts in
      ap (λ a. cond (a.from.0 == v) (number_at net.flows (length p.items + length p.items + length p.starts + e)) (pos 0)) (fits.end_arcs e below)
      ∙ ap (λ z. cond ((end_at p.ends e).node.0 == v) z (pos 0)) (sym is)) in
      ap (λ n. sum_below n term) size
      ∙ sum_below-blocks (length p.items) (length p.items) (length p.starts) (length p.ends) term
      ∙ omega (arith, ints, limited, without, starts, ends, two_arcs (λ i. (item_at p.items i).from.0))

  -- so a node without excess keeps the flow
  pub kept-from_excess : excess_at net v ≡ pos 0 → flow_into p flow v ≡ flow_out_of p flow v
  kept-from_excess none = omega (arith, ints, none, into, out)
