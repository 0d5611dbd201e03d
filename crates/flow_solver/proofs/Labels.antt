-- Labellings, and potentials lifted by them.
use Rattle.std.proofs.Common.{◌≡◌, ℕ, ℤ, pos, ◌+ℤ◌, ◌-ℤ◌, ◌+◌, ◌<◌, List, map, arith, ap, sym, ◌∙◌, inl, inr}
use Rattle.std.specs.List.{range_with_len}
use Rattle.std.proofs.lemmas.Int.{ints}
use Rattle.std.proofs.lemmas.Bool.{cases_lt}
use Rattle.std.proofs.lemmas.List.FromFn.{get_or-map-range_with_len}
use Rattle.bud_base.specs.Soundness.{IsSound}
use Rattle.bud_base.specs.declared.problems.Problem.{Problem}
use Rattle.bud_flow.specs.Sums.{number_at}
use Rattle.residual.specs.Bounds.{IsWithin}
use Rattle.residual.specs.Arcs.{reduced_cost}
use Rattle.residual.specs.Networks.{Network, residual, AreReduced, IsLawful, Fits}
use Rattle.residual.specs.Balances.{HasRoom}
use Rattle.residual.proofs.Ends.{HasEnds-residual}
use Rattle.residual.proofs.Theory.{Suit-from_reduced, IsWithin-from_suit}
use Rattle.residual.specs.declared.arcs.Look.{Look}
use Rattle.flow_solver.specs.Entries.{IsLabelling}
use Rattle.flow_solver.specs.Lifts.{AreLifted}

-- an arc gains what the labels don't use up
pub reduced_cost-lifted : (nodes : ℕ) (before after : List ℤ) (label : ℕ → ℤ) (look : Look) → AreLifted nodes before after label → look.from.0 < nodes + 1 → look.to.0 < nodes + 1
    → reduced_cost after look ≡ reduced_cost before look +ℤ (label look.from.0 -ℤ label look.to.0)
reduced_cost-lifted nodes before after label look lifted from to = omega (arith, ints, lifted.each look.from.0 from, lifted.each look.to.0 to)

-- so after the lifts of a labelling reduced costs of arcs with room are at least 0 again
pub AreReduced-lifted : (net : Network) (after : List ℤ) (label : ℕ → ℤ) → IsLawful net → IsLabelling net label → AreLifted net.nodes net.potentials after label → AreReduced net after
AreReduced-lifted net after label lawful labelling lifted key is_key room =
    let ends = HasEnds-residual net key lawful is_key in
    omega (arith, ints, reduced_cost-lifted net.nodes net.potentials after label (residual net key) lifted ends.from ends.to, labelling.each key is_key room)

-- labels differ little
pub label-within : (net : Network) (p : Problem) (label : ℕ → ℤ) (v : ℕ) → IsSound p → IsLawful net → Fits net p → HasRoom net → AreReduced net net.potentials → IsLabelling net label → v < p.nodes + 1
    → IsWithin (pos 4000000000000) (label p.nodes -ℤ label v)
label-within net p label v sound lawful fits room reduced labelling below =
    let raise : ℕ → ℤ = λ k. number_at net.potentials k +ℤ (label net.nodes -ℤ label k) in
    let after : List ℤ = map raise (range_with_len 0 (net.nodes + 1)) in
    let lifted : AreLifted net.nodes net.potentials after label = record { each = λ k inside. get_or-map-range_with_len raise 0 (net.nodes + 1) k k (pos 0) inside (omega arith) } in
    let root_was : number_at net.potentials p.nodes ≡ pos 0 = ap (number_at net.potentials) (sym fits.nodes) ∙ lawful.root in
    let root_is : number_at after p.nodes ≡ pos 0 =
    ap (number_at after) (sym fits.nodes) ∙ omega (arith, ints, lifted.each net.nodes (omega arith), lawful.root) in
    let suited = Suit-from_reduced net p after lawful.sizes fits room (AreReduced-lifted net after label lawful labelling lifted) root_is in
    let suited_before = Suit-from_reduced net p net.potentials lawful.sizes fits room reduced root_was in
    elim (cases_lt v p.nodes) [
      | inl is_node ↦
          let now = IsWithin-from_suit p (number_at after) v sound suited is_node in
          let was = IsWithin-from_suit p (number_at net.potentials) v sound suited_before is_node in
          let step = lifted.each v (omega (arith, fits.nodes, below)) in
          let same = ap label fits.nodes in
          record { low = omega (arith, ints, now.low, now.high, was.low, was.high, step, same); high = omega (arith, ints, now.low, now.high, was.low, was.high, step, same) }
      | inr past ↦
          let same : label v ≡ label p.nodes = ap label (omega arith) in
          record { low = omega (arith, ints, same); high = omega (arith, ints, same) }
    ]
