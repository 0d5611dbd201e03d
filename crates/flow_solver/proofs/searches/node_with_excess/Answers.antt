use Rattle.std.proofs.Common.{ℕ, pos, ◌≤ℤ◌, refl, arith, sym, subst, inl, inr}
use Rattle.std.proofs.lemmas.Bool.{cases_eq}
use Rattle.residual.specs.Networks.{excess_at}
use Rattle.flow_solver.proofs.searches.node_with_excess.Goals as goal

pub loop-node-preserved : goal.loop-node-preserved
loop-node-preserved c = λ v below. elim (cases_eq v c.loop-node.node) [
  | inl same ↦
      let P : ℕ → Type 0 = λ x. excess_at c.args.net.now x ≤ℤ pos 0 in
      subst P (sym same) (c.if-has_excess-2.ensures.no refl)
  | inr other ↦ c.loop-node.invariant v (omega arith)
]
