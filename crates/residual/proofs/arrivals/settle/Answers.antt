use Rattle.std.proofs.Common.{◌≡◌, Bool, false, List, subst, sym}
use Rattle.std.specs.Prelude.{IsTrue}
use Rattle.bud_base.specs.Orders.{IsOrder, IsCycle}
use Rattle.bud_base.specs.declared.ids.NodeId.{NodeId}
use Rattle.bud_base.specs.declared.ids.ItemId.{ItemId}
use Rattle.bud_base.specs.declared.problems.Item.{Item}
use Rattle.bud_base.specs.declared.problems.Problem.{Problem}
use Rattle.bud_base.specs.Soundness.{IsSound}
use Rattle.residual.proofs.Sweeping.{IsOrder-found, Suit-from_sweep}
use Rattle.residual.proofs.arrivals.settle.Goals as goal

ordered : (p : Problem) (found : Bool) (items : List Item) (order nodes : List NodeId) (ring : List ItemId) → IsSound p → items ≡ p.items → nodes ≡ order
    → (found ≡ false → IsCycle items ring) → (IsTrue found → IsOrder p.nodes items order) → IsOrder p.nodes p.items nodes
ordered p found items order nodes ring sound same_items same_nodes no_order has_order =
    let P : List NodeId → Type 0 = λ ns. IsOrder p.nodes p.items ns in
    let Q : List Item → Type 0 = λ xs. IsTrue found → IsOrder p.nodes xs order in
    let R : List Item → Type 0 = λ xs. found ≡ false → IsCycle xs ring in
    subst P (sym same_nodes) (IsOrder-found p found order ring sound (subst R same_items no_order) (subst Q same_items has_order))

pub sweep-requires-clause-order : goal.sweep-requires-clause-order
sweep-requires-clause-order c = ordered _ _ _ _ _ _ c.requires.sound c.as_slice.ensures c.nodes.ensures c.find.ensures.cycle c.find.ensures.order

pub returns-clause-suit : goal.returns-clause-suit
returns-clause-suit c =
    Suit-from_sweep c.args.problem.now c.nodes.result.now c.begin.new.arrivals c.sweep.new.arrivals c.requires.sound c.requires.meets
    (ordered _ _ _ _ _ _ c.requires.sound c.as_slice.ensures c.nodes.ensures c.find.ensures.cycle c.find.ensures.order) c.sweep.ensures.reached c.begin.ensures.starts c.sweep.ensures.rise c.sweep.ensures.before
