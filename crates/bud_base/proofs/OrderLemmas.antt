-- Items in an order of the nodes lead on.
use Rattle.std.proofs.Common.{◌≡◌, ℕ, ◌+◌, ◌≤◌, List, [], ◌∷◌, length, refl, ap, arith}
use Rattle.bud_base.specs.Paths.{Joins, item_at}
use Rattle.bud_base.specs.Orders.{IsOrder, IsCycle}
use Rattle.bud_base.specs.declared.ids.NodeId.{NodeId}
use Rattle.bud_base.specs.declared.ids.ItemId.{ItemId}
use Rattle.bud_base.specs.declared.problems.Item.{Item}

-- items that join up lead as many places on at least
pub Joins-places : (nodes : ℕ) (items : List Item) (order : List NodeId) (in_order : IsOrder nodes items order) (is : List ItemId) (a b : ℕ) → Joins items a is b
    → in_order.place a + length is ≤ in_order.place b
Joins-places nodes items order in_order [] a b joined = omega (arith, ap in_order.place joined)
Joins-places nodes items order in_order (i ∷ is) a b joined =
    omega (arith, Joins-places nodes items order in_order is (item_at items i.0).to.0 b joined.2, in_order.follows i.0 joined.0, ap in_order.place joined.1)

-- so only no items lead from a node back to it
pub Joins-back : (nodes : ℕ) (items : List Item) (order : List NodeId) → IsOrder nodes items order → (is : List ItemId) (a : ℕ) → Joins items a is a → is ≡ []
Joins-back nodes items order in_order [] a joined = refl
Joins-back nodes items order in_order (i ∷ is) a joined =
    let places = Joins-places nodes items order in_order (i ∷ is) a a joined in
    absurd (omega (arith, places))

pub IsCycle-none : (nodes : ℕ) (items : List Item) (order : List NodeId) → IsOrder nodes items order → (is : List ItemId) → IsCycle items is → ⊥
IsCycle-none nodes items order in_order [] cycle = cycle
IsCycle-none nodes items order in_order (i ∷ is) cycle =
    let places = Joins-places nodes items order in_order (i ∷ is) _ _ cycle.0 in
    absurd (omega (arith, places))
