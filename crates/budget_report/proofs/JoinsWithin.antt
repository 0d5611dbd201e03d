-- Items that join up are items of the problem.
use Rattle.std.proofs.Common.{ℕ, ◌<◌, List, [], ◌∷◌, length, All}
use Rattle.std.proofs.lemmas.List.Elements.{All-nil, All-cons}
use Rattle.bud_base.specs.Paths.{Joins, item_at}
use Rattle.bud_base.specs.Orders.{IsCycle}
use Rattle.bud_base.specs.declared.ids.ItemId.{ItemId}
use Rattle.bud_base.specs.declared.problems.Item.{Item}

pub Joins-within : (items : List Item) (a b : ℕ) (is : List ItemId) → Joins items a is b → All (λ i. i.0 < length items) is
Joins-within items a b [] joined = All-nil _
Joins-within items a b (i ∷ is) joined = All-cons (λ x. x.0 < length items) i is joined.0 (Joins-within items (item_at items i.0).to.0 b is joined.2)

pub IsCycle-within : (items : List Item) (ring : List ItemId) → IsCycle items ring → All (λ i. i.0 < length items) ring
IsCycle-within items [] cycle = absurd cycle
IsCycle-within items (i ∷ is) cycle = Joins-within items (item_at items i.0).from.0 (item_at items i.0).from.0 (i ∷ is) cycle.0
