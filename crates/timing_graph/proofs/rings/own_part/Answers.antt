use Rattle.std.proofs.Common.{rules, [], ◌≡◌, ◌<◌, ℕ, Some, None, length, get_or, arith, sym, ◌∙◌, ap, subst, refl, length-set}
use Rattle.bud_base.specs.Paths.{item_at}
use Rattle.bud_base.specs.declared.ids.ItemId.{ItemId}
use Rattle.timing_graph.specs.Rings.{node_behind, AreSeen}
use Rattle.timing_graph.proofs.RingParts.{IsCycle-ids, IsCycle-ring, IsCycle-some, AreSeen-none, AreSeen-more, IsOwnRing-found, IsOwnRing-whole, there-from_index}
use Rattle.timing_graph.proofs.rings.own_part.Goals as goal
use Rattle.timing_graph.proofs.rings.own_part.Goals.{After-index}

id_within : (c : After-index) → (get_or c.args.ring.now c.loop-place.place (record { 0 = 0 })).0 < length c.args.items.now
id_within c = IsCycle-ids c.args.items.now c.args.ring.now c.requires.cycle c.loop-place.place (record { 0 = 0 }) c.loop-place-test.true

node_within : (c : After-index) → node_behind c.args.items.now c.args.ring.now c.loop-place.place < length c.loop-place.seen.items
node_within c = let here = (c.requires.within _ (item_at [] 0) (id_within c)).to in omega (arith, here, c.loop-place.invariant.0)

there : (c : After-index) → get_or c.loop-place.seen.items (node_behind c.args.items.now c.args.ring.now c.loop-place.place) None ≡ c.index.result.now
there c = there-from_index c.loop-place.seen.items (node_behind c.args.items.now c.args.ring.now c.loop-place.place) c.index.result.now (node_within c) c.index.ensures

pub bounds-items-item : goal.bounds-items-item
bounds-items-item c = IsCycle-ids c.args.items.now c.args.ring.now c.requires.cycle c.loop-place.place (record { 0 = 0 }) c.loop-place-test.true

pub overflow_add-result : goal.overflow_add-result
overflow_add-result c =
    let less = c.loop-place.invariant.1.below _ c.in-Some.before (there (goal.at.overflow_add-result c).After-index ∙ c.in-Some.is) in
    omega (arith, less, c.loop-place-test.true)

pub returns-in-Some : goal.returns-in-Some
returns-in-Some c =
    IsOwnRing-found c.args.items.now c.args.ring.now c.loop-place.place c.in-Some.before _ c.loop-place.seen.items (IsCycle-ring _ _ c.requires.cycle) c.loop-place-test.true refl
    (there (goal.at.returns-in-Some c).After-index ∙ c.in-Some.is) c.loop-place.invariant.1

pub loop-place-preserved : goal.loop-place-preserved
loop-place-preserved c =
    let at_node = (goal.at.loop-place-preserved c).After-index in (
      length-set _ _ _ ∙ c.loop-place.invariant.0,
      AreSeen-more c.args.items.now c.args.ring.now c.loop-place.place c.loop-place.seen.items _ (node_within at_node) refl (there at_node ∙ c.in-None.is) c.loop-place.invariant.1,
    )

pub returns : goal.returns
returns c = IsOwnRing-whole c.args.items.now c.args.ring.now c.loop-place.seen.items (IsCycle-ring _ _ c.requires.cycle) (IsCycle-some _ _ c.requires.cycle)
    (subst (λ n. AreSeen c.args.items.now c.args.ring.now n c.loop-place.seen.items) (omega arith) c.loop-place.invariant.1)
