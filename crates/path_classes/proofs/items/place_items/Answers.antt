use Rattle.std.proofs.Common.{◌≡◌, ◌<◌, ◌+◌, ◌++◌, [], ◌∷◌, List, length, get_or, false, true, None, Some, sym, ◌∙◌, ap, subst, arith, rules}
use Rattle.bud_base.specs.Paths.{item_at}
use Rattle.bud_base.specs.declared.ids.ArcId.{ArcId}
use Rattle.bud_base.specs.declared.problems.Item.{Item}
use Rattle.path_states.specs.Tables.{table_of, state_at, from_in, to_in}
use Rattle.path_classes.specs.Placing.{AreItems}
use Rattle.path_classes.proofs.PlacingSteps.{AreItems-skip, AreItems-more}
use Rattle.path_classes.proofs.TableReads.{read-rank, read-item, never-unranked}
use Rattle.path_classes.proofs.items.place_items.Goals as goal

pub loop-place-preserved-then-not-live-edge : goal.loop-place-preserved-then-not-live-edge
loop-place-preserved-then-not-live-edge c =
    let dead : get_or c.args.live.now (item_at c.as_slice-edges.result.now c.loop-place.place).to.0 false ≡ false = search rules in
    AreItems-skip (table_of c.args.table.now) c.args.live.now c.args.ranks.now.ranks.items c.loop-place.place c.loop-place.items.items
    (ap (λ xs. get_or c.args.live.now (item_at xs c.loop-place.place).to.0 false) (sym c.as_slice-edges.ensures.value) ∙ dead) c.loop-place.invariant

pub unreachable-unreachable : goal.unreachable-unreachable
unreachable-unreachable c =
    let t = table_of c.args.table.now in
    let below : c.loop-place.place < length c.args.table.now.edges.items = omega (arith, ap (λ (xs : List Item). length xs) c.as_slice-edges.ensures.value) in
    let alive : get_or c.args.live.now (item_at c.as_slice-edges.result.now c.loop-place.place).to.0 false ≡ true = search rules in
    let alive_to = ap (λ xs. get_or c.args.live.now (item_at xs c.loop-place.place).to.0 false) (sym c.as_slice-edges.ensures.value) ∙ alive in
    never-unranked t c.args.table.now.launches.items c.args.live.now c.args.ranks.now.keys.items c.args.ranks.now.ranks.items c.requires.ranked c.requires.lists (from_in t c.loop-place.place)
    (c.requires.edges.from c.loop-place.place below) (c.requires.edges.alive c.loop-place.place below alive_to)
    (read-rank t c.args.ranks.now.ranks.items c.as_slice-places.result.now c.as_slice-states.result.now (from_in t c.loop-place.place) None c.as_slice-places.ensures.value c.as_slice-states.ensures.keys
    (ap (λ xs. get_or c.as_slice-places.result.now (state_at c.as_slice-states.result.now (item_at xs c.loop-place.place).from.0).kind None) (sym c.as_slice-edges.ensures.value) ∙ c.in_default.is))

pub unreachable-requires : goal.unreachable-requires
unreachable-requires c =
    let t = table_of c.args.table.now in
    let below : c.loop-place.place < length c.args.table.now.edges.items = omega (arith, ap (λ (xs : List Item). length xs) c.as_slice-edges.ensures.value) in
    let alive : get_or c.args.live.now (item_at c.as_slice-edges.result.now c.loop-place.place).to.0 false ≡ true = search rules in
    let alive_to = ap (λ xs. get_or c.args.live.now (item_at xs c.loop-place.place).to.0 false) (sym c.as_slice-edges.ensures.value) ∙ alive in
    never-unranked t c.args.table.now.launches.items c.args.live.now c.args.ranks.now.keys.items c.args.ranks.now.ranks.items c.requires.ranked c.requires.lists (from_in t c.loop-place.place)
    (c.requires.edges.from c.loop-place.place below) (c.requires.edges.alive c.loop-place.place below alive_to)
    (read-rank t c.args.ranks.now.ranks.items c.as_slice-places.result.now c.as_slice-states.result.now (from_in t c.loop-place.place) None c.as_slice-places.ensures.value c.as_slice-states.ensures.keys
    (ap (λ xs. get_or c.as_slice-places.result.now (state_at c.as_slice-states.result.now (item_at xs c.loop-place.place).from.0).kind None) (sym c.as_slice-edges.ensures.value) ∙ c.in_default.is))

pub unreachable-unreachable-in_default-places : goal.unreachable-unreachable-in_default-places
unreachable-unreachable-in_default-places c =
    let t = table_of c.args.table.now in
    let below : c.loop-place.place < length c.args.table.now.edges.items = omega (arith, ap (λ (xs : List Item). length xs) c.as_slice-edges.ensures.value) in
    let alive : get_or c.args.live.now (item_at c.as_slice-edges.result.now c.loop-place.place).to.0 false ≡ true = search rules in
    let alive_to = ap (λ xs. get_or c.args.live.now (item_at xs c.loop-place.place).to.0 false) (sym c.as_slice-edges.ensures.value) ∙ alive in
    never-unranked t c.args.table.now.launches.items c.args.live.now c.args.ranks.now.keys.items c.args.ranks.now.ranks.items c.requires.ranked c.requires.lists (to_in t c.loop-place.place)
    (c.requires.edges.to c.loop-place.place below) alive_to
    (read-rank t c.args.ranks.now.ranks.items c.as_slice-places.result.now c.as_slice-states.result.now (to_in t c.loop-place.place) None c.as_slice-places.ensures.value c.as_slice-states.ensures.keys
    (ap (λ xs. get_or c.as_slice-places.result.now (state_at c.as_slice-states.result.now (item_at xs c.loop-place.place).to.0).kind None) (sym c.as_slice-edges.ensures.value) ∙ c.in_default-places.is))

pub unreachable-requires-in_default-places : goal.unreachable-requires-in_default-places
unreachable-requires-in_default-places c =
    let t = table_of c.args.table.now in
    let below : c.loop-place.place < length c.args.table.now.edges.items = omega (arith, ap (λ (xs : List Item). length xs) c.as_slice-edges.ensures.value) in
    let alive : get_or c.args.live.now (item_at c.as_slice-edges.result.now c.loop-place.place).to.0 false ≡ true = search rules in
    let alive_to = ap (λ xs. get_or c.args.live.now (item_at xs c.loop-place.place).to.0 false) (sym c.as_slice-edges.ensures.value) ∙ alive in
    never-unranked t c.args.table.now.launches.items c.args.live.now c.args.ranks.now.keys.items c.args.ranks.now.ranks.items c.requires.ranked c.requires.lists (to_in t c.loop-place.place)
    (c.requires.edges.to c.loop-place.place below) alive_to
    (read-rank t c.args.ranks.now.ranks.items c.as_slice-places.result.now c.as_slice-states.result.now (to_in t c.loop-place.place) None c.as_slice-places.ensures.value c.as_slice-states.ensures.keys
    (ap (λ xs. get_or c.as_slice-places.result.now (state_at c.as_slice-states.result.now (item_at xs c.loop-place.place).to.0).kind None) (sym c.as_slice-edges.ensures.value) ∙ c.in_default-places.is))

pub loop-place-preserved : goal.loop-place-preserved
loop-place-preserved c =
    let t = table_of c.args.table.now in
    let alive : get_or c.args.live.now (item_at c.as_slice-edges.result.now c.loop-place.place).to.0 false ≡ true = search rules in
    let is = read-item t c.args.live.now c.args.ranks.now.ranks.items c.as_slice-places.result.now c.as_slice-states.result.now c.as_slice-edges.result.now c.as_slice-arcs.result.now c.loop-place.place
    c.in-Some.«class» c.in-Some-places.with c.as_slice-places.ensures.value c.as_slice-states.ensures.keys c.as_slice-edges.ensures.value c.as_slice-arcs.ensures.value alive c.in-Some.is
    c.in-Some-places.is in
    subst (AreItems t c.args.live.now c.args.ranks.now.ranks.items (c.loop-place.place + 1)) (sym c.in_ok-push.ensures.items)
    (AreItems-more t c.args.live.now c.args.ranks.now.ranks.items c.loop-place.place c.loop-place.items.items
    (record { «class» = c.in-Some.«class»; number = (get_or {A = ArcId} c.as_slice-arcs.result.now c.loop-place.place (record { 0 = 0 })).0; with = c.in-Some-places.with }) is c.loop-place.invariant)
