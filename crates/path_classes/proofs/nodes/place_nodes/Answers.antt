use Rattle.std.proofs.Common.{◌≡◌, ◌<◌, ◌+◌, ◌++◌, [], ◌∷◌, List, length, get_or, false, true, None, Some, sym, ◌∙◌, ap, subst, arith, rules}
use Rattle.path_states.specs.Tables.{table_of, state_at}
use Rattle.path_states.specs.declared.tables.State.{State}
use Rattle.path_classes.specs.Placing.{AreNodes}
use Rattle.path_classes.proofs.PlacingSteps.{AreNodes-skip, AreNodes-more}
use Rattle.path_classes.proofs.TableReads.{read-rank, never-unranked}
use Rattle.path_classes.proofs.nodes.place_nodes.Goals as goal

pub loop-place-preserved-then-not-live-place : goal.loop-place-preserved-then-not-live-place
loop-place-preserved-then-not-live-place c =
    let dead : get_or c.args.live.now c.loop-place.place false ≡ false = search rules in
    AreNodes-skip (table_of c.args.table.now) c.args.live.now c.args.ranks.now.ranks.items c.loop-place.place c.loop-place.nodes.items dead c.loop-place.invariant

pub unreachable-unreachable : goal.unreachable-unreachable
unreachable-unreachable c =
    let alive : get_or c.args.live.now c.loop-place.place false ≡ true = search rules in
    never-unranked (table_of c.args.table.now) c.args.table.now.launches.items c.args.live.now c.args.ranks.now.keys.items c.args.ranks.now.ranks.items c.requires.ranked c.requires.lists c.loop-place.place
    (omega (arith, ap (λ (xs : List State). length xs) c.as_slice-states.ensures.keys)) alive
    (read-rank (table_of c.args.table.now) c.args.ranks.now.ranks.items c.as_slice-places.result.now c.as_slice-states.result.now c.loop-place.place None c.as_slice-places.ensures.value
    c.as_slice-states.ensures.keys c.in_default.is)

pub unreachable-requires : goal.unreachable-requires
unreachable-requires c =
    let alive : get_or c.args.live.now c.loop-place.place false ≡ true = search rules in
    never-unranked (table_of c.args.table.now) c.args.table.now.launches.items c.args.live.now c.args.ranks.now.keys.items c.args.ranks.now.ranks.items c.requires.ranked c.requires.lists c.loop-place.place
    (omega (arith, ap (λ (xs : List State). length xs) c.as_slice-states.ensures.keys)) alive
    (read-rank (table_of c.args.table.now) c.args.ranks.now.ranks.items c.as_slice-places.result.now c.as_slice-states.result.now c.loop-place.place None c.as_slice-places.ensures.value
    c.as_slice-states.ensures.keys c.in_default.is)

pub loop-place-preserved : goal.loop-place-preserved
loop-place-preserved c =
    let alive : get_or c.args.live.now c.loop-place.place false ≡ true = search rules in
    let rank = read-rank (table_of c.args.table.now) c.args.ranks.now.ranks.items c.as_slice-places.result.now c.as_slice-states.result.now c.loop-place.place (Some c.in-Some.«class»)
    c.as_slice-places.ensures.value c.as_slice-states.ensures.keys c.in-Some.is in
    let pin = ap (λ xs. (state_at xs c.loop-place.place).pin.0) (sym c.as_slice-states.ensures.keys) in
    let more = AreNodes-more (table_of c.args.table.now) c.args.live.now c.args.ranks.now.ranks.items c.loop-place.place c.loop-place.nodes.items
    (record { «class» = c.in-Some.«class»; number = (state_at c.as_slice-states.result.now c.loop-place.place).pin.0; with = 0 })
    (record { alive = alive; pin = pin; rank = rank }) c.loop-place.invariant in
    subst (AreNodes (table_of c.args.table.now) c.args.live.now c.args.ranks.now.ranks.items (c.loop-place.place + 1)) (sym c.in_ok-push.ensures.items) more
