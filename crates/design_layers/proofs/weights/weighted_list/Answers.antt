use Rattle.std.proofs.Common.{◌≡◌, ◌<◌, List, length, ap, arith, ◌∙◌}
use Rattle.bud_base.specs.Paths.{item_at}
use Rattle.bud_base.specs.declared.problems.Item.{Item}
use Rattle.bud_design.specs.declared.layers.Class.{Class}
use Rattle.bud_design.specs.declared.layers.LayerItem.{LayerItem}
use Rattle.design_layers.specs.Weights.{share_at, weighted}
use Rattle.design_layers.proofs.WeightLaws.{weighted-more, layer_item_at}
use Rattle.design_layers.proofs.weights.weighted_list.Goals as goal

pub loop-place-preserved : goal.loop-place-preserved
loop-place-preserved c =
    let d = c.args.flat.now in
    let arcs = c.args.graph.now.arcs in
    let clocks = c.args.clocks.now in
    let lines = c.args.lines.now in
    let plain = c.args.plain.now in
    let place = c.loop-place.place in
    let below : c.loop-place.place < length c.args.plain.now.items = omega (arith, c.loop-place-test.true, ap (λ (xs : List LayerItem). length xs) c.as_slice-arcs.ensures) in
    let made : c.weighted_item.result ≡ weighted (share_at d arcs clocks lines plain.classes (layer_item_at plain.items place)) (item_at plain.problem.items place)
    = c.weighted_item.ensures
    ∙ (ap (λ s. weighted s (item_at c.as_slice-items.result.now place)) c.item_share-share.ensures.share
    ∙ (ap (λ (ks : List Class). weighted (share_at d arcs clocks lines ks (layer_item_at c.as_slice-arcs.result.now place)) (item_at c.as_slice-items.result.now place)) c.as_slice-classes.ensures
    ∙ (ap (λ (xs : List LayerItem). weighted (share_at d arcs clocks lines plain.classes (layer_item_at xs place)) (item_at c.as_slice-items.result.now place)) c.as_slice-arcs.ensures
    ∙ ap (λ (is : List Item). weighted (share_at d arcs clocks lines plain.classes (layer_item_at plain.items place)) (item_at is place)) c.as_slice-items.ensures))) in
    weighted-more (share_at d arcs clocks lines plain.classes) plain.items plain.problem.items c.loop-place.list.items c.push.new.self.items place
    c.weighted_item.result below c.requires.layered.as_many c.loop-place.invariant c.in_ok-push.ensures.items made
