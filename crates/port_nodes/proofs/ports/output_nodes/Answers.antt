use Rattle.std.proofs.Common.{◌≡◌, ◌==◌, ◌&&◌, ◌++◌, ◌<◌, ℕ, Bool, List, [], length, ap, ◌∙◌, subst, arith}
use Rattle.std.specs.Prelude.{if◌then◌else◌, slice_index_or}
use Rattle.std.proofs.lemmas.List.{get_or_default}
use Rattle.bud_design.specs.declared.designs.Pin.{Pin}
use Rattle.bud_design.specs.Designs.{pin_at, is_output}
use Rattle.block_theory.specs.BlockPorts.{nodes_at, output_nodes}
use Rattle.port_nodes.proofs.Ranges.{given-on}
use Rattle.port_nodes.proofs.ports.output_nodes.Goals as goal

pub loop-number-preserved : goal.loop-number-preserved
loop-number-preserved c =
    let k : ℕ = c.loop-number.number in
    let pins : List Pin = c.args.flat.now.pins in
    let below : k < length pins = omega (arith, c.loop-number-test.true, c.pin_count-number-end.ensures.count) in
    let bit : c.index-pins-number.result ≡ pin_at pins k
    = c.index-pins-number.is ∙ (ap (λ (ps : List Pin). slice_index_or ps k c.index-pins-number.result) c.pins-pins.ensures.lent ∙ get_or_default pins k c.index-pins-number.result (pin_at [] 0) below) in
    let wanted : c.is_output_bit-wanted.result ≡ ((pin_at pins k).place == c.args.block && is_output (pin_at pins k).dir)
    = c.is_output_bit-wanted.ensures ∙ ap (λ (b : Pin). b.place == c.args.block && is_output b.dir) bit in
    let put : c.put_if.new.out.items ≡ c.loop-number.out.items ++ (if (pin_at pins k).place == c.args.block && is_output (pin_at pins k).dir then nodes_at c.args.layered.now k else [])
    = subst (λ (b : Bool). c.put_if.new.out.items ≡ c.loop-number.out.items ++ (if b then nodes_at c.args.layered.now k else [])) wanted c.in_ok-put_if.ensures in
    given-on (λ v. (pin_at pins v).place == c.args.block) (λ v. is_output (pin_at pins v).dir) (nodes_at c.args.layered.now) (length pins) c.loop-number.out.items c.put_if.new.out.items
    (output_nodes c.args.flat.now c.args.layered.now c.args.block) k below put c.loop-number.invariant
