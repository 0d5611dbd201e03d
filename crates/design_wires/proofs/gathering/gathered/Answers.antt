use Rattle.std.proofs.Common.{◌≡◌, ◌++◌, ℕ, map, length, sym, ◌∙◌, ap, arith}
use Rattle.std.specs.Prelude.{flat_map}
use Rattle.std.specs.List.{range_with_len}
use Rattle.elaborations.specs.Elaborations.{wire_at}
use Rattle.design_wires.specs.Gathering.{wires_of}
use Rattle.design_wires.proofs.GatherLaws.{flat_map-more}
use Rattle.design_wires.proofs.gathering.gathered.Goals as goal

pub loop-home-preserved : goal.loop-home-preserved
loop-home-preserved c =
    let here = wire_at c.args.numbers.now.places.now c.args.numbers.now.pins.now c.loop-home.home in
    let all = λ (p : ℕ). map (wire_at c.args.numbers.now.places.now c.args.numbers.now.pins.now p) (wires_of c.args.locals.now c.args.kinds.now p) in
    c.in_ok-put_wires.ensures
    ∙ (ap (λ ws. ws ++ map here c.wires_of.result.now) c.loop-home.invariant
    ∙ (ap (λ ws. flat_map all (range_with_len 0 c.loop-home.home) ++ map here ws) c.wires_of.ensures
    ∙ sym (flat_map-more all c.loop-home.home)))

pub returns : goal.returns
returns c =
    let all = λ (p : ℕ). map (wire_at c.args.numbers.now.places.now c.args.numbers.now.pins.now p) (wires_of c.args.locals.now c.args.kinds.now p) in
    let whole : c.loop-home.home ≡ length c.args.numbers.now.places.now = omega (arith, c.loop-home-test.false, c.loop-home.auto.home-end) in
    c.loop-home.invariant ∙ ap (λ n. flat_map all (range_with_len 0 n)) whole
