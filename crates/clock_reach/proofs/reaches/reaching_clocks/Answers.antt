use Rattle.std.proofs.Common.{◌<◌, length, sym, subst}
use Rattle.std.specs.Prelude.{All}
use Rattle.clock_reach.specs.Walks.{IsWireBelow, HasSourcesBelow, AreMarks}
use Rattle.clock_reach.specs.Reached.{AreReached}
use Rattle.clock_reach.proofs.ReachLaws.{wires-below, AreReached-marks}
use Rattle.clock_reach.proofs.reaches.reaching_clocks.Goals as goal

pub mark_pins-requires : goal.mark_pins-requires
mark_pins-requires c =
    let d = c.args.flat.now in
    let kept = c.wires.ensures.kept in
    record {
      few_wires = subst (λ ws. length ws < 2147483648) (sym c.wires.ensures.lent) kept.few_wires;
      few_clocks = c.requires.few;
      wires = subst (λ ws. All (IsWireBelow (length c.pins-pins.result.now)) ws) (sym c.wires.ensures.lent)
          (subst (λ ps. All (IsWireBelow (length ps)) d.wires) (sym c.pins-pins.ensures.lent) (wires-below d kept.is_design));
      sources = subst (λ ps. All (HasSourcesBelow (length ps)) c.args.clocks.now) (sym c.pins-pins.ensures.lent) c.requires.sources.within;
    }

pub returns : goal.returns
returns c =
    let d = c.args.flat.now in
    subst (AreReached d 0 c.args.clocks.now) (sym c.from_vec.ensures)
    (AreReached-marks d c.wires.ensures.kept.is_design c.args.clocks.now c.in_ok-marks.marks.items c.requires.sources
    (subst (λ ws. AreMarks ws c.args.clocks.now (length d.pins) c.in_ok-marks.marks.items) c.wires.ensures.lent
    (subst (λ ps. AreMarks c.wires.result.now c.args.clocks.now (length ps) c.in_ok-marks.marks.items) c.pins-pins.ensures.lent c.in_ok-marks.ensures)))
