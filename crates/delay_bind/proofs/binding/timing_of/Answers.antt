use Rattle.std.proofs.Common.{length}
use Rattle.bud_design.specs.Lists.{Lists}
use Rattle.bud_design.specs.Orders.{check_before}
use Rattle.registers.specs.Launches.{AreLaunches}
use Rattle.registers.specs.RegisterMarks.{AreMarks}
use Rattle.registers.specs.Registers.{IsCheck}
use Rattle.registers.proofs.LaunchLaws.{Lists-launches}
use Rattle.delay_bind.specs.Binding.{entries_in, AreWires}
use Rattle.delay_bind.proofs.binding.timing_of.Goals as goal

pub returns : goal.returns
returns c =
    let d = c.args.flat.now in
    let e = entries_in c.args.lists.now in
    let marks : AreMarks d e.throughs e.setups c.in-Ok.marks = rw (c.deref.ensures.value, c.deref-2.ensures.value) at c.in-Ok.ensures in
    let wires : AreWires d e.alongs c.in_ok-wires.wires = rw c.deref-4.ensures.value at c.in_ok-wires.ensures in
    let checks : Lists check_before (IsCheck e.setups) c.in-Ok-check_table.checks = rw c.deref-3.ensures.value at c.in-Ok-check_table.ensures in
    let edges : AreLaunches c.in-Ok.marks (length d.pins) c.in-Ok-launch_edges.edges = rw c.pin_count.ensures.count at c.in-Ok-launch_edges.ensures in
    record {
      registers = c.in_ok-judge_registers.ensures.0;
      timing = record {
        wires = wires.delays;
        pairs = c.in_ok-pairs.ensures.0.pairs;
        checks = checks;
        edges = Lists-launches d e.throughs e.setups c.in-Ok.marks marks c.in-Ok-launch_edges.edges edges;
        left_out = c.in_ok-pairs.ensures.0.left_out;
      };
      delays = c.in_ok-pairs.ensures.1;
      rests = wires.rests;
    }
