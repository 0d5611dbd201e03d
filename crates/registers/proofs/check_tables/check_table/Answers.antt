use Rattle.std.proofs.Common.{◌≡◌, List}
use Rattle.std.specs.List.{flat_map, filter_map}
use Rattle.std.proofs.lemmas.Result.{IfOk-weaker}
use Rattle.bud_design.specs.Lists.{Lists}
use Rattle.bud_design.specs.Orders.{check_before}
use Rattle.bud_design.specs.declared.timings.Check.{Check}
use Rattle.registers.specs.Registers.{IsCheck}
use Rattle.registers.specs.CheckLists.{values_of_setup, marked_check}
use Rattle.registers.specs.Tables.{AreGreatest}
use Rattle.registers.proofs.CheckLaws.{check_rooms, Lists-marked}
use Rattle.registers.proofs.check_tables.check_table.Goals as goal

pub at_data_pins-requires : goal.at_data_pins-requires
at_data_pins-requires c =
    let are : AreGreatest (flat_map values_of_setup c.args.setups.now) c.in_ok-amounts.amounts.items = rw (c.deref_mut.ensures.value, c.in_ok-values.ensures) at c.in_ok-amounts.ensures in
    rw c.deref.ensures.value (check_rooms c.requires.0 c.requires.1.0 c.args.setups.now c.args.marks.now c.requires.1.1.0 c.requires.1.1.1 c.in_ok-amounts.amounts.items are)

pub returns : goal.returns
returns c =
    let are : AreGreatest (flat_map values_of_setup c.args.setups.now) c.in_ok-amounts.amounts.items = rw (c.deref_mut.ensures.value, c.in_ok-values.ensures) at c.in_ok-amounts.ensures in
    IfOk-weaker c.at_data_pins.result (λ checks. checks ≡ filter_map (marked_check c.args.marks.now) c.in_ok-amounts.amounts.items) (λ checks. Lists check_before (IsCheck c.args.setups.now) checks)
    (λ checks is. Lists-marked c.requires.0 c.requires.1.0 c.args.setups.now c.args.marks.now c.requires.1.1.0 c.in_ok-amounts.amounts.items checks are is)
    (rw c.deref.ensures.value at c.at_data_pins.ensures)
