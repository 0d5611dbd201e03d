use Rattle.std.proofs.lemmas.Result.{err_from_is_err_and}
use Rattle.verilog_reader.specs.Modules.{item_nets}
use Rattle.verilog_reader.specs.Tables.{known}
use Rattle.verilog_reader.proofs.TableSteps.{nets_stopped, nets_added}
use Rattle.verilog_reader.proofs.assembly.add_all_nets.Goals as goal

pub returns-in_err-add_item_nets : goal.returns-in_err-add_item_nets
returns-in_err-add_item_nets c =
    let p = err_from_is_err_and c.from_residual.result c.from_residual.ensures.1 in
    rw (p.1, p.2) (nets_stopped item_nets (known c.args.table.now) c.args.items.now c.loop-item.item-index c.item-item.result c.args.nets.now.items c.loop-item.nets.items
    c.add_item_nets.new.nets.items c.in_err-add_item_nets.field-0.0 c.loop-item-test.true c.item-item.is c.loop-item.invariant c.in_err-add_item_nets.ensures)

pub loop-item-preserved : goal.loop-item-preserved
loop-item-preserved c = nets_added item_nets (known c.args.table.now) c.args.items.now c.loop-item.item-index c.item-item.result c.args.nets.now.items
    c.loop-item.nets.items c.add_item_nets.new.nets.items c.loop-item-test.true c.item-item.is c.loop-item.invariant c.in_ok-add_item_nets.ensures
