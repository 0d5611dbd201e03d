use Rattle.std.proofs.Common.{◌++◌, take}
use Rattle.std.specs.List.{flat_map}
use Rattle.std.proofs.lemmas.Result.{err_from_is_err_and}
use Rattle.verilog_reader.specs.Modules.{item_declarations}
use Rattle.verilog_reader.specs.Tables.{known, seen}
use Rattle.verilog_reader.proofs.TableSteps.{items_stopped, items_declared}
use Rattle.verilog_reader.proofs.assembly.declare_items.Goals as goal

pub returns-in_err-fault : goal.returns-in_err-fault
returns-in_err-fault c = λ listed before table.
    let p = err_from_is_err_and c.from_residual.result c.from_residual.ensures.1 in
    rw (p.1, p.2) (items_stopped listed before item_declarations c.args.items.now c.loop-item.item-index c.item-item.result (known c.loop-item.table) (known c.declare_item.new.table)
    (seen c.args.first_fault) c.loop-item.fault c.in_err-fault.field-0.0 c.loop-item-test.true c.item-item.is (c.loop-item.invariant listed before table)
    (λ t. c.in_err-fault.ensures listed (before ++ flat_map item_declarations (take c.loop-item.item-index c.args.items.now)) t))

pub loop-item-preserved : goal.loop-item-preserved
loop-item-preserved c = λ listed before table.
    items_declared listed before item_declarations c.args.items.now c.loop-item.item-index c.item-item.result (known c.loop-item.table) (known c.declare_item.new.table)
    (seen c.args.first_fault) c.loop-item.fault c.in_ok-fault.fault c.loop-item-test.true c.item-item.is (c.loop-item.invariant listed before table)
    (λ t. c.in_ok-fault.ensures listed (before ++ flat_map item_declarations (take c.loop-item.item-index c.args.items.now)) t)
