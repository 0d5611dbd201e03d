use Rattle.std.proofs.Common.{◌∷◌, [], List, Ok, Err, subst}
use Rattle.std.proofs.lemmas.List.{take_all}
use Rattle.std.proofs.lemmas.Result.{err_from_is_err_and}
use Rattle.bud_syntax.specs.declared.modules.NetDecl.{NetDecl}
use Rattle.verilog_reader.specs.Modules.{nets_in}
use Rattle.verilog_reader.specs.Tables.{known, AddsNets}
use Rattle.verilog_reader.proofs.TableSteps.{nets_stopped, nets_added, nets_flat, adds_none}
use Rattle.verilog_reader.proofs.assembly.add_nets.Goals as goal

pub loop-named-init : goal.loop-named-init
loop-named-init c = adds_none (known c.args.table.now) c.args.nets.now.items tt

pub returns-in_err-add_net : goal.returns-in_err-add_net
returns-in_err-add_net c =
    let p = err_from_is_err_and c.from_residual.result c.from_residual.ensures.1 in
    let P : List NetDecl → Type 0 = λ ns. AddsNets (known c.args.table.now) ns c.args.nets.now.items c.add_net.new.nets.items (Err c.in_err-add_net.field-0.0) in
    rw (p.1, p.2) (subst P (nets_flat c.args.constant c.args.range c.args.names.now)
    (nets_stopped (λ n. nets_in c.args.constant c.args.range (n ∷ [])) (known c.args.table.now) c.args.names.now c.loop-named.named-index c.named-item.result c.args.nets.now.items c.loop-named.nets.items
    c.add_net.new.nets.items c.in_err-add_net.field-0.0 c.loop-named-test.true c.named-item.is c.loop-named.invariant c.in_err-add_net.ensures))

pub loop-named-preserved : goal.loop-named-preserved
loop-named-preserved c = nets_added (λ n. nets_in c.args.constant c.args.range (n ∷ [])) (known c.args.table.now) c.args.names.now c.loop-named.named-index c.named-item.result c.args.nets.now.items
    c.loop-named.nets.items c.add_net.new.nets.items c.loop-named-test.true c.named-item.is c.loop-named.invariant c.in_ok-add_net.ensures

pub returns : goal.returns
returns c =
    let P : List NetDecl → Type 0 = λ ns. AddsNets (known c.args.table.now) ns c.args.nets.now.items c.loop-named.nets.items (Ok tt) in
    subst P (nets_flat c.args.constant c.args.range c.args.names.now) (rw (take_all c.loop-named.named-index c.args.names.now c.loop-named-test.false) at c.loop-named.invariant)
