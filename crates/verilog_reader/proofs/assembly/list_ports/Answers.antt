use Rattle.std.proofs.Common.{◌≡◌, ℕ, sym, ap, ◌∙◌, subst, rules, take, List}
use Rattle.std.specs.Prelude.{is_some}
use Rattle.std.specs.Borrow.{Bor}
use Rattle.std.specs.Map.{lookup}
use Rattle.std.specs.Str.{bytes_eq}
use Rattle.std.proofs.lemmas.List.{take_all}
use Rattle.verilog_reader.specs.Modules.{earlier, earliest, one_if}
use Rattle.verilog_reader.specs.Tables.{known, seen}
use Rattle.verilog_reader.specs.declared.trees.HeaderPort.{HeaderPort}
use Rattle.verilog_reader.proofs.TableSteps.{ListsPorts, Entered, lists_none, lists_more, take_one}
use Rattle.verilog_reader.proofs.assembly.list_ports.Goals as goal

pub loop-port-init : goal.loop-port-init
loop-port-init c = lists_none (known c.new-table.result) (λ q. ap (λ es. lookup (λ (k : Bor (List ℕ)). bytes_eq q k.now) es) c.new-table.ensures.empty)

pub loop-port-preserved : goal.loop-port-preserved
loop-port-preserved c =
    let name_is : c.as_slice-name.result.now ≡ c.port-item.result.named.name = c.as_slice-name.ensures in
    let was_known : c.is_some.result ≡ is_some (known c.loop-port.table c.as_slice-name.result.now) = search rules in
    let P : List HeaderPort → Type 0 = λ hs. ListsPorts hs (known c.enter.new.table) c.or_before-before.result (seen c.noted-fault.result) in
    let Q : List ℕ → Type 0 = λ n. Entered (known c.loop-port.table) (known c.enter.new.table) n c.or_before-before.result in
    subst P (sym (take_one c.args.header.now c.loop-port.port-index c.port-item.result c.loop-port-test.true c.port-item.is))
    (lists_more (take c.loop-port.port-index c.args.header.now) c.port-item.result (known c.loop-port.table) (known c.enter.new.table) c.loop-port.before c.or_before-before.result
    (seen c.loop-port.fault) (seen c.noted-fault.result) c.loop-port.invariant c.or_before-before.ensures (subst Q name_is c.in_ok-enter.ensures.entered)
    (c.noted-fault.ensures ∙ ap (λ b. earlier (seen c.loop-port.fault) (earliest (one_if b c.port-item.result.named))) (was_known ∙ ap (λ n. is_some (known c.loop-port.table n)) name_is)))

pub returns-clause-listed : goal.returns-clause-listed
returns-clause-listed c = rw (take_all c.loop-port.port-index c.args.header.now c.loop-port-test.false) at c.loop-port.invariant.table

pub returns-clause-fault : goal.returns-clause-fault
returns-clause-fault c = rw (take_all c.loop-port.port-index c.args.header.now c.loop-port-test.false) at c.loop-port.invariant.fault_is
