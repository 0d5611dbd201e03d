use Rattle.std.proofs.Common.{◌≡◌, ℕ, List, Some, sym, ap, ◌∙◌, subst, rules}
use Rattle.std.specs.Prelude.{is_some}
use Rattle.verilog_reader.specs.Modules.{earlier, earliest, one_if}
use Rattle.verilog_reader.specs.Tables.{known, seen}
use Rattle.verilog_reader.proofs.TableSteps.{Entered, name_refused, name_declared}
use Rattle.verilog_reader.proofs.assembly.declare_names.Goals as goal

pub returns-in_default : goal.returns-in_default
returns-in_default c = λ listed before table.
    name_refused listed before c.args.declared c.args.names.now c.loop-named.named-index c.named-item.result (known c.loop-named.table) (seen c.args.first_fault) c.loop-named.fault
    c.loop-named-test.true c.named-item.is (c.loop-named.invariant listed before table)
    (ap (known c.loop-named.table) (sym c.as_slice-name.ensures) ∙ sym c.known.ensures ∙ c.in_default.is)

pub loop-named-preserved : goal.loop-named-preserved
loop-named-preserved c = λ listed before table.
    let name_is : c.as_slice-name.result.now ≡ c.named-item.result.name = c.as_slice-name.ensures in
    let was : c.is_some.result ≡ is_some c.in-Some.before = search rules in
    let Q : List ℕ → Type 0 = λ n. Entered (known c.loop-named.table) (known c.enter.new.table) n (Some c.args.declared) in
    name_declared listed before c.args.declared c.args.names.now c.loop-named.named-index c.named-item.result c.in-Some.before (known c.loop-named.table) (known c.enter.new.table) (seen c.args.first_fault)
    c.loop-named.fault c.noted-fault.result c.loop-named-test.true c.named-item.is (c.loop-named.invariant listed before table)
    (ap (known c.loop-named.table) (sym name_is) ∙ sym c.known.ensures ∙ c.in-Some.is) (subst Q name_is c.in_ok-enter.ensures.entered)
    (c.noted-fault.ensures ∙ ap (λ b. earlier (seen c.loop-named.fault) (earliest (one_if b c.named-item.result))) was)
