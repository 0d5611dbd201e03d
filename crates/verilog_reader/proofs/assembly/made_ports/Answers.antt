use Rattle.std.proofs.Common.{◌≡◌, ℕ, ◌++◌, ◌∷◌, [], List, Option, map, take, not, sym, ap, ◌∙◌, rules}
use Rattle.std.specs.Prelude.{is_some}
use Rattle.bud_syntax.specs.declared.modules.Port.{Port}
use Rattle.verilog_reader.specs.Modules.{earlier, earliest, undirected, one_if, port_of, dir_in, range_in}
use Rattle.verilog_reader.specs.Tables.{known, seen, declared_by}
use Rattle.verilog_reader.specs.declared.trees.Declared.{Declared}
use Rattle.verilog_reader.specs.declared.trees.HeaderPort.{HeaderPort}
use Rattle.verilog_reader.proofs.TableSteps.{take_one, made_one, fault_one}
use Rattle.verilog_reader.proofs.assembly.made_ports.Goals as goal

-- a port from its name and its first declaration
made_of : (declared : List ℕ → Option Declared) (p : HeaderPort) (name : List ℕ) (d : Option Declared) (made : Port) → name ≡ p.named.name → d ≡ declared name →
    made ≡ record { name = name; dir = dir_in d; range = range_in d } → made ≡ port_of declared p
made_of declared p name d made name_is d_is is =
    is ∙ ap (λ x. record { name = name; dir = dir_in x; range = range_in x }) d_is ∙ ap (λ n. record { name = n; dir = dir_in (declared n); range = range_in (declared n) }) name_is

pub loop-port-preserved : goal.loop-port-preserved
loop-port-preserved c =
    let D : List ℕ → Option Declared = declared_by (known c.args.table.now) in
    let one = take_one c.args.header.now c.loop-port.port-index c.port-item.result c.loop-port-test.true c.port-item.is in
    let pushed : c.push.new.self.items ≡ c.loop-port.ports.items ++ c.in_ok-made.made ∷ [] = search rules in
    let none_is : c.is_none.result ≡ not (is_some c.declared_by-declared.result) = search rules in
    let made_is : c.in_ok-made.made ≡ port_of D c.port-item.result =
    made_of D c.port-item.result c.as_slice-name.result.now c.declared_by-declared.result c.in_ok-made.made c.as_slice-name.ensures c.declared_by-declared.ensures c.in_ok-made.ensures.made in
    record {
      ports =
          pushed ∙ ap (λ ps. ps ++ c.in_ok-made.made ∷ []) c.loop-port.invariant.ports
          ∙ ap (λ m. map (port_of D) (take c.loop-port.port-index c.args.header.now) ++ m ∷ []) made_is
          ∙ sym (made_one D (take c.loop-port.port-index c.args.header.now) c.port-item.result)
          ∙ sym (ap (map (port_of D)) one);
      fault =
          fault_one D (take c.loop-port.port-index c.args.header.now) c.port-item.result (seen c.args.first_fault) (seen c.loop-port.fault) (seen c.noted-fault.result) c.loop-port.invariant.fault
          (c.noted-fault.ensures ∙ ap (λ b. earlier (seen c.loop-port.fault) (earliest (one_if b c.port-item.result.named)))
          (none_is ∙ ap (λ d. not (is_some d)) (c.declared_by-declared.ensures ∙ ap D c.as_slice-name.ensures)))
          ∙ ap (λ hs. earlier (seen c.args.first_fault) (earliest (undirected D hs))) (sym one);
    }
