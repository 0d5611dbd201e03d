use Rattle.budget_designs.proofs.ReadFiles.{netlist_value}
use Rattle.budget_designs.proofs.files.NetlistTextInput.read.Goals as goal

pub returns-clause-value : goal.returns-clause-value
returns-clause-value c = netlist_value c.args.text.now c.read_verilog.result c.requires c.read_verilog.ensures.answer c.read_verilog.ensures.size
