use Rattle.std.proofs.Common.{◌∙◌}
use Rattle.verilog_reader.specs.Tables.{known, seen}
use Rattle.verilog_reader.proofs.SurveySteps.{survey_is}
use Rattle.verilog_reader.proofs.assembly.take_survey.Goals as goal

pub returns : goal.returns
returns c =
    survey_is c.args.header.now c.args.items.now (known c.declare_items.new.table) c.in_ok-table.fault c.in_ok-fault.fault c.in_ok-nets.nets c.from_vec.result (seen c.in_ok-ports.fault) c.in_ok-fault-2.fault
    c.in_ok-table.ensures.fault (c.in_ok-fault.ensures c.args.header.now _ c.in_ok-table.ensures.listed) c.in_ok-nets.ensures (c.from_vec.ensures ∙ c.in_ok-ports.ensures.ports) c.in_ok-ports.ensures.fault c.in_ok-fault-2.ensures.copy
