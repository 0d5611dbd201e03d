-- The files of a design: a netlist (IEEE 1364), a delay file (IEEE 1497) and timing constraints (SDC).
use Rattle.std.specs.Prelude.{List}
use Rattle.bud_syntax.specs.declared.modules.Module.{Module}
use Rattle.bud_syntax.specs.declared.delays.SdfFile.{SdfFile}
use Rattle.bud_syntax.specs.declared.constraints.SdcFile.{SdcFile}
use Rattle.verilog_reader.specs.Netlists.{IsReadAnswer as IsVerilogAnswer}
use Rattle.verilog_reader.specs.declared.faults.VerilogFault.{VerilogFault}
use Rattle.sdf_reader.specs.Answers.{IsReadAnswer as IsSdfAnswer}
use Rattle.sdf_reader.specs.declared.faults.SdfFault.{SdfFault}
use Rattle.sdc_reader.specs.Files.{IsReadAnswer as IsSdcAnswer}
use Rattle.sdc_reader.specs.declared.faults.SdcFault.{SdcFault}
use Rattle.budget_report.specs.declared.causes.Cause.TheVariants.{Verilog, Sdf, Sdc}
use Rattle.budget_steps.specs.Inputs.{Grammar}

abbrev pub netlists : Grammar (List Module) VerilogFault
netlists = record { answers = IsVerilogAnswer; cause = λ name fault. Verilog name fault }

abbrev pub delay_files : Grammar SdfFile SdfFault
delay_files = record { answers = IsSdfAnswer; cause = λ name fault. Sdf name fault }

abbrev pub constraint_files : Grammar SdcFile SdcFault
constraint_files = record { answers = IsSdcAnswer; cause = λ name fault. Sdc name fault }
