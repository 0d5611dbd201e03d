-- Files that have no reading: the status of each refusal, and the fields of its line.
use Rattle.std.specs.Prelude.{ℕ, List, [], ◌∷◌, ◌++◌, codes, decimal}
use Rattle.bud_base.specs.declared.texts.TextFault.{TextFault}
use Rattle.bud_base.specs.declared.texts.TextFault.TheVariants.{Syntax, Value, NoMemory}
use Rattle.verilog_reader.specs.declared.faults.VerilogFault.{VerilogFault}
use Rattle.verilog_reader.specs.declared.faults.VerilogFault.TheVariants.{Syntax as VerilogSyntax, Unsupported as VerilogLeftOut, Port, Number, NoMemory as VerilogMemory}
use Rattle.sdf_reader.specs.declared.faults.SdfFault.{SdfFault}
use Rattle.sdf_reader.specs.declared.faults.SdfFault.TheVariants.{Syntax as SdfSyntax, Unsupported as SdfLeftOut, Value as SdfValue, NoMemory as SdfMemory}
use Rattle.sdc_reader.specs.declared.faults.SdcFault.{SdcFault}
use Rattle.sdc_reader.specs.declared.faults.SdcFault.TheVariants.{Syntax as SdcSyntax, UnknownCommand, UnknownOption, Value as SdcValue, NoMemory as SdcMemory}
use Rattle.budget_report.specs.declared.statuses.Status.{Status}
use Rattle.budget_report.specs.declared.statuses.Status.TheVariants.{Refused, Memory}

abbrev pub text_status : TextFault → Status
text_status NoMemory = Memory
text_status other = Refused

abbrev pub verilog_status : VerilogFault → Status
verilog_status VerilogMemory = Memory
verilog_status other = Refused

abbrev pub sdf_status : SdfFault → Status
sdf_status SdfMemory = Memory
sdf_status other = Refused

abbrev pub sdc_status : SdcFault → Status
sdc_status SdcMemory = Memory
sdc_status other = Refused

-- the file's name, the offset and the kind of the refusal
abbrev pub refused_fields : List ℕ → ℕ → List ℕ → List (List ℕ)
refused_fields name at kind = codes "refused" ∷ name ∷ decimal at ∷ kind ∷ []

-- and a word of the text
abbrev pub worded_fields : List ℕ → ℕ → List ℕ → List ℕ → List (List ℕ)
worded_fields name at kind word = codes "refused" ∷ name ∷ decimal at ∷ kind ∷ word ∷ []

abbrev pub memory_fields : List (List ℕ)
memory_fields = codes "memory" ∷ []

abbrev pub text_fields : List ℕ → TextFault → List (List ℕ)
text_fields name (Syntax at) = refused_fields name at (codes "syntax")
text_fields name (Value at) = refused_fields name at (codes "value")
text_fields name NoMemory = memory_fields

abbrev pub verilog_fields : List ℕ → VerilogFault → List (List ℕ)
verilog_fields name (VerilogSyntax at) = refused_fields name at (codes "syntax")
verilog_fields name (VerilogLeftOut word at) = worded_fields name at (codes "unsupported") word
verilog_fields name (Port port at) = worded_fields name at (codes "port") port
verilog_fields name (Number at) = refused_fields name at (codes "number")
verilog_fields name VerilogMemory = memory_fields

abbrev pub sdf_fields : List ℕ → SdfFault → List (List ℕ)
sdf_fields name (SdfSyntax at) = refused_fields name at (codes "syntax")
sdf_fields name (SdfLeftOut word at) = worded_fields name at (codes "unsupported") word
sdf_fields name (SdfValue at) = refused_fields name at (codes "value")
sdf_fields name SdfMemory = memory_fields

abbrev pub sdc_fields : List ℕ → SdcFault → List (List ℕ)
sdc_fields name (SdcSyntax at) = refused_fields name at (codes "syntax")
sdc_fields name (UnknownCommand command at) = worded_fields name at (codes "command") command
sdc_fields name (UnknownOption option at) = worded_fields name at (codes "option") option
sdc_fields name (SdcValue at) = refused_fields name at (codes "value")
sdc_fields name SdcMemory = memory_fields
