-- The files of a design have one value each, or are refused; and what is known of their values.
use Rattle.std.proofs.Common.{◌≡◌, ℕ, ◌≤◌, List, length, All, None, Result, Ok, Err, IfOk, arith, sym, ◌∙◌, refl}
use Rattle.bud_shelf.specs.Outside.{longest_file}
use Rattle.bud_syntax.specs.Ranges.{IsReadKind}
use Rattle.bud_syntax.specs.declared.modules.Module.{Module}
use Rattle.bud_syntax.specs.declared.delays.SdfFile.{SdfFile}
use Rattle.bud_syntax.specs.declared.constraints.SdcFile.{SdcFile}
use Rattle.verilog_reader.specs.Netlists.{IsReadAnswer as IsVerilogAnswer}
use Rattle.verilog_reader.specs.Sizes.{HasAtMost}
use Rattle.verilog_reader.specs.declared.faults.VerilogFault.{VerilogFault}
use Rattle.verilog_reader.specs.declared.faults.VerilogFault.TheVariants as verilog
use Rattle.verilog_reader.proofs.ReadLaws.{one_value as one_netlist, answer_reads as netlist_reads}
use Rattle.sdf_reader.specs.Answers.{IsReadAnswer as IsSdfAnswer}
use Rattle.sdf_reader.specs.declared.faults.SdfFault.{SdfFault}
use Rattle.sdf_reader.specs.declared.faults.SdfFault.TheVariants as sdf
use Rattle.sdf_reader.proofs.FileLaws.{one_reading as one_delays, answer_reads as delays_read}
use Rattle.sdc_reader.specs.Files.{IsReadAnswer as IsSdcAnswer}
use Rattle.sdc_reader.specs.declared.faults.SdcFault.{SdcFault}
use Rattle.sdc_reader.specs.declared.faults.SdcFault.TheVariants as sdc
use Rattle.sdc_reader.proofs.FileLemmas.{one_answer_of, answer_given}
use Rattle.read_laws.proofs.PortLaws.{reads_ports_once}
use Rattle.budget_report.specs.declared.statuses.Status.TheVariants.{Refused, Words}
use Rattle.budget_report.specs.Readings.{verilog_status, sdf_status, sdc_status}
use Rattle.budget_steps.specs.Steps.{IsCause}
use Rattle.budget_steps.proofs.FileLaws.{IsGrammar}
use Rattle.budget_designs.specs.Files.{netlists, delay_files, constraint_files}
use Rattle.budget_designs.specs.Inputs.{IsNetlist, IsDelayFile}

-- ---- netlists
verilog_refused : (fault : VerilogFault) → IsCause (verilog_status fault) → verilog_status fault ≡ Refused
verilog_refused (verilog.Syntax at) is = refl
verilog_refused (verilog.Unsupported word at) is = refl
verilog_refused (verilog.Port name at) is = refl
verilog_refused (verilog.Number at) is = refl
verilog_refused verilog.NoMemory is = absurd is

verilog_fits : (fault : VerilogFault) → verilog_status fault ≡ Words → ⊥
verilog_fits (verilog.Syntax at) e = cc
verilog_fits (verilog.Unsupported word at) e = cc
verilog_fits (verilog.Port name at) e = cc
verilog_fits (verilog.Number at) e = cc
verilog_fits verilog.NoMemory e = cc

verilog_apart : (bytes : List ℕ) (m : List Module) (fault : VerilogFault) → IsCause (verilog_status fault) → IsVerilogAnswer bytes (Ok m) → IsVerilogAnswer bytes (Err fault) → ⊥
verilog_apart bytes m (verilog.Syntax at) is reads refused = let e = netlist_reads bytes m (Err (verilog.Syntax at)) refused reads in cc
verilog_apart bytes m (verilog.Unsupported word at) is reads refused = let e = netlist_reads bytes m (Err (verilog.Unsupported word at)) refused reads in cc
verilog_apart bytes m (verilog.Port name at) is reads refused = let e = netlist_reads bytes m (Err (verilog.Port name at)) refused reads in cc
verilog_apart bytes m (verilog.Number at) is reads refused = let e = netlist_reads bytes m (Err (verilog.Number at)) refused reads in cc
verilog_apart bytes m verilog.NoMemory is reads refused = absurd is

pub netlists_are : IsGrammar netlists
netlists_are = record {
  sure = λ name bytes. record {
    one = λ a b first second. one_netlist bytes a b first second;
    apart = verilog_apart bytes;
    status = λ f g is is' x y. verilog_refused f is ∙ sym (verilog_refused g is');
  };
  fits = λ name fault e. verilog_fits fault e;
}

pub netlist_value : (text : List ℕ) (r : Result (List Module) VerilogFault) → length text ≤ longest_file → IsVerilogAnswer text r → IfOk r (HasAtMost (length text)) → IfOk r IsNetlist
netlist_value text (Ok m) short answer size = record { few = omega (arith, short, size.modules); ports = reads_ports_once text m answer }
netlist_value text (Err fault) short answer size = size

-- ---- delay files
sdf_refused : (fault : SdfFault) → IsCause (sdf_status fault) → sdf_status fault ≡ Refused
sdf_refused (sdf.Syntax at) is = refl
sdf_refused (sdf.Unsupported word at) is = refl
sdf_refused (sdf.Value at) is = refl
sdf_refused sdf.NoMemory is = absurd is

sdf_fits : (fault : SdfFault) → sdf_status fault ≡ Words → ⊥
sdf_fits (sdf.Syntax at) e = cc
sdf_fits (sdf.Unsupported word at) e = cc
sdf_fits (sdf.Value at) e = cc
sdf_fits sdf.NoMemory e = cc

sdf_apart : (bytes : List ℕ) (v : SdfFile) (fault : SdfFault) → IsCause (sdf_status fault) → IsSdfAnswer bytes (Ok v) → IsSdfAnswer bytes (Err fault) → ⊥
sdf_apart bytes v (sdf.Syntax at) is reads refused = let e = delays_read bytes v (Err (sdf.Syntax at)) refused reads in cc
sdf_apart bytes v (sdf.Unsupported word at) is reads refused = let e = delays_read bytes v (Err (sdf.Unsupported word at)) refused reads in cc
sdf_apart bytes v (sdf.Value at) is reads refused = let e = delays_read bytes v (Err (sdf.Value at)) refused reads in cc
sdf_apart bytes v sdf.NoMemory is reads refused = absurd is

pub delay_files_are : IsGrammar delay_files
delay_files_are = record {
  sure = λ name bytes. record {
    one = λ a b first second. (one_delays bytes a b None None first second).0;
    apart = sdf_apart bytes;
    status = λ f g is is' x y. sdf_refused f is ∙ sym (sdf_refused g is');
  };
  fits = λ name fault e. sdf_fits fault e;
}

pub delays_value : (text : List ℕ) (r : Result SdfFile SdfFault) → length text ≤ longest_file → IfOk r (λ v. length v.rows ≤ length text) → IfOk r (λ v. All (λ row. IsReadKind row.kind) v.rows) → IfOk r IsDelayFile
delays_value text (Ok v) short size ranges = record { few = omega (arith, short, size); ranges = ranges }
delays_value text (Err fault) short size ranges = size

-- ---- constraints
sdc_refused : (fault : SdcFault) → IsCause (sdc_status fault) → sdc_status fault ≡ Refused
sdc_refused (sdc.Syntax at) is = refl
sdc_refused (sdc.UnknownCommand name at) is = refl
sdc_refused (sdc.UnknownOption name at) is = refl
sdc_refused (sdc.Value at) is = refl
sdc_refused sdc.NoMemory is = absurd is

sdc_fits : (fault : SdcFault) → sdc_status fault ≡ Words → ⊥
sdc_fits (sdc.Syntax at) e = cc
sdc_fits (sdc.UnknownCommand name at) e = cc
sdc_fits (sdc.UnknownOption name at) e = cc
sdc_fits (sdc.Value at) e = cc
sdc_fits sdc.NoMemory e = cc

sdc_apart : (bytes : List ℕ) (v : SdcFile) (fault : SdcFault) → IsCause (sdc_status fault) → IsSdcAnswer bytes (Ok v) → IsSdcAnswer bytes (Err fault) → ⊥
sdc_apart bytes v (sdc.Syntax at) is reads refused = let e = answer_given bytes (Err (sdc.Syntax at)) (Ok v) refused reads in cc
sdc_apart bytes v (sdc.UnknownCommand name at) is reads refused = let e = answer_given bytes (Err (sdc.UnknownCommand name at)) (Ok v) refused reads in cc
sdc_apart bytes v (sdc.UnknownOption name at) is reads refused = let e = answer_given bytes (Err (sdc.UnknownOption name at)) (Ok v) refused reads in cc
sdc_apart bytes v (sdc.Value at) is reads refused = let e = answer_given bytes (Err (sdc.Value at)) (Ok v) refused reads in cc
sdc_apart bytes v sdc.NoMemory is reads refused = absurd is

same_ok : (a b : SdcFile) (r : Result SdcFile SdcFault) → r ≡ Ok a → r ≡ Ok b → a ≡ b
same_ok a b r first second = cc

one_constraint_file : (bytes : List ℕ) (a b : SdcFile) → IsSdcAnswer bytes (Ok a) → IsSdcAnswer bytes (Ok b) → a ≡ b
one_constraint_file bytes a b first second = same_ok a b (Ok a) refl (one_answer_of bytes (Ok a) (Ok b) first second)

pub constraint_files_are : IsGrammar constraint_files
constraint_files_are = record {
  sure = λ name bytes. record {
    one = one_constraint_file bytes;
    apart = sdc_apart bytes;
    status = λ f g is is' x y. sdc_refused f is ∙ sym (sdc_refused g is');
  };
  fits = λ name fault e. sdc_fits fault e;
}
