-- What the functions of the reader answer.
use Rattle.std.specs.Prelude.{◌≡◌, ℕ, ◌+◌, ◌≤◌, nat_lt, length, slice_range, Bool, true, false, List, Option, Some, None, Result, Ok, Err}
use Rattle.bud_syntax.specs.declared.modules.Module.{Module}
use Rattle.verilog_lex.specs.declared.kinds.Token.{Token}
use Rattle.verilog_words.specs.LeftOut.{IsFirstLeftOut}
use Rattle.verilog_words.specs.declared.words.Word.{Word}
use Rattle.verilog_reader.specs.Netlists.{least_breach}
use Rattle.verilog_reader.specs.Breaches.{Breach}
use Rattle.verilog_reader.specs.Breaches.Breach.{of_port, of_number}
use Rattle.verilog_reader.specs.declared.faults.VerilogFault.{VerilogFault}
use Rattle.verilog_reader.specs.declared.faults.VerilogFault.TheVariants.{Syntax, Unsupported, Port, Number, NoMemory}
use Rattle.verilog_reader.specs.declared.readers.Found.{Found}
use Rattle.verilog_reader.specs.declared.trees.Named.{Named}

-- the second begins before the first, or there is no first
abbrev pub takes_second : Option Named → Option Named → Bool
takes_second None b = true
takes_second (Some a) None = false
takes_second (Some a) (Some b) = nat_lt b.at a.at

abbrev pub breach_of : Found → Option Breach
breach_of found = least_breach found.fault found.breach

-- the fault for a breach
abbrev pub Breaks : Option Breach → VerilogFault → Type 0
Breaks breach (Port name at) = breach ≡ Some (of_port name at)
Breaks breach (Number at) = breach ≡ Some (of_number at)
Breaks breach (Unsupported _ _) = ⊥
Breaks breach (Syntax _) = ⊥
Breaks breach NoMemory = ⊥

-- the modules where there is no breach, else the fault for it
abbrev pub Judges : Found → Result (List Module) VerilogFault → Type 0
Judges found (Ok modules) = (modules ≡ found.modules) × (breach_of found ≡ None)
Judges found (Err fault) = Breaks (breach_of found) fault

-- why tokens that are no netlist are refused
abbrev pub Refuses : List ℕ → List Token → VerilogFault → Type 0
Refuses text tokens (Syntax at) = IsFirstLeftOut text tokens None × (at ≤ length text)
Refuses text tokens (Unsupported word at) = (found : Word) × (IsFirstLeftOut text tokens (Some found) × (found.at ≡ at) × (word ≡ slice_range text found.at (found.at + found.len)))
Refuses text tokens (Port _ _) = ⊥
Refuses text tokens (Number _) = ⊥
Refuses text tokens NoMemory = Unit {0}
