-- What an answer says of the first refusal, where there is one.
use Rattle.std.specs.Prelude.{◌≡◌, Option, Some, None, Result, Ok, Err}
use Rattle.module_nets.specs.declared.faults.ElabFault.{ElabFault}
use Rattle.module_nets.specs.declared.faults.ElabFault.TheVariants.{NoMemory}

-- want of memory may come at any time; any other fault is the first refusal
abbrev pub IsRefusal : Option ElabFault → ElabFault → Type 0
IsRefusal refusal NoMemory = Unit {0}
IsRefusal refusal fault = refusal ≡ Some fault

-- the answer is a value exactly where there is no refusal
abbrev pub Answers : {X : Type 0} → Option ElabFault → Result X ElabFault → Type 0
Answers refusal (Ok value) = refusal ≡ None
Answers refusal (Err fault) = IsRefusal refusal fault

-- the answer fails for want of memory alone
abbrev pub IsMemory : {X : Type 0} → Result X ElabFault → Type 0
IsMemory (Ok value) = Unit {0}
IsMemory (Err fault) = fault ≡ NoMemory
