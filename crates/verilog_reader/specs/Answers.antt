-- What a function answers that reads a production.
use Rattle.std.specs.Prelude.{◌≡◌, Option, Some, None, Result, Ok, Err}
use Rattle.verilog_reader.specs.declared.readings.Stop.{Stop}
use Rattle.verilog_reader.specs.declared.readings.Stop.TheVariants.{Syntax, NoMemory}

-- Syntax comes where the production can't be read
abbrev pub Fails : {Y : Type 0} → Stop → Option Y → Type 0
Fails (Syntax at) read = read ≡ None
Fails NoMemory read = Unit {0}

-- what a function returned, seen by view, is what the production reads, unless memory ran out
abbrev pub GivesRead : {X Y : Type 0} → (X → Y) → Result X Stop → Option Y → Type 0
GivesRead view (Ok x) read = read ≡ Some (view x)
GivesRead view (Err stop) read = Fails stop read

-- only want of memory is a reason to stop
abbrev pub IsMemory : {X : Type 0} → Result X Stop → Type 0
IsMemory (Ok _) = Unit {0}
IsMemory (Err (Syntax _)) = ⊥
IsMemory (Err NoMemory) = Unit {0}
