-- What reading answers: a value, or the first refusal.
use Rattle.std.specs.Prelude.{◌≡◌, Result, Ok, Err}
use Rattle.sdc_reader.specs.declared.faults.SdcFault.{SdcFault}
use Rattle.sdc_reader.specs.declared.faults.SdcFault.TheVariants.{Syntax, UnknownCommand, UnknownOption, Value, NoMemory}

abbrev pub Answer : Type 0 → Type 0
Answer X = Result X SdcFault

-- one after the other: where the first is refused, the whole is
infixl 10 ◌>>=◌
abbrev pub ◌>>=◌ : {A B : Type 0} → Result A SdcFault → (A → Result B SdcFault) → Result B SdcFault
(Ok x) >>= f = f x
(Err fault) >>= f = Err fault

-- the definition refuses so, unless memory ran out
abbrev pub Fails : {Y : Type 0} → SdcFault → Result Y SdcFault → Type 0
Fails (Syntax at) read = read ≡ Err (Syntax at)
Fails (UnknownCommand name at) read = read ≡ Err (UnknownCommand name at)
Fails (UnknownOption name at) read = read ≡ Err (UnknownOption name at)
Fails (Value at) read = read ≡ Err (Value at)
Fails NoMemory read = Unit {0}

-- what a function returned, seen by view, is what the definition gives, unless memory ran out
abbrev pub Gives : {X Y : Type 0} → (X → Y) → Result X SdcFault → Result Y SdcFault → Type 0
Gives view (Ok x) read = read ≡ Ok (view x)
Gives view (Err fault) read = Fails fault read

-- a fault is this one, unless memory ran out
abbrev pub IsFault : SdcFault → SdcFault → Type 0
IsFault (Syntax at) fault = fault ≡ Syntax at
IsFault (UnknownCommand name at) fault = fault ≡ UnknownCommand name at
IsFault (UnknownOption name at) fault = fault ≡ UnknownOption name at
IsFault (Value at) fault = fault ≡ Value at
IsFault NoMemory fault = Unit {0}

-- this holds, unless memory ran out
abbrev pub UnlessMemory : {X : Type 0} → Result X SdcFault → Type 0 → Type 0
UnlessMemory (Ok _) P = P
UnlessMemory (Err (Syntax _)) P = P
UnlessMemory (Err (UnknownCommand _ _)) P = P
UnlessMemory (Err (UnknownOption _ _)) P = P
UnlessMemory (Err (Value _)) P = P
UnlessMemory (Err NoMemory) P = Unit {0}

abbrev pub IsSyntax : {X : Type 0} → Result X SdcFault → Type 0
IsSyntax (Ok _) = ⊥
IsSyntax (Err (Syntax _)) = Unit {0}
IsSyntax (Err (UnknownCommand _ _)) = ⊥
IsSyntax (Err (UnknownOption _ _)) = ⊥
IsSyntax (Err (Value _)) = ⊥
IsSyntax (Err NoMemory) = ⊥
