-- What a function answers that reads rows of a text.
use Rattle.std.specs.Prelude.{◌≡◌, ℕ, ◌≤◌, Option, Some, None, Result, Ok, Err}
use Rattle.bud_base.specs.declared.texts.TextFault.{TextFault}
use Rattle.bud_base.specs.declared.texts.TextFault.TheVariants.{Syntax, Value, NoMemory}

-- Syntax comes where the rows can't be read so; a number out of its range is no reason to stop
abbrev pub FailsText : {Y : Type 0} → TextFault → Option Y → Type 0
FailsText (Syntax at) read = read ≡ None
FailsText (Value at) read = ⊥
FailsText NoMemory read = Unit {0}

-- what a function returned, seen by view, is what the definition reads, unless memory ran out
abbrev pub GivesText : {X Y : Type 0} → (X → Y) → Result X TextFault → Option Y → Type 0
GivesText view (Ok x) read = read ≡ Some (view x)
GivesText view (Err fault) read = FailsText fault read

-- the offset that a fault carries is at most this one
abbrev pub IsFaultWithin : {X : Type 0} → ℕ → Result X TextFault → Type 0
IsFaultWithin stop (Err (Syntax at)) = at ≤ stop
IsFaultWithin stop (Err (Value at)) = at ≤ stop
IsFaultWithin stop (Err NoMemory) = Unit {0}
IsFaultWithin stop (Ok _) = Unit {0}

-- this holds, unless memory ran out
abbrev pub UnlessMemory : {X : Type 0} → Result X TextFault → Type 0 → Type 0
UnlessMemory (Err NoMemory) P = Unit {0}
UnlessMemory (Err (Syntax _)) P = P
UnlessMemory (Err (Value _)) P = P
UnlessMemory (Ok _) P = P

abbrev pub IsSyntax : {X : Type 0} → Result X TextFault → Type 0
IsSyntax (Err (Syntax _)) = Unit {0}
IsSyntax (Err (Value _)) = ⊥
IsSyntax (Err NoMemory) = ⊥
IsSyntax (Ok _) = ⊥
