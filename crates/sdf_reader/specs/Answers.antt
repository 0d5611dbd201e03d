-- What the answers of `read_sdf` mean.
use Rattle.std.specs.Prelude.{◌≡◌, ℕ, ◌≤◌, List, length, None, Result, Ok, Err}
use Rattle.bud_syntax.specs.declared.delays.SdfFile.{SdfFile}
use Rattle.sdf_lex.specs.Tokens.{tokens_of}
use Rattle.sdf_reader.specs.LeftOut.{first_left_out}
use Rattle.sdf_reader.specs.Files.{Reads, IsBreached, IsMalformed, IsLeftOut}
use Rattle.sdf_reader.specs.declared.faults.SdfFault.{SdfFault}
use Rattle.sdf_reader.specs.declared.faults.SdfFault.TheVariants.{Syntax, Unsupported, Value, NoMemory}

-- what each answer says of the text
abbrev pub IsReadAnswer : List ℕ → Result SdfFile SdfFault → Type 0
IsReadAnswer text (Ok value) = Reads text value
IsReadAnswer text (Err (Value at)) = IsBreached text at
IsReadAnswer text (Err (Unsupported word at)) = IsMalformed text × IsLeftOut text word at
IsReadAnswer text (Err (Syntax at)) = IsMalformed text × (first_left_out (tokens_of text) ≡ None) × (at ≤ length text)
IsReadAnswer text (Err NoMemory) = Unit {0}

-- this holds, unless memory ran out
abbrev pub UnlessMemory : Result SdfFile SdfFault → Type 0 → Type 0
UnlessMemory (Ok _) P = P
UnlessMemory (Err (Value _)) P = P
UnlessMemory (Err (Unsupported _ _)) P = P
UnlessMemory (Err (Syntax _)) P = P
UnlessMemory (Err NoMemory) P = Unit {0}

abbrev pub IsSyntax : Result SdfFile SdfFault → Type 0
IsSyntax (Ok _) = ⊥
IsSyntax (Err (Value _)) = ⊥
IsSyntax (Err (Unsupported _ _)) = ⊥
IsSyntax (Err (Syntax _)) = Unit {0}
IsSyntax (Err NoMemory) = ⊥

-- a text that isn't in the loose form is refused for what is left out, or else as malformed at this offset
abbrev pub IsRefusal : List ℕ → ℕ → SdfFault → Type 0
IsRefusal text place (Unsupported word at) = IsLeftOut text word at
IsRefusal text place (Syntax at) = (first_left_out (tokens_of text) ≡ None) × (at ≡ place)
IsRefusal text place (Value at) = ⊥
IsRefusal text place NoMemory = Unit {0}
