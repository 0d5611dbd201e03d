-- Netlists: what is in the grammar, with which value, and what a reader of them answers.
use Rattle.std.specs.Prelude.{◌≡◌, ℕ, ◌+◌, ◌≤◌, nat_lt, Bool, true, false, List, [], ◌∷◌, slice_range, codes, Option, Some, None, Result, Ok, Err, if◌then◌else◌}
use Rattle.std.specs.Str.{byte}
use Rattle.text_scan.specs.Left.{◌>>=◌}
use Rattle.text_scan.specs.Repeat.{repeat}
use Rattle.verilog_lex.specs.Tokens.{AreTokens}
use Rattle.verilog_lex.specs.declared.kinds.Token.{Token}
use Rattle.verilog_words.specs.LeftOut.{IsFirstLeftOut}
use Rattle.verilog_words.specs.declared.words.Word.{Word}
use Rattle.verilog_reader.specs.Left.{Left, Production, begins, size}
use Rattle.verilog_reader.specs.Words.{is_sign, is_word}
use Rattle.verilog_reader.specs.Sources.{tree, directive, primitive}
use Rattle.verilog_reader.specs.Modules.{assembled, earlier}
use Rattle.bud_syntax.specs.declared.modules.Module.{Module}
use Rattle.verilog_reader.specs.declared.trees.Assembled.{Assembled}
use Rattle.verilog_reader.specs.declared.trees.Named.{Named}
use Rattle.verilog_reader.specs.Breaches.{Breach}
use Rattle.verilog_reader.specs.Breaches.Breach.{of_port, of_number}
use Rattle.verilog_reader.specs.declared.faults.VerilogFault.{VerilogFault}
use Rattle.verilog_reader.specs.declared.faults.VerilogFault.TheVariants.{Syntax, Unsupported, Port, Number, NoMemory}

-- directive | module | primitive: of these a module has a value
unfoldable pub marks : Production (Option Assembled)
marks s = do
  s ← directive s
  Some (None, s)

unfoldable pub passed : Production (Option Assembled)
passed s = do
  s ← primitive s
  Some (None, s)

unfoldable pub made : Production (Option Assembled)
made s = do
  (t, s) ← tree s
  m ← assembled t
  Some (Some m, s)

unfoldable pub part : Production (Option Assembled)
part s =
    if begins (is_sign (byte "`")) s then marks s
    else (if begins (is_word (codes "primitive")) s then passed s
    else made s)

abbrev pub is_over : List Token → Bool
is_over [] = true
is_over (_ ∷ _) = false

abbrev pub is_at_end : Left → Bool
is_at_end s = is_over s.tokens

-- {directive | module | primitive}
abbrev pub parts : Production (List (Option Assembled))
parts s = repeat is_at_end part (size s) s

-- the modules, and the fault of theirs that begins first
abbrev pub modules_of : List (Option Assembled) → List Module
modules_of [] = []
modules_of (None ∷ ps) = modules_of ps
modules_of (Some m ∷ ps) = m.«module» ∷ modules_of ps

abbrev pub fault_of : List (Option Assembled) → Option Named
fault_of [] = None
fault_of (None ∷ ps) = fault_of ps
fault_of (Some m ∷ ps) = earlier m.fault (fault_of ps)

-- the one that begins first
abbrev pub least_breach : Option Named → Option ℕ → Option Breach
least_breach None None = None
least_breach None (Some at) = Some (of_number at)
least_breach (Some n) None = Some (of_port n.name n.at)
least_breach (Some n) (Some at) = if nat_lt at n.at then Some (of_number at) else Some (of_port n.name n.at)

-- the whole of a text, of which nothing is read
abbrev pub whole : List ℕ → List Token → Left
whole text tokens = record { text = text; tokens = tokens; leaf = false; breach = None }

-- the netlist that the tokens of a text are in the loose form, and its least breach
unfoldable pub netlist : List ℕ → List Token → Option (List Module × Option Breach)
netlist text tokens = do
  (parts, s) ← parts (whole text tokens)
  Some (modules_of parts, least_breach (fault_of parts) s.breach)

-- the text reads as these modules
abbrev pub Reads : List ℕ → List Module → Type 0
Reads text modules = (tokens : List Token) × (AreTokens 0 text tokens × (netlist text tokens ≡ Some (modules, None)))

-- the text is in the loose form, and this is its least breach
abbrev pub IsBreached : List ℕ → Breach → Type 0
IsBreached text breach = (tokens : List Token) × ((modules : List Module) × (AreTokens 0 text tokens × (netlist text tokens ≡ Some (modules, Some breach))))

-- the text isn't in the loose form
abbrev pub IsMalformed : List ℕ → Type 0
IsMalformed text = (tokens : List Token) → AreTokens 0 text tokens → netlist text tokens ≡ None

-- the text has tokens, and this is the first word left out of it, if there is one
abbrev pub LeavesOut : List ℕ → Option Word → Type 0
LeavesOut text word = (tokens : List Token) × (AreTokens 0 text tokens × IsFirstLeftOut text tokens word)

-- the text isn't in the loose form, and this is the first word left out of it, with where it begins
abbrev pub IsUnsupported : List ℕ → List ℕ → ℕ → Type 0
IsUnsupported text word at =
    IsMalformed text × ((found : Word) × (LeavesOut text (Some found) × (found.at ≡ at) × (word ≡ slice_range text found.at (found.at + found.len))))

-- what each answer of `read_verilog` says of the text
abbrev pub IsReadAnswer : List ℕ → Result (List Module) VerilogFault → Type 0
IsReadAnswer text (Ok modules) = Reads text modules
IsReadAnswer text (Err (Port name at)) = IsBreached text (of_port name at)
IsReadAnswer text (Err (Number at)) = IsBreached text (of_number at)
IsReadAnswer text (Err (Unsupported word at)) = IsUnsupported text word at
IsReadAnswer text (Err (Syntax at)) = IsMalformed text × ((word : Word) → LeavesOut text (Some word) → ⊥)
IsReadAnswer text (Err NoMemory) = Unit {0}

-- the offset that a fault carries is at most this one
abbrev pub IsFaultWithin : {X : Type 0} → ℕ → Result X VerilogFault → Type 0
IsFaultWithin most (Err (Syntax at)) = at ≤ most
IsFaultWithin most (Err (Unsupported _ _)) = Unit {0}
IsFaultWithin most (Err (Port _ _)) = Unit {0}
IsFaultWithin most (Err (Number _)) = Unit {0}
IsFaultWithin most (Err NoMemory) = Unit {0}
IsFaultWithin most (Ok _) = Unit {0}

-- this holds, unless memory ran out
abbrev pub UnlessMemory : {X : Type 0} → Result X VerilogFault → Type 0 → Type 0
UnlessMemory (Err NoMemory) P = Unit {0}
UnlessMemory (Err (Syntax _)) P = P
UnlessMemory (Err (Unsupported _ _)) P = P
UnlessMemory (Err (Port _ _)) P = P
UnlessMemory (Err (Number _)) P = P
UnlessMemory (Ok _) P = P

abbrev pub IsSyntax : {X : Type 0} → Result X VerilogFault → Type 0
IsSyntax (Err (Syntax _)) = Unit {0}
IsSyntax (Err (Unsupported _ _)) = ⊥
IsSyntax (Err (Port _ _)) = ⊥
IsSyntax (Err (Number _)) = ⊥
IsSyntax (Err NoMemory) = ⊥
IsSyntax (Ok _) = ⊥
