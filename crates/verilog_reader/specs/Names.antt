-- Identifiers (IEEE 1364).
use Rattle.std.specs.Prelude.{ℕ, not, ◌&&◌, ◌||◌, Bool, List, drop, Some, None, if◌then◌else◌}
use Rattle.text_scan.specs.Left.{◌>>=◌}
use Rattle.verilog_lex.specs.Kinds.{names, escapes}
use Rattle.verilog_words.specs.Reserved.{is_reserved}
use Rattle.verilog_reader.specs.Left.{Production, Word, next}
use Rattle.verilog_reader.specs.declared.trees.Named.{Named}

-- an escaped identifier, or a name that isn't a word of the language
abbrev pub is_identifier : Word → Bool
is_identifier word = escapes word.kind || (names word.kind && not (is_reserved word.bytes))

-- the name of an identifier, without the backslash of an escaped one
abbrev pub name_of : Word → List ℕ
name_of word = if escapes word.kind then drop 1 word.bytes else word.bytes

-- an identifier: its name, and where it begins
unfoldable pub id : Production Named
id s = do
  (word, s) ← next s
  if is_identifier word then Some (record { name = name_of word; at = word.at }, s) else None
