-- The links of an instance.
use Rattle.std.specs.Prelude.{◌||◌, Bool, List, [], Some, if◌then◌else◌}
use Rattle.std.specs.Str.{byte}
use Rattle.text_scan.specs.Left.{◌>>=◌}
use Rattle.verilog_reader.specs.Left.{Production, Word, begins}
use Rattle.verilog_reader.specs.Words.{sign, is_sign}
use Rattle.verilog_reader.specs.Names.{id}
use Rattle.verilog_reader.specs.Joining.{expr}
use Rattle.verilog_reader.specs.Lists.{separated}
use Rattle.bud_syntax.specs.declared.modules.Piece.{Piece}
use Rattle.bud_syntax.specs.declared.modules.Link.{Link}
use Rattle.bud_syntax.specs.declared.modules.Link.TheVariants.{Named, Placed}
use Rattle.verilog_reader.specs.declared.trees.Cell.{Cell}

-- a link ends at "," or ")"
abbrev pub ends_link : Word → Bool
ends_link word = is_sign (byte ",") word || is_sign (byte ")") word

-- [expr] in a link: with none it has no pieces, and the port is open
unfoldable pub maybe_expr : Production (List Piece)
maybe_expr s = if begins ends_link s then Some ([], s) else expr s

-- "." id "(" [expr] ")"
unfoldable pub named_link : Production Link
named_link s = do
  s ← sign (byte ".") s
  (port, s) ← id s
  s ← sign (byte "(") s
  (pieces, s) ← maybe_expr s
  s ← sign (byte ")") s
  Some (Named port.name pieces, s)

-- [expr]
unfoldable pub placed_link : Production Link
placed_link s = do
  (pieces, s) ← maybe_expr s
  Some (Placed pieces, s)

-- [links]: nothing, links by name with commas between, or links by order with commas between
unfoldable pub links : Production (List Link)
links s =
    if begins (is_sign (byte ")")) s then Some ([], s)
    else (if begins (is_sign (byte ".")) s then separated named_link s else separated placed_link s)

-- id "(" [links] ")"
unfoldable pub cell : Production Cell
cell s = do
  (name, s) ← id s
  s ← sign (byte "(") s
  (links, s) ← links s
  s ← sign (byte ")") s
  Some (record { name = name.name; links = links }, s)
