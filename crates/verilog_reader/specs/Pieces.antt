-- Expressions: nets, bits and parts of nets, constants, and concatenations of these.
use Rattle.std.specs.Prelude.{◌≡◌, ℕ, Bool, List, [], ◌∷◌, ◌++◌, Some, if◌then◌else◌}
use Rattle.std.specs.Str.{byte}
use Rattle.text_scan.specs.Left.{◌>>=◌}
use Rattle.verilog_lex.specs.Kinds.{numbers}
use Rattle.verilog_reader.specs.Left.{Left, Production, Word, begins}
use Rattle.verilog_reader.specs.Words.{sign, is_sign}
use Rattle.verilog_reader.specs.Names.{id}
use Rattle.verilog_reader.specs.Numbers.{num}
use Rattle.verilog_reader.specs.Constants.{constant}
use Rattle.bud_syntax.specs.declared.modules.Piece.{Piece}
use Rattle.bud_syntax.specs.declared.modules.Piece.TheVariants.{Net, Bit, Part}

-- what is behind the first number in brackets: "]", or ":" num "]"
unfoldable pub select_end : List ℕ → ℕ → Production Piece
select_end name first s =
    if begins (is_sign (byte ":")) s
    then (do
      s ← sign (byte ":") s
      (last, s) ← num s
      s ← sign (byte "]") s
      Some (Part name first last, s))
    else (do
      s ← sign (byte "]") s
      Some (Bit name first, s))

-- "[" num "]" | "[" num ":" num "]"
unfoldable pub select : List ℕ → Production Piece
select name s = do
  s ← sign (byte "[") s
  (first, s) ← num s
  select_end name first s

-- id | id "[" num "]" | id "[" num ":" num "]"
unfoldable pub net : Production Piece
net s = do
  (name, s) ← id s
  if begins (is_sign (byte "[")) s then select name.name s else Some (Net name.name, s)

abbrev pub is_number : Word → Bool
is_number word = numbers word.kind

-- an expression that isn't a concatenation
unfoldable pub piece : Production Piece
piece s = if begins is_number s then constant s else net s

-- Of what is left first, an expression has these pieces, and this is left then. The pieces of a concatenation are those
-- of its expressions, the first leftmost.
mutual
  pub data IsExpr : Left → List Piece → Left → Type 0 where
    one : (s t : Left) (p : Piece) → piece s ≡ Some (p, t) → IsExpr s (p ∷ []) t
    joined : (s inside last t : Left) (ps : List Piece) → sign (byte "{") s ≡ Some inside → AreExprs inside ps last → sign (byte "}") last ≡ Some t → IsExpr s ps t

  -- expr {"," expr}
  pub data AreExprs : Left → List Piece → Left → Type 0 where
    last : (s t : Left) (ps : List Piece) → IsExpr s ps t → AreExprs s ps t
    more : (s t behind u : Left) (ps qs : List Piece) → IsExpr s ps t → sign (byte ",") t ≡ Some behind → AreExprs behind qs u → AreExprs s (ps ++ qs) u
