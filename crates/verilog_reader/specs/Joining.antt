-- How the pieces of an expression are read with a counter of the braces that are open.
use Rattle.std.specs.Prelude.{ℕ, ◌+◌, ◌-◌, ◌==◌, ◌&&◌, not, Bool, true, false, List, [], ◌∷◌, Option, Some, None, if◌then◌else◌}
use Rattle.std.specs.Str.{byte}
use Rattle.text_scan.specs.Left.{◌>>=◌}
use Rattle.text_scan.specs.Repeat.{repeat}
use Rattle.verilog_reader.specs.Left.{Left, Production, begins, size}
use Rattle.verilog_reader.specs.Words.{sign, is_sign}
use Rattle.verilog_reader.specs.Pieces.{piece}
use Rattle.bud_syntax.specs.declared.modules.Piece.{Piece}

-- how many braces are open, whether an expression has to come, and what is left
pub record Joint : Type 0 where
  pub depth : ℕ
  pub wanted : Bool
  pub rest : Left

abbrev pub is_done : Joint → Bool
is_done j = j.depth == 0 && not j.wanted

-- where an expression has to come: a brace that opens, or a piece
unfoldable pub wanted_turn : ℕ → Left → Option (Option Piece × Joint)
wanted_turn depth s =
    if begins (is_sign (byte "{")) s
    then (do
      s ← sign (byte "{") s
      Some (None, record { depth = depth + 1; wanted = true; rest = s }))
    else (do
      (p, s) ← piece s
      Some (Some p, record { depth = depth; wanted = false; rest = s }))

-- behind an expression in braces: a comma, or the brace that closes
unfoldable pub behind_turn : ℕ → Left → Option (Option Piece × Joint)
behind_turn depth s =
    if begins (is_sign (byte ",")) s
    then (do
      s ← sign (byte ",") s
      Some (None, record { depth = depth; wanted = true; rest = s }))
    else (do
      s ← sign (byte "}") s
      Some (None, record { depth = depth - 1; wanted = false; rest = s }))

abbrev pub turn : Joint → Option (Option Piece × Joint)
turn j = if j.wanted then wanted_turn j.depth j.rest else behind_turn j.depth j.rest

-- the values that are there
abbrev pub somes : {X : Type 0} → List (Option X) → List X
somes [] = []
somes (None ∷ xs) = somes xs
somes (Some x ∷ xs) = x ∷ somes xs

unfoldable pub expr : Production (List Piece)
expr s = do
  (pieces, j) ← repeat is_done turn (size s) (record { depth = 0; wanted = true; rest = s })
  Some (somes pieces, j.rest)
