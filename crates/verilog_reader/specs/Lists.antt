-- Lists of one production, with commas between.
use Rattle.std.specs.Prelude.{not, Bool, List, ◌∷◌, Some}
use Rattle.std.specs.Str.{byte}
use Rattle.text_scan.specs.Left.{◌>>=◌}
use Rattle.text_scan.specs.Repeat.{repeat}
use Rattle.verilog_reader.specs.Left.{Left, Production, begins, size}
use Rattle.verilog_reader.specs.Words.{sign, is_sign}

-- "," x
unfoldable pub behind_comma : {X : Type 0} → Production X → Production X
behind_comma production s = do
  s ← sign (byte ",") s
  production s

abbrev pub has_no_comma : Left → Bool
has_no_comma s = not (begins (is_sign (byte ",")) s)

-- x {"," x}
unfoldable pub separated : {X : Type 0} → Production X → Production (List X)
separated production s = do
  (x, s) ← production s
  (xs, s) ← repeat has_no_comma (behind_comma production) (size s) s
  Some (x ∷ xs, s)
