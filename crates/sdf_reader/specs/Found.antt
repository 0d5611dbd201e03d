-- What values that are read stand for.
use Rattle.std.specs.Prelude.{ℤ}
use Rattle.text_scan.specs.Left.{Left}
use Rattle.sdf_lex.specs.Tokens.{Token}
use Rattle.sdf_reader.specs.Lefts.{tokens_left}
use Rattle.sdf_reader.specs.declared.values.Found.{Found}

abbrev pub found_of : Found → ℤ × Left Token
found_of found = (found.greatest, tokens_left found.left)
