-- What readings stand for.
use Rattle.std.specs.Prelude.{◌≡◌, ◌≤◌, ◌<◌, length}
use Rattle.text_scan.specs.Left.{Left}
use Rattle.line_text.specs.Spans.{part_of, stop}
use Rattle.line_text.specs.declared.readings.Reading.{Reading}
use Rattle.sdf_lex.specs.Tokens.{Token, tokens}

-- the tokens that are left, and the least breach so far
abbrev pub tokens_left : Reading → Left Token
tokens_left left = (tokens (part_of left.rest), left.breach)

-- the later reading stands further on in the same text, and has fewer tokens left
pub record Advances (earlier later : Reading) : Type 0 where
  pub order : earlier.rest.at ≤ later.rest.at
  pub stop_stays : stop later.rest ≡ stop earlier.rest
  pub fewer : length (tokens (part_of later.rest)) < length (tokens (part_of earlier.rest))

-- the later reading stands no less far on in the same text
pub record Follows (earlier later : Reading) : Type 0 where
  pub order : earlier.rest.at ≤ later.rest.at
  pub stop_stays : stop later.rest ≡ stop earlier.rest
  pub no_more : length (tokens (part_of later.rest)) ≤ length (tokens (part_of earlier.rest))
