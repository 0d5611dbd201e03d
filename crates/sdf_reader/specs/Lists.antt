-- Lists as they are nested.
use Rattle.std.specs.Prelude.{◌≡◌, true, List, ◌∷◌, ◌++◌}
use Rattle.text_scan.specs.Left.{Left}
use Rattle.text_scan.specs.Nesting.{Balanced}
use Rattle.sdf_lex.specs.Tokens.{Token}
use Rattle.sdf_reader.specs.Marks.{opens, closes}
use Rattle.sdf_reader.specs.Nests.{are_tokens}

-- between what is left before and behind stand tokens with balanced parentheses, and a ")"
pub record IsListEnd (before behind : Left Token) : Type 0 where
  pub inside : List Token
  pub by : Token
  pub whole : before.0 ≡ inside ++ by ∷ behind.0
  pub close_is : closes by ≡ true
  pub balanced : Balanced opens closes inside
  pub tokens : are_tokens inside ≡ true
  pub breach : behind.1 ≡ before.1
