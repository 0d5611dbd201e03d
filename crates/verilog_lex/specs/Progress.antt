-- What is known of a text while its tokens are sought.
use Rattle.std.specs.Prelude.{◌≡◌, ℕ, ◌<◌, ◌≤◌, List, ◌++◌, drop, length}
use Rattle.std.specs.Char.{is_ascii_graphic}
use Rattle.std.specs.List.{All, prefix_len}
use Rattle.verilog_lex.specs.Tokens.{AreTokens, IsRefused, IsWithin}
use Rattle.verilog_lex.specs.declared.kinds.Token.{Token}

-- so many printable bytes stand at the front, or it isn't known how many
abbrev pub IsKnown : ℕ → List ℕ → Type 0
IsKnown n text = 0 < n → n ≡ prefix_len is_ascii_graphic text

-- The tokens up to this offset are found: with those of the rest they are the tokens of the text, and where the rest is
-- refused, so is the text.
pub record IsSoFar (text : List ℕ) (found : List Token) (at : ℕ) : Type 0 where
  pub goes_on : (tokens : List Token) → AreTokens at (drop at text) tokens → AreTokens 0 text (found ++ tokens)
  pub refuses : (place : ℕ) → IsRefused at (drop at text) place → IsRefused 0 text place
  pub within : at ≤ length text
  pub size : length found ≤ at
  pub each : All (IsWithin (length text)) found
