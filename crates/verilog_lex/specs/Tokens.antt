-- The tokens of a Verilog text.
use Rattle.std.specs.Prelude.{◌≡◌, ℕ, ◌+◌, ◌<◌, ◌≤◌, List, [], ◌∷◌, drop, Result, Ok, Err}
use Rattle.verilog_lex.specs.Fronts.{front_of}
use Rattle.verilog_lex.specs.declared.fronts.Front.TheVariants.{Skipped, Found, Refused}
use Rattle.verilog_lex.specs.declared.kinds.Kind.{Kind}
use Rattle.verilog_lex.specs.declared.kinds.Token.{Token}
use Rattle.verilog_lex.specs.declared.kinds.LexFault.{LexFault}
use Rattle.verilog_lex.specs.declared.kinds.LexFault.TheVariants.{Syntax, NoMemory}

-- these are the tokens of a text that begins at this offset: what stands at its front is skipped, or is the first of them
pub data AreTokens : ℕ → List ℕ → List Token → Type 0 where
  done : (at : ℕ) → AreTokens at [] []
  skip : (at b n : ℕ) (behind : List ℕ) (tokens : List Token) → front_of b behind ≡ Skipped n → AreTokens (at + n) (drop n (b ∷ behind)) tokens →
      AreTokens at (b ∷ behind) tokens
  token : (at b n : ℕ) (kind : Kind) (behind : List ℕ) (tokens : List Token) → front_of b behind ≡ Found kind n → AreTokens (at + n) (drop n (b ∷ behind)) tokens →
      AreTokens at (b ∷ behind) (record { kind = kind; at = at; len = n } ∷ tokens)

-- a text that begins at this offset has no tokens for what stands at the last offset: the first comment, attribute or
-- string that is unclosed, or the first byte that no token has
pub data IsRefused : ℕ → List ℕ → ℕ → Type 0 where
  here : (at b n : ℕ) (behind : List ℕ) → front_of b behind ≡ Refused n → IsRefused at (b ∷ behind) (at + n)
  skip : (at b n place : ℕ) (behind : List ℕ) → front_of b behind ≡ Skipped n → IsRefused (at + n) (drop n (b ∷ behind)) place → IsRefused at (b ∷ behind) place
  token : (at b n place : ℕ) (kind : Kind) (behind : List ℕ) → front_of b behind ≡ Found kind n → IsRefused (at + n) (drop n (b ∷ behind)) place → IsRefused at (b ∷ behind) place

-- what each answer of `tokens` says of the text
abbrev pub IsTokensAnswer : List ℕ → Result (List Token) LexFault → Type 0
IsTokensAnswer text (Ok tokens) = AreTokens 0 text tokens
IsTokensAnswer text (Err (Syntax place)) = IsRefused 0 text place
IsTokensAnswer text (Err NoMemory) = Unit {0}

-- this holds, unless memory ran out
abbrev pub UnlessMemory : {X : Type 0} → Result X LexFault → Type 0 → Type 0
UnlessMemory (Err NoMemory) P = Unit {0}
UnlessMemory (Err (Syntax _)) P = P
UnlessMemory (Ok _) P = P

abbrev pub IsSyntax : {X : Type 0} → Result X LexFault → Type 0
IsSyntax (Err (Syntax _)) = Unit {0}
IsSyntax (Err NoMemory) = ⊥
IsSyntax (Ok _) = ⊥

-- the offset that a fault carries stands within the text
abbrev pub IsFaultWithin : {X : Type 0} → ℕ → Result X LexFault → Type 0
IsFaultWithin size (Err (Syntax place)) = place < size
IsFaultWithin size (Err NoMemory) = Unit {0}
IsFaultWithin size (Ok _) = Unit {0}

-- the token is a piece of a text of this length
pub record IsWithin (size : ℕ) (token : Token) : Type 0 where
  pub some : 1 ≤ token.len
  pub end : token.at + token.len ≤ size
