-- What is left to read of a Verilog text, and its next word.
use Rattle.std.specs.Prelude.{ℕ, Bool, false, List, [], ◌∷◌, length, drop, Option, Some, None}
use Rattle.text_scan.specs.Left.{lesser}
use Rattle.verilog_lex.specs.Kinds.{bytes_of}
use Rattle.verilog_lex.specs.declared.kinds.Kind.{Kind}
use Rattle.verilog_lex.specs.declared.kinds.Token.{Token}

-- The tokens of the text that are left, whether a module is a leaf here, and the least offset so far of a number out of
-- its range.
pub record Left : Type 0 where
  pub text : List ℕ
  pub tokens : List Token
  pub leaf : Bool
  pub breach : Option ℕ

-- a production reads a part of what is left from the left: its value and what is left then; None where it can't be read
abbrev pub Production : Type 0 → Type 0
Production X = Left → Option (X × Left)

-- how many tokens are left
abbrev pub size : Left → ℕ
size s = length s.tokens

-- a token with its bytes
pub record Word : Type 0 where
  pub kind : Kind
  pub at : ℕ
  pub bytes : List ℕ

abbrev pub word_of : List ℕ → Token → Word
word_of text token = record { kind = token.kind; at = token.at; bytes = bytes_of text token }

-- the same text, of which these tokens are left
abbrev pub with_tokens : Left → List Token → Left
with_tokens s tokens = record { text = s.text; tokens = tokens; leaf = s.leaf; breach = s.breach }

-- what is left behind the next word
abbrev pub behind_first : Left → Left
behind_first s = with_tokens s (drop 1 s.tokens)

-- a breach at this offset
abbrev pub breached : ℕ → Left → Left
breached at s = record { text = s.text; tokens = s.tokens; leaf = s.leaf; breach = lesser s.breach (Some at) }

-- the next word
abbrev pub next_in : List Token → Production Word
next_in [] s = None
next_in (token ∷ tokens) s = Some (word_of s.text token, with_tokens s tokens)

abbrev pub next : Production Word
next s = next_in s.tokens s

-- the next word passes the test
abbrev pub begins_in : List ℕ → (Word → Bool) → List Token → Bool
begins_in text passes [] = false
begins_in text passes (token ∷ _) = passes (word_of text token)

abbrev pub begins : (Word → Bool) → Left → Bool
begins passes s = begins_in s.text passes s.tokens
