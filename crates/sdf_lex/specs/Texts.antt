-- A text as stretches, one behind another: tokens, and white space and comments between them.
use Rattle.std.specs.Prelude.{◌≡◌, ℕ, ◌+◌, List, [], ◌∷◌, Some, None, take, drop}
use Rattle.sdf_lex.specs.Tokens.{Token, stretch}
use Rattle.sdf_lex.specs.declared.lexemes.Kind.{Kind}

-- these are the tokens of the text that begins at this offset
pub data AreTokens : ℕ → List ℕ → List Token → Type 0 where
  none : (at : ℕ) → AreTokens at [] []
  passed : (at n b : ℕ) (bs : List ℕ) (ts : List Token) → stretch (b ∷ bs) ≡ (None, n) → AreTokens (at + n) (drop n (b ∷ bs)) ts → AreTokens at (b ∷ bs) ts
  token : (at n b : ℕ) (bs : List ℕ) (kind : Kind) (ts : List Token) → stretch (b ∷ bs) ≡ (Some kind, n) → AreTokens (at + n) (drop n (b ∷ bs)) ts →
      AreTokens at (b ∷ bs) (record { kind = kind; at = at; bytes = take n (b ∷ bs) } ∷ ts)
