-- How tokens are spelled, and what lies between them.
use Rattle.std.specs.Prelude.{◌≡◌, ℕ, ◌+◌, ◌≤◌, true, List, [], ◌∷◌, ◌++◌, drop, length, Some}
use Rattle.std.specs.Char.{is_ascii, is_ascii_digit, is_ascii_graphic}
use Rattle.std.specs.List.{slice_range, list_all}
use Rattle.verilog_lex.specs.Fronts.{is_white, begins_name, is_of_name, is_of_line, is_of_string, before_pair}
use Rattle.verilog_lex.specs.Kinds.{bytes_of}
use Rattle.verilog_lex.specs.declared.kinds.Kind.{Kind}
use Rattle.verilog_lex.specs.declared.kinds.Kind.TheVariants.{Name, Escaped, Number, Quoted, Sign}
use Rattle.verilog_lex.specs.declared.kinds.Token.{Token}

-- the bytes of a token of each kind
pub data IsSpelled : Kind → List ℕ → Type 0 where
  name : (b : ℕ) (bs : List ℕ) → begins_name b ≡ true → list_all is_of_name bs ≡ true → IsSpelled Name (b ∷ bs)
  escaped : (b : ℕ) (bs : List ℕ) → list_all is_ascii_graphic (b ∷ bs) ≡ true → IsSpelled Escaped (92 ∷ (b ∷ bs))
  number : (b : ℕ) (bs : List ℕ) → list_all is_ascii_digit (b ∷ bs) ≡ true → IsSpelled Number (b ∷ bs)
  quoted : (bs : List ℕ) → list_all is_of_string bs ≡ true → IsSpelled Quoted (34 ∷ (bs ++ 34 ∷ []))
  sign : (b : ℕ) → is_ascii_graphic b ≡ true → IsSpelled Sign (b ∷ [])

-- white space, a comment or an attribute
pub data IsPassed : List ℕ → Type 0 where
  white : (b : ℕ) (bs : List ℕ) → list_all is_white (b ∷ bs) ≡ true → IsPassed (b ∷ bs)
  line_comment : (bs : List ℕ) → list_all is_of_line bs ≡ true → IsPassed (47 ∷ (47 ∷ bs))
  block_comment : (bs : List ℕ) → before_pair 42 47 (bs ++ 42 ∷ (47 ∷ [])) ≡ Some (length bs) → IsPassed (47 ∷ (42 ∷ (bs ++ 42 ∷ (47 ∷ []))))
  attribute : (bs : List ℕ) → list_all is_ascii bs ≡ true → before_pair 42 41 (bs ++ 42 ∷ (41 ∷ [])) ≡ Some (length bs) → IsPassed (40 ∷ (42 ∷ (bs ++ 42 ∷ (41 ∷ []))))

-- any number of these in a row
pub data ArePassed : List ℕ → Type 0 where
  none : ArePassed []
  some : (piece others : List ℕ) → IsPassed piece → ArePassed others → ArePassed (piece ++ others)

-- From this offset on the tokens stand in rising order in the text, each spelled as its kind, and only white space,
-- comments and attributes lie before, between and behind them.
pub data StandIn (text : List ℕ) : ℕ → List Token → Type 0 where
  over : (at : ℕ) → ArePassed (drop at text) → StandIn text at []
  next : (at : ℕ) (token : Token) (tokens : List Token) → at ≤ token.at → ArePassed (slice_range text at token.at) → IsSpelled token.kind (bytes_of text token) →
      StandIn text (token.at + token.len) tokens → StandIn text at (token ∷ tokens)
