-- The tokens that stand outside leaves, primitives and skipped lines.
use Rattle.std.specs.Prelude.{◌≡◌, ℕ, ◌+◌, ◌==◌, ◌&&◌, not, nat_lt, Bool, true, false, List, [], ◌∷◌, drop, Option, Some, None, codes, if◌then◌else◌}
use Rattle.std.specs.List.{prefix_len}
use Rattle.std.specs.Str.{bytes_eq}
use Rattle.verilog_lex.specs.Fronts.{is_of_line}
use Rattle.verilog_lex.specs.Kinds.{bytes_of, is_name, is_word, is_sign}
use Rattle.verilog_lex.specs.declared.kinds.Token.{Token}
use Rattle.verilog_words.specs.Reserved.{is_reserved, is_skipped}

-- an identifier that isn't escaped
abbrev pub is_plain : List ℕ → Token → Bool
is_plain text token = is_name token && not (is_reserved (bytes_of text token))

-- the name of the directive that begins at a token, behind which these stand: the token is a backtick, and the name is an
-- identifier directly behind it
abbrev pub directive : List ℕ → Token → List Token → Option Token
directive text token [] = None
directive text token (name ∷ _) = if is_sign text 96 token && token.at + 1 == name.at && is_plain text name then Some name else None

-- the tokens behind the first that is this word; none where none is
abbrev pub behind_word : List ℕ → List ℕ → List Token → List Token
behind_word text word [] = []
behind_word text word (token ∷ tokens) = if is_word text word token then tokens else behind_word text word tokens

-- where the line ends on which this offset stands
abbrev pub end_of_line : List ℕ → ℕ → ℕ
end_of_line text at = at + prefix_len is_of_line (drop at text)

-- the tokens from the first on that begins at this offset or behind it
abbrev pub from_offset : ℕ → List Token → List Token
from_offset at [] = []
from_offset at (token ∷ tokens) = if nat_lt token.at at then from_offset at tokens else token ∷ tokens

-- what is done at a token: a leaf, a primitive or a skipped line is passed, behind which these tokens stand, or the token
-- stands outside, and behind it modules are leaves or not
pub data Turn : Type 0 where
  passes : List Token → Turn
  keeps : Bool → Turn

abbrev pub at_directive : List ℕ → Bool → Token → List Token → Option Token → Turn
at_directive text leaves token behind None = keeps leaves
at_directive text leaves token behind (Some name) =
    if is_skipped (bytes_of text name) then passes (from_offset (end_of_line text token.at) behind)
    else (if bytes_eq (bytes_of text name) (codes "celldefine") then keeps true
    else (if bytes_eq (bytes_of text name) (codes "endcelldefine") then keeps false else keeps leaves))

-- A leaf goes from a `module` under `` `celldefine `` to the next `endmodule`, a primitive to the next `endprimitive`, either to the
-- end of the text where there is none, and a skipped line from its directive to the next line feed.
unfoldable pub turn_at : List ℕ → Bool → Token → List Token → Option Token → Turn
turn_at text leaves token behind name =
    if leaves && is_word text (codes "module") token then passes (behind_word text (codes "endmodule") behind)
    else (if is_word text (codes "primitive") token then passes (behind_word text (codes "endprimitive") behind) else at_directive text leaves token behind name)

-- a token that stands outside, with the name of the directive that begins at it, if one does
pub record Piece : Type 0 where
  pub token : Token
  pub name : Option Token

-- of these tokens, the last ones stand outside; the test says whether modules are leaves at first
pub data Outside (text : List ℕ) : Bool → List Token → List Piece → Type 0 where
  done : (leaves : Bool) → Outside text leaves [] []
  pass : (leaves : Bool) (token : Token) (behind rest : List Token) (pieces : List Piece) → turn_at text leaves token behind (directive text token behind) ≡ passes rest →
      Outside text leaves rest pieces → Outside text leaves (token ∷ behind) pieces
  keep : (leaves now : Bool) (token : Token) (behind : List Token) (pieces : List Piece) → turn_at text leaves token behind (directive text token behind) ≡ keeps now →
      Outside text now behind pieces → Outside text leaves (token ∷ behind) (record { token = token; name = directive text token behind } ∷ pieces)
