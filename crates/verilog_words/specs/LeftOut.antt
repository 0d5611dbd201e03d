-- The first word that structural Verilog leaves out. In what follows `before` has the tokens before a token that stand
-- outside leaves, primitives and skipped lines, the nearest first.
use Rattle.std.specs.Prelude.{◌≡◌, ℕ, ◌+◌, ◌≤◌, ◌==◌, ◌||◌, ◌&&◌, not, Bool, false, List, [], ◌∷◌, Option, Some, None, codes, if◌then◌else◌}
use Rattle.std.specs.Option.{option_or}
use Rattle.std.specs.Str.{bytes_eq}
use Rattle.verilog_lex.specs.Kinds.{bytes_of, is_name, is_escaped, is_number, is_word, is_sign}
use Rattle.verilog_lex.specs.declared.kinds.Token.{Token}
use Rattle.verilog_words.specs.Reserved.{is_left_out}
use Rattle.verilog_words.specs.Outside.{is_plain, Piece, Outside}
use Rattle.verilog_words.specs.declared.words.Word.{Word}

-- the nearest is this sign
abbrev pub is_behind : List ℕ → ℕ → List Token → Bool
is_behind text sign [] = false
is_behind text sign (nearest ∷ _) = is_sign text sign nearest

-- where the nearest ends
abbrev pub end_of : List Token → ℕ
end_of [] = 0
end_of (nearest ∷ _) = nearest.at + nearest.len

-- b, o, d or h in either case
abbrev pub begins_base : List ℕ → Bool
begins_base [] = false
begins_base (b ∷ _) = b == 98 || b == 66 || b == 111 || b == 79 || b == 100 || b == 68 || b == 104 || b == 72

-- the token is the base of a constant, alone or with digits: a name behind `'`
abbrev pub is_base : List ℕ → List Token → Token → Bool
is_base text before token = is_behind text 39 before && is_name token && begins_base (bytes_of text token)

-- the token is a base without digits
abbrev pub is_bare_base : List ℕ → List Token → Token → Bool
is_bare_base text before token = is_base text before token && token.len == 1

-- the token may be digits of a constant
abbrev pub may_be_digits : List ℕ → Token → Bool
may_be_digits text token = is_name token || is_number token || is_sign text 63 token

-- the token is the base or digits of a constant: digits stand behind a base without digits, or adjoin what is of a constant
abbrev pub is_of_constant : List ℕ → List Token → Token → Bool
is_of_constant text [] token = false
is_of_constant text (nearest ∷ before) token =
    is_base text (nearest ∷ before) token
    || (is_of_constant text before nearest && may_be_digits text token && (is_bare_base text before nearest || nearest.at + nearest.len == token.at))

-- the token is the name of a directive: it stands directly behind a backtick
abbrev pub is_of_directive : List ℕ → List Token → Token → Bool
is_of_directive text before token = is_behind text 96 before && end_of before == token.at

-- the token is an identifier, and neither the name of a directive nor of a constant
abbrev pub is_identifier : List ℕ → List Token → Token → Bool
is_identifier text before token = is_escaped token || (is_plain text token && not (is_of_directive text before token) && not (is_of_constant text before token))

-- the nearest is an identifier, the two nearest are
abbrev pub is_one_identifier : List ℕ → List Token → Bool
is_one_identifier text [] = false
is_one_identifier text (nearest ∷ before) = is_identifier text before nearest

abbrev pub are_two_identifiers : List ℕ → List Token → Bool
are_two_identifiers text [] = false
are_two_identifiers text (nearest ∷ before) = is_identifier text before nearest && is_one_identifier text before

-- the nearest is `module`, the two nearest are `module` and a name
abbrev pub is_behind_module : List ℕ → List Token → Bool
is_behind_module text [] = false
is_behind_module text (nearest ∷ _) = is_word text (codes "module") nearest

abbrev pub is_behind_title : List ℕ → List Token → Bool
is_behind_title text [] = false
is_behind_title text (nearest ∷ before) = (is_escaped nearest || is_plain text nearest) && is_behind_module text before

-- what stands behind these is between the `(` of a module's header and the next `)`
abbrev pub is_in_header : List ℕ → List Token → Bool
is_in_header text [] = false
is_in_header text (nearest ∷ before) = not (is_sign text 41 nearest) && (is_in_header text before || (is_sign text 40 nearest && is_behind_title text before))

-- the token, which begins no directive, is left out: a word, `#`, `[` directly behind two identifiers, or `.` in a module's header
abbrev pub is_token_left_out : List ℕ → List Token → Token → Bool
is_token_left_out text before token =
    (is_name token && is_left_out (bytes_of text token))
    || is_sign text 35 token
    || (is_sign text 91 token && are_two_identifiers text before)
    || (is_sign text 46 token && is_in_header text before)

-- the directives that are neither left out nor skipped
abbrev pub is_mark : List ℕ → Bool
is_mark name = bytes_eq name (codes "celldefine") || bytes_eq name (codes "endcelldefine")

-- the word left out that begins at the token; a directive's is the backtick with its name
abbrev pub word_at : List ℕ → List Token → Token → Option Token → Option Word
word_at text before token (Some name) = if is_mark (bytes_of text name) then None else Some (record { at = token.at; len = name.len + 1 })
word_at text before token None = if is_token_left_out text before token then Some (record { at = token.at; len = token.len }) else None

-- the first word left out of these pieces
abbrev pub first_left_out : List ℕ → List Token → List Piece → Option Word
first_left_out text before [] = None
first_left_out text before (piece ∷ pieces) = option_or (word_at text before piece.token piece.name) (first_left_out text (piece.token ∷ before) pieces)

-- of what stands outside leaves, primitives and skipped lines this is the first word left out, or there is none
abbrev pub IsFirstLeftOut : List ℕ → List Token → Option Word → Type 0
IsFirstLeftOut text tokens word = (pieces : List Piece) × (Outside text false tokens pieces × (first_left_out text [] pieces ≡ word))

-- the word is a piece of a text of this length
pub record IsWordWithin (size : ℕ) (word : Word) : Type 0 where
  pub some : 1 ≤ word.len
  pub end : word.at + word.len ≤ size
