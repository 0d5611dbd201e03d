-- What is kept of the tokens before one, and what follows from it for the next.
use Rattle.std.specs.Prelude.{◌≡◌, ℕ, ◌+◌, ◌==◌, ◌||◌, ◌&&◌, not, Bool, false, List, [], ◌∷◌, length, Option, Some, None, codes, if◌then◌else◌}
use Rattle.std.specs.List.{All}
use Rattle.verilog_lex.specs.Kinds.{bytes_of, is_name, is_escaped, is_word, is_sign}
use Rattle.verilog_lex.specs.Tokens.{IsWithin}
use Rattle.verilog_lex.specs.declared.kinds.Token.{Token}
use Rattle.verilog_words.specs.Reserved.{is_left_out}
use Rattle.verilog_words.specs.Outside.{is_plain, Piece, Outside}
use Rattle.verilog_words.specs.LeftOut.{is_behind, end_of, begins_base, is_bare_base, may_be_digits, is_of_constant, is_one_identifier, are_two_identifiers, is_behind_module, is_behind_title, is_in_header, is_mark, first_left_out}
use Rattle.verilog_words.specs.declared.neighbours.Before.{Before}
use Rattle.verilog_words.specs.declared.words.Word.{Word}

abbrev pub nearest_of_constant : List ℕ → List Token → Bool
nearest_of_constant text [] = false
nearest_of_constant text (nearest ∷ before) = is_of_constant text before nearest

abbrev pub nearest_bare_base : List ℕ → List Token → Bool
nearest_bare_base text [] = false
nearest_bare_base text (nearest ∷ before) = is_bare_base text before nearest

-- what is kept of these tokens, the nearest first
abbrev pub kept : List ℕ → List Token → Before
kept text before = record {
  backtick = is_behind text 96 before;
  quote = is_behind text 39 before;
  end = end_of before;
  of_constant = nearest_of_constant text before;
  bare_base = nearest_bare_base text before;
  one = is_one_identifier text before;
  two = are_two_identifiers text before;
  module_word = is_behind_module text before;
  title = is_behind_title text before;
  header = is_in_header text before;
}

abbrev pub base_by : List ℕ → Before → Token → Bool
base_by text before token = before.quote && is_name token && begins_base (bytes_of text token)

abbrev pub of_constant_by : List ℕ → Before → Token → Bool
of_constant_by text before token = base_by text before token || (before.of_constant && may_be_digits text token && (before.bare_base || before.end == token.at))

abbrev pub identifier_by : List ℕ → Before → Token → Bool
identifier_by text before token = is_escaped token || (is_plain text token && not (before.backtick && before.end == token.at) && not (of_constant_by text before token))

abbrev pub title_by : List ℕ → Before → Token → Bool
title_by text before token = (is_escaped token || is_plain text token) && before.module_word

abbrev pub header_by : List ℕ → Before → Token → Bool
header_by text before token = not (is_sign text 41 token) && (before.header || (is_sign text 40 token && before.title))

-- what is kept one token further
abbrev pub kept_by : List ℕ → Before → Token → Before
kept_by text before token = record {
  backtick = is_sign text 96 token;
  quote = is_sign text 39 token;
  end = token.at + token.len;
  of_constant = of_constant_by text before token;
  bare_base = base_by text before token && token.len == 1;
  one = identifier_by text before token;
  two = identifier_by text before token && before.one;
  module_word = is_word text (codes "module") token;
  title = title_by text before token;
  header = header_by text before token;
}

abbrev pub left_out_by : List ℕ → Before → Token → Bool
left_out_by text before token =
    (is_name token && is_left_out (bytes_of text token))
    || is_sign text 35 token
    || (is_sign text 91 token && before.two)
    || (is_sign text 46 token && before.header)

abbrev pub word_by : List ℕ → Before → Token → Option Token → Option Word
word_by text before token (Some name) = if is_mark (bytes_of text name) then None else Some (record { at = token.at; len = name.len + 1 })
word_by text before token None = if left_out_by text before token then Some (record { at = token.at; len = token.len }) else None

-- What is known while the first word left out is sought: behind these tokens, of which this is kept, the first word left
-- out of the rest is that of all.
pub record IsSought (text : List ℕ) (tokens : List Token) (leaves : Bool) (rest : List Token) (before : Before) : Type 0 where
  pub given : List Token
  pub known : before ≡ kept text given
  pub goes_on : (pieces : List Piece) → Outside text leaves rest pieces →
      (all : List Piece) × (Outside text false tokens all × (first_left_out text [] all ≡ first_left_out text given pieces))
  pub within : All (IsWithin (length text)) rest
