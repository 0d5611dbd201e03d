-- What stands outside leaves, primitives and skipped lines is determined, and always told.
use Rattle.std.proofs.Common.{◌≡◌, ℕ, zero, suc, ◌≤◌, ◌&&◌, nat_lt, Bool, Option, Some, None, List, [], ◌∷◌, length, refl, sym, ap, ◌∙◌, subst, arith, codes}
use Rattle.std.specs.Str.{bytes_eq}
use Rattle.verilog_lex.specs.Kinds.{bytes_of, is_word}
use Rattle.verilog_lex.specs.declared.kinds.Token.{Token}
use Rattle.verilog_lex.proofs.Bytes.{by_test}
use Rattle.verilog_words.specs.Reserved.{is_skipped}
use Rattle.verilog_words.specs.Outside.{Turn, directive, behind_word, end_of_line, from_offset, at_directive, turn_at, Piece, Outside}
use Rattle.verilog_words.specs.Outside.Turn.{passes, keeps}
use Rattle.verilog_words.specs.Outside.Outside.{done, pass, keep}

behind_word_shorter : (text word : List ℕ) (tokens : List Token) → length (behind_word text word tokens) ≤ length tokens
behind_word_shorter text word [] = omega arith
behind_word_shorter text word (token ∷ tokens) =
    by_test (is_word text word token) (λ is. rw is (omega arith)) (λ other. rw other (let fewer = behind_word_shorter text word tokens in omega arith))

from_offset_shorter : (at : ℕ) (tokens : List Token) → length (from_offset at tokens) ≤ length tokens
from_offset_shorter at [] = omega arith
from_offset_shorter at (token ∷ tokens) =
    by_test (nat_lt token.at at) (λ before. rw before (let fewer = from_offset_shorter at tokens in omega arith)) (λ behind. rw behind (omega arith))

-- what a turn leaves is at most this long
abbrev LeavesAtMost : ℕ → Turn → Type 0
LeavesAtMost most (passes rest) = length rest ≤ most
LeavesAtMost most (keeps leaves) = Unit {0}

directive_shorter : (text : List ℕ) (leaves : Bool) (token : Token) (behind : List Token) (name : Option Token) → LeavesAtMost (length behind) (at_directive text leaves token behind name)
directive_shorter text leaves token behind None = tt
directive_shorter text leaves token behind (Some name) =
    by_test (is_skipped (bytes_of text name))
    (λ is. rw is (from_offset_shorter (end_of_line text token.at) behind))
    (λ other. by_test (bytes_eq (bytes_of text name) (codes "celldefine"))
    (λ is. rw (other, is) tt)
    (λ no_mark. by_test (bytes_eq (bytes_of text name) (codes "endcelldefine"))
    (λ is. rw (other, no_mark, is) tt)
    (λ none. rw (other, no_mark, none) tt)))

turn_shorter : (text : List ℕ) (leaves : Bool) (token : Token) (behind : List Token) (name : Option Token) → LeavesAtMost (length behind) (turn_at text leaves token behind name)
unfolding turn_at
turn_shorter text leaves token behind name =
    by_test (leaves && is_word text (codes "module") token)
    (λ is. rw is (behind_word_shorter text (codes "endmodule") behind))
    (λ no_leaf. by_test (is_word text (codes "primitive") token)
    (λ is. rw (no_leaf, is) (behind_word_shorter text (codes "endprimitive") behind))
    (λ none. rw (no_leaf, none) (directive_shorter text leaves token behind name)))

-- all tokens have their pieces
pub some_pieces : (text : List ℕ) (most : ℕ) (leaves : Bool) (tokens : List Token) → length tokens ≤ most → (pieces : List Piece) × Outside text leaves tokens pieces
some_pieces text most leaves [] room = ([], done leaves)
some_pieces text zero leaves (token ∷ behind) room = absurd (omega arith)
some_pieces text (suc most) leaves (token ∷ behind) room =
    by_turn (λ next tokens fewer. some_pieces text most next tokens fewer) (turn_at text leaves token behind (directive text token behind)) refl
  where
    by_turn : ((next : Bool) (tokens : List Token) → length tokens ≤ most → (pieces : List Piece) × Outside text next tokens pieces) →
        (turn : Turn) → turn_at text leaves token behind (directive text token behind) ≡ turn → (pieces : List Piece) × Outside text leaves (token ∷ behind) pieces
    by_turn others (passes rest) is =
        let fewer : length rest ≤ length behind = subst (LeavesAtMost (length behind)) is (turn_shorter text leaves token behind (directive text token behind)) in
        let found = others leaves rest (omega arith) in
        (found.0, pass leaves token behind rest found.0 is found.1)
    by_turn others (keeps now) is =
        let found = others now behind (omega arith) in
        (record { token = token; name = directive text token behind } ∷ found.0, keep leaves now token behind found.0 is found.1)

-- the pieces of tokens, by what is done at the first
abbrev HasPieces : List ℕ → Bool → Token → List Token → List Piece → Turn → Type 0
HasPieces text leaves token behind pieces (passes rest) = Outside text leaves rest pieces
HasPieces text leaves token behind pieces (keeps now) =
    (others : List Piece) × ((pieces ≡ record { token = token; name = directive text token behind } ∷ others) × Outside text now behind others)

pieces_behind : (text : List ℕ) (leaves : Bool) (token : Token) (behind : List Token) (pieces : List Piece) → Outside text leaves (token ∷ behind) pieces →
    HasPieces text leaves token behind pieces (turn_at text leaves token behind (directive text token behind))
pieces_behind text _ _ _ _ (pass leaves token behind rest pieces e outside) = subst (HasPieces text leaves token behind pieces) (sym e) outside
pieces_behind text _ _ _ _ (keep leaves now token behind others e outside) =
    let all : List Piece = record { token = token; name = directive text token behind } ∷ others in
    subst (HasPieces text leaves token behind all) (sym e) (others, (refl, outside))

none_of_none : (text : List ℕ) (leaves : Bool) (pieces : List Piece) → Outside text leaves [] pieces → [] ≡ pieces
none_of_none text _ _ (done leaves) = refl

pub one_outside : (text : List ℕ) (leaves : Bool) (tokens : List Token) (pieces others : List Piece) → Outside text leaves tokens pieces → Outside text leaves tokens others → pieces ≡ others
one_outside text _ _ _ others (done leaves) second = none_of_none text leaves others second
one_outside text _ _ _ others (pass leaves token behind rest pieces e outside) second =
    one_outside text leaves rest pieces others outside (subst (HasPieces text leaves token behind others) e (pieces_behind text leaves token behind others second))
one_outside text _ _ _ others (keep leaves now token behind pieces e outside) second =
    let found = subst (HasPieces text leaves token behind others) e (pieces_behind text leaves token behind others second) in
    ap (λ more. record { token = token; name = directive text token behind } ∷ more) (one_outside text now behind pieces found.0 outside found.1.1) ∙ sym found.1.0
