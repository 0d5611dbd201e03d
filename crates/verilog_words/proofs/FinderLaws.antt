-- One token further in search of the first word left out.
use Rattle.std.proofs.Common.{◌≡◌, ℕ, Bool, false, Option, Some, None, List, [], ◌∷◌, length, refl, sym, ap, ◌∙◌, subst, arith}
use Rattle.std.specs.List.{All}
use Rattle.std.specs.Option.{option_or}
use Rattle.std.proofs.lemmas.List.Elements.{All-drop}
use Rattle.verilog_lex.specs.Tokens.{IsWithin}
use Rattle.verilog_lex.specs.declared.kinds.Token.{Token}
use Rattle.verilog_words.specs.LeftOut.{word_at, first_left_out, IsFirstLeftOut}
use Rattle.verilog_words.specs.Neighbours.{kept, kept_by, word_by, IsSought}
use Rattle.verilog_words.specs.Outside.{directive, turn_at, Piece, Outside}
use Rattle.verilog_words.specs.Outside.Turn.{passes, keeps}
use Rattle.verilog_words.specs.Outside.Outside.{done, pass, keep}
use Rattle.verilog_words.specs.declared.neighbours.Before.{Before}
use Rattle.verilog_words.specs.declared.words.Word.{Word}
use Rattle.verilog_words.proofs.OutsideLaws.{some_pieces, one_outside}

-- what is kept tells the word that begins at a token, and what is kept behind it
word_told : (text : List ℕ) (given : List Token) (token : Token) (name : Option Token) → word_by text (kept text given) token name ≡ word_at text given token name
word_told text given token None = refl
word_told text given token (Some name) = refl

kept_told : (text : List ℕ) (given : List Token) (token : Token) → kept_by text (kept text given) token ≡ kept text (token ∷ given)
kept_told text [] token = refl
kept_told text (nearest ∷ before) token = refl

pub all_behind : (size : ℕ) (token : Token) (behind rest : List Token) → rest ≡ token ∷ behind → All (IsWithin size) rest → All (IsWithin size) behind
all_behind size token behind rest rest_is within =
    let P : List Token → Type 0 = λ ts. All (IsWithin size) ts in
    All-drop (IsWithin size) 1 (token ∷ behind) (subst P rest_is within)

pub sought_passed : (text : List ℕ) (tokens : List Token) (leaves : Bool) (token : Token) (behind rest left : List Token) (name : Option Token) (before : Before) →
    rest ≡ token ∷ behind → name ≡ directive text token behind → passes left ≡ turn_at text leaves token behind name → All (IsWithin (length text)) left →
    IsSought text tokens leaves rest before → IsSought text tokens leaves left before
sought_passed text tokens leaves token behind rest left name before rest_is name_is turn within sought =
    let O : List Piece → List Token → Type 0 = λ pieces ts. Outside text leaves ts pieces in
    let e : turn_at text leaves token behind (directive text token behind) ≡ passes left = ap (turn_at text leaves token behind) (sym name_is) ∙ sym turn in
    record {
      given = sought.given;
      known = sought.known;
      goes_on = λ pieces outside. sought.goes_on pieces (subst (O pieces) (sym rest_is) (pass leaves token behind left pieces e outside));
      within = within;
    }

-- the pieces of the rest, with the token in front
with_token : (text : List ℕ) (tokens : List Token) (leaves now : Bool) (token : Token) (behind rest : List Token) (name : Option Token) (before : Before) (pieces : List Piece) →
    rest ≡ token ∷ behind → name ≡ directive text token behind → keeps now ≡ turn_at text leaves token behind name →
    (sought : IsSought text tokens leaves rest before) → Outside text now behind pieces →
    (all : List Piece) × (Outside text false tokens all × (first_left_out text [] all ≡ option_or (word_by text before token name) (first_left_out text (token ∷ sought.given) pieces)))
with_token text tokens leaves now token behind rest name before pieces rest_is name_is turn sought outside =
    let O : List Piece → List Token → Type 0 = λ ps ts. Outside text leaves ts ps in
    let e : turn_at text leaves token behind (directive text token behind) ≡ keeps now = ap (turn_at text leaves token behind) (sym name_is) ∙ sym turn in
    let all : List Piece = record { token = token; name = directive text token behind } ∷ pieces in
    let whole = sought.goes_on all (subst (O all) (sym rest_is) (keep leaves now token behind pieces e outside)) in
    let word : word_at text sought.given token (directive text token behind) ≡ word_by text before token name =
    ap (word_at text sought.given token) (sym name_is) ∙ sym (word_told text sought.given token name) ∙ ap (λ b. word_by text b token name) (sym sought.known) in
    (whole.0, (whole.1.0, whole.1.1 ∙ ap (λ w. option_or w (first_left_out text (token ∷ sought.given) pieces)) word))

pub sought_kept : (text : List ℕ) (tokens : List Token) (leaves now : Bool) (token : Token) (behind rest : List Token) (name : Option Token) (before next : Before) →
    rest ≡ token ∷ behind → name ≡ directive text token behind → keeps now ≡ turn_at text leaves token behind name → None ≡ word_by text before token name →
    next ≡ kept_by text before token → All (IsWithin (length text)) behind → IsSought text tokens leaves rest before → IsSought text tokens now behind next
sought_kept text tokens leaves now token behind rest name before next rest_is name_is turn none next_is within sought = record {
  given = token ∷ sought.given;
  known = next_is ∙ ap (λ b. kept_by text b token) sought.known ∙ kept_told text sought.given token;
  goes_on = λ pieces outside.
      let whole = with_token text tokens leaves now token behind rest name before pieces rest_is name_is turn sought outside in
      (whole.0, (whole.1.0, whole.1.1 ∙ ap (λ w. option_or w (first_left_out text (token ∷ sought.given) pieces)) (sym none)));
  within = within;
}

pub sought_found : (text : List ℕ) (tokens : List Token) (leaves now : Bool) (token : Token) (behind rest : List Token) (name : Option Token) (before : Before) (word : Word) →
    rest ≡ token ∷ behind → name ≡ directive text token behind → keeps now ≡ turn_at text leaves token behind name → Some word ≡ word_by text before token name →
    IsSought text tokens leaves rest before → IsFirstLeftOut text tokens (Some word)
sought_found text tokens leaves now token behind rest name before word rest_is name_is turn found sought =
    let others = some_pieces text (length behind) now behind (omega arith) in
    let whole = with_token text tokens leaves now token behind rest name before others.0 rest_is name_is turn sought others.1 in
    (whole.0, (whole.1.0, whole.1.1 ∙ ap (λ w. option_or w (first_left_out text (token ∷ sought.given) others.0)) (sym found)))

pub sought_none : (text : List ℕ) (tokens : List Token) (leaves : Bool) (rest : List Token) (before : Before) → rest ≡ [] → IsSought text tokens leaves rest before →
    IsFirstLeftOut text tokens None
sought_none text tokens leaves rest before rest_is sought =
    let O : List Token → Type 0 = λ ts. Outside text leaves ts [] in
    sought.goes_on [] (subst O (sym rest_is) (done leaves))

pub sought_at_first : (text : List ℕ) (tokens : List Token) (before : Before) → before ≡ kept text [] → All (IsWithin (length text)) tokens → IsSought text tokens false tokens before
sought_at_first text tokens before known within = record {
  given = [];
  known = known;
  goes_on = λ pieces outside. (pieces, (outside, refl));
  within = within;
}

pub one_first : (text : List ℕ) (tokens : List Token) (word other : Option Word) → IsFirstLeftOut text tokens word → IsFirstLeftOut text tokens other → word ≡ other
one_first text tokens word other first second =
    sym first.1.1 ∙ ap (first_left_out text []) (one_outside text false tokens first.0 second.0 first.1.0 second.1.0) ∙ second.1.1
