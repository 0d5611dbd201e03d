-- A text has one list of tokens, or is refused at one place.
use Rattle.std.proofs.Common.{◌≡◌, ℕ, ◌+◌, List, [], ◌∷◌, drop, Result, Ok, Err, refl, sym, ap, ◌∙◌, subst}
use Rattle.verilog_lex.specs.Fronts.{front_of}
use Rattle.verilog_lex.specs.Tokens.{AreTokens, IsRefused, IsTokensAnswer, UnlessMemory, IsSyntax}
use Rattle.verilog_lex.specs.Tokens.AreTokens.{done, skip, token}
use Rattle.verilog_lex.specs.Tokens.IsRefused.{here, skip as skip_refused, token as token_refused}
use Rattle.verilog_lex.specs.declared.fronts.Front.{Front}
use Rattle.verilog_lex.specs.declared.fronts.Front.TheVariants.{Skipped, Found, Refused}
use Rattle.verilog_lex.specs.declared.kinds.Token.{Token}
use Rattle.verilog_lex.specs.declared.kinds.LexFault.{LexFault}
use Rattle.verilog_lex.specs.declared.kinds.LexFault.TheVariants.{Syntax, NoMemory}

-- what tokens a text has, by what stands at its front
abbrev HasBehind : ℕ → List ℕ → List Token → Front → Type 0
HasBehind at text all (Skipped n) = AreTokens (at + n) (drop n text) all
HasBehind at text all (Found kind n) = (others : List Token) × ((all ≡ record { kind = kind; at = at; len = n } ∷ others) × AreTokens (at + n) (drop n text) others)
HasBehind at text all (Refused n) = ⊥

tokens_behind : (at b : ℕ) (behind : List ℕ) (all : List Token) → AreTokens at (b ∷ behind) all → HasBehind at (b ∷ behind) all (front_of b behind)
tokens_behind _ _ _ _ (skip at b n behind all e rest) = subst (HasBehind at (b ∷ behind) all) (sym e) rest
tokens_behind _ _ _ _ (token at b n kind behind others e rest) =
    let all : List Token = record { kind = kind; at = at; len = n } ∷ others in
    subst (HasBehind at (b ∷ behind) all) (sym e) (others, (refl, rest))

-- where it is refused, in the same way
abbrev RefusedBehind : ℕ → List ℕ → ℕ → Front → Type 0
RefusedBehind at text place (Skipped n) = IsRefused (at + n) (drop n text) place
RefusedBehind at text place (Found kind n) = IsRefused (at + n) (drop n text) place
RefusedBehind at text place (Refused n) = place ≡ at + n

refused_behind : (at b : ℕ) (behind : List ℕ) (place : ℕ) → IsRefused at (b ∷ behind) place → RefusedBehind at (b ∷ behind) place (front_of b behind)
refused_behind _ _ _ _ (here at b n behind e) = subst (RefusedBehind at (b ∷ behind) (at + n)) (sym e) refl
refused_behind _ _ _ _ (skip_refused at b n place behind e rest) = subst (RefusedBehind at (b ∷ behind) place) (sym e) rest
refused_behind _ _ _ _ (token_refused at b n place kind behind e rest) = subst (RefusedBehind at (b ∷ behind) place) (sym e) rest

none_of_nothing : (at : ℕ) (all : List Token) → AreTokens at [] all → [] ≡ all
none_of_nothing _ _ (done at) = refl

pub one_list : (at : ℕ) (text : List ℕ) (all other : List Token) → AreTokens at text all → AreTokens at text other → all ≡ other
one_list _ _ _ other (done at) second = none_of_nothing at other second
one_list _ _ _ other (skip at b n behind all e rest) second =
    one_list (at + n) (drop n (b ∷ behind)) all other rest (subst (HasBehind at (b ∷ behind) other) e (tokens_behind at b behind other second))
one_list _ _ _ other (token at b n kind behind others e rest) second =
    let found = subst (HasBehind at (b ∷ behind) other) e (tokens_behind at b behind other second) in
    ap (λ tokens. record { kind = kind; at = at; len = n } ∷ tokens) (one_list (at + n) (drop n (b ∷ behind)) others found.0 rest found.1.1) ∙ sym found.1.0

pub one_place : (at : ℕ) (text : List ℕ) (place other : ℕ) → IsRefused at text place → IsRefused at text other → place ≡ other
one_place _ _ _ other (here at b n behind e) second = sym (subst (RefusedBehind at (b ∷ behind) other) e (refused_behind at b behind other second))
one_place _ _ _ other (skip_refused at b n place behind e rest) second =
    one_place (at + n) (drop n (b ∷ behind)) place other rest (subst (RefusedBehind at (b ∷ behind) other) e (refused_behind at b behind other second))
one_place _ _ _ other (token_refused at b n place kind behind e rest) second =
    one_place (at + n) (drop n (b ∷ behind)) place other rest (subst (RefusedBehind at (b ∷ behind) other) e (refused_behind at b behind other second))

pub not_both : (at : ℕ) (text : List ℕ) (all : List Token) (place : ℕ) → IsRefused at text place → AreTokens at text all → ⊥
not_both _ _ all _ (here at b n behind e) second = subst (HasBehind at (b ∷ behind) all) e (tokens_behind at b behind all second)
not_both _ _ all _ (skip_refused at b n place behind e rest) second =
    not_both (at + n) (drop n (b ∷ behind)) all place rest (subst (HasBehind at (b ∷ behind) all) e (tokens_behind at b behind all second))
not_both _ _ all _ (token_refused at b n place kind behind e rest) second =
    let found = subst (HasBehind at (b ∷ behind) all) e (tokens_behind at b behind all second) in
    not_both (at + n) (drop n (b ∷ behind)) found.0 place rest found.1.1

-- what is answered, where the text has these tokens, is refused there, or has none
pub answer_found : (text : List ℕ) (all : List Token) (result : Result (List Token) LexFault) → IsTokensAnswer text result → AreTokens 0 text all → UnlessMemory result (result ≡ Ok all)
answer_found text all (Ok other) answer given = ap Ok (one_list 0 text other all answer given)
answer_found text all (Err (Syntax place)) answer given = absurd (not_both 0 text all place answer given)
answer_found text all (Err NoMemory) answer given = tt

pub answer_refused : (text : List ℕ) (place : ℕ) (result : Result (List Token) LexFault) → IsTokensAnswer text result → IsRefused 0 text place → UnlessMemory result (result ≡ Err (Syntax place))
answer_refused text place (Ok other) answer given = absurd (not_both 0 text other place given answer)
answer_refused text place (Err (Syntax other)) answer given = ap (λ at. Err (Syntax at)) (one_place 0 text other place answer given)
answer_refused text place (Err NoMemory) answer given = tt

pub answer_none : (text : List ℕ) (result : Result (List Token) LexFault) → IsTokensAnswer text result → ((all : List Token) → AreTokens 0 text all → ⊥) → UnlessMemory result (IsSyntax result)
answer_none text (Ok other) answer none = absurd (none other answer)
answer_none text (Err (Syntax other)) answer none = tt
answer_none text (Err NoMemory) answer none = tt
