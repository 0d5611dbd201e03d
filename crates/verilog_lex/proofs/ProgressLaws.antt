-- One step further along a text.
use Rattle.std.proofs.Common.{◌≡◌, ℕ, ◌+◌, ◌-◌, ◌≤◌, List, [], ◌∷◌, ◌++◌, length, drop, sym, ap, ◌∙◌, subst, arith, append_assoc, length-append, length-drop}
use Rattle.std.specs.Char.{is_ascii_graphic}
use Rattle.std.specs.List.{prefix_len}
use Rattle.std.proofs.lemmas.List.{append-nil, drop-drop}
use Rattle.std.proofs.lemmas.List.Elements.{All-append, All-cons, All-nil}
use Rattle.verilog_lex.proofs.Bytes.{run_behind}
use Rattle.verilog_lex.specs.Fronts.{front_of}
use Rattle.verilog_lex.specs.Progress.{IsKnown, IsSoFar}
use Rattle.verilog_lex.specs.Tokens.{AreTokens, IsRefused, IsWithin}
use Rattle.verilog_lex.specs.Tokens.AreTokens.{done, skip, token}
use Rattle.verilog_lex.specs.Tokens.IsRefused.{here, skip as skip_refused, token as token_refused}
use Rattle.verilog_lex.specs.declared.fronts.Front.TheVariants.{Skipped, Found, Refused}
use Rattle.verilog_lex.specs.declared.kinds.Kind.{Kind}
use Rattle.verilog_lex.specs.declared.kinds.Token.{Token}

-- what is left behind n bytes
behind_front : (text : List ℕ) (at b n : ℕ) (behind : List ℕ) → drop at text ≡ b ∷ behind → drop (at + n) text ≡ drop n (b ∷ behind)
behind_front text at b n behind rest = sym (drop-drop n at text) ∙ ap (drop n) rest

room : (text : List ℕ) (at b : ℕ) (behind : List ℕ) → drop at text ≡ b ∷ behind → length behind + 1 + at ≤ length text
room text at b behind rest = (let e = length-drop at text in let f = ap length rest in omega arith)

-- printable bytes that are known at the front are known further on
pub known_on : (text : List ℕ) (at b n p : ℕ) (behind : List ℕ) → drop at text ≡ b ∷ behind → IsKnown p (b ∷ behind) → IsKnown (p - n) (drop (at + n) text)
known_on text at b n p behind rest known more =
    let is : p ≡ prefix_len is_ascii_graphic (b ∷ behind) = known (omega arith) in
    let left : prefix_len is_ascii_graphic (drop n (b ∷ behind)) ≡ prefix_len is_ascii_graphic (b ∷ behind) - n = run_behind is_ascii_graphic n (b ∷ behind) (omega arith) in
    ap (λ k. k - n) is ∙ sym left ∙ ap (prefix_len is_ascii_graphic) (sym (behind_front text at b n behind rest))

pub known_here : (text : List ℕ) (at b p : ℕ) (behind : List ℕ) → drop at text ≡ b ∷ behind → IsKnown p (drop at text) → IsKnown p (b ∷ behind)
known_here text at b p behind rest known = (let P : List ℕ → Type 0 = λ left. IsKnown p left in subst P rest known)

pub skipped_on : (text : List ℕ) (found : List Token) (at b n : ℕ) (behind : List ℕ) → drop at text ≡ b ∷ behind → Skipped n ≡ front_of b behind →
    (1 ≤ n) × (n ≤ length behind + 1) → IsSoFar text found at → IsSoFar text found (at + n)
skipped_on text found at b n behind rest front within so_far =
    let more = room text at b behind rest in
    let low = within.0 in
    let high = within.1 in
    let known = so_far.size in
    let T : (tokens : List Token) → List ℕ → Type 0 = λ tokens left. AreTokens at left tokens in
    let U : (tokens : List Token) → List ℕ → Type 0 = λ tokens left. AreTokens (at + n) left tokens in
    let R : (place : ℕ) → List ℕ → Type 0 = λ place left. IsRefused at left place in
    let S : (place : ℕ) → List ℕ → Type 0 = λ place left. IsRefused (at + n) left place in
    record {
      goes_on = λ tokens given. so_far.goes_on tokens (subst (T tokens) (sym rest) (skip at b n behind tokens (sym front) (subst (U tokens) (behind_front text at b n behind rest) given)));
      refuses = λ place given. so_far.refuses place (subst (R place) (sym rest) (skip_refused at b n place behind (sym front) (subst (S place) (behind_front text at b n behind rest) given)));
      within = omega arith;
      size = omega arith;
      each = so_far.each;
    }

pub found_on : (text : List ℕ) (found : List Token) (at b n : ℕ) (kind : Kind) (behind : List ℕ) → drop at text ≡ b ∷ behind → Found kind n ≡ front_of b behind →
    (1 ≤ n) × (n ≤ length behind + 1) → IsSoFar text found at → IsSoFar text (found ++ record { kind = kind; at = at; len = n } ∷ []) (at + n)
found_on text found at b n kind behind rest front within so_far =
    let more = room text at b behind rest in
    let low = within.0 in
    let high = within.1 in
    let known = so_far.size in
    let one : Token = record { kind = kind; at = at; len = n } in
    let T : (tokens : List Token) → List ℕ → Type 0 = λ tokens left. AreTokens at left tokens in
    let U : (tokens : List Token) → List ℕ → Type 0 = λ tokens left. AreTokens (at + n) left tokens in
    let R : (place : ℕ) → List ℕ → Type 0 = λ place left. IsRefused at left place in
    let S : (place : ℕ) → List ℕ → Type 0 = λ place left. IsRefused (at + n) left place in
    let A : List Token → Type 0 = λ all. AreTokens 0 text all in
    let end : at + n ≤ length text = omega arith in
    let fits : IsWithin (length text) one = record { some = low; end = end } in
    record {
      goes_on = λ tokens given. subst A (sym (append_assoc found (one ∷ []) tokens))
          (so_far.goes_on (one ∷ tokens) (subst (T (one ∷ tokens)) (sym rest) (token at b n kind behind tokens (sym front) (subst (U tokens) (behind_front text at b n behind rest) given))));
      refuses = λ place given. so_far.refuses place (subst (R place) (sym rest) (token_refused at b n place kind behind (sym front) (subst (S place) (behind_front text at b n behind rest) given)));
      within = omega arith;
      size = simp length-append (omega arith);
      each = All-append (IsWithin (length text)) found (one ∷ []) so_far.each (All-cons (IsWithin (length text)) one [] fits (All-nil (IsWithin (length text))));
    }

pub refused_here : (text : List ℕ) (found : List Token) (at b n : ℕ) (behind : List ℕ) → drop at text ≡ b ∷ behind → Refused n ≡ front_of b behind → IsSoFar text found at → IsRefused 0 text (at + n)
refused_here text found at b n behind rest front so_far =
    let R : List ℕ → Type 0 = λ left. IsRefused at left (at + n) in
    so_far.refuses (at + n) (subst R (sym rest) (here at b n behind (sym front)))

pub all_found : (text : List ℕ) (found : List Token) (at : ℕ) → drop at text ≡ [] → IsSoFar text found at → AreTokens 0 text found
all_found text found at rest so_far =
    let T : List ℕ → Type 0 = λ left. AreTokens at left [] in
    let A : List Token → Type 0 = λ all. AreTokens 0 text all in
    subst A (append-nil found) (so_far.goes_on [] (subst T (sym rest) (done at)))

pub none_so_far : (text : List ℕ) → IsSoFar text [] 0
none_so_far text = record {
  goes_on = λ tokens given. given;
  refuses = λ place given. given;
  within = omega arith;
  size = omega arith;
  each = All-nil (IsWithin (length text));
}
