-- Tokens are spelled as their kinds, and only white space, comments and attributes lie between them.
use Rattle.std.proofs.Common.{◌≡◌, ℕ, ◌+◌, ◌<◌, ◌≤◌, ◌==◌, ◌&&◌, nat_lt, true, not, Option, Some, None, List, [], ◌∷◌, ◌++◌, length, take, drop, Result, Ok, Err, IfOk, refl, sym, ap, ◌∙◌, subst, arith, append_assoc}
use Rattle.std.specs.Char.{is_ascii, is_ascii_digit, is_ascii_graphic}
use Rattle.std.specs.List.{prefix_len, list_all, slice_range}
use Rattle.std.proofs.lemmas.Bool.{and_parts, eqb-true}
use Rattle.std.proofs.lemmas.Bool.Decides.{nat_tests}
use Rattle.std.proofs.lemmas.List.{append-nil, length-take, length-take-le, take_all, drop-drop}
use Rattle.std.proofs.lemmas.List.Folds.{length-prefix_len, drop_split}
use Rattle.verilog_lex.specs.Fronts.{is_white, begins_name, is_of_name, is_of_line, is_of_string, begins, before_pair, block_comment, attribute, quoted, escaped, sign_front, front_of}
use Rattle.verilog_lex.specs.Kinds.{bytes_of}
use Rattle.verilog_lex.specs.Spelling.{IsSpelled, IsPassed, ArePassed, StandIn}
use Rattle.verilog_lex.specs.Spelling.IsSpelled.{name, escaped as spelled_escaped, number, quoted as spelled_quoted, sign}
use Rattle.verilog_lex.specs.Spelling.IsPassed.{white, line_comment, block_comment as passed_block, attribute as passed_attribute}
use Rattle.verilog_lex.specs.Spelling.ArePassed.{none, some}
use Rattle.verilog_lex.specs.Spelling.StandIn.{over, next}
use Rattle.verilog_lex.specs.Tokens.{AreTokens, IsTokensAnswer}
use Rattle.verilog_lex.specs.Tokens.AreTokens.{done, skip, token}
use Rattle.verilog_lex.specs.declared.fronts.Front.{Front}
use Rattle.verilog_lex.specs.declared.fronts.Front.TheVariants.{Skipped, Found, Refused}
use Rattle.verilog_lex.specs.declared.kinds.Kind.TheVariants.{Name, Escaped, Number}
use Rattle.verilog_lex.specs.declared.kinds.Token.{Token}
use Rattle.verilog_lex.specs.declared.kinds.LexFault.{LexFault}
use Rattle.verilog_lex.proofs.PairLaws.{pair_ends, pair_kept, pair_within}
use Rattle.verilog_lex.proofs.Bytes.{by_test, take_front, take_sum, slice_is, slice_more, slice_none, all_of_run, all_run, first_is, first_rest}

-- what stands at the front of a text, told by its bytes: what is skipped and what is a token are as they should be
abbrev IsFair : List ℕ → Front → Type 0
IsFair text (Skipped n) = IsPassed (take n text)
IsFair text (Found kind n) = IsSpelled kind (take n text)
IsFair text (Refused n) = Unit {0}

fair_name : (b : ℕ) (behind : List ℕ) → begins_name b ≡ true → IsFair (b ∷ behind) (Found Name (prefix_len is_of_name behind + 1))
fair_name b behind is = rw (take_front (prefix_len is_of_name behind) b behind) (name b (take (prefix_len is_of_name behind) behind) is (all_run is_of_name behind))

fair_white : (b : ℕ) (behind : List ℕ) → is_white b ≡ true → IsFair (b ∷ behind) (Skipped (prefix_len is_white behind + 1))
fair_white b behind is =
    let all : list_all is_white (b ∷ take (prefix_len is_white behind) behind) ≡ true = rw (is, all_run is_white behind) refl in
    rw (take_front (prefix_len is_white behind) b behind) (white b (take (prefix_len is_white behind) behind) all)

fair_number : (b : ℕ) (behind : List ℕ) → is_ascii_digit b ≡ true → IsFair (b ∷ behind) (Found Number (prefix_len is_ascii_digit behind + 1))
fair_number b behind is =
    let all : list_all is_ascii_digit (b ∷ take (prefix_len is_ascii_digit behind) behind) ≡ true = rw (is, all_run is_ascii_digit behind) refl in
    rw (take_front (prefix_len is_ascii_digit behind) b behind) (number b (take (prefix_len is_ascii_digit behind) behind) all)

-- `//`
fair_line : (bs : List ℕ) → IsFair (47 ∷ (47 ∷ bs)) (Skipped (prefix_len is_of_line (47 ∷ bs) + 1))
fair_line bs =
    let e : prefix_len is_of_line (47 ∷ bs) ≡ prefix_len is_of_line bs + 1 = omega arith in
    rw (take_front (prefix_len is_of_line (47 ∷ bs)) 47 (47 ∷ bs), e, take_front (prefix_len is_of_line bs) 47 bs) (line_comment (take (prefix_len is_of_line bs) bs) (all_run is_of_line bs))

-- what stands in front of a pair, and the pair
taken_pair : (a b x y n : ℕ) (bs : List ℕ) → before_pair x y bs ≡ Some n → take (n + 4) (a ∷ (b ∷ bs)) ≡ a ∷ (b ∷ (take n bs ++ x ∷ (y ∷ [])))
taken_pair a b x y n bs found =
    let e : n + 4 ≡ (n + 3) + 1 = omega arith in
    let f : n + 3 ≡ (n + 2) + 1 = omega arith in
    rw (e, take_front (n + 3) a (b ∷ bs), f, take_front (n + 2) b bs, pair_ends x y n bs found) refl

pair_told : (x y n : ℕ) (bs : List ℕ) → before_pair x y bs ≡ Some n → before_pair x y (take n bs ++ x ∷ (y ∷ [])) ≡ Some (length (take n bs))
pair_told x y n bs found =
    let room = pair_within x y n bs found in
    let long : length (take n bs) ≡ n = length-take-le n bs (omega arith) in
    ap (before_pair x y) (sym (pair_ends x y n bs found)) ∙ pair_kept x y n bs found ∙ ap Some (sym long)

fair_block : (bs : List ℕ) (o : Option ℕ) → before_pair 42 47 bs ≡ o → IsFair (47 ∷ (42 ∷ bs)) (block_comment o)
fair_block bs None found = tt
fair_block bs (Some n) found = rw (taken_pair 47 42 42 47 n bs found) (passed_block (take n bs) (pair_told 42 47 n bs found))

fair_attribute : (bs : List ℕ) (o : Option ℕ) → before_pair 42 41 bs ≡ o → IsFair (40 ∷ (42 ∷ bs)) (attribute bs o)
fair_attribute bs None found = tt
fair_attribute bs (Some n) found =
    by_test (nat_lt (prefix_len is_ascii (take n bs)) n)
    (λ high. rw high tt)
    (λ low.
    let reaches : n ≤ prefix_len is_ascii (take n bs) = grind (arith, nat_tests) in
    let all : list_all is_ascii (take n (take n bs)) ≡ true = all_of_run is_ascii n (take n bs) reaches in
    let same : take n (take n bs) ≡ take n bs = take_all n (take n bs) (let e = length-take n bs in omega arith) in
    rw low (rw (taken_pair 40 42 42 41 n bs found) (passed_attribute (take n bs) (rw same at all) (pair_told 42 41 n bs found))))

-- a double quote
fair_quoted : (behind : List ℕ) → IsFair (34 ∷ behind) (quoted behind)
fair_quoted behind =
    by_test (begins (λ b. b == 34) (drop (prefix_len is_of_string behind) behind))
    (λ closes.
    let n = prefix_len is_of_string behind in
    let e : n + 2 ≡ (n + 1) + 1 = omega arith in
    rw closes (rw (e, take_front (n + 1) 34 behind, take_sum n 1 behind, first_is 34 (drop n behind) closes) (spelled_quoted (take n behind) (all_run is_of_string behind))))
    (λ unclosed. rw unclosed tt)

-- a backslash
some_escaped : (bs : List ℕ) → 0 < length bs → list_all is_ascii_graphic bs ≡ true → IsSpelled Escaped (92 ∷ bs)
some_escaped [] long all = absurd (omega arith)
some_escaped (b ∷ bs) long all = spelled_escaped b bs all

fair_escaped : (behind : List ℕ) → IsFair (92 ∷ behind) (escaped behind)
fair_escaped behind =
    let n = prefix_len is_ascii_graphic behind in
    by_test (nat_lt 0 n && begins is_white (drop n behind))
    (λ ends.
    let more : nat_lt 0 n ≡ true = (and_parts (nat_lt 0 n) (begins is_white (drop n behind)) ends).0 in
    let long = length-prefix_len is_ascii_graphic behind in
    let room : 0 < length (take n behind) = grind (arith, nat_tests) in
    rw ends (rw (take_front n 92 behind) (some_escaped (take n behind) room (all_run is_ascii_graphic behind))))
    (λ fails. rw fails (sign 92 refl))

-- what begins with a sign
fair_sign : (b : ℕ) (behind : List ℕ) → IsFair (b ∷ behind) (sign_front b behind)
unfolding sign_front
fair_sign b behind =
    by_test (b == 47 && begins (λ c. c == 47) behind)
    (λ is. rw is (
    let parts = and_parts (b == 47) (begins (λ c. c == 47) behind) is in
    let P : ℕ → Type 0 = λ a. IsFair (a ∷ behind) (Skipped (prefix_len is_of_line behind + 1)) in
    let Q : List ℕ → Type 0 = λ bs. IsFair (47 ∷ bs) (Skipped (prefix_len is_of_line bs + 1)) in
    subst P (sym (eqb-true b 47 parts.0)) (subst Q (sym (first_rest 47 behind parts.1)) (fair_line (drop 1 behind)))))
    (λ no_line. by_test (b == 47 && begins (λ c. c == 42) behind)
    (λ is. rw (no_line, is) (
    let parts = and_parts (b == 47) (begins (λ c. c == 42) behind) is in
    let P : ℕ → Type 0 = λ a. IsFair (a ∷ behind) (block_comment (before_pair 42 47 (drop 1 behind))) in
    let Q : List ℕ → Type 0 = λ bs. IsFair (47 ∷ bs) (block_comment (before_pair 42 47 (drop 1 behind))) in
    subst P (sym (eqb-true b 47 parts.0)) (subst Q (sym (first_rest 42 behind parts.1)) (fair_block (drop 1 behind) (before_pair 42 47 (drop 1 behind)) refl))))
    (λ no_block. by_test (b == 40 && begins (λ c. c == 42) behind && not (begins (λ c. c == 41) (drop 1 behind)))
    (λ is. rw (no_line, no_block, is) (
    let outer = and_parts (b == 40 && begins (λ c. c == 42) behind) (not (begins (λ c. c == 41) (drop 1 behind))) is in
    let parts = and_parts (b == 40) (begins (λ c. c == 42) behind) outer.0 in
    let P : ℕ → Type 0 = λ a. IsFair (a ∷ behind) (attribute (drop 1 behind) (before_pair 42 41 (drop 1 behind))) in
    let Q : List ℕ → Type 0 = λ bs. IsFair (40 ∷ bs) (attribute (drop 1 behind) (before_pair 42 41 (drop 1 behind))) in
    subst P (sym (eqb-true b 40 parts.0)) (subst Q (sym (first_rest 42 behind parts.1)) (fair_attribute (drop 1 behind) (before_pair 42 41 (drop 1 behind)) refl))))
    (λ no_attribute. by_test (b == 34)
    (λ is. rw (no_line, no_block, no_attribute, is) (
    let P : ℕ → Type 0 = λ a. IsFair (a ∷ behind) (quoted behind) in
    subst P (sym (eqb-true b 34 is)) (fair_quoted behind)))
    (λ no_string. by_test (b == 92)
    (λ is. rw (no_line, no_block, no_attribute, no_string, is) (
    let P : ℕ → Type 0 = λ a. IsFair (a ∷ behind) (escaped behind) in
    subst P (sym (eqb-true b 92 is)) (fair_escaped behind)))
    (λ no_backslash. by_test (is_ascii_graphic b)
    (λ is. rw (no_line, no_block, no_attribute, no_string, no_backslash, is) (sign b is))
    (λ none. rw (no_line, no_block, no_attribute, no_string, no_backslash, none) tt))))))

fair_front : (b : ℕ) (behind : List ℕ) → IsFair (b ∷ behind) (front_of b behind)
unfolding front_of
fair_front b behind =
    by_test (begins_name b)
    (λ is. rw is (fair_name b behind is))
    (λ no_name. by_test (is_white b)
    (λ is. rw (no_name, is) (fair_white b behind is))
    (λ no_white. by_test (is_ascii_digit b)
    (λ is. rw (no_name, no_white, is) (fair_number b behind is))
    (λ no_digit. rw (no_name, no_white, no_digit) (fair_sign b behind))))

-- one more behind what is passed
passed_more : (all piece : List ℕ) → ArePassed all → IsPassed piece → ArePassed (all ++ piece)
passed_more _ piece none passed = (let P : List ℕ → Type 0 = λ bs. ArePassed bs in subst P (append-nil piece) (some piece [] passed none))
passed_more _ piece (some first others is are) passed =
    (let P : List ℕ → Type 0 = λ bs. ArePassed bs in subst P (sym (append_assoc first others piece)) (some first (others ++ piece) is (passed_more others piece are passed)))

-- the tokens of what is left stand in the text, from where what was passed begins
stands : (text : List ℕ) (from at : ℕ) (left : List ℕ) (all : List Token) → AreTokens at left all → left ≡ drop at text → from ≤ at → ArePassed (slice_range text from at) → StandIn text from all
stands text from _ _ _ (done at) left order passed =
    let P : List ℕ → Type 0 = λ bs. ArePassed bs in
    let e : drop from text ≡ slice_range text from at = drop_split text from at order ∙ ap (λ bs. slice_range text from at ++ bs) (sym left) ∙ append-nil (slice_range text from at) in
    over from (subst P (sym e) passed)
stands text from _ _ _ (skip at b n behind all e rest) left order passed =
    let P : List ℕ → Type 0 = λ bs. ArePassed bs in
    let piece : IsPassed (take n (b ∷ behind)) = subst (IsFair (b ∷ behind)) e (fair_front b behind) in
    let more : slice_range text from (at + n) ≡ slice_range text from at ++ take n (b ∷ behind) = slice_more text from at n order ∙ ap (λ bs. slice_range text from at ++ take n bs) (sym left) in
    stands text from (at + n) (drop n (b ∷ behind)) all rest (ap (drop n) left ∙ drop-drop n at text) (omega arith) (subst P (sym more) (passed_more (slice_range text from at) (take n (b ∷ behind)) passed piece))
stands text from _ _ _ (token at b n kind behind others e rest) left order passed =
    let P : List ℕ → Type 0 = λ bs. ArePassed bs in
    let one : Token = record { kind = kind; at = at; len = n } in
    let piece : IsSpelled kind (take n (b ∷ behind)) = subst (IsFair (b ∷ behind)) e (fair_front b behind) in
    let bytes : bytes_of text one ≡ take n (b ∷ behind) = slice_is text at n ∙ ap (take n) (sym left) in
    let Q : List ℕ → Type 0 = λ bs. IsSpelled kind bs in
    next from one others order passed (subst Q (sym bytes) piece)
    (stands text (at + n) (at + n) (drop n (b ∷ behind)) others rest (ap (drop n) left ∙ drop-drop n at text) (omega arith) (subst P (sym (slice_none text (at + n))) none))

pub answer_stands : (text : List ℕ) (result : Result (List Token) LexFault) → IsTokensAnswer text result → IfOk result (StandIn text 0)
answer_stands text (Ok all) answer = stands text 0 0 text all answer refl (omega arith) none
answer_stands text (Err fault) answer = tt
