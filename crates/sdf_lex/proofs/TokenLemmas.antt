-- Tokens, stretch by stretch.
use Rattle.std.proofs.Common.{◌≡◌, ℕ, zero, suc, ◌+◌, ◌<◌, ◌≤◌, ◌==◌, ◌||◌, false, Option, Some, None, List, [], ◌∷◌, ◌++◌, length, take, drop, refl, sym, ap, ◌∙◌, arith}
use Rattle.std.proofs.lemmas.List.{length-drop, length-append}
use Rattle.std.specs.Char.{is_ascii_graphic}
use Rattle.text_scan.proofs.Binds.{by_test, by_option}
use Rattle.line_text.specs.Parts.{Part}
use Rattle.sdf_lex.specs.Words.{is_white, word_length, string_length, comment_length}
use Rattle.sdf_lex.specs.Tokens.{Token, Stretch, begins, string_stretch, comment_stretch, sign_stretch, word_stretch, stretch, told, tokens_from, tokens}
use Rattle.sdf_lex.specs.Texts.{AreTokens}
use Rattle.sdf_lex.specs.Texts.AreTokens.{none, passed, token}
use Rattle.sdf_lex.specs.declared.lexemes.Kind.{Kind}

some_more : (n : ℕ) → (n == 0) ≡ false → 0 < n
some_more zero other = absurd (cc)
some_more (suc n) other = omega arith

-- no stretch is empty
string_some : (bs : List ℕ) (found : Option ℕ) → 0 < (string_stretch bs found).1
string_some bs None = omega arith
string_some bs (Some n) = omega arith

comment_some : (bs : List ℕ) (found : Option ℕ) → 0 < (comment_stretch bs found).1
comment_some bs None = omega arith
comment_some bs (Some n) = omega arith

sign_some : (b : ℕ) → 0 < (sign_stretch b).1
sign_some b = by_test (is_ascii_graphic b)
    (λ graphic. by_test (b == 92) (λ is. rw (graphic, is) (omega arith)) (λ is. rw (graphic, is) (omega arith)))
    (λ graphic. rw graphic (omega arith))

word_some : (b : ℕ) (bs : List ℕ) → 0 < (word_stretch b bs).1
word_some b bs = by_test (b == 43 || b == 45)
    (λ sign. by_test (word_length bs == 0) (λ none_is. rw (sign, none_is) (omega arith)) (λ some_is. rw (sign, some_is) (omega arith)))
    (λ sign. by_test (word_length (b ∷ bs) == 0) (λ none_is. rw (sign, none_is) (sign_some b)) (λ some_is. rw (sign, some_is) (some_more (word_length (b ∷ bs)) some_is)))

pub stretch_some : (b : ℕ) (bs : List ℕ) → 0 < (stretch (b ∷ bs)).1
unfolding stretch
stretch_some b bs =
    by_test (is_white b) (λ white. rw white (omega arith)) (λ white.
    by_test (b == 40) (λ open_is. rw (white, open_is) (omega arith)) (λ open_is.
    by_test (b == 41) (λ close_is. rw (white, open_is, close_is) (omega arith)) (λ close_is.
    by_test (b == 34) (λ quote. rw (white, open_is, close_is, quote) (string_some bs (string_length bs))) (λ quote.
    by_test (b == 47)
    (λ slash. by_test (begins 47 bs)
    (λ line. rw (white, open_is, close_is, quote, slash, line) (omega arith))
    (λ line. by_test (begins 42 bs)
    (λ block. rw (white, open_is, close_is, quote, slash, line, block) (comment_some (drop 1 bs) (comment_length (drop 1 bs))))
    (λ block. rw (white, open_is, close_is, quote, slash, line, block) (word_some b bs))))
    (λ slash. rw (white, open_is, close_is, quote, slash) (word_some b bs))))))

-- as many stretches as there are bytes are enough
tokens_room : (m n at : ℕ) (bytes : List ℕ) → length bytes ≤ m → length bytes ≤ n → tokens_from m at bytes ≡ tokens_from n at bytes
unfolding tokens_from
tokens_room zero zero at bytes low high = refl
tokens_room zero (suc n) at [] low high = refl
tokens_room zero (suc n) at (b ∷ bs) low high = absurd (omega arith)
tokens_room (suc m) zero at [] low high = refl
tokens_room (suc m) zero at (b ∷ bs) low high = absurd (omega arith)
tokens_room (suc m) (suc n) at [] low high = refl
tokens_room (suc m) (suc n) at (b ∷ bs) low high =
    let s = stretch (b ∷ bs) in
    let more = stretch_some b bs in
    let left = length-drop s.1 (b ∷ bs) in
    ap (λ rest. told s.0 (record { at = at; bytes = take s.1 (b ∷ bs) }) ++ rest) (tokens_room m n (at + s.1) (drop s.1 (b ∷ bs)) (omega arith) (omega arith))

-- the first stretch is cut off
pub tokens_cut : (at : ℕ) (bytes : List ℕ) (s : Stretch) → s ≡ stretch bytes → 0 < length bytes →
    tokens (record { at = at; bytes = bytes }) ≡ told s.0 (record { at = at; bytes = take s.1 bytes }) ++ tokens (record { at = at + s.1; bytes = drop s.1 bytes })
unfolding tokens tokens_from
tokens_cut at [] s is some = absurd (omega arith)
tokens_cut at (b ∷ bs) s is some =
    let more = stretch_some b bs in
    let left = length-drop (stretch (b ∷ bs)).1 (b ∷ bs) in
    rw is (ap (λ rest. told (stretch (b ∷ bs)).0 (record { at = at; bytes = take (stretch (b ∷ bs)).1 (b ∷ bs) }) ++ rest)
    (tokens_room (length bs) (length (drop (stretch (b ∷ bs)).1 (b ∷ bs))) (at + (stretch (b ∷ bs)).1) (drop (stretch (b ∷ bs)).1 (b ∷ bs)) (omega arith) (omega arith)))

pub tokens_none : (part : Part) → part.bytes ≡ [] → tokens part ≡ []
unfolding tokens tokens_from
tokens_none part is = rw is refl

-- the first stretch is a token
pub tokens_first : (all rest : List Token) (kind : Option Kind) (k : Kind) (part : Part) → all ≡ told kind part ++ rest → kind ≡ Some k → all ≡ record { kind = k; at = part.at; bytes = part.bytes } ∷ rest
tokens_first all rest kind k part is some = rw some at is

-- the first stretch is none
pub tokens_passed : (all rest : List Token) (kind : Option Kind) (part : Part) → all ≡ told kind part ++ rest → kind ≡ None → all ≡ rest
tokens_passed all rest kind part is missing = rw missing at is

-- the text has these tokens
tokens_are : (n at : ℕ) (bytes : List ℕ) → length bytes ≤ n → AreTokens at bytes (tokens_from n at bytes)
unfolding tokens_from
tokens_are zero at [] room = none at
tokens_are zero at (b ∷ bs) room = absurd (omega arith)
tokens_are (suc n) at [] room = none at
tokens_are (suc n) at (b ∷ bs) room =
    let s = stretch (b ∷ bs) in
    let more = stretch_some b bs in
    let left = length-drop s.1 (b ∷ bs) in
    let rest : AreTokens (at + s.1) (drop s.1 (b ∷ bs)) (tokens_from n (at + s.1) (drop s.1 (b ∷ bs))) = tokens_are n (at + s.1) (drop s.1 (b ∷ bs)) (omega arith) in
    by_option s.0
    (λ missing. rw missing (passed at s.1 b bs _ (ap (λ k. (k, s.1)) missing) rest))
    (λ kind found. rw found (token at s.1 b bs kind _ (ap (λ k. (k, s.1)) found) rest))

pub all_tokens : (at : ℕ) (bytes : List ℕ) → AreTokens at bytes (tokens (record { at = at; bytes = bytes }))
unfolding tokens
all_tokens at bytes = tokens_are (length bytes) at bytes (omega arith)

-- and no others
pub only_tokens : (at : ℕ) (bytes : List ℕ) (ts : List Token) → AreTokens at bytes ts → ts ≡ tokens (record { at = at; bytes = bytes })
unfolding tokens tokens_from
only_tokens _ _ _ (none at) = refl
only_tokens _ _ _ (passed at n b bs ts is are) = only_tokens (at + n) (drop n (b ∷ bs)) ts are ∙ sym (tokens_cut at (b ∷ bs) (None, n) (sym is) (omega arith))
only_tokens _ _ _ (token at n b bs kind ts is are) =
    ap (λ rest. record { kind = kind; at = at; bytes = take n (b ∷ bs) } ∷ rest) (only_tokens (at + n) (drop n (b ∷ bs)) ts are)
    ∙ sym (tokens_cut at (b ∷ bs) (Some kind, n) (sym is) (omega arith))

told_few : (kind : Option Kind) (part : Part) → length (told kind part) ≤ 1
told_few None part = omega arith
told_few (Some kind) part = omega arith

few_from : (n at : ℕ) (bytes : List ℕ) → length (tokens_from n at bytes) ≤ length bytes
unfolding tokens_from
few_from zero at bytes = omega arith
few_from (suc n) at [] = omega arith
few_from (suc n) at (b ∷ bs) =
    let s = stretch (b ∷ bs) in
    let more = stretch_some b bs in
    let left = length-drop s.1 (b ∷ bs) in
    let one = told_few s.0 (record { at = at; bytes = take s.1 (b ∷ bs) }) in
    let others = few_from n (at + s.1) (drop s.1 (b ∷ bs)) in
    let both = length-append (told s.0 (record { at = at; bytes = take s.1 (b ∷ bs) })) (tokens_from n (at + s.1) (drop s.1 (b ∷ bs))) in
    omega arith

-- a part has no more tokens than bytes
pub tokens_few : (part : Part) → length (tokens part) ≤ length part.bytes
unfolding tokens
tokens_few part = few_from (length part.bytes) part.at part.bytes
