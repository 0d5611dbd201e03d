-- Words, strings, comments and lines, piece by piece.
use Rattle.std.proofs.Common.{◌≡◌, ℕ, zero, suc, ◌+◌, ◌<◌, ◌≤◌, ◌==◌, Option, Some, None, List, [], ◌∷◌, length, drop, get_or, refl, sym, ap, ◌∙◌, arith}
use Rattle.std.proofs.lemmas.Grind.{common_steps}
use Rattle.std.proofs.lemmas.List.{drop_more, drop-drop, drop_all, length-drop}
use Rattle.std.proofs.lemmas.Bool.{ne_eqb, eqb-true}
use Rattle.text_scan.proofs.Binds.{by_test}
use Rattle.sdf_lex.specs.Words.{unit, word_length, string_unit, string_length, comment_length, line_length, further}

-- a word ends where no piece of one stands
pub word_stops : (bs : List ℕ) → unit bs ≡ 0 → word_length bs ≡ 0
unfolding word_length
word_stops [] is = refl
word_stops (b ∷ []) is = is
word_stops (b ∷ c ∷ bs) is = rw is refl

-- else it goes on behind the piece
pub word_goes_on : (bs : List ℕ) (n : ℕ) → unit bs ≡ n → 0 < n → n ≤ 2 → word_length bs ≡ n + word_length (drop n bs)
unfolding word_length
word_goes_on bs zero is some small = absurd (omega arith)
word_goes_on [] (suc n) is some small = absurd (omega arith)
word_goes_on (b ∷ []) (suc zero) is some small = is
word_goes_on (b ∷ []) (suc (suc n)) is some small = absurd (grind (arith, common_steps))
word_goes_on (b ∷ c ∷ bs) (suc zero) is some small = rw is refl
word_goes_on (b ∷ c ∷ bs) (suc (suc zero)) is some small = rw is refl
word_goes_on (b ∷ c ∷ bs) (suc (suc (suc n))) is some small = absurd (omega arith)

-- one turn of the loop over a word
pub word_turn : (text : List ℕ) (i n : ℕ) → word_length text ≡ i + word_length (drop i text) → unit (drop i text) ≡ n → 0 < n → n ≤ 2 →
    word_length text ≡ (i + n) + word_length (drop (i + n) text)
word_turn text i n same is some small =
    let more = word_goes_on (drop i text) n is some small in
    let dropped : drop n (drop i text) ≡ drop (i + n) text = drop-drop n i text in
    let more2 = rw dropped at more in
    omega arith

further_twice : (m n : ℕ) (found : Option ℕ) → further m (further n found) ≡ further (m + n) found
further_twice m n None = refl
further_twice m n (Some k) = ap (λ x. Some x) (omega arith)

-- a string ends at a quote
string_closes : (b : ℕ) (bs : List ℕ) → b ≡ 34 → string_length (b ∷ bs) ≡ Some 1
unfolding string_length
string_closes b [] is = rw is refl
string_closes b (c ∷ bs) is = rw is refl

-- else it goes on behind the character
string_goes_on : (b : ℕ) (bs : List ℕ) → (b ≡ 34 → ⊥) → string_length (b ∷ bs) ≡ further (string_unit b) (string_length (drop (string_unit b) (b ∷ bs)))
unfolding string_length
string_goes_on b [] other = by_test (b == 92) (λ is. rw (is, ne_eqb b 34 other) refl) (λ is. rw (is, ne_eqb b 34 other) refl)
string_goes_on b (c ∷ bs) other = by_test (b == 92) (λ is. rw (ne_eqb b 34 other, is) refl) (λ is. rw (ne_eqb b 34 other, is) refl)

pub string_found : (text : List ℕ) (i : ℕ) → string_length text ≡ further i (string_length (drop i text)) → i < length text → get_or text i 0 ≡ 34 → string_length text ≡ Some (i + 1)
string_found text i same within is =
    let here : string_length (drop i text) ≡ Some 1 = rw (drop_more text i 0 within) (string_closes (get_or text i 0) (drop (i + 1) text) is) in
    same ∙ ap (further i) here

-- one turn of the loop over a string
pub string_turn : (text : List ℕ) (i n : ℕ) → string_length text ≡ further i (string_length (drop i text)) → i < length text → (get_or text i 0 ≡ 34 → ⊥) → n ≡ string_unit (get_or text i 0) →
    string_length text ≡ further (i + n) (string_length (drop (i + n) text))
string_turn text i n same within other is =
    let more : string_length (drop i text) ≡ further n (string_length (drop n (drop i text))) =
    rw (is, drop_more text i 0 within) (string_goes_on (get_or text i 0) (drop (i + 1) text) other) in
    same ∙ ap (further i) more ∙ further_twice i n (string_length (drop n (drop i text))) ∙ ap (λ rest. further (i + n) (string_length rest)) (drop-drop n i text)

pub string_open : (text : List ℕ) (i : ℕ) → string_length text ≡ further i (string_length (drop i text)) → length text ≤ i → string_length text ≡ None
unfolding string_length
string_open text i same end = same ∙ ap (λ rest. further i (string_length rest)) (drop_all i text end)

-- a comment ends at `*/`
comment_closes : (b c : ℕ) (bs : List ℕ) → b ≡ 42 → c ≡ 47 → comment_length (b ∷ c ∷ bs) ≡ Some 2
unfolding comment_length
comment_closes b c bs first second = rw (first, second) refl

-- else it goes on behind the byte
comment_goes_on : (b c : ℕ) (bs : List ℕ) → (b ≡ 42 → c ≡ 47 → ⊥) → comment_length (b ∷ c ∷ bs) ≡ further 1 (comment_length (c ∷ bs))
unfolding comment_length
comment_goes_on b c bs other = by_test (b == 42)
    (λ is. rw (is, ne_eqb c 47 (λ second. other (eqb-true b 42 is) second)) refl)
    (λ is. rw is refl)

comment_short : (bs : List ℕ) → length bs ≤ 1 → comment_length bs ≡ None
unfolding comment_length
comment_short [] short = refl
comment_short (b ∷ []) short = refl
comment_short (b ∷ c ∷ bs) short = absurd (omega arith)

twice_more : (text : List ℕ) (i : ℕ) → i + 1 < length text → drop i text ≡ get_or text i 0 ∷ get_or text (i + 1) 0 ∷ drop (i + 2) text
twice_more text i within = drop_more text i 0 (omega arith) ∙ ap (λ rest. get_or text i 0 ∷ rest) (rw (drop_more text (i + 1) 0 within) (ap (λ n. get_or text (i + 1) 0 ∷ drop n text) (omega arith)))

pub comment_found : (text : List ℕ) (i : ℕ) → comment_length text ≡ further i (comment_length (drop i text)) → i + 1 < length text → get_or text i 0 ≡ 42 → get_or text (i + 1) 0 ≡ 47 →
    comment_length text ≡ Some (i + 2)
comment_found text i same within first second =
    let here : comment_length (drop i text) ≡ Some 2 = rw (twice_more text i within) (comment_closes _ _ (drop (i + 2) text) first second) in
    same ∙ ap (further i) here

-- one turn of the loop over a comment
pub comment_turn : (text : List ℕ) (i : ℕ) → comment_length text ≡ further i (comment_length (drop i text)) → i + 1 < length text → (get_or text i 0 ≡ 42 → get_or text (i + 1) 0 ≡ 47 → ⊥) →
    comment_length text ≡ further (i + 1) (comment_length (drop (i + 1) text))
comment_turn text i same within other =
    let more : comment_length (drop i text) ≡ further 1 (comment_length (get_or text (i + 1) 0 ∷ drop (i + 2) text)) =
    rw (twice_more text i within) (comment_goes_on _ _ (drop (i + 2) text) other) in
    let rest : get_or text (i + 1) 0 ∷ drop (i + 2) text ≡ drop (i + 1) text = rw (drop_more text (i + 1) 0 within) (ap (λ n. get_or text (i + 1) 0 ∷ drop n text) (omega arith)) in
    same ∙ ap (further i) (more ∙ ap (λ bytes. further 1 (comment_length bytes)) rest) ∙ further_twice i 1 (comment_length (drop (i + 1) text))

pub comment_open : (text : List ℕ) (i : ℕ) → comment_length text ≡ further i (comment_length (drop i text)) → length text ≤ i + 1 → comment_length text ≡ None
comment_open text i same end = same ∙ ap (further i) (comment_short (drop i text) (omega (arith, length-drop i text)))

-- a line ends at a line feed
line_ends : (b : ℕ) (bs : List ℕ) → b ≡ 10 → line_length (b ∷ bs) ≡ 0
unfolding line_length
line_ends b bs is = rw is refl

line_goes_on : (b : ℕ) (bs : List ℕ) → (b ≡ 10 → ⊥) → line_length (b ∷ bs) ≡ 1 + line_length bs
unfolding line_length
line_goes_on b bs other = rw (ne_eqb b 10 other) refl

pub line_found : (text : List ℕ) (i : ℕ) → line_length text ≡ i + line_length (drop i text) → i < length text → get_or text i 0 ≡ 10 → i ≡ line_length text
line_found text i same within is =
    let here : line_length (drop i text) ≡ 0 = rw (drop_more text i 0 within) (line_ends (get_or text i 0) (drop (i + 1) text) is) in
    omega arith

-- one turn of the loop over a line
pub line_turn : (text : List ℕ) (i : ℕ) → line_length text ≡ i + line_length (drop i text) → i < length text → (get_or text i 0 ≡ 10 → ⊥) → line_length text ≡ (i + 1) + line_length (drop (i + 1) text)
line_turn text i same within other =
    let more : line_length (drop i text) ≡ 1 + line_length (drop (i + 1) text) = rw (drop_more text i 0 within) (line_goes_on (get_or text i 0) (drop (i + 1) text) other) in
    omega arith

pub line_open : (text : List ℕ) (i : ℕ) → line_length text ≡ i + line_length (drop i text) → length text ≤ i → i ≡ line_length text
unfolding line_length
line_open text i same end =
    let here : line_length (drop i text) ≡ 0 = ap line_length (drop_all i text end) in
    omega arith

-- the end of the text ends a word
pub word_ends : (text : List ℕ) (i : ℕ) → word_length text ≡ i + word_length (drop i text) → length text ≤ i → i ≡ word_length text
unfolding word_length
word_ends text i same end =
    let here : word_length (drop i text) ≡ 0 = ap word_length (drop_all i text end) in
    omega arith

-- where no piece stands a word ends
pub word_found : (text : List ℕ) (i n : ℕ) → word_length text ≡ i + word_length (drop i text) → n ≡ unit (drop i text) → n ≡ 0 → i ≡ word_length text
word_found text i n same is none =
    let here : word_length (drop i text) ≡ 0 = word_stops (drop i text) (sym is ∙ none) in
    omega arith
