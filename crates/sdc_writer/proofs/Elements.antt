-- What stands in braces with one space between two is read as these elements.
use Rattle.std.proofs.Common.{◌≡◌, ℕ, ◌==◌, ◌&&◌, not, Bool, true, false, List, [], ◌∷◌, ◌++◌, map, filter, refl, ap, ◌∙◌, arith}
use Rattle.std.proofs.lemmas.Bool.{and_parts}
use Rattle.std.proofs.lemmas.Bool.Decides.{nat_tests}
use Rattle.std.proofs.lemmas.List.{append-nil}
use Rattle.std.specs.List.{list_all, flat_map, slice_split}
use Rattle.text_scan.proofs.Binds.{by_test}
use Rattle.line_text.specs.Written.{spaced}
use Rattle.tcl_words.specs.Characters.{spelling, is_gap}
use Rattle.tcl_words.specs.Lists.{joined, has_character, runs, elements}
use Rattle.tcl_words.specs.declared.characters.Character.{Character}
use Rattle.tcl_words.specs.declared.characters.Character.TheVariants.{Plain}
use Rattle.tcl_words.specs.declared.characters.Scope.TheVariants.{Brackets}
use Rattle.tcl_words.specs.declared.words.WordKind.TheVariants.{Braced}
use Rattle.sdc_writer.specs.Texts.{words}
use Rattle.sdc_writer.specs.Printable.{has_some, is_visible, is_brace, is_kept, is_kept_name}
use Rattle.sdc_writer.proofs.PlainWords.{not_true, is_plain, is_plain_word}

-- no white space
abbrev pub is_solid : ℕ → Bool
is_solid b = not (is_gap Brackets (Plain b))

abbrev pub is_element : List ℕ → Bool
is_element name = has_some name && list_all is_solid name

abbrev plainly : List ℕ → List Character
plainly text = map (λ b. Plain b) text

-- ---- names are elements
visible_solid : (b : ℕ) → is_visible b ≡ true → is_solid b ≡ true
visible_solid b is = grind (arith, nat_tests)

plain_solid : (b : ℕ) → is_plain b ≡ true → is_solid b ≡ true
plain_solid b is = grind (arith, nat_tests)

kept_solid : (escaped : Bool) (bs : List ℕ) → is_kept escaped bs ≡ true → list_all is_solid bs ≡ true
kept_solid escaped [] is = refl
kept_solid true (b ∷ bs) is =
    let parts = and_parts (is_visible b) (is_kept false bs) is in
    rw (visible_solid b parts.0, kept_solid false bs parts.1) refl
kept_solid false (b ∷ bs) is =
    let parts = and_parts (is_visible b) (not (is_brace b) && is_kept (b == 92) bs) is in
    let others = and_parts (not (is_brace b)) (is_kept (b == 92) bs) parts.1 in
    rw (visible_solid b parts.0, kept_solid (b == 92) bs others.1) refl

name_element : (name : List ℕ) → is_kept_name name ≡ true → is_element name ≡ true
name_element name is =
    let parts = and_parts (has_some name) (is_kept false name) is in
    rw (parts.0, kept_solid false name parts.1) refl

pub name_elements : (names : List (List ℕ)) → list_all is_kept_name names ≡ true → list_all is_element names ≡ true
name_elements [] all = refl
name_elements (name ∷ names) all =
    let parts = and_parts (is_kept_name name) (list_all is_kept_name names) all in
    rw (name_element name parts.0, name_elements names parts.1) refl

plain_all_solid : (bs : List ℕ) → list_all is_plain bs ≡ true → list_all is_solid bs ≡ true
plain_all_solid [] all = refl
plain_all_solid (b ∷ bs) all =
    let parts = and_parts (is_plain b) (list_all is_plain bs) all in
    rw (plain_solid b parts.0, plain_all_solid bs parts.1) refl

pub word_element : (text : List ℕ) → is_plain_word text ≡ true → is_element text ≡ true
word_element text is =
    let parts = and_parts (has_some text) (list_all is_plain text) is in
    rw (parts.0, plain_all_solid text parts.1) refl

-- ---- elements are found again
solid_no_feed : (b : ℕ) → is_solid b ≡ true → (b == 10) ≡ false
solid_no_feed b is = grind (arith, nat_tests)

abbrev no_feed : ℕ → Bool
no_feed b = not (b == 10)

solid_feeds : (bs rest : List ℕ) → list_all is_solid bs ≡ true → list_all no_feed rest ≡ true → list_all no_feed (bs ++ rest) ≡ true
solid_feeds [] rest all others = others
solid_feeds (b ∷ bs) rest all others =
    let parts = and_parts (is_solid b) (list_all is_solid bs) all in
    rw (solid_no_feed b parts.0, solid_feeds bs rest parts.1 others) refl

spaced_feeds : (names : List (List ℕ)) → list_all is_element names ≡ true → list_all no_feed (flat_map spaced names) ≡ true
spaced_feeds [] all = refl
spaced_feeds (name ∷ names) all =
    let parts = and_parts (is_element name) (list_all is_element names) all in
    solid_feeds name (flat_map spaced names) (and_parts (has_some name) (list_all is_solid name) parts.0).1 (spaced_feeds names parts.1)

-- no backslash stands before a line feed
joined_plainly : (bs : List ℕ) → list_all no_feed bs ≡ true → joined bs ≡ plainly bs
unfolding joined
joined_plainly [] all = refl
joined_plainly (b ∷ []) all = refl
joined_plainly (b ∷ (c ∷ bs)) all =
    let rest = (and_parts (no_feed b) (list_all no_feed (c ∷ bs)) all).1 in
    let other = not_true (c == 10) (and_parts (no_feed c) (list_all no_feed bs) rest).0 in
    by_test (b == 92)
    (λ slash. rw (slash, other) (ap (λ cs. Plain b ∷ cs) (joined_plainly (c ∷ bs) rest)))
    (λ plain. rw plain (ap (λ cs. Plain b ∷ cs) (joined_plainly (c ∷ bs) rest)))

cut_before : (xs ys : List ℕ) → list_all is_solid xs ≡ true → slice_split (is_gap Brackets) (plainly (xs ++ 32 ∷ ys)) ≡ plainly xs ∷ slice_split (is_gap Brackets) (plainly ys)
cut_before [] ys solid = refl
cut_before (x ∷ xs) ys solid =
    let parts = and_parts (is_solid x) (list_all is_solid xs) solid in
    rw (not_true (is_gap Brackets (Plain x)) parts.0, cut_before xs ys parts.1) refl

cut_nowhere : (xs : List ℕ) → list_all is_solid xs ≡ true → slice_split (is_gap Brackets) (plainly xs) ≡ plainly xs ∷ []
cut_nowhere [] solid = refl
cut_nowhere (x ∷ xs) solid =
    let parts = and_parts (is_solid x) (list_all is_solid xs) solid in
    rw (not_true (is_gap Brackets (Plain x)) parts.0, cut_nowhere xs parts.1) refl

split_names : (name : List ℕ) (names : List (List ℕ)) → is_element name ≡ true → list_all is_element names ≡ true →
    slice_split (is_gap Brackets) (plainly (name ++ flat_map spaced names)) ≡ plainly name ∷ map plainly names
split_names name [] first others = rw (append-nil name) (cut_nowhere name (and_parts (has_some name) (list_all is_solid name) first).1)
split_names name (other ∷ names) first others =
    let parts = and_parts (is_element other) (list_all is_element names) others in
    cut_before name (other ++ flat_map spaced names) (and_parts (has_some name) (list_all is_solid name) first).1 ∙ ap (λ pieces. plainly name ∷ pieces) (split_names other names parts.0 parts.1)

some_character : (name : List ℕ) → has_some name ≡ true → has_character (plainly name) ≡ true
some_character [] some = absurd (cc)
some_character (b ∷ bs) some = refl

all_runs : (names : List (List ℕ)) → list_all is_element names ≡ true → filter has_character (map plainly names) ≡ map plainly names
all_runs [] all = refl
all_runs (name ∷ names) all =
    let parts = and_parts (is_element name) (list_all is_element names) all in
    rw (some_character name (and_parts (has_some name) (list_all is_solid name) parts.0).0, all_runs names parts.1) refl

spelling_plainly : (text : List ℕ) → spelling (plainly text) ≡ text
spelling_plainly [] = refl
spelling_plainly (b ∷ bs) = ap (λ xs. b ∷ xs) (spelling_plainly bs)

spelled_names : (names : List (List ℕ)) → map spelling (map plainly names) ≡ names
spelled_names [] = refl
spelled_names (name ∷ names) = rw (spelling_plainly name, spelled_names names) refl

pub elements_are : (names : List (List ℕ)) → list_all is_element names ≡ true → elements Braced (words names) ≡ names
unfolding elements joined
elements_are [] all = refl
elements_are (name ∷ names) all =
    let parts = and_parts (is_element name) (list_all is_element names) all in
    let text = name ++ flat_map spaced names in
    let feeds = solid_feeds name (flat_map spaced names) (and_parts (has_some name) (list_all is_solid name) parts.0).1 (spaced_feeds names parts.1) in
    ap (λ cs. map spelling (runs cs)) (joined_plainly text feeds)
    ∙ ap (λ pieces. map spelling (filter has_character pieces)) (split_names name names parts.0 parts.1)
    ∙ ap (λ pieces. map spelling pieces) (all_runs (name ∷ names) all)
    ∙ spelled_names (name ∷ names)
