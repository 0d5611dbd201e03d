-- What is written as lines is read as these lines.
use Rattle.std.proofs.Common.{◌≡◌, ℕ, ◌+◌, ◌==◌, ◌||◌, Bool, true, false, not, List, [], ◌∷◌, ◌++◌, length, map, filter, refl, sym, ap, ◌∙◌, append_assoc, arith}
use Rattle.std.specs.List.{slice_split, flat_map, list_all}
use Rattle.std.proofs.Math.Dec.{eqb-suc-zero}
use Rattle.std.proofs.lemmas.Bool.{and_parts}
use Rattle.std.proofs.lemmas.List.{append-nil, length-append}
use Rattle.std.proofs.lemmas.List.Folds.{list_all-append}
use Rattle.line_text.specs.Parts.{placed, is_feed, is_blank, is_empty, begins_comment, fields, is_row, rows}
use Rattle.line_text.specs.Written.{spaced, written, is_field, is_title}

not_true : (b : Bool) → not b ≡ true → b ≡ false
not_true true h = sym h
not_true false h = refl

-- a weaker test passes too
all_weaker : {X : Type 0} (p q : X → Bool) → ((x : X) → p x ≡ true → q x ≡ true) → (xs : List X) → list_all p xs ≡ true → list_all q xs ≡ true
all_weaker p q weaker [] h = refl
all_weaker p q weaker (x ∷ xs) h =
    let parts = and_parts (p x) (list_all p xs) h in
    rw (weaker x parts.0, all_weaker p q weaker xs parts.1) refl

-- a list is cut at the first element that passes
cut_before : (p : ℕ → Bool) (xs : List ℕ) (y : ℕ) (ys : List ℕ) → list_all (λ x. not (p x)) xs ≡ true → p y ≡ true → slice_split p (xs ++ y ∷ ys) ≡ xs ∷ slice_split p ys
cut_before p [] y ys plain cut = rw cut refl
cut_before p (x ∷ xs) y ys plain cut =
    let parts = and_parts (not (p x)) (list_all (λ x. not (p x)) xs) plain in
    rw (not_true (p x) parts.0, cut_before p xs y ys parts.1 cut) refl

-- and where none passes, it isn't cut
cut_nowhere : (p : ℕ → Bool) (xs : List ℕ) → list_all (λ x. not (p x)) xs ≡ true → slice_split p xs ≡ xs ∷ []
cut_nowhere p [] plain = refl
cut_nowhere p (x ∷ xs) plain =
    let parts = and_parts (not (p x)) (list_all (λ x. not (p x)) xs) plain in
    rw (not_true (p x) parts.0, cut_nowhere p xs parts.1) refl

neither : (a b : Bool) → not (a || b) ≡ true → (not a ≡ true) × (not b ≡ true)
neither true b h = absurd (cc)
neither false b h = (refl, h)

-- no blank and no line feed stands in a field
field_without_blanks : (f : List ℕ) → is_field f ≡ true → list_all (λ b. not (is_blank b)) f ≡ true
field_without_blanks f h =
    all_weaker _ _ (λ b plain. (neither (is_blank b) (is_feed b) plain).0) f (and_parts (not (is_empty f)) _ h).1

field_without_feeds : (f : List ℕ) → is_field f ≡ true → list_all (λ b. not (is_feed b)) f ≡ true
field_without_feeds f h =
    all_weaker _ _ (λ b plain. (neither (is_blank b) (is_feed b) plain).1) f (and_parts (not (is_empty f)) _ h).1

-- the fields behind spaces are the pieces
split_spaced : (title : List ℕ) (fs : List (List ℕ)) → is_field title ≡ true → list_all is_field fs ≡ true → slice_split is_blank (title ++ flat_map spaced fs) ≡ title ∷ fs
split_spaced title [] first others = rw append-nil (cut_nowhere is_blank title (field_without_blanks title first))
split_spaced title (f ∷ fs) first others =
    let parts = and_parts (is_field f) (list_all is_field fs) others in
    cut_before is_blank title 32 (f ++ flat_map spaced fs) (field_without_blanks title first) refl ∙ ap (λ pieces. title ∷ pieces) (split_spaced f fs parts.0 parts.1)

kept_placed : (at : ℕ) (fs : List (List ℕ)) → list_all is_field fs ≡ true → filter (λ field. not (is_empty field.bytes)) (placed at fs) ≡ placed at fs
kept_placed at [] all = refl
kept_placed at (f ∷ fs) all =
    let parts = and_parts (is_field f) (list_all is_field fs) all in
    let full = and_parts (not (is_empty f)) _ parts.0 in
    rw (full.0, kept_placed (at + length f + 1) fs parts.1) refl

fields_written : (at : ℕ) (title : List ℕ) (fs : List (List ℕ)) → is_field title ≡ true → list_all is_field fs ≡ true →
    fields (record { at = at; bytes = title ++ flat_map spaced fs }) ≡ placed at (title ∷ fs)
unfolding fields
fields_written at title fs first others =
    let all : list_all is_field (title ∷ fs) ≡ true = rw first others in
    ap (λ pieces. filter (λ field. not (is_empty field.bytes)) (placed at pieces)) (split_spaced title fs first others) ∙ kept_placed at (title ∷ fs) all

-- no line feed stands in a line
line_without_feeds : (title : List ℕ) (fs : List (List ℕ)) → is_field title ≡ true → list_all is_field fs ≡ true → list_all (λ b. not (is_feed b)) (title ++ flat_map spaced fs) ≡ true
line_without_feeds title [] first others = rw append-nil (field_without_feeds title first)
line_without_feeds title (f ∷ fs) first others =
    let parts = and_parts (is_field f) (list_all is_field fs) others in
    rw (list_all-append (λ b. not (is_feed b)) title (32 ∷ (f ++ flat_map spaced fs)), field_without_feeds title first, line_without_feeds f fs parts.0 parts.1) refl

-- the line is no comment
line_no_comment : (title : List ℕ) (others : List ℕ) → is_title title ≡ true → begins_comment (title ++ others) ≡ false
line_no_comment [] others first = absurd (cc)
line_no_comment (b ∷ bs) others first = not_true (b == 35) (and_parts (is_field (b ∷ bs)) (not (b == 35)) first).1

line_is_row : (at : ℕ) (title : List ℕ) (fs : List (List ℕ)) → is_title title ≡ true → list_all is_field fs ≡ true → is_row (record { at = at; bytes = title ++ flat_map spaced fs }) ≡ true
line_is_row at title fs first others =
    rw (line_no_comment title (flat_map spaced fs) first, fields_written at title fs (and_parts (is_field title) (not (begins_comment title)) first).0 others) (ap not (eqb-suc-zero (length (placed (at + length title + 1) fs))))

-- the rows of a text that begins with a written line
pub rows_written : (at : ℕ) (title : List ℕ) (fs : List (List ℕ)) (rest : List ℕ) → is_title title ≡ true → list_all is_field fs ≡ true →
    rows (record { at = at; bytes = written title fs ++ rest }) ≡ placed at (title ∷ fs) ∷ rows (record { at = at + length (written title fs); bytes = rest })
unfolding rows
rows_written at title fs rest first others =
    let line = title ++ flat_map spaced fs in
    let is_field_title = (and_parts (is_field title) (not (begins_comment title)) first).0 in
    let regrouped : written title fs ++ rest ≡ line ++ 10 ∷ rest = simp append_assoc in
    let long : at + length (written title fs) ≡ at + length line + 1 = simp length-append (omega arith) in
    let cut : slice_split is_feed (line ++ 10 ∷ rest) ≡ line ∷ slice_split is_feed rest = cut_before is_feed line 10 rest (line_without_feeds title fs is_field_title others) refl in
    rw (regrouped, long) (
    ap (λ pieces. map fields (filter is_row (placed at pieces))) cut
    ∙ rw (line_is_row at title fs first others) (
    ap (λ row. row ∷ map fields (filter is_row (placed (at + length line + 1) (slice_split is_feed rest)))) (fields_written at title fs is_field_title others)))
