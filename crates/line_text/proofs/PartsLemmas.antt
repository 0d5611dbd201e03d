-- Cutting a part, piece by piece.
use Rattle.std.proofs.Common.{◌≡◌, ℕ, ◌+◌, ◌<◌, Bool, true, false, not, List, [], ◌∷◌, length, take, drop, refl, sym, ap, ◌∙◌, arith}
use Rattle.std.specs.List.{slice_split, position_or_len}
use Rattle.std.proofs.lemmas.List.{length-take-le, take_all, drop_all}
use Rattle.std.proofs.lemmas.List.Splits.{slice_split_first, slice_split_none}
use Rattle.std.proofs.lemmas.List.Sums.{prefix_len_passes}
use Rattle.line_text.specs.Parts.IsCutOff.{cut, whole}
use Rattle.line_text.specs.Parts.{Part, placed, IsCutOff, is_feed, is_blank, is_empty, is_row, fields, rows}

-- where a byte is found at which a part is cut
pub cut_found : (p : ℕ → Bool) (at n : ℕ) (bytes : List ℕ) → n ≡ position_or_len p bytes → n < length bytes →
    IsCutOff p (record { at = at; bytes = bytes }) (record { at = at; bytes = take n bytes }) (record { at = at + n + 1; bytes = drop (n + 1) bytes })
cut_found p at n bytes is found =
    let parts : slice_split p bytes ≡ take n bytes ∷ slice_split p (drop (n + 1) bytes) = rw is (slice_split_first p bytes 0 (omega arith)) in
    let long : length (take n bytes) ≡ n = length-take-le n bytes (omega arith) in
    cut (ap (placed at) parts ∙ ap (λ k. record { at = at; bytes = take n bytes } ∷ placed (at + k + 1) (slice_split p (drop (n + 1) bytes))) long)

not_passes : (b : Bool) → not b ≡ true → b ≡ false
not_passes true h = sym h
not_passes false h = refl

-- where none is found
pub cut_none : (p : ℕ → Bool) (at n : ℕ) (bytes : List ℕ) → n ≡ position_or_len p bytes → n ≡ length bytes →
    IsCutOff p (record { at = at; bytes = bytes }) (record { at = at; bytes = take n bytes }) (record { at = at + n; bytes = drop n bytes })
cut_none p at n bytes is all =
    let same : take n bytes ≡ bytes = take_all n bytes (omega arith) in
    rw same (whole (ap (placed at) (slice_split_none p bytes (λ k d h. not_passes _ (prefix_len_passes (λ x. not (p x)) bytes k d (omega arith))))) (drop_all n bytes (omega arith)))

pub fields_kept : (part first behind : Part) → IsCutOff is_blank part first behind → is_empty first.bytes ≡ false → fields part ≡ first ∷ fields behind
unfolding fields
fields_kept part first behind given kept = elim given [ cut e ↦ rw (e, kept) refl | whole e none ↦ rw (e, kept, none) refl ]

pub fields_passed : (part first behind : Part) → IsCutOff is_blank part first behind → is_empty first.bytes ≡ true → fields part ≡ fields behind
unfolding fields
fields_passed part first behind given empty = elim given [ cut e ↦ rw (e, empty) refl | whole e none ↦ rw (e, empty, none) refl ]

-- an empty part has no field, and no row
pub fields_none : (part : Part) → part.bytes ≡ [] → fields part ≡ []
unfolding fields
fields_none part none = rw none refl

pub rows_none : (part : Part) → part.bytes ≡ [] → rows part ≡ []
unfolding rows
rows_none part none = rw (none, fields_none (record { at = part.at; bytes = [] }) refl) refl

pub rows_kept : (part first behind : Part) → IsCutOff is_feed part first behind → is_row first ≡ true → rows part ≡ fields first ∷ rows behind
unfolding rows
rows_kept part first behind given kept = elim given [ cut e ↦ rw (e, kept) refl | whole e none ↦ rw (e, kept, rows_none behind none) refl ]

pub rows_passed : (part first behind : Part) → IsCutOff is_feed part first behind → is_row first ≡ false → rows part ≡ rows behind
unfolding rows
rows_passed part first behind given passed = elim given [ cut e ↦ rw (e, passed) refl | whole e none ↦ rw (e, passed, rows_none behind none) refl ]
