-- Exceptions that are read field by field, and how they are written.
use Rattle.std.proofs.Common.{◌≡◌, ℕ, pos, ◌+◌, ◌<◌, Bool, true, false, not, Option, Some, None, List, [], ◌∷◌, ◌++◌, length, take, drop, refl, sym, ap, ◌∙◌, append_assoc, arith}
use Rattle.std.specs.List.{slice_split, position_or_len}
use Rattle.std.proofs.lemmas.List.{append-nil, length-take-le}
use Rattle.std.proofs.lemmas.List.Splits.{slice_split_first, slice_split_none}
use Rattle.std.proofs.lemmas.List.Sums.{prefix_len_passes}
use Rattle.std.proofs.lemmas.Option.{same_Some}
use Rattle.text_scan.specs.Left.{◌>>=◌}
use Rattle.text_scan.proofs.Binds.{step, by_test, by_option}
use Rattle.line_text.specs.Parts.{Part, placed, cut_at}
use Rattle.line_text.specs.Numbers.{whole, whole_of, is_within, count}
use Rattle.cert_text.specs.Exceptions.{is_colon, steps, exception, exceptions}
use Rattle.cert_text.specs.declared.certs.CertException.{CertException}

-- what is read, with these exceptions before it
abbrev pub with_exceptions : List CertException → Option (List CertException × Option ℕ) → Option (List CertException × Option ℕ)
with_exceptions front read = do
  (xs, last) ← read
  Some (front ++ xs, last)

with_exceptions-append : (front : List CertException) (x : CertException) (read : Option (List CertException × Option ℕ))
    → with_exceptions front (read >>= λ r. Some (x ∷ r.0, r.1)) ≡ with_exceptions (front ++ x ∷ []) read
with_exceptions-append front x None = refl
with_exceptions-append front x (Some r) = ap (λ xs. Some (xs, r.1)) (sym (append_assoc front (x ∷ []) r.0))

-- the next field is read
pub exceptions_turn : (front : List CertException) (x : CertException) (all fields : List Part) (field : Part) (a b : Option ℕ) → all ≡ field ∷ fields → exception field a ≡ Some (x, b)
    → with_exceptions front (exceptions all a) ≡ with_exceptions (front ++ x ∷ []) (exceptions fields b)
unfolding exceptions
exceptions_turn front x all fields field a b is read = rw (is, read) (with_exceptions-append front x (exceptions fields b))

-- there is a next field, and it can't be read
pub exceptions_fails : (front : List CertException) (field : Part) (all fields : List Part) (a : Option ℕ) → all ≡ field ∷ fields → exception field a ≡ None
    → with_exceptions front (exceptions all a) ≡ None
unfolding exceptions
exceptions_fails front field all fields a is none = rw (is, none) refl

-- there is no next field
pub exceptions_end : (front : List CertException) (all : List Part) (a : Option ℕ) → all ≡ [] → with_exceptions front (exceptions all a) ≡ Some (front, a)
unfolding exceptions
exceptions_end front all a none = rw none (ap (λ xs. Some (xs, a)) (append-nil front))

-- ---- colons
-- the part is cut at its first colon
pub colon_found : (at n : ℕ) (bytes : List ℕ) → n ≡ position_or_len is_colon bytes → n < length bytes →
    cut_at is_colon (record { at = at; bytes = bytes }) ≡ record { at = at; bytes = take n bytes } ∷ cut_at is_colon (record { at = at + n + 1; bytes = drop (n + 1) bytes })
colon_found at n bytes is found =
    let parts : slice_split is_colon bytes ≡ take n bytes ∷ slice_split is_colon (drop (n + 1) bytes) = rw is (slice_split_first is_colon bytes 0 (omega arith)) in
    let long : length (take n bytes) ≡ n = length-take-le n bytes (omega arith) in
    ap (placed at) parts ∙ ap (λ k. record { at = at; bytes = take n bytes } ∷ placed (at + k + 1) (slice_split is_colon (drop (n + 1) bytes))) long

not_passes : (b : Bool) → not b ≡ true → b ≡ false
not_passes true h = sym h
not_passes false h = refl

-- where there is none, it isn't cut
pub colon_missing : (at n : ℕ) (bytes : List ℕ) → n ≡ position_or_len is_colon bytes → n ≡ length bytes → cut_at is_colon (record { at = at; bytes = bytes }) ≡ record { at = at; bytes = bytes } ∷ []
colon_missing at n bytes is all =
    ap (placed at) (slice_split_none is_colon bytes (λ k d h. not_passes _ (prefix_len_passes (λ x. not (is_colon x)) bytes k d (omega arith))))

-- ---- numbers of parts
-- no number stands at the part
pub exception_fails : (field first : Part) (rest : List Part) (a : Option ℕ) → cut_at is_colon field ≡ first ∷ rest → count 0 4294967295 (first ∷ rest, a) ≡ None → exception field a ≡ None
unfolding exception
exception_fails field first rest a cut none = rw (cut, none) refl

-- one number
pub exception_one : (field first : Part) (n : ℕ) (a b : Option ℕ) → cut_at is_colon field ≡ first ∷ [] → count 0 4294967295 (first ∷ [], a) ≡ Some (n, ([], b))
    → exception field a ≡ Some (record { number = n; steps = None }, b)
unfolding exception steps
exception_one field first n a b cut read = rw (cut, read) refl

-- a number, and behind it none
pub exception_second_fails : (field first second : Part) (rest : List Part) (n : ℕ) (a b : Option ℕ) → cut_at is_colon field ≡ first ∷ second ∷ rest
    → count 0 4294967295 (first ∷ second ∷ rest, a) ≡ Some (n, (second ∷ rest, b)) → count 0 4294967295 (second ∷ rest, b) ≡ None → exception field a ≡ None
unfolding exception steps
exception_second_fails field first second rest n a b cut read none = rw (cut, read, none) refl

-- two numbers
pub exception_two : (field first second : Part) (n s : ℕ) (a b c : Option ℕ) → cut_at is_colon field ≡ first ∷ second ∷ []
    → count 0 4294967295 (first ∷ second ∷ [], a) ≡ Some (n, (second ∷ [], b)) → count 0 4294967295 (second ∷ [], b) ≡ Some (s, ([], c))
    → exception field a ≡ Some (record { number = n; steps = Some s }, c)
unfolding exception steps
exception_two field first second n s a b c cut read also = rw (cut, read, also) refl

-- a number leaves the parts behind it
count_rest : (n : ℕ) (field : Part) (fields rest : List Part) (a b : Option ℕ) → count 0 4294967295 (field ∷ fields, a) ≡ Some (n, (rest, b)) → rest ≡ fields
unfolding count whole
count_rest n field fields rest a b read =
    step (whole (pos 0) (pos 4294967295) (field ∷ fields, a)) _ _ read (λ found is_found whole_is.
    step (whole_of field.bytes) _ _ is_found (λ m is_m found_is.
    by_test (is_within (pos 0) (pos 4294967295) m)
    (λ inside. ap (λ r. r.1.0) (sym (same_Some _ _ whole_is)) ∙ ap (λ r. r.1.0) (sym (same_Some _ _ (rw inside at found_is))))
    (λ outside. ap (λ r. r.1.0) (sym (same_Some _ _ whole_is)) ∙ ap (λ r. r.1.0) (sym (same_Some _ _ (rw outside at found_is))))))

-- three parts are no steps
steps_three : (first second : Part) (rest : List Part) (a : Option ℕ) → steps (first ∷ second ∷ rest) a ≡ None
unfolding steps
steps_three first second rest a = by_option (count 0 4294967295 (first ∷ second ∷ rest, a))
    (λ none. rw none refl)
    (λ r is. let left = count_rest r.0 first (second ∷ rest) r.1.0 a r.1.1 is in rw (is, left) refl)

-- a part always has a first piece
split_some : (bytes : List ℕ) → (first : List ℕ) × ((rest : List (List ℕ)) × (slice_split is_colon bytes ≡ first ∷ rest))
split_some [] = ([], ([], refl))
split_some (x ∷ xs) = by_test (is_colon x)
    (λ colon. ([], (slice_split is_colon xs, rw colon refl)))
    (λ other. let more = split_some xs in (x ∷ more.0, (more.1.0, rw (other, more.1.1) refl)))

cut_some : (at : ℕ) (bytes : List ℕ) → (first : Part) × ((rest : List Part) × (cut_at is_colon (record { at = at; bytes = bytes }) ≡ first ∷ rest))
cut_some at bytes =
    let parts = split_some bytes in
    (record { at = at; bytes = parts.0 }, (placed (at + length parts.0 + 1) parts.1.0, ap (placed at) parts.1.1))

pub exception_three : (field first second third : Part) (n : ℕ) (a b : Option ℕ) → cut_at is_colon field ≡ first ∷ second ∷ cut_at is_colon third
    → count 0 4294967295 (first ∷ second ∷ cut_at is_colon third, a) ≡ Some (n, (second ∷ cut_at is_colon third, b)) → exception field a ≡ None
unfolding exception
exception_three field first second third n a b cut read =
    let more = cut_some third.at third.bytes in
    let none : steps (second ∷ cut_at is_colon third) b ≡ None = rw more.1.1 (steps_three second more.0 more.1.0 b) in
    rw (cut, read, none) refl

-- a field that is read leaves fewer
pub fewer : (field : Part) (all fields : List Part) → all ≡ field ∷ fields → length fields < length all
fewer field all fields is = rw is (omega arith)
