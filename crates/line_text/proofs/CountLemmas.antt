-- Rows of numbers that are read field by field.
use Rattle.std.proofs.Common.{◌≡◌, ℕ, pos, ◌<◌, Option, Some, None, List, [], ◌∷◌, ◌++◌, length, refl, sym, ap, ◌∙◌, arith, append_assoc}
use Rattle.std.proofs.lemmas.List.{append-nil}
use Rattle.std.proofs.lemmas.Option.{same_Some}
use Rattle.text_scan.specs.Left.{◌>>=◌}
use Rattle.text_scan.proofs.Binds.{step, by_test}
use Rattle.line_text.specs.Parts.{Part}
use Rattle.line_text.specs.Numbers.{whole, count, whole_of, is_within}
use Rattle.line_text.specs.Names.{counts}

-- what is read, with these numbers before it
abbrev pub with_numbers : List ℕ → Option (List ℕ × Option ℕ) → Option (List ℕ × Option ℕ)
with_numbers front read = do
  (ns, last) ← read
  Some (front ++ ns, last)

-- a number is the next field, and the others stay
count_rest : (least most n : ℕ) (field : Part) (fields rest : List Part) (a b : Option ℕ) → count least most (field ∷ fields, a) ≡ Some (n, (rest, b)) → rest ≡ fields
unfolding count whole
count_rest least most n field fields rest a b read =
    step (whole (pos least) (pos most) (field ∷ fields, a)) _ _ read (λ found is_found whole_is.
    step (whole_of field.bytes) _ _ is_found (λ m is_m found_is.
    by_test (is_within (pos least) (pos most) m)
    (λ inside. ap (λ r. r.1.0) (sym (same_Some _ _ whole_is)) ∙ ap (λ r. r.1.0) (sym (same_Some _ _ (rw inside at found_is))))
    (λ outside. ap (λ r. r.1.0) (sym (same_Some _ _ whole_is)) ∙ ap (λ r. r.1.0) (sym (same_Some _ _ (rw outside at found_is))))))

-- where no field is left there is no number
count_none : (least most : ℕ) (a : Option ℕ) → count least most ([], a) ≡ None
unfolding count whole
count_none least most a = refl

-- numbers before numbers
with_numbers-append : (front : List ℕ) (n : ℕ) (read : Option (List ℕ × Option ℕ))
    → with_numbers front (read >>= λ r. Some (n ∷ r.0, r.1)) ≡ with_numbers (front ++ n ∷ []) read
with_numbers-append front n None = refl
with_numbers-append front n (Some r) = ap (λ ns. Some (ns, r.1)) (sym (append_assoc front (n ∷ []) r.0))

-- the next field is read
pub counts_turn : (least most : ℕ) (front : List ℕ) (n : ℕ) (all rest : List Part) (a b : Option ℕ) → count least most (all, a) ≡ Some (n, (rest, b))
    → with_numbers front (counts least most all a) ≡ with_numbers (front ++ n ∷ []) (counts least most rest b)
unfolding counts
counts_turn least most front n [] rest a b read = (let none = count_none least most a in absurd (cc))
counts_turn least most front n (field ∷ fields) rest a b read =
    let same = count_rest least most n field fields rest a b read in
    rw (read, same) (with_numbers-append front n (counts least most fields b))

-- there is a next field, and it can't be read
pub counts_fails : (least most : ℕ) (front : List ℕ) (field : Part) (all fields : List Part) (a : Option ℕ) → all ≡ field ∷ fields → count least most (all, a) ≡ None
    → with_numbers front (counts least most all a) ≡ None
unfolding counts
counts_fails least most front field all fields a is none = rw (is, (rw is at none)) refl

-- there is no next field
pub counts_ends : (least most : ℕ) (front : List ℕ) (all : List Part) (a : Option ℕ) → all ≡ [] → with_numbers front (counts least most all a) ≡ Some (front, a)
unfolding counts
counts_ends least most front all a none = rw none (ap (λ ns. Some (ns, a)) (append-nil front))

-- a read field leaves fewer
pub fields_fewer : (least most n : ℕ) (all rest : List Part) (a b : Option ℕ) → count least most (all, a) ≡ Some (n, (rest, b)) → length rest < length all
fields_fewer least most n [] rest a b read = (let none = count_none least most a in absurd (cc))
fields_fewer least most n (field ∷ fields) rest a b read = let same = count_rest least most n field fields rest a b read in rw same (omega arith)
