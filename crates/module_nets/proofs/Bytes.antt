-- Names as bytes: which are the same.
use Rattle.std.proofs.Common.{◌≡◌, ℕ, ◌==◌, Bool, true, false, List, [], ◌∷◌, refl, sym, ◌∙◌}
use Rattle.std.specs.Str.{bytes_eq}
use Rattle.std.proofs.lemmas.Bool.{and_parts, eq-eqb, eqb-true}

pub by_test : {P : Type 0} (test : Bool) → (test ≡ true → P) → (test ≡ false → P) → P
by_test true holds fails = holds refl
by_test false holds fails = fails refl

pub bytes_same : (a b : List ℕ) → bytes_eq a b ≡ true → a ≡ b
bytes_same [] [] same = refl
bytes_same [] (b ∷ bs) same = absurd (cc)
bytes_same (x ∷ xs) [] same = absurd (cc)
bytes_same (x ∷ xs) (b ∷ bs) same =
    let parts = and_parts (x == b) (bytes_eq xs bs) same in
    rw (eqb-true x b parts.0, bytes_same xs bs parts.1) refl

pub bytes_itself : (b : List ℕ) → bytes_eq b b ≡ true
bytes_itself [] = refl
bytes_itself (b ∷ bs) = rw (eq-eqb b b refl) (bytes_itself bs)

pub bytes_turned : (a b : List ℕ) → bytes_eq a b ≡ bytes_eq b a
bytes_turned a b =
    by_test (bytes_eq a b)
    (λ same. same ∙ sym (rw (bytes_same a b same) (bytes_itself b)))
    (λ other. other ∙ sym (by_test (bytes_eq b a) (λ same. absurd (let e = rw (bytes_same b a same) at other in let itself = bytes_itself a in cc)) (λ o. o)))
