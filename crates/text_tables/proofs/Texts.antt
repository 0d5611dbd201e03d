-- Texts as bytes: which are equal.
use Rattle.std.proofs.Common.{◌≡◌, ℕ, ◌==◌, Bool, true, false, List, [], ◌∷◌, refl, sym, ◌∙◌}
use Rattle.std.specs.Str.{bytes_eq}
use Rattle.std.proofs.lemmas.Bool.{and_parts, eq-eqb, eqb-true}

pub by_test : {P : Type 0} (test : Bool) → (test ≡ true → P) → (test ≡ false → P) → P
by_test true holds fails = holds refl
by_test false holds fails = fails refl

pub texts_same : (a b : List ℕ) → bytes_eq a b ≡ true → a ≡ b
texts_same [] [] same = refl
texts_same [] (b ∷ bs) same = absurd (cc)
texts_same (x ∷ xs) [] same = absurd (cc)
texts_same (x ∷ xs) (b ∷ bs) same =
    let parts = and_parts (x == b) (bytes_eq xs bs) same in
    rw (eqb-true x b parts.0, texts_same xs bs parts.1) refl

pub text_itself : (b : List ℕ) → bytes_eq b b ≡ true
text_itself [] = refl
text_itself (b ∷ bs) = rw (eq-eqb b b refl) (text_itself bs)

pub texts_turned : (a b : List ℕ) → bytes_eq a b ≡ bytes_eq b a
texts_turned a b =
    by_test (bytes_eq a b)
    (λ same. same ∙ sym (rw (texts_same a b same) (text_itself b)))
    (λ other. other ∙ sym (by_test (bytes_eq b a) (λ same. absurd (let e = rw (texts_same b a same) at other in let itself = text_itself a in cc)) (λ o. o)))
