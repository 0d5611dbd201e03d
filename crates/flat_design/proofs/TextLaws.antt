-- Texts that end so, and what stands before.
use Rattle.std.specs.Prelude.{◌≡◌, ◌≢◌, ℕ, ◌+◌, ◌-◌, drop, length, Bool, true, false, List, ◌++◌, Option, Some, None}
use Rattle.std.specs.Borrow.{Bor}
use Rattle.std.specs.Str.{bytes_eq}
use Rattle.std.proofs.Common.{true≢false, arith, sym, ◌∙◌, refl, ap, append_assoc}
use Rattle.std.proofs.lemmas.List.{append_cancel_right, length-append}
use Rattle.std.proofs.Math.Seq.{drop-append_seam}
use Rattle.std.proofs.lemmas.Slice.Eq.{bytes_eq-Decides}
use Rattle.flat_design.specs.Fronts.{IsBefore}

-- tests of texts that are equal together answer the same
pub same-tests : (x y s t : List ℕ) → (x ≡ y → s ≡ t) → (s ≡ t → x ≡ y) → bytes_eq x y ≡ bytes_eq s t
same-tests x y s t to from = by_both (bytes_eq x y) (bytes_eq s t) refl refl
  where
    by_both : (a b : Bool) → bytes_eq x y ≡ a → bytes_eq s t ≡ b → bytes_eq x y ≡ bytes_eq s t
    by_both true true e f = e ∙ sym f
    by_both false false e f = e ∙ sym f
    by_both true false e f = absurd (true≢false (sym ((bytes_eq-Decides s t).1 (to ((bytes_eq-Decides x y).0 e))) ∙ f))
    by_both false true e f = absurd (true≢false (sym ((bytes_eq-Decides x y).1 (from ((bytes_eq-Decides s t).0 f))) ∙ e))

pub differ-false : (x y : List ℕ) → (x ≡ y → ⊥) → bytes_eq x y ≡ false
differ-false x y never = by_test (bytes_eq x y) refl
  where
    by_test : (a : Bool) → bytes_eq x y ≡ a → bytes_eq x y ≡ false
    by_test true e = absurd (never ((bytes_eq-Decides x y).0 e))
    by_test false e = e

-- a text before an end is tested without the end
pub test-before : (front text before end : List ℕ) → text ≡ before ++ end → bytes_eq (front ++ end) text ≡ bytes_eq front before
test-before front text before end is =
    same-tests (front ++ end) text front before
    (λ same. append_cancel_right front before end (same ∙ is))
    (λ same. ap (λ x. x ++ end) same ∙ sym is)

pub test-none : (front text end : List ℕ) → ((before : List ℕ) → text ≢ before ++ end) → bytes_eq (front ++ end) text ≡ false
test-none front text end none = differ-false (front ++ end) text (λ same. none front (sym same))

-- an end of two parts
pub before-more : (text mid first second : List ℕ) (result : Option (Bor (List ℕ))) → text ≡ mid ++ second → IsBefore mid first result → IsBefore text (first ++ second) result
before-more text mid first second None is none = λ before same.
    none before (append_cancel_right mid (before ++ first) second (sym is ∙ (same ∙ sym (append_assoc before first second))))
before-more text mid first second (Some b) is some = is ∙ (ap (λ x. x ++ second) some ∙ append_assoc b.now first second)

pub none-more : (text first second : List ℕ) → ((before : List ℕ) → text ≢ before ++ second) → (before : List ℕ) → text ≢ before ++ (first ++ second)
none-more text first second none before same = none (before ++ first) (same ∙ sym (append_assoc before first second))

-- the end of a text, by its length
pub end-of : (text before end : List ℕ) → text ≡ before ++ end → drop (length text - length end) text ≡ end
end-of text before end is =
    let size : length text ≡ length before + length end = ap length is ∙ length-append before end in
    let left : length text - length end ≡ length before = omega (arith, size) in
    ap (λ n. drop n text) left ∙ (ap (drop (length before)) is ∙ drop-append_seam before end)
