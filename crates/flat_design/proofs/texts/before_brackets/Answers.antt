use Rattle.std.proofs.Common.{◌≡◌, ◌≢◌, ℕ, List, [], ◌∷◌, ◌++◌, Option, Some, None, sym, ◌∙◌, ap, subst, decimal}
use Rattle.std.specs.Borrow.{Bor}
use Rattle.flat_design.specs.Fronts.{brackets, IsBefore}
use Rattle.flat_design.proofs.TextLaws.{before-more, none-more}
use Rattle.flat_design.proofs.texts.before_brackets.Goals as goal

no-end : (text : List ℕ) (bit : Option ℕ) (n : ℕ) → bit ≡ Some n → ((before : List ℕ) → text ≢ before ++ 93 ∷ []) → (before : List ℕ) → text ≢ before ++ brackets bit
no-end text bit n is none =
    subst (λ (o : Option ℕ). (before : List ℕ) → text ≢ before ++ brackets o) (sym is) (none-more text (91 ∷ decimal n) (93 ∷ []) none)

no-number : (text mid digits : List ℕ) (bit : Option ℕ) (n : ℕ) → bit ≡ Some n → text ≡ mid ++ 93 ∷ [] → digits ≡ decimal n
    → ((before : List ℕ) → mid ≢ before ++ digits) → (before : List ℕ) → text ≢ before ++ brackets bit
no-number text mid digits bit n is end are none =
    subst (λ (o : Option ℕ). (before : List ℕ) → text ≢ before ++ brackets o) (sym is)
    (before-more text mid (91 ∷ decimal n) (93 ∷ []) None end (none-more mid (91 ∷ []) (decimal n) (λ before same. none before (same ∙ ap (λ ds. before ++ ds) (sym are)))))

last : (text mid first digits : List ℕ) (bit : Option ℕ) (n : ℕ) (result : Option (Bor (List ℕ))) → bit ≡ Some n → text ≡ mid ++ 93 ∷ [] → mid ≡ first ++ digits → digits ≡ decimal n
    → IsBefore first (91 ∷ []) result → IsBefore text (brackets bit) result
last text mid first digits bit n result is end number are before =
    subst (λ (o : Option ℕ). IsBefore text (brackets o) result) (sym is)
    (before-more text mid (91 ∷ decimal n) (93 ∷ []) result end
    (before-more mid first (91 ∷ []) (decimal n) result (number ∙ ap (λ ds. first ++ ds) are) before))

pub returns-in_default-before_end-clause-before : goal.returns-in_default-before_end-clause-before
returns-in_default-before_end-clause-before c = no-end c.args.text.now c.args.bit c.in-Some.number c.in-Some.is c.in_default-before_end.ensures

pub returns-in_default-before_end-2-clause-before : goal.returns-in_default-before_end-2-clause-before
returns-in_default-before_end-2-clause-before c =
    no-number c.args.text.now c.in-Some-before_end.text.now c.as_bytes.result.now c.args.bit c.in-Some.number c.in-Some.is c.in-Some-before_end.ensures (c.as_bytes.ensures.value ∙ c.format.ensures.text) c.in_default-before_end-2.ensures

pub returns-clause-before : goal.returns-clause-before
returns-clause-before c =
    last c.args.text.now c.in-Some-before_end.text.now c.in-Some-before_end-2.text.now c.as_bytes.result.now c.args.bit c.in-Some.number c.before_end-3.result c.in-Some.is c.in-Some-before_end.ensures c.in-Some-before_end-2.ensures
    (c.as_bytes.ensures.value ∙ c.format.ensures.text) c.before_end-3.ensures
