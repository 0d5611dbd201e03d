-- The exception of a number, found by the place before which numbers are less.
use Rattle.std.specs.Prelude.{◌≡◌, ℕ, zero, suc, ◌<◌, ◌≤◌, ◌==◌, ◌&&◌, nat_lt, Bool, true, false, List, [], ◌∷◌, length, drop, find, Some, None, slice_index_or, All, AllPairs, if◌then◌else◌}
use Rattle.std.proofs.Common.{refl, sym, ◌∙◌, ap, arith}
use Rattle.std.proofs.lemmas.List.Elements.{All-head, All-tail}
use Rattle.std.specs.List.Sorted.{IsNonDecreasingBy}
use Rattle.bud_design.proofs.ClassLaws.{pairs-head, pairs-tail}
use Rattle.bud_design.specs.declared.clocks.Capture.{Capture}
use Rattle.bud_design.specs.declared.clocks.Exception.{Exception}
use Rattle.bud_design.specs.declared.layers.Met.{Met}
use Rattle.bud_design.specs.Exceptions.{meets_to}
use Rattle.path_requirements.specs.Matching.{first_of, kind_where, kind_met}

abbrev pub Rise : List Exception → Type 0
Rise es = AllPairs (λ e f. nat_lt e.number f.number ≡ true) es

greater-none : (es : List Exception) (n : ℕ) → All (λ e. n < e.number) es → find (λ e. e.number == n) es ≡ None
greater-none [] n above = refl
greater-none (e ∷ es) n above =
    let other : (e.number == n) ≡ false = grind (arith, All-head (λ (e : Exception). n < e.number) e es above) in
    rw other (greater-none es n (All-tail (λ (e : Exception). n < e.number) e es above))

-- numbers that rise never fall
pub Rise-non_decreasing : (es : List Exception) → Rise es → IsNonDecreasingBy (λ e. e.number) es
Rise-non_decreasing es rise i j d most within = by_same (i == j) refl
  where
    by_same : (b : Bool) → (i == j) ≡ b → (slice_index_or es i d).number ≤ (slice_index_or es j d).number
    by_same true same = let equal : i ≡ j = grind arith in rw equal (omega arith)
    by_same false other =
        let less : i < j = grind arith in
        let lower = rise i j d less within in
        grind arith

-- the exception of the number stands first behind all of lesser numbers
pub find-at : (es : List Exception) (n i : ℕ) → Rise es → i ≤ length es → ((k : ℕ) (d : Exception) → k < i → (slice_index_or es k d).number < n)
    → ((k : ℕ) (d : Exception) → i ≤ k → k < length es → n ≤ (slice_index_or es k d).number) → find (λ e. e.number == n) es ≡ first_of (drop i es) n
find-at [] n zero rise within below above = refl
find-at [] n (suc i) rise within below above = refl
find-at (e ∷ es) n zero rise within below above = by_first (e.number == n) refl
  where
    by_first : (b : Bool) → (e.number == n) ≡ b → find (λ e. e.number == n) (e ∷ es) ≡ (if e.number == n then Some e else None)
    by_first true same = rw same refl
    by_first false other =
        let here : n ≤ e.number = above 0 e (omega arith) (omega arith) in
        let less : n < e.number = grind arith in
        rw other
        (greater-none es n (λ k d inside.
        let later = pairs-head (λ x y. nat_lt x.number y.number ≡ true) e es rise k d inside in
        let after : e.number < (slice_index_or es k d).number = grind arith in
        omega (arith, less, after)))
find-at (e ∷ es) n (suc i) rise within below above =
    let here : e.number < n = below 0 e (omega arith) in
    let other : (e.number == n) ≡ false = grind arith in
    rw other
    (find-at es n i (pairs-tail (λ x y. nat_lt x.number y.number ≡ true) e es rise) (omega (arith, within)) (λ k d less. below (suc k) d (omega (arith, less)))
    (λ k d most inside. above (suc k) d (omega (arith, most)) (omega (arith, inside))))

pub kind-past : (es : List Exception) (x : Capture) (m : Met) (i : ℕ) → i ≡ length es → find (λ e. e.number == m.number) es ≡ first_of (drop i es) m.number → kind_met es x m ≡ None
kind-past es x m i past found = ap (λ o. kind_where o x m) (found ∙ past_none es m.number i past)
  where
    past_none : (es : List Exception) (n i : ℕ) → i ≡ length es → first_of (drop i es) n ≡ None
    past_none [] n zero past = refl
    past_none [] n (suc i) past = refl
    past_none (e ∷ es) n zero past = absurd (omega (arith, past))
    past_none (e ∷ es) n (suc i) past = past_none es n i (omega (arith, past))

pub kind-here : (es : List Exception) (x : Capture) (m : Met) (i : ℕ) (e : Exception) → i < length es → e ≡ slice_index_or es i e → find (λ e. e.number == m.number) es ≡ first_of (drop i es) m.number
    → kind_met es x m ≡ (if e.number == m.number && (m.steps == length e.groups && meets_to e x) then Some e.kind else None)
kind-here es x m i e within is found = ap (λ o. kind_where o x m) (found ∙ (first es m.number i e within ∙ ap (λ f. if f.number == m.number then Some f else None) (sym is))) ∙ by_number (e.number == m.number) refl
  where
    first : (es : List Exception) (n i : ℕ) (d : Exception) → i < length es → first_of (drop i es) n ≡ (if (slice_index_or es i d).number == n then Some (slice_index_or es i d) else None)
    first [] n i d within = absurd (omega (arith, within))
    first (e ∷ es) n zero d within = refl
    first (e ∷ es) n (suc i) d within = first es n i d (omega (arith, within))

    by_number : (b : Bool) → (e.number == m.number) ≡ b → kind_where (if e.number == m.number then Some e else None) x m ≡ (if e.number == m.number && (m.steps == length e.groups && meets_to e x) then Some e.kind else None)
    by_number true same = rw same refl
    by_number false other = rw other refl
