-- Laws of steps, classes and requirements.
use Rattle.std.specs.Prelude.{◌≡◌, ℕ, zero, suc, ◌-◌, ◌<◌, ◌≤◌, ◌==◌, ◌&&◌, ◌⊎◌, nat_lt, Bool, true, false, List, [], ◌∷◌, ◌++◌, map, filter, length, take, slice_index_or, All, AllPairs, if◌then◌else◌}
use Rattle.std.specs.List.{list_any}
use Rattle.std.proofs.Common.{true≢false, arith, sym, ◌∙◌, refl, inl, inr, ap, eq-eqb}
use Rattle.std.proofs.lemmas.List.Elements.{All-head, All-tail}
use Rattle.std.specs.Prelude.{find, None}
use Rattle.bud_base.specs.declared.ids.PinId.{PinId}
use Rattle.bud_design.specs.Exceptions.{steps, PassInTurn, has_pin, group_after, groups_of, step_at, class_at, meets_from, meets_to, matches, class_of, has_met, class_requirement, requirement}
use Rattle.bud_design.specs.declared.clocks.Exception.{Exception}
use Rattle.bud_design.specs.declared.clocks.Launch.{Launch}
use Rattle.bud_design.specs.declared.clocks.Capture.{Capture}
use Rattle.bud_design.specs.declared.clocks.Constraints.{Constraints}
use Rattle.bud_design.specs.declared.layers.Met.{Met}

pub one-more : (v : ℕ) (vs : List ℕ) (gs : List (List PinId)) → PassInTurn vs gs → PassInTurn (v ∷ vs) gs
one-more v vs [] passes = tt
one-more v vs (g ∷ gs) passes = inr passes

pub one-fewer : (vs : List ℕ) (g : List PinId) (gs : List (List PinId)) → PassInTurn vs (g ∷ gs) → PassInTurn vs gs
one-fewer [] g gs passes = absurd passes
one-fewer (v ∷ vs) g gs (inl both) = one-more v vs gs both.1
one-fewer (v ∷ vs) g gs (inr later) = one-more v vs gs (one-fewer vs g gs later)

passes-at : {P Q : Type 0} (b : Bool) (h : Bool) (j s t : ℕ) → h ≡ b → suc j ≤ (if b then suc s else t) → (j ≤ s → P) → (suc j ≤ t → Q) → ((h ≡ true) × P) ⊎ Q
passes-at true h j s t e most first later = inl (e, first (omega (arith, most)))
passes-at false h j s t e most first later = inr (later most)

-- the pins pass the first j groups in turn where j is at most their steps
pub steps-pass : (vs : List ℕ) (gs : List (List PinId)) (j : ℕ) → j ≤ steps vs gs → PassInTurn vs (take j gs)
steps-pass vs gs zero most = tt
steps-pass [] gs (suc j) most = absurd (omega (arith, most))
steps-pass (v ∷ vs) [] (suc j) most = absurd (omega (arith, most))
steps-pass (v ∷ vs) (g ∷ gs) (suc j) most =
    passes-at (has_pin g v) (has_pin g v) j (steps vs gs) (steps vs (g ∷ gs)) refl most (λ m. steps-pass vs gs j m) (λ m. steps-pass vs (g ∷ gs) (suc j) m)

steps-at : {P Q : Type 0} (b : Bool) (h : Bool) (j s t : ℕ) → h ≡ b → ((h ≡ true) × P) ⊎ Q → (P → j ≤ s) → (Q → j ≤ s) → (Q → suc j ≤ t) → suc j ≤ (if b then suc s else t)
steps-at true h j s t e (inl both) first fewer later = omega (arith, first both.1)
steps-at true h j s t e (inr q) first fewer later = omega (arith, fewer q)
steps-at false h j s t e (inl both) first fewer later = absurd (true≢false (sym both.0 ∙ e))
steps-at false h j s t e (inr q) first fewer later = later q

-- and only there
pub pass-steps : (vs : List ℕ) (gs : List (List PinId)) (j : ℕ) → j ≤ length gs → PassInTurn vs (take j gs) → j ≤ steps vs gs
pass-steps vs gs zero within passes = omega arith
pass-steps vs [] (suc j) within passes = absurd (omega (arith, within))
pass-steps [] (g ∷ gs) (suc j) within passes = absurd passes
pass-steps (v ∷ vs) (g ∷ gs) (suc j) within passes =
    steps-at (has_pin g v) (has_pin g v) j (steps vs gs) (steps vs (g ∷ gs)) refl passes
    (λ p. pass-steps vs gs j (omega (arith, within)) p) (λ q. pass-steps vs gs j (omega (arith, within)) (one-fewer vs g (take j gs) q)) (λ q. pass-steps vs (g ∷ gs) (suc j) within q)

any-map : {A B : Type 0} (p : B → Bool) (f : A → B) (q : A → Bool) (xs : List A) → list_any p (map f (filter q xs)) ≡ list_any (λ x. q x && p (f x)) xs
any-map p f q [] = refl
any-map {A} {B} p f q (x ∷ xs) = any-kept p f q x xs (q x) refl (any-map p f q xs)
  where
    any-kept : (p : B → Bool) (f : A → B) (q : A → Bool) (x : A) (xs : List A) (b : Bool) → q x ≡ b → list_any p (map f (filter q xs)) ≡ list_any (λ y. q y && p (f y)) xs
        → list_any p (map f (filter q (x ∷ xs))) ≡ list_any (λ y. q y && p (f y)) (x ∷ xs)
    any-kept p f q x xs true e rest = rw (e, rest) refl
    any-kept p f q x xs false e rest = rw (e, rest) refl

pub pairs-head : {A : Type 0} (R : A → A → Type 0) (x : A) (xs : List A) → AllPairs R (x ∷ xs) → All (R x) xs
pairs-head R x xs all k d below = all 0 (suc k) d (omega arith) (omega (arith, below))

pub pairs-tail : {A : Type 0} (R : A → A → Type 0) (x : A) (xs : List A) → AllPairs R (x ∷ xs) → AllPairs R xs
pairs-tail R x xs all i j d less below = all (suc i) (suc j) d (omega (arith, less)) (omega (arith, below))

filter-same : {A : Type 0} (p q : A → Bool) (xs : List A) → ((k : ℕ) (d : A) → k < length xs → p (slice_index_or xs k d) ≡ q (slice_index_or xs k d)) → filter p xs ≡ filter q xs
filter-same p q [] same = refl
filter-same p q (x ∷ xs) same =
    let here = same 0 x (omega arith) in
    let rest = filter-same p q xs (λ k d below. same (suc k) d (omega (arith, below))) in
    rw (here, rest) refl

and-shuffle : (a b c : Bool) → (a && b) && c ≡ a && (c && b)
and-shuffle true true true = refl
and-shuffle true true false = refl
and-shuffle true false true = refl
and-shuffle true false false = refl
and-shuffle false b c = refl

-- no exception of a greater number is the one
none-greater : (e : Exception) (from s : Exception → Bool) (es : List Exception) → All (λ g. nat_lt e.number g.number ≡ true) es → list_any (λ g. from g && (g.number == e.number && s g)) es ≡ false
none-greater e from s [] above = refl
none-greater e from s (g ∷ gs) above =
    let here : (g.number == e.number) ≡ false = grind (arith, above 0 g (omega arith)) in
    let rest = none-greater e from s gs (λ k d below. above (suc k) d (omega (arith, below))) in
    rw (here, rest) (grind arith)

-- among exceptions of different numbers the one of a number is found
found-alone : (from : Exception → Bool) (s : Exception → Exception → Bool) (es : List Exception) (k : ℕ) (d : Exception) → AllPairs (λ e f. nat_lt e.number f.number ≡ true) es → k < length es →
    list_any (λ g. from g && (g.number == (slice_index_or es k d).number && s g (slice_index_or es k d))) es ≡ from (slice_index_or es k d) && s (slice_index_or es k d) (slice_index_or es k d)
found-alone from s [] k d rise below = absurd (omega (arith, below))
found-alone from s (e ∷ es) zero d rise below =
    let none = none-greater e from (λ g. s g e) es (pairs-head (λ x y. nat_lt x.number y.number ≡ true) e es rise) in
    rw none (grind arith)
found-alone from s (e ∷ es) (suc k) d rise below =
    let less = pairs-head (λ x y. nat_lt x.number y.number ≡ true) e es rise k d (omega (arith, below)) in
    let other : (e.number == (slice_index_or es k d).number) ≡ false = grind (arith, less) in
    rw other (grind (arith, found-alone from s es k d (pairs-tail (λ x y. nat_lt x.number y.number ≡ true) e es rise) (omega (arith, below))))

-- a class lists an exception with all its steps met exactly where the launch meets its from-part and the pins pass all its groups
class-lists : (all : Constraints) (l : Launch) (vs : List ℕ) (k : ℕ) (d : Exception) → AllPairs (λ e f. nat_lt e.number f.number ≡ true) all.exceptions → k < length all.exceptions →
    has_met (class_of all l vs) (slice_index_or all.exceptions k d) ≡ meets_from (slice_index_or all.exceptions k d) l && steps vs (slice_index_or all.exceptions k d).groups == length (slice_index_or all.exceptions k d).groups
class-lists all l vs k d rise below =
    any-map (λ (m : Met). m.number == (slice_index_or all.exceptions k d).number && m.steps == length (slice_index_or all.exceptions k d).groups)
    (λ (e : Exception). record { number = e.number; steps = steps vs e.groups }) (λ (e : Exception). meets_from e l) all.exceptions
    ∙ found-alone (λ (e : Exception). meets_from e l) (λ (g e : Exception). steps vs g.groups == length e.groups) all.exceptions k d rise below

-- the requirement of a launch, a path from it and a capture is that by the class of launch and path
pub class-decides-requirement : (all : Constraints) (l : Launch) (vs : List ℕ) (x : Capture) → AllPairs (λ e f. nat_lt e.number f.number ≡ true) all.exceptions →
    class_requirement all (class_of all l vs) x ≡ requirement all l vs x
class-decides-requirement all l vs x rise =
    rw (filter-same (λ (e : Exception). has_met (class_of all l vs) e && meets_to e x) (λ (e : Exception). matches e l vs x) all.exceptions
    (λ k d below. rw (class-lists all l vs k d rise below)
    (and-shuffle (meets_from (slice_index_or all.exceptions k d) l) (steps vs (slice_index_or all.exceptions k d).groups == length (slice_index_or all.exceptions k d).groups) (meets_to (slice_index_or all.exceptions k d) x)))) refl

group-suc : (k : ℕ) (g : List PinId) (gs : List (List PinId)) → group_after (suc k) (g ∷ gs) ≡ group_after k gs
group-suc k g gs =
    let not_first : (suc k == 0) ≡ false = grind arith in
    let before : suc k - 1 ≡ k = omega arith in
    rw (not_first, before) refl

abbrev after : ℕ → List (List PinId) → ℕ → ℕ
after s gs v = if has_pin (group_after s gs) v then suc s else s

after-suc : (s : ℕ) (g : List PinId) (gs : List (List PinId)) (v : ℕ) (b : Bool) → has_pin (group_after s gs) v ≡ b → suc (after s gs v) ≡ after (suc s) (g ∷ gs) v
after-suc s g gs v b e = rw (group-suc s g gs) (suc-if (has_pin (group_after s gs) v) s)
  where
    suc-if : (b : Bool) (s : ℕ) → suc (if b then suc s else s) ≡ (if b then suc (suc s) else suc s)
    suc-if true s = refl
    suc-if false s = refl

steps-more-at : (b h : Bool) (s t : ℕ) (s' t' : ℕ) (g : List PinId) (gs : List (List PinId)) (v : ℕ) → h ≡ b → s' ≡ after s gs v → t' ≡ after t (g ∷ gs) v →
    (if h then suc s' else t') ≡ after (if h then suc s else t) (g ∷ gs) v
steps-more-at true h s t s' t' g gs v e es et = rw (e, es) (after-suc s g gs v (has_pin (group_after s gs) v) refl)
steps-more-at false h s t s' t' g gs v e es et = rw (e, et) refl

-- one pin more is one step more where the pin lies in the next group
pub steps-more : (vs : List ℕ) (gs : List (List PinId)) (v : ℕ) → steps (vs ++ v ∷ []) gs ≡ after (steps vs gs) gs v
steps-more [] [] v = refl
steps-more [] (g ∷ gs) v = refl
steps-more (u ∷ vs) [] v = refl
steps-more (u ∷ vs) (g ∷ gs) v =
    steps-more-at (has_pin g u) (has_pin g u) (steps vs gs) (steps vs (g ∷ gs)) (steps (vs ++ v ∷ []) gs) (steps (vs ++ v ∷ []) (g ∷ gs)) g gs v refl (steps-more vs gs v) (steps-more vs (g ∷ gs) v)

-- no exception of a greater number has the number
none-found : (e : Exception) (es : List Exception) → All (λ g. nat_lt e.number g.number ≡ true) es → (n : ℕ) → n ≡ e.number → find (λ g. g.number == n) es ≡ None
none-found e [] above n is = refl
none-found e (g ∷ gs) above n is =
    let other : (g.number == n) ≡ false = grind (arith, above 0 g (omega arith), is) in
    rw other (none-found e gs (λ k d below. above (suc k) d (omega (arith, below))) n is)

-- the groups of an exception's number are its own
pub groups_of-own : (es : List Exception) → AllPairs (λ e f. nat_lt e.number f.number ≡ true) es → All (λ e. groups_of es e.number ≡ e.groups) es
groups_of-own [] rise k d below = absurd (omega (arith, below))
groups_of-own (e ∷ es) rise zero d below = rw (eq-eqb e.number e.number refl) refl
groups_of-own (e ∷ es) rise (suc k) d below =
    let less = pairs-head (λ x y. nat_lt x.number y.number ≡ true) e es rise k d (omega (arith, below)) in
    let other : (e.number == (slice_index_or es k d).number) ≡ false = grind (arith, less) in
    rw other (groups_of-own es (pairs-tail (λ x y. nat_lt x.number y.number ≡ true) e es rise) k d (omega (arith, below)))

abbrev pub met_of : List ℕ → Exception → Met
met_of vs e = record { number = e.number; steps = steps vs e.groups }

met-more : (all es : List Exception) (vs : List ℕ) (v : ℕ) (p : Exception → Bool) → All (λ e. groups_of all e.number ≡ e.groups) es
    → map (step_at all v) (map (met_of vs) (filter p es)) ≡ map (met_of (vs ++ v ∷ [])) (filter p es)
met-more all [] vs v p own = refl
met-more all (e ∷ es) vs v p own = met-kept (p e) (met-more all es vs v p (All-tail (λ x. groups_of all x.number ≡ x.groups) e es own))
  where
    one : step_at all v (met_of vs e) ≡ met_of (vs ++ v ∷ []) e
    one =
        ap (λ gs. record { number = e.number; steps = after (steps vs e.groups) gs v }) (All-head (λ e. groups_of all e.number ≡ e.groups) e es own)
        ∙ ap (λ n. record { number = e.number; steps = n }) (sym (steps-more vs e.groups v))

    met-kept : (b : Bool) → map (step_at all v) (map (met_of vs) (filter p es)) ≡ map (met_of (vs ++ v ∷ [])) (filter p es)
        → map (step_at all v) (map (met_of vs) (if b then e ∷ filter p es else filter p es)) ≡ map (met_of (vs ++ v ∷ [])) (if b then e ∷ filter p es else filter p es)
    met-kept true rest = rw (one, rest) refl
    met-kept false rest = rest

-- the class behind one more pin is that of the pins with one more
pub class_at-more : (all : Constraints) (l : Launch) (vs : List ℕ) (v : ℕ) → AllPairs (λ e f. nat_lt e.number f.number ≡ true) all.exceptions
    → class_at all (class_of all l vs) v ≡ class_of all l (vs ++ v ∷ [])
class_at-more all l vs v rise =
    ap (λ ms. record { clock = l.clock; edge = l.edge; exceptions = ms }) (met-more all.exceptions all.exceptions vs v (λ e. meets_from e l) (groups_of-own all.exceptions rise))
