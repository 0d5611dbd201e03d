-- The pins of groups, gathered one by one, group by group, and exception by exception.
use Rattle.std.proofs.Common.{◌≡◌, ℕ, suc, ◌+◌, ◌-◌, ◌<◌, ◌≤◌, ◌==◌, ◌&&◌, ◌||◌, not, Bool, true, false, List, [], ◌∷◌, ◌++◌, length, get_or, take, refl, sym, ◌∙◌, ap, arith, inl, inr, if◌then◌else◌, true≢false}
use Rattle.std.specs.List.{list_any}
use Rattle.std.proofs.lemmas.Bool.{cases_eq, ne_eqb}
use Rattle.std.proofs.lemmas.List.{take_more, take_all, length-take-le}
use Rattle.std.proofs.lemmas.List.Folds.{list_any-append}
use Rattle.indexmap.specs.IndexSet.{insert_key}
use Rattle.bud_base.specs.declared.ids.PinId.{PinId}
use Rattle.bud_design.specs.declared.clocks.Exception.{Exception}
use Rattle.bud_design.specs.Exceptions.{has_pin, group_after}
use Rattle.class_steps.specs.Groups.{same_pin, holds, has_number, is_passed}
use Rattle.class_steps.specs.declared.groups.GroupPin.{GroupPin}

by_test : {P : Type 0} (test : Bool) → (test ≡ true → P) → (test ≡ false → P) → P
by_test true holds fails = holds refl
by_test false holds fails = fails refl

or-none : (a : Bool) → (a || false) ≡ a
or-none true = refl
or-none false = refl

and-none : (a : Bool) → (a && false) ≡ false
and-none true = refl
and-none false = refl

turned : (x y : ℕ) → (x == y) ≡ (y == x)
turned x y = elim (cases_eq x y) [
  | inl same ↦ rw same refl
  | inr other ↦ ne_eqb x y other ∙ sym (ne_eqb y x (λ e. other (sym e)))
]

-- ---- one pin more
same-turned : (p q : GroupPin) → same_pin p q ≡ same_pin q p
same-turned p q = rw (turned p.number q.number, turned p.steps q.steps, turned p.pin.0 q.pin.0) refl

same-decides : (p q : GroupPin) → same_pin p q ≡ true → p ≡ q
same-decides p q equal =
    let numbers : p.number ≡ q.number = grind (arith, equal) in
    let steps : p.steps ≡ q.steps = grind (arith, equal) in
    let pins : p.pin.0 ≡ q.pin.0 = grind (arith, equal) in
    rw (numbers, steps, pins) refl

pub holds-inserted : (old new : List GroupPin) (p : GroupPin) → new ≡ insert_key same_pin old p → (q : GroupPin) → holds new q ≡ (holds old q || same_pin p q)
holds-inserted old new p inserted q =
    by_test (holds old p)
    (λ present.
    let is : new ≡ old = inserted ∙ rw present refl in
    ap (λ ps. holds ps q) is
    ∙ by_test (same_pin p q)
    (λ same. let there : holds old q ≡ true = ap (holds old) (sym (same-decides p q same)) ∙ present in rw there refl)
    (λ other. rw other (sym (or-none (holds old q)))))
    (λ absent.
    let is : new ≡ old ++ p ∷ [] = inserted ∙ rw absent refl in
    ap (λ ps. holds ps q) is
    ∙ (list_any-append (λ x. same_pin q x) old (p ∷ []) ∙ ap (λ b. holds old q || b) (or-none (same_pin q p) ∙ same-turned q p)))

-- ---- one pin of a group more
group-pin : (h a b c d : Bool) → ((h || (a && (b && c))) || (a && (b && d))) ≡ (h || (a && (b && (c || d))))
group-pin true a b c d = refl
group-pin false true true c d = refl
group-pin false true false c d = refl
group-pin false false b c d = refl

pub group-more : (h a b : Bool) (group : List PinId) (i v : ℕ) (p d : PinId) → i < length group → p ≡ get_or group i d
    → ((h || (a && (b && has_pin (take i group) v))) || (a && (b && p.0 == v))) ≡ (h || (a && (b && has_pin (take (i + 1) group) v)))
group-more h a b group i v p d below is =
    group-pin h a b (has_pin (take i group) v) (p.0 == v)
    ∙ ap (λ x. h || (a && (b && x)))
    (sym (ap (λ ps. has_pin ps v) (take_more group i d below ∙ ap (λ x. take i group ++ x ∷ []) (sym is))
    ∙ (list_any-append (λ x. x.0 == v) (take i group) (p ∷ []) ∙ ap (λ x. has_pin (take i group) v || x) (or-none (p.0 == v)))))

-- ---- one group more
after-last : (gs : List (List PinId)) (g : List PinId) (k v : ℕ) → has_pin (group_after k (gs ++ g ∷ [])) v ≡ (has_pin (group_after k gs) v || (length gs == k && has_pin g v))
after-last [] g k v = elim (cases_eq k 0) [
  | inl same ↦ rw same refl
  | inr other ↦ let e : (k == 0) ≡ false = ne_eqb k 0 other in let f : (0 == k) ≡ false = ne_eqb 0 k (λ s. other (sym s)) in rw (e, f) refl
]
after-last (h ∷ hs) g k v = elim (cases_eq k 0) [
  | inl same ↦ let past : (suc (length hs) == 0) ≡ false = grind arith in rw (same, past) (sym (or-none (has_pin h v)))
  | inr other ↦
      let e : (k == 0) ≡ false = ne_eqb k 0 other in
      let f : (suc (length hs) == k) ≡ (length hs == k - 1) = grind (arith, other) in
      rw (e, f) (after-last hs g (k - 1) v)
]

groups-pin : (h a x y : Bool) → ((h || (a && x)) || (a && y)) ≡ (h || (a && (x || y)))
groups-pin true a x y = refl
groups-pin false true x y = refl
groups-pin false false x y = refl

pub groups-more : (h a : Bool) (gs : List (List PinId)) (i k v : ℕ) (g d : List PinId) → i < length gs → g ≡ get_or gs i d
    → ((h || (a && has_pin (group_after k (take i gs)) v)) || (a && (i == k && has_pin g v))) ≡ (h || (a && has_pin (group_after k (take (i + 1) gs)) v))
groups-more h a gs i k v g d below is =
    let long : length (take i gs) ≡ i = length-take-le i gs (omega (arith, below)) in
    groups-pin h a (has_pin (group_after k (take i gs)) v) (i == k && has_pin g v)
    ∙ ap (λ x. h || (a && x))
    (sym (ap (λ xs. has_pin (group_after k xs) v) (take_more gs i d below ∙ ap (λ x. take i gs ++ x ∷ []) (sym is))
    ∙ (after-last (take i gs) g k v ∙ ap (λ n. has_pin (group_after k (take i gs)) v || (n == k && has_pin g v)) long)))

-- ---- one exception more
abbrev pub numbered : List Exception → ℕ → Bool
numbered es n = list_any (λ e. e.number == n) es

abbrev pub passes : Exception → GroupPin → Bool
passes e q = e.number == q.number && has_pin (group_after q.steps e.groups) q.pin.0

not-passed : (es : List Exception) (q : GroupPin) → numbered es q.number ≡ false → is_passed es q ≡ false
not-passed [] q none = refl
not-passed (x ∷ xs) q none =
    by_test (x.number == q.number)
    (λ here. absurd (true≢false (sym (rw here refl) ∙ none)))
    (λ other. rw other (not-passed xs q (sym (rw other refl) ∙ none)))

passed-last : (es : List Exception) (e : Exception) (q : GroupPin) → is_passed (es ++ e ∷ []) q ≡ (if numbered es q.number then is_passed es q else passes e q)
passed-last [] e q = by_test (e.number == q.number) (λ h. rw h refl) (λ h. rw h refl)
passed-last (x ∷ xs) e q = by_test (x.number == q.number) (λ h. rw h refl) (λ h. rw h (passed-last xs e q))

-- the pins of the first exceptions
pub record AreGathered (es : List Exception) (i : ℕ) (numbers : List ℕ) (pins : List GroupPin) : Type 0 where
  pub noted : (v : ℕ) → has_number numbers v ≡ numbered (take i es) v
  pub gathered : (q : GroupPin) → holds pins q ≡ is_passed (take i es) q

numbers-more : (es : List Exception) (i : ℕ) (e d : Exception) (old new : List ℕ) (pins : List GroupPin) → i < length es → e ≡ get_or es i d → AreGathered es i old pins
    → ((v : ℕ) → has_number new v ≡ (has_number old v || e.number == v)) → (v : ℕ) → has_number new v ≡ numbered (take (i + 1) es) v
numbers-more es i e d old new pins below is gathered noted v =
    noted v
    ∙ (ap (λ b. b || e.number == v) (gathered.noted v)
    ∙ sym (ap (λ xs. numbered xs v) (take_more es i d below ∙ ap (λ x. take i es ++ x ∷ []) (sym is))
    ∙ (list_any-append (λ x. x.number == v) (take i es) (e ∷ []) ∙ ap (λ b. numbered (take i es) v || b) (or-none (e.number == v)))))

-- an exception whose number is new, and one whose isn't
gathered-fresh : (es : List Exception) (i : ℕ) (e d : Exception) (old new : List ℕ) (pins more : List GroupPin) → i < length es → e ≡ get_or es i d → AreGathered es i old pins
    → ((v : ℕ) → has_number new v ≡ (has_number old v || e.number == v)) → has_number old e.number ≡ false → ((q : GroupPin) → holds more q ≡ (holds pins q || passes e q))
    → AreGathered es (i + 1) new more
gathered-fresh es i e d old new pins more below is gathered noted fresh adds = record {
  noted = numbers-more es i e d old new pins below is gathered noted;
  gathered = λ q.
      adds q
      ∙ (ap (λ b. b || passes e q) (gathered.gathered q)
      ∙ (both q
      ∙ sym (ap (λ xs. is_passed xs q) (take_more es i d below ∙ ap (λ x. take i es ++ x ∷ []) (sym is)) ∙ passed-last (take i es) e q)));
}
  where
    both : (q : GroupPin) → (is_passed (take i es) q || passes e q) ≡ (if numbered (take i es) q.number then is_passed (take i es) q else passes e q)
    both q =
        by_test (numbered (take i es) q.number)
        (λ there. elim (cases_eq e.number q.number) [
          | inl same ↦ absurd (true≢false (sym there ∙ (ap (numbered (take i es)) (sym same) ∙ (sym (gathered.noted e.number) ∙ fresh))))
          | inr other ↦ let apart : (e.number == q.number) ≡ false = ne_eqb e.number q.number other in rw (there, apart) (or-none (is_passed (take i es) q))
        ])
        (λ none. let before : is_passed (take i es) q ≡ false = not-passed (take i es) q none in rw (before, none) refl)

gathered-again : (es : List Exception) (i : ℕ) (e d : Exception) (old new : List ℕ) (pins more : List GroupPin) → i < length es → e ≡ get_or es i d → AreGathered es i old pins
    → ((v : ℕ) → has_number new v ≡ (has_number old v || e.number == v)) → has_number old e.number ≡ true → ((q : GroupPin) → holds more q ≡ holds pins q)
    → AreGathered es (i + 1) new more
gathered-again es i e d old new pins more below is gathered noted again adds = record {
  noted = numbers-more es i e d old new pins below is gathered noted;
  gathered = λ q. adds q ∙ (gathered.gathered q ∙ (both q ∙ sym (ap (λ xs. is_passed xs q) (take_more es i d below ∙ ap (λ x. take i es ++ x ∷ []) (sym is)) ∙ passed-last (take i es) e q)));
}
  where
    both : (q : GroupPin) → is_passed (take i es) q ≡ (if numbered (take i es) q.number then is_passed (take i es) q else passes e q)
    both q =
        by_test (numbered (take i es) q.number)
        (λ there. rw there refl)
        (λ none. elim (cases_eq e.number q.number) [
          | inl same ↦ absurd (true≢false (sym again ∙ (gathered.noted e.number ∙ (ap (numbered (take i es)) same ∙ none))))
          | inr other ↦
              let apart : (e.number == q.number) ≡ false = ne_eqb e.number q.number other in
              let before : is_passed (take i es) q ≡ false = not-passed (take i es) q none in
              rw (before, none, apart) refl
        ])

pub gathered-more : (es : List Exception) (i : ℕ) (e d : Exception) (old new : List ℕ) (pins more : List GroupPin) → i < length es → e ≡ get_or es i d → AreGathered es i old pins
    → ((v : ℕ) → has_number new v ≡ (has_number old v || e.number == v)) → ((q : GroupPin) → holds more q ≡ (holds pins q || (not (has_number old e.number) && passes e q)))
    → AreGathered es (i + 1) new more
gathered-more es i e d old new pins more below is gathered noted adds =
    by_test (has_number old e.number)
    (λ again. gathered-again es i e d old new pins more below is gathered noted again (λ q. adds q ∙ rw again (or-none (holds pins q))))
    (λ fresh. gathered-fresh es i e d old new pins more below is gathered noted fresh (λ q. adds q ∙ rw fresh refl))

pub gathered-all : (es : List Exception) (i : ℕ) (numbers : List ℕ) (pins : List GroupPin) → length es ≤ i → AreGathered es i numbers pins → (q : GroupPin) → holds pins q ≡ is_passed es q
gathered-all es i numbers pins past gathered q = gathered.gathered q ∙ ap (λ xs. is_passed xs q) (take_all i es past)
