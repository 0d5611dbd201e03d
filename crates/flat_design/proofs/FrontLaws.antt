-- Names of places and pins, part by part.
use Rattle.std.specs.Prelude.{◌≡◌, ◌≢◌, ℕ, zero, suc, ◌<◌, ◌+◌, ◌==◌, ◌^◌, ◌%◌, not, Bool, true, false, List, [], ◌∷◌, ◌++◌, map, reverse, length, take_while, All, Option, Some, None, decimal, if◌then◌else◌}
use Rattle.std.specs.List.{join_with_byte, prefix_len}
use Rattle.std.proofs.Common.{arith, sym, ◌∙◌, refl, ap, subst, append_assoc}
use Rattle.std.proofs.lemmas.List.{append-nil}
use Rattle.std.proofs.lemmas.List.Elements.{All-head, All-tail, All-append, All-cons, All-nil}
use Rattle.std.proofs.lemmas.List.Concat.{flat_map-append}
use Rattle.std.proofs.lemmas.Fmt.{decimal_by_steps}
use Rattle.std.proofs.lemmas.Grind.{reverse_onto}
use Rattle.std.proofs.lemmas.Bool.Decides.{Decides-eqb}
use Rattle.bud_design.specs.Designs.{place_at, above, upwards, lineage, way_down, place_name}
use Rattle.bud_design.specs.DesignRules.{HasParent, HasPrintedForm, IsPrintedForm}
use Rattle.bud_design.specs.declared.designs.Place.{Place}
use Rattle.bud_design.specs.Names.{is_ordinary, printed, plain, plain_from, bit_name}
use Rattle.std.specs.Str.{bytes_eq}
use Rattle.flat_design.proofs.TextLaws.{test-before, test-none, before-more, none-more}
use Rattle.flat_design.specs.Flats.{ArePlaces}
use Rattle.flat_design.specs.Fronts.{formed, led_by, front, brackets, IsShort}
use Rattle.flat_design.specs.declared.texts.Form.{Form}
use Rattle.flat_design.specs.declared.texts.Form.TheVariants.{Printed, Plain}

-- ---- plain names of parts
ordinary-differs : (b : ℕ) → is_ordinary b ≡ true → (b == 92) ≡ false
ordinary-differs b ordinary = by_equal (b == 92) refl
  where
    by_equal : (e : Bool) → (b == 92) ≡ e → (b == 92) ≡ false
    by_equal true is = grind (arith, ordinary, is)
    by_equal false is = is

plain-printed_onto : (x s : List ℕ) → plain_from false (printed x ++ s) ≡ x ++ plain_from false s
plain-printed_onto [] s = refl
plain-printed_onto (b ∷ bs) s = by_ordinary (is_ordinary b) refl (plain-printed_onto bs s)
  where
    by_ordinary : (o : Bool) → is_ordinary b ≡ o → plain_from false (printed bs ++ s) ≡ bs ++ plain_from false s → plain_from false ((if o then b ∷ printed bs else 92 ∷ b ∷ printed bs) ++ s) ≡ b ∷ (bs ++ plain_from false s)
    by_ordinary true e rest = rw (ordinary-differs b e) (ap (λ cs. b ∷ cs) rest)
    by_ordinary false e rest = ap (λ cs. b ∷ cs) rest

-- behind an identifier in printed form the plain name goes on
plain-append : (x s : List ℕ) → IsPrintedForm x → plain (x ++ s) ≡ plain x ++ plain s
plain-append x s is =
    ap (λ y. plain (y ++ s)) is.1
    ∙ (plain-printed_onto is.0 s
    ∙ ap (λ y. y ++ plain s) (sym (append-nil is.0) ∙ (sym (plain-printed_onto is.0 []) ∙ (ap plain (append-nil (printed is.0)) ∙ ap plain (sym is.1)))))

-- digits have no backslash
digit-differs : (d : ℕ) → d < 10 → (48 + d == 92) ≡ false
digit-differs d small = by_equal (48 + d == 92) refl
  where
    by_equal : (e : Bool) → (48 + d == 92) ≡ e → (48 + d == 92) ≡ false
    by_equal true is = absurd (omega (arith, (Decides-eqb (48 + d) 92).0 is, small))
    by_equal false is = is

plain-decimal : (n : ℕ) → n < 2 ^ 64 → (s : List ℕ) → plain_from false (decimal n ++ s) ≡ decimal n ++ plain_from false s
plain-decimal = decimal_by_steps (λ n ds. (s : List ℕ) → plain_from false (ds ++ s) ≡ ds ++ plain_from false s)
    (λ n small s. rw (digit-differs n small) refl)
    (λ n ds more rest s.
    ap (plain_from false) (append_assoc ds ((48 + n % 10) ∷ []) s)
    ∙ (rest ((48 + n % 10) ∷ s)
    ∙ (ap (λ t. ds ++ t) (rw (digit-differs (n % 10) (omega arith)) refl)
    ∙ sym (append_assoc ds ((48 + n % 10) ∷ []) (plain_from false s)))))

pub formed-last : (form : Form) (port : List ℕ) (bit : Option ℕ) → IsPrintedForm port → IsShort bit → formed form (bit_name port bit) ≡ formed form port ++ brackets bit
formed-last Printed port None is short = sym (append-nil port)
formed-last Printed port (Some n) is short = refl
formed-last Plain port None is short = sym (append-nil (plain port))
formed-last Plain port (Some n) is short =
    plain-append port (91 ∷ (decimal n ++ 93 ∷ [])) is ∙ ap (λ s. plain port ++ 91 ∷ s) (plain-decimal n short (93 ∷ []))

-- ---- joined names
abbrev led : List (List ℕ) → List ℕ → List ℕ
led [] name = name
led (x ∷ xs) name = x ++ (47 ∷ led xs name)

join-led : (xs : List (List ℕ)) (name : List ℕ) → join_with_byte 47 (xs ++ name ∷ []) ≡ led xs name
join-led [] name = refl
join-led (x ∷ []) name = refl
join-led (x ∷ y ∷ xs) name = ap (λ cs. x ++ (47 ∷ cs)) (join-led (y ∷ xs) name)

regroup : (x rest name : List ℕ) → x ++ (47 ∷ (rest ++ name)) ≡ ((x ++ 47 ∷ []) ++ rest) ++ name
regroup x rest name = simp append_assoc

formed-led : (form : Form) (xs : List (List ℕ)) (name : List ℕ) → All IsPrintedForm xs → formed form (led xs name) ≡ led_by form xs ++ formed form name
formed-led Printed [] name all = refl
formed-led Printed (x ∷ xs) name all =
    ap (λ s. x ++ (47 ∷ s)) (formed-led Printed xs name (All-tail IsPrintedForm x xs all)) ∙ regroup x (led_by Printed xs) name
formed-led Plain [] name all = refl
formed-led Plain (x ∷ xs) name all =
    plain-append x (47 ∷ led xs name) (All-head IsPrintedForm x xs all)
    ∙ (ap (λ s. plain x ++ (47 ∷ s)) (formed-led Plain xs name (All-tail IsPrintedForm x xs all)) ∙ regroup (plain x) (led_by Plain xs) (plain name))

formed-joined : (form : Form) (xs : List (List ℕ)) (name : List ℕ) → All IsPrintedForm xs → formed form (join_with_byte 47 (xs ++ name ∷ [])) ≡ led_by form xs ++ formed form name
formed-joined form xs name all = ap (formed form) (join-led xs name) ∙ formed-led form xs name all

led_by-more : (form : Form) (xs : List (List ℕ)) (x : List ℕ) → led_by form (xs ++ x ∷ []) ≡ led_by form xs ++ (formed form x ++ 47 ∷ [])
led_by-more form xs x =
    flat_map-append (λ name. formed form name ++ 47 ∷ []) xs (x ∷ [])
    ∙ ap (λ s. led_by form xs ++ s) (append-nil (formed form x ++ 47 ∷ []))

-- ---- the way down to a place
take_while-more : {A : Type 0} (p : A → Bool) (x : A) (xs : List A) → p x ≡ true → take_while p (x ∷ xs) ≡ x ∷ take_while p xs
take_while-more p x xs e =
    let one_more : 1 + prefix_len p xs ≡ suc (prefix_len p xs) = omega arith in
    rw (e, one_more) refl

zero-only : (p q : ℕ) → q < p → (p == 0) ≡ false
zero-only p q less = by_equal (p == 0) refl
  where
    by_equal : (e : Bool) → (p == 0) ≡ e → (p == 0) ≡ false
    by_equal true is = absurd (omega (arith, (Decides-eqb p 0).0 is, less))
    by_equal false is = is

parent-less : (o : Option ℕ) (p q : ℕ) → HasParent p o → o ≡ Some q → q < p
parent-less None p q has is = absurd (cc)
parent-less (Some r) p q has is = let same : r ≡ q = cc in omega (arith, same, has)

parent-top : (o : Option ℕ) (p : ℕ) → HasParent p o → o ≡ None → p ≡ 0
parent-top None p has is = has
parent-top (Some r) p has is = absurd (cc)

some-name : (o : Option ℕ) (q : ℕ) (name : List ℕ) → o ≡ Some q → HasPrintedForm o name → IsPrintedForm name
some-name None q name is has = absurd (cc)
some-name (Some r) q name is has = has

module _ (places : List Place) (are : ArePlaces places) where
  above-same : (m n p : ℕ) (o : Option ℕ) → HasParent p o → ((q : ℕ) → q < p → upwards m places q ≡ upwards n places q) → above (upwards m places) o ≡ above (upwards n places) o
  above-same m n p None less same = refl
  above-same m n p (Some q) less same = same q less

  upwards-same : (m n p : ℕ) → p < length places → p < m → p < n → upwards m places p ≡ upwards n places p
  upwards-same zero n p below overm overn = absurd (omega (arith, overm))
  upwards-same (suc m) zero p below overm overn = absurd (omega (arith, overn))
  upwards-same (suc m) (suc n) p below overm overn =
      ap (λ qs. p ∷ qs) (above-same m n p (place_at places p).parent (are.parents p below)
      (λ q less. upwards-same m n q (omega (arith, less, below)) (omega (arith, less, overm)) (omega (arith, less, overn))))

  lineage-more : (p q : ℕ) → p < length places → (place_at places p).parent ≡ Some q → lineage places p ≡ p ∷ lineage places q
  lineage-more p q below is =
      let less : q < p = parent-less (place_at places p).parent p q (are.parents p below) is in
      ap (λ o. p ∷ above (upwards p places) o) is ∙ ap (λ qs. p ∷ qs) (upwards-same p (suc q) q (omega (arith, less, below)) less (omega arith))

  pub is_below : (p q : ℕ) → p < length places → (place_at places p).parent ≡ Some q → q < p
  is_below p q below is = parent-less (place_at places p).parent p q (are.parents p below) is

  pub is_top : (p : ℕ) → p < length places → (place_at places p).parent ≡ None → p ≡ 0
  is_top p below is = parent-top (place_at places p).parent p (are.parents p below) is

  -- one more name on the way to a place than to its parent
  pub way_down-more : (p q : ℕ) → p < length places → (place_at places p).parent ≡ Some q → way_down places 0 p ≡ way_down places 0 q ++ (place_at places p).name ∷ []
  way_down-more p q below is =
      let differs : (p == 0) ≡ false = zero-only p q (is_below p q below is) in
      let name = λ (q : ℕ). (place_at places q).name in
      ap (λ qs. reverse (map name (take_while (λ q. not (q == 0)) qs))) (lineage-more p q below is)
      ∙ (ap (λ qs. reverse (map name qs)) (take_while-more (λ q. not (q == 0)) p (lineage places q) (ap not differs))
      ∙ reverse_onto (map name (take_while (λ q. not (q == 0)) (lineage places q))) (name p) [])

  -- the names on the way are identifiers in printed form
  pub way_down-printed : (n p : ℕ) → p < n → p < length places → All IsPrintedForm (way_down places 0 p)
  way_down-printed zero p small below = absurd (omega (arith, small))
  way_down-printed (suc n) p small below = by_parent (place_at places p).parent refl (λ q less lessp. way_down-printed n q less lessp)
    where
      by_parent : (o : Option ℕ) → (place_at places p).parent ≡ o → ((q : ℕ) → q < n → q < length places → All IsPrintedForm (way_down places 0 q)) → All IsPrintedForm (way_down places 0 p)
      by_parent None is before = subst (λ p. All IsPrintedForm (way_down places 0 p)) (sym (is_top p below is)) (All-nil IsPrintedForm)
      by_parent (Some q) is before =
          let less : q < p = is_below p q below is in
          let name : IsPrintedForm (place_at places p).name = some-name (place_at places p).parent q (place_at places p).name is (are.forms p (place_at [] 0) below) in
          subst (All IsPrintedForm) (sym (way_down-more p q below is))
          (All-append IsPrintedForm (way_down places 0 q) ((place_at places p).name ∷ [])
          (before q (omega (arith, less, small)) (omega (arith, less, below)))
          (All-cons IsPrintedForm (place_at places p).name [] name (All-nil IsPrintedForm)))

  printed_way : (p : ℕ) → p < length places → All IsPrintedForm (way_down places 0 p)
  printed_way p below = way_down-printed (suc p) p (omega arith) below

  pub front-top : (form : Form) (p : ℕ) → p < length places → (place_at places p).parent ≡ None → front form places p ≡ []
  front-top form p below is = ap (front form places) (is_top p below is)

  -- what stands before the names in a place
  pub front-more : (form : Form) (p q : ℕ) → p < length places → (place_at places p).parent ≡ Some q → front form places p ≡ front form places q ++ (formed form (place_at places p).name ++ 47 ∷ [])
  front-more form p q below is = ap (led_by form) (way_down-more p q below is) ∙ led_by-more form (way_down places 0 q) (place_at places p).name

  -- the name of an instance
  pub name-more : (form : Form) (p q : ℕ) → p < length places → (place_at places p).parent ≡ Some q → formed form (place_name places 0 p) ≡ front form places q ++ formed form (place_at places p).name
  name-more form p q below is =
      ap (λ names. formed form (join_with_byte 47 names)) (way_down-more p q below is)
      ∙ formed-joined form (way_down places 0 q) (place_at places p).name (printed_way q (omega (arith, is_below p q below is, below)))

  -- the name of a port bit of a place
  pub name-last : (form : Form) (p : ℕ) (last : List ℕ) → p < length places
      → formed form (join_with_byte 47 (way_down places 0 p ++ last ∷ [])) ≡ front form places p ++ formed form last
  name-last form p last below = formed-joined form (way_down places 0 p) last (printed_way p below)

  -- a text that doesn't end as what stands before the names in a place
  pub front-no_slash : (form : Form) (p q : ℕ) (rest : List ℕ) → p < length places → (place_at places p).parent ≡ Some q
      → ((before : List ℕ) → rest ≢ before ++ 47 ∷ []) → bytes_eq (front form places p) rest ≡ false
  front-no_slash form p q rest below is none =
      ap (λ s. bytes_eq s rest) (front-more form p q below is)
      ∙ test-none (front form places q) rest (formed form (place_at places p).name ++ 47 ∷ []) (none-more rest (formed form (place_at places p).name) (47 ∷ []) none)

  pub front-no_name : (form : Form) (p q : ℕ) (rest mid : List ℕ) → p < length places → (place_at places p).parent ≡ Some q → rest ≡ mid ++ 47 ∷ []
      → ((before : List ℕ) → mid ≢ before ++ formed form (place_at places p).name) → bytes_eq (front form places p) rest ≡ false
  front-no_name form p q rest mid below is slash none =
      ap (λ s. bytes_eq s rest) (front-more form p q below is)
      ∙ test-none (front form places q) rest (formed form (place_at places p).name ++ 47 ∷ [])
      (before-more rest mid (formed form (place_at places p).name) (47 ∷ []) None slash none)

  -- and one that does
  pub front-step : (form : Form) (p q : ℕ) (rest mid before : List ℕ) → p < length places → (place_at places p).parent ≡ Some q → rest ≡ mid ++ 47 ∷ []
      → mid ≡ before ++ formed form (place_at places p).name → bytes_eq (front form places q) before ≡ bytes_eq (front form places p) rest
  front-step form p q rest mid before below is slash some =
      sym (ap (λ s. bytes_eq s rest) (front-more form p q below is)
      ∙ test-before (front form places q) rest before (formed form (place_at places p).name ++ 47 ∷ [])
      (slash ∙ (ap (λ s. s ++ 47 ∷ []) some ∙ append_assoc before (formed form (place_at places p).name) (47 ∷ []))))

  pub instance-none : (form : Form) (p q : ℕ) (name : List ℕ) → p < length places → (place_at places p).parent ≡ Some q
      → ((before : List ℕ) → name ≢ before ++ formed form (place_at places p).name) → bytes_eq (formed form (place_name places 0 p)) name ≡ false
  instance-none form p q name below is none =
      ap (λ s. bytes_eq s name) (name-more form p q below is) ∙ test-none (front form places q) name (formed form (place_at places p).name) none

  pub instance-some : (form : Form) (p q : ℕ) (name before : List ℕ) → p < length places → (place_at places p).parent ≡ Some q
      → name ≡ before ++ formed form (place_at places p).name → bytes_eq (front form places q) before ≡ bytes_eq (formed form (place_name places 0 p)) name
  instance-some form p q name before below is some =
      sym (ap (λ s. bytes_eq s name) (name-more form p q below is) ∙ test-before (front form places q) name before (formed form (place_at places p).name) some)
