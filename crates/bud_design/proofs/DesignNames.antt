-- Names of places and pins below a root: where siblings' names differ, names determine places and pins.
use Rattle.std.specs.Prelude.{◌≡◌, ℕ, ◌<◌, ◌==◌, ◌&&◌, not, Bool, true, false, List, [], ◌∷◌, ◌++◌, map, length, Option, Some, All, AllPairs, slice_index_or, ◌||◌, zero, suc, ◌+◌, reverse, take_while, filter}
use Rattle.std.specs.List.{join_with_byte, prefix_len, range_with_len}
use Rattle.std.proofs.Common.{true≢false, arith, sym, ◌∙◌, refl, ap, subst, eq-eqb}
use Rattle.std.proofs.lemmas.List.{map-append, reverse-reverse, length-reverse, length-map}
use Rattle.std.proofs.lemmas.List.Elements.{All-head, All-tail, All-map, All-filter, filter_passes}
use Rattle.std.specs.Str.{bytes_eq}
use Rattle.std.proofs.lemmas.Bool.Decides.{Decides-eqb}
use Rattle.std.proofs.lemmas.Slice.Eq.{bytes_eq-Decides}
use Rattle.std.proofs.lemmas.Grind.{reverse_onto}
use Rattle.std.proofs.lemmas.List.Kept.{AllPairs-cons, AllPairs-filter}
use Rattle.std.proofs.lemmas.List.FromFn.{length-range_with_len, get_or-range_with_len}
use Rattle.bud_design.specs.Designs.{Design, place_at, pin_at, above, upwards, is_inside, way_down, place_name, pin_name, is_pin_of, named_cells, named_pins}
use Rattle.bud_design.specs.DesignRules.{Differ, HasParent, HasPrintedForm, IsPrintedForm}
use Rattle.bud_design.specs.declared.designs.Place.{Place}
use Rattle.bud_design.proofs.ClassLaws.{pairs-head, pairs-tail}
use Rattle.bud_design.specs.Names.{Named, printed, bit_name}
use Rattle.bud_design.proofs.NameLaws.{cons-both, joined-injective, pin_names-injective, IsShort}
use Rattle.bud_design.proofs.Lineages.{inside, inside_above, above-cases}

-- the names on the way up to the root
abbrev names_up : ℕ → List Place → ℕ → ℕ → List (List ℕ)
names_up n places root p = map (λ q. (place_at places q).name) (take_while (λ q. not (q == root)) (upwards n places p))

abbrev heads_of : List (List ℕ) → List ℕ
heads_of [] = []
heads_of (x ∷ xs) = x

abbrev tails_of : List (List ℕ) → List (List ℕ)
tails_of [] = []
tails_of (x ∷ xs) = xs

map-reverse : {A B : Type 0} (f : A → B) (xs : List A) → map f (reverse xs) ≡ reverse (map f xs)
map-reverse f [] = refl
map-reverse f (x ∷ xs) =
    ap (map f) (reverse_onto xs x []) ∙ (map-append f (reverse xs) (x ∷ []) ∙ (ap (λ ys. ys ++ f x ∷ []) (map-reverse f xs) ∙ sym (reverse_onto (map f xs) (f x) [])))

take_while-more : {A : Type 0} (p : A → Bool) (x : A) (xs : List A) → p x ≡ true → take_while p (x ∷ xs) ≡ x ∷ take_while p xs
take_while-more p x xs e =
    let one_more : 1 + prefix_len p xs ≡ suc (prefix_len p xs) = omega arith in
    rw (e, one_more) refl

reverse-injective : {A : Type 0} (xs ys : List A) → reverse xs ≡ reverse ys → xs ≡ ys
reverse-injective xs ys same = sym (reverse-reverse xs) ∙ (ap reverse same ∙ reverse-reverse ys)

and-right : (a b : Bool) → a && b ≡ true → b ≡ true
and-right true b both = both
and-right false b both = absurd (true≢false (sym both))

not-true : (a b : Bool) → not a && b ≡ true → a ≡ false
not-true true b both = absurd (true≢false (sym both))
not-true false b both = refl

false-unless : (b : Bool) → (b ≡ true → ⊥) → b ≡ false
false-unless true never = absurd (never refl)
false-unless false never = refl

range-below : (n : ℕ) → All (λ x. x < n) (range_with_len 0 n)
range-below n k e within =
    let short : k < n = omega (arith, within, length-range_with_len 0 n) in
    omega (arith, short, get_or-range_with_len 0 n k e short)

range-rises : (n : ℕ) → AllPairs (λ x y. x < y) (range_with_len 0 n)
range-rises n i j e less within =
    let short : j < n = omega (arith, within, length-range_with_len 0 n) in
    omega (arith, less, get_or-range_with_len 0 n i e (omega (arith, short, less)), get_or-range_with_len 0 n j e short)

-- numbers that their names determine have names that differ
names-differ : (f : ℕ → Named ℕ) (P : ℕ → Type 0) (xs : List ℕ) → All P xs → AllPairs (λ x y. x < y) xs → ((x y : ℕ) → P x → P y → (f x).name ≡ (f y).name → x ≡ y) → Differ (map f xs)
names-differ f P [] all rise same = λ i j e less below. absurd (omega (arith, below))
names-differ f P (x ∷ xs) all rise same =
    AllPairs-cons (λ a b. bytes_eq a.name b.name ≡ false) (f x) (map f xs)
    (All-map (λ b. bytes_eq (f x).name b.name ≡ false) f xs (λ k e below. false-unless (bytes_eq (f x).name (f (slice_index_or xs k e)).name)
    (λ equal. absurd (omega (
      arith,
      pairs-head (λ x y. x < y) x xs rise k e below,
      same x (slice_index_or xs k e) (All-head P x xs all) (All-tail P x xs all k e below) ((bytes_eq-Decides (f x).name (f (slice_index_or xs k e)).name).0 equal),
    )))))
    (names-differ f P xs (All-tail P x xs all) (pairs-tail (λ x y. x < y) x xs rise) same)

passing-differ : (f : ℕ → Named ℕ) (p : ℕ → Bool) (n : ℕ) → ((x y : ℕ) → (x < n) × (p x ≡ true) → (y < n) × (p y ≡ true) → (f x).name ≡ (f y).name → x ≡ y) → Differ (map f (filter p (range_with_len 0 n)))
passing-differ f p n same =
    names-differ f (λ x. (x < n) × (p x ≡ true)) (filter p (range_with_len 0 n))
    (λ k e below. (All-filter p (λ x. x < n) (range_with_len 0 n) (range-below n) k e below, filter_passes p (range_with_len 0 n) k e below))
    (AllPairs-filter (λ x y. x < y) p (range_with_len 0 n) (range-rises n)) same

module _ (d : Design) (parents : (p : ℕ) → p < length d.places → HasParent p (place_at d.places p).parent) (forms : All (λ p. HasPrintedForm p.parent p.name) d.places) where
  up-root : (n r p : ℕ) → (p == r) ≡ true → names_up (suc n) d.places r p ≡ []
  up-root n r p e = rw e refl

  up-below : (n r p q : ℕ) → (p == r) ≡ false → (place_at d.places p).parent ≡ Some q → names_up (suc n) d.places r p ≡ (place_at d.places p).name ∷ names_up n d.places r q
  up-below n r p q e par =
      ap (map (λ x. (place_at d.places x).name)) (take_while-more (λ x. not (x == r)) p (above (upwards n d.places) (place_at d.places p).parent) (ap not e))
      ∙ ap (λ o. (place_at d.places p).name ∷ map (λ x. (place_at d.places x).name) (take_while (λ x. not (x == r)) (above (upwards n d.places) o))) par

  up-cases : {P : Type 0} (n r p : ℕ) → p < length d.places → inside (suc n) d.places r p ≡ true → (p ≡ r → names_up (suc n) d.places r p ≡ [] → P)
      → ((q : ℕ) → (place_at d.places p).parent ≡ Some q → q < p → inside n d.places r q ≡ true → names_up (suc n) d.places r p ≡ (place_at d.places p).name ∷ names_up n d.places r q → P) → P
  up-cases {P} n r p below holds same onward = by_root (p == r) refl holds
    where
      by_root : (b : Bool) → (p == r) ≡ b → b || inside_above n d.places r (place_at d.places p).parent ≡ true → P
      by_root true e holds = same ((Decides-eqb p r).0 e) (up-root n r p e)
      by_root false e holds = above-cases d.places parents n r p (place_at d.places p).parent refl (parents p below) holds (λ q par less rest. onward q par less rest (up-below n r p q e par))

  -- the names on the way are in printed form
  up-printed : (n r p : ℕ) → p < length d.places → inside n d.places r p ≡ true → (xs : List (List ℕ)) × (names_up n d.places r p ≡ map printed xs)
  up-printed zero r p below holds = absurd (true≢false (sym holds))
  up-printed (suc n) r p below holds = up-cases n r p below holds
      (λ same none. ([], none))
      (λ q par less rest here.
      let form : IsPrintedForm (place_at d.places p).name = subst (λ o. HasPrintedForm o (place_at d.places p).name) par (forms p (place_at [] 0) below) in
      let others = up-printed n r q (omega (arith, less, below)) rest in
      (form.0 ∷ others.0, here ∙ cons-both (place_at d.places p).name (printed form.0) (names_up n d.places r q) (map printed others.0) form.1 others.1))

  -- below the root there is one
  up-some : (n r p : ℕ) → p < length d.places → inside (suc n) d.places r p ≡ true → (p == r) ≡ false → 0 < length (names_up (suc n) d.places r p)
  up-some n r p below holds apart = up-cases n r p below holds
      (λ same none. absurd (true≢false (sym (eq-eqb p r same) ∙ apart)))
      (λ q par less rest here. omega (arith, ap length here))

  -- the way down is that of printed identifiers
  pub way_down-printed : (r p : ℕ) → p < length d.places → is_inside d.places r p ≡ true → (xs : List (List ℕ)) × (way_down d.places r p ≡ map printed xs)
  way_down-printed r p below holds =
      let up = up-printed (suc p) r p below holds in
      (reverse up.0, ap reverse up.1 ∙ sym (map-reverse printed up.0))

  -- of one at least, below the root
  way_down-some : (r p : ℕ) → p < length d.places → is_inside d.places r p ≡ true → (p == r) ≡ false → (xs : List (List ℕ)) → way_down d.places r p ≡ map printed xs → 0 < length xs
  way_down-some r p below holds apart xs way =
      omega (arith, up-some p r p below holds apart, length-reverse (names_up (suc p) d.places r p), ap length way, length-map xs printed)

  module _ (siblings : (p q : ℕ) → p < length d.places → q < length d.places → (place_at d.places p).parent ≡ (place_at d.places q).parent → (place_at d.places p).name ≡ (place_at d.places q).name → p ≡ q) where
    up-injective : (n m r p q : ℕ) → p < length d.places → q < length d.places → inside n d.places r p ≡ true → inside m d.places r q ≡ true → names_up n d.places r p ≡ names_up m d.places r q → p ≡ q
    up-injective zero m r p q belowp belowq inp inq same = absurd (true≢false (sym inp))
    up-injective (suc n) zero r p q belowp belowq inp inq same = absurd (true≢false (sym inq))
    up-injective (suc n) (suc m) r p q belowp belowq inp inq same = up-cases n r p belowp inp
        (λ isp nonep. up-cases m r q belowq inq (λ isq noneq. isp ∙ sym isq) (λ q' par less rest here. absurd (omega (arith, ap length (sym nonep ∙ (same ∙ here))))))
        (λ p' parp lessp restp herep. up-cases m r q belowq inq (λ isq noneq. absurd (omega (arith, ap length (sym herep ∙ (same ∙ noneq)))))
        (λ q' parq lessq restq hereq.
        let both = sym herep ∙ (same ∙ hereq) in
        let higher = up-injective n m r p' q' (omega (arith, lessp, belowp)) (omega (arith, lessq, belowq)) restp restq (ap tails_of both) in
        siblings p q belowp belowq (parp ∙ (ap (λ k. Some k) higher ∙ sym parq)) (ap heads_of both)))

    -- where the names of siblings differ, the way down determines the place
    pub way_down-injective : (r p q : ℕ) → p < length d.places → q < length d.places → is_inside d.places r p ≡ true → is_inside d.places r q ≡ true → way_down d.places r p ≡ way_down d.places r q → p ≡ q
    way_down-injective r p q belowp belowq inp inq same =
        up-injective (suc p) (suc q) r p q belowp belowq inp inq (reverse-injective (names_up (suc p) d.places r p) (names_up (suc q) d.places r q) same)

    -- and so does the name
    pub place_name-injective : (r p q : ℕ) → p < length d.places → q < length d.places → is_inside d.places r p ≡ true → is_inside d.places r q ≡ true → (p == r) ≡ false → (q == r) ≡ false → place_name d.places r p ≡ place_name d.places r q → p ≡ q
    place_name-injective r p q belowp belowq inp inq apartp apartq same =
        let wayp = way_down-printed r p belowp inp in
        let wayq = way_down-printed r q belowq inq in
        let names = joined-injective wayp.0 wayq.0 (way_down-some r p belowp inp apartp wayp.0 wayp.1) (way_down-some r q belowq inq apartq wayq.0 wayq.1)
        (ap (join_with_byte 47) (sym wayp.1) ∙ (same ∙ ap (join_with_byte 47) wayq.1)) in
        way_down-injective r p q belowp belowq inp inq (wayp.1 ∙ (ap (map printed) names ∙ sym wayq.1))

    -- a pin's name determines place, port and bit
    pub pin_name-injective : All (λ v. v.place < length d.places) d.pins → All (λ v. IsPrintedForm v.port) d.pins → (r v w : ℕ) → v < length d.pins → w < length d.pins → is_pin_of d r v ≡ true → is_pin_of d r w ≡ true → IsShort (pin_at d.pins v).bit → IsShort (pin_at d.pins w).bit
        → pin_name d r v ≡ pin_name d r w → ((pin_at d.pins v).place ≡ (pin_at d.pins w).place) × (((pin_at d.pins v).port ≡ (pin_at d.pins w).port) × ((pin_at d.pins v).bit ≡ (pin_at d.pins w).bit))
    pin_name-injective in_places port_texts r v w belowv beloww inv inw shortv shortw same =
        let placev = in_places v (pin_at [] 0) belowv in
        let placew = in_places w (pin_at [] 0) beloww in
        let wayv = way_down-printed r (pin_at d.pins v).place placev inv in
        let wayw = way_down-printed r (pin_at d.pins w).place placew inw in
        let portv : IsPrintedForm (pin_at d.pins v).port = port_texts v (pin_at [] 0) belowv in
        let portw : IsPrintedForm (pin_at d.pins w).port = port_texts w (pin_at [] 0) beloww in
        let written = pin_text wayv.0 portv.0 (pin_at d.pins v).bit (way_down d.places r (pin_at d.pins v).place) (pin_at d.pins v).port wayv.1 portv.1 in
        let writtenw = pin_text wayw.0 portw.0 (pin_at d.pins w).bit (way_down d.places r (pin_at d.pins w).place) (pin_at d.pins w).port wayw.1 portw.1 in
        let parts = pin_names-injective wayv.0 wayw.0 portv.0 portw.0 (pin_at d.pins v).bit (pin_at d.pins w).bit shortv shortw (sym written ∙ (same ∙ writtenw)) in (
          way_down-injective r (pin_at d.pins v).place (pin_at d.pins w).place placev placew inv inw (wayv.1 ∙ (ap (map printed) parts.0 ∙ sym wayw.1)),
          (portv.1 ∙ (ap printed parts.1.0 ∙ sym portw.1), parts.1.1),
        )
      where
        pin_text : (xs : List (List ℕ)) (x : List ℕ) (b : Option ℕ) (way : List (List ℕ)) (port : List ℕ) → way ≡ map printed xs → port ≡ printed x
            → join_with_byte 47 (way ++ bit_name port b ∷ []) ≡ join_with_byte 47 (map printed xs ++ bit_name (printed x) b ∷ [])
        pin_text xs x b way port e f = rw (e, f) refl

    -- so the cells of a root have names that differ
    pub named_cells-differ : (r : ℕ) → Differ (named_cells d r)
    named_cells-differ r =
        passing-differ (λ p. record { name = place_name d.places r p; object = p }) (λ p. not (p == r) && is_inside d.places r p) (length d.places)
        (λ p q isp isq same. place_name-injective r p q isp.0 isq.0 (and-right (not (p == r)) (is_inside d.places r p) isp.1) (and-right (not (q == r)) (is_inside d.places r q) isq.1)
        (not-true (p == r) (is_inside d.places r p) isp.1) (not-true (q == r) (is_inside d.places r q) isq.1) same)

    -- and so have its pins, where place, port and bit determine the pin
    pub named_pins-differ : All (λ v. v.place < length d.places) d.pins → All (λ v. IsPrintedForm v.port) d.pins → All (λ v. IsShort v.bit) d.pins
        → ((v w : ℕ) → v < length d.pins → w < length d.pins → (pin_at d.pins v).place ≡ (pin_at d.pins w).place → (pin_at d.pins v).port ≡ (pin_at d.pins w).port → (pin_at d.pins v).bit ≡ (pin_at d.pins w).bit → v ≡ w)
        → (r : ℕ) → Differ (named_pins d r)
    named_pins-differ in_places port_texts bits alone r =
        passing-differ (λ v. record { name = pin_name d r v; object = v }) (is_pin_of d r) (length d.pins)
        (λ v w isv isw same.
        let parts = pin_name-injective in_places port_texts r v w isv.0 isw.0 isv.1 isw.1 (bits v (pin_at [] 0) isv.0) (bits w (pin_at [] 0) isw.0) same in
        alone v w isv.0 isw.0 parts.0 parts.1.0 parts.1.1)
