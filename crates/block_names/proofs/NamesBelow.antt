-- Names below a block are those below the top without one front, so that they differ too.
use Rattle.std.specs.Prelude.{◌≡◌, ℕ, zero, suc, ◌+◌, ◌<◌, ◌==◌, not, Bool, true, false, List, [], ◌∷◌, ◌++◌, map, filter, find, reverse, length, take_while, Contains, Some, slice_index_or}
use Rattle.std.specs.List.{join_with_byte, prefix_len, range_with_len}
use Rattle.std.specs.Str.{bytes_eq}
use Rattle.std.proofs.Common.{true≢false, refl, sym, ◌∙◌, ap, subst, arith, inl, inr, eq-eqb}
use Rattle.std.proofs.lemmas.Bool.{ne_eqb}
use Rattle.std.proofs.lemmas.Bool.Decides.{Decides-eqb}
use Rattle.std.proofs.lemmas.List.{map-append, append-nil, append_assoc, reverse-append, length-map, get_or-map}
use Rattle.std.proofs.lemmas.Slice.Eq.{bytes_eq-Decides}
use Rattle.bud_design.specs.Designs.{Design, place_at, pin_at, upwards, above, is_inside, way_down, pin_name, is_pin_of, pins_of, named_pins, bits_of, bits_of_port, leads_vector, named_ports}
use Rattle.bud_design.specs.DesignRules.{IsDesign}
use Rattle.bud_design.specs.Names.{Named, meaning, bit_name}
use Rattle.bud_design.proofs.Lineages.{is_inside-top, is_inside-most}
use Rattle.bud_design.proofs.NameLaws.{meaning-own}
use Rattle.block_theory.specs.Blocks.{IsBlock}
use Rattle.block_theory.proofs.Insides.{inside-cases, upwards-same, parent-below, place-below}
use Rattle.block_pieces.proofs.Numbering.{filtered-has, filtered-below, filtered-passes}
use Rattle.requirements.proofs.Members.{contains-cases}

take_while-more : (p : ℕ → Bool) (x : ℕ) (xs : List ℕ) → p x ≡ true → take_while p (x ∷ xs) ≡ x ∷ take_while p xs
take_while-more p x xs e = (let one_more : 1 + prefix_len p xs ≡ suc (prefix_len p xs) = omega arith in rw (e, one_more) refl)

take_while-none : (p : ℕ → Bool) (x : ℕ) (xs : List ℕ) → p x ≡ false → take_while p (x ∷ xs) ≡ []
take_while-none p x xs e = rw e refl

-- names joined behind a front
abbrev glue : List (List ℕ) → List ℕ → List ℕ
glue [] text = text
glue (f ∷ fs) text = f ++ (47 ∷ glue fs text)

join-behind : (fs : List (List ℕ)) (x : List ℕ) (xs : List (List ℕ)) → join_with_byte 47 (fs ++ x ∷ xs) ≡ glue fs (join_with_byte 47 (x ∷ xs))
join-behind [] x xs = refl
join-behind (f ∷ []) x xs = refl
join-behind (f ∷ g ∷ gs) x xs = ap (λ text. f ++ (47 ∷ text)) (join-behind (g ∷ gs) x xs)

module _ (d : Design) (design : IsDesign d) (b : ℕ) (block : IsBlock d b) where
  abbrev way : ℕ → ℕ → List ℕ
  way r p = take_while (λ q. not (q == r)) (upwards (suc p) d.places p)

  way-step : (r p q : ℕ) → p < length d.places → (place_at d.places p).parent ≡ Some q → (p == r) ≡ false → way r p ≡ p ∷ way r q
  way-step r p q below e other =
      let less = parent-below d.places design.parents p q below e in
      let up : above (upwards p d.places) (place_at d.places p).parent ≡ upwards (suc q) d.places q
      = ap (above (upwards p d.places)) e ∙ upwards-same d.places design.parents p (suc q) q (omega (arith, less, below)) less (omega arith) in
      ap (λ qs. take_while (λ q. not (q == r)) (p ∷ qs)) up ∙ take_while-more (λ q. not (q == r)) p (upwards (suc q) d.places q) (ap not other)

  way-end : way b b ≡ []
  way-end = take_while-none (λ q. not (q == b)) b (above (upwards b d.places) (place_at d.places b).parent) (ap not (eq-eqb b b refl))

  -- the way up to the top goes through the block
  way-through : (fuel p : ℕ) → p < fuel → p < length d.places → is_inside d.places b p ≡ true → way 0 p ≡ way b p ++ way 0 b
  way-through zero p over below inner = absurd (omega (arith, over))
  way-through (suc fuel) p over below inner = inside-cases d.places design.parents b p below inner
      (λ same. subst (λ q. way 0 q ≡ way b q ++ way 0 b) (sym same) (ap (λ qs. qs ++ way 0 b) (sym way-end)))
      (λ q e within.
      (let less = parent-below d.places design.parents p q below e in
      let most = is_inside-most d.places design.parents b q (omega (arith, less, below)) within in
      let apart : (p == b) ≡ false = ne_eqb p b (λ s. omega (arith, s, less, most)) in
      let high : (p == 0) ≡ false = ne_eqb p 0 (λ s. omega (arith, s, less)) in
      way-step 0 p q below e high
      ∙ (ap (λ qs. p ∷ qs) (way-through fuel q (omega (arith, less, over)) (omega (arith, less, below)) within) ∙ ap (λ qs. qs ++ way 0 b) (sym (way-step b p q below e apart)))))

  abbrev name_of : ℕ → List ℕ
  name_of q = (place_at d.places q).name

  down-through : (p : ℕ) → p < length d.places → is_inside d.places b p ≡ true → way_down d.places 0 p ≡ way_down d.places 0 b ++ way_down d.places b p
  down-through p below inner =
      ap (λ qs. reverse (map name_of qs)) (way-through (suc p) p (omega arith) below inner)
      ∙ (ap reverse (map-append name_of (way b p) (way 0 b)) ∙ reverse-append (map name_of (way b p)) (map name_of (way 0 b)))

  abbrev bit_of : ℕ → List ℕ
  bit_of v = bit_name (pin_at d.pins v).port (pin_at d.pins v).bit

  -- a name below the top is the block's front and the name below the block
  name-front : (v : ℕ) → v < length d.pins → is_pin_of d b v ≡ true → pin_name d 0 v ≡ glue (way_down d.places 0 b) (pin_name d b v)
  name-front v below inner =
      let place = (pin_at d.pins v).place in
      ap (λ ws. join_with_byte 47 (ws ++ bit_of v ∷ [])) (down-through place (place-below d design v below) inner)
      ∙ (ap (join_with_byte 47) (append_assoc (way_down d.places 0 b) (way_down d.places b place) (bit_of v ∷ [])) ∙ by_way (way_down d.places b place))
    where
      by_way : (ws : List (List ℕ)) → join_with_byte 47 (way_down d.places 0 b ++ (ws ++ bit_of v ∷ [])) ≡ glue (way_down d.places 0 b) (join_with_byte 47 (ws ++ bit_of v ∷ []))
      by_way [] = join-behind (way_down d.places 0 b) (bit_of v) []
      by_way (w ∷ ws) = join-behind (way_down d.places 0 b) w (ws ++ bit_of v ∷ [])

  -- ---- names at the top differ
  whole-has : (v : ℕ) → v < length d.pins → Contains (pins_of d 0) v
  whole-has v below = filtered-has (is_pin_of d 0) (length d.pins) v below (is_inside-top d.places design.parents (pin_at d.pins v).place (place-below d design v below))

  abbrev named_at : ℕ → ℕ → Named ℕ
  named_at r v = record { name = pin_name d r v; object = v }

  top-means : (v : ℕ) → v < length d.pins → meaning (named_pins d 0) (pin_name d 0 v) ≡ Some v
  top-means v below =
      let there = whole-has v below in
      let none : Named ℕ = record { name = []; object = 0 } in
      let own = meaning-own (named_pins d 0) design.pin_names there.0 none (omega (arith, there.1, length-map (pins_of d 0) (named_at 0))) in
      let is : slice_index_or (named_pins d 0) there.0 none ≡ named_at 0 v = get_or-map (named_at 0) (pins_of d 0) there.0 v none there.1 ∙ ap (named_at 0) there.2 in
      subst (λ (o : Named ℕ). meaning (named_pins d 0) o.name ≡ Some o.object) is own

  -- so do those below the block
  pub name-one : (v w : ℕ) → v < length d.pins → w < length d.pins → is_pin_of d b v ≡ true → is_pin_of d b w ≡ true → pin_name d b v ≡ pin_name d b w → v ≡ w
  name-one v w belowv beloww innerv innerw same =
      let top = name-front v belowv innerv ∙ (ap (glue (way_down d.places 0 b)) same ∙ sym (name-front w beloww innerw)) in
      some-same v w (sym (top-means v belowv) ∙ (ap (meaning (named_pins d 0)) top ∙ top-means w beloww))
    where
      some-same : (m n : ℕ) → Some m ≡ Some n → m ≡ n
      some-same m n e = cc

  -- ---- the name of a pin of the block means that pin
  found-own : {X : Type 0} (g : ℕ → Named X) (vs : List ℕ) (v : ℕ) (rest : List (Named X)) → Contains vs v → ((w : ℕ) → Contains vs w → bytes_eq (g w).name (g v).name ≡ true → w ≡ v)
      → find (λ o. bytes_eq o.name (g v).name) (map g vs ++ rest) ≡ Some (g v)
  found-own g [] v rest there one = absurd (omega (arith, there.1))
  found-own {X} g (u ∷ us) v rest there one = by_test (bytes_eq (g u).name (g v).name) refl (λ later. found-own g us v rest later (λ w has same. one w (suc has.0, omega (arith, has.1), has.2) same))
    where
      by_test : (t : Bool) → bytes_eq (g u).name (g v).name ≡ t → (Contains us v → find (λ o. bytes_eq o.name (g v).name) (map g us ++ rest) ≡ Some (g v))
          → find (λ o. bytes_eq o.name (g v).name) (map g (u ∷ us) ++ rest) ≡ Some (g v)
      by_test true same onward = rw same (ap (λ w. Some (g w)) (one u (0, omega arith, refl) same))
      by_test false other onward = rw other (onward (elim (contains-cases u us v there) [
        | inl here ↦ absurd (true≢false (sym ((bytes_eq-Decides (g u).name (g v).name).1 (ap (λ w. (g w).name) here)) ∙ other))
        | inr later ↦ later
      ]))

  means-found : {X : Type 0} (objects : List (Named X)) (name : List ℕ) (o : Named X) → find (λ o. bytes_eq o.name name) objects ≡ Some o → meaning objects name ≡ Some o.object
  means-found objects name o found = rw found refl

  pub pin-means : (v : ℕ) → v < length d.pins → is_pin_of d b v ≡ true → meaning (named_pins d b) (pin_name d b v) ≡ Some v
  pin-means v below inner =
      let found = found-own (named_at b) (pins_of d b) v [] (filtered-has (is_pin_of d b) (length d.pins) v below inner)
      (λ w has same. name-one w v (filtered-below (is_pin_of d b) (length d.pins) w has) below (filtered-passes (is_pin_of d b) (range_with_len 0 (length d.pins)) w has) inner
      ((bytes_eq-Decides (pin_name d b w) (pin_name d b v)).0 same)) in
      means-found (named_pins d b) (pin_name d b v) (named_at b v) (subst (λ os. find (λ o. bytes_eq o.name (pin_name d b v)) os ≡ Some (named_at b v)) (append-nil (named_pins d b)) found)

  -- and that of a port bit the bit
  abbrev bit_at : ℕ → Named (List ℕ)
  bit_at v = record { name = bit_of v; object = v ∷ [] }

  bit-name : (v : ℕ) → (pin_at d.pins v).place ≡ b → pin_name d b v ≡ bit_of v
  bit-name v place = ap (λ ws. join_with_byte 47 (ws ++ bit_of v ∷ [])) (ap (way_down d.places b) place ∙ ap (λ qs. reverse (map name_of qs)) way-end)

  bit-inside : (v : ℕ) → (pin_at d.pins v).place ≡ b → is_pin_of d b v ≡ true
  bit-inside v place = rw (eq-eqb (pin_at d.pins v).place b place) refl

  pub port-means : (v : ℕ) → v < length d.pins → (pin_at d.pins v).place ≡ b → meaning (named_ports d b) (pin_name d b v) ≡ Some (v ∷ [])
  port-means v below place =
      let found = found-own bit_at (bits_of d b) v (map (λ v. record { name = (pin_at d.pins v).port; object = bits_of_port d b (pin_at d.pins v).port }) (filter (leads_vector d b) (bits_of d b)))
      (filtered-has (λ v. (pin_at d.pins v).place == b) (length d.pins) v below (eq-eqb (pin_at d.pins v).place b place))
      (λ w has same.
      (let placew = (Decides-eqb (pin_at d.pins w).place b).0 (filtered-passes (λ v. (pin_at d.pins v).place == b) (range_with_len 0 (length d.pins)) w has) in
      name-one w v (filtered-below (λ v. (pin_at d.pins v).place == b) (length d.pins) w has) below (bit-inside w placew) (bit-inside v place)
      (bit-name w placew ∙ ((bytes_eq-Decides (bit_of w) (bit_of v)).0 same ∙ sym (bit-name v place))))) in
      ap (meaning (named_ports d b)) (bit-name v place) ∙ means-found (named_ports d b) (bit_of v) (bit_at v) found
