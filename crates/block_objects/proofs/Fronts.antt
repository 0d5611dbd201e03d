-- Names inside a block are those of the design behind what stands before them.
use Rattle.std.specs.Prelude.{◌≡◌, ℕ, zero, suc, ◌+◌, ◌<◌, ◌==◌, not, Bool, true, false, List, [], ◌∷◌, ◌++◌, map, reverse, length, drop, take_while, Some}
use Rattle.std.specs.List.{join_with_byte, prefix_len}
use Rattle.std.proofs.Common.{refl, sym, ◌∙◌, ap, subst, arith, eq-eqb}
use Rattle.std.proofs.lemmas.Bool.{ne_eqb}
use Rattle.std.proofs.lemmas.List.{map-append, append_assoc, reverse-append}
use Rattle.bud_design.specs.Designs.{Design, place_at, pin_at, upwards, above, is_inside, way_down, pin_name, place_name, is_pin_of}
use Rattle.bud_design.specs.DesignRules.{IsDesign}
use Rattle.bud_design.specs.Names.{bit_name}
use Rattle.bud_design.proofs.Lineages.{is_inside-most}
use Rattle.block_theory.specs.Blocks.{IsBlock}
use Rattle.block_theory.proofs.Insides.{inside-cases, upwards-same, parent-below, place-below}

take_while-more : (p : ℕ → Bool) (x : ℕ) (xs : List ℕ) → p x ≡ true → take_while p (x ∷ xs) ≡ x ∷ take_while p xs
take_while-more p x xs e = (let one_more : 1 + prefix_len p xs ≡ suc (prefix_len p xs) = omega arith in rw (e, one_more) refl)

take_while-none : (p : ℕ → Bool) (x : ℕ) (xs : List ℕ) → p x ≡ false → take_while p (x ∷ xs) ≡ []
take_while-none p x xs e = rw e refl

-- names joined behind a front
join-behind : (f : List ℕ) (fs : List (List ℕ)) (x : List ℕ) (xs : List (List ℕ)) → join_with_byte 47 (f ∷ (fs ++ x ∷ xs)) ≡ (join_with_byte 47 (f ∷ fs) ++ 47 ∷ []) ++ join_with_byte 47 (x ∷ xs)
join-behind f [] x xs = sym (append_assoc f (47 ∷ []) (join_with_byte 47 (x ∷ xs)))
join-behind f (g ∷ gs) x xs =
    ap (λ text. f ++ (47 ∷ text)) (join-behind g gs x xs) ∙ regroup f (join_with_byte 47 (g ∷ gs)) (join_with_byte 47 (x ∷ xs))
  where
    regroup : (a b c : List ℕ) → a ++ (47 ∷ ((b ++ 47 ∷ []) ++ c)) ≡ ((a ++ (47 ∷ b)) ++ 47 ∷ []) ++ c
    regroup a b c = simp append_assoc

behind-some : (ws : List (List ℕ)) (x : List ℕ) (xs : List (List ℕ)) → 0 < length ws → join_with_byte 47 (ws ++ x ∷ xs) ≡ (join_with_byte 47 ws ++ 47 ∷ []) ++ join_with_byte 47 (x ∷ xs)
behind-some [] x xs some = absurd (omega (arith, some))
behind-some (f ∷ fs) x xs some = join-behind f fs x xs

drop_front : (a b : List ℕ) → drop (length a) (a ++ b) ≡ b
drop_front [] b = refl
drop_front (x ∷ a) b = drop_front a b

module _ (d : Design) (design : IsDesign d) (b : ℕ) (block : IsBlock d b) where
  abbrev way : ℕ → ℕ → List ℕ
  way r p = take_while (λ q. not (q == r)) (upwards (suc p) d.places p)

  way-step : (r p q : ℕ) → p < length d.places → (place_at d.places p).parent ≡ Some q → (p == r) ≡ false → way r p ≡ p ∷ way r q
  way-step r p q below e other =
      let less = parent-below d.places design.parents p q below e in
      let up : above (upwards p d.places) (place_at d.places p).parent ≡ upwards (suc q) d.places q
      = ap (above (upwards p d.places)) e ∙ upwards-same d.places design.parents p (suc q) q (omega (arith, less, below)) less (omega arith) in
      ap (λ qs. take_while (λ q. not (q == r)) (p ∷ qs)) up ∙ take_while-more (λ q. not (q == r)) p (upwards (suc q) d.places q) (ap not other)

  way-end : way b b ≡ []
  way-end = take_while-none (λ q. not (q == b)) b (above (upwards b d.places) (place_at d.places b).parent) (ap not (eq-eqb b b refl))

  -- the way up to the top goes through the block
  way-through : (fuel p : ℕ) → p < fuel → p < length d.places → is_inside d.places b p ≡ true → way 0 p ≡ way b p ++ way 0 b
  way-through zero p over below inner = absurd (omega (arith, over))
  way-through (suc fuel) p over below inner = inside-cases d.places design.parents b p below inner
      (λ same. subst (λ q. way 0 q ≡ way b q ++ way 0 b) (sym same) (ap (λ qs. qs ++ way 0 b) (sym way-end)))
      (λ q e within.
      (let less = parent-below d.places design.parents p q below e in
      let most = is_inside-most d.places design.parents b q (omega (arith, less, below)) within in
      let apart : (p == b) ≡ false = ne_eqb p b (λ s. omega (arith, s, less, most)) in
      let high : (p == 0) ≡ false = ne_eqb p 0 (λ s. omega (arith, s, less)) in
      way-step 0 p q below e high
      ∙ (ap (λ qs. p ∷ qs) (way-through fuel q (omega (arith, less, over)) (omega (arith, less, below)) within) ∙ ap (λ qs. qs ++ way 0 b) (sym (way-step b p q below e apart)))))

  abbrev name_of : ℕ → List ℕ
  name_of q = (place_at d.places q).name

  down-through : (p : ℕ) → p < length d.places → is_inside d.places b p ≡ true → way_down d.places 0 p ≡ way_down d.places 0 b ++ way_down d.places b p
  down-through p below inner =
      ap (λ qs. reverse (map name_of qs)) (way-through (suc p) p (omega arith) below inner)
      ∙ (ap reverse (map-append name_of (way b p) (way 0 b)) ∙ reverse-append (map name_of (way b p)) (map name_of (way 0 b)))

  -- the block lies below the top
  way-some : 0 < length (way_down d.places 0 b)
  way-some =
      let high : (b == 0) ≡ false = ne_eqb b 0 (λ s. (let some = block.below_top in omega (arith, s, some))) in
      let rest = take_while (λ q. not (q == 0)) (above (upwards b d.places) (place_at d.places b).parent) in
      let first : way 0 b ≡ b ∷ rest = take_while-more (λ q. not (q == 0)) b (above (upwards b d.places) (place_at d.places b).parent) (ap not high) in
      let turned = ap (λ qs. reverse (map name_of qs)) first ∙ reverse-append (name_of b ∷ []) (map name_of rest) in
      subst (λ (ws : List (List ℕ)). 0 < length ws) (sym turned) (at_end (reverse (map name_of rest)) (name_of b))
    where
      at_end : (ws : List (List ℕ)) (w : List ℕ) → 0 < length (ws ++ reverse (w ∷ []))
      at_end [] w = omega arith
      at_end (v ∷ ws) w = omega arith

  abbrev bit_of : ℕ → List ℕ
  bit_of v = bit_name (pin_at d.pins v).port (pin_at d.pins v).bit

  -- a name below the top is the block's front and the name below the block
  name-front : (v : ℕ) → v < length d.pins → is_pin_of d b v ≡ true → pin_name d 0 v ≡ (place_name d.places 0 b ++ 47 ∷ []) ++ pin_name d b v
  name-front v below inner =
      let place = (pin_at d.pins v).place in
      ap (λ ws. join_with_byte 47 (ws ++ bit_of v ∷ [])) (down-through place (place-below d design v below) inner)
      ∙ (ap (join_with_byte 47) (append_assoc (way_down d.places 0 b) (way_down d.places b place) (bit_of v ∷ [])) ∙ by_way (way_down d.places b place))
    where
      by_way : (ws : List (List ℕ)) → join_with_byte 47 (way_down d.places 0 b ++ (ws ++ bit_of v ∷ [])) ≡ (place_name d.places 0 b ++ 47 ∷ []) ++ join_with_byte 47 (ws ++ bit_of v ∷ [])
      by_way [] = behind-some (way_down d.places 0 b) (bit_of v) [] way-some
      by_way (w ∷ ws) = behind-some (way_down d.places 0 b) w (ws ++ bit_of v ∷ []) way-some

  -- what is left behind the front
  pub name-behind : (v : ℕ) (front : List ℕ) → v < length d.pins → is_pin_of d b v ≡ true → front ≡ place_name d.places 0 b ++ 47 ∷ [] → drop (length front) (pin_name d 0 v) ≡ pin_name d b v
  name-behind v front below inner is =
      ap (λ (text : List ℕ). drop (length front) text) (name-front v below inner ∙ ap (λ f. f ++ pin_name d b v) (sym is)) ∙ drop_front front (pin_name d b v)

  pub front-within : (v : ℕ) (front : List ℕ) → v < length d.pins → is_pin_of d b v ≡ true → front ≡ place_name d.places 0 b ++ 47 ∷ [] → pin_name d 0 v ≡ front ++ pin_name d b v
  front-within v front below inner is = name-front v below inner ∙ ap (λ f. f ++ pin_name d b v) (sym is)
