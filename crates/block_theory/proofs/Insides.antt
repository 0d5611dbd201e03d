-- Arcs and a block: an arc inside it has both pins inside, and any other comes in by an input bit and goes out by an output bit.
use Rattle.std.specs.Prelude.{◌≡◌, ◌⊎◌, ℕ, zero, suc, ◌<◌, ◌==◌, ◌&&◌, ◌||◌, Bool, true, false, [], ◌∷◌, List, length, Option, Some, None}
use Rattle.std.specs.List.{list_any}
use Rattle.std.proofs.Common.{true≢false, arith, sym, ◌∙◌, refl, ap, inl, inr, subst, eq-eqb}
use Rattle.std.proofs.lemmas.Bool.Decides.{Decides-eqb}
use Rattle.std.proofs.lemmas.Bool.{ne_eqb}
use Rattle.bud_syntax.specs.declared.modules.Dir.{Dir}
use Rattle.bud_syntax.specs.declared.modules.Dir.TheVariants.{Input, Output, Inout}
use Rattle.bud_design.specs.declared.designs.Place.{Place}
use Rattle.bud_design.specs.Arcs.{Arc}
use Rattle.bud_design.specs.Designs.{Design, place_at, pin_at, upwards, above, is_inside, is_input, is_output}
use Rattle.bud_design.specs.DesignRules.{IsDesign, HasParent}
use Rattle.bud_design.proofs.Lineages.{inside, inside_above, above-cases, is_inside-most}
use Rattle.block_theory.specs.Blocks.{IsBlock, is_input_of, is_output_of, HasHome, IsWireArc, IsLeafArc}

or-true : (b : Bool) → b || true ≡ true
or-true true = refl
or-true false = refl

or-cases : (a b : Bool) → a || b ≡ true → (a ≡ true) ⊎ (b ≡ true)
or-cases true b e = inl refl
or-cases false b e = inr e

and-false : (a b : Bool) → b ≡ false → a && b ≡ false
and-false true b e = e
and-false false b e = refl

pub and-true : (a b : Bool) → a && b ≡ true → (a ≡ true) × (b ≡ true)
and-true true b e = (refl, e)
and-true false b e = absurd (true≢false (sym e))

pub input-no_output : (x : Dir) → is_input x ≡ true → is_output x ≡ false
input-no_output Input e = refl
input-no_output Output e = absurd (true≢false (sym e))
input-no_output Inout e = absurd (true≢false (sym e))

pub output-no_input : (x : Dir) → is_output x ≡ true → is_input x ≡ false
output-no_input Input e = absurd (true≢false (sym e))
output-no_input Output e = refl
output-no_input Inout e = absurd (true≢false (sym e))

same-some : (p q : ℕ) → Some p ≡ Some q → p ≡ q
same-some p q e = ap (λ (o : Option ℕ). or_self o) e
  where
    or_self : Option ℕ → ℕ
    or_self None = p
    or_self (Some n) = n

module _ (places : List Place) (rising : (p : ℕ) → p < length places → HasParent p (place_at places p).parent) where
  above-same : (m n p : ℕ) (o : Option ℕ) → p < length places → HasParent p o → ((q : ℕ) → q < p → upwards m places q ≡ upwards n places q) → above (upwards m places) o ≡ above (upwards n places) o
  above-same m n p None below less same = refl
  above-same m n p (Some q) below less same = same q less

  -- more steps than there are places up to the top change nothing
  pub upwards-same : (m n p : ℕ) → p < length places → p < m → p < n → upwards m places p ≡ upwards n places p
  upwards-same zero n p below overm overn = absurd (omega (arith, overm))
  upwards-same (suc m) zero p below overm overn = absurd (omega (arith, overn))
  upwards-same (suc m) (suc n) p below overm overn =
      ap (λ qs. p ∷ qs) (above-same m n p (place_at places p).parent below (rising p below)
      (λ q less. upwards-same m n q (omega (arith, less, below)) (omega (arith, less, overm)) (omega (arith, less, overn))))

  inside-at : (n b q : ℕ) → q < length places → q < n → is_inside places b q ≡ inside n places b q
  inside-at n b q below over = ap (list_any (λ r. r == b)) (upwards-same (suc q) n q below (omega arith) over)

  inside-parent : (n b p q : ℕ) → (place_at places p).parent ≡ Some q → inside n places b q ≡ true → inside (suc n) places b p ≡ true
  inside-parent n b p q e holds = rw (e, holds) (or-true (p == b))

  pub parent-below : (p q : ℕ) → p < length places → (place_at places p).parent ≡ Some q → q < p
  parent-below p q below e = subst (HasParent p) e (rising p below)

  -- what stands in a place is inside what the place is inside
  pub inside-child : (b p q : ℕ) → p < length places → (place_at places p).parent ≡ Some q → is_inside places b q ≡ true → is_inside places b p ≡ true
  inside-child b p q below e holds =
      let less = parent-below p q below e in
      inside-parent p b p q e (sym (inside-at p b q (omega (arith, less, below)) less) ∙ holds)

  -- what is inside a block is the block, or stands in a place inside it
  pub inside-cases : {P : Type 0} (b p : ℕ) → p < length places → is_inside places b p ≡ true → (p ≡ b → P)
      → ((q : ℕ) → (place_at places p).parent ≡ Some q → is_inside places b q ≡ true → P) → P
  inside-cases b p below holds same onward = elim (or-cases (p == b) (inside_above p places b (place_at places p).parent) holds) [
    | inl e ↦ same ((Decides-eqb p b).0 e)
    | inr later ↦ above-cases places rising p b p (place_at places p).parent refl (rising p below) later
        (λ q e less rest. onward q e (inside-at p b q (omega (arith, less, below)) less ∙ rest))
  ]

-- a pin of the home by its near side, or of a place that stands in it by its far side
abbrev IsSide : Design → (Dir → Bool) → (Dir → Bool) → ℕ → ℕ → Type 0
IsSide d near far home v =
    ((pin_at d.pins v).place ≡ home × near (pin_at d.pins v).dir ≡ true)
    ⊎ ((place_at d.places (pin_at d.pins v).place).parent ≡ Some home × far (pin_at d.pins v).dir ≡ true)

module _ (d : Design) (design : IsDesign d) where
  pub place-below : (v : ℕ) → v < length d.pins → (pin_at d.pins v).place < length d.places
  place-below v below = design.in_places v (pin_at [] 0) below

  module _ (b : ℕ) (block : IsBlock d b) where
    side-inside : (near far : Dir → Bool) → ((x : Dir) → near x ≡ true → far x ≡ false) → (home v : ℕ) → v < length d.pins → home < length d.places
        → is_inside d.places b home ≡ true → IsSide d near far home v
        → (is_inside d.places b (pin_at d.pins v).place ≡ true) × ((pin_at d.pins v).place == b && far (pin_at d.pins v).dir ≡ false)
    side-inside near far apart home v below within inner (inl here) =
        (subst (λ p. is_inside d.places b p ≡ true) (sym here.0) inner, and-false ((pin_at d.pins v).place == b) (far (pin_at d.pins v).dir) (apart (pin_at d.pins v).dir here.1))
    side-inside near far apart home v below within inner (inr there) =
        let p = (pin_at d.pins v).place in
        let less = parent-below d.places design.parents p home (place-below v below) there.0 in
        let most = is_inside-most d.places design.parents b home within inner in
        let other : (p == b) ≡ false = ne_eqb p b (λ e. omega (arith, less, most, e)) in
        (inside-child d.places design.parents b p home (place-below v below) there.0 inner, rw other refl)

    side-outside : (near far : Dir → Bool) (home v : ℕ) → v < length d.pins → is_inside d.places b home ≡ false → IsSide d near far home v
        → is_inside d.places b (pin_at d.pins v).place ≡ true → (pin_at d.pins v).place == b && far (pin_at d.pins v).dir ≡ true
    side-outside near far home v below outer (inl here) inner =
        absurd (true≢false (sym (subst (λ p. is_inside d.places b p ≡ true) here.0 inner) ∙ outer))
    side-outside near far home v below outer (inr there) inner =
        inside-cases d.places design.parents b (pin_at d.pins v).place (place-below v below) inner
        (λ same. rw (eq-eqb (pin_at d.pins v).place b same) there.1)
        (λ q e within. absurd (true≢false (sym within ∙ (ap (is_inside d.places b) (same-some q home (sym e ∙ there.0)) ∙ outer))))

    -- a pin of a leaf is no port bit of a block
    pub leaf-no_port : (v : ℕ) → (place_at d.places (pin_at d.pins v).place).leaf ≡ true → ((pin_at d.pins v).place == b) ≡ false
    leaf-no_port v leaf = ne_eqb (pin_at d.pins v).place b (λ e. true≢false (sym leaf ∙ (ap (λ p. (place_at d.places p).leaf) e ∙ block.plain)))

    pub leaf-no_input : (v : ℕ) → (place_at d.places (pin_at d.pins v).place).leaf ≡ true → is_input_of d b v ≡ false
    leaf-no_input v leaf = rw (leaf-no_port v leaf) refl

    pub leaf-no_output : (v : ℕ) → (place_at d.places (pin_at d.pins v).place).leaf ≡ true → is_output_of d b v ≡ false
    leaf-no_output v leaf = rw (leaf-no_port v leaf) refl

    -- an arc inside the block: both pins are inside, it leaves no output bit and enters no input bit
    pub record EndsInside (a : Arc) : Type 0 where
      pub from : is_inside d.places b (pin_at d.pins a.from).place ≡ true
      pub to : is_inside d.places b (pin_at d.pins a.to).place ≡ true
      pub leaves : is_output_of d b a.from ≡ false
      pub enters : is_input_of d b a.to ≡ false

    pub EndsInside-arc : (a : Arc) → HasHome d a → is_inside d.places b a.home ≡ true → EndsInside a
    EndsInside-arc a has inner = by_kind has.kind
      where
        leaf_of : (v : ℕ) → (pin_at d.pins v).place ≡ a.home → (place_at d.places a.home).leaf ≡ true → (place_at d.places (pin_at d.pins v).place).leaf ≡ true
        leaf_of v same leaf = subst (λ p. (place_at d.places p).leaf ≡ true) (sym same) leaf

        by_kind : IsWireArc d a ⊎ IsLeafArc d a → EndsInside a
        by_kind (inl wire) =
            let first = side-inside is_input is_output input-no_output a.home a.from has.from has.home inner wire.drives in
            let last = side-inside is_output is_input output-no_input a.home a.to has.to has.home inner wire.loads in
            record { from = first.0; to = last.0; leaves = first.1; enters = last.1 }
        by_kind (inr leaf) = record {
          from = subst (λ p. is_inside d.places b p ≡ true) (sym leaf.from) inner;
          to = subst (λ p. is_inside d.places b p ≡ true) (sym leaf.to) inner;
          leaves = leaf-no_output a.from (leaf_of a.from leaf.from leaf.leaf);
          enters = leaf-no_input a.to (leaf_of a.to leaf.to leaf.leaf);
        }

    -- an arc outside the block: where a pin of it is inside, the arc leaves an output bit, or enters an input bit
    pub record CrossesPorts (a : Arc) : Type 0 where
      pub leaves : is_inside d.places b (pin_at d.pins a.from).place ≡ true → is_output_of d b a.from ≡ true
      pub enters : is_inside d.places b (pin_at d.pins a.to).place ≡ true → is_input_of d b a.to ≡ true

    pub CrossesPorts-arc : (a : Arc) → HasHome d a → is_inside d.places b a.home ≡ false → CrossesPorts a
    CrossesPorts-arc a has outer = by_kind has.kind
      where
        by_kind : IsWireArc d a ⊎ IsLeafArc d a → CrossesPorts a
        by_kind (inl wire) = record {
          leaves = λ inner. side-outside is_input is_output a.home a.from has.from outer wire.drives inner;
          enters = λ inner. side-outside is_output is_input a.home a.to has.to outer wire.loads inner;
        }
        by_kind (inr leaf) = record {
          leaves = λ inner. absurd (true≢false (sym (subst (λ p. is_inside d.places b p ≡ true) leaf.from inner) ∙ outer));
          enters = λ inner. absurd (true≢false (sym (subst (λ p. is_inside d.places b p ≡ true) leaf.to inner) ∙ outer));
        }
