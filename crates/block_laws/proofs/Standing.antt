-- Pins of paths and port bits of blocks.
use Rattle.std.specs.Prelude.{◌≡◌, ◌⊎◌, ℕ, suc, ◌<◌, ◌==◌, ◌||◌, ℤ, Bool, true, false, List, [], ◌∷◌, length, All, Option, Some, slice_index_or}
use Rattle.std.proofs.Common.{true≢false, refl, sym, ◌∙◌, subst, arith, inl, inr, eq-eqb}
use Rattle.std.proofs.lemmas.Bool.{cases_lt, cases_eq}
use Rattle.std.proofs.lemmas.Bool.Decides.{Decides-eqb}
use Rattle.std.proofs.lemmas.List.{get_or_default}
use Rattle.std.proofs.lemmas.List.Elements.{All-nil, All-cons}
use Rattle.std.proofs.lemmas.Option.{none-some}
use Rattle.bud_design.specs.declared.clocks.Capture.{Capture}
use Rattle.bud_design.specs.declared.clocks.Constraints.{Constraints}
use Rattle.bud_design.specs.declared.timings.Timing.{Timing}
use Rattle.bud_design.specs.Designs.{Design, pin_at, is_inside}
use Rattle.bud_design.specs.DesignRules.{IsDesign}
use Rattle.bud_design.specs.Policies.{are_nested}
use Rattle.bud_design.specs.TimingPaths.{least_asked, launch_at}
use Rattle.bud_design.proofs.Lineages.{is_inside-most}
use Rattle.block_theory.specs.Blocks.{IsBlock, AreBlocks, is_input_of, is_output_of}
use Rattle.block_theory.specs.Composition.{IsOutside}
use Rattle.block_theory.proofs.Insides.{and-true, leaf-no_input, leaf-no_output}
use Rattle.block_laws.specs.Standing.{IsLeafPin, IsTopPin, CaptureStands, PathsStand}

-- where something is asked at a pin a capture stands there
pub record HasCapture (xs : List Capture) (v : ℕ) : Type 0 where
  pub number : ℕ
  pub below : number < length xs
  pub pin_is : (d : Capture) → (slice_index_or xs number d).pin.0 ≡ v

pub HasCapture-asked : (xs : List Capture) (v : ℕ) (f : Capture → Option ℤ) (r : ℤ) → least_asked xs v f ≡ Some r → HasCapture xs v
HasCapture-asked [] v f r asks = absurd (none-some r asks)
HasCapture-asked (x ∷ xs) v f r asks = by_test (x.pin.0 == v) refl (λ rest. HasCapture-asked xs v f r rest)
  where
    by_test : (b : Bool) → (x.pin.0 == v) ≡ b → (least_asked xs v f ≡ Some r → HasCapture xs v) → HasCapture (x ∷ xs) v
    by_test true here rest = record { number = 0; below = omega arith; pin_is = λ d. (Decides-eqb x.pin.0 v).0 here }
    by_test false other rest =
        let there = rest (sym (rw other refl) ∙ asks) in
        record { number = suc there.number; below = omega (arith, there.below); pin_is = there.pin_is }

-- a member of a list passes a test, or none does
pub record IsMember {X : Type 0} (test : X → Bool) (d : X) (xs : List X) : Type 0 where
  pub number : ℕ
  pub below : number < length xs
  pub passes : test (slice_index_or xs number d) ≡ true

pub member-or_none : {X : Type 0} (test : X → Bool) (d : X) (xs : List X) → IsMember test d xs ⊎ All (λ x. test x ≡ false) xs
member-or_none test d [] = inr (All-nil (λ x. test x ≡ false))
member-or_none {X} test d (x ∷ xs) = by_test (test x) refl (member-or_none test d xs)
  where
    by_test : (b : Bool) → test x ≡ b → IsMember test d xs ⊎ All (λ x. test x ≡ false) xs → IsMember test d (x ∷ xs) ⊎ All (λ x. test x ≡ false) (x ∷ xs)
    by_test true here rest = inl (record { number = 0; below = omega arith; passes = here })
    by_test false other (inl there) = inl (record { number = suc there.number; below = omega (arith, there.below); passes = there.passes })
    by_test false other (inr none) = inr (All-cons (λ x. test x ≡ false) x xs other none)

-- the block of a number, 0 past the last
abbrev pub block_at : List ℕ → ℕ → ℕ
block_at blocks i = slice_index_or blocks i 0

-- where a pin is inside a block it is a port bit of it
abbrev pub IsBoundary : Design → List ℕ → ℕ → Type 0
IsBoundary d blocks v =
    (i : ℕ) → i < length blocks → is_inside d.places (block_at blocks i) (pin_at d.pins v).place ≡ true
    → (is_input_of d (block_at blocks i) v ≡ true) ⊎ (is_output_of d (block_at blocks i) v ≡ true)

inside-self : (d : Design) (b v : ℕ) → (pin_at d.pins v).place ≡ b → is_inside d.places b (pin_at d.pins v).place ≡ true
inside-self d b v same = rw (eq-eqb (pin_at d.pins v).place b same) refl

pub output-inside : (d : Design) (b v : ℕ) → is_output_of d b v ≡ true → is_inside d.places b (pin_at d.pins v).place ≡ true
output-inside d b v output = inside-self d b v ((Decides-eqb (pin_at d.pins v).place b).0 (and-true ((pin_at d.pins v).place == b) _ output).0)

-- a pin of the top is inside no block
pub top-not_inside : (d : Design) → IsDesign d → (b : ℕ) → IsBlock d b → (v : ℕ) → IsTopPin d v → is_inside d.places b (pin_at d.pins v).place ≡ true → ⊥
top-not_inside d design b block v top inner =
    omega (arith, block.below_top, is_inside-most d.places design.parents b 0 design.top (subst (λ p. is_inside d.places b p ≡ true) top inner))

module _ (d : Design) (design : IsDesign d) (blocks : List ℕ) (are : AreBlocks d blocks) where
  pub block-is : (i : ℕ) → i < length blocks → IsBlock d (block_at blocks i)
  block-is i below = are.each i 0 below

  pub top-outside : (i v : ℕ) → i < length blocks → IsTopPin d v → is_inside d.places (block_at blocks i) (pin_at d.pins v).place ≡ true → ⊥
  top-outside i v below top inner = top-not_inside d design (block_at blocks i) (block-is i below) v top inner

  pub leaf-no_port : (i v : ℕ) → i < length blocks → IsLeafPin d v → (is_input_of d (block_at blocks i) v ≡ true) ⊎ (is_output_of d (block_at blocks i) v ≡ true) → ⊥
  leaf-no_port i v below leaf (inl input) = true≢false (sym input ∙ leaf-no_input d design (block_at blocks i) (block-is i below) v leaf)
  leaf-no_port i v below leaf (inr output) = true≢false (sym output ∙ leaf-no_output d design (block_at blocks i) (block-is i below) v leaf)

  nested-left : (p q : ℕ) → is_inside d.places p q ≡ true → are_nested d p q ≡ true
  nested-left p q inner = rw inner refl

  or-true : (b : Bool) → b || true ≡ true
  or-true true = refl
  or-true false = refl

  nested-right : (p q : ℕ) → is_inside d.places q p ≡ true → are_nested d p q ≡ true
  nested-right p q inner = rw inner (or-true (is_inside d.places p q))

  -- a port bit of a block is inside no other block
  pub output-boundary : (i v : ℕ) → i < length blocks → is_output_of d (block_at blocks i) v ≡ true → IsBoundary d blocks v
  output-boundary i v below output j within inner =
      let same = (Decides-eqb (pin_at d.pins v).place (block_at blocks i)).0 (and-true ((pin_at d.pins v).place == block_at blocks i) _ output).0 in
      let inside : is_inside d.places (block_at blocks j) (block_at blocks i) ≡ true = subst (λ p. is_inside d.places (block_at blocks j) p ≡ true) same inner in
      elim (cases_eq i j) [
        | inl one ↦ inr (subst (λ n. is_output_of d (block_at blocks n) v ≡ true) one output)
        | inr differ ↦ elim (cases_lt i j) [
          | inl less ↦ absurd (true≢false (sym (nested-right (block_at blocks i) (block_at blocks j) inside) ∙ are.apart i j 0 less within))
          | inr most ↦ absurd (true≢false (sym (nested-left (block_at blocks j) (block_at blocks i) inside) ∙ are.apart j i 0 (omega arith) below))
        ]
      ]

  module _ (t : Timing) (all : Constraints) (stand : PathsStand d t all) where
    -- a pin at which something is asked is no port bit of a block
    pub asked-no_port : (i v : ℕ) (f : Capture → Option ℤ) (r : ℤ) → least_asked all.captures v f ≡ Some r → i < length blocks
        → is_inside d.places (block_at blocks i) (pin_at d.pins v).place ≡ true → (is_input_of d (block_at blocks i) v ≡ true) ⊎ (is_output_of d (block_at blocks i) v ≡ true) → ⊥
    asked-no_port i v f r asks below inner port = by_stand (stand.captures has.number capture has.below)
      where
        has : HasCapture all.captures v
        has = HasCapture-asked all.captures v f r asks

        capture : Capture
        capture = record { pin = record { 0 = 0 }; clock = 0; edge = (launch_at [] 0).edge; amount = (launch_at [] 0).offset }

        by_stand : CaptureStands d t (slice_index_or all.captures has.number capture) → ⊥
        by_stand (inl top) = top-outside i v below (subst (IsTopPin d) (has.pin_is capture) top) inner
        by_stand (inr checked) = leaf-no_port i v below (subst (IsLeafPin d) (has.pin_is capture) (stand.checked (slice_index_or all.captures has.number capture).pin.0 checked)) port

    -- so at a boundary pin it is outside all blocks
    pub asked-outside : (v : ℕ) (f : Capture → Option ℤ) (r : ℤ) → least_asked all.captures v f ≡ Some r → IsBoundary d blocks v → IsOutside d blocks v
    asked-outside v f r asks boundary i e below = by_test (is_inside d.places (slice_index_or blocks i e) (pin_at d.pins v).place) refl
      where
        by_test : (b : Bool) → is_inside d.places (slice_index_or blocks i e) (pin_at d.pins v).place ≡ b → b ≡ false
        by_test false outer = refl
        by_test true inner =
            let here = subst (λ n. is_inside d.places n (pin_at d.pins v).place ≡ true) (get_or_default blocks i e 0 below) inner in
            absurd (asked-no_port i v f r asks below here (boundary i below here))
