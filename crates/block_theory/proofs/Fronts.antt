-- The longest front of a list of arcs that lies inside a block.
use Rattle.std.specs.Prelude.{◌≡◌, ℕ, Bool, true, false, List, [], ◌∷◌, ◌++◌, All, slice_index_or, length}
use Rattle.std.proofs.Common.{arith, refl, ap, subst}
use Rattle.std.proofs.lemmas.List.Elements.{All-nil, All-cons}
use Rattle.bud_base.specs.declared.ids.ArcId.{ArcId}
use Rattle.bud_design.specs.Arcs.{Arc}
use Rattle.bud_design.specs.Designs.{Design}
use Rattle.block_theory.specs.Blocks.{is_arc_in}
use Rattle.block_theory.specs.Pieces.{BeginsOutside}

-- arcs inside the block, and then arcs that begin outside it, or none
pub record IsFront (d : Design) (arcs : List Arc) (b : ℕ) (xs : List ArcId) : Type 0 where
  pub front : List ArcId
  pub rest : List ArcId
  pub parts : xs ≡ front ++ rest
  pub within : All (λ x. is_arc_in d arcs b x ≡ true) front
  pub behind : BeginsOutside d arcs b rest

module _ (d : Design) (arcs : List Arc) (b : ℕ) where
  first-arc : (x y : ArcId) (xs ys : List ArcId) → x ∷ xs ≡ y ∷ ys → x ≡ y
  first-arc x y xs ys e = ap (λ zs. slice_index_or zs 0 x) e

  no-arc : (x : ArcId) (xs : List ArcId) → [] ≡ x ∷ xs → ⊥
  no-arc x xs e = absurd (omega (arith, ap (λ (zs : List ArcId). length zs) e))

  -- the front of a list that begins inside the block begins with its first arc
  pub IsFront-cons : (x : ArcId) (xs : List ArcId) → is_arc_in d arcs b x ≡ true → IsFront d arcs b xs → IsFront d arcs b (x ∷ xs)
  IsFront-cons x xs inner is = record {
    front = x ∷ is.front;
    rest = is.rest;
    parts = ap (λ zs. x ∷ zs) is.parts;
    within = All-cons (λ x. is_arc_in d arcs b x ≡ true) x is.front inner is.within;
    behind = is.behind;
  }

  pub IsFront-of : (xs : List ArcId) → IsFront d arcs b xs
  IsFront-of [] = record { front = []; rest = []; parts = refl; within = All-nil (λ x. is_arc_in d arcs b x ≡ true); behind = λ x others e. absurd (no-arc x others e) }
  IsFront-of (x ∷ xs) = by_test (is_arc_in d arcs b x) refl (IsFront-of xs)
    where
      by_test : (t : Bool) → is_arc_in d arcs b x ≡ t → IsFront d arcs b xs → IsFront d arcs b (x ∷ xs)
      by_test true inner is = IsFront-cons x xs inner is
      by_test false outer is = record {
        front = [];
        rest = x ∷ xs;
        parts = refl;
        within = All-nil (λ x. is_arc_in d arcs b x ≡ true);
        behind = λ y others e. subst (λ (z : ArcId). is_arc_in d arcs b z ≡ false) (first-arc x y xs others e) outer;
      }
