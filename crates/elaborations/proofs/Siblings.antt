-- Places that stand in one place have different names.
use Rattle.std.specs.Prelude.{◌≡◌, ℕ, ◌<◌, ◌≤◌, ◌⊎◌, zero, suc, Bool, true, false, List, [], ◌∷◌, ◌++◌, map, length, Option, Some, None, slice_index_or}
use Rattle.std.specs.Str.{bytes_eq}
use Rattle.std.proofs.Common.{true≢false, arith, sym, ◌∙◌, refl, ap, subst, eq-eqb, inl, inr}
use Rattle.std.proofs.lemmas.Slice.Eq.{bytes_eq-Decides}
use Rattle.std.proofs.lemmas.List.{length-map}
use Rattle.bud_syntax.specs.declared.modules.Instance.{Instance}
use Rattle.bud_syntax.specs.declared.modules.Module.{Module}
use Rattle.bud_design.specs.declared.designs.Place.{Place}
use Rattle.bud_design.specs.declared.designs.Pin.{Pin}
use Rattle.bud_design.specs.Designs.{place_at}
use Rattle.bud_design.specs.DesignRules.{HasParent}
use Rattle.bud_design.specs.Names.{printed}
use Rattle.bud_design.proofs.NameLaws.{printed-injective}
use Rattle.module_nets.specs.Nets.{same_number}
use Rattle.elaborations.specs.Walks.{children, StandsFor, HasInside, IsInstanceTree, own_names}
use Rattle.elaborations.proofs.Lists.{AllZip-at, AllPairs-right, filter-range-at, by_lt}
use Rattle.elaborations.proofs.Tops.{Differ_names, first_again-none}

abbrev pub no_instance : Instance
no_instance = record { «module» = []; name = []; links = [] }

some-same : (m n : ℕ) → Some m ≡ Some n → m ≡ n
some-same m n same = ap or_zero same
  where
    or_zero : Option ℕ → ℕ
    or_zero None = 0
    or_zero (Some n) = n

names-at : (is : List Instance) (i j : ℕ) → Differ_names (map (λ i. i.name) is) → i < length is → j < length is → (slice_index_or is i no_instance).name ≡ (slice_index_or is j no_instance).name → i ≡ j
names-at is i j differ belowi belowj same = by_lt i j (λ less. absurd (apart i j less belowj same)) (λ more. by_lt j i (λ less. absurd (apart j i less belowi (sym same))) (λ most. omega (arith, more, most)))
  where
    mapped : (is : List Instance) (i : ℕ) → i < length is → slice_index_or (map (λ i. i.name) is) i [] ≡ (slice_index_or is i no_instance).name
    mapped [] i below = absurd (omega (arith, below))
    mapped (x ∷ xs) zero below = refl
    mapped (x ∷ xs) (suc i) below = mapped xs i (omega (arith, below))

    apart : (i j : ℕ) → i < j → j < length is → (slice_index_or is i no_instance).name ≡ (slice_index_or is j no_instance).name → ⊥
    apart i j less below same =
        let names = map (λ i. i.name) is in
        let long : length names ≡ length is = length-map is (λ i. i.name) in
        true≢false (sym ((bytes_eq-Decides (slice_index_or names i []) (slice_index_or names j [])).1 (mapped is i (omega (arith, less, below)) ∙ (same ∙ sym (mapped is j below))))
        ∙ differ i j [] less (omega (arith, below, long)))

module _ (modules : List Module) (places : List Place) (pins : List Pin) (tree : IsInstanceTree modules places pins) where
  -- parents have lower numbers
  pub tree-parents : (p : ℕ) → p < length places → HasParent p (place_at places p).parent
  tree-parents p below = by_lt p 1
      (λ short. at_top p (omega (arith, short)))
      (λ long.
      let its = tree.below p long below in
      subst (HasParent p) (sym its.parent_is) (lower its.parent p long its.before))
    where
      at_top : (p : ℕ) → 0 ≡ p → HasParent p (place_at places p).parent
      at_top p same = subst (λ p. HasParent p (place_at places p).parent) same (subst (HasParent 0) (sym tree.no_parent) refl)

      lower : (q p : ℕ) → 1 ≤ p → (q ≡ 0) ⊎ (1 ≤ q × q < p) → q < p
      lower q p long (inl same) = omega (arith, same, long)
      lower q p long (inr between) = between.1

  -- a place that stands in a place is one of its children, which stands for an instance
  record IsInstanceAt (h p k : ℕ) (is : List Instance) : Type 0 where
    less : k < length is
    name : (place_at places p).name ≡ printed (slice_index_or is k no_instance).name

  child-at : (h p : ℕ) → p < length places → (place_at places p).parent ≡ Some h → (k : ℕ) × ((k < length (children places h 0 (length places))) × (slice_index_or (children places h 0 (length places)) k 0 ≡ p))
  child-at h p below parent =
      filter-range-at (λ q. same_number (place_at places q).parent (Some h)) 0 (length places) p (omega arith) (omega (arith, below)) (rw parent (eq-eqb h h refl))

  siblings-of : (h : ℕ) (m : Module) (leaf : Bool) → HasInside leaf modules places m (children places h 0 (length places)) → (p q : ℕ) → p < length places → q < length places
      → (place_at places p).parent ≡ Some h → (place_at places q).parent ≡ Some h → (place_at places p).name ≡ (place_at places q).name → p ≡ q
  siblings-of h m true inside p q belowp belowq parp parq same =
      let at = child-at h p belowp parp in
      absurd (omega (arith, at.1.0, ap length inside))
  siblings-of h m false inside p q belowp belowq parp parq same =
      let atp = child-at h p belowp parp in
      let atq = child-at h q belowq parq in
      let kids = children places h 0 (length places) in
      let isp = AllZip-at (StandsFor modules places) m.instances kids no_instance 0 inside.0 atp.0 atp.1.0 in
      let isq = AllZip-at (StandsFor modules places) m.instances kids no_instance 0 inside.0 atq.0 atq.1.0 in
      let differ = AllPairs-right (λ a b. bytes_eq a b ≡ false) (map (λ n. n.name) m.nets) (map (λ i. i.name) m.instances)
      (AllPairs-right (λ a b. bytes_eq a b ≡ false) (map (λ p. p.name) m.ports) (map (λ n. n.name) m.nets ++ map (λ i. i.name) m.instances) (first_again-none [] (own_names m) inside.1).0) in
      let namep : (place_at places p).name ≡ printed (slice_index_or m.instances atp.0 no_instance).name = ap (λ q. (place_at places q).name) (sym atp.1.1) ∙ isp.1.name in
      let nameq : (place_at places q).name ≡ printed (slice_index_or m.instances atq.0 no_instance).name = ap (λ q. (place_at places q).name) (sym atq.1.1) ∙ isq.1.name in
      let number : atp.0 ≡ atq.0 = names-at m.instances atp.0 atq.0 differ isp.0 isq.0
      (printed-injective (slice_index_or m.instances atp.0 no_instance).name (slice_index_or m.instances atq.0 no_instance).name (sym namep ∙ (same ∙ nameq))) in
      sym atp.1.1 ∙ (ap (λ k. slice_index_or kids k 0) number ∙ atq.1.1)

  only-top : (p : ℕ) → p < length places → (place_at places p).parent ≡ None → p ≡ 0
  only-top p below none = by_lt p 1 (λ short. omega (arith, short))
      (λ long. absurd (none-some (sym none ∙ (tree.below p long below).parent_is)))
    where
      none-some : {h : ℕ} → None ≡ Some h → ⊥
      none-some same = true≢false (ap is_none same)
        where
          is_none : Option ℕ → Bool
          is_none None = true
          is_none (Some m) = false

  -- where two places stand in one place and have one name, they are one place
  pub tree-siblings : (p q : ℕ) → p < length places → q < length places → (place_at places p).parent ≡ (place_at places q).parent → (place_at places p).name ≡ (place_at places q).name → p ≡ q
  tree-siblings p q belowp belowq par same = by_parent (place_at places p).parent refl
    where
      by_parent : (o : Option ℕ) → (place_at places p).parent ≡ o → p ≡ q
      by_parent None is = only-top p belowp is ∙ sym (only-top q belowq (sym par ∙ is))
      by_parent (Some h) is =
          let less : h < p = subst (HasParent p) is (tree-parents p belowp) in
          let filled = tree.filled h (omega (arith, less, belowp)) in
          siblings-of h filled.«module» filled.«module».leaf filled.inside p q belowp belowq is (sym par ∙ is) same
