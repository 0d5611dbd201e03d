-- The names on the way down to a place are identifiers in printed form.
use Rattle.std.proofs.Common.{◌≡◌, ◌≢◌, ℕ, zero, suc, ◌+◌, ◌<◌, ◌≤◌, ◌==◌, Bool, true, false, Option, Some, None, List, [], ◌∷◌, ◌++◌, filter, find, length, get_or, All, refl, sym, ap, ◌∙◌, subst, arith, inl, inr, ◌⊎◌, true≢false, eq-eqb}
use Rattle.std.specs.List.{AllByRecursion, AllZip, range_with_len}
use Rattle.std.specs.Str.{bytes_eq}
use Rattle.std.proofs.lemmas.List.{get_or_default}
use Rattle.std.proofs.lemmas.Bool.Decides.{Decides-eqb}
use Rattle.std.proofs.lemmas.List.Elements.{All-nil, All-head, All-tail}
use Rattle.text_scan.proofs.Binds.{by_test}
use Rattle.bud_syntax.specs.declared.modules.Instance.{Instance}
use Rattle.bud_syntax.specs.declared.modules.Module.{Module}
use Rattle.bud_design.specs.declared.designs.Place.{Place}
use Rattle.bud_design.specs.declared.designs.Pin.{Pin}
use Rattle.bud_design.specs.Designs.{place_at, way_down}
use Rattle.bud_design.specs.DesignRules.{is_identifier, HasParent, HasPrintedForm}
use Rattle.bud_design.specs.Names.{printed}
use Rattle.module_nets.specs.Nets.{same_number}
use Rattle.elaborations.specs.Walks.{children, StandsFor, HasInside, IsInstanceTree}
use Rattle.flat_design.specs.Flats.{ArePlaces}
use Rattle.flat_design.proofs.FrontLaws.{is_below, is_top, way_down-more}
use Rattle.netlist_names.specs.Identifiers.{HasIdentifiers}
use Rattle.design_names.proofs.Texts.{Graphic, printed-identifier, identifier-graphic}

-- ---- lists
pub find-all : {X : Type 0} (P : X → Type 0) (test : X → Bool) (xs : List X) (x : X) → All P xs → find test xs ≡ Some x → P x
find-all P test [] x all is = absurd (cc)
find-all P test (y ∷ ys) x all is = by_test (test y)
    (λ passes. let same : y ≡ x = let found : Some y ≡ Some x = rw passes at is in cc in subst P same (All-head P y ys all))
    (λ fails. find-all P test ys x (All-tail P y ys all) (rw fails at is))

apart-number : (m n : ℕ) → (m == n) ≡ false → m ≢ n
apart-number m n apart same = true≢false (sym (eq-eqb m n same) ∙ apart)

-- of the numbers that pass a test, each stands beside an element
beside : {X : Type 0} (P : X → Type 0) (R : X → ℕ → Type 0) (test : ℕ → Bool) (xs : List X) (from n p : ℕ) → All P xs → AllZip R xs (filter test (range_with_len from n)) → from ≤ p → p < from + n → test p ≡ true
    → (x : X) × (P x × R x p)
beside {X} P R test xs from zero p all zip low high is = absurd (omega (arith, low, high))
beside {X} P R test xs from (suc n) p all zip low high is = by_test (test from)
    (λ passes. leading xs all (rw passes at zip) (λ ys others behind less. beside P R test ys (from + 1) n p others behind less (omega (arith, high)) is))
    (λ fails. beside P R test xs (from + 1) n p all (rw fails at zip) (later fails) (omega (arith, high)) is)
  where
    later : test from ≡ false → from + 1 ≤ p
    later fails = by_test (from == p)
        (λ same. absurd (true≢false (sym is ∙ (ap test (sym ((Decides-eqb from p).0 same)) ∙ fails))))
        (λ apart. omega (arith, low, apart-number from p apart))

    leading : (xs : List X) → All P xs → AllZip R xs (from ∷ filter test (range_with_len (from + 1) n))
        → ((ys : List X) → All P ys → AllZip R ys (filter test (range_with_len (from + 1) n)) → from + 1 ≤ p → (x : X) × (P x × R x p)) → (x : X) × (P x × R x p)
    leading [] all zip behind = absurd zip
    leading (x ∷ xs) all zip behind = by_test (from == p)
        (λ same. (x, (All-head P x xs all, subst (R x) ((Decides-eqb from p).0 same) zip.0)))
        (λ apart. behind xs (All-tail P x xs all) zip.1 (omega (arith, low, apart-number from p apart)))

-- ---- places
-- a name is the printed form of an identifier
pub record IsPrintedName (name : List ℕ) : Type 0 where
  pub identifier : List ℕ
  pub is_such : is_identifier identifier ≡ true
  pub name_is : name ≡ printed identifier

pub graphic-name : (name : List ℕ) → IsPrintedName name → Graphic name
graphic-name name is = subst Graphic (sym is.name_is) (identifier-graphic (printed is.identifier) (printed-identifier is.identifier is.is_such)).1

abbrev IsNamed : Instance → Type 0
IsNamed i = is_identifier i.name ≡ true

parent-is : (o : Option ℕ) (q : ℕ) → o ≡ Some q → same_number o (Some q) ≡ true
parent-is o q is = rw is (eq-eqb q q refl)

abbrev Nothing : Instance → Type 0
Nothing i = Unit {0}

abbrev Never : Instance → ℕ → Type 0
Never i r = ⊥

module _ (modules : List Module) (names : All HasIdentifiers modules) (places : List Place) (pins : List Pin) (tree : IsInstanceTree modules places pins) where
  -- a place below the top is named as an instance of the module of the place that it stands in
  named-in : (q p : ℕ) → p < length places → (place_at places p).parent ≡ Some q → (leaf : Bool) (m : Module) → HasIdentifiers m → HasInside leaf modules places m (children places q 0 (length places)) → IsPrintedName (place_at places p).name
  named-in q p below parent true m fine inside =
      absurd (beside Nothing Never (λ r. same_number (place_at places r).parent (Some q)) [] 0 (length places) p (All-nil Nothing) (subst (AllZip Never []) (sym inside) tt)
      (omega arith) (omega (arith, below)) (parent-is (place_at places p).parent q parent)).1.1
  named-in q p below parent false m fine inside =
      let found = beside IsNamed (StandsFor modules places) (λ r. same_number (place_at places r).parent (Some q)) m.instances 0 (length places) p fine.instances inside.0 (omega arith) (omega (arith, below)) (parent-is (place_at places p).parent q parent) in
      record { identifier = found.0.name; is_such = found.1.0; name_is = found.1.1.name }

  -- where its parent is, and where that stands
  place-named : (p q : ℕ) → p < length places → (place_at places p).parent ≡ Some q → q < length places → IsPrintedName (place_at places p).name
  place-named p q below parent before =
      let filled = tree.filled q before in
      named-in q p below parent filled.«module».leaf filled.«module» (find-all HasIdentifiers (λ m. bytes_eq (printed m.name) (place_at places q).«module») modules filled.«module» names filled.is_of.called) filled.inside

  -- the parent of a place below the top has a lower number
  parent-before : (p : ℕ) → 1 ≤ p → p < length places → (q : ℕ) × (((place_at places p).parent ≡ Some q) × (q < p))
  parent-before p some below =
      let its = tree.below p some below in
      (its.parent, (its.parent_is, by_place its.parent its.before))
    where
      by_place : (q : ℕ) → (q ≡ 0) ⊎ (1 ≤ q × q < p) → q < p
      by_place q (inl top) = omega (arith, top, some)
      by_place q (inr between) = between.1

  has-parent : (p : ℕ) → p < length places → HasParent p (place_at places p).parent
  has-parent zero below = rw tree.no_parent refl
  has-parent (suc p) below = let its = parent-before (suc p) (omega arith) below in rw its.1.0 its.1.1

  has-form : (p : ℕ) → p < length places → HasPrintedForm (place_at places p).parent (place_at places p).name
  has-form zero below = rw tree.no_parent tt
  has-form (suc p) below =
      let its = parent-before (suc p) (omega arith) below in
      let named = place-named (suc p) its.0 below its.1.0 (omega (arith, its.1.1, below)) in
      rw its.1.0 (named.identifier, named.name_is)

  pub are-places : ArePlaces places
  are-places = record { top = tree.some; parents = has-parent; forms = λ p default below. at_place p default below }
    where
      at_place : (p : ℕ) (default : Place) → p < length places → HasPrintedForm (get_or places p default).parent (get_or places p default).name
      at_place p default below = subst (λ x. HasPrintedForm x.parent x.name) (get_or_default places p (place_at [] 0) default below) (has-form p below)

  -- the names on the way down
  pub way-graphic : (n p : ℕ) → p < n → p < length places → AllByRecursion Graphic (way_down places 0 p)
  way-graphic zero p small below = absurd (omega (arith, small))
  way-graphic (suc n) p small below = by_parent (place_at places p).parent refl (λ q less lessp. way-graphic n q less lessp)
    where
      by_parent : (o : Option ℕ) → (place_at places p).parent ≡ o → ((q : ℕ) → q < n → q < length places → AllByRecursion Graphic (way_down places 0 q)) → AllByRecursion Graphic (way_down places 0 p)
      by_parent None is before = subst (λ p. AllByRecursion Graphic (way_down places 0 p)) (sym (is_top places are-places p below is)) tt
      by_parent (Some q) is before =
          let less : q < p = is_below places are-places p q below is in
          let named = place-named p q below is (omega (arith, less, below)) in
          subst (AllByRecursion Graphic) (sym (way_down-more places are-places p q below is))
          (by-append (way_down places 0 q) (place_at places p).name (before q (omega (arith, less, small)) (omega (arith, less, below))) (graphic-name (place_at places p).name named))
        where
          by-append : (xs : List (List ℕ)) (x : List ℕ) → AllByRecursion Graphic xs → Graphic x → AllByRecursion Graphic (xs ++ x ∷ [])
          by-append [] x all is = (is, tt)
          by-append (y ∷ ys) x all is = (all.0, by-append ys x all.1 is)
