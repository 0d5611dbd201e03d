-- The table of requirements at output bits: a launch is required one period on at the class that it stands for, and nothing at any other.
use Rattle.std.specs.Prelude.{◌≡◌, ℕ, ◌<◌, ◌==◌, ◌&&◌, ◌||◌, not, Bool, true, false, List, [], ◌∷◌, ◌++◌, filter, flat_map, length, All, Contains, Some, if◌then◌else◌, slice_index_or}
use Rattle.std.specs.List.{list_any, range_with_len}
use Rattle.std.proofs.Common.{true≢false, refl, sym, ◌∙◌, ap, subst, arith, inl, inr, eq-eqb}
use Rattle.std.proofs.lemmas.Bool.Decides.{Decides-eqb}
use Rattle.std.proofs.lemmas.List.Concat.{flat_map-cons}
use Rattle.std.proofs.lemmas.List.Elements.{All-nil, All-append, Contains-get_or, Contains-append_left, Contains-append_right}
use Rattle.bud_base.specs.declared.ids.PinId.{PinId}
use Rattle.bud_syntax.specs.declared.edges.Edge.{Edge}
use Rattle.bud_syntax.specs.declared.edges.Edge.TheVariants.{Rise, Fall}
use Rattle.bud_design.specs.declared.clocks.Capture.{Capture}
use Rattle.bud_design.specs.declared.clocks.Exception.{Exception}
use Rattle.bud_design.specs.declared.clocks.ExceptionKind.{ExceptionKind}
use Rattle.bud_design.specs.declared.clocks.ExceptionKind.TheVariants.{FalsePath}
use Rattle.bud_design.specs.declared.clocks.Launch.{Launch}
use Rattle.bud_design.specs.declared.layers.Class.{Class}
use Rattle.bud_design.specs.declared.layers.Met.{Met}
use Rattle.bud_design.specs.Arcs.{is_clocked}
use Rattle.bud_design.specs.Exceptions.{names, has_met, is_false_kind}
use Rattle.bud_design.specs.Layers.{class_number}
use Rattle.bud_design.specs.Orders.{same_edge}
use Rattle.clock_reach.proofs.ReachLaws.{any-place, place-any}
use Rattle.requirements.proofs.Members.{contains-cases, contains-map}
use Rattle.timing_objects.specs.Objects.{is_checked}
use Rattle.block_theory.specs.BlockExceptions.{Part, Form, form_of, is_empty_part, pins_part, virtual_part, other_outputs, between_classes, same_met, same_class, own_class, begins_in, is_live, clock_pins_in, from_clock_pins, starts_inside, ends_inside, real_form, virtual_form, forms_of, block_forms}
use Rattle.block_theory.specs.BlockPorts.{Context, input_classes, output_classes, port_classes, pins_where}
use Rattle.block_theory.specs.BlockScopes.{marks_as}
use Rattle.block_pieces.specs.Standing.{IsPortLaunchOf, IsClockLaunchOf, IsPortCaptureOf}
use Rattle.block_pieces.proofs.FormKinds.{form_matches, kinds, kinds-none}
use Rattle.block_pieces.proofs.Matching as matching
use Rattle.block_pieces.proofs.Matching.{has-filter, contains-has, some-has, All-concat, All-form}
use Rattle.block_pieces.proofs.Numbering.{filter-has, range-has, range-below}
use Rattle.block_pieces.proofs.Parts.{has}

-- ---- classes are the same where the test says so
and-parts : (a b : Bool) → a && b ≡ true → (a ≡ true) × (b ≡ true)
and-parts true b e = (refl, e)
and-parts false b e = absurd (true≢false (sym e))

edge-is : (e f : Edge) → same_edge e f ≡ true → e ≡ f
edge-is Rise Rise is = refl
edge-is Rise Fall is = absurd (true≢false (sym is))
edge-is Fall Rise is = absurd (true≢false (sym is))
edge-is Fall Fall is = refl

edge-self : (e : Edge) → same_edge e e ≡ true
edge-self Rise = refl
edge-self Fall = refl

met-is : (ls ms : List Met) → same_met ls ms ≡ true → ls ≡ ms
met-is [] [] is = refl
met-is [] (m ∷ ms) is = absurd (true≢false (sym is))
met-is (l ∷ ls) [] is = absurd (true≢false (sym is))
met-is (l ∷ ls) (m ∷ ms) is =
    let first = and-parts (l.number == m.number) (l.steps == m.steps && same_met ls ms) is in
    let second = and-parts (l.steps == m.steps) (same_met ls ms) first.1 in
    let same : l ≡ m = ap (λ n. record { number = n; steps = l.steps }) ((Decides-eqb l.number m.number).0 first.0) ∙ ap (λ n. record { number = m.number; steps = n }) ((Decides-eqb l.steps m.steps).0 second.0) in
    ap (λ n. n ∷ ls) same ∙ ap (λ ns. m ∷ ns) (met-is ls ms second.1)

met-self : (ms : List Met) → same_met ms ms ≡ true
met-self [] = refl
met-self (m ∷ ms) = rw (eq-eqb m.number m.number refl, eq-eqb m.steps m.steps refl) (met-self ms)

pub same_class-is : (j k : Class) → same_class j k ≡ true → j ≡ k
same_class-is j k is =
    let first = and-parts (j.clock == k.clock) (same_edge j.edge k.edge && same_met j.exceptions k.exceptions) is in
    let second = and-parts (same_edge j.edge k.edge) (same_met j.exceptions k.exceptions) first.1 in
    ap (λ c. record { clock = c; edge = j.edge; exceptions = j.exceptions }) ((Decides-eqb j.clock k.clock).0 first.0)
    ∙ (ap (λ e. record { clock = k.clock; edge = e; exceptions = j.exceptions }) (edge-is j.edge k.edge second.0)
    ∙ ap (λ ms. record { clock = k.clock; edge = k.edge; exceptions = ms }) (met-is j.exceptions k.exceptions second.1))

pub same_class-self : (k : Class) → same_class k k ≡ true
same_class-self k = rw (eq-eqb k.clock k.clock refl, edge-self k.edge) (met-self k.exceptions)

-- ---- members of lists of forms
concat-has : {X : Type 0} (g : X → List Form) (xs : List X) (a : X) (f : Form) → Contains xs a → Contains (g a) f → Contains (flat_map g xs) f
concat-has g [] a f there has = absurd (omega (arith, there.1))
concat-has g (x ∷ xs) a f there has = subst (λ (fs : List Form). Contains fs f) (sym (flat_map-cons g x xs)) (elim (contains-cases x xs a there) [
  | inl here ↦ Contains-append_left (g x) (flat_map g xs) f (subst (λ z. Contains (g z) f) (sym here) has)
  | inr later ↦ Contains-append_right (g x) (flat_map g xs) f (concat-has g xs a f later has)
])

form-has : (kind : ExceptionKind) (from to : Part) → is_empty_part from ≡ false → is_empty_part to ≡ false → Contains (form_of kind from to) (record { kind = kind; from = from; to = to })
form-has kind from to some more =
    let same : form_of kind from to ≡ record { kind = kind; from = from; to = to } ∷ [] = rw (some, more) refl in
    subst (λ (fs : List Form). Contains fs (record { kind = kind; from = from; to = to })) (sym same) (0, omega arith, refl)

false-kind : (test : Form → Bool) (fs : List Form) (f : Form) → Contains fs f → test f ≡ true → f.kind ≡ FalsePath → list_any is_false_kind (kinds test fs) ≡ true
false-kind test fs f there passes is =
    let kept = contains-map (λ (f : Form). f.kind) (filter test fs) f (filter-has test fs f there passes) in
    place-any is_false_kind f.kind (kinds test fs) kept.0 kept.1 (ap is_false_kind (kept.2 ∙ is))

and-left-false : (a b : Bool) → a ≡ false → a && b ≡ false
and-left-false a b is = rw is refl

and-right-false : (a b : Bool) → b ≡ false → a && b ≡ false
and-right-false true b is = is
and-right-false false b is = refl

and-both : (a b : Bool) → a ≡ true → b ≡ true → a && b ≡ true
and-both a b is be = rw (is, be) refl

-- a test is false that fails where another holds
false-unless : (a b : Bool) → (a ≡ true → b ≡ false) → a && b ≡ false
false-unless true b fails = fails refl
false-unless false b fails = refl

virtual-some : (ks : List ℕ) (k : ℕ) → has ks k ≡ true → is_empty_part (virtual_part ks) ≡ false
virtual-some ks k is = rw (some-has ks k is) refl

pins-some : (vs : List ℕ) (v : ℕ) → has vs v ≡ true → is_empty_part (pins_part vs) ≡ false
pins-some vs v is = rw (some-has vs v is) refl

module _ (x : Context) (l : Launch) (y : Capture) (j : ℕ) (is : IsPortCaptureOf x y j) (unchecked : is_checked x.timing y.pin.0 ≡ false) where
  abbrev test : Form → Bool
  test f = form_matches x l y f

  abbrev from_of : Part → Bool
  from_of p = names (Some (marks_as x p)) l.pin.0 l.clock

  abbrev to_of : Part → Bool
  to_of p = names (Some (marks_as x p)) y.pin.0 y.clock

  to-virtual : (ks : List ℕ) → All (Contains (port_classes x)) ks → to_of (virtual_part ks) ≡ has ks j
  to-virtual ks all = ap (λ c. names (Some (marks_as x (virtual_part ks))) y.pin.0 c) is.clock ∙ matching.virtual-virtual x ks all y.pin.0 j (matching.output-port x j is.«class»)

  to-ends : (e : Exception) → to_of (ends_inside x e) ≡ false
  to-ends e =
      ap (λ c. names (Some (marks_as x (ends_inside x e))) y.pin.0 c) is.clock
      ∙ matching.virtual-inside x (is_checked x.timing) e.to y.pin.0 j unchecked (matching.output-port x j is.«class»)

  to-others : (k : ℕ) → to_of (virtual_part (other_outputs x k)) ≡ not (j == k) && has (output_classes x) j
  to-others k = to-virtual (other_outputs x k) (matching.others-port x k) ∙ has-filter (λ i. not (i == k)) (output_classes x) j

  to-own : (k : ℕ) → k ≡ j → to_of (virtual_part (other_outputs x k)) ≡ false
  to-own k same = to-others k ∙ rw (eq-eqb j k (sym same)) refl

  others-here : (k : ℕ) → (j == k) ≡ false → has (other_outputs x k) j ≡ true
  others-here k other = has-filter (λ i. not (i == k)) (output_classes x) j ∙ rw (other, contains-has (output_classes x) j is.«class») refl

  to-others_here : (k : ℕ) → (j == k) ≡ false → to_of (virtual_part (other_outputs x k)) ≡ true
  to-others_here k other = to-virtual (other_outputs x k) (matching.others-port x k) ∙ others-here k other

  to-outputs : to_of (virtual_part (output_classes x)) ≡ true
  to-outputs = to-virtual (output_classes x) (matching.outputs-port x) ∙ contains-has (output_classes x) j is.«class»

  -- no form of the top's exceptions ends at an output bit
  exceptions-none : All (λ f. test f ≡ false) (flat_map (forms_of x) x.all.exceptions)
  exceptions-none =
      All-concat (λ f. test f ≡ false) (forms_of x) x.all.exceptions
      (λ i d below. (let e = slice_index_or x.all.exceptions i d in
      All-append (λ f. test f ≡ false) (real_form x e) (flat_map (virtual_form x e) (input_classes x)) (real-none e)
      (All-concat (λ f. test f ≡ false) (virtual_form x e) (input_classes x) (λ a b less. virtual-none e (slice_index_or (input_classes x) a b)))))
    where
      real-none : (e : Exception) → All (λ f. test f ≡ false) (real_form x e)
      real-none e = by_test (length e.groups == 0)
        where
          by_test : (b : Bool) → All (λ f. test f ≡ false) (if b then form_of e.kind (starts_inside x e) (ends_inside x e) else [])
          by_test true = All-form (λ f. test f ≡ false) e.kind (starts_inside x e) (ends_inside x e) (and-right-false (from_of (starts_inside x e)) _ (to-ends e))
          by_test false = All-nil (λ f. test f ≡ false)

      virtual-none : (e : Exception) (k : ℕ) → All (λ f. test f ≡ false) (virtual_form x e k)
      virtual-none e k = by_test (has_met (class_number x.layered.classes k) e)
        where
          by_test : (b : Bool) → All (λ f. test f ≡ false) (if b then form_of e.kind (virtual_part (k ∷ [])) (ends_inside x e) else [])
          by_test true = All-form (λ f. test f ≡ false) e.kind (virtual_part (k ∷ [])) (ends_inside x e) (and-right-false (from_of (virtual_part (k ∷ []))) _ (to-ends e))
          by_test false = All-nil (λ f. test f ≡ false)

  -- where the false paths don't match either, nothing does
  nothing-matches : All (λ f. test f ≡ false) (between_classes x) → All (λ f. test f ≡ false) (from_clock_pins x) → kinds test (block_forms x) ≡ []
  nothing-matches between pins =
      kinds-none test (block_forms x)
      (All-append (λ f. test f ≡ false) (between_classes x) (from_clock_pins x ++ flat_map (forms_of x) x.all.exceptions) between
      (All-append (λ f. test f ≡ false) (from_clock_pins x) (flat_map (forms_of x) x.all.exceptions) pins exceptions-none))

  between-all : ((k : ℕ) → Contains (input_classes x) k → from_of (virtual_part (k ∷ [])) && to_of (virtual_part (other_outputs x k)) ≡ false) → All (λ f. test f ≡ false) (between_classes x)
  between-all each =
      All-concat (λ f. test f ≡ false) (λ k. form_of FalsePath (virtual_part (k ∷ [])) (virtual_part (other_outputs x k))) (input_classes x)
      (λ i d below. (let k = slice_index_or (input_classes x) i d in
      All-form (λ f. test f ≡ false) FalsePath (virtual_part (k ∷ [])) (virtual_part (other_outputs x k)) (each k (Contains-get_or (input_classes x) i d below))))

  pins-all : ((k : ℕ) → k < length x.layered.classes → from_of (pins_part (clock_pins_in x (same_class (class_number x.layered.classes k)))) && to_of (virtual_part (other_outputs x k)) ≡ false)
      → from_of (pins_part (clock_pins_in x (λ k. not (is_live x k)))) ≡ false → All (λ f. test f ≡ false) (from_clock_pins x)
  pins-all each last =
      All-append (λ f. test f ≡ false) (flat_map (λ k. form_of FalsePath (pins_part (clock_pins_in x (same_class (class_number x.layered.classes k)))) (virtual_part (other_outputs x k))) (range_with_len 0 (length x.layered.classes)))
      (form_of FalsePath (pins_part (clock_pins_in x (λ k. not (is_live x k)))) (virtual_part (output_classes x)))
      (All-concat (λ f. test f ≡ false) (λ k. form_of FalsePath (pins_part (clock_pins_in x (same_class (class_number x.layered.classes k)))) (virtual_part (other_outputs x k))) (range_with_len 0 (length x.layered.classes))
      (λ i d below. (let k = slice_index_or (range_with_len 0 (length x.layered.classes)) i d in
      All-form (λ f. test f ≡ false) FalsePath (pins_part (clock_pins_in x (same_class (class_number x.layered.classes k)))) (virtual_part (other_outputs x k)) (each k (range-below (length x.layered.classes) i d below)))))
      (All-form (λ f. test f ≡ false) FalsePath (pins_part (clock_pins_in x (λ k. not (is_live x k)))) (virtual_part (output_classes x))
      (and-left-false (from_of (pins_part (clock_pins_in x (λ k. not (is_live x k))))) _ last))

  -- ---- from an input bit
  module _ (k : ℕ) (launch : IsPortLaunchOf x l k) (unclocked : is_clocked x.timing l.pin.0 ≡ false) where
    from-one : (i : ℕ) → Contains (input_classes x) i → from_of (virtual_part (i ∷ [])) ≡ (i == k)
    from-one i there =
        ap (λ c. names (Some (marks_as x (virtual_part (i ∷ [])))) l.pin.0 c) launch.clock
        ∙ (matching.virtual-virtual x (i ∷ []) (matching.one-port x i there) l.pin.0 k (matching.input-port x k launch.«class») ∙ or-false (i == k))
      where
        or-false : (b : Bool) → b || false ≡ b
        or-false true = refl
        or-false false = refl

    from-pins : (is_such : ℕ → Bool) → from_of (pins_part (pins_where x (λ v. is_clocked x.timing v && is_such v))) ≡ false
    from-pins is_such =
        ap (λ c. names (Some (marks_as x (pins_part (pins_where x (λ v. is_clocked x.timing v && is_such v))))) l.pin.0 c) launch.clock
        ∙ matching.virtual-pins x (pins_where x (λ v. is_clocked x.timing v && is_such v)) l.pin.0 k
        (matching.where-lacks x (λ v. is_clocked x.timing v && is_such v) l.pin.0 (and-left-false (is_clocked x.timing l.pin.0) (is_such l.pin.0) unclocked)) (matching.input-port x k launch.«class»)

    pub port-other : (j == k) ≡ false → list_any is_false_kind (kinds test (block_forms x)) ≡ true
    port-other other =
        let f : Form = record { kind = FalsePath; from = virtual_part (k ∷ []); to = virtual_part (other_outputs x k) } in
        let there = concat-has (λ k. form_of FalsePath (virtual_part (k ∷ [])) (virtual_part (other_outputs x k))) (input_classes x) k f launch.«class»
        (form-has FalsePath (virtual_part (k ∷ [])) (virtual_part (other_outputs x k)) refl (virtual-some (other_outputs x k) j (others-here k other))) in
        false-kind test (block_forms x) f (Contains-append_left (between_classes x) (from_clock_pins x ++ flat_map (forms_of x) x.all.exceptions) f there)
        (and-both (from_of (virtual_part (k ∷ []))) (to_of (virtual_part (other_outputs x k))) (from-one k launch.«class» ∙ eq-eqb k k refl) (to-others_here k other)) refl

    pub port-same : k ≡ j → kinds test (block_forms x) ≡ []
    port-same same =
        nothing-matches
        (between-all (λ i there. false-unless (from_of (virtual_part (i ∷ []))) (to_of (virtual_part (other_outputs x i)))
        (λ from. to-own i ((Decides-eqb i k).0 (sym (from-one i there) ∙ from) ∙ same))))
        (pins-all (λ i below. and-left-false (from_of (pins_part (clock_pins_in x (same_class (class_number x.layered.classes i))))) (to_of (virtual_part (other_outputs x i)))
        (from-pins (begins_in x.all (same_class (class_number x.layered.classes i))))) (from-pins (begins_in x.all (λ k. not (is_live x k)))))

  -- ---- from a clock pin
  module _ (m : Launch) (launch : IsClockLaunchOf x l m) where
    abbrev own : Class
    own = own_class x.all m

    from-one-real : (i : ℕ) → Contains (input_classes x) i → from_of (virtual_part (i ∷ [])) ≡ false
    from-one-real i there =
        ap (λ c. names (Some (marks_as x (virtual_part (i ∷ [])))) l.pin.0 c) launch.clock ∙ matching.real-virtual x (i ∷ []) (matching.one-port x i there) l.pin.0 m.clock launch.real

    from-real : (is_such : Class → Bool) → from_of (pins_part (clock_pins_in x is_such)) ≡ begins_in x.all is_such l.pin.0
    from-real is_such =
        ap (λ c. names (Some (marks_as x (pins_part (clock_pins_in x is_such)))) l.pin.0 c) launch.clock
        ∙ (matching.real-pins x (clock_pins_in x is_such) l.pin.0 m.clock launch.real
        ∙ (matching.where-has x (λ v. is_clocked x.timing v && begins_in x.all is_such v) l.pin.0 launch.below launch.inside ∙ ap (λ b. b && begins_in x.all is_such l.pin.0) launch.clocked))

    -- the pin begins in such a class exactly where its own is such
    begins-own : (is_such : Class → Bool) → is_such own ≡ true → begins_in x.all is_such l.pin.0 ≡ true
    begins-own is_such passes =
        place-any (λ (o : Launch). o.pin.0 == l.pin.0 && is_such (own_class x.all o)) m x.all.launches launch.launch.0 launch.launch.1
        (subst (λ (o : Launch). (o.pin.0 == l.pin.0 && is_such (own_class x.all o)) ≡ true) (sym launch.launch.2)
        (and-both (m.pin.0 == l.pin.0) (is_such own) (eq-eqb m.pin.0 l.pin.0 (ap (λ (p : PinId). p.0) launch.pin)) passes))

    own-begins : (is_such : Class → Bool) → begins_in x.all is_such l.pin.0 ≡ true → is_such own ≡ true
    own-begins is_such begins =
        let found = any-place (λ (o : Launch). o.pin.0 == l.pin.0 && is_such (own_class x.all o)) m x.all.launches begins in
        let o = slice_index_or x.all.launches found.0 m in
        let parts = and-parts (o.pin.0 == l.pin.0) (is_such (own_class x.all o)) found.2 in
        let same = launch.alone o (Contains-get_or x.all.launches found.0 m found.1) ((Decides-eqb o.pin.0 l.pin.0).0 parts.0 ∙ ap (λ (p : PinId). p.0) (sym launch.pin)) in
        sym (ap is_such same) ∙ parts.1

    first-has : (k : ℕ) → k < length x.layered.classes → same_class (class_number x.layered.classes k) own ≡ true → (j == k) ≡ false
        → Contains (flat_map (λ k. form_of FalsePath (pins_part (clock_pins_in x (same_class (class_number x.layered.classes k)))) (virtual_part (other_outputs x k))) (range_with_len 0 (length x.layered.classes)))
        (record { kind = FalsePath; from = pins_part (clock_pins_in x (same_class (class_number x.layered.classes k))); to = virtual_part (other_outputs x k) })
    first-has k below is_own other =
        concat-has (λ k. form_of FalsePath (pins_part (clock_pins_in x (same_class (class_number x.layered.classes k)))) (virtual_part (other_outputs x k))) (range_with_len 0 (length x.layered.classes)) k
        (record { kind = FalsePath; from = pins_part (clock_pins_in x (same_class (class_number x.layered.classes k))); to = virtual_part (other_outputs x k) }) (range-has (length x.layered.classes) k below)
        (form-has FalsePath (pins_part (clock_pins_in x (same_class (class_number x.layered.classes k)))) (virtual_part (other_outputs x k))
        (pins-some (clock_pins_in x (same_class (class_number x.layered.classes k))) l.pin.0 (here (same_class (class_number x.layered.classes k)) is_own)) (virtual-some (other_outputs x k) j (others-here k other)))
      where
        here : (is_such : Class → Bool) → is_such own ≡ true → has (clock_pins_in x is_such) l.pin.0 ≡ true
        here is_such passes =
            matching.where-has x (λ v. is_clocked x.timing v && begins_in x.all is_such v) l.pin.0 launch.below launch.inside ∙ and-both (is_clocked x.timing l.pin.0) (begins_in x.all is_such l.pin.0) launch.clocked (begins-own is_such passes)

    in-pins : (f : Form) → Contains (from_clock_pins x) f → Contains (block_forms x) f
    in-pins f there =
        Contains-append_right (between_classes x) (from_clock_pins x ++ flat_map (forms_of x) x.all.exceptions) f (Contains-append_left (from_clock_pins x) (flat_map (forms_of x) x.all.exceptions) f there)

    pub clock-other : same_class (class_number x.layered.classes j) own ≡ false → list_any is_false_kind (kinds test (block_forms x)) ≡ true
    clock-other other = by_live (is_live x own) refl
      where
        by_live : (b : Bool) → is_live x own ≡ b → list_any is_false_kind (kinds test (block_forms x)) ≡ true
        by_live true live =
            let found = any-place (same_class own) (class_number [] 0) x.layered.classes live in
            let k = found.0 in
            let is_own : own ≡ class_number x.layered.classes k = same_class-is own (class_number x.layered.classes k) found.2 in
            let same : same_class (class_number x.layered.classes k) own ≡ true = ap (λ c. same_class (class_number x.layered.classes k) c) is_own ∙ same_class-self (class_number x.layered.classes k) in
            let apart : (j == k) ≡ false = differs k same (j == k) refl in
            let f : Form = record { kind = FalsePath; from = pins_part (clock_pins_in x (same_class (class_number x.layered.classes k))); to = virtual_part (other_outputs x k) } in
            false-kind test (block_forms x) f (in-pins f (Contains-append_left _ _ f (first-has k found.1 same apart)))
            (and-both (from_of f.from) (to_of f.to) (from-real (same_class (class_number x.layered.classes k)) ∙ begins-own (same_class (class_number x.layered.classes k)) same) (to-others_here k apart)) refl
          where
            differs : (k : ℕ) → same_class (class_number x.layered.classes k) own ≡ true → (b : Bool) → (j == k) ≡ b → b ≡ false
            differs k same false e = refl
            differs k same true e = absurd (true≢false (sym same ∙ (ap (λ i. same_class (class_number x.layered.classes i) own) (sym ((Decides-eqb j k).0 e)) ∙ other)))
        by_live false dead =
            let f : Form = record { kind = FalsePath; from = pins_part (clock_pins_in x (λ k. not (is_live x k))); to = virtual_part (output_classes x) } in
            let passes : not (is_live x own) ≡ true = ap not dead in
            let here : has (clock_pins_in x (λ k. not (is_live x k))) l.pin.0 ≡ true
            = matching.where-has x (λ v. is_clocked x.timing v && begins_in x.all (λ k. not (is_live x k)) v) l.pin.0 launch.below launch.inside
            ∙ and-both (is_clocked x.timing l.pin.0) (begins_in x.all (λ k. not (is_live x k)) l.pin.0) launch.clocked (begins-own (λ k. not (is_live x k)) passes) in
            let there = form-has FalsePath f.from f.to (pins-some (clock_pins_in x (λ k. not (is_live x k))) l.pin.0 here) (virtual-some (output_classes x) j (contains-has (output_classes x) j is.«class»)) in
            false-kind test (block_forms x) f (in-pins f (Contains-append_right _ _ f there))
            (and-both (from_of f.from) (to_of f.to) (from-real (λ k. not (is_live x k)) ∙ begins-own (λ k. not (is_live x k)) passes) to-outputs) refl

    pub clock-same : ((i k : ℕ) → i < length x.layered.classes → k < length x.layered.classes → class_number x.layered.classes i ≡ class_number x.layered.classes k → i ≡ k)
        → own ≡ class_number x.layered.classes j → kinds test (block_forms x) ≡ []
    clock-same differ same =
        nothing-matches (between-all (λ i there. and-left-false (from_of (virtual_part (i ∷ []))) (to_of (virtual_part (other_outputs x i))) (from-one-real i there)))
        (pins-all (λ i below. false-unless (from_of (pins_part (clock_pins_in x (same_class (class_number x.layered.classes i))))) (to_of (virtual_part (other_outputs x i)))
        (λ from. (let is_own = own-begins (same_class (class_number x.layered.classes i)) (sym (from-real (same_class (class_number x.layered.classes i))) ∙ from) in
        to-own i (differ i j below (matching.output-below x j is.«class») (same_class-is (class_number x.layered.classes i) own is_own ∙ same))))) (from-real (λ k. not (is_live x k)) ∙ last (begins_in x.all (λ k. not (is_live x k)) l.pin.0) refl))
      where
        live : is_live x own ≡ true
        live =
            place-any (same_class own) (class_number [] 0) x.layered.classes j (matching.output-below x j is.«class»)
            (ap (same_class own) (sym same) ∙ same_class-self own)

        last : (b : Bool) → begins_in x.all (λ k. not (is_live x k)) l.pin.0 ≡ b → b ≡ false
        last false e = refl
        last true e = absurd (true≢false (sym (own-begins (λ k. not (is_live x k)) e) ∙ ap not live))
