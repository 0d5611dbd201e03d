-- The table of requirements: what a launch of the block's design that stands for a class is required at each capture.
use Rattle.std.specs.Prelude.{◌≡◌, ℕ, ◌<◌, ◌==◌, ◌&&◌, ◌||◌, not, Bool, true, false, List, [], ◌∷◌, ◌++◌, map, filter, flat_map, length, All, Contains, Some, if◌then◌else◌, slice_index_or}
use Rattle.std.specs.List.{list_any, range_with_len}
use Rattle.std.proofs.Common.{true≢false, refl, sym, ◌∙◌, ap, subst, arith, inl, inr, eq-eqb}
use Rattle.std.proofs.lemmas.Bool.Decides.{Decides-eqb}
use Rattle.std.proofs.lemmas.Bool.{ne_eqb}
use Rattle.std.proofs.lemmas.List.{append-nil}
use Rattle.std.proofs.lemmas.List.Concat.{flat_map-cons}
use Rattle.std.proofs.lemmas.List.Elements.{All-head, All-tail, All-append, Contains-get_or}
use Rattle.bud_base.specs.declared.ids.PinId.{PinId}
use Rattle.bud_design.specs.declared.clocks.Capture.{Capture}
use Rattle.bud_design.specs.declared.clocks.Exception.{Exception}
use Rattle.bud_design.specs.declared.clocks.ExceptionKind.{ExceptionKind}
use Rattle.bud_design.specs.declared.clocks.ExceptionKind.TheVariants.{FalsePath}
use Rattle.bud_design.specs.declared.clocks.Launch.{Launch}
use Rattle.bud_design.specs.Arcs.{is_clocked}
use Rattle.bud_design.specs.Exceptions.{names, matches, meets_from, meets_to, has_met, steps, has_pin}
use Rattle.bud_design.specs.Layers.{class_number}
use Rattle.bud_design.proofs.ClassLaws.{pairs-head, pairs-tail}
use Rattle.requirements.proofs.Members.{contains-cases}
use Rattle.timing_objects.specs.Objects.{is_checked}
use Rattle.block_theory.specs.BlockExceptions.{Part, Form, form_of, pins_part, virtual_part, other_outputs, between_classes, same_class, is_live, clock_pins_in, from_clock_pins, starts_inside, ends_inside, real_form, virtual_form, forms_of, block_forms}
use Rattle.block_theory.specs.BlockPorts.{Context, node_class, input_nodes, input_classes, output_classes, port_classes}
use Rattle.block_theory.specs.BlockScopes.{marks_as}
use Rattle.block_pieces.specs.Standing.{IsPortLaunchOf, IsClockLaunchOf, IsCheckCaptureOf}
use Rattle.block_pieces.proofs.FormKinds.{form_matches, kinds, kinds-append, kinds-none, kinds-concat, kinds-form}
use Rattle.block_pieces.proofs.Matching as matching
use Rattle.block_pieces.proofs.Matching.{All-concat, All-form}
use Rattle.block_theory.proofs.Groups.{LackPin}
use Rattle.block_pieces.proofs.Numbering.{Rise, filtered-rise}

-- ---- lists by cases
-- what one of rising numbers gives
once : {X : Type 0} (zs : List X) (k : ℕ) (ns : List ℕ) → Rise ns → Contains ns k → flat_map (λ n. if n == k then zs else []) ns ≡ zs
once zs k [] rise there = absurd (omega (arith, there.1))
once {X} zs k (n ∷ ns) rise there = by_test (n == k) refl (λ later. once zs k ns (pairs-tail (λ m n. m < n) n ns rise) later)
  where
    nothing : (ms : List ℕ) → All (λ m. k < m) ms → flat_map (λ n. if n == k then zs else []) ms ≡ []
    nothing [] more = refl
    nothing (m ∷ ms) more =
        let other : (m == k) ≡ false = ne_eqb m k (λ e. omega (arith, e, All-head (λ m. k < m) m ms more)) in
        flat_map-cons (λ n. if n == k then zs else []) m ms ∙ rw other (nothing ms (All-tail (λ m. k < m) m ms more))

    by_test : (b : Bool) → (n == k) ≡ b → (Contains ns k → flat_map (λ n. if n == k then zs else []) ns ≡ zs) → flat_map (λ n. if n == k then zs else []) (n ∷ ns) ≡ zs
    by_test true same rest =
        let above : All (λ m. k < m) ns = subst (λ i. All (λ m. i < m) ns) ((Decides-eqb n k).0 same) (pairs-head (λ m n. m < n) n ns rise) in
        flat_map-cons (λ n. if n == k then zs else []) n ns ∙ (rw (same, nothing ns above) (append-nil zs))
    by_test false other rest =
        flat_map-cons (λ n. if n == k then zs else []) n ns ∙ rw other (rest (elim (contains-cases n ns k there) [ inl same ↦ absurd (true≢false (sym (eq-eqb n k same) ∙ other)) | inr later ↦ later ]))

-- the kinds of those that pass a test
kind-if : (p : Exception → Bool) (es : List Exception) → flat_map (λ e. if p e then e.kind ∷ [] else []) es ≡ map (λ (e : Exception). e.kind) (filter p es)
kind-if p [] = refl
kind-if p (e ∷ es) = by_test (p e) refl (kind-if p es)
  where
    by_test : (b : Bool) → p e ≡ b → flat_map (λ e. if p e then e.kind ∷ [] else []) es ≡ map (λ (e : Exception). e.kind) (filter p es)
        → flat_map (λ e. if p e then e.kind ∷ [] else []) (e ∷ es) ≡ map (λ (e : Exception). e.kind) (filter p (e ∷ es))
    by_test true passes rest = flat_map-cons (λ e. if p e then e.kind ∷ [] else []) e es ∙ rw passes (ap (λ ks. e.kind ∷ ks) rest)
    by_test false fails rest = flat_map-cons (λ e. if p e then e.kind ∷ [] else []) e es ∙ rw fails rest

-- groups without a pin are met by no step at it
steps-lack : (v : ℕ) (gs : List (List PinId)) → LackPin v gs → steps (v ∷ []) gs ≡ 0
steps-lack v [] lack = refl
steps-lack v (g ∷ gs) lack = rw (All-head (λ g. has_pin g v ≡ false) g gs lack) refl

and-left-false : (a b : Bool) → a ≡ false → a && b ≡ false
and-left-false a b is = rw is refl

and-right-false : (a b : Bool) → b ≡ false → a && b ≡ false
and-right-false true b is = is
and-right-false false b is = refl

and-both : (a b : Bool) → a ≡ true → b ≡ true → a && b ≡ true
and-both a b is be = rw (is, be) refl

module _ (x : Context) (l : Launch) (y : Capture) where
  abbrev test : Form → Bool
  test f = form_matches x l y f

  abbrev from_of : Part → Bool
  from_of p = names (Some (marks_as x p)) l.pin.0 l.clock

  abbrev to_of : Part → Bool
  to_of p = names (Some (marks_as x p)) y.pin.0 y.clock

  -- one form that may be left out where a part is empty
  form-kinds : (kind : ExceptionKind) (from to : Part) → kinds test (form_of kind from to) ≡ (if from_of from && to_of to then kind ∷ [] else [])
  form-kinds kind from to =
      kinds-form test kind from to (λ nothing. and-left-false (from_of from) (to_of to) (matching.empty-names x from nothing l.pin.0 l.clock))
      (λ nothing. and-right-false (from_of from) (to_of to) (matching.empty-names x to nothing y.pin.0 y.clock))

  form-none : (kind : ExceptionKind) (from to : Part) → from_of from && to_of to ≡ false → kinds test (form_of kind from to) ≡ []
  form-none kind from to none = form-kinds kind from to ∙ rw none refl

  -- ---- at a data pin
  module _ (z : Capture) (is : IsCheckCaptureOf x y z) where
    to-virtual : (ks : List ℕ) → All (Contains (port_classes x)) ks → to_of (virtual_part ks) ≡ false
    to-virtual ks all = ap (λ c. names (Some (marks_as x (virtual_part ks))) y.pin.0 c) is.clock ∙ matching.real-virtual x ks all y.pin.0 z.clock is.real

    to-ends : (e : Exception) → to_of (ends_inside x e) ≡ meets_to e z
    to-ends e =
        ap (λ c. names (Some (marks_as x (ends_inside x e))) y.pin.0 c) is.clock
        ∙ (matching.real-inside x (is_checked x.timing) e.to y.pin.0 z.clock is.checked is.below is.inside is.real ∙ ap (λ (p : PinId). names e.to p.0 z.clock) (sym is.pin))

    -- the false paths between classes don't match
    between-none : kinds test (between_classes x) ≡ []
    between-none =
        kinds-none test (between_classes x)
        (All-concat (λ f. test f ≡ false) (λ k. form_of FalsePath (virtual_part (k ∷ [])) (virtual_part (other_outputs x k))) (input_classes x)
        (λ i d below. (let k = slice_index_or (input_classes x) i d in
        All-form (λ f. test f ≡ false) FalsePath (virtual_part (k ∷ [])) (virtual_part (other_outputs x k)) (and-right-false (from_of (virtual_part (k ∷ []))) _ (to-virtual (other_outputs x k) (matching.others-port x k))))))

    clock-pins-none : kinds test (from_clock_pins x) ≡ []
    clock-pins-none =
        kinds-none test (from_clock_pins x)
        (All-append (λ f. test f ≡ false) (flat_map (λ k. form_of FalsePath (pins_part (clock_pins_in x (same_class (class_number x.layered.classes k)))) (virtual_part (other_outputs x k))) (range_with_len 0 (length x.layered.classes)))
        (form_of FalsePath (pins_part (clock_pins_in x (λ k. not (is_live x k)))) (virtual_part (output_classes x)))
        (All-concat (λ f. test f ≡ false) (λ k. form_of FalsePath (pins_part (clock_pins_in x (same_class (class_number x.layered.classes k)))) (virtual_part (other_outputs x k))) (range_with_len 0 (length x.layered.classes))
        (λ i d below. (let k = slice_index_or (range_with_len 0 (length x.layered.classes)) i d in
        All-form (λ f. test f ≡ false) FalsePath (pins_part (clock_pins_in x (same_class (class_number x.layered.classes k)))) (virtual_part (other_outputs x k))
        (and-right-false (from_of (pins_part (clock_pins_in x (same_class (class_number x.layered.classes k))))) _ (to-virtual (other_outputs x k) (matching.others-port x k))))))
        (All-form (λ f. test f ≡ false) FalsePath (pins_part (clock_pins_in x (λ k. not (is_live x k)))) (virtual_part (output_classes x))
        (and-right-false (from_of (pins_part (clock_pins_in x (λ k. not (is_live x k))))) _ (to-virtual (output_classes x) (matching.outputs-port x)))))

    -- so the kinds are those of the exceptions' forms
    check-kinds : (h : Exception → List ExceptionKind) → All (λ e. kinds test (forms_of x e) ≡ h e) x.all.exceptions → kinds test (block_forms x) ≡ flat_map h x.all.exceptions
    check-kinds h each =
        kinds-append test (between_classes x) (from_clock_pins x ++ flat_map (forms_of x) x.all.exceptions)
        ∙ (rw between-none (kinds-append test (from_clock_pins x) (flat_map (forms_of x) x.all.exceptions)
        ∙ (rw clock-pins-none (kinds-concat test (forms_of x) h x.all.exceptions each))))

    -- ---- from an input bit
    module _ (k : ℕ) (port : IsPortLaunchOf x l k) (unclocked : is_clocked x.timing l.pin.0 ≡ false) where
      abbrev met : Exception → Bool
      met e = has_met (class_number x.layered.classes k) e && meets_to e z

      from-one : (j : ℕ) → Contains (input_classes x) j → from_of (virtual_part (j ∷ [])) ≡ (j == k)
      from-one j there =
          ap (λ c. names (Some (marks_as x (virtual_part (j ∷ [])))) l.pin.0 c) port.clock
          ∙ (matching.virtual-virtual x (j ∷ []) (matching.one-port x j there) l.pin.0 k (matching.input-port x k port.«class») ∙ or-false (j == k))
        where
          or-false : (b : Bool) → b || false ≡ b
          or-false true = refl
          or-false false = refl

      real-none : (e : Exception) → kinds test (real_form x e) ≡ []
      real-none e = by_test (length e.groups == 0)
        where
          starts : from_of (starts_inside x e) ≡ false
          starts =
              ap (λ c. names (Some (marks_as x (starts_inside x e))) l.pin.0 c) port.clock
              ∙ matching.virtual-inside x (is_clocked x.timing) e.from l.pin.0 k unclocked (matching.input-port x k port.«class»)

          by_test : (b : Bool) → kinds test (if b then form_of e.kind (starts_inside x e) (ends_inside x e) else []) ≡ []
          by_test true = form-none e.kind (starts_inside x e) (ends_inside x e) (and-left-false (from_of (starts_inside x e)) (to_of (ends_inside x e)) starts)
          by_test false = refl

      virtual-kinds : (e : Exception) (j : ℕ) → Contains (input_classes x) j → kinds test (virtual_form x e j) ≡ (if j == k then (if met e then e.kind ∷ [] else []) else [])
      virtual-kinds e j there = by_test (has_met (class_number x.layered.classes j) e) refl
        where
          first : kinds test (form_of e.kind (virtual_part (j ∷ [])) (ends_inside x e)) ≡ (if (j == k) && meets_to e z then e.kind ∷ [] else [])
          first = form-kinds e.kind (virtual_part (j ∷ [])) (ends_inside x e) ∙ rw (from-one j there, to-ends e) refl

          by_class : (s : Bool) → (j == k) ≡ s → has_met (class_number x.layered.classes j) e ≡ true
              → (if s && meets_to e z then e.kind ∷ [] else []) ≡ (if s then (if met e then e.kind ∷ [] else []) else [])
          by_class false other is_met = refl
          by_class true same is_met = rw (sym (ap (λ i. has_met (class_number x.layered.classes i) e) ((Decides-eqb j k).0 same)) ∙ is_met) refl

          by_none : (s : Bool) → (j == k) ≡ s → has_met (class_number x.layered.classes j) e ≡ false → [] ≡ (if s then (if met e then e.kind ∷ [] else []) else [])
          by_none false other unmet = refl
          by_none true same unmet = rw (sym (ap (λ i. has_met (class_number x.layered.classes i) e) ((Decides-eqb j k).0 same)) ∙ unmet) refl

          by_test : (b : Bool) → has_met (class_number x.layered.classes j) e ≡ b → kinds test (virtual_form x e j) ≡ (if j == k then (if met e then e.kind ∷ [] else []) else [])
          by_test true is_met = ap (λ b. kinds test (if b then form_of e.kind (virtual_part (j ∷ [])) (ends_inside x e) else [])) is_met ∙ (first ∙ by_class (j == k) refl is_met)
          by_test false unmet = ap (λ b. kinds test (if b then form_of e.kind (virtual_part (j ∷ [])) (ends_inside x e) else [])) unmet ∙ by_none (j == k) refl unmet

      forms-kinds : (e : Exception) → kinds test (forms_of x e) ≡ (if met e then e.kind ∷ [] else [])
      forms-kinds e =
          kinds-append test (real_form x e) (flat_map (virtual_form x e) (input_classes x))
          ∙ (rw (real-none e)
          (kinds-concat test (virtual_form x e) (λ j. if j == k then (if met e then e.kind ∷ [] else []) else []) (input_classes x)
          (λ i d below. virtual-kinds e (slice_index_or (input_classes x) i d) (Contains-get_or (input_classes x) i d below))
          ∙ once (if met e then e.kind ∷ [] else []) k (input_classes x)
          (filtered-rise (λ k. list_any (λ n. node_class x.layered n == k) (input_nodes x.design x.layered x.block)) (length x.layered.classes)) port.«class»))

      pub port-check : kinds test (block_forms x) ≡ map (λ (e : Exception). e.kind) (filter (λ e. has_met (class_number x.layered.classes k) e && meets_to e z) x.all.exceptions)
      port-check = check-kinds (λ e. if met e then e.kind ∷ [] else []) (λ i d below. forms-kinds (slice_index_or x.all.exceptions i d)) ∙ kind-if met x.all.exceptions

    -- ---- from a clock pin
    module _ (m : Launch) (clock : IsClockLaunchOf x l m) (lacks : All (λ e. LackPin m.pin.0 e.groups) x.all.exceptions) where
      abbrev matched : Exception → Bool
      matched e = matches e m (m.pin.0 ∷ []) z

      from-starts : (e : Exception) → from_of (starts_inside x e) ≡ meets_from e m
      from-starts e =
          ap (λ c. names (Some (marks_as x (starts_inside x e))) l.pin.0 c) clock.clock
          ∙ (matching.real-inside x (is_clocked x.timing) e.from l.pin.0 m.clock clock.clocked clock.below clock.inside clock.real ∙ ap (λ (p : PinId). names e.from p.0 m.clock) (sym clock.pin))

      from-one-real : (j : ℕ) → Contains (input_classes x) j → from_of (virtual_part (j ∷ [])) ≡ false
      from-one-real j there =
          ap (λ c. names (Some (marks_as x (virtual_part (j ∷ [])))) l.pin.0 c) clock.clock ∙ matching.real-virtual x (j ∷ []) (matching.one-port x j there) l.pin.0 m.clock clock.real

      virtual-none : (e : Exception) (j : ℕ) → Contains (input_classes x) j → kinds test (virtual_form x e j) ≡ []
      virtual-none e j there = by_test (has_met (class_number x.layered.classes j) e)
        where
          by_test : (b : Bool) → kinds test (if b then form_of e.kind (virtual_part (j ∷ [])) (ends_inside x e) else []) ≡ []
          by_test true = form-none e.kind (virtual_part (j ∷ [])) (ends_inside x e) (and-left-false (from_of (virtual_part (j ∷ []))) (to_of (ends_inside x e)) (from-one-real j there))
          by_test false = refl

      virtuals-none : (e : Exception) → kinds test (flat_map (virtual_form x e) (input_classes x)) ≡ []
      virtuals-none e =
          kinds-concat test (virtual_form x e) (λ j. []) (input_classes x) (λ i d below. virtual-none e (slice_index_or (input_classes x) i d) (Contains-get_or (input_classes x) i d below))
          ∙ nothing (input_classes x)
        where
          nothing : (ns : List ℕ) → flat_map {A = ExceptionKind} (λ (n : ℕ). []) ns ≡ []
          nothing [] = refl
          nothing (n ∷ ns) = flat_map-cons (λ n. []) n ns ∙ nothing ns

      real-kinds : (e : Exception) → LackPin m.pin.0 e.groups → kinds test (real_form x e) ≡ (if matched e then e.kind ∷ [] else [])
      real-kinds e lack = by_test (length e.groups == 0) refl
        where
          none_met : steps (m.pin.0 ∷ []) e.groups ≡ 0
          none_met = steps-lack m.pin.0 e.groups lack

          zero-same : (n : ℕ) → (0 == n) ≡ (n == 0)
          zero-same n = grind arith

          by_test : (b : Bool) → (length e.groups == 0) ≡ b → kinds test (real_form x e) ≡ (if matched e then e.kind ∷ [] else [])
          by_test true is_none =
              ap (λ b. kinds test (if b then form_of e.kind (starts_inside x e) (ends_inside x e) else [])) is_none
              ∙ (form-kinds e.kind (starts_inside x e) (ends_inside x e)
              ∙ rw (from-starts e, to-ends e, none_met, zero-same (length e.groups), is_none) (ap (λ b. if meets_from e m && b then e.kind ∷ [] else []) (and-true (meets_to e z))))
            where
              and-true : (b : Bool) → b ≡ b && true
              and-true true = refl
              and-true false = refl
          by_test false some =
              ap (λ b. kinds test (if b then form_of e.kind (starts_inside x e) (ends_inside x e) else [])) some
              ∙ rw (none_met, zero-same (length e.groups), some) (ap (λ b. if b then e.kind ∷ [] else []) (sym (and-right-false (meets_from e m) _ (and-right-false (meets_to e z) false refl))))

      clock-forms-kinds : (e : Exception) → LackPin m.pin.0 e.groups → kinds test (forms_of x e) ≡ (if matched e then e.kind ∷ [] else [])
      clock-forms-kinds e lack =
          kinds-append test (real_form x e) (flat_map (virtual_form x e) (input_classes x))
          ∙ (ap (λ ks. kinds test (real_form x e) ++ ks) (virtuals-none e) ∙ (append-nil (kinds test (real_form x e)) ∙ real-kinds e lack))

      pub clock-check : kinds test (block_forms x) ≡ map (λ (e : Exception). e.kind) (filter (λ e. matches e m (m.pin.0 ∷ []) z) x.all.exceptions)
      clock-check =
          check-kinds (λ e. if matched e then e.kind ∷ [] else []) (λ i d below. clock-forms-kinds (slice_index_or x.all.exceptions i d) (lacks i d below)) ∙ kind-if matched x.all.exceptions
