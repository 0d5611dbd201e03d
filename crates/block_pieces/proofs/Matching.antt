-- What parts of a block's file name at port bits on virtual clocks, and at clock pins and data pins on real clocks.
use Rattle.std.specs.Prelude.{◌≡◌, ℕ, ◌<◌, ◌==◌, ◌&&◌, ◌||◌, not, Bool, true, false, List, [], ◌∷◌, ◌++◌, filter, flat_map, length, All, Contains, Option, Some, None, if◌then◌else◌, slice_index_or}
use Rattle.std.specs.List.{list_any, range_with_len}
use Rattle.std.proofs.Common.{true≢false, refl, sym, ◌∙◌, ap, subst, eq-eqb}
use Rattle.std.proofs.lemmas.Bool.Decides.{Decides-eqb}
use Rattle.std.proofs.lemmas.List.Concat.{flat_map-cons}
use Rattle.std.proofs.lemmas.List.Elements.{All-nil, All-cons, All-head, All-tail, All-filter, All-append, Contains-get_or}
use Rattle.std.proofs.lemmas.List.Folds.{list_any-append}
use Rattle.clock_reach.proofs.ReachLaws.{any-place, place-any}
use Rattle.bud_design.specs.declared.clocks.ExceptionKind.{ExceptionKind}
use Rattle.bud_design.specs.declared.clocks.Marks.{Marks}
use Rattle.bud_design.specs.Designs.{is_pin_of, pins_of}
use Rattle.bud_design.specs.Exceptions.{names, has_pin, has_clock}
use Rattle.block_theory.specs.BlockClocks.{real_clocks}
use Rattle.block_theory.specs.BlockExceptions.{Part, Form, form_of, is_empty_list, is_empty_part, pins_part, virtual_part, other_outputs, part_inside}
use Rattle.block_theory.specs.BlockPorts.{Context, pins_where, node_class, classes_of, input_nodes, output_nodes, input_classes, output_classes, port_classes}
use Rattle.block_theory.specs.BlockScopes.{real_number, virtual_number, marks_as}
use Rattle.block_pieces.proofs.Numbering.{filtered-has, filtered-below, filtered-passes}
use Rattle.block_pieces.proofs.Parts.{has, IsBlockPart, names-virtual, names-real}

-- ---- members of lists of numbers
and-false : (b : Bool) → b && false ≡ false
and-false true = refl
and-false false = refl

and-true : (b : Bool) → b && true ≡ b
and-true true = refl
and-true false = refl

or-false : (b : Bool) → b || false ≡ b
or-false true = refl
or-false false = refl

pub has-filter : (p : ℕ → Bool) (ns : List ℕ) (v : ℕ) → has (filter p ns) v ≡ p v && has ns v
has-filter p [] v = sym (and-false (p v))
has-filter p (m ∷ ms) v = by_tests (p m) refl (m == v) refl (has-filter p ms v)
  where
    by_tests : (t : Bool) → p m ≡ t → (s : Bool) → (m == v) ≡ s → has (filter p ms) v ≡ p v && has ms v → has (filter p (m ∷ ms)) v ≡ p v && has (m ∷ ms) v
    by_tests true passes true same rest = rw (passes, same, sym (ap p ((Decides-eqb m v).0 same)) ∙ passes) refl
    by_tests true passes false other rest = rw (passes, other) rest
    by_tests false fails true same rest = rw (fails, rest, sym (ap p ((Decides-eqb m v).0 same)) ∙ fails) refl
    by_tests false fails false other rest = rw (fails, other) rest

pub has-contains : (ns : List ℕ) (v : ℕ) → has ns v ≡ true → Contains ns v
has-contains ns v is =
    let found = any-place (λ (m : ℕ). m == v) v ns is in
    (found.0, found.1, (Decides-eqb (slice_index_or ns found.0 v) v).0 found.2)

pub contains-has : (ns : List ℕ) (v : ℕ) → Contains ns v → has ns v ≡ true
contains-has ns v there = place-any (λ (m : ℕ). m == v) v ns there.0 there.1 (eq-eqb (slice_index_or ns there.0 v) v there.2)

pub some-has : (ns : List ℕ) (v : ℕ) → has ns v ≡ true → is_empty_list ns ≡ false
some-has [] v is = absurd (true≢false (sym is))
some-has (n ∷ ns) v is = refl

pub All-concat : {X : Type 0} (P : Form → Type 0) (g : X → List Form) (xs : List X) → All (λ x. All P (g x)) xs → All P (flat_map g xs)
All-concat P g [] each = All-nil P
All-concat P g (x ∷ xs) each =
    subst (All P) (sym (flat_map-cons g x xs)) (All-append P (g x) (flat_map g xs) (All-head (λ x. All P (g x)) x xs each) (All-concat P g xs (All-tail (λ x. All P (g x)) x xs each)))

pub All-form : (P : Form → Type 0) (kind : ExceptionKind) (from to : Part) → P (record { kind = kind; from = from; to = to }) → All P (form_of kind from to)
All-form P kind from to holds = by_test (is_empty_part from || is_empty_part to)
  where
    by_test : (b : Bool) → All P (if b then [] else record { kind = kind; from = from; to = to } ∷ [])
    by_test true = All-nil P
    by_test false = All-cons P (record { kind = kind; from = from; to = to }) [] holds (All-nil P)

module _ (x : Context) where
  -- classes at input bits and at output bits are classes at ports
  port-of : (ns ms : List ℕ) (k : ℕ) → Contains (classes_of x.layered ns) k → list_any (λ n. node_class x.layered n == k) ns ≡ true
  port-of ns ms k there = filtered-passes (λ k. list_any (λ n. node_class x.layered n == k) ns) (range_with_len 0 (length x.layered.classes)) k there

  or-second : (a b : Bool) → b ≡ true → a || b ≡ true
  or-second true b is = refl
  or-second false b is = is

  port-has : (k : ℕ) → k < length x.layered.classes
      → (list_any (λ n. node_class x.layered n == k) (input_nodes x.design x.layered x.block) || list_any (λ n. node_class x.layered n == k) (output_nodes x.design x.layered x.block)) ≡ true
      → Contains (port_classes x) k
  port-has k below is =
      filtered-has (λ k. list_any (λ n. node_class x.layered n == k) (input_nodes x.design x.layered x.block ++ output_nodes x.design x.layered x.block)) (length x.layered.classes) k below
      (list_any-append (λ n. node_class x.layered n == k) (input_nodes x.design x.layered x.block) (output_nodes x.design x.layered x.block) ∙ is)

  pub input-below : (k : ℕ) → Contains (input_classes x) k → k < length x.layered.classes
  input-below k there = filtered-below (λ k. list_any (λ n. node_class x.layered n == k) (input_nodes x.design x.layered x.block)) (length x.layered.classes) k there

  pub output-below : (k : ℕ) → Contains (output_classes x) k → k < length x.layered.classes
  output-below k there = filtered-below (λ k. list_any (λ n. node_class x.layered n == k) (output_nodes x.design x.layered x.block)) (length x.layered.classes) k there

  pub input-port : (k : ℕ) → Contains (input_classes x) k → Contains (port_classes x) k
  input-port k there = port-has k (input-below k there) (rw (port-of (input_nodes x.design x.layered x.block) [] k there) refl)

  pub output-port : (k : ℕ) → Contains (output_classes x) k → Contains (port_classes x) k
  output-port k there = port-has k (output-below k there)
      (or-second (list_any (λ n. node_class x.layered n == k) (input_nodes x.design x.layered x.block)) (list_any (λ n. node_class x.layered n == k) (output_nodes x.design x.layered x.block))
      (port-of (output_nodes x.design x.layered x.block) [] k there))

  -- ---- parts
  nothing-part : (P : ℕ → Type 0) → All P []
  nothing-part P = All-nil P

  pub virtual-is : (ks : List ℕ) → All (Contains (port_classes x)) ks → IsBlockPart x (virtual_part ks)
  virtual-is ks all = record { reals = All-nil (Contains (real_clocks x)); virtuals = all }

  pub pins-is : (vs : List ℕ) → IsBlockPart x (pins_part vs)
  pins-is vs = record { reals = All-nil (Contains (real_clocks x)); virtuals = All-nil (Contains (port_classes x)) }

  pub one-port : (k : ℕ) → Contains (input_classes x) k → All (Contains (port_classes x)) (k ∷ [])
  one-port k there = All-cons (Contains (port_classes x)) k [] (input-port k there) (All-nil (Contains (port_classes x)))

  pub outputs-port : All (Contains (port_classes x)) (output_classes x)
  outputs-port i d below = output-port (slice_index_or (output_classes x) i d) (Contains-get_or (output_classes x) i d below)

  pub others-port : (k : ℕ) → All (Contains (port_classes x)) (other_outputs x k)
  others-port k = All-filter (λ j. not (j == k)) (Contains (port_classes x)) (output_classes x) outputs-port

  reals-all : All (Contains (real_clocks x)) (real_clocks x)
  reals-all i d below = Contains-get_or (real_clocks x) i d below

  pub inside-is : (is_such : ℕ → Bool) (part : Option Marks) → IsBlockPart x (part_inside x is_such part)
  inside-is is_such None = record { reals = reals-all; virtuals = All-nil (Contains (port_classes x)) }
  inside-is is_such (Some marks) = record { reals = All-filter (has_clock marks.clocks) (Contains (real_clocks x)) (real_clocks x) reals-all; virtuals = All-nil (Contains (port_classes x)) }

  -- an empty part names nothing
  pub empty-names : (p : Part) → is_empty_part p ≡ true → (v c : ℕ) → names (Some (marks_as x p)) v c ≡ false
  empty-names p is v c = by_lists p.pins p.reals p.virtuals is
    where
      by_lists : (pins reals virtuals : List ℕ) → is_empty_part (record { pins = pins; reals = reals; virtuals = virtuals }) ≡ true
          → names (Some (marks_as x (record { pins = pins; reals = reals; virtuals = virtuals }))) v c ≡ false
      by_lists [] [] [] e = refl
      by_lists (u ∷ us) reals virtuals e = absurd (true≢false (sym e))
      by_lists [] (r ∷ rs) virtuals e = absurd (true≢false (sym e))
      by_lists [] [] (k ∷ ks) e = absurd (true≢false (sym e))

  -- pins of the block that are such, by a pin of it
  pub where-has : (is_such : ℕ → Bool) (v : ℕ) → v < length x.design.pins → is_pin_of x.design x.block v ≡ true → has (pins_where x is_such) v ≡ is_such v
  where-has is_such v below inside =
      has-filter is_such (pins_of x.design x.block) v
      ∙ (ap (λ b. is_such v && b) (contains-has (pins_of x.design x.block) v (filtered-has (is_pin_of x.design x.block) (length x.design.pins) v below inside)) ∙ and-true (is_such v))

  pub where-lacks : (is_such : ℕ → Bool) (v : ℕ) → is_such v ≡ false → has (pins_where x is_such) v ≡ false
  where-lacks is_such v fails = has-filter is_such (pins_of x.design x.block) v ∙ rw fails refl

  -- ---- on the virtual clock of a class, at a pin that no part's pins have
  pub virtual-virtual : (ks : List ℕ) → All (Contains (port_classes x)) ks → (v k : ℕ) → Contains (port_classes x) k → names (Some (marks_as x (virtual_part ks))) v (virtual_number x k) ≡ has ks k
  virtual-virtual ks all v k there = names-virtual x (virtual_part ks) (virtual-is ks all) v k refl there

  pub virtual-pins : (vs : List ℕ) (v k : ℕ) → has vs v ≡ false → Contains (port_classes x) k → names (Some (marks_as x (pins_part vs))) v (virtual_number x k) ≡ false
  virtual-pins vs v k lacks there = names-virtual x (pins_part vs) (pins-is vs) v k lacks there

  pub virtual-inside : (is_such : ℕ → Bool) (part : Option Marks) (v k : ℕ) → is_such v ≡ false → Contains (port_classes x) k → names (Some (marks_as x (part_inside x is_such part))) v (virtual_number x k) ≡ false
  virtual-inside is_such None v k fails there = names-virtual x (part_inside x is_such None) (inside-is is_such None) v k refl there
  virtual-inside is_such (Some marks) v k fails there =
      names-virtual x (part_inside x is_such (Some marks)) (inside-is is_such (Some marks)) v k (where-lacks (λ u. is_such u && has_pin marks.pins u) v (rw fails refl)) there

  -- ---- on a real clock
  pub real-virtual : (ks : List ℕ) → All (Contains (port_classes x)) ks → (v c : ℕ) → Contains (real_clocks x) c → names (Some (marks_as x (virtual_part ks))) v (real_number x c) ≡ false
  real-virtual ks all v c there = names-real x (virtual_part ks) (virtual-is ks all) v c there

  pub real-pins : (vs : List ℕ) (v c : ℕ) → Contains (real_clocks x) c → names (Some (marks_as x (pins_part vs))) v (real_number x c) ≡ has vs v
  real-pins vs v c there = names-real x (pins_part vs) (pins-is vs) v c there ∙ or-false (has vs v)

  pub real-inside : (is_such : ℕ → Bool) (part : Option Marks) (v c : ℕ) → is_such v ≡ true → v < length x.design.pins → is_pin_of x.design x.block v ≡ true → Contains (real_clocks x) c
      → names (Some (marks_as x (part_inside x is_such part))) v (real_number x c) ≡ names part v c
  real-inside is_such None v c passes below inside there = names-real x (part_inside x is_such None) (inside-is is_such None) v c there ∙ contains-has (real_clocks x) c there
  real-inside is_such (Some marks) v c passes below inside there =
      let pins : has (pins_where x (λ u. is_such u && has_pin marks.pins u)) v ≡ has_pin marks.pins v
      = where-has (λ u. is_such u && has_pin marks.pins u) v below inside ∙ ap (λ b. b && has_pin marks.pins v) passes in
      let reals : has (filter (has_clock marks.clocks) (real_clocks x)) c ≡ has_clock marks.clocks c
      = has-filter (has_clock marks.clocks) (real_clocks x) c ∙ (ap (λ b. has_clock marks.clocks c && b) (contains-has (real_clocks x) c there) ∙ and-true (has_clock marks.clocks c)) in
      names-real x (part_inside x is_such (Some marks)) (inside-is is_such (Some marks)) v c there ∙ (ap (λ b. b || has (filter (has_clock marks.clocks) (real_clocks x)) c) pins ∙ ap (λ b. has_pin marks.pins v || b) reals)
