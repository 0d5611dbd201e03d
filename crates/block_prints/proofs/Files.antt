-- Each command of a block's file may be written.
use Rattle.std.proofs.Common.{◌≡◌, ℕ, ◌==◌, ◌&&◌, ◌||◌, not, nat_lt, nat_le, ℤ, Bool, true, false, List, [], ◌∷◌, ◌++◌, map, length, Option, Some, None, refl}
use Rattle.std.proofs.lemmas.Bool.{and_parts}
use Rattle.std.specs.List.{list_all, flat_map, range_with_len}
use Rattle.text_scan.proofs.Binds.{by_test}
use Rattle.bud_syntax.specs.declared.constraints.Object.{Object}
use Rattle.bud_design.specs.declared.clocks.Exception.{Exception}
use Rattle.bud_design.specs.declared.clocks.ExceptionKind.{ExceptionKind}
use Rattle.bud_design.specs.declared.clocks.ExceptionKind.TheVariants.{FalsePath, Multicycle, MaxDelay}
use Rattle.bud_design.specs.declared.clocks.Marks.{Marks}
use Rattle.bud_design.specs.declared.layers.Class.{Class}
use Rattle.bud_design.specs.Clocks.{clock_at}
use Rattle.bud_design.specs.Exceptions.{has_met, has_clock}
use Rattle.bud_design.specs.Layers.{class_number}
use Rattle.sdc_reader.specs.Numbers.{is_small}
use Rattle.sdc_writer.specs.Printable.{is_written_part, is_written_command, is_printable_file}
use Rattle.kept_names.proofs.Ways.{module_kept}
use Rattle.block_theory.specs.BlockPorts.{Context, node_at, node_class, nodes_at, input_nodes, output_nodes, classes_of, input_classes, output_classes, port_classes}
use Rattle.block_theory.specs.BlockClocks.{real_clocks, real_clock, virtual_clock, clock_commands}
use Rattle.block_theory.specs.BlockExceptions.{Part, Form, is_empty_part, pins_part, virtual_part, form_of, other_outputs, between_classes, same_class, is_live, clock_pins_in, from_clock_pins, part_inside, starts_inside, ends_inside, real_form, virtual_form, forms_of, block_forms, part_objects, command_of, form_command, exception_commands}
use Rattle.block_theory.specs.BlockFiles.{input_amount, output_amount, input_delay, output_delay, delay_commands, block_commands, block_file}
use Rattle.block_prints.specs.Writable.{IsWritable, is_read_kind}
use Rattle.block_prints.proofs.Lists.{all_both, all_map, all_filter, all_flat, all_below, below_is, below_from, all_true}
use Rattle.block_prints.proofs.Parts.{times_small, clock_named, is_part_of, pins_below, pin_named, virtual_kept, virtual_clock_named, part_written, part_some, sources_written}

all_and : {X : Type 0} (p q : X → Bool) (xs : List X) → list_all p xs ≡ true → list_all q xs ≡ true → list_all (λ x. p x && q x) xs ≡ true
all_and p q [] first second = refl
all_and p q (x ∷ xs) first second =
    let a = and_parts (p x) (list_all p xs) first in
    let b = and_parts (q x) (list_all q xs) second in
    rw (a.0, b.0, all_and p q xs a.1 b.1) refl

not_true : (b : Bool) → not b ≡ true → b ≡ false
not_true true is = absurd (cc)
not_true false is = refl

or_parts : (a b : Bool) → (a || b) ≡ false → (a ≡ false) × (b ≡ false)
or_parts true b is = absurd (cc)
or_parts false b is = (refl, is)

module _ (x : Context) (arrivals : List ℤ) (fine : IsWritable x arrivals) where
  abbrev is_clock : ℕ → Bool
  is_clock c = nat_lt c (length x.all.clocks)

  abbrev is_class : ℕ → Bool
  is_class k = nat_lt k (length x.layered.classes)

  abbrev is_node : ℕ → Bool
  is_node n = nat_lt n (length x.layered.nodes)

  -- ---- clocks
  reals_below : list_all is_clock (real_clocks x) ≡ true
  reals_below = all_filter is_clock _ (range_with_len 0 (length x.all.clocks)) (all_below (length x.all.clocks))

  real_written : (c : ℕ) → is_clock c ≡ true → is_written_command (real_clock x c) ≡ true
  real_written c low =
      let k = clock_at x.all.clocks c in
      let times = and_parts (is_small k.period) (is_small k.rise && is_small k.fall) (times_small x.all.clocks c fine.clocks) in
      let edges = and_parts (is_small k.rise) (is_small k.fall) times.1 in
      rw (clock_named x.all.clocks c fine.clocks (below_from c (length x.all.clocks) low), times.0, edges.0, edges.1, sources_written x arrivals fine c) refl

  virtual_written : (k : ℕ) → is_class k ≡ true → is_written_command (virtual_clock x k) ≡ true
  virtual_written k low =
      let c = (class_number x.layered.classes k).clock in
      let like = clock_at x.all.clocks c in
      let times = and_parts (is_small like.period) (is_small like.rise && is_small like.fall) (times_small x.all.clocks c fine.clocks) in
      let edges = and_parts (is_small like.rise) (is_small like.fall) times.1 in
      rw (virtual_clock_named x arrivals fine k low, times.0, edges.0, edges.1) refl

  classes_below : (ns : List ℕ) → list_all is_class (classes_of x.layered ns) ≡ true
  classes_below ns = all_filter is_class _ (range_with_len 0 (length x.layered.classes)) (all_below (length x.layered.classes))

  clocks_written : list_all is_written_command (clock_commands x) ≡ true
  clocks_written =
      all_both is_written_command (map (real_clock x) (real_clocks x)) (map (virtual_clock x) (port_classes x))
      (all_map is_clock is_written_command (real_clock x) (real_clocks x) real_written reals_below)
      (all_map is_class is_written_command (virtual_clock x) (port_classes x) virtual_written (classes_below _))

  -- ---- delays
  nodes_below : (vs : List ℕ) → list_all is_node (flat_map (nodes_at x.layered) vs) ≡ true
  nodes_below vs =
      all_flat (λ v. true) is_node (nodes_at x.layered) vs
      (λ v is. all_filter is_node _ (range_with_len 0 (length x.layered.nodes)) (all_below (length x.layered.nodes))) (all_true vs)

  node_pin : (n : ℕ) → is_node n ≡ true → nat_lt (node_at x.layered.nodes n).pin.0 (length x.design.pins) ≡ true
  node_pin n low = below_is _ _ (fine.nodes n (node_at [] 0) (below_from n (length x.layered.nodes) low))

  class_of_node : (n : ℕ) → is_node n ≡ true → is_class (node_class x.layered n) ≡ true
  class_of_node n low = below_is _ _ (fine.class_of_node n (node_at [] 0) (below_from n (length x.layered.nodes) low))

  input_written : (n : ℕ) → (is_node n && is_small (input_amount arrivals n)) ≡ true → is_written_command (input_delay x arrivals n) ≡ true
  input_written n is =
      let parts = and_parts (is_node n) (is_small (input_amount arrivals n)) is in
      rw (parts.1, virtual_kept x arrivals fine (node_class x.layered n) (class_of_node n parts.0), pin_named x arrivals fine (node_at x.layered.nodes n).pin.0 (node_pin n parts.0)) refl

  output_written : (n : ℕ) → (is_node n && is_small (output_amount x.all x.layered arrivals n)) ≡ true → is_written_command (output_delay x arrivals n) ≡ true
  output_written n is =
      let parts = and_parts (is_node n) (is_small (output_amount x.all x.layered arrivals n)) is in
      rw (parts.1, virtual_kept x arrivals fine (node_class x.layered n) (class_of_node n parts.0), pin_named x arrivals fine (node_at x.layered.nodes n).pin.0 (node_pin n parts.0)) refl

  delays_written : list_all is_written_command (delay_commands x arrivals) ≡ true
  delays_written =
      let ins = input_nodes x.design x.layered x.block in
      let outs = output_nodes x.design x.layered x.block in
      all_both is_written_command (map (input_delay x arrivals) ins) (map (output_delay x arrivals) outs)
      (all_map _ is_written_command (input_delay x arrivals) ins input_written (all_and is_node (λ n. is_small (input_amount arrivals n)) ins (nodes_below _) fine.inputs))
      (all_map _ is_written_command (output_delay x arrivals) outs output_written (all_and is_node (λ n. is_small (output_amount x.all x.layered arrivals n)) outs (nodes_below _) fine.outputs))

  -- ---- exceptions
  abbrev is_part : Part → Bool
  is_part p = is_part_of x arrivals fine p

  abbrev is_good : Form → Bool
  is_good f = is_read_kind f.kind && ((is_part f.from && not (is_empty_part f.from)) && (is_part f.to && not (is_empty_part f.to)))

  form_good : (kind : ExceptionKind) (from to : Part) → is_read_kind kind ≡ true → is_part from ≡ true → is_part to ≡ true → list_all is_good (form_of kind from to) ≡ true
  form_good kind from to read first last =
      by_test (is_empty_part from || is_empty_part to)
      (λ empty. rw empty refl)
      (λ some.
      let both = or_parts (is_empty_part from) (is_empty_part to) some in
      rw (some, read, first, last, both.0, both.1) refl)

  one_class : (k : ℕ) → is_class k ≡ true → is_part (virtual_part (k ∷ [])) ≡ true
  one_class k low = rw low refl

  others_below : (k : ℕ) → list_all is_class (other_outputs x k) ≡ true
  others_below k = all_filter is_class _ (output_classes x) (classes_below _)

  between_good : list_all is_good (between_classes x) ≡ true
  between_good =
      all_flat is_class is_good (λ k. form_of FalsePath (virtual_part (k ∷ [])) (virtual_part (other_outputs x k))) (input_classes x)
      (λ k low. form_good FalsePath (virtual_part (k ∷ [])) (virtual_part (other_outputs x k)) refl (one_class k low) (others_below k)) (classes_below _)

  pins_good : (is_such : Class → Bool) (ks : List ℕ) → list_all is_class ks ≡ true → list_all is_good (form_of FalsePath (pins_part (clock_pins_in x is_such)) (virtual_part ks)) ≡ true
  pins_good is_such ks low = form_good FalsePath (pins_part (clock_pins_in x is_such)) (virtual_part ks) refl (rw (pins_below x arrivals fine _) refl) low

  from_pins_good : list_all is_good (from_clock_pins x) ≡ true
  from_pins_good =
      let by_class = (λ (k : ℕ). form_of FalsePath (pins_part (clock_pins_in x (same_class (class_number x.layered.classes k)))) (virtual_part (other_outputs x k))) in
      let classes = range_with_len 0 (length x.layered.classes) in
      all_both is_good (flat_map by_class classes) (form_of FalsePath (pins_part (clock_pins_in x (λ k. not (is_live x k)))) (virtual_part (output_classes x)))
      (all_flat (λ k. true) is_good by_class classes (λ k is. pins_good (same_class (class_number x.layered.classes k)) (other_outputs x k) (others_below k)) (all_true classes))
      (pins_good (λ k. not (is_live x k)) (output_classes x) (classes_below _))

  inside_part : (is_such : ℕ → Bool) (marks : Option Marks) → is_part (part_inside x is_such marks) ≡ true
  inside_part is_such None = rw reals_below refl
  inside_part is_such (Some marks) = rw (pins_below x arrivals fine _, all_filter is_clock (has_clock marks.clocks) (real_clocks x) reals_below) refl

  real_good : (e : Exception) → is_read_kind e.kind ≡ true → list_all is_good (real_form x e) ≡ true
  real_good e read =
      by_test (length e.groups == 0)
      (λ none. rw none (form_good e.kind (starts_inside x e) (ends_inside x e) read (inside_part _ e.from) (inside_part _ e.to)))
      (λ some. rw some refl)

  virtual_good : (e : Exception) → is_read_kind e.kind ≡ true → (k : ℕ) → is_class k ≡ true → list_all is_good (virtual_form x e k) ≡ true
  virtual_good e read k low =
      by_test (has_met (class_number x.layered.classes k) e)
      (λ met. rw met (form_good e.kind (virtual_part (k ∷ [])) (ends_inside x e) read (one_class k low) (inside_part _ e.to)))
      (λ other. rw other refl)

  exception_good : (e : Exception) → is_read_kind e.kind ≡ true → list_all is_good (forms_of x e) ≡ true
  exception_good e read =
      all_both is_good (real_form x e) (flat_map (virtual_form x e) (input_classes x)) (real_good e read)
      (all_flat is_class is_good (virtual_form x e) (input_classes x) (virtual_good e read) (classes_below _))

  forms_good : list_all is_good (block_forms x) ≡ true
  forms_good =
      all_both is_good (between_classes x) (from_clock_pins x ++ flat_map (forms_of x) x.all.exceptions) between_good
      (all_both is_good (from_clock_pins x) (flat_map (forms_of x) x.all.exceptions) from_pins_good
      (all_flat (λ e. is_read_kind e.kind) is_good (forms_of x) x.all.exceptions exception_good fine.exceptions))

  kind_written : (kind : ExceptionKind) (from to : List Object) → is_read_kind kind ≡ true → is_written_part (Some from) ≡ true → is_written_part (Some to) ≡ true → is_written_command (command_of kind from to) ≡ true
  kind_written FalsePath from to read first last = rw (first, last) refl
  kind_written (Multicycle count by_launch) from to read first last =
      let parts = and_parts (nat_le 1 count) (nat_le count 1000) read in
      rw (parts.0, parts.1, first, last) refl
  kind_written (MaxDelay amount) from to read first last = rw (read, first, last) refl

  good_part : (p : Part) → (is_part p && not (is_empty_part p)) ≡ true → is_written_part (Some (part_objects x p)) ≡ true
  good_part p is =
      let parts = and_parts (is_part p) (not (is_empty_part p)) is in
      rw (part_some x arrivals fine p (not_true (is_empty_part p) parts.1), part_written x arrivals fine p parts.0) refl

  form_written : (f : Form) → is_good f ≡ true → is_written_command (form_command x f) ≡ true
  form_written f is =
      let a = and_parts (is_read_kind f.kind) _ is in
      let b = and_parts (is_part f.from && not (is_empty_part f.from)) _ a.1 in
      kind_written f.kind (part_objects x f.from) (part_objects x f.to) a.0 (good_part f.from b.0) (good_part f.to b.1)

  exceptions_written : list_all is_written_command (exception_commands x) ≡ true
  exceptions_written = all_map is_good is_written_command (form_command x) (block_forms x) form_written forms_good

  -- ---- the file
  pub commands_written : list_all is_written_command (block_commands x arrivals) ≡ true
  commands_written =
      all_both is_written_command (clock_commands x) (delay_commands x arrivals ++ exception_commands x) clocks_written
      (all_both is_written_command (delay_commands x arrivals) (exception_commands x) delays_written exceptions_written)

pub file_printable : (x : Context) (arrivals : List ℤ) → IsWritable x arrivals → is_printable_file (block_file x arrivals) ≡ true
file_printable x arrivals fine = rw (module_kept x.design x.block fine.names fine.block, commands_written x arrivals fine) refl
