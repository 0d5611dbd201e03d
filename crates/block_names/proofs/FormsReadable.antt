-- Every exception of a block's file begins at clock pins, real clocks or classes at ports, and ends at data pins or such clocks.
use Rattle.std.specs.Prelude.{◌≡◌, ℕ, ◌<◌, ◌==◌, ◌&&◌, not, Bool, true, false, List, [], ◌∷◌, ◌++◌, flat_map, length, All, Contains, Option, Some, None, if◌then◌else◌, slice_index_or}
use Rattle.std.specs.List.{range_with_len}
use Rattle.std.proofs.lemmas.List.Elements.{All-nil, All-append, All-filter, Contains-get_or}
use Rattle.bud_design.specs.declared.clocks.Exception.{Exception}
use Rattle.bud_design.specs.declared.clocks.ExceptionKind.TheVariants.{FalsePath}
use Rattle.bud_design.specs.declared.clocks.Marks.{Marks}
use Rattle.bud_design.specs.declared.layers.Class.{Class}
use Rattle.bud_design.specs.Arcs.{is_clocked}
use Rattle.bud_design.specs.Designs.{is_pin_of, pins_of}
use Rattle.bud_design.specs.Exceptions.{has_pin, has_clock, has_met}
use Rattle.bud_design.specs.Layers.{class_number}
use Rattle.timing_objects.specs.Objects.{is_checked}
use Rattle.block_theory.specs.BlockClocks.{real_clocks}
use Rattle.block_theory.specs.BlockExceptions.{form_of, pins_part, virtual_part, other_outputs, between_classes, same_class, begins_in, is_live, clock_pins_in, from_clock_pins, part_inside, starts_inside, ends_inside, real_form, virtual_form, forms_of, block_forms}
use Rattle.block_theory.specs.BlockPorts.{Context, pins_where, input_classes, output_classes, port_classes}
use Rattle.block_theory.proofs.Insides.{and-true}
use Rattle.block_pieces.proofs.Matching.{All-concat, All-form, one-port, outputs-port, others-port}
use Rattle.block_pieces.proofs.Numbering.{filtered-below, filtered-passes}
use Rattle.block_names.specs.PartReadings.{IsPinSuch, IsReadPart, IsReadForm}

module _ (x : Context) where
  record IsIn (v : ℕ) : Type 0 where
    pub below : v < length x.design.pins
    pub inside : is_pin_of x.design x.block v ≡ true

  pins-in : All IsIn (pins_of x.design x.block)
  pins-in i e below =
      let v = slice_index_or (pins_of x.design x.block) i e in
      let there = Contains-get_or (pins_of x.design x.block) i e below in
      record { below = filtered-below (is_pin_of x.design x.block) (length x.design.pins) v there; inside = filtered-passes (is_pin_of x.design x.block) (range_with_len 0 (length x.design.pins)) v there }

  such-pins : (q r : ℕ → Bool) → All (IsPinSuch x q) (pins_where x (λ v. q v && r v))
  such-pins q r i e below =
      let v = slice_index_or (pins_where x (λ v. q v && r v)) i e in
      let is = All-filter (λ v. q v && r v) IsIn (pins_of x.design x.block) pins-in i e below in
      let passes = filtered-passes (λ v. q v && r v) (pins_of x.design x.block) v (Contains-get_or (pins_where x (λ v. q v && r v)) i e below) in
      record { below = is.below; inside = is.inside; such = (and-true (q v) (r v) passes).0 }

  reals-all : All (Contains (real_clocks x)) (real_clocks x)
  reals-all i e below = Contains-get_or (real_clocks x) i e below

  virtual-read : (q : ℕ → Bool) (ks : List ℕ) → All (Contains (port_classes x)) ks → IsReadPart x q (virtual_part ks)
  virtual-read q ks all = record { pins = All-nil (IsPinSuch x q); reals = All-nil (Contains (real_clocks x)); virtuals = all }

  pins-read : (is_such : Class → Bool) → IsReadPart x (is_clocked x.timing) (pins_part (clock_pins_in x is_such))
  pins-read is_such = record {
    pins = such-pins (is_clocked x.timing) (begins_in x.all is_such);
    reals = All-nil (Contains (real_clocks x));
    virtuals = All-nil (Contains (port_classes x));
  }

  inside-read : (q : ℕ → Bool) (part : Option Marks) → IsReadPart x q (part_inside x q part)
  inside-read q None = record { pins = All-nil (IsPinSuch x q); reals = reals-all; virtuals = All-nil (Contains (port_classes x)) }
  inside-read q (Some marks) = record {
    pins = such-pins q (has_pin marks.pins);
    reals = All-filter (has_clock marks.clocks) (Contains (real_clocks x)) (real_clocks x) reals-all;
    virtuals = All-nil (Contains (port_classes x));
  }

  between-read : All (IsReadForm x) (between_classes x)
  between-read =
      All-concat (IsReadForm x) (λ k. form_of FalsePath (virtual_part (k ∷ [])) (virtual_part (other_outputs x k))) (input_classes x)
      (λ i e below. (let k = slice_index_or (input_classes x) i e in
      All-form (IsReadForm x) FalsePath (virtual_part (k ∷ [])) (virtual_part (other_outputs x k))
      (record {
        from = virtual-read (is_clocked x.timing) (k ∷ []) (one-port x k (Contains-get_or (input_classes x) i e below));
        to = virtual-read (is_checked x.timing) (other_outputs x k) (others-port x k);
      })))

  clock_pins-read : All (IsReadForm x) (from_clock_pins x)
  clock_pins-read =
      All-append (IsReadForm x) (flat_map (λ k. form_of FalsePath (pins_part (clock_pins_in x (same_class (class_number x.layered.classes k)))) (virtual_part (other_outputs x k))) (range_with_len 0 (length x.layered.classes)))
      (form_of FalsePath (pins_part (clock_pins_in x (λ k. not (is_live x k)))) (virtual_part (output_classes x)))
      (All-concat (IsReadForm x) (λ k. form_of FalsePath (pins_part (clock_pins_in x (same_class (class_number x.layered.classes k)))) (virtual_part (other_outputs x k))) (range_with_len 0 (length x.layered.classes))
      (λ i e below. (let k = slice_index_or (range_with_len 0 (length x.layered.classes)) i e in
      All-form (IsReadForm x) FalsePath (pins_part (clock_pins_in x (same_class (class_number x.layered.classes k)))) (virtual_part (other_outputs x k))
      (record { from = pins-read (same_class (class_number x.layered.classes k)); to = virtual-read (is_checked x.timing) (other_outputs x k) (others-port x k) }))))
      (All-form (IsReadForm x) FalsePath (pins_part (clock_pins_in x (λ k. not (is_live x k)))) (virtual_part (output_classes x))
      (record { from = pins-read (λ k. not (is_live x k)); to = virtual-read (is_checked x.timing) (output_classes x) (outputs-port x) }))

  real-read : (e : Exception) → All (IsReadForm x) (real_form x e)
  real-read e = by_test (length e.groups == 0)
    where
      by_test : (b : Bool) → All (IsReadForm x) (if b then form_of e.kind (starts_inside x e) (ends_inside x e) else [])
      by_test true = All-form (IsReadForm x) e.kind (starts_inside x e) (ends_inside x e) (record { from = inside-read (is_clocked x.timing) e.from; to = inside-read (is_checked x.timing) e.to })
      by_test false = All-nil (IsReadForm x)

  virtual_form-read : (e : Exception) (k : ℕ) → Contains (input_classes x) k → All (IsReadForm x) (virtual_form x e k)
  virtual_form-read e k there = by_test (has_met (class_number x.layered.classes k) e)
    where
      by_test : (b : Bool) → All (IsReadForm x) (if b then form_of e.kind (virtual_part (k ∷ [])) (ends_inside x e) else [])
      by_test true = All-form (IsReadForm x) e.kind (virtual_part (k ∷ [])) (ends_inside x e) (record { from = virtual-read (is_clocked x.timing) (k ∷ []) (one-port x k there); to = inside-read (is_checked x.timing) e.to })
      by_test false = All-nil (IsReadForm x)

  pub block_forms-read : All (IsReadForm x) (block_forms x)
  block_forms-read =
      All-append (IsReadForm x) (between_classes x) (from_clock_pins x ++ flat_map (forms_of x) x.all.exceptions) between-read
      (All-append (IsReadForm x) (from_clock_pins x) (flat_map (forms_of x) x.all.exceptions) clock_pins-read
      (All-concat (IsReadForm x) (forms_of x) x.all.exceptions
      (λ i d below. (let e = slice_index_or x.all.exceptions i d in
      All-append (IsReadForm x) (real_form x e) (flat_map (virtual_form x e) (input_classes x)) (real-read e)
      (All-concat (IsReadForm x) (virtual_form x e) (input_classes x) (λ j c less. virtual_form-read e (slice_index_or (input_classes x) j c) (Contains-get_or (input_classes x) j c less)))))))
