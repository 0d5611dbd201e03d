-- Every number of a block's file is within the range that a constraint file may have.
use Rattle.std.specs.Prelude.{ℕ, ◌==◌, not, ℤ, Bool, true, false, List, [], ◌∷◌, ◌++◌, map, flat_map, length, All, Contains, if◌then◌else◌, slice_index_or}
use Rattle.std.specs.List.{range_with_len}
use Rattle.std.proofs.lemmas.List.Elements.{All-nil, All-append, All-map, All-weaker, Contains-get_or}
use Rattle.bud_syntax.specs.declared.constraints.Object.{Object}
use Rattle.bud_syntax.specs.Ranges.{IsReadTime, IsReadCommand}
use Rattle.bud_design.specs.declared.clocks.Exception.{Exception}
use Rattle.bud_design.specs.declared.clocks.ExceptionKind.{ExceptionKind}
use Rattle.bud_design.specs.declared.clocks.ExceptionKind.TheVariants.{FalsePath, Multicycle, MaxDelay}
use Rattle.bud_design.specs.Clocks.{clock_at}
use Rattle.bud_design.specs.ConstraintRules.{IsSoundKind}
use Rattle.bud_design.specs.Exceptions.{has_met}
use Rattle.bud_design.specs.Layers.{class_number}
use Rattle.block_theory.specs.BlockClocks.{real_clocks, real_clock, virtual_clock, clock_commands}
use Rattle.block_theory.specs.BlockExceptions.{Form, form_of, pins_part, virtual_part, other_outputs, between_classes, same_class, is_live, clock_pins_in, from_clock_pins, starts_inside, ends_inside, real_form, virtual_form, forms_of, block_forms, part_objects, command_of, form_command, exception_commands}
use Rattle.block_theory.specs.BlockFiles.{input_amount, output_amount, input_delay, output_delay, delay_commands, block_commands}
use Rattle.block_theory.specs.BlockPorts.{Context, class_clock, input_nodes, output_nodes, input_classes, output_classes, port_classes}
use Rattle.block_pieces.proofs.Matching.{All-concat, All-form}
use Rattle.block_readings.proofs.ClockTimes.{HasReadTimes}

kind-read : (kind : ExceptionKind) (from to : List Object) → IsSoundKind kind → IsReadCommand (command_of kind from to)
kind-read FalsePath from to sound = tt
kind-read (Multicycle n by_launch) from to sound = sound
kind-read (MaxDelay amount) from to sound = sound

module _ (x : Context) where
  abbrev IsSoundForm : Form → Type 0
  IsSoundForm f = IsSoundKind f.kind

  between-sound : All IsSoundForm (between_classes x)
  between-sound =
      All-concat IsSoundForm (λ k. form_of FalsePath (virtual_part (k ∷ [])) (virtual_part (other_outputs x k))) (input_classes x)
      (λ i e less. All-form IsSoundForm FalsePath (virtual_part (slice_index_or (input_classes x) i e ∷ [])) (virtual_part (other_outputs x (slice_index_or (input_classes x) i e))) tt)

  clock_pins-sound : All IsSoundForm (from_clock_pins x)
  clock_pins-sound =
      All-append IsSoundForm (flat_map (λ k. form_of FalsePath (pins_part (clock_pins_in x (same_class (class_number x.layered.classes k)))) (virtual_part (other_outputs x k))) (range_with_len 0 (length x.layered.classes)))
      (form_of FalsePath (pins_part (clock_pins_in x (λ k. not (is_live x k)))) (virtual_part (output_classes x)))
      (All-concat IsSoundForm (λ k. form_of FalsePath (pins_part (clock_pins_in x (same_class (class_number x.layered.classes k)))) (virtual_part (other_outputs x k))) (range_with_len 0 (length x.layered.classes))
      (λ i e less. (let k = slice_index_or (range_with_len 0 (length x.layered.classes)) i e in
      All-form IsSoundForm FalsePath (pins_part (clock_pins_in x (same_class (class_number x.layered.classes k)))) (virtual_part (other_outputs x k)) tt)))
      (All-form IsSoundForm FalsePath (pins_part (clock_pins_in x (λ k. not (is_live x k)))) (virtual_part (output_classes x)) tt)

  real-sound : (e : Exception) → IsSoundKind e.kind → All IsSoundForm (real_form x e)
  real-sound e sound = by_test (length e.groups == 0)
    where
      by_test : (b : Bool) → All IsSoundForm (if b then form_of e.kind (starts_inside x e) (ends_inside x e) else [])
      by_test true = All-form IsSoundForm e.kind (starts_inside x e) (ends_inside x e) sound
      by_test false = All-nil IsSoundForm

  virtual-sound : (e : Exception) (k : ℕ) → IsSoundKind e.kind → All IsSoundForm (virtual_form x e k)
  virtual-sound e k sound = by_test (has_met (class_number x.layered.classes k) e)
    where
      by_test : (b : Bool) → All IsSoundForm (if b then form_of e.kind (virtual_part (k ∷ [])) (ends_inside x e) else [])
      by_test true = All-form IsSoundForm e.kind (virtual_part (k ∷ [])) (ends_inside x e) sound
      by_test false = All-nil IsSoundForm

  forms-sound : All (λ e. IsSoundKind e.kind) x.all.exceptions → All IsSoundForm (block_forms x)
  forms-sound sound =
      All-append IsSoundForm (between_classes x) (from_clock_pins x ++ flat_map (forms_of x) x.all.exceptions) between-sound
      (All-append IsSoundForm (from_clock_pins x) (flat_map (forms_of x) x.all.exceptions) clock_pins-sound
      (All-concat IsSoundForm (forms_of x) x.all.exceptions
      (λ i d less. (let e = slice_index_or x.all.exceptions i d in
      All-append IsSoundForm (real_form x e) (flat_map (virtual_form x e) (input_classes x)) (real-sound e (sound i d less))
      (All-concat IsSoundForm (virtual_form x e) (input_classes x) (λ j c below. virtual-sound e (slice_index_or (input_classes x) j c) (sound i d less)))))))

  pub commands-read : (arrivals : List ℤ) → ((c : ℕ) → Contains (real_clocks x) c → HasReadTimes (clock_at x.all.clocks c)) → ((k : ℕ) → Contains (port_classes x) k → HasReadTimes (class_clock x.all x.layered k))
      → All (λ n. IsReadTime (input_amount arrivals n)) (input_nodes x.design x.layered x.block) → All (λ n. IsReadTime (output_amount x.all x.layered arrivals n)) (output_nodes x.design x.layered x.block)
      → All (λ e. IsSoundKind e.kind) x.all.exceptions → All IsReadCommand (block_commands x arrivals)
  commands-read arrivals reals virtuals inputs outputs kinds =
      All-append IsReadCommand (clock_commands x) (delay_commands x arrivals ++ exception_commands x)
      (All-append IsReadCommand (map (real_clock x) (real_clocks x)) (map (virtual_clock x) (port_classes x))
      (All-map IsReadCommand (real_clock x) (real_clocks x) (λ i e less. (let times = reals (slice_index_or (real_clocks x) i e) (Contains-get_or (real_clocks x) i e less) in (times.period, times.rise, times.fall))))
      (All-map IsReadCommand (virtual_clock x) (port_classes x) (λ i e less. (let times = virtuals (slice_index_or (port_classes x) i e) (Contains-get_or (port_classes x) i e less) in (times.period, times.rise, times.fall)))))
      (All-append IsReadCommand (delay_commands x arrivals) (exception_commands x)
      (All-append IsReadCommand (map (input_delay x arrivals) (input_nodes x.design x.layered x.block)) (map (output_delay x arrivals) (output_nodes x.design x.layered x.block))
      (All-map IsReadCommand (input_delay x arrivals) (input_nodes x.design x.layered x.block) inputs)
      (All-map IsReadCommand (output_delay x arrivals) (output_nodes x.design x.layered x.block) outputs))
      (All-map IsReadCommand (form_command x) (block_forms x)
      (All-weaker IsSoundForm (λ f. IsReadCommand (form_command x f)) (λ f sound. kind-read f.kind (part_objects x f.from) (part_objects x f.to) sound) (block_forms x) (forms-sound kinds))))
