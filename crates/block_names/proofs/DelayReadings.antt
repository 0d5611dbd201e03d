-- The port delays of a block's file are accepted, and each adds its own.
use Rattle.std.specs.Prelude.{◌≡◌, ℕ, suc, ◌-◌, ◌^◌, ◌≤◌, ℤ, true, false, List, [], ◌∷◌, ◌++◌, map, length, All, AllPairs, Ok, slice_index_or}
use Rattle.std.specs.List.{list_any}
use Rattle.std.proofs.Common.{refl, sym, ◌∙◌, ap, subst, arith}
use Rattle.std.proofs.lemmas.List.{append_assoc, append-nil, map-append, length-append, get_or_append_left, get_or-append_right}
use Rattle.std.proofs.lemmas.List.Elements.{All-head, All-tail, All-map}
use Rattle.std.proofs.lemmas.List.Folds.{list_any_none}
use Rattle.bud_syntax.specs.declared.constraints.Object.TheVariants.{Ports}
use Rattle.bud_design.specs.Designs.{pin_name}
use Rattle.bud_design.specs.DesignRules.{IsDesign}
use Rattle.bud_design.specs.Layers.{class_number}
use Rattle.timing_objects.specs.declared.things.Role.{Role}
use Rattle.timing_objects.specs.declared.things.Role.TheVariants.{Input, Output}
use Rattle.timing_objects.specs.declared.things.Thing.{Thing}
use Rattle.timing_objects.specs.Answers.{Answer, ◌>>=◌}
use Rattle.timing_objects.specs.Objects.{Subject, a_pin, may_be, is_free, things_in}
use Rattle.timing_scopes.specs.declared.scopes.PinDelay.{PinDelay}
use Rattle.timing_scopes.specs.declared.scopes.Scope.{Scope}
use Rattle.timing_scopes.specs.Resolving.{same_place, pins_named, new_delays, with_command, resolved_from}
use Rattle.block_theory.specs.BlockClocks.{virtual_name}
use Rattle.block_theory.specs.BlockFiles.{input_amount, output_amount, input_delay, output_delay, numbered_from}
use Rattle.block_theory.specs.BlockPorts.{Context, node_at, node_class}
use Rattle.block_theory.specs.Blocks.{IsBlock, is_input_of, is_output_of}
use Rattle.block_theory.specs.BlockScopes.{block_clocks, delay_as}
use Rattle.block_names.specs.ClockNames.{NamesDiffer}
use Rattle.block_names.proofs.BlockClockNames.{virtual-called}
use Rattle.block_names.proofs.NamesBelow.{port-means}
use Rattle.block_names.specs.PartReadings.{IsDelayNode}

module _ (x : Context) (design : IsDesign x.design) (block : IsBlock x.design x.block) (differ : NamesDiffer x.all.clocks) (few : length x.layered.classes ≤ 2 ^ 64) where
  abbrev s : Subject
  s = record { design = x.design; root = x.block; timing = x.timing }

  module _ (role : Role) (free : (t : Thing) → is_free role (block_clocks x) t ≡ true) (amount : ℕ → ℤ) where
    abbrev pin_of : ℕ → ℕ
    pin_of n = (node_at x.layered.nodes n).pin.0

    port-thing : (n : ℕ) → IsDelayNode x n → may_be s role (a_pin (pin_of n)) ≡ true → things_in s role (block_clocks x) (Ports (pin_name x.design x.block (pin_of n))) ≡ Ok (a_pin (pin_of n) ∷ [])
    port-thing n is may =
        rw (port-means x.design design x.block block (pin_of n) is.below is.place, may, free (a_pin (pin_of n))) refl

    port-pins : (n : ℕ) → IsDelayNode x n → may_be s role (a_pin (pin_of n)) ≡ true → pins_named s role (block_clocks x) (Ports (pin_name x.design x.block (pin_of n)) ∷ []) ≡ Ok ((node_at x.layered.nodes n).pin ∷ [])
    port-pins n is may = rw (port-thing n is may) refl

    -- a delay at a place without one is added
    delay-step : (delays : List PinDelay) (n : ℕ) → IsDelayNode x n → may_be s role (a_pin (pin_of n)) ≡ true → list_any (same_place (delay_as x amount n)) delays ≡ false
        → new_delays s role (block_clocks x) delays (amount n) (virtual_name x (node_class x.layered n)) (class_number x.layered.classes (node_class x.layered n)).edge true true
        (Ports (pin_name x.design x.block (pin_of n)) ∷ []) ≡ Ok (delays ++ delay_as x amount n ∷ [])
    delay-step delays n is may none = rw (virtual-called x differ few (node_class x.layered n) is.«class», port-pins n is may, none) refl

    -- no earlier delay stands at the place of the next
    none-before : (ps : List ℕ) (n : ℕ) (ns : List ℕ) → AllPairs (λ m k. same_place (delay_as x amount k) (delay_as x amount m) ≡ false) (ps ++ n ∷ ns)
        → list_any (same_place (delay_as x amount n)) (map (delay_as x amount) ps) ≡ false
    none-before ps n ns apart =
        list_any_none (same_place (delay_as x amount n)) (map (delay_as x amount) ps)
        (All-map (λ (d : PinDelay). same_place (delay_as x amount n) d ≡ false) (delay_as x amount) ps
        (λ i e below.
        (let first = get_or_append_left ps (n ∷ ns) e i below in
        let zero_at : length ps - length ps ≡ 0 = omega arith in
        let second : slice_index_or (ps ++ n ∷ ns) (length ps) e ≡ n = get_or-append_right ps (n ∷ ns) (length ps) (length ps) e refl (omega arith) ∙ ap (λ j. slice_index_or (n ∷ ns) j e) zero_at in
        subst (λ k. same_place (delay_as x amount k) (delay_as x amount (slice_index_or ps i e)) ≡ false) second
        (subst (λ m. same_place (delay_as x amount (slice_index_or (ps ++ n ∷ ns) (length ps) e)) (delay_as x amount m) ≡ false) first
        (apart i (length ps) e below (omega (arith, length-append ps (n ∷ ns))))))))

  -- ---- input delays, one after the other
  pub inputs-read : (arrivals : List ℤ) (ns ps : List ℕ) (scope : Scope) (number : ℕ) → scope.clocks ≡ block_clocks x → scope.inputs ≡ map (delay_as x (input_amount arrivals)) ps
      → All (IsDelayNode x) ns → All (λ n. is_input_of x.design x.block (node_at x.layered.nodes n).pin.0 ≡ true) ns
      → AllPairs (λ m k. same_place (delay_as x (input_amount arrivals) k) (delay_as x (input_amount arrivals) m) ≡ false) (ps ++ ns)
      → resolved_from s scope (numbered_from number (map (input_delay x arrivals) ns)) ≡ Ok (record scope { inputs = map (delay_as x (input_amount arrivals)) (ps ++ ns) })
  inputs-read arrivals [] ps scope number clocks inputs are may apart = ap (λ is. Ok (record scope { inputs = is })) (inputs ∙ ap (map (delay_as x (input_amount arrivals))) (sym (append-nil ps)))
  inputs-read arrivals (n ∷ ns) ps scope number clocks inputs are may apart =
      let f = delay_as x (input_amount arrivals) in
      let none = none-before Input (λ t. refl) (input_amount arrivals) ps n ns apart in
      let step = delay-step Input (λ t. refl) (input_amount arrivals) (map f ps) n (All-head (IsDelayNode x) n ns are) (All-head (λ n. is_input_of x.design x.block (node_at x.layered.nodes n).pin.0 ≡ true) n ns may) none in
      let here : with_command s scope number (input_delay x arrivals n) ≡ Ok (record scope { inputs = map f ps ++ f n ∷ [] }) = rw (clocks, inputs, step) refl in
      let more : map f ps ++ f n ∷ [] ≡ map f (ps ++ n ∷ []) = sym (map-append f ps (n ∷ [])) in
      let assoc : (ps ++ n ∷ []) ++ ns ≡ ps ++ n ∷ ns = append_assoc ps (n ∷ []) ns in
      ap (λ (a : Answer Scope). a >>= λ next. resolved_from s next (numbered_from (suc number) (map (input_delay x arrivals) ns))) here
      ∙ (inputs-read arrivals ns (ps ++ n ∷ []) (record scope { inputs = map f ps ++ f n ∷ [] }) (suc number) clocks more (All-tail (IsDelayNode x) n ns are)
      (All-tail (λ n. is_input_of x.design x.block (node_at x.layered.nodes n).pin.0 ≡ true) n ns may)
      (subst (AllPairs (λ m k. same_place (delay_as x (input_amount arrivals) k) (delay_as x (input_amount arrivals) m) ≡ false)) (sym assoc) apart)
      ∙ ap (λ ms. Ok (record scope { inputs = map f ms })) assoc)

  -- ---- output delays
  pub outputs-read : (arrivals : List ℤ) (ns ps : List ℕ) (scope : Scope) (number : ℕ) → scope.clocks ≡ block_clocks x → scope.outputs ≡ map (delay_as x (output_amount x.all x.layered arrivals)) ps
      → All (IsDelayNode x) ns → All (λ n. is_output_of x.design x.block (node_at x.layered.nodes n).pin.0 ≡ true) ns
      → AllPairs (λ m k. same_place (delay_as x (output_amount x.all x.layered arrivals) k) (delay_as x (output_amount x.all x.layered arrivals) m) ≡ false) (ps ++ ns)
      → resolved_from s scope (numbered_from number (map (output_delay x arrivals) ns)) ≡ Ok (record scope { outputs = map (delay_as x (output_amount x.all x.layered arrivals)) (ps ++ ns) })
  outputs-read arrivals [] ps scope number clocks outputs are may apart =
      ap (λ is. Ok (record scope { outputs = is })) (outputs ∙ ap (map (delay_as x (output_amount x.all x.layered arrivals))) (sym (append-nil ps)))
  outputs-read arrivals (n ∷ ns) ps scope number clocks outputs are may apart =
      let f = delay_as x (output_amount x.all x.layered arrivals) in
      let none = none-before Output (λ t. refl) (output_amount x.all x.layered arrivals) ps n ns apart in
      let step = delay-step Output (λ t. refl) (output_amount x.all x.layered arrivals) (map f ps) n (All-head (IsDelayNode x) n ns are) (All-head (λ n. is_output_of x.design x.block (node_at x.layered.nodes n).pin.0 ≡ true) n ns may) none in
      let here : with_command s scope number (output_delay x arrivals n) ≡ Ok (record scope { outputs = map f ps ++ f n ∷ [] }) = rw (clocks, outputs, step) refl in
      let more : map f ps ++ f n ∷ [] ≡ map f (ps ++ n ∷ []) = sym (map-append f ps (n ∷ [])) in
      let assoc : (ps ++ n ∷ []) ++ ns ≡ ps ++ n ∷ ns = append_assoc ps (n ∷ []) ns in
      ap (λ (a : Answer Scope). a >>= λ next. resolved_from s next (numbered_from (suc number) (map (output_delay x arrivals) ns))) here
      ∙ (outputs-read arrivals ns (ps ++ n ∷ []) (record scope { outputs = map f ps ++ f n ∷ [] }) (suc number) clocks more (All-tail (IsDelayNode x) n ns are)
      (All-tail (λ n. is_output_of x.design x.block (node_at x.layered.nodes n).pin.0 ≡ true) n ns may)
      (subst (AllPairs (λ m k. same_place (delay_as x (output_amount x.all x.layered arrivals) k) (delay_as x (output_amount x.all x.layered arrivals) m) ≡ false)) (sym assoc) apart)
      ∙ ap (λ ms. Ok (record scope { outputs = map f ms })) assoc)
