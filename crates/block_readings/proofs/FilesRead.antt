-- A block's file is accepted of the block's design, and its commands say what the file means.
use Rattle.std.specs.Prelude.{◌≡◌, ℕ, suc, ◌+◌, ◌^◌, ◌<◌, ◌≤◌, ◌==◌, List, [], ◌∷◌, ◌++◌, ℤ, map, length, false, AllPairs, Contains, None, Ok, slice_index_or}
use Rattle.std.specs.List.{list_any}
use Rattle.std.proofs.Common.{refl, sym, ◌∙◌, ap, subst, arith}
use Rattle.std.proofs.lemmas.List.{append-nil, length-append, length-map}
use Rattle.std.proofs.lemmas.List.Elements.{Contains-get_or}
use Rattle.bud_syntax.specs.declared.constraints.SdcCommand.{SdcCommand}
use Rattle.bud_design.specs.declared.policies.NumberedCommand.{NumberedCommand}
use Rattle.bud_design.specs.declared.policies.Policy.{Policy}
use Rattle.bud_design.specs.Arcs.{Arc}
use Rattle.bud_design.specs.Clocks.{IsSoundClock, clock_at}
use Rattle.bud_design.specs.Layers.{class_number}
use Rattle.clock_reach.specs.Reached.{AreReached}
use Rattle.requirements.specs.SoundScopes.{AreSoundClocks}
use Rattle.requirements.proofs.JudgedLaws.{ok-same, then-ok}
use Rattle.requirements.proofs.ScopeLaws.{IsResult, resolved-sound}
use Rattle.timing_objects.specs.Answers.{Answer, ◌>>=◌}
use Rattle.timing_objects.specs.Objects.{Subject}
use Rattle.timing_scopes.specs.declared.scopes.PinDelay.{PinDelay}
use Rattle.timing_scopes.specs.declared.scopes.Scope.{Scope}
use Rattle.timing_scopes.specs.Resolving.{same_place, with_command, resolved_from}
use Rattle.block_theory.specs.BlockClocks.{real_clocks, real_clock, virtual_clock, clock_commands}
use Rattle.block_theory.specs.BlockExceptions.{block_forms, exception_commands}
use Rattle.block_theory.specs.BlockFiles.{input_amount, output_amount, input_delay, output_delay, delay_commands, numbered_from}
use Rattle.block_theory.specs.BlockPorts.{Context, class_clock, node_class, input_nodes, output_nodes, port_classes}
use Rattle.block_theory.specs.Blocks.{IsBlock, through_inside}
use Rattle.block_theory.specs.BlockScopes.{real_as, virtual_as, block_clocks, delay_as, exceptions_from, first_form}
use Rattle.block_laws.specs.LayeredDesigns.{IsLayeredDesign}
use Rattle.block_pieces.specs.Reads.{ReadsAsMeant}
use Rattle.block_pieces.proofs.FileReadings.{class-below}
use Rattle.block_pieces.proofs.Numbering.{filtered-below}
use Rattle.block_names.specs.ClockNames.{NamesDiffer}
use Rattle.block_names.proofs.BlockClockNames.{block-names_differ}
use Rattle.block_names.proofs.ClockNames.{resolved-names}
use Rattle.block_names.proofs.DelayReadings.{inputs-read, outputs-read}
use Rattle.block_names.proofs.FormReadings.{forms-read}
use Rattle.block_names.proofs.FormsReadable.{block_forms-read}
use Rattle.block_readings.proofs.ClockRuns.{reals-read, virtuals-read}
use Rattle.block_readings.proofs.PortNodes.{input-is, output-is, inputs-are, outputs-are, inputs-differ, outputs-differ, few-classes}

-- commands behind others go on from what those say, with the next numbers
run-then : (s : Subject) (cs ds : List SdcCommand) (n : ℕ) (scope mid : Scope) → resolved_from s scope (numbered_from n cs) ≡ Ok mid
    → resolved_from s scope (numbered_from n (cs ++ ds)) ≡ resolved_from s mid (numbered_from (n + length cs) ds)
run-then s [] ds n scope mid e =
    ap (λ (a : Scope). resolved_from s a (numbered_from n ds)) (ok-same scope mid e) ∙ ap (λ k. resolved_from s mid (numbered_from k ds)) (omega arith)
run-then s (c ∷ cs) ds n scope mid e =
    let next = then-ok (with_command s scope n c) (λ scope. resolved_from s scope (numbered_from (suc n) cs)) mid e in
    ap (λ (a : Answer Scope). a >>= λ scope. resolved_from s scope (numbered_from (suc n) (cs ++ ds))) next.1.0
    ∙ (run-then s cs ds (suc n) next.0 mid next.1.1 ∙ ap (λ k. resolved_from s mid (numbered_from k ds)) (omega arith))

module _ (x : Context) (arcs : List Arc) (commands : List NumberedCommand) (policy : Policy) (given : IsLayeredDesign x.design x.timing arcs commands x.all policy x.layered)
    (block_is : IsBlock x.design x.block) (through : through_inside x.design (x.block ∷ []) x.all.exceptions ≡ None) (reached : AreReached x.design 0 x.all.clocks x.reached) where
  abbrev whole : Subject
  whole = record { design = x.design; root = 0; timing = x.timing }

  abbrev s : Subject
  s = record { design = x.design; root = x.block; timing = x.timing }

  result : IsResult whole given.constraints.scope
  result = resolved-sound whole commands given.constraints.scope given.read given.numbers given.constraints.says

  sound : AreSoundClocks whole x.all.clocks
  sound = subst (AreSoundClocks whole) (sym given.constraints.clocks) result.sound.clocks

  top-differ : NamesDiffer x.all.clocks
  top-differ = subst NamesDiffer (sym given.constraints.clocks) (resolved-names whole commands given.constraints.scope given.constraints.says)

  few : length x.layered.classes ≤ 2 ^ 64
  few = few-classes x arcs commands policy given block_is through reached

  differ : NamesDiffer (block_clocks x)
  differ = block-names_differ x top-differ few

  port-below : (k : ℕ) → Contains (port_classes x) k → k < length x.layered.classes
  port-below k has =
      filtered-below (λ k. list_any (λ n. node_class x.layered n == k) (input_nodes x.design x.layered x.block ++ output_nodes x.design x.layered x.block)) (length x.layered.classes) k has

  waves : (k : ℕ) → Contains (port_classes x) k → IsSoundClock (class_clock x.all x.layered k)
  waves k has =
      given.sound.clocks (class_number x.layered.classes k).clock (clock_at [] 0) (class-below x arcs commands policy given block_is through reached k (port-below k has))

  abbrev start : Scope
  start = record { clocks = []; inputs = []; outputs = []; exceptions = [] }

  abbrev reals : List SdcCommand
  reals = map (real_clock x) (real_clocks x)

  abbrev virtuals : List SdcCommand
  virtuals = map (virtual_clock x) (port_classes x)

  clocks-run : resolved_from s start (numbered_from 1 (clock_commands x)) ≡ Ok (record start { clocks = block_clocks x })
  clocks-run =
      let mid : Scope = record start { clocks = map (real_as x) (real_clocks x) } in
      run-then s reals virtuals 1 start mid (reals-read x given.design block_is reached sound differ waves (real_clocks x) [] start 1 refl refl)
      ∙ virtuals-read x given.design block_is reached sound differ waves (port_classes x) [] mid (1 + length reals) refl (sym (append-nil (map (real_as x) (real_clocks x))))

  module _ (arrivals : List ℤ) where
    abbrev inputs : List ℕ
    inputs = input_nodes x.design x.layered x.block

    abbrev outputs : List ℕ
    outputs = output_nodes x.design x.layered x.block

    abbrev input_as : ℕ → PinDelay
    input_as n = delay_as x (input_amount arrivals) n

    abbrev output_as : ℕ → PinDelay
    output_as n = delay_as x (output_amount x.all x.layered arrivals) n

    inputs-apart : AllPairs (λ m k. same_place (input_as k) (input_as m) ≡ false) inputs
    inputs-apart i j d less below = (inputs-differ x arcs commands policy given block_is through reached (input_amount arrivals) i j d less below).1

    outputs-apart : AllPairs (λ m k. same_place (output_as k) (output_as m) ≡ false) outputs
    outputs-apart i j d less below = (outputs-differ x arcs commands policy given block_is through reached (output_amount x.all x.layered arrivals) i j d less below).1

    abbrev timed : Scope
    timed = record { clocks = block_clocks x; inputs = map input_as inputs; outputs = map output_as outputs; exceptions = [] }

    delays-run : (n : ℕ) → resolved_from s (record start { clocks = block_clocks x }) (numbered_from n (delay_commands x arrivals)) ≡ Ok timed
    delays-run n =
        let made : Scope = record start { clocks = block_clocks x } in
        let mid : Scope = record { clocks = block_clocks x; inputs = map input_as inputs; outputs = []; exceptions = [] } in
        run-then s (map (input_delay x arrivals) inputs) (map (output_delay x arrivals) outputs) n made mid
        (inputs-read x given.design block_is top-differ few arrivals inputs [] made n refl refl
        (inputs-are x arcs commands policy given block_is through reached)
        (λ i e less. input-is x arcs commands policy given block_is through reached (slice_index_or inputs i e) (Contains-get_or inputs i e less)) inputs-apart)
        ∙ outputs-read x given.design block_is top-differ few arrivals outputs [] mid (n + length (map (input_delay x arrivals) inputs)) refl refl
        (outputs-are x arcs commands policy given block_is through reached)
        (λ i e less. output-is x arcs commands policy given block_is through reached (slice_index_or outputs i e) (Contains-get_or outputs i e less)) outputs-apart

    -- exceptions have the numbers behind the clocks and the delays
    numbers-are : (1 + length (clock_commands x)) + length (delay_commands x arrivals) ≡ first_form x
    numbers-are =
        let clocks : length (clock_commands x) ≡ length (block_clocks x)
        = length-append reals virtuals
        ∙ omega (
          arith,
          length-map (real_clocks x) (real_clock x),
          length-map (port_classes x) (virtual_clock x),
          length-map (real_clocks x) (real_as x),
          length-map (port_classes x) (virtual_as x),
          length-append (map (real_as x) (real_clocks x)) (map (virtual_as x) (port_classes x)),
        ) in
        let delays : length (delay_commands x arrivals) ≡ length inputs + length outputs
        = length-append (map (input_delay x arrivals) inputs) (map (output_delay x arrivals) outputs)
        ∙ omega (arith, length-map inputs (input_delay x arrivals), length-map outputs (output_delay x arrivals)) in
        omega (arith, clocks, delays)

    pub reads-as_meant : ReadsAsMeant x arrivals
    reads-as_meant =
        let made : Scope = record start { clocks = block_clocks x } in
        let number : ℕ = (1 + length (clock_commands x)) + length (delay_commands x arrivals) in
        run-then s (clock_commands x) (delay_commands x arrivals ++ exception_commands x) 1 start made clocks-run
        ∙ (run-then s (delay_commands x arrivals) (exception_commands x) (1 + length (clock_commands x)) made timed (delays-run (1 + length (clock_commands x)))
        ∙ (forms-read x given.design block_is top-differ few (block_forms x) timed refl number (block_forms-read x)
        ∙ ap (λ k. Ok (record timed { exceptions = exceptions_from x k (block_forms x) })) numbers-are))
