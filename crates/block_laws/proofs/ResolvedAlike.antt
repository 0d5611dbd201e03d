-- Commands say the same whatever the setup amounts.
use Rattle.std.specs.Prelude.{◌≡◌, ℕ, ◌==◌, ◌||◌, ℤ, Bool, true, List, [], ◌∷◌, ◌++◌, map, filter, flat_map, length, Option, Some, None, Ok, Err, ok_or, if◌then◌else◌}
use Rattle.std.specs.List.{list_any, list_all}
use Rattle.std.proofs.Common.{refl, sym, ◌∙◌, ap, arith}
use Rattle.std.proofs.lemmas.List.Concat.{flat_map-cons}
use Rattle.bud_base.specs.declared.ids.PinId.{PinId}
use Rattle.bud_syntax.specs.declared.edges.Edge.{Edge}
use Rattle.bud_syntax.specs.declared.constraints.Object.{Object}
use Rattle.bud_syntax.specs.declared.constraints.Object.TheVariants.{Ports, Pins, Cells, Clocks, Any, AllInputs, AllOutputs, AllClocks}
use Rattle.bud_syntax.specs.declared.constraints.SdcCommand.{SdcCommand}
use Rattle.bud_syntax.specs.declared.constraints.SdcCommand.TheVariants as command
use Rattle.bud_design.specs.declared.clocks.Clock.{Clock}
use Rattle.bud_design.specs.declared.clocks.ExceptionKind.{ExceptionKind}
use Rattle.bud_design.specs.declared.clocks.ExceptionKind.TheVariants.{FalsePath, Multicycle, MaxDelay}
use Rattle.bud_design.specs.declared.policies.NumberedCommand.{NumberedCommand}
use Rattle.bud_design.specs.declared.timings.Check.{Check}
use Rattle.bud_design.specs.declared.timings.Timing.{Timing}
use Rattle.bud_design.specs.Designs.{Design, bits_of}
use Rattle.timing_objects.specs.declared.faults.ResolveFault.TheVariants.{ClockTwice, BadWaveform}
use Rattle.timing_objects.specs.declared.things.Role.{Role}
use Rattle.timing_objects.specs.declared.things.Role.TheVariants.{Source, Input, Output, Start, End, Through}
use Rattle.timing_objects.specs.declared.things.Thing.{Thing}
use Rattle.timing_objects.specs.declared.things.Thing.TheVariants as thing
use Rattle.timing_objects.specs.Answers.{Answer, ◌>>=◌, each}
use Rattle.timing_objects.specs.Objects.{Subject, is_output_bit, may_be, meant, unknown, misfit, judged, is_free, object_text, things_in, is_meant_by_cell, pins_in, clocks_in, marks_of}
use Rattle.timing_scopes.specs.declared.scopes.PinDelay.{PinDelay}
use Rattle.timing_scopes.specs.declared.scopes.Scope.{Scope}
use Rattle.timing_scopes.specs.Resolving.{clock_of, pins_named, delayed, is_waveform, unless_called, new_clock, part_of, group_of, new_exception, with_exception, new_delays, with_command, resolved_from, resolved}
use Rattle.block_theory.specs.Meeting.{Numbers, with_amounts, subject_with}

checked-same : (xs : List Check) (zs : List ℤ) (v : ℕ) → length zs ≡ length xs → list_any (λ x. x.pin.0 == v) (with_amounts xs zs) ≡ list_any (λ x. x.pin.0 == v) xs
checked-same [] zs v size = refl
checked-same (x ∷ xs) [] v size = absurd (omega (arith, size))
checked-same (x ∷ xs) (z ∷ zs) v size = ap (λ b. x.pin.0 == v || b) (checked-same xs zs v (omega (arith, size)))

then-same : {A B : Type 0} (m n : Answer A) (f g : A → Answer B) → m ≡ n → ((x : A) → f x ≡ g x) → (m >>= f) ≡ (n >>= g)
then-same {A} {B} m n f g same each_same = ap (λ a. a >>= f) same ∙ onward n
  where
    onward : (a : Answer A) → (a >>= f) ≡ (a >>= g)
    onward (Ok x) = each_same x
    onward (Err fault) = refl

each-same : {A B : Type 0} (f g : A → Answer (List B)) (xs : List A) → ((x : A) → f x ≡ g x) → each f xs ≡ each g xs
each-same f g [] same = refl
each-same f g (x ∷ xs) same =
    then-same (f x) (g x) (λ found. each f xs >>= λ others. Ok (found ++ others)) (λ found. each g xs >>= λ others. Ok (found ++ others)) (same x)
    (λ found. then-same (each f xs) (each g xs) (λ others. Ok (found ++ others)) (λ others. Ok (found ++ others)) (each-same f g xs same) (λ others. refl))

all-same : (p q : Thing → Bool) (xs : List Thing) → ((x : Thing) → p x ≡ q x) → list_all p xs ≡ list_all q xs
all-same p q [] same = refl
all-same p q (x ∷ xs) same = rw (same x, all-same p q xs same) refl

filter-same : (p q : ℕ → Bool) (xs : List ℕ) → ((x : ℕ) → p x ≡ q x) → filter p xs ≡ filter q xs
filter-same p q [] same = refl
filter-same p q (x ∷ xs) same = rw (same x, filter-same p q xs same) refl

concat-same : (f g : Thing → List PinId) (xs : List Thing) → ((x : Thing) → f x ≡ g x) → flat_map f xs ≡ flat_map g xs
concat-same f g [] same = refl
concat-same f g (x ∷ xs) same = flat_map-cons f x xs ∙ (rw (same x, concat-same f g xs same) (sym (flat_map-cons g x xs)))

module _ (d : Design) (root : ℕ) (t : Timing) (n : Numbers) (size : length n.amounts ≡ length t.checks) where
  abbrev read : Subject
  read = record { design = d; root = root; timing = t }

  abbrev held : Subject
  held = subject_with d root t n

  may_be-same : (role : Role) (x : Thing) → may_be held role x ≡ may_be read role x
  may_be-same Source (thing.Pin v) = refl
  may_be-same Input (thing.Pin v) = refl
  may_be-same Output (thing.Pin v) = refl
  may_be-same Start (thing.Pin v) = refl
  may_be-same End (thing.Pin v) = ap (λ b. is_output_bit read v.0 || b) (checked-same t.checks n.amounts v.0 size)
  may_be-same Through (thing.Pin v) = refl
  may_be-same role (thing.Cell p) = refl
  may_be-same role (thing.Clock c) = refl

  meant-same : (role : Role) (clocks : List Clock) (o : Object) → meant held role clocks o ≡ meant read role clocks o
  meant-same role clocks (Ports name) = refl
  meant-same role clocks (Pins name) = refl
  meant-same role clocks (Cells name) = refl
  meant-same role clocks (Clocks name) = refl
  meant-same Source clocks (Any name) = refl
  meant-same Input clocks (Any name) = refl
  meant-same Output clocks (Any name) = refl
  meant-same Start clocks (Any name) = refl
  meant-same End clocks (Any name) = refl
  meant-same Through clocks (Any name) = refl
  meant-same role clocks AllInputs = refl
  meant-same role clocks AllOutputs = refl
  meant-same role clocks AllClocks = refl

  things-same : (role : Role) (clocks : List Clock) (o : Object) → things_in held role clocks o ≡ things_in read role clocks o
  things-same role clocks o =
      then-same (ok_or (meant held role clocks o) (unknown o)) (ok_or (meant read role clocks o) (unknown o))
      (λ things. judged (may_be held role) (misfit role (object_text o)) things >>= λ xs. judged (is_free role clocks) (ClockTwice (object_text o)) xs)
      (λ things. judged (may_be read role) (misfit role (object_text o)) things >>= λ xs. judged (is_free role clocks) (ClockTwice (object_text o)) xs)
      (ap (λ m. ok_or m (unknown o)) (meant-same role clocks o))
      (λ things. ap (λ b. (if b then Ok things else Err (misfit role (object_text o))) >>= λ xs. judged (is_free role clocks) (ClockTwice (object_text o)) xs)
      (all-same (may_be held role) (may_be read role) things (may_be-same role)))

  cell-same : (role : Role) (v : ℕ) → is_meant_by_cell held role v ≡ is_meant_by_cell read role v
  cell-same Source v = refl
  cell-same Input v = refl
  cell-same Output v = refl
  cell-same Start v = refl
  cell-same End v = checked-same t.checks n.amounts v size
  cell-same Through v = refl

  pins-same : (role : Role) (x : Thing) → pins_in held role x ≡ pins_in read role x
  pins-same role (thing.Pin v) = refl
  pins-same role (thing.Cell p) = ap (map (λ v. record { 0 = v })) (filter-same (is_meant_by_cell held role) (is_meant_by_cell read role) (bits_of d p) (cell-same role))
  pins-same role (thing.Clock c) = refl

  named-same : (role : Role) (clocks : List Clock) (objects : List Object) → pins_named held role clocks objects ≡ pins_named read role clocks objects
  named-same role clocks objects =
      then-same (each (things_in held role clocks) objects) (each (things_in read role clocks) objects)
      (λ things. Ok (flat_map (pins_in held role) things)) (λ things. Ok (flat_map (pins_in read role) things))
      (each-same (things_in held role clocks) (things_in read role clocks) objects (things-same role clocks))
      (λ things. ap (λ ps. Ok ps) (concat-same (pins_in held role) (pins_in read role) things (pins-same role)))

  part-same : (role : Role) (clocks : List Clock) (part : Option (List Object)) → part_of held role clocks part ≡ part_of read role clocks part
  part-same role clocks None = refl
  part-same role clocks (Some objects) =
      then-same (each (things_in held role clocks) objects) (each (things_in read role clocks) objects)
      (λ things. Ok (Some (marks_of held role things))) (λ things. Ok (Some (marks_of read role things)))
      (each-same (things_in held role clocks) (things_in read role clocks) objects (things-same role clocks))
      (λ things. ap (λ ps. Ok (Some (record { pins = ps; clocks = flat_map clocks_in things }))) (concat-same (pins_in held role) (pins_in read role) things (pins-same role)))

  group-same : (clocks : List Clock) (objects : List Object) → group_of held clocks objects ≡ group_of read clocks objects
  group-same clocks objects = ap (λ a. a >>= λ pins. Ok (pins ∷ [])) (named-same Through clocks objects)

  exception-same : (clocks : List Clock) (number : ℕ) (kind : ExceptionKind) (from : Option (List Object)) (groups : List (List Object)) (to : Option (List Object))
      → new_exception held clocks number kind from groups to ≡ new_exception read clocks number kind from groups to
  exception-same clocks number kind from groups to =
      then-same (part_of held Start clocks from) (part_of read Start clocks from)
      (λ start. each (group_of held clocks) groups >>= λ pins. part_of held End clocks to >>= λ end. Ok (record { number = number; kind = kind; from = start; groups = pins; to = end }))
      (λ start. each (group_of read clocks) groups >>= λ pins. part_of read End clocks to >>= λ end. Ok (record { number = number; kind = kind; from = start; groups = pins; to = end }))
      (part-same Start clocks from)
      (λ start. then-same (each (group_of held clocks) groups) (each (group_of read clocks) groups)
      (λ pins. part_of held End clocks to >>= λ end. Ok (record { number = number; kind = kind; from = start; groups = pins; to = end }))
      (λ pins. part_of read End clocks to >>= λ end. Ok (record { number = number; kind = kind; from = start; groups = pins; to = end }))
      (each-same (group_of held clocks) (group_of read clocks) groups (group-same clocks))
      (λ pins. ap (λ a. a >>= λ end. Ok (record { number = number; kind = kind; from = start; groups = pins; to = end })) (part-same End clocks to)))

  delays-same : (role : Role) (clocks : List Clock) (delays : List PinDelay) (amount : ℤ) (clock : List ℕ) (edge : Edge) (setup add : Bool) (ports : List Object)
      → new_delays held role clocks delays amount clock edge setup add ports ≡ new_delays read role clocks delays amount clock edge setup add ports
  delays-same role clocks delays amount clock edge setup add ports =
      then-same (clock_of clocks clock) (clock_of clocks clock)
      (λ c. pins_named held role clocks ports >>= λ pins. Ok (if setup then delayed add pins c edge amount delays else delays))
      (λ c. pins_named read role clocks ports >>= λ pins. Ok (if setup then delayed add pins c edge amount delays else delays)) refl
      (λ c. ap (λ a. a >>= λ pins. Ok (if setup then delayed add pins c edge amount delays else delays)) (named-same role clocks ports))

  clock-same : (clocks : List Clock) (name : List ℕ) (period rise fall : ℤ) (sources : List Object) → new_clock held clocks name period rise fall sources ≡ new_clock read clocks name period rise fall sources
  clock-same clocks name period rise fall sources =
      then-same (unless_called clocks name) (unless_called clocks name)
      (λ cs. pins_named held Source cs sources >>= λ pins. if is_waveform period rise fall then Ok (record { name = name; period = period; rise = rise; fall = fall; sources = pins }) else Err (BadWaveform name))
      (λ cs. pins_named read Source cs sources >>= λ pins. if is_waveform period rise fall then Ok (record { name = name; period = period; rise = rise; fall = fall; sources = pins }) else Err (BadWaveform name)) refl
      (λ cs. ap (λ a. a >>= λ pins. if is_waveform period rise fall then Ok (record { name = name; period = period; rise = rise; fall = fall; sources = pins }) else Err (BadWaveform name)) (named-same Source cs sources))

  with_exception-same : (scope : Scope) (setup : Bool) (number : ℕ) (kind : ExceptionKind) (from : Option (List Object)) (groups : List (List Object)) (to : Option (List Object))
      → with_exception held scope setup number kind from groups to ≡ with_exception read scope setup number kind from groups to
  with_exception-same scope setup number kind from groups to =
      ap (λ a. a >>= λ e. Ok (if setup then record scope { exceptions = scope.exceptions ++ e ∷ [] } else scope)) (exception-same scope.clocks number kind from groups to)

  command-same : (scope : Scope) (number : ℕ) (c : SdcCommand) → with_command held scope number c ≡ with_command read scope number c
  command-same scope number (command.Clock name period rise fall sources) =
      ap (λ a. a >>= λ clock. Ok (record scope { clocks = scope.clocks ++ clock ∷ [] })) (clock-same scope.clocks name period rise fall sources)
  command-same scope number (command.InputDelay amount clock edge setup add ports) =
      ap (λ a. a >>= λ inputs. Ok (record scope { inputs = inputs })) (delays-same Input scope.clocks scope.inputs amount clock edge setup add ports)
  command-same scope number (command.OutputDelay amount clock edge setup add ports) =
      ap (λ a. a >>= λ outputs. Ok (record scope { outputs = outputs })) (delays-same Output scope.clocks scope.outputs amount clock edge setup add ports)
  command-same scope number (command.FalsePath setup from through to) = with_exception-same scope setup number FalsePath from through to
  command-same scope number (command.Multicycle count setup by_launch from through to) = with_exception-same scope setup number (Multicycle count by_launch) from through to
  command-same scope number (command.MaxDelay amount from through to) = with_exception-same scope true number (MaxDelay amount) from through to

  from-same : (scope : Scope) (cs : List NumberedCommand) → resolved_from held scope cs ≡ resolved_from read scope cs
  from-same scope [] = refl
  from-same scope (c ∷ cs) =
      then-same (with_command held scope c.number c.command) (with_command read scope c.number c.command) (λ s. resolved_from held s cs) (λ s. resolved_from read s cs)
      (command-same scope c.number c.command) (λ s. from-same s cs)

  pub resolved-same : (commands : List NumberedCommand) → resolved held commands ≡ resolved read commands
  resolved-same commands = from-same (record { clocks = []; inputs = []; outputs = []; exceptions = [] }) commands
