-- A layered design: its paths begin and end at ports of the top or at leaves, and its commands at other amounts give the same but for captures.
use Rattle.std.specs.Prelude.{◌≡◌, ℕ, ◌==◌, nat_lt, pos, true, List, length, Contains}
use Rattle.std.specs.List.{list_any}
use Rattle.std.proofs.Common.{refl, sym, ◌∙◌, ap, subst, inl, inr, eq-eqb}
use Rattle.std.proofs.lemmas.Bool.Decides.{Decides-eqb}
use Rattle.std.proofs.lemmas.List.Elements.{All-contains, All-weaker}
use Rattle.bud_base.specs.declared.ids.PinId.{PinId}
use Rattle.bud_syntax.specs.declared.edges.Edge.TheVariants.{Rise}
use Rattle.bud_design.specs.declared.clocks.Launch.{Launch}
use Rattle.bud_design.specs.declared.clocks.Capture.{Capture}
use Rattle.bud_design.specs.declared.clocks.Constraints.{Constraints}
use Rattle.bud_design.specs.declared.layers.Layered.{Layered}
use Rattle.bud_design.specs.declared.policies.NumberedCommand.{NumberedCommand}
use Rattle.bud_design.specs.declared.policies.Policy.{Policy}
use Rattle.bud_design.specs.declared.timings.Check.{Check}
use Rattle.bud_design.specs.declared.timings.LaunchEdge.{LaunchEdge}
use Rattle.bud_design.specs.declared.timings.Timing.{Timing}
use Rattle.bud_design.specs.Arcs.{Arc}
use Rattle.bud_design.specs.Designs.{Design}
use Rattle.bud_design.specs.Lists.{Lists}
use Rattle.bud_design.specs.Orders.{launch_before, capture_before}
use Rattle.clock_reach.proofs.ReachLaws.{any-place, place-any}
use Rattle.requirements.specs.Constraining.{IsLaunch, IsCapture, IsUnclocked, AreConstraints}
use Rattle.requirements.specs.SoundScopes.{IsDelayAs}
use Rattle.requirements.proofs.JudgedLaws.{ok-same}
use Rattle.requirements.proofs.ScopeLaws.{IsResult, resolved-sound}
use Rattle.requirements.proofs.SourceLaws.{input-top, output-top}
use Rattle.timing_laws.proofs.OneTables.{launches-same, pins-same, Constraints-same}
use Rattle.timing_objects.specs.declared.things.Role.TheVariants.{Input, Output}
use Rattle.timing_objects.specs.Objects.{Subject}
use Rattle.timing_scopes.specs.declared.scopes.Scope.{Scope}
use Rattle.block_theory.specs.Composition.{AmountsKept}
use Rattle.block_theory.specs.Meeting.{Numbers, subject_with}
use Rattle.block_laws.specs.LayeredDesigns.{IsLayeredDesign}
use Rattle.block_laws.specs.Meeting.{with_captures, AskAlike}
use Rattle.block_laws.specs.Standing.{IsLeafPin, LaunchStands, CaptureStands, PathsStand}
use Rattle.block_laws.proofs.AmountsAlike.{AskAlike-amounts}
use Rattle.block_laws.proofs.ResolvedAlike.{resolved-same}

module _ (d : Design) (t : Timing) (arcs : List Arc) (commands : List NumberedCommand) (all : Constraints) (policy : Policy) (layered : Layered) (given : IsLayeredDesign d t arcs commands all policy layered) where
  abbrev whole : Subject
  whole = record { design = d; root = 0; timing = t }

  result : IsResult whole given.constraints.scope
  result = resolved-sound whole commands given.constraints.scope given.read given.numbers given.constraints.says

  clocked-edge : (v : PinId) (xs : List LaunchEdge) (e : LaunchEdge) → Contains xs e → e.pin ≡ v → list_any (λ x. x.pin.0 == v.0) xs ≡ true
  clocked-edge v xs e has same =
      place-any (λ (x : LaunchEdge). x.pin.0 == v.0) e xs has.0 has.1 (eq-eqb _ v.0 (ap (λ (x : LaunchEdge). x.pin.0) has.2 ∙ ap (λ (p : PinId). p.0) same))

  checked-check : (v : PinId) (xs : List Check) (c : Check) → Contains xs c → c.pin ≡ v → list_any (λ x. x.pin.0 == v.0) xs ≡ true
  checked-check v xs c has same =
      place-any (λ (x : Check). x.pin.0 == v.0) c xs has.0 has.1 (eq-eqb _ v.0 (ap (λ (x : Check). x.pin.0) has.2 ∙ ap (λ (p : PinId). p.0) same))

  launch-stands : (l : Launch) → IsLaunch whole given.constraints.scope l → LaunchStands d t l
  launch-stands l (inl port) =
      let as_input = All-contains (IsDelayAs whole Input (length given.constraints.scope.clocks)) given.constraints.scope.inputs (record { pin = l.pin; clock = l.clock; edge = l.edge; amount = l.offset }) result.sound.inputs.each port in
      inl (input-top d given.design t l.pin.0 as_input.pin.may_be)
  launch-stands l (inr clock) = inr (record { clocked = clocked-edge l.pin t.edges (record { pin = l.pin; edge = l.edge }) clock.edge refl; offset = clock.offset })

  capture-stands : (x : Capture) → IsCapture whole given.constraints.scope x → CaptureStands d t x
  capture-stands x (inl port) =
      let as_output = All-contains (IsDelayAs whole Output (length given.constraints.scope.clocks)) given.constraints.scope.outputs (record { pin = x.pin; clock = x.clock; edge = x.edge; amount = x.amount }) result.sound.outputs.each port in
      inl (output-top d given.design t x.pin.0 as_output.pin.may_be)
  capture-stands x (inr check) = inr (checked-check x.pin t.checks (record { pin = x.pin; clock = check.clock_pin; edge = x.edge; amount = x.amount }) check.check refl)

  pub PathsStand-given : PathsStand d t all
  PathsStand-given = record {
    launches = All-weaker (IsLaunch whole given.constraints.scope) (LaunchStands d t) launch-stands all.launches given.constraints.launches.sound;
    captures = All-weaker (IsCapture whole given.constraints.scope) (CaptureStands d t) capture-stands all.captures given.constraints.captures.sound;
    clocked = λ v is.
        (let e : LaunchEdge = record { pin = record { 0 = v }; edge = Rise } in
        let found = any-place (λ (x : LaunchEdge). x.pin.0 == v) e t.edges is in
        subst (IsLeafPin d) ((Decides-eqb _ v).0 found.2) (given.leaves.edges found.0 e found.1));
    checked = λ v is.
        (let c : Check = record { pin = record { 0 = v }; clock = record { 0 = v }; edge = Rise; amount = pos 0 } in
        let found = any-place (λ (x : Check). x.pin.0 == v) c t.checks is in
        subst (IsLeafPin d) ((Decides-eqb _ v).0 found.2) (given.leaves.checks found.0 c found.1));
  }

  module _ (n : Numbers) (size : length n.amounts ≡ length t.checks) (top : Constraints) (are : AreConstraints (subject_with d 0 t n) commands top) where
    abbrev held : Subject
    held = subject_with d 0 t n

    scope-same : are.scope ≡ given.constraints.scope
    scope-same = sym (ok-same given.constraints.scope are.scope (sym given.constraints.says ∙ (sym (resolved-same d 0 t n size commands) ∙ are.says)))

    to-read : (scope : Scope) (l : Launch) → IsLaunch held scope l → IsLaunch whole scope l
    to-read scope l (inl port) = inl port
    to-read scope l (inr clock) = inr (record { within = clock.within; edge = clock.edge; reached = clock.reached; offset = clock.offset })

    to-held : (scope : Scope) (l : Launch) → IsLaunch whole scope l → IsLaunch held scope l
    to-held scope l (inl port) = inl port
    to-held scope l (inr clock) = inr (record { within = clock.within; edge = clock.edge; reached = clock.reached; offset = clock.offset })

    launches-here : Lists launch_before (IsLaunch held given.constraints.scope) top.launches
    launches-here = subst (λ (s : Scope). Lists launch_before (IsLaunch held s) top.launches) scope-same are.launches

    launches-read : Lists launch_before (IsLaunch whole given.constraints.scope) top.launches
    launches-read = record {
      rising = launches-here.rising;
      sound = All-weaker (IsLaunch held given.constraints.scope) (IsLaunch whole given.constraints.scope) (to-read given.constraints.scope) top.launches launches-here.sound;
      complete = λ l is. launches-here.complete l (to-held given.constraints.scope l is);
    }

    unclocked-to : (scope : Scope) (v : PinId) → IsUnclocked held scope v → IsUnclocked whole scope v
    unclocked-to scope v is = record { within = is.within; edge = is.edge; clock_pin = is.clock_pin; unreached = is.unreached }

    unclocked-from : (scope : Scope) (v : PinId) → IsUnclocked whole scope v → IsUnclocked held scope v
    unclocked-from scope v is = record { within = is.within; edge = is.edge; clock_pin = is.clock_pin; unreached = is.unreached }

    unclocked-here : Lists (λ v w. nat_lt v.0 w.0) (IsUnclocked held given.constraints.scope) top.unclocked
    unclocked-here = subst (λ (s : Scope). Lists (λ v w. nat_lt v.0 w.0) (IsUnclocked held s) top.unclocked) scope-same are.unclocked

    unclocked-read : Lists (λ v w. nat_lt v.0 w.0) (IsUnclocked whole given.constraints.scope) top.unclocked
    unclocked-read = record {
      rising = unclocked-here.rising;
      sound = All-weaker (IsUnclocked held given.constraints.scope) (IsUnclocked whole given.constraints.scope) (unclocked-to given.constraints.scope) top.unclocked unclocked-here.sound;
      complete = λ v is. unclocked-here.complete v (unclocked-from given.constraints.scope v is);
    }

    pub captures-here : Lists capture_before (IsCapture held given.constraints.scope) top.captures
    captures-here = subst (λ (s : Scope). Lists capture_before (IsCapture held s) top.captures) scope-same are.captures

    -- the constraints at these amounts are those as read, but for the captures
    pub top-same : top ≡ with_captures all top.captures
    top-same =
        Constraints-same top (with_captures all top.captures)
        (are.clocks ∙ (ap (λ (s : Scope). s.clocks) scope-same ∙ sym given.constraints.clocks))
        (launches-same (IsLaunch whole given.constraints.scope) top.launches all.launches launches-read given.constraints.launches)
        refl
        (are.exceptions ∙ (ap (λ (s : Scope). s.exceptions) scope-same ∙ sym given.constraints.exceptions))
        (pins-same (IsUnclocked whole given.constraints.scope) top.unclocked all.unclocked unclocked-read given.constraints.unclocked)

    pub AskAlike-given : (blocks : List ℕ) → AmountsKept d t blocks n → AskAlike d all top.captures blocks
    AskAlike-given blocks kept = AskAlike-amounts d t n size blocks kept given.constraints.scope all top.captures given.constraints.captures captures-here
