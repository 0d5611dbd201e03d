-- The piece law of a block's file, once its commands say what the file means.
use Rattle.std.specs.Prelude.{◌≡◌, ℤ, List, [], ◌∷◌, None}
use Rattle.std.proofs.Common.{true≢false, sym, ◌∙◌, subst, arith}
use Rattle.bud_design.specs.declared.clocks.Constraints.{Constraints}
use Rattle.bud_design.specs.declared.policies.NumberedCommand.{NumberedCommand}
use Rattle.bud_design.specs.declared.policies.Policy.{Policy}
use Rattle.bud_design.specs.Arcs.{Arc}
use Rattle.bud_design.specs.Designs.{pin_at}
use Rattle.bud_design.proofs.Lineages.{is_inside-top}
use Rattle.clock_reach.specs.Reached.{AreReached}
use Rattle.requirements.proofs.JudgedLaws.{ok-same}
use Rattle.block_theory.specs.BlockFiles.{block_commands, numbered_from}
use Rattle.block_theory.specs.BlockPorts.{Context}
use Rattle.block_theory.specs.BlockScopes.{block_scope}
use Rattle.block_theory.specs.Blocks.{IsBlock, through_inside}
use Rattle.block_theory.specs.Composition.{AmountsKept, check_at}
use Rattle.block_theory.specs.Meeting.{Numbers}
use Rattle.block_theory.specs.Pieces.{ArePieces, PieceLaw}
use Rattle.block_laws.specs.LayeredDesigns.{IsLayeredDesign}
use Rattle.block_laws.proofs.Readings.{top-same, AskAlike-given, captures-here}
use Rattle.block_laws.proofs.ResolvedAlike.{resolved-same}
use Rattle.block_pieces.specs.Reads.{ReadsAsMeant}
use Rattle.block_pieces.proofs.FileReadings.{HasTable-given, IsBlockReading-file}
use Rattle.block_pieces.proofs.PieceLaws.{ArePieces-reading}

module _ (x : Context) (arcs : List Arc) (commands : List NumberedCommand) (policy : Policy) (arrivals : List ℤ) (given : IsLayeredDesign x.design x.timing arcs commands x.all policy x.layered)
    (block_is : IsBlock x.design x.block) (through : through_inside x.design (x.block ∷ []) x.all.exceptions ≡ None) (reached : AreReached x.design 0 x.all.clocks x.reached)
    (reads : ReadsAsMeant x arrivals) where
  -- nothing is outside the top
  kept-outside : (n : Numbers) → AmountsKept x.design x.timing (0 ∷ []) n
  kept-outside n i below outside =
      let check = given.timing.checks i (check_at [] 0) below in
      let place = given.design.in_places (check_at x.timing.checks i).pin.0 (pin_at [] 0) check.pin in
      absurd (true≢false (sym (is_inside-top x.design.places given.design.parents (pin_at x.design.pins (check_at x.timing.checks i).pin.0).place place) ∙ outside 0 0 (omega arith)))

  pub PieceLaw-file : PieceLaw x arcs commands arrivals
  PieceLaw-file = λ n top block numbers holds are.
      let size = numbers.amounts in
      let same = top-same x.design x.timing arcs commands x.all policy x.layered given n size top holds in
      let tops = captures-here x.design x.timing arcs commands x.all policy x.layered given n size top holds in
      let alike = AskAlike-given x.design x.timing arcs commands x.all policy x.layered given n size top holds (0 ∷ []) (kept-outside n) in
      let file = numbered_from 1 (block_commands x arrivals) in
      let scope_is : are.scope ≡ block_scope x arrivals
      = ok-same are.scope (block_scope x arrivals) (sym are.says ∙ (resolved-same x.design x.block x.timing n size file ∙ reads)) in
      let reading = IsBlockReading-file x arcs commands policy given block_is through reached n size arrivals block file are scope_is top.captures tops in
      subst (λ (c : Constraints). ArePieces x arcs arrivals c block) (sym same)
      (ArePieces-reading x arcs commands policy given block_is through (HasTable-given x arcs commands policy given block_is through reached) top.captures (0 ∷ []) alike arrivals block reading)
