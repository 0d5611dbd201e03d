-- The files that are written for blocks are accepted, compose, and are met by the budgets.
use Rattle.std.specs.Prelude.{◌≡◌, ℕ, ◌<◌, ℤ, List, [], ◌∷◌, length, All, Option, Some, None, slice_index_or}
use Rattle.std.proofs.Common.{refl, sym, ◌∙◌, ap, subst, arith}
use Rattle.std.proofs.lemmas.List.{length-map, get_or-map, ext_get_or}
use Rattle.std.proofs.lemmas.List.Elements.{All-head}
use Rattle.std.proofs.lemmas.List.FromFn.{length-map-range_with_len}
use Rattle.std.proofs.lemmas.Option.{none-some}
use Rattle.bud_syntax.specs.declared.constraints.SdcFile.{SdcFile}
use Rattle.bud_design.specs.declared.clocks.Clock.{Clock}
use Rattle.bud_design.specs.declared.clocks.Constraints.{Constraints}
use Rattle.bud_design.specs.declared.layers.Layered.{Layered}
use Rattle.bud_design.specs.declared.policies.NumberedCommand.{NumberedCommand}
use Rattle.bud_design.specs.declared.policies.Policy.{Policy}
use Rattle.bud_design.specs.declared.timings.Check.{Check}
use Rattle.bud_design.specs.declared.timings.Timing.{Timing}
use Rattle.bud_design.specs.Arcs.{Arc}
use Rattle.bud_design.specs.Designs.{Design}
use Rattle.bud_plans.specs.Budgets.{SuitBudgets}
use Rattle.clock_reach.specs.Reached.{AreReached}
use Rattle.clock_reach.specs.Walks.{mark_at}
use Rattle.requirements.specs.Constraining.{AreConstraints}
use Rattle.block_theory.specs.BlockFiles.{block_commands, numbered_from}
use Rattle.block_theory.specs.BlockPorts.{Context}
use Rattle.block_theory.specs.Blocks.{IsBlock, AreBlocks, through_inside}
use Rattle.block_theory.specs.Composition.{BlockFile, places_of, least_budget, budget_numbers, IsWrittenFor, AreFilesOf}
use Rattle.block_theory.specs.Meeting.{Numbers, AreNumbers, subject_with, Accepts}
use Rattle.block_theory.proofs.Groups.{through-each}
use Rattle.block_laws.specs.LayeredDesigns.{IsLayeredDesign, KeepsPieceLaw, FilesKeepPieces}
use Rattle.block_laws.specs.Standing.{block_context}
use Rattle.block_laws.proofs.Promises.{amounts-own, Compose-files, budgets-meet}
use Rattle.block_pieces.proofs.WholeLaw.{PieceLaw-file}
use Rattle.block_readings.proofs.Accepted.{accepted}
use Rattle.block_readings.proofs.FilesRead.{reads-as_meant}

-- ---- a block's file keeps the piece law
pub keeps : (x : Context) (arcs : List Arc) (commands : List NumberedCommand) (policy : Policy) (arrivals : List ℤ) (f : BlockFile) → IsLayeredDesign x.design x.timing arcs commands x.all policy x.layered
    → IsBlock x.design x.block → through_inside x.design (x.block ∷ []) x.all.exceptions ≡ None → AreReached x.design 0 x.all.clocks x.reached
    → f.commands ≡ numbered_from 1 (block_commands x arrivals) → KeepsPieceLaw x arcs commands arrivals f
keeps x arcs commands policy arrivals f given block through reached is = record {
  commands_are = is;
  accepted = λ n numbers.
      subst (λ (cs : List NumberedCommand). (c : Constraints) × AreConstraints (subject_with x.design x.block x.timing n) cs c) (sym is)
      (accepted x arcs commands policy given block through reached arrivals n numbers.amounts);
  pieces = PieceLaw-file x arcs commands policy arrivals given block through reached (reads-as_meant x arcs commands policy given block through reached arrivals);
}

-- ---- one table tells which clock reaches each pin
reached-one : (d : Design) (clocks : List Clock) (r s : List (Option ℕ)) → AreReached d 0 clocks r → AreReached d 0 clocks s → r ≡ s
reached-one d clocks r s first second =
    ext_get_or None r s (first.size ∙ sym second.size) (λ i below. by_mark i (mark_at r i) (mark_at s i) refl refl)
  where
    by_mark : (i : ℕ) (o p : Option ℕ) → mark_at r i ≡ o → mark_at s i ≡ p → o ≡ p
    by_mark i None None is also = refl
    by_mark i None (Some c) is also = absurd (none-some c (sym is ∙ first.all i c (second.only i c also)))
    by_mark i (Some c) p is also = sym (second.all i c (first.only i c is)) ∙ also

module _ (d : Design) (t : Timing) (arcs : List Arc) (commands : List NumberedCommand) (all : Constraints) (policy : Policy) (layered : Layered) (budgets arrivals : List ℤ)
    (files : List BlockFile) (given : IsLayeredDesign d t arcs commands all policy layered) (suit : SuitBudgets layered.problem budgets arrivals)
    (are : AreBlocks d (places_of files)) (through : through_inside d (places_of files) all.exceptions ≡ None)
    (written : All (IsWrittenFor d t all layered arrivals) files) where
  -- the table of the first file serves all
  record HasMarks (fs : List BlockFile) : Type 0 where
    pub marks : List (Option ℕ)
    pub reached : (i : ℕ) → i < length fs → AreReached d 0 all.clocks marks

  marks-of : (fs : List BlockFile) → All (IsWrittenFor d t all layered arrivals) fs → HasMarks fs
  marks-of [] each = record { marks = []; reached = λ i below. absurd (omega (arith, below)) }
  marks-of (f ∷ fs) each = (let first = All-head (IsWrittenFor d t all layered arrivals) f fs each in record { marks = first.is_file.reached; reached = λ i below. first.is_file.are_reached })

  table : HasMarks files
  table = marks-of files written

  count-same : length (places_of files) ≡ length files
  count-same = length-map files (λ f. f.place)

  file-keeps : FilesKeepPieces d t arcs commands all layered table.marks arrivals files
  file-keeps i e below =
      let f = slice_index_or files i e in
      let w = written i e below in
      let reached = table.reached i below in
      let within : i < length (places_of files) = omega (arith, below, count-same) in
      let place = get_or-map (λ f. f.place) files i e 0 below in
      let same = reached-one d all.clocks w.is_file.reached table.marks w.is_file.are_reached reached in
      let commands_are : f.commands ≡ numbered_from 1 (block_commands (block_context d t all layered table.marks f.place) arrivals)
      = w.commands
      ∙ (ap (λ (file : SdcFile). numbered_from 1 file.commands) w.is_file.file_is ∙ ap (λ (r : List (Option ℕ)). numbered_from 1 (block_commands (block_context d t all layered r f.place) arrivals)) same) in
      keeps (block_context d t all layered table.marks f.place) arcs commands policy arrivals f given (subst (λ b. IsBlock d b) place (are.each i 0 within))
      (subst (λ b. through_inside d (b ∷ []) all.exceptions ≡ None) place (through-each d (places_of files) all.exceptions through i 0 within)) reached commands_are

  -- ---- at the amounts as read
  abbrev own : Numbers
  own = budget_numbers t arcs layered budgets

  numbers-are : AreNumbers arcs t own
  numbers-are = record {
    delays = length-map-range_with_len (least_budget arcs layered budgets) 0 (length arcs);
    amounts = length-map t.checks (λ x. x.amount);
  }

  file-accepted : All (λ f. Accepts d f.place t f.commands) files
  file-accepted i e below =
      let f = slice_index_or files i e in
      let there = (file-keeps i e below).accepted own numbers-are in (
        there.0,
        subst (λ (cs : List Check). AreConstraints (record { design = d; root = f.place; timing = record { wires = t.wires; pairs = t.pairs; checks = cs; edges = t.edges; left_out = t.left_out } }) f.commands there.0)
            (amounts-own t.checks) there.1,
      )

  pub are-files : AreFilesOf d t arcs commands layered budgets files
  are-files = record {
    accepted = file-accepted;
    compose = Compose-files d t arcs commands all policy layered budgets arrivals table.marks files given suit are through file-keeps;
    met = budgets-meet d t arcs commands all policy layered budgets arrivals table.marks files given suit are through file-keeps;
  }
