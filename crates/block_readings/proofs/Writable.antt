-- Where files may be written for blocks, they keep their promises, and all their numbers are such as are read.
use Rattle.std.specs.Prelude.{◌≡◌, ℕ, suc, ◌<◌, ℤ, List, [], ◌∷◌, length, All, Contains, None, Ok, slice_index_or}
use Rattle.std.proofs.Common.{sym, ◌∙◌, ap, subst, arith}
use Rattle.std.proofs.lemmas.List.{length-map, get_or-map}
use Rattle.std.proofs.lemmas.List.Elements.{All-nil, All-cons, All-head, All-tail, Contains-get_or}
use Rattle.bud_base.proofs.FindLemmas.{option_map-none}
use Rattle.bud_syntax.specs.declared.constraints.SdcCommand.{SdcCommand}
use Rattle.bud_syntax.specs.declared.constraints.SdcFile.{SdcFile}
use Rattle.bud_syntax.specs.Ranges.{IsReadCommand}
use Rattle.bud_design.specs.declared.clocks.Constraints.{Constraints}
use Rattle.bud_design.specs.declared.layers.Layered.{Layered}
use Rattle.bud_design.specs.declared.policies.NumberedCommand.{NumberedCommand}
use Rattle.bud_design.specs.declared.policies.Policy.{Policy}
use Rattle.bud_design.specs.declared.timings.Timing.{Timing}
use Rattle.bud_design.specs.Arcs.{Arc}
use Rattle.bud_design.specs.Designs.{Design, pin_name}
use Rattle.bud_plans.specs.Budgets.{AreWithinBounds, SuitBudgets}
use Rattle.block_theory.specs.BlockFiles.{block_commands, numbered_from}
use Rattle.block_theory.specs.Blocks.{IsBlock, AreBlocks, through_inside}
use Rattle.block_theory.specs.BlockValues.{LieBetween, AreWritable}
use Rattle.block_theory.specs.Composition.{BlockFile, places_of, IsWrittenFor, AreFilesOf}
use Rattle.block_theory.proofs.Extremes.{LieBetween-suiting}
use Rattle.block_theory.proofs.Groups.{through-each}
use Rattle.block_laws.specs.LayeredDesigns.{IsLayeredDesign}
use Rattle.block_laws.specs.Standing.{block_context}
use Rattle.block_readings.proofs.FileRanges.{numbers-read}
use Rattle.block_readings.proofs.Written.{are-files}

numbered-all : (P : SdcCommand → Type 0) (n : ℕ) (cs : List SdcCommand) → All P cs → All (λ (c : NumberedCommand). P c.command) (numbered_from n cs)
numbered-all P n [] all = All-nil (λ (c : NumberedCommand). P c.command)
numbered-all P n (c ∷ cs) all =
    All-cons (λ (c : NumberedCommand). P c.command) (record { number = n; command = c }) (numbered_from (suc n) cs) (All-head P c cs all) (numbered-all P (suc n) cs (All-tail P c cs all))

module _ (d : Design) (t : Timing) (arcs : List Arc) (commands : List NumberedCommand) (all : Constraints) (policy : Policy) (layered : Layered) (budgets arrivals : List ℤ)
    (files : List BlockFile) (given : IsLayeredDesign d t arcs commands all policy layered) (bounds : AreWithinBounds layered.problem budgets) (suit : SuitBudgets layered.problem budgets arrivals)
    (are : AreBlocks d (places_of files)) (writable : AreWritable d all layered (places_of files) (Ok tt)) (written : All (IsWrittenFor d t all layered arrivals) files) where
  through : through_inside d (places_of files) all.exceptions ≡ None
  through = option_map-none (pin_name d 0) (through_inside d (places_of files) all.exceptions) writable.0

  pub writable-files : AreFilesOf d t arcs commands layered budgets files
  writable-files = are-files d t arcs commands all policy layered budgets arrivals files given suit are through written

  abbrev early : List ℤ
  early = writable.1.0

  abbrev late : List ℤ
  late = writable.1.1.0

  between : LieBetween layered.problem early arrivals late
  between = LieBetween-suiting layered.problem budgets arrivals bounds suit early late writable.1.1.1

  pub files-read : All (λ f. All (λ c. IsReadCommand c.command) f.commands) files
  files-read i e below =
      let f = slice_index_or files i e in
      let w = written i e below in
      let within : i < length (places_of files) = omega (arith, below, length-map files (λ f. f.place)) in
      let place = get_or-map (λ f. f.place) files i e 0 below in
      let there = subst (λ b. Contains (places_of files) b) place (Contains-get_or (places_of files) i 0 within) in
      let x = block_context d t all layered w.is_file.reached f.place in
      let commands_are : f.commands ≡ numbered_from 1 (block_commands x arrivals) = w.commands ∙ ap (λ (file : SdcFile). numbered_from 1 file.commands) w.is_file.file_is in
      subst (All (λ (c : NumberedCommand). IsReadCommand c.command)) (sym commands_are)
      (numbered-all IsReadCommand 1 (block_commands x arrivals)
      (numbers-read x arcs commands policy given (subst (λ b. IsBlock d b) place (are.each i 0 within))
      (subst (λ b. through_inside d (b ∷ []) all.exceptions ≡ None) place (through-each d (places_of files) all.exceptions through i 0 within)) w.is_file.are_reached
      early late arrivals (places_of files) between writable.1.1.2 there))
