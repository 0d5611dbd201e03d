-- A scope that commands give, and what is gathered by it, are the constraints of the commands.
use Rattle.std.specs.Prelude.{◌≡◌, List, length, Ok}
use Rattle.bud_design.specs.declared.clocks.Constraints.{Constraints}
use Rattle.bud_design.specs.declared.policies.NumberedCommand.{NumberedCommand}
use Rattle.bud_design.specs.declared.timings.Timing.{Timing}
use Rattle.bud_design.specs.ConstraintRules.{AreSoundConstraints}
use Rattle.bud_design.specs.Designs.{Design}
use Rattle.bud_design.specs.DesignRules.{IsDesign}
use Rattle.bud_design.specs.TimingRules.{IsSoundTiming}
use Rattle.timing_objects.specs.Objects.{Subject}
use Rattle.timing_scopes.specs.declared.scopes.Scope.{Scope}
use Rattle.timing_scopes.specs.Resolving.{resolved}
use Rattle.requirements.specs.Constraining.{AreConstraints}
use Rattle.requirements.specs.Gathered.{IsGathered}
use Rattle.requirements.specs.LeafTimings.{StandsInLeaves}
use Rattle.requirements.proofs.LaunchLaws.{launches-are, captures-are, unclocked-are, sound-constraints}
use Rattle.requirements.proofs.ScopeLaws.{IsResult}

abbrev pub whole_of : Design → Timing → Subject
whole_of d t = record { design = d; root = 0; timing = t }

pub constraints-are : (d : Design) → IsDesign d → (t : Timing) → IsSoundTiming d t → (commands : List NumberedCommand) (scope : Scope) (all : Constraints)
    → resolved (whole_of d t) commands ≡ Ok scope → IsResult (whole_of d t) scope → IsGathered d t scope all → AreConstraints (whole_of d t) commands all
constraints-are d design t timing commands scope all says result g = record {
  scope = scope;
  says = says;
  clocks = g.clocks;
  exceptions = g.exceptions;
  launches = launches-are d design t timing scope g.reached result.sound g.are_reached all.launches g.launches;
  captures = captures-are d design t timing scope g.reached result.sound g.are_reached all.captures g.captures;
  unclocked = unclocked-are d design t timing scope g.reached result.sound g.are_reached all.unclocked g.unclocked;
}

pub constraints-sound : (d : Design) → IsDesign d → (t : Timing) → IsSoundTiming d t → StandsInLeaves d t → (scope : Scope) (all : Constraints)
    → IsResult (whole_of d t) scope → IsGathered d t scope all → AreSoundConstraints (length d.pins) all
constraints-sound d design t timing leaves scope all result g =
    sound-constraints d design t timing scope g.reached result.sound g.are_reached leaves all result.rise g.clocks g.exceptions
    (launches-are d design t timing scope g.reached result.sound g.are_reached all.launches g.launches)
    (captures-are d design t timing scope g.reached result.sound g.are_reached all.captures g.captures)
