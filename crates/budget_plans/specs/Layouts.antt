-- A design laid out under a policy: with its delays, arcs and constraints, and its layering.
use Rattle.std.specs.Prelude.{ℕ, List, Option, length}
use Rattle.bud_shelf.specs.Outside.{Files}
use Rattle.bud_design.specs.declared.layers.Layered.{Layered}
use Rattle.bud_design.specs.declared.policies.Policy.{Policy}
use Rattle.bud_design.specs.Correspondences.{Correspond}
use Rattle.bud_design.specs.Layers.{IsLayering}
use Rattle.bud_design.specs.TimingPaths.{View}
use Rattle.bud_design.specs.TimingRules.{IsSoundLayered}
use Rattle.budget_report.specs.Subjects.{bare}
use Rattle.budget_report.specs.declared.causes.Cause.TheVariants as cause
use Rattle.budget_steps.specs.Inputs.{Seen, input}
use Rattle.budget_steps.specs.Steps.{Course, ◌>>=◌, comes_to, step}
use Rattle.budget_designs.specs.declared.design_files.DesignFiles.{DesignFiles}
use Rattle.budget_designs.specs.DesignFiles.{design_files}
use Rattle.budget_designs.specs.TimedDesigns.{Timed, IsSoundTimed, timed_design, timed_of, whole}
use Rattle.budget_plans.specs.declared.layouts.Layout.{Layout}
use Rattle.budget_plans.specs.Files.{policies}
use Rattle.design_certs.specs.DesignCerts.{HasTextNames}
use Rattle.design_layers.specs.Views.{HasSlackOf}
use Rattle.layer_theory.specs.LayerAnswers.{IsLayerAnswer}

-- as definitions see it
pub record Laid : Type 0 where
  pub timed : Timed
  pub policy : Policy
  pub layered : Layered

abbrev pub laid_of : Layout → Laid
laid_of x = record { timed = timed_of x.design; policy = x.policy; layered = x.layered }

abbrev pub laid_with : Timed → Policy → Layered → Laid
laid_with t policy layered = record { timed = t; policy = policy; layered = layered }

-- the whole design with its arcs and constraints
abbrev pub view_in : Laid → View
view_in l = whole l.timed

-- the layering of a design under a policy, or the first refusal of the first line that has one, or the limit that is passed
abbrev pub layered_by : View → Policy → Course Layered
layered_by w policy = step (IsLayerAnswer w policy) bare (λ fault. cause.Layer fault)

-- what the values of the files come to
abbrev pub laid_out : DesignFiles → Policy → Course Laid
laid_out files policy = do
  t ← timed_design files
  layered ← layered_by (whole t) policy
  comes_to (laid_with t policy layered)

-- from the bytes of the files, which are read in this order
abbrev pub layout : Seen (Option Files) → List ℕ → List ℕ → List ℕ → List ℕ → Course Laid
layout shelf netlist delay_file constraint_file policy = do
  files ← design_files shelf netlist delay_file constraint_file
  lines ← input shelf policies policy
  laid_out files lines

-- what is known of each: its constrained paths are those of its layering, and its names may stand in a certificate
pub record IsLaid (x : Layout) : Type 0 where
  pub design : IsSoundTimed x.design
  pub layering : IsLayering (view_in (laid_of x)) x.policy x.layered
  pub layered : IsSoundLayered (length x.design.flat.pins) (length x.design.graph.arcs) x.layered
  pub paths : Correspond (view_in (laid_of x)) x.layered
  pub slack : HasSlackOf (view_in (laid_of x)) x.layered.problem
  pub names : HasTextNames x.layered x.design.flat x.design.constraints
