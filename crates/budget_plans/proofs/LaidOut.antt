-- A design under a policy has one layout, or is refused; and what is known of it.
use Rattle.std.proofs.Common.{◌≡◌, ℕ, ◌<◌, ◌^◌, List, length, Option, Ok, refl}
use Rattle.bud_shelf.specs.Outside.{Files}
use Rattle.bud_design.specs.declared.policies.Policy.{Policy}
use Rattle.budget_report.specs.Subjects.{bare}
use Rattle.budget_report.specs.declared.causes.Cause.TheVariants as cause
use Rattle.budget_steps.specs.Inputs.{Seen, IsRead, input}
use Rattle.budget_steps.specs.Steps.{Course, ◌>>=◌, comes_to}
use Rattle.budget_steps.proofs.Sources.{IsSource, then_source, step_source, input_source, value_source}
use Rattle.budget_designs.specs.declared.design_files.DesignFiles.{DesignFiles}
use Rattle.budget_designs.specs.DesignFiles.{design_files}
use Rattle.budget_designs.specs.TimedDesigns.{timed_design, whole}
use Rattle.budget_designs.proofs.DesignFaults.{layer_fits}
use Rattle.budget_designs.proofs.TimedLaws.{AreRead, HasSteps, files_source, timed_source}
use Rattle.budget_plans.specs.declared.layouts.Layout.{Layout}
use Rattle.budget_plans.specs.Files.{policies}
use Rattle.budget_plans.specs.Layouts.{Laid, IsLaid, laid_of, laid_with, laid_out, layered_by, layout, view_in}
use Rattle.budget_plans.proofs.LayerSteps.{layered_sure}
use Rattle.budget_plans.proofs.PolicyFiles.{policies_are}
use Rattle.design_certs.specs.DesignCerts.{IsOfDesign}
use Rattle.design_certs.proofs.LayeredClasses.{few-classes}
use Rattle.layer_theory.specs.LayerAnswers.{IsLayerAnswer}

-- ---- what a layout comes of
pub record HasLayers (files : DesignFiles) (policy : Policy) (l : Laid) : Type 0 where
  pub steps : HasSteps files l.timed
  pub policy_is : l.policy ≡ policy
  pub layers : IsLayerAnswer (whole l.timed) policy (Ok l.layered)

pub laid_source : (files : DesignFiles) (policy : Policy) → IsSource (HasLayers files policy) (λ shelf. laid_out files policy)
laid_source files policy =
    then_source (HasSteps files) (HasLayers files policy) (λ shelf. timed_design files)
    (λ t shelf. layered_by (whole t) policy >>= λ layered. comes_to (laid_with t policy layered))
    (timed_source files)
    (λ t steps.
    then_source (λ layered. IsLayerAnswer (whole t) policy (Ok layered)) (HasLayers files policy) (λ shelf. layered_by (whole t) policy)
    (λ layered shelf. comes_to (laid_with t policy layered))
    (step_source (IsLayerAnswer (whole t) policy) bare (λ fault. cause.Layer fault) (layered_sure (whole t) policy) layer_fits)
    (λ layered layers.
    value_source (HasLayers files policy) (laid_with t policy layered) (record { steps = steps; policy_is = refl; layers = layers })))

-- files that are read, and what they come to
pub record IsLayout (l : Laid) : Type 0 where
  pub files : DesignFiles
  pub lines : Policy
  pub read : AreRead files
  pub policy_read : IsRead policies lines
  pub layers : HasLayers files lines l

weaker_source : {A : Type 0} (Known Found : A → Type 0) (w : Seen (Option Files) → Course A) → ((a : A) → Known a → Found a) → IsSource Known w → IsSource Found w
weaker_source Known Found w weaker source = record {
  known = λ shelf a came. weaker a (source.known shelf a came);
  during = source.during;
  alike = source.alike;
  fits = source.fits;
}

pub layout_source : (netlist delay_file constraint_file policy : List ℕ) → IsSource IsLayout (λ shelf. layout shelf netlist delay_file constraint_file policy)
layout_source netlist delay_file constraint_file policy =
    then_source AreRead IsLayout (λ shelf. design_files shelf netlist delay_file constraint_file) (λ files shelf. input shelf policies policy >>= λ lines. laid_out files lines)
    (files_source netlist delay_file constraint_file)
    (λ files read.
    then_source (λ lines. IsRead policies lines) IsLayout (λ shelf. input shelf policies policy) (λ lines shelf. laid_out files lines)
    (input_source policies policy policies_are)
    (λ lines policy_read.
    weaker_source (HasLayers files lines) IsLayout (λ shelf. laid_out files lines)
    (λ l layers. record { files = files; lines = lines; read = read; policy_read = policy_read; layers = layers })
    (laid_source files lines)))

-- ---- what is known of it
module _ (x : Layout) (laid : IsLaid x) where
  pub of_design : IsOfDesign x.layered x.design.flat
  of_design = (length x.design.graph.arcs, laid.layered)

  pub few_classes : length x.layered.classes < 2 ^ 32
  few_classes = few-classes (view_in (laid_of x)) x.policy x.layered laid.layering of_design
