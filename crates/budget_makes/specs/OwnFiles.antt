-- A made design as files of its own, each under the name that a fault line gives it.
use Rattle.std.specs.Prelude.{ℕ, codes}
use Rattle.std.specs.FinMap.{empty, insert}
use Rattle.bud_shelf.specs.Outside.{Files}
use Rattle.bud_gen.specs.ConstraintFiles.{sdc_text}
use Rattle.bud_gen.specs.DelayFiles.{sdf_text}
use Rattle.bud_gen.specs.Gates.{blocks, registers}
use Rattle.bud_gen.specs.Netlists.{verilog_text}
use Rattle.bud_gen.specs.Policies.{policy_text}
use Rattle.bud_gen.specs.declared.designs.MadeDesign.{MadeDesign}
use Rattle.budget_steps.specs.Inputs.{unfaulted}
use Rattle.budget_steps.specs.Steps.{Course}
use Rattle.budget_plans.specs.Layouts.{Laid, layout}

-- the design of so many gates that a number tells
abbrev pub made_design : ℕ → ℕ → MadeDesign
made_design gates number = record {
  verilog = verilog_text (blocks gates number);
  sdf = sdf_text (blocks gates number);
  sdc = sdc_text gates;
  policy = policy_text (blocks gates number);
  registers = registers (blocks gates number);
}

-- its four texts
abbrev pub own_files : MadeDesign → Files
own_files design =
    insert (insert (insert (insert empty (codes "verilog") design.verilog) (codes "sdf") design.sdf) (codes "sdc") design.sdc) (codes "policy") design.policy

-- what `plan` lays out of these files
abbrev pub own_layout : MadeDesign → Course Laid
own_layout design = layout (unfaulted (own_files design)) (codes "verilog") (codes "sdf") (codes "sdc") (codes "policy")
