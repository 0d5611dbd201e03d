-- The layout of a shelf that holds the texts of a made design and never fails.
use Rattle.std.proofs.Common.{◌≡◌, ◌∙◌, Option, Some, Result, ap, subst}
use Rattle.std.specs.Prelude.{codes}
use Rattle.bud_shelf.specs.Outside.{Files}
use Rattle.bud_gen.specs.declared.designs.MadeDesign.{MadeDesign}
use Rattle.budget_steps.specs.declared.outcomes.Stop.{Stop}
use Rattle.budget_steps.specs.Inputs.{Seen}
use Rattle.budget_designs.specs.Layerings.{FollowsAs}
use Rattle.budget_plans.specs.declared.layouts.Layout.{Layout}
use Rattle.budget_plans.specs.Layouts.{laid_of, layout}
use Rattle.budget_makes.specs.OwnFiles.{own_files, own_layout}

-- what a shelf tells that never fails
abbrev safe : Option Files → Option Files → Seen (Option Files)
safe old new = record { old = old; new = new; before = 0; now = 0 }

pub layout_of : (design : MadeDesign) (old new : Files) (r : Result Layout Stop) → old ≡ own_files design → Some new ≡ Some old
    → FollowsAs laid_of (layout (safe (Some old) (Some new)) (codes "verilog") (codes "sdf") (codes "sdc") (codes "policy")) r → FollowsAs laid_of (own_layout design) r
layout_of design old new r own same came =
    let first : Some old ≡ Some (own_files design) = ap (λ (f : Files). Some f) own in
    subst (λ (s : Seen (Option Files)). FollowsAs laid_of (layout s (codes "verilog") (codes "sdf") (codes "sdc") (codes "policy")) r)
    (ap (λ o. safe o (Some new)) first ∙ ap (λ o. safe (Some (own_files design)) o) (same ∙ first)) came
