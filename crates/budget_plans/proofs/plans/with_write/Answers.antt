use Rattle.std.proofs.Common.{List, [], ◌∷◌, ◌++◌, ap, ◌∙◌, refl}
use Rattle.budget_steps.specs.declared.outcomes.Write.{Write}
use Rattle.budget_plans.proofs.plans.with_write.Goals as goal

pub returns : goal.returns
returns c =
    let file : Write = record { name = c.in_ok-name.name; bytes = c.args.certified.bytes } in
    record {
      said = refl;
      file = file;
      one = c.in_ok-push.ensures.ok ∙ ap (λ (writes : List Write). writes ++ file ∷ []) c.new-writes.ensures;
      named = c.in_ok-name.ensures.ok;
      bytes = refl;
    }
