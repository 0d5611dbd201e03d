use Rattle.std.proofs.Common.{◌≡◌, ◌==◌, ◌++◌, ◌∷◌, [], ℕ, length, Option, Some, sym, ◌∙◌, ap, subst, rules, if◌then◌else◌}
use Rattle.std.specs.Map.{lookup}
use Rattle.class_steps.specs.Tables.{AreLinked}
use Rattle.class_steps.proofs.LinkLaws.{linked-more}
use Rattle.class_steps.proofs.tables.ClassTable.with.Goals as goal

pub invariant_of-result : goal.invariant_of-result
invariant_of-result c =
    let classes = c.self.inside.classes.items in
    let heads = c.self.inside.last.entries in
    let links = c.self.inside.links.items in
    let place : c.in-Ok.number ≡ length classes = search rules in
    let links_are = c.in_ok-push.ensures.items ∙ ap (λ (o : Option ℕ). links ++ o ∷ []) (c.last_of.ensures ∙ ap (λ q. lookup (λ v. q == v) heads) c.class_key-key.ensures) in
    let more =
    linked-more classes c.args.«class» c.in-Ok.number heads c.put_last.new.last.entries links c.self.invariant place
    (λ q. c.in_ok-put_last.ensures q ∙ ap (λ key. if key == q then Some c.in-Ok.number else lookup (λ v. q == v) heads) c.class_key-key.ensures)
    in
    subst (λ cs. AreLinked cs c.put_last.new.last.entries c.push.new.self.items) (sym c.in_ok-push-2.ensures.items)
    (subst (λ ls. AreLinked (classes ++ c.args.«class» ∷ []) c.put_last.new.last.entries ls) (sym links_are) more)
