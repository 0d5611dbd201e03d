use Rattle.std.proofs.Common.{◌≡◌, ◌∙◌, ◌==◌, Some, ap, rules, if◌then◌else◌}
use Rattle.std.specs.Map.{lookup}
use Rattle.name_tables.proofs.chains.Chains.lead.Goals as goal

pub returns-in-Ok-clause-first : goal.returns-in-Ok-clause-first
returns-in-Ok-clause-first c = λ q.
    let held : c.self.inside.first.entries ≡ c.args.self.now.first = search rules in
    c.in-Ok.ensures.updates.0 q ∙ ap (λ es. if c.args.key == q then Some c.args.number else lookup (λ k. q == k) es) held
