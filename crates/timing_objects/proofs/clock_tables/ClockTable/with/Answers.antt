use Rattle.std.proofs.Common.{◌≡◌, ◌++◌, ◌∷◌, [], ℕ, List, map, length, sym, ◌∙◌, subst, rules}
use Rattle.bud_design.specs.declared.clocks.Clock.{Clock}
use Rattle.text_tables.specs.Standings.{IsOf}
use Rattle.timing_objects.specs.ClockTables.{AreFound}
use Rattle.timing_objects.proofs.TableSteps.{length-texts, clock-more}
use Rattle.timing_objects.proofs.clock_tables.ClockTable.with.Goals as goal

pub invariant_of-result : goal.invariant_of-result
invariant_of-result c =
    let all = c.self.inside.clocks in
    let number : length all ≡ c.in-Ok.number = search rules in
    let named = c.in_ok-enter.ensures (map (λ (k : Clock). k.name) all) c.self.invariant.named (length-texts (λ (k : Clock). k.name) all ∙ number) in
    subst (λ ks. AreFound ks c.enter.new.self c.add_sources.new.sources.keys) (sym c.in_ok-push.ensures.ok)
    (clock-more all c.args.clock c.self.inside.names c.self.inside.sources.keys c.add_sources.new.sources.keys c.self.invariant c.enter.new.self
    (subst (λ (t : List ℕ). IsOf (map (λ (k : Clock). k.name) all ++ t ∷ []) c.enter.new.self) c.as_slice.ensures named)
    (search rules))
