use Rattle.std.proofs.Common.{sym, ◌∙◌, ap}
use Rattle.std.specs.Option.{option_map}
use Rattle.bud_design.specs.declared.clocks.Clock.{Clock}
use Rattle.bud_design.specs.Clocks.{clock_called}
use Rattle.text_tables.specs.declared.standings.Standing.{Standing}
use Rattle.text_tables.proofs.Searches.{first-of}
use Rattle.timing_objects.proofs.clock_tables.ClockTable.called.Goals as goal

pub returns-in-Some : goal.returns-in-Some
returns-in-Some c =
    ap (option_map (λ (s : Standing). s.first)) (sym c.in-Some.is ∙ (c.find.ensures ∙ c.self.invariant.named c.args.name.now))
    ∙ (first-of (λ (k : Clock). k.name) c.args.name.now c.self.inside.clocks ∙ ap (λ ks. clock_called ks c.args.name.now) c.self.view_is)

pub returns-in-None : goal.returns-in-None
returns-in-None c =
    ap (option_map (λ (s : Standing). s.first)) (sym c.in-None.is ∙ (c.find.ensures ∙ c.self.invariant.named c.args.name.now))
    ∙ (first-of (λ (k : Clock). k.name) c.args.name.now c.self.inside.clocks ∙ ap (λ ks. clock_called ks c.args.name.now) c.self.view_is)
