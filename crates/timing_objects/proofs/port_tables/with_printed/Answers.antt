use Rattle.std.proofs.Common.{Some, sym, ◌∙◌, ap}
use Rattle.timing_objects.specs.declared.port_names.PortName.{PortName}
use Rattle.text_tables.proofs.Searches.{stands-some, stands-none}
use Rattle.timing_objects.proofs.port_tables.with_printed.Goals as goal

pub bounds-names-standing : goal.bounds-names-standing
bounds-names-standing c =
    let s = stands-some (λ (n : PortName). n.printed) c.args.name.now c.args.names.now c.in-Some.standing (sym (c.requires c.args.name.now) ∙ (sym c.find.ensures ∙ c.in-Some.is)) in
    s.within

pub returns-in-Some : goal.returns-in-Some
returns-in-Some c =
    let s = stands-some (λ (n : PortName). n.printed) c.args.name.now c.args.names.now c.in-Some.standing (sym (c.requires c.args.name.now) ∙ (sym c.find.ensures ∙ c.in-Some.is)) in
    ap (λ n. Some n) c.index-names-standing.is ∙ sym (s.first c.index-names-standing.result)

pub returns-in-None : goal.returns-in-None
returns-in-None c = sym (stands-none (λ (n : PortName). n.printed) c.args.name.now c.args.names.now (sym (c.requires c.args.name.now) ∙ (sym c.find.ensures ∙ c.in-None.is)))
