use Rattle.std.proofs.Common.{◌≡◌, true, false, Some, None, [], get_or, if◌then◌else◌, sym, ◌∙◌, ap, rules}
use Rattle.std.specs.Str.{bytes_eq}
use Rattle.bud_design.specs.Lists.{only}
use Rattle.timing_objects.specs.declared.port_names.PortName.{PortName}
use Rattle.text_tables.proofs.Searches.{stands-some, stands-none, filter-none}
use Rattle.timing_objects.proofs.port_tables.with_plain.Goals as goal

pub returns-in_default : goal.returns-in_default
returns-in_default c =
    sym (ap only (filter-none (λ (n : PortName). bytes_eq n.plain c.args.name.now) c.args.names.now
    (stands-none (λ (n : PortName). n.plain) c.args.name.now c.args.names.now (sym (c.requires c.args.name.now) ∙ (sym c.find.ensures ∙ c.in_default.is)))))

pub returns-then-not-standing : goal.returns-then-not-standing
returns-then-not-standing c =
    let s = stands-some (λ (n : PortName). n.plain) c.args.name.now c.args.names.now c.in-Some.standing (sym (c.requires c.args.name.now) ∙ (sym c.find.ensures ∙ c.in-Some.is)) in
    let other : c.in-Some.standing.alone ≡ false = search rules in
    sym (s.sole (record { printed = []; plain = []; pins = [] })
    ∙ ap (λ b. if b then Some (get_or c.args.names.now c.in-Some.standing.first (record { printed = []; plain = []; pins = [] })) else None) other)

pub bounds-names-standing : goal.bounds-names-standing
bounds-names-standing c =
    let s = stands-some (λ (n : PortName). n.plain) c.args.name.now c.args.names.now c.in-Some.standing (sym (c.requires c.args.name.now) ∙ (sym c.find.ensures ∙ c.in-Some.is)) in
    s.within

pub returns : goal.returns
returns c =
    let s = stands-some (λ (n : PortName). n.plain) c.args.name.now c.args.names.now c.in-Some.standing (sym (c.requires c.args.name.now) ∙ (sym c.find.ensures ∙ c.in-Some.is)) in
    let alone : c.in-Some.standing.alone ≡ true = search rules in
    ap (λ n. Some n) c.index-names-standing.is
    ∙ sym (s.sole c.index-names-standing.result ∙ ap (λ b. if b then Some (get_or c.args.names.now c.in-Some.standing.first c.index-names-standing.result) else None) alone)
