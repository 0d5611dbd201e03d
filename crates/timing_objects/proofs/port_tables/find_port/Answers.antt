use Rattle.std.proofs.Common.{Some, None, map, sym, ◌∙◌, ap, subst}
use Rattle.std.specs.Prelude.{All}
use Rattle.std.specs.Option.{option_map}
use Rattle.bud_design.specs.Names.{meaning}
use Rattle.timing_objects.specs.PortNames.{numbers, named_as, HasPlain}
use Rattle.timing_objects.proofs.NameSteps.{meaning-printed, meaning-plain}
use Rattle.timing_objects.proofs.port_tables.find_port.Goals as goal

pub returns-in-Some : goal.returns-in-Some
returns-in-Some c =
    let plains = subst (All HasPlain) (sym c.as_slice-names.ensures) c.requires.plain in
    ap (λ s. Some (numbers s)) c.as_slice.ensures
    ∙ (sym (meaning-printed c.as_slice-names.result.now c.args.name.now c.in-Some.found.now plains (sym c.with_printed.ensures ∙ ap (option_map (λ n. n.now)) c.in-Some.is))
    ∙ ap (λ ns. meaning (map named_as ns) c.args.name.now) c.as_slice-names.ensures)

pub returns-in-Some-with_plain : goal.returns-in-Some-with_plain
returns-in-Some-with_plain c =
    let plains = subst (All HasPlain) (sym c.as_slice-names.ensures) c.requires.plain in
    ap (λ s. Some (numbers s)) c.as_slice-in-Some-with_plain.ensures
    ∙ (sym (meaning-plain c.as_slice-names.result.now c.args.name.now (Some c.in-Some-with_plain.found.now) plains (sym c.with_printed.ensures ∙ ap (option_map (λ n. n.now)) c.in_default.is)
    (sym c.with_plain.ensures ∙ ap (option_map (λ n. n.now)) c.in-Some-with_plain.is))
    ∙ ap (λ ns. meaning (map named_as ns) c.args.name.now) c.as_slice-names.ensures)

pub returns-in-None : goal.returns-in-None
returns-in-None c =
    let plains = subst (All HasPlain) (sym c.as_slice-names.ensures) c.requires.plain in
    sym (meaning-plain c.as_slice-names.result.now c.args.name.now None plains (sym c.with_printed.ensures ∙ ap (option_map (λ n. n.now)) c.in_default.is)
    (sym c.with_plain.ensures ∙ ap (option_map (λ n. n.now)) c.in-None.is))
    ∙ ap (λ ns. meaning (map named_as ns) c.args.name.now) c.as_slice-names.ensures
