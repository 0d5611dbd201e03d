use Rattle.std.proofs.Common.{◌≡◌, ℕ, List, None, length, slice_index_or, ap, sym, subst, ◌∙◌}
use Rattle.std.specs.Option.{option_or}
use Rattle.std.specs.List.{position_from}
use Rattle.std.proofs.lemmas.List.{at_drop_all}
use Rattle.module_nets.proofs.ListSteps.{or_none}
use Rattle.net_drivers.specs.Slots.{IsBelow}
use Rattle.net_drivers.specs.Links.{noted, names_port, place_named}
use Rattle.net_drivers.proofs.LinkLaws.{noted-next, length-noted, place_named-below}
use Rattle.net_drivers.proofs.links.name_links.Goals as goal

pub note-requires : goal.note-requires
note-requires c =
    subst (IsBelow (length c.loop-number.named.items)) (sym c.place_named-place.ensures)
    (subst (λ n. IsBelow n (place_named c.args.header.now.module.now c.index-links-number.result)) (sym c.loop-number.invariant.size) (place_named-below c.args.header.now.module.now c.index-links-number.result))

pub loop-number-preserved : goal.loop-number-preserved
loop-number-preserved c =
    let put' = c.note.ensures ∙ ap (λ p. noted p c.loop-number.number c.loop-number.named.items) c.place_named-place.ensures in
    let below = subst (λ n. IsBelow n (place_named c.args.header.now.module.now c.index-links-number.result)) (sym c.loop-number.invariant.size) (place_named-below c.args.header.now.module.now c.index-links-number.result) in
    record {
      size = ap length c.note.ensures ∙ (length-noted _ _ _ ∙ c.loop-number.invariant.size);
      each = λ place within.
          noted-next c.args.header.now.module.now c.args.links.now c.loop-number.number c.index-links-number.result c.loop-number.named.items c.note.new.places.items place c.loop-number-test.true c.index-links-number.is below put'
          ∙ c.loop-number.invariant.each place within;
    }

pub returns : goal.returns
returns c = record {
  size = c.loop-number.invariant.size;
  each = λ place within.
      let held = slice_index_or c.loop-number.named.items place None in
      sym (or_none held)
      ∙ (sym (at_drop_all (λ ls. option_or held (position_from (names_port c.args.header.now.module.now place) c.loop-number.number ls)) c.args.links.now c.loop-number.number c.loop-number-test.false)
      ∙ c.loop-number.invariant.each place within);
}
