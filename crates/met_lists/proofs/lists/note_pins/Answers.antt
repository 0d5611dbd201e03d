use Rattle.std.proofs.Common.{◌==◌, ◌+◌, ◌||◌, take, get_or, refl, ap, ◌∙◌}
use Rattle.bud_base.specs.declared.ids.PinId.{PinId}
use Rattle.bud_design.specs.Exceptions.{has_pin}
use Rattle.name_tables.specs.Chained.{key_at}
use Rattle.met_lists.proofs.Bools.{any-more, turned}
use Rattle.met_lists.proofs.NoteSteps.{Notes-join}
use Rattle.met_lists.proofs.lists.note_pins.Goals as goal

pub loop-pin-preserved : goal.loop-pin-preserved
loop-pin-preserved c =
    let keys = c.args.table.now.pins.keys.items in
    let pins = c.args.pins.now in
    let i = c.loop-pin.pin-index in
    let p : PinId = get_or pins i (record { 0 = 0 }) in
    Notes-join c.args.turn.now keys (λ v. has_pin (take i pins) (key_at keys v)) (λ v. key_at keys v == p.0) (λ v. has_pin (take (i + 1) pins) (key_at keys v)) c.args.lists.now c.loop-pin.lists
    c.note_key.new.lists
    (λ v below. any-more (λ (x : PinId). x.0 == key_at keys v) pins i p (record { 0 = 0 }) c.loop-pin-test.true refl ∙ ap (λ b. has_pin (take i pins) (key_at keys v) || b) (turned p.0 (key_at keys v)))
    c.loop-pin.invariant c.in_ok-note_key.ensures
