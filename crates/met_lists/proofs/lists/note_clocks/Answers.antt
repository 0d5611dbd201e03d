use Rattle.std.proofs.Common.{ℕ, ◌==◌, ◌+◌, ◌||◌, take, get_or, refl, ap, ◌∙◌}
use Rattle.bud_design.specs.Exceptions.{has_clock}
use Rattle.name_tables.specs.Chained.{key_at}
use Rattle.met_lists.proofs.Bools.{any-more, turned}
use Rattle.met_lists.proofs.NoteSteps.{Notes-join}
use Rattle.met_lists.proofs.lists.note_clocks.Goals as goal

pub loop-clock-preserved : goal.loop-clock-preserved
loop-clock-preserved c =
    let keys = c.args.table.now.clocks.keys.items in
    let clocks = c.args.clocks.now in
    let i = c.loop-clock.clock-index in
    let k : ℕ = get_or clocks i 0 in
    Notes-join c.args.turn.now c.args.table.now.pins.keys.items (λ v. has_clock (take i clocks) (key_at keys v)) (λ v. key_at keys v == k) (λ v. has_clock (take (i + 1) clocks) (key_at keys v))
    c.args.lists.now c.loop-clock.lists c.note_key.new.lists
    (λ v below. any-more (λ (x : ℕ). x == key_at keys v) clocks i k 0 c.loop-clock-test.true refl ∙ ap (λ b. has_clock (take i clocks) (key_at keys v) || b) (turned k (key_at keys v)))
    c.loop-clock.invariant c.in_ok-note_key.ensures
