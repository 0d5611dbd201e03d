use Rattle.std.proofs.Common.{◌≡◌, ap, sym, ◌∙◌, subst, IfOk, rules}
use Rattle.bud_design.specs.Layers.{class_number}
use Rattle.bud_design.specs.declared.layers.Class.{Class}
use Rattle.path_states.specs.Tables.{table_of, class_in, state_at}
use Rattle.path_states.specs.Entering.{Enters}
use Rattle.path_states.proofs.ClassStays.{class-stays}
use Rattle.path_states.proofs.exploring.enter_behind.Goals as goal

pub returns-then-not-index : goal.returns-then-not-index
returns-then-not-index c =
    let here : class_number c.args.table.now.kinds (state_at c.as_slice.result.now c.args.from).kind ≡ class_in (table_of c.args.table.now) c.args.from =
    ap (λ xs. class_number c.args.table.now.kinds (state_at xs c.args.from).kind) c.as_slice.ensures.keys in
    let stays = class-stays c.args.all.now (class_in (table_of c.args.table.now) c.args.from) c.args.pin.0 (c.requires.groups.outside c.args.pin.0 c.requires.pin (search rules)) in
    subst (λ (k : Class). IfOk c.enter_kind.result (λ i. Enters (table_of c.args.table.now) (table_of c.enter_kind.new.table) i c.args.pin.0 k c.args.launch))
    (here ∙ sym stays) c.enter_kind.ensures
