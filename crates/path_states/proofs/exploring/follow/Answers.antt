use Rattle.std.proofs.Common.{refl}
use Rattle.bud_base.specs.Paths.{item_at}
use Rattle.bud_design.specs.Exceptions.{class_at}
use Rattle.path_states.specs.Tables.{table_of, class_in}
use Rattle.path_states.proofs.ExploringSteps.{Follows-added}
use Rattle.path_states.proofs.exploring.follow.Goals as goal

pub returns : goal.returns
returns c =
    Follows-added _ _ _ (table_of c.enter_behind.new.table) _ (record { 0 = c.args.from }) (record { 0 = c.in_ok-to.to }) (record { 0 = c.args.arc.0 }) c.args.launch
    (item_at c.args.arcs.now c.args.arc.0).to.0 (class_at c.args.all.now (class_in (table_of c.args.table.now) c.args.from) (item_at c.args.arcs.now c.args.arc.0).to.0) c.requires.state
    c.in_ok-to.ensures c.in_ok-add_edge.ensures refl refl
