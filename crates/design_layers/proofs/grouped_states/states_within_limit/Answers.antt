use Rattle.std.proofs.Common.{◌≡◌, length, refl, ◌∙◌, arith}
use Rattle.std.proofs.lemmas.Map.Made.{AllPairs-from_IsDistinct}
use Rattle.path_states.specs.Tables.{table_of}
use Rattle.design_layers.specs.GroupedStates.{grouped_states}
use Rattle.design_layers.proofs.StateLimit.{State-same, grouped-counted}
use Rattle.design_layers.proofs.grouped_states.states_within_limit.Goals as goal
use Rattle.design_layers.proofs.grouped_states.states_within_limit.Goals.{After-count_marked}

counted : (c : After-count_marked) → c.count_marked.result ≡ length (grouped_states c.args.all.now (table_of c.in-Ok.table))
counted c =
    grouped-counted c.args.all.now (table_of c.in-Ok.table) c.as_slice.result.now c.as_slice-3.result.now c.as_slice-2.result.now c.count_marked.result c.in-Ok.ensures.states.lists.kinds
    c.as_slice.ensures (c.as_slice-3.ensures.value ∙ c.in-Ok-grouped_kinds.ensures) c.as_slice-2.ensures.keys c.count_marked.ensures

pub returns-then-count_marked-gt-MOST_STATES : goal.returns-then-count_marked-gt-MOST_STATES
returns-then-count_marked-gt-MOST_STATES c = (
  record {
    table = table_of c.in-Ok.table;
    explored = c.in-Ok.ensures;
    different = AllPairs-from_IsDistinct State-same c.in-Ok.table.states.keys c.as_slice-2.ensures.unique;
    more = omega (arith, counted (goal.at.returns-then-count_marked-gt-MOST_STATES c).After-count_marked, c.if-count_marked-gt-MOST_STATES.true);
  },
  refl,
)

pub returns : goal.returns
returns c = (c.in-Ok.ensures, omega (arith, counted (goal.at.returns c).After-count_marked, c.if-count_marked-gt-MOST_STATES.false))
