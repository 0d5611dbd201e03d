use Rattle.std.proofs.Common.{length, arith}
use Rattle.sdf_reader.specs.Nests.{no_list, nested, lists, is_last, element, before_last}
use Rattle.sdf_reader.specs.Cells.{many}
use Rattle.sdf_reader.proofs.ListLaws.{until_complete, nested_less, element_less}
use Rattle.sdf_reader.proofs.laws.all_repetitions.Goals as goal

pub returns-clause-entries : goal.returns-clause-entries
unfolding many
returns-clause-entries c = λ next less s t runs. until_complete (λ r. no_list r.1) next (λ r. length r.1.0) less (length s.1.0) s t runs (omega arith)

pub returns-clause-lists : goal.returns-clause-lists
unfolding lists
returns-clause-lists c = λ s t runs. until_complete no_list nested (λ r. length r.0) nested_less (length s.0) s t runs (omega arith)

pub returns-clause-elements : goal.returns-clause-elements
unfolding before_last
returns-clause-elements c = λ s t runs. until_complete is_last element (λ r. length r.0) element_less (length s.0) s t runs (omega arith)
