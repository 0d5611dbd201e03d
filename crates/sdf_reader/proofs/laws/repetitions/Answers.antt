use Rattle.std.proofs.Common.{length}
use Rattle.sdf_reader.specs.Nests.{no_list, nested, lists, is_last, element, before_last}
use Rattle.sdf_reader.specs.Cells.{many}
use Rattle.sdf_reader.specs.Headers.{headers, header, ends_headers}
use Rattle.sdf_reader.proofs.ListLaws.{until_sound}
use Rattle.sdf_reader.proofs.laws.repetitions.Goals as goal

pub returns-clause-entries : goal.returns-clause-entries
unfolding many
returns-clause-entries c = λ next s t read. until_sound (λ r. no_list r.1) next (length s.1.0) s t read

pub returns-clause-headers : goal.returns-clause-headers
unfolding headers
returns-clause-headers c = λ s t read. until_sound ends_headers header (length s.1.0) s t read

pub returns-clause-lists : goal.returns-clause-lists
unfolding lists
returns-clause-lists c = λ s t read. until_sound no_list nested (length s.0) s t read

pub returns-clause-elements : goal.returns-clause-elements
unfolding before_last
returns-clause-elements c = λ s t read. until_sound is_last element (length s.0) s t read
