use Rattle.std.specs.Prelude.{◌≡◌, ℕ, List, ◌++◌, Option, Some, None, MatchOption, ◌≢◌}
use Rattle.std.specs.Borrow.{Bor}
use Rattle.std.proofs.lemmas.Slice.Eq.{strip_suffix_is}
use Rattle.std.proofs.lemmas.Bool.Decides.{Decides-eqb}
use Rattle.flat_design.specs.Fronts.{IsBefore}
use Rattle.flat_design.proofs.texts.before_end.Goals as goal

is-before : (text end : List ℕ) (result : Option (Bor (List ℕ))) → MatchOption result ((front : List ℕ) → text ≢ front ++ end) (λ x. text ≡ x.now ++ end) → IsBefore text end result
is-before text end None none = none
is-before text end (Some b) some = some

pub returns : goal.returns
returns c = is-before c.args.text.now c.args.end.now c.strip_suffix.result (strip_suffix_is Decides-eqb c.args.text.now c.args.end.now c.strip_suffix.result c.strip_suffix.ensures.cases)
