-- Clocks whose names differ.
use Rattle.std.specs.Prelude.{◌≡◌, false, List, AllPairs}
use Rattle.std.specs.Str.{bytes_eq}
use Rattle.bud_design.specs.declared.clocks.Clock.{Clock}

abbrev pub NamesDiffer : List Clock → Type 0
NamesDiffer clocks = AllPairs (λ a b. bytes_eq a.name b.name ≡ false) clocks
