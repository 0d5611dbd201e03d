-- Which exceptions have groups, by their numbers.
use Rattle.std.specs.Prelude.{◌≡◌, ℕ, ◌==◌, nat_lt, Bool, List, length, find}
use Rattle.std.specs.Map.{lookup}
use Rattle.std.specs.Option.{option_map}
use Rattle.bud_design.specs.declared.clocks.Exception.{Exception}

abbrev pub has_some : Exception → Bool
has_some e = nat_lt 0 (length e.groups)

-- a number has the mark of the first exception that has it
abbrev pub AreMarked : List Exception → List (ℕ × Bool) → Type 0
AreMarked es marks = (q : ℕ) → lookup (λ k. q == k) marks ≡ option_map has_some (find (λ e. e.number == q) es)
