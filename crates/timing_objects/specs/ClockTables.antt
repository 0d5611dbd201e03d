-- Clocks found by their names and sources.
use Rattle.std.specs.Prelude.{◌≡◌, ℕ, ◌==◌, Bool, List, map}
use Rattle.std.specs.List.{list_any}
use Rattle.bud_design.specs.declared.clocks.Clock.{Clock}
use Rattle.text_tables.specs.Standings.{IsOf}
use Rattle.text_tables.specs.declared.standings.TextTable.{TextTable}

-- a clock has the pin as a source
abbrev pub has_source : List Clock → ℕ → Bool
has_source clocks v = list_any (λ c. list_any (λ p. p.0 == v) c.sources) clocks

abbrev pub holds : List ℕ → ℕ → Bool
holds pins v = list_any (λ u. v == u) pins

-- the table has the names of the clocks, and these are their sources
pub record AreFound (clocks : List Clock) (names : TextTable) (sources : List ℕ) : Type 0 where
  pub named : IsOf (map (λ c. c.name) clocks) names
  pub sourced : (v : ℕ) → holds sources v ≡ has_source clocks v
