-- Where texts stand among texts.
use Rattle.std.specs.Prelude.{◌≡◌, ℕ, ◌==◌, true, false, List, length, filter, Option, Some, None}
use Rattle.std.specs.List.{position_from}
use Rattle.std.specs.Map.{lookup}
use Rattle.std.specs.Option.{option_map}
use Rattle.std.specs.Str.{bytes_eq}
use Rattle.text_tables.specs.declared.standings.Standing.{Standing}
use Rattle.text_tables.specs.declared.standings.TextTable.{TextTable}

-- what the table has at a text
abbrev pub known : TextTable → List ℕ → Option Standing
known table q = lookup (λ k. bytes_eq q k.items) table.standings.entries

-- where a text stands: its first number, and whether it is the only one that is equal
abbrev pub standing : List (List ℕ) → List ℕ → Option Standing
standing texts q =
    option_map (λ i. record { first = i; alone = length (filter (λ t. bytes_eq t q) texts) == 1 })
    (position_from (λ t. bytes_eq t q) 0 texts)

-- the table tells where each text stands among these
abbrev pub IsOf : List (List ℕ) → TextTable → Type 0
IsOf texts table = (q : List ℕ) → known table q ≡ standing texts q

-- where a text stands behind one more that is equal to it
abbrev pub behind : Option Standing → ℕ → Standing
behind (Some s) number = record { first = s.first; alone = false }
behind None number = record { first = number; alone = true }
