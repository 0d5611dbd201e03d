-- What tables know of names.
use Rattle.std.specs.Prelude.{◌≡◌, ℕ, Bool, List, [], ◌∷◌, Option, None}
use Rattle.std.specs.List.{list_any, position_from}
use Rattle.std.specs.Map.{lookup}
use Rattle.std.specs.Str.{bytes_eq}
use Rattle.bud_design.specs.Lists.{first_again, has_name}
use Rattle.indexmap.specs.IndexMap.{IndexMap}
use Rattle.indexmap.specs.IndexSet.{IndexSet}
use Rattle.module_nets.specs.declared.keys.Key.{Key}

-- what a table has at a name
abbrev pub known : {V S : Type 0} → IndexMap Key V S → List ℕ → Option V
known table name = lookup (λ (k : Key). bytes_eq name k.name.now) table.entries

-- whether a set has a name
abbrev pub holds : {S : Type 0} → IndexSet Key S → List ℕ → Bool
holds names name = list_any (λ (k : Key). bytes_eq name k.name.now) names.keys

-- the table has each name's first place in the list
abbrev pub IsNumbered : {X : Type 0} → (X → List ℕ) → List X → (List ℕ → Option ℕ) → Type 0
IsNumbered name_of xs knows = (q : List ℕ) → knows q ≡ position_from (λ x. bytes_eq (name_of x) q) 0 xs

-- the names seen behind a list, the last first
abbrev pub seen_behind : List (List ℕ) → List (List ℕ) → List (List ℕ)
seen_behind seen [] = seen
seen_behind seen (name ∷ names) = seen_behind (name ∷ seen) names

-- the set has these names
abbrev pub HasNames : List (List ℕ) → (List ℕ → Bool) → Type 0
HasNames names has = (q : List ℕ) → has q ≡ has_name names q

-- the first name that stands before, in the list or among those seen; where none does the set has all of them
pub record IsAgain (seen names : List (List ℕ)) (has : List ℕ → Bool) (again : Option (List ℕ)) : Type 0 where
  pub first : again ≡ first_again seen names
  pub noted : again ≡ None → HasNames (seen_behind seen names) has
