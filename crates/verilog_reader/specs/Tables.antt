-- What a table knows of names: nothing, or that it is a port's, with the port's first declaration so far.
use Rattle.std.specs.Prelude.{◌≡◌, ℕ, Bool, true, false, not, List, ◌++◌, filter, is_some, Option, Some, None, Result, Ok, Err}
use Rattle.std.specs.List.{list_all}
use Rattle.bud_syntax.specs.declared.modules.NetDecl.{NetDecl}
use Rattle.std.specs.Map.{lookup}
use Rattle.std.specs.Str.{bytes_eq}
use Rattle.std.specs.Borrow.{Bor}
use Rattle.std.specs.Option.{option_map}
use Rattle.indexmap.specs.IndexMap.{IndexMap}
use Rattle.verilog_reader.specs.Modules.{Declaration, first_declared, is_listed, or_before, declared_again, earlier, earliest, repeats_port, agrees}
use Rattle.verilog_reader.specs.declared.readings.Stop.{Stop}
use Rattle.verilog_reader.specs.declared.readings.Stop.TheVariants.{Syntax, NoMemory}
use Rattle.verilog_reader.specs.declared.trees.Named.{Named}
use Rattle.verilog_reader.specs.declared.trees.Declared.{Declared}
use Rattle.verilog_reader.specs.declared.trees.HeaderPort.{HeaderPort}

abbrev pub known : {S : Type 0} → IndexMap (Bor (List ℕ)) (Option Declared) S → List ℕ → Option (Option Declared)
known table name = lookup (λ (k : Bor (List ℕ)). bytes_eq name k.now) table.entries

-- what is known of a name behind one more declaration
abbrev pub with_first : Option (Option Declared) → Option Declared → Option Declared
with_first None d = d
with_first (Some before) d = or_before d before

-- the named thing that a reference leads to
abbrev pub seen : Option (Bor Named) → Option Named
seen named = option_map (λ (n : Bor Named). n.now) named

-- whether the name is listed, and its first declaration so far
abbrev pub listed_by : (List ℕ → Option (Option Declared)) → List ℕ → Bool
listed_by knows name = is_some (knows name)

abbrev pub joined : Option (Option Declared) → Option Declared
joined None = None
joined (Some d) = d

abbrev pub declared_by : (List ℕ → Option (Option Declared)) → List ℕ → Option Declared
declared_by knows name = joined (knows name)

-- the table knows the ports listed so far, by the declarations so far
pub record IsTable (listed : List HeaderPort) (declared : List Declaration) (knows : List ℕ → Option (Option Declared)) : Type 0 where
  pub listed_is : (name : List ℕ) → listed_by knows name ≡ is_listed listed name
  pub declared_is : (name : List ℕ) → declared_by knows name ≡ first_declared declared name

abbrev pub are_listed : List HeaderPort → List Declaration → Bool
are_listed listed ds = list_all (λ d. is_listed listed d.named.name) ds

-- What has been done where these declarations have been taken in behind those before: the table knows of them, and what
-- is declared again counts as a fault; where a name isn't listed they aren't taken in.
abbrev pub IsDeclaring : List HeaderPort → List Declaration → List Declaration → (List ℕ → Option (Option Declared)) → Option Named → Result (Option (Bor Named)) Stop → Type 0
IsDeclaring listed before ds knows fault (Ok found) =
    IsTable listed (before ++ ds) knows × (are_listed listed ds ≡ true) × (seen found ≡ earlier fault (earliest (declared_again before ds)))
IsDeclaring listed before ds knows fault (Err (Syntax at)) = are_listed listed ds ≡ false
IsDeclaring listed before ds knows fault (Err NoMemory) = Unit {0}

-- the nets are added that don't repeat ports; where one repeats a port with another range this isn't done
abbrev pub AddsNets : (List ℕ → Option (Option Declared)) → List NetDecl → List NetDecl → List NetDecl → Result (Unit {0}) Stop → Type 0
AddsNets knows nets old new (Ok _) =
    (new ≡ old ++ filter (λ n. not (repeats_port (listed_by knows) n)) nets) × (list_all (agrees (listed_by knows) (declared_by knows)) nets ≡ true)
AddsNets knows nets old new (Err (Syntax at)) = list_all (agrees (listed_by knows) (declared_by knows)) nets ≡ false
AddsNets knows nets old new (Err NoMemory) = Unit {0}
