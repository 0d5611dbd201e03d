-- What the rows of a delay file (IEEE 1497) name in a flat design, and the refusals of a row.
use Rattle.std.specs.Prelude.{◌≡◌, ℕ, ◌==◌, ◌&&◌, ◌||◌, ℤ, Bool, true, false, List, [], ◌∷◌, ◌++◌, All, Option, Some, None, if◌then◌else◌}
use Rattle.std.specs.Option.{option_or}
use Rattle.std.specs.Str.{bytes_eq}
use Rattle.bud_syntax.specs.declared.modules.Dir.{Dir}
use Rattle.bud_syntax.specs.declared.delays.SdfRow.{SdfRow}
use Rattle.bud_syntax.specs.declared.delays.SdfKind.{SdfKind}
use Rattle.bud_syntax.specs.declared.delays.SdfKind.TheVariants.{Cell, Delay, Wire, Setup}
use Rattle.delay_bind.specs.declared.faults.BindFault.{BindFault}
use Rattle.delay_bind.specs.declared.faults.BindFault.TheVariants.{UnknownInstance, WrongCell, NotALeaf, UnknownPin}
use Rattle.bud_design.specs.Designs.{Design, place_at, pin_at, named_pins, named_cells, is_input, is_output}
use Rattle.bud_design.specs.Names.{plain, meaning}
use Rattle.net_delays.specs.Nets.{AreOneNet}

abbrev pub is_empty_name : List ℕ → Bool
is_empty_name [] = true
is_empty_name (b ∷ bs) = false

-- the place of a row's instance: the top where it is empty
abbrev pub row_place : Design → SdfRow → Option ℕ
row_place d row = if is_empty_name row.instance then Some 0 else meaning (named_cells d 0) row.instance

-- a row's name of a pin, with the row's instance in front
abbrev pub row_name : SdfRow → List ℕ → List ℕ
row_name row name = if is_empty_name row.instance then name else row.instance ++ 47 ∷ name

abbrev pub row_pin : Design → SdfRow → List ℕ → Option ℕ
row_pin d row name = meaning (named_pins d 0) (row_name row name)

abbrev pub unless : Bool → BindFault → Option BindFault
unless true fault = None
unless false fault = Some fault

abbrev pub names_cell : Design → ℕ → SdfRow → Bool
names_cell d p row = is_empty_name row.instance || (bytes_eq (place_at d.places p).«module» row.cell || bytes_eq (plain (place_at d.places p).«module») row.cell)

-- the row's name means a pin of the row's place, of this direction
abbrev pub is_own_pin : Design → ℕ → (Dir → Bool) → Option ℕ → Bool
is_own_pin d p dir None = false
is_own_pin d p dir (Some v) = (pin_at d.pins v).place == p && dir (pin_at d.pins v).dir

abbrev pub own_pin_fault : Design → ℕ → SdfRow → (Dir → Bool) → List ℕ → Option BindFault
own_pin_fault d p row dir name = unless (is_own_pin d p dir (row_pin d row name)) (UnknownPin (row_name row name))

abbrev pub is_found : Option ℕ → Bool
is_found None = false
is_found (Some v) = true

abbrev pub pin_fault : Design → SdfRow → List ℕ → Option BindFault
pin_fault d row name = unless (is_found (row_pin d row name)) (UnknownPin (row_name row name))

-- a delay goes from an input to an output of its leaf, a check has two inputs, and an interconnect names any pins
abbrev pub kind_fault : Design → ℕ → SdfRow → SdfKind → Option BindFault
kind_fault d p row Cell = None
kind_fault d p row (Delay from edge to value) =
    option_or (unless (place_at d.places p).leaf (NotALeaf row.instance)) (option_or (own_pin_fault d p row is_input from) (own_pin_fault d p row is_output to))
kind_fault d p row (Wire from to value) = option_or (pin_fault d row from) (pin_fault d row to)
kind_fault d p row (Setup pin clock edge value) =
    option_or (unless (place_at d.places p).leaf (NotALeaf row.instance)) (option_or (own_pin_fault d p row is_input pin) (own_pin_fault d p row is_input clock))

abbrev pub placed_fault : Design → SdfRow → Option ℕ → Option BindFault
placed_fault d row None = Some (UnknownInstance row.instance)
placed_fault d row (Some p) = option_or (unless (names_cell d p row) (WrongCell row.instance)) (kind_fault d p row row.kind)

-- the first refusal of a row by its names
abbrev pub name_fault : Design → SdfRow → Option BindFault
name_fault d row = placed_fault d row (row_place d row)

abbrev pub AreJoined : Design → Option ℕ → Option ℕ → Type 0
AreJoined d (Some a) (Some b) = AreOneNet d a b
AreJoined d None to = ⊥
AreJoined d (Some a) None = ⊥

abbrev pub IsJoined : Design → SdfRow → SdfKind → Type 0
IsJoined d row (Wire from to value) = AreJoined d (row_pin d row from) (row_pin d row to)
IsJoined d row Cell = Unit {0}
IsJoined d row (Delay from edge to value) = Unit {0}
IsJoined d row (Setup pin clock edge value) = Unit {0}

-- nothing of the row is refused
pub record IsAcceptedRow (d : Design) (row : SdfRow) : Type 0 where
  pub named : name_fault d row ≡ None
  pub joined : IsJoined d row row.kind

-- the row names two pins that aren't on one net
pub record IsApart (d : Design) (row : SdfRow) (from to : List ℕ) : Type 0 where
  pub named : name_fault d row ≡ None
  pub value : ℤ
  pub wire : row.kind ≡ Wire from to value
  pub apart : AreJoined d (row_pin d row from) (row_pin d row to) → ⊥

-- the first row that isn't accepted
pub record IsFirstRefused (d : Design) (rows : List SdfRow) (row : SdfRow) : Type 0 where
  pub before : List SdfRow
  pub behind : List SdfRow
  pub stands : rows ≡ before ++ row ∷ behind
  pub accepted : All (IsAcceptedRow d) before

-- a row's names refuse it so, and no row before it is refused
pub record IsRowFault (d : Design) (rows : List SdfRow) (fault : BindFault) : Type 0 where
  pub row : SdfRow
  pub first : IsFirstRefused d rows row
  pub refused : name_fault d row ≡ Some fault

-- a row's pins aren't on one net, and no row before it is refused
pub record IsNetFault (d : Design) (rows : List SdfRow) (from to : List ℕ) : Type 0 where
  pub row : SdfRow
  pub first : IsFirstRefused d rows row
  pub from_name : List ℕ
  pub to_name : List ℕ
  pub apart : IsApart d row from_name to_name
  pub from_is : from ≡ row_name row from_name
  pub to_is : to ≡ row_name row to_name
