-- The refusals that names give a row.
use Rattle.std.specs.Option.{option_or}
use Rattle.std.proofs.Common.{◌≡◌, ℕ, Bool, true, false, List, Option, Some, None, Err, subst}
use Rattle.std.proofs.lemmas.Option.{same_Some, none-some}
use Rattle.bud_syntax.specs.declared.modules.Dir.{Dir}
use Rattle.bud_syntax.specs.declared.delays.SdfRow.{SdfRow}
use Rattle.bud_syntax.specs.declared.delays.SdfKind.{SdfKind}
use Rattle.bud_syntax.specs.declared.delays.SdfKind.TheVariants.{Cell, Delay, Wire, Setup as SetupRow}
use Rattle.bud_design.specs.Designs.{Design, place_at, is_input, is_output}
use Rattle.delay_bind.specs.Answers.{UnlessMemory}
use Rattle.delay_bind.specs.Rows.{row_place, row_name, row_pin, unless, names_cell, is_own_pin, own_pin_fault, is_found, pin_fault, kind_fault, placed_fault, name_fault}
use Rattle.delay_bind.specs.RowAnswers.{IsRowAnswer}
use Rattle.delay_bind.specs.declared.faults.BindFault.{BindFault}
use Rattle.delay_bind.specs.declared.faults.BindFault.TheVariants.{UnknownInstance, WrongCell, NotALeaf, UnknownPin, NotOneNet, MixedEdge, Latch, NegativeDelay, NegativeRest, NoMemory}
use Rattle.delay_bind.proofs.EntryLaws.{or-such}

-- the refusal is for a name
abbrev IsOfName : BindFault → Type 0
IsOfName (UnknownInstance name) = Unit {0}
IsOfName (WrongCell name) = Unit {0}
IsOfName (NotALeaf name) = Unit {0}
IsOfName (UnknownPin name) = Unit {0}
IsOfName (NotOneNet from to) = ⊥
IsOfName (MixedEdge name) = ⊥
IsOfName (Latch name) = ⊥
IsOfName (NegativeDelay from to) = ⊥
IsOfName (NegativeRest to) = ⊥
IsOfName NoMemory = ⊥

unless-such : (b : Bool) (fault y : BindFault) → IsOfName fault → unless b fault ≡ Some y → IsOfName y
unless-such true fault y such e = absurd (none-some y e)
unless-such false fault y such e = subst IsOfName (same_Some fault y e) such

module _ (d : Design) (row : SdfRow) where
  own-such : (p : ℕ) (dir : Dir → Bool) (name : List ℕ) (y : BindFault) → own_pin_fault d p row dir name ≡ Some y → IsOfName y
  own-such p dir name y = unless-such (is_own_pin d p dir (row_pin d row name)) (UnknownPin (row_name row name)) y tt

  pin-such : (name : List ℕ) (y : BindFault) → pin_fault d row name ≡ Some y → IsOfName y
  pin-such name y = unless-such (is_found (row_pin d row name)) (UnknownPin (row_name row name)) y tt

  leaf-such : (p : ℕ) (y : BindFault) → unless (place_at d.places p).leaf (NotALeaf row.instance) ≡ Some y → IsOfName y
  leaf-such p y = unless-such (place_at d.places p).leaf (NotALeaf row.instance) y tt

  kind-such : (p : ℕ) (kind : SdfKind) (y : BindFault) → kind_fault d p row kind ≡ Some y → IsOfName y
  kind-such p Cell y e = absurd (none-some y e)
  kind-such p (Delay from edge to value) y e =
      or-such IsOfName (unless (place_at d.places p).leaf (NotALeaf row.instance)) (option_or (own_pin_fault d p row is_input from) (own_pin_fault d p row is_output to)) y (leaf-such p y)
      (or-such IsOfName (own_pin_fault d p row is_input from) (own_pin_fault d p row is_output to) y (own-such p is_input from y) (own-such p is_output to y)) e
  kind-such p (Wire from to value) y e = or-such IsOfName (pin_fault d row from) (pin_fault d row to) y (pin-such from y) (pin-such to y) e
  kind-such p (SetupRow pin clock edge value) y e =
      or-such IsOfName (unless (place_at d.places p).leaf (NotALeaf row.instance)) (option_or (own_pin_fault d p row is_input pin) (own_pin_fault d p row is_input clock)) y (leaf-such p y)
      (or-such IsOfName (own_pin_fault d p row is_input pin) (own_pin_fault d p row is_input clock) y (own-such p is_input pin y) (own-such p is_input clock y)) e

  placed-such : (o : Option ℕ) (y : BindFault) → placed_fault d row o ≡ Some y → IsOfName y
  placed-such None y e = subst IsOfName (same_Some (UnknownInstance row.instance) y e) tt
  placed-such (Some p) y e =
      or-such IsOfName (unless (names_cell d p row) (WrongCell row.instance)) (kind_fault d p row row.kind) y (unless-such (names_cell d p row) (WrongCell row.instance) y tt) (kind-such p row.kind y) e

  of_name : (y : BindFault) → name_fault d row ≡ Some y → IsOfName y
  of_name y e = placed-such (row_place d row) y e

  -- the refusal for a name
  pub IsRowAnswer-named : (fault : BindFault) → UnlessMemory fault (name_fault d row ≡ Some fault) → IsRowAnswer d row (Err fault)
  IsRowAnswer-named (UnknownInstance name) is = is
  IsRowAnswer-named (WrongCell name) is = is
  IsRowAnswer-named (NotALeaf name) is = is
  IsRowAnswer-named (UnknownPin name) is = is
  IsRowAnswer-named (NotOneNet from to) is = absurd (of_name (NotOneNet from to) is)
  IsRowAnswer-named (MixedEdge name) is = absurd (of_name (MixedEdge name) is)
  IsRowAnswer-named (Latch name) is = absurd (of_name (Latch name) is)
  IsRowAnswer-named (NegativeDelay from to) is = absurd (of_name (NegativeDelay from to) is)
  IsRowAnswer-named (NegativeRest to) is = absurd (of_name (NegativeRest to) is)
  IsRowAnswer-named NoMemory is = tt
