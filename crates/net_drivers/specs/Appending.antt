-- Numbers of net bits, appended to a list.
use Rattle.std.specs.Prelude.{◌≡◌, ℕ, ◌<◌, List, [], ◌∷◌, ◌++◌, length, map, Option, Some, None, All}
use Rattle.std.specs.Option.{option_map}
use Rattle.bud_syntax.specs.declared.modules.Piece.{Piece}
use Rattle.bud_syntax.specs.declared.modules.Piece.TheVariants.{Net, Bit, Part, Const}
use Rattle.bud_syntax.specs.declared.modules.Module.{Module}
use Rattle.module_nets.specs.Entering.{bad_select}
use Rattle.module_nets.specs.Nets.{NetBit, all_bits, piece_net}
use Rattle.module_nets.specs.NetTables.{IsOfNet}
use Rattle.net_drivers.specs.Numbering.{bit_at}
use Rattle.net_drivers.specs.Slots.{IsBelow}

-- the bits of these numbers
abbrev pub named_bits : List NetBit → List (Option ℕ) → List (Option NetBit)
named_bits bits ns = map (λ n. option_map (bit_at bits) n) ns

-- these numbers stand for these bits
pub record AreNumbers (m : Module) (bits : List (Option NetBit)) (ns : List (Option ℕ)) : Type 0 where
  pub named : named_bits (all_bits m) ns ≡ bits
  pub below : All (IsBelow (length (all_bits m))) ns

-- the numbers of these bits are appended
pub record Appends (m : Module) (bits : List (Option NetBit)) (old new : List (Option ℕ)) : Type 0 where
  pub added : List (Option ℕ)
  pub is : new ≡ old ++ added
  pub numbers : AreNumbers m bits added

-- the piece is a constant, or selects bits that a net of the module has
pub record IsFine (m : Module) (piece : Piece) : Type 0 where
  pub used : IsOfNet m (piece_net piece)
  pub select : bad_select m piece ≡ None

abbrev pub constant_width : Piece → ℕ
constant_width (Net name) = 0
constant_width (Bit name n) = 0
constant_width (Part name left right) = 0
constant_width (Const width) = width
