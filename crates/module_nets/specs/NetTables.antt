-- What a table of a module's nets says: places, counts, ranges, and which bits a piece stands for.
use Rattle.std.specs.Prelude.{◌≡◌, ℕ, ◌<◌, length, map, true, List, [], Option, Some, None, slice_index_or}
use Rattle.bud_design.specs.Lists.{has_name}
use Rattle.bud_syntax.specs.declared.modules.Piece.{Piece}
use Rattle.bud_syntax.specs.declared.modules.Module.{Module}
use Rattle.module_nets.specs.Nets.{NetBit, all_bits, numbers_between, piece_bits, piece_net, net_bits}
use Rattle.module_nets.specs.Numbers.{module_nets}
use Rattle.module_nets.specs.declared.nets.Span.{Span}

-- the net bit of a number
abbrev pub bit_at : Module → ℕ → NetBit
bit_at m n = slice_index_or (all_bits m) n (record { net = []; bit = None })

-- a net of this name is a port, is declared or is used
abbrev pub IsNetOf : Module → List ℕ → Type 0
IsNetOf m name = has_name (map (λ n. n.name) (module_nets m)) name ≡ true

-- the piece is a constant, or of a net of the module
abbrev pub IsOfNet : Module → Option (List ℕ) → Type 0
IsOfNet m None = Unit {0}
IsOfNet m (Some name) = IsNetOf m name

-- these bits are those from the first number of the span to its last
pub record IsSpan (m : Module) (bits : List (Option NetBit)) (span : Span) : Type 0 where
  pub numbered : bits ≡ map (λ n. Some (bit_at m n)) (numbers_between span.first span.last)
  pub first : span.first < length (all_bits m)
  pub last : span.last < length (all_bits m)

-- a piece has a span unless it is a constant
abbrev pub IsSpanOf : Module → Piece → Option Span → Type 0
IsSpanOf m piece None = piece_net piece ≡ None
IsSpanOf m piece (Some span) = IsSpan m (piece_bits m piece) span

-- a net of the module has a span
abbrev pub IsNetSpan : Module → List ℕ → Option Span → Type 0
IsNetSpan m name None = ⊥
IsNetSpan m name (Some span) = IsSpan m (map (λ b. Some b) (net_bits m name)) span

-- the net bit of a number
abbrev pub IsBitAt : Module → ℕ → Option NetBit → Type 0
IsBitAt m n None = ⊥
IsBitAt m n (Some b) = b ≡ bit_at m n
