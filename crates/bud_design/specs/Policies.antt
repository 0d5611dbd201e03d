-- Policy lines: the blocks and arcs that they name, the extra and the weight of an item, and the refusals of lines.
use Rattle.std.specs.Prelude.{ℕ, ◌==◌, ◌&&◌, ◌||◌, not, ℤ, pos, Bool, true, false, List, [], ◌∷◌, filter_map, reverse, is_some, Option, Some, None, if◌then◌else◌}
use Rattle.std.specs.List.{list_any}
use Rattle.std.specs.Option.{option_map}
use Rattle.std.specs.Str.{bytes_eq}
use Rattle.bud_design.specs.declared.clocks.Clock.{Clock}
use Rattle.bud_design.specs.declared.policies.PolicyLine.{PolicyLine}
use Rattle.bud_design.specs.declared.policies.PolicyLine.TheVariants as line
use Rattle.bud_design.specs.declared.policies.Policy.{Policy}
use Rattle.bud_design.specs.Arcs.{Arc, arc_at, arc_between}
use Rattle.bud_design.specs.Designs.{Design, place_at, is_inside, named_pins, named_cells}
use Rattle.bud_design.specs.Names.{meaning}

-- the arc that two names mean
abbrev pub joined_arc : List Arc → Option ℕ → Option ℕ → Option ℕ
joined_arc arcs (Some a) (Some b) = arc_between arcs a b
joined_arc arcs None to = None
joined_arc arcs (Some a) None = None

abbrev pub arc_called : Design → List Arc → List ℕ → List ℕ → Option ℕ
arc_called d arcs from to = joined_arc arcs (meaning (named_pins d 0) from) (meaning (named_pins d 0) to)

abbrev pub is_number : ℕ → Option ℕ → Bool
is_number n None = false
is_number n (Some m) = m == n

abbrev pub holds_place : Design → ℕ → Option ℕ → Bool
holds_place d p None = false
holds_place d p (Some root) = is_inside d.places root p

-- a line without a clock counts for every clock
abbrev pub suits_clock : Option (List ℕ) → Clock → Bool
suits_clock None c = true
suits_clock (Some name) c = bytes_eq c.name name

-- what a line gives an arc in a class of a clock: extra and weight
pub record Share : Type 0 where
  pub extra : ℤ
  pub weight : ℕ

abbrev pub share_if : Bool → ℤ → ℕ → Option Share
share_if false extra weight = None
share_if true extra weight = Some (record { extra = extra; weight = weight })

abbrev pub share_of : Design → List Arc → ℕ → Clock → PolicyLine → Option Share
share_of d arcs a c (line.Block path) = None
share_of d arcs a c (line.Default extra weight clock) = share_if (suits_clock clock c) extra weight
share_of d arcs a c (line.Inst path extra weight clock) = share_if (suits_clock clock c && holds_place d (arc_at arcs a).home (meaning (named_cells d 0) path)) extra weight
share_of d arcs a c (line.Arc from to extra weight clock) = share_if (suits_clock clock c && is_number a (arc_called d arcs from to)) extra weight

abbrev pub first_share : List Share → Share
first_share [] = record { extra = pos 0; weight = 0 }
first_share (x ∷ xs) = x

-- that of the last line that counts
abbrev pub share : Design → List Arc → List PolicyLine → ℕ → Clock → Share
share d arcs lines a c = first_share (reverse (filter_map (share_of d arcs a c) lines))

-- the place of a block: a plain instance that a line names
abbrev pub if_plain : Design → Option ℕ → Option ℕ
if_plain d None = None
if_plain d (Some p) = if (place_at d.places p).leaf then None else Some p

abbrev pub block_place : Design → List ℕ → Option ℕ
block_place d path = if_plain d (meaning (named_cells d 0) path)

pub record Block : Type 0 where
  pub path : List ℕ
  pub place : ℕ

abbrev pub block_of : Design → PolicyLine → Option Block
block_of d (line.Block path) = option_map (λ p. record { path = path; place = p }) (block_place d path)
block_of d (line.Default extra weight clock) = None
block_of d (line.Inst path extra weight clock) = None
block_of d (line.Arc from to extra weight clock) = None

-- the blocks, in policy order
abbrev pub blocks_of : Design → List PolicyLine → List Block
blocks_of d lines = filter_map (block_of d) lines

-- one of two places equals, holds or lies in the other
abbrev pub are_nested : Design → ℕ → ℕ → Bool
are_nested d p q = is_inside d.places p q || is_inside d.places q p

-- an arc is inside a block; glue is inside none
abbrev pub is_glue : Design → List Block → Arc → Bool
is_glue d blocks a = not (list_any (λ b. is_inside d.places b.place a.home) blocks)

abbrev pub has_line_clock : PolicyLine → Bool
has_line_clock (line.Block path) = false
has_line_clock (line.Default extra weight clock) = is_some clock
has_line_clock (line.Inst path extra weight clock) = is_some clock
has_line_clock (line.Arc from to extra weight clock) = is_some clock

-- 2 where the policy says so or a line of it has a clock
abbrev pub version_of : Policy → ℕ
version_of policy = if policy.version == 2 || list_any has_line_clock policy.lines then 2 else 1
