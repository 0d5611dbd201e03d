-- The earliest and latest arrivals of nodes, the values that they give in a block's file, and what is refused before one is written.
use Rattle.std.specs.Prelude.{◌≡◌, ℕ, ◌<◌, ◌&&◌, not, ℤ, pos, negsuc, int_le, ◌+ℤ◌, ◌-ℤ◌, ◌≤ℤ◌, Bool, List, [], ◌∷◌, ◌++◌, map, length, find, flat_map, Option, Some, None, Result, Ok, Err}
use Rattle.std.specs.Option.{option_map}
use Rattle.bud_base.specs.Paths.{Joins, start_at, end_at, sum_along, least_of}
use Rattle.bud_base.specs.declared.ids.ItemId.{ItemId}
use Rattle.bud_base.specs.declared.problems.Problem.{Problem}
use Rattle.bud_design.specs.declared.clocks.Constraints.{Constraints}
use Rattle.bud_design.specs.declared.layers.Layered.{Layered}
use Rattle.bud_design.specs.declared.policies.Policy.{Policy}
use Rattle.bud_design.specs.Designs.{Design, pin_name}
use Rattle.bud_design.specs.Lists.{first_some}
use Rattle.bud_design.specs.Policies.{blocks_of}
use Rattle.bud_flow.specs.Sums.{number_at}
use Rattle.block_theory.specs.declared.refusals.WriteFault.{WriteFault}
use Rattle.block_theory.specs.declared.refusals.WriteFault.TheVariants.{ThroughInside, Range, NoMemory}
use Rattle.block_theory.specs.BlockFiles.{input_amount, output_amount}
use Rattle.block_theory.specs.BlockPorts.{input_nodes, output_nodes}
use Rattle.block_theory.specs.Blocks.{through_inside}

-- items, none or some, lead from a start to the node, and at least delays this is the arrival by them
pub record ArrivesBy (p : Problem) (n : ℕ) (time : ℤ) : Type 0 where
  pub start : ℕ
  pub number : start < length p.starts
  pub items : List ItemId
  pub joined : Joins p.items (start_at p.starts start).node.0 items n
  pub time_is : time ≡ (start_at p.starts start).offset +ℤ sum_along (least_of p) items

-- items, none or some, lead from the node to an end, and at least delays this is the time by which they leave it (required time)
pub record LeavesBy (p : Problem) (n : ℕ) (time : ℤ) : Type 0 where
  pub end : ℕ
  pub number : end < length p.ends
  pub items : List ItemId
  pub joined : Joins p.items n items (end_at p.ends end).node.0
  pub time_is : time ≡ (end_at p.ends end).require -ℤ sum_along (least_of p) items

-- the earliest arrival waits for the slowest items; the latest leaves time for them
pub record IsEarliest (p : Problem) (n : ℕ) (time : ℤ) : Type 0 where
  pub attained : ArrivesBy p n time
  pub greatest : (other : ℤ) → ArrivesBy p n other → other ≤ℤ time

pub record IsLatest (p : Problem) (n : ℕ) (time : ℤ) : Type 0 where
  pub attained : LeavesBy p n time
  pub least : (other : ℤ) → LeavesBy p n other → time ≤ℤ other

-- one number for each node
pub record AreExtremes (p : Problem) (early late : List ℤ) : Type 0 where
  pub early_one_each : length early ≡ p.nodes
  pub late_one_each : length late ≡ p.nodes
  pub earliest : (n : ℕ) → n < p.nodes → IsEarliest p n (number_at early n)
  pub latest : (n : ℕ) → n < p.nodes → IsLatest p n (number_at late n)

-- the arrival of each node lies between its earliest and its latest
pub record LieBetween (p : Problem) (early arrivals late : List ℤ) : Type 0 where
  pub from : (n : ℕ) → n < p.nodes → number_at early n ≤ℤ number_at arrivals n
  pub to : (n : ℕ) → n < p.nodes → number_at arrivals n ≤ℤ number_at late n

-- the values of a block: the delays that its file would have at each node for its earliest and for its latest arrival
abbrev pub input_values : List ℤ → List ℤ → ℕ → List ℤ
input_values early late n = input_amount early n ∷ input_amount late n ∷ []

abbrev pub output_values : Constraints → Layered → List ℤ → List ℤ → ℕ → List ℤ
output_values all layered early late n = output_amount all layered early n ∷ output_amount all layered late n ∷ []

abbrev pub block_values : Design → Constraints → Layered → List ℤ → List ℤ → ℕ → List ℤ
block_values d all layered early late b =
    flat_map (input_values early late) (input_nodes d layered b)
    ++ flat_map (output_values all layered early late) (output_nodes d layered b)

-- a delay that a constraint file may have: within 10^9 ps either way
abbrev pub is_within_limit : ℤ → Bool
is_within_limit z = int_le (negsuc 999999999) z && int_le z (pos 1000000000)

-- the first value past the limit, by block
abbrev pub value_past : Design → Constraints → Layered → List ℤ → List ℤ → List ℕ → Option ℤ
value_past d all layered early late blocks = first_some (λ b. find (λ z. not (is_within_limit z)) (block_values d all layered early late b)) blocks

abbrev pub IsPastValue : Design → Constraints → Layered → List ℕ → Option ℤ → Type 0
IsPastValue d all layered blocks value =
    (early : List ℤ) × ((late : List ℤ) × AreExtremes layered.problem early late × (value_past d all layered early late blocks ≡ value))

abbrev pub block_places : Design → Policy → List ℕ
block_places d policy = map (λ b. b.place) (blocks_of d policy.lines)

-- the printed name of the first through pin that is a port bit of a block or lies inside it
abbrev pub through_name : Design → Constraints → List ℕ → Option (List ℕ)
through_name d all blocks = option_map (pin_name d 0) (through_inside d blocks all.exceptions)

-- files may be written for the blocks, or why not: through pins of all blocks come before any value
abbrev pub AreWritable : Design → Constraints → Layered → List ℕ → Result (Unit {0}) WriteFault → Type 0
AreWritable d all layered blocks (Ok _) = (through_name d all blocks ≡ None) × IsPastValue d all layered blocks None
AreWritable d all layered blocks (Err (ThroughInside name)) = through_name d all blocks ≡ Some name
AreWritable d all layered blocks (Err (Range value)) = (through_name d all blocks ≡ None) × IsPastValue d all layered blocks (Some value)
AreWritable d all layered blocks (Err NoMemory) = Unit {0}
