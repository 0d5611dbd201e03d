-- Clocks, and which of them reaches a pin.
use Rattle.std.specs.Prelude.{◌≡◌, ℕ, ◌<◌, ◌==◌, ◌%◌, zero, suc, ℤ, pos, ◌+ℤ◌, ◌-ℤ◌, ◌*ℤ◌, ◌≤ℤ◌, ◌<ℤ◌, nat_abs, negsuc, length, List, [], Contains, slice_index_or, if◌then◌else◌, Option}
use Rattle.std.specs.Int.{int_rem_euclid}
use Rattle.bud_base.specs.declared.ids.PinId.{PinId}
use Rattle.bud_syntax.specs.declared.edges.Edge.{Edge}
use Rattle.bud_syntax.specs.declared.edges.Edge.TheVariants.{Rise, Fall}
use Rattle.bud_design.specs.declared.clocks.Clock.{Clock}
use Rattle.std.specs.List.{position_from}
use Rattle.std.specs.Str.{bytes_eq}
use Rattle.bud_design.specs.Designs.{Design, LeadsTo}

abbrev pub clock_at : List Clock → ℕ → Clock
clock_at clocks c = slice_index_or clocks c (record { name = []; period = pos 0; rise = pos 0; fall = pos 0; sources = [] })

-- the time of a clock's first edge
abbrev pub edge_time : Clock → Edge → ℤ
edge_time c Rise = c.rise
edge_time c Fall = c.fall

-- a clock with this number has a source from which one or more wires of the root's design lead to the pin
pub record Reaches (d : Design) (root : ℕ) (clocks : List Clock) (c v : ℕ) : Type 0 where
  pub number : c < length clocks
  pub source : PinId
  pub is_source : Contains (clock_at clocks c).sources source
  pub wired : LeadsTo d root source.0 v

-- a time from an edge of one clock to an edge of the other, some periods of each on
pub record IsBetweenEdges (launch : Clock) (edge : Edge) (capture : Clock) (at : Edge) (time : ℤ) : Type 0 where
  pub launch_periods : ℤ
  pub capture_periods : ℤ
  pub time_is : time ≡ (edge_time capture at +ℤ capture_periods *ℤ capture.period) -ℤ (edge_time launch edge +ℤ launch_periods *ℤ launch.period)

-- the relation of two edges (setup relation): the least positive time between them
pub record IsRelation (launch : Clock) (edge : Edge) (capture : Clock) (at : Edge) (time : ℤ) : Type 0 where
  pub positive : pos 0 <ℤ time
  pub between : IsBetweenEdges launch edge capture at time
  pub least : (other : ℤ) → pos 0 <ℤ other → IsBetweenEdges launch edge capture at other → time ≤ℤ other

-- the greatest common divisor, in at most so many divisions
abbrev pub divisor_in : ℕ → ℕ → ℕ → ℕ
divisor_in zero a b = a
divisor_in (suc n) a b = if b == 0 then a else divisor_in n b (a % b)

abbrev pub common_divisor : ℕ → ℕ → ℕ
common_divisor a b = divisor_in (suc b) a b

abbrev pub or_whole : ℤ → ℤ → ℤ
or_whole (pos zero) whole = whole
or_whole (pos (suc n)) whole = pos (suc n)
or_whole (negsuc n) whole = negsuc n

-- the relation as a number: what is left of the first edges' distance by the periods' greatest common divisor, or the divisor itself
abbrev pub relation : Clock → Edge → Clock → Edge → ℤ
relation launch edge capture at =
    or_whole (int_rem_euclid (edge_time capture at -ℤ edge_time launch edge) (pos (common_divisor (nat_abs launch.period) (nat_abs capture.period))))
    (pos (common_divisor (nat_abs launch.period) (nat_abs capture.period)))

-- a clock that commands may make
pub record IsSoundClock (c : Clock) : Type 0 where
  pub shortest : pos 2 ≤ℤ c.period
  pub longest : c.period ≤ℤ pos 1000000000
  pub in_order : c.rise <ℤ c.fall
  pub in_period : c.fall <ℤ (c.rise +ℤ c.period)

-- the clock of a name: names of clocks are compared byte by byte
abbrev pub clock_called : List Clock → List ℕ → Option ℕ
clock_called clocks name = position_from (λ c. bytes_eq c.name name) 0 clocks
