-- Designs that are refused: the status of each refusal, the fields of its line, and the lines below it.
use Rattle.std.specs.Prelude.{ℕ, ◌<◌, List, [], ◌∷◌, ◌++◌, codes, decimal, length, All, Option, Some, None}
use Rattle.bud_design.specs.Designs.{Design, pin_name}
use Rattle.module_nets.specs.declared.faults.ElabFault.{ElabFault}
use Rattle.module_nets.specs.declared.faults.ElabFault.TheVariants as elab
use Rattle.delay_bind.specs.declared.faults.BindFault.{BindFault}
use Rattle.delay_bind.specs.declared.faults.BindFault.TheVariants as bind
use Rattle.timing_graph.specs.declared.faults.PinPair.{PinPair}
use Rattle.timing_graph.specs.declared.faults.GraphFault.{GraphFault}
use Rattle.timing_graph.specs.declared.faults.GraphFault.TheVariants as graph
use Rattle.timing_objects.specs.declared.faults.ResolveFault.{ResolveFault}
use Rattle.timing_objects.specs.declared.faults.ResolveFault.TheVariants as resolve
use Rattle.layer_theory.specs.declared.refusals.LayerFault.{LayerFault}
use Rattle.layer_theory.specs.declared.refusals.LayerFault.TheVariants as layer
use Rattle.budget_report.specs.declared.statuses.Status.{Status}
use Rattle.budget_report.specs.declared.statuses.Status.TheVariants.{Design as Unfit, Limit, Memory}
use Rattle.budget_report.specs.Lines.{line}
use Rattle.budget_report.specs.Readings.{memory_fields}

abbrev pub elab_status : ElabFault → Status
elab_status (elab.TooDeep count) = Limit
elab_status (elab.TooLarge count) = Limit
elab_status elab.NoMemory = Memory
elab_status other = Unfit

abbrev pub bind_status : BindFault → Status
bind_status bind.NoMemory = Memory
bind_status other = Unfit

abbrev pub graph_status : GraphFault → Status
graph_status graph.NoMemory = Memory
graph_status other = Unfit

abbrev pub resolve_status : ResolveFault → Status
resolve_status resolve.NoMemory = Memory
resolve_status other = Unfit

abbrev pub layer_status : LayerFault → Status
layer_status (layer.TooManyStates count) = Limit
layer_status (layer.TooManyItems count) = Limit
layer_status layer.NoMemory = Memory
layer_status other = Unfit

-- the design is refused: a word, and nothing, one name, two names or a number
abbrev pub bare_fields : List ℕ → List (List ℕ)
bare_fields word = codes "design" ∷ word ∷ []

abbrev pub named_fields : List ℕ → List ℕ → List (List ℕ)
named_fields word name = codes "design" ∷ word ∷ name ∷ []

abbrev pub paired_fields : List ℕ → List ℕ → List ℕ → List (List ℕ)
paired_fields word from to = codes "design" ∷ word ∷ from ∷ to ∷ []

abbrev pub counted_fields : List ℕ → ℕ → List (List ℕ)
counted_fields word count = codes "design" ∷ word ∷ decimal count ∷ []

-- a limit is passed: what passes it, and the first count past it
abbrev pub limit_fields : List ℕ → ℕ → List (List ℕ)
limit_fields word count = codes "limit" ∷ word ∷ decimal count ∷ []

abbrev pub no_top_fields : Option (List ℕ) → List (List ℕ)
no_top_fields None = bare_fields (codes "no-top")
no_top_fields (Some name) = named_fields (codes "no-top") name

abbrev pub elab_fields : ElabFault → List (List ℕ)
elab_fields (elab.ModuleTwice name) = named_fields (codes "module-twice") name
elab_fields (elab.NoTop name) = no_top_fields name
elab_fields (elab.ManyTops a b) = paired_fields (codes "many-tops") a b
elab_fields (elab.TooDeep count) = limit_fields (codes "depth") count
elab_fields (elab.InoutPort name) = named_fields (codes "inout") name
elab_fields (elab.NameTwice name) = named_fields (codes "name-twice") name
elab_fields (elab.TooLarge count) = limit_fields (codes "pins") count
elab_fields (elab.UnknownModule name) = named_fields (codes "unknown-module") name
elab_fields (elab.Recursive name) = named_fields (codes "recursive") name
elab_fields (elab.UnknownPort name) = named_fields (codes "unknown-port") name
elab_fields (elab.Select name) = named_fields (codes "select") name
elab_fields (elab.Width name) = named_fields (codes "width") name
elab_fields (elab.TwoDrivers name) = named_fields (codes "two-drivers") name
elab_fields elab.NoMemory = memory_fields

abbrev pub bind_fields : BindFault → List (List ℕ)
bind_fields (bind.UnknownInstance name) = named_fields (codes "unknown-instance") name
bind_fields (bind.WrongCell name) = named_fields (codes "wrong-cell") name
bind_fields (bind.NotALeaf name) = named_fields (codes "not-a-leaf") name
bind_fields (bind.UnknownPin name) = named_fields (codes "unknown-pin") name
bind_fields (bind.NotOneNet from to) = paired_fields (codes "not-one-net") from to
bind_fields (bind.MixedEdge name) = named_fields (codes "mixed-edge") name
bind_fields (bind.Latch name) = named_fields (codes "latch") name
bind_fields (bind.NegativeDelay from to) = paired_fields (codes "negative-delay") from to
bind_fields (bind.NegativeRest name) = named_fields (codes "negative-rest") name
bind_fields bind.NoMemory = memory_fields

abbrev pub graph_fields : GraphFault → List (List ℕ)
graph_fields (graph.Cycle pairs) = counted_fields (codes "cycle") (length pairs)
graph_fields graph.NoMemory = memory_fields

abbrev pub resolve_fields : ResolveFault → List (List ℕ)
resolve_fields (resolve.UnknownObject name) = named_fields (codes "unknown-object") name
resolve_fields (resolve.UnknownClock name) = named_fields (codes "unknown-clock") name
resolve_fields (resolve.NotASource name) = named_fields (codes "not-a-source") name
resolve_fields (resolve.NotAStart name) = named_fields (codes "not-a-start") name
resolve_fields (resolve.NotAnEnd name) = named_fields (codes "not-an-end") name
resolve_fields (resolve.NotAPin name) = named_fields (codes "not-a-pin") name
resolve_fields (resolve.ClockTwice name) = named_fields (codes "clock-twice") name
resolve_fields (resolve.BadWaveform name) = named_fields (codes "bad-waveform") name
resolve_fields resolve.NoMemory = memory_fields

abbrev pub layer_fields : LayerFault → List (List ℕ)
layer_fields (layer.UnknownArc from to) = paired_fields (codes "unknown-arc") from to
layer_fields (layer.UnknownInstance name) = named_fields (codes "unknown-instance") name
layer_fields (layer.NestedBlocks a b) = paired_fields (codes "nested-blocks") a b
layer_fields (layer.UnknownClock name) = named_fields (codes "unknown-clock") name
layer_fields (layer.TooManyStates count) = limit_fields (codes "states") count
layer_fields (layer.TooManyItems count) = limit_fields (codes "items") count
layer_fields layer.NoMemory = memory_fields

-- a line for each arc of a cycle, with its pins
abbrev pub pair_line : Design → PinPair → List ℕ
pair_line d x = line (codes "arc" ∷ pin_name d 0 x.from.0 ∷ pin_name d 0 x.to.0 ∷ [])

abbrev pub pair_lines : Design → List PinPair → List ℕ
pair_lines d [] = []
pair_lines d (x ∷ xs) = pair_line d x ++ pair_lines d xs

abbrev pub graph_rest : Design → GraphFault → List ℕ
graph_rest d (graph.Cycle pairs) = pair_lines d pairs
graph_rest d graph.NoMemory = []

-- the pins of the cycle are the design's
pub record IsPairOf (d : Design) (x : PinPair) : Type 0 where
  pub from : x.from.0 < length d.pins
  pub to : x.to.0 < length d.pins

abbrev pub HasPins : Design → GraphFault → Type 0
HasPins d (graph.Cycle pairs) = All (IsPairOf d) pairs
HasPins d graph.NoMemory = Unit {0}
