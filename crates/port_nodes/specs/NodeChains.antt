-- The nodes of a layering, chained by their pins.
use Rattle.std.specs.Prelude.{ℕ, List, map, length}
use Rattle.bud_design.specs.declared.layers.LayerNode.{LayerNode}
use Rattle.name_tables.specs.Chained.{key_at, AreChained}
use Rattle.name_tables.specs.ChainLists.{ChainLists}

abbrev pub pins_of_nodes : List LayerNode → List ℕ
pins_of_nodes nodes = map (λ n. n.pin.0) nodes

abbrev pub AreNodeChains : List LayerNode → ChainLists → Type 0
AreNodeChains nodes chains = AreChained (key_at (pins_of_nodes nodes)) 0 (length (pins_of_nodes nodes)) chains
