-- The policy of a made design: its four blocks, and the weights of both arcs of each gate.
use Rattle.std.specs.Prelude.{ℕ, List, [], ◌∷◌, ◌++◌, codes}
use Rattle.bud_gen.specs.declared.gates.Gate.{Gate}
use Rattle.bud_gen.specs.declared.gates.Block.{Block}
use Rattle.bud_gen.specs.Signals.{numbered}

-- an arc begins at an input, by its name, of gate g of block k
unfoldable pub arc_start : ℕ → ℕ → List ℕ → List ℕ
arc_start k g pin = numbered (codes "arc b") k ++ numbered (codes "/g") g ++ codes "/" ++ pin

-- and ends at the gate's output
unfoldable pub arc_end : ℕ → ℕ → ℕ → List ℕ
arc_end k g weight = numbered (codes " b") k ++ numbered (codes "/g") g ++ numbered (codes "/Z extra 500 weight ") weight ++ codes "\n"

abbrev pub arc_line : ℕ → ℕ → List ℕ → ℕ → List ℕ
arc_line k g pin weight = arc_start k g pin ++ arc_end k g weight

abbrev pub lines_of : ℕ → Gate → List ℕ
lines_of k g = arc_line k g.number (codes "A") g.a.weight ++ arc_line k g.number (codes "B") g.b.weight

abbrev pub arc_lines : ℕ → List Gate → List ℕ
arc_lines k [] = []
arc_lines k (g ∷ gs) = lines_of k g ++ arc_lines k gs

abbrev pub block_lines : List Block → List ℕ
block_lines [] = []
block_lines (b ∷ bs) = arc_lines b.number b.gates ++ block_lines bs

unfoldable pub policy_text : List Block → List ℕ
policy_text blocks = codes "policy 1\nblock b0\nblock b1\nblock b2\nblock b3\n" ++ block_lines blocks
