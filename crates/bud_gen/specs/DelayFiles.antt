-- The delay file of a made design: for each gate the delays of its two arcs, and a register's delay and setup time.
use Rattle.std.specs.Prelude.{ℕ, List, [], ◌∷◌, ◌++◌, codes, if◌then◌else◌}
use Rattle.bud_gen.specs.declared.gates.Gate.{Gate}
use Rattle.bud_gen.specs.declared.gates.Block.{Block}
use Rattle.bud_gen.specs.Signals.{numbered}

-- the cell of a gate of block k
abbrev pub gate_cell : ℕ → Gate → List ℕ
gate_cell k g =
    numbered (codes "(CELL (CELLTYPE \"GATE\") (INSTANCE b") k ++ numbered (codes "/g") g.number
    ++ numbered (codes ") (DELAY (ABSOLUTE (IOPATH A Z (") g.a.delay ++ numbered (codes ")) (IOPATH B Z (") g.b.delay ++ codes ")))))\n"

abbrev pub register_cell : ℕ → ℕ → List ℕ
register_cell k g =
    numbered (codes "(CELL (CELLTYPE \"DFF\") (INSTANCE b") k ++ numbered (codes "/r") g
    ++ codes ") (DELAY (ABSOLUTE (IOPATH (posedge CK) Q (50)))) (TIMINGCHECK (SETUP D (posedge CK) (30))))\n"

-- a gate, with its register behind it where it has one
abbrev pub cells_of : ℕ → Gate → List ℕ
cells_of k g = if g.is_registered then gate_cell k g ++ register_cell k g.number else gate_cell k g

abbrev pub gate_cells : ℕ → List Gate → List ℕ
gate_cells k [] = []
gate_cells k (g ∷ gs) = cells_of k g ++ gate_cells k gs

abbrev pub block_cells : List Block → List ℕ
block_cells [] = []
block_cells (b ∷ bs) = gate_cells b.number b.gates ++ block_cells bs

unfoldable pub sdf_text : List Block → List ℕ
sdf_text blocks = codes "(DELAYFILE (DIVIDER /) (TIMESCALE 1ps)\n" ++ block_cells blocks ++ codes ")\n"
