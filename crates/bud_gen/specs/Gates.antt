-- The gates of a made design, block by block. A gate is told by its number: its draws are those behind seven for each gate before it, and the
-- signals that it may take are the inputs of its block and what the block's gates before it give.
use Rattle.std.specs.Prelude.{ℕ, ◌+◌, ◌-◌, ◌*◌, ◌≡◌, ◌<◌, ◌≤◌, ◌/◌, ◌%◌, ◌==◌, min, Bool, List, [], ◌∷◌, ◌++◌, length, map, if◌then◌else◌}
use Rattle.std.specs.List.{range_with_len}
use Rattle.bud_gen.specs.declared.signals.Signal.{Signal}
use Rattle.bud_gen.specs.declared.signals.Signal.TheVariants.{Net, Register}
use Rattle.bud_gen.specs.declared.gates.Gate.{Gate}
use Rattle.bud_gen.specs.declared.gates.GateInput.{GateInput}
use Rattle.bud_gen.specs.declared.gates.Block.{Block}
use Rattle.bud_gen.specs.Draws.{behind, draw}
use Rattle.bud_gen.specs.Signals.{inputs, back}

-- the state before the draws of a gate
abbrev pub state : ℕ → ℕ → ℕ
state number g = behind number (7 * g)

-- a register follows the gate
abbrev pub is_registered : ℕ → Bool
is_registered x = draw x 5 % 8 == 0

-- what a gate gives to the gates behind it: the output of its register where there is one, else its own
abbrev pub given : Bool → ℕ → Signal
given registered g = if registered then Register g else Net g

-- the signals before a gate of a block that has so many gates before it, the first of them being `low`
abbrev pub signals : ℕ → ℕ → ℕ → List Signal
signals number low count = inputs ++ map (λ g. given (is_registered (state number g)) g) (range_with_len low count)

-- one of the last eight signals
abbrev pub picked : List Signal → ℕ → Signal
picked signals d = back signals (d % min (length signals) 8)

-- an input of a gate, by the draws of its signal, its delay and its weight
abbrev pub input : List Signal → ℕ → ℕ → ℕ → GateInput
input signals d delay weight = record { signal = picked signals d; delay = 20 + delay % 80; weight = 1 + weight % 9 }

-- a gate by the state before its draws and by the signals before it
abbrev pub gate_from : ℕ → List Signal → ℕ → Gate
gate_from x signals g = record {
  number = g;
  a = input signals (draw x 1) (draw x 3) (draw x 6);
  b = input signals (draw x 2) (draw x 4) (draw x 7);
  is_registered = is_registered x;
}

-- the gate of this number, in a block whose first gate is `low`
abbrev pub gate : ℕ → ℕ → ℕ → Gate
gate number low g = gate_from (state number g) (signals number low (g - low)) g

-- the first gate of a block
abbrev pub first : ℕ → ℕ → ℕ
first gates k = k * gates / 4

-- how many gates a block has
abbrev pub size : ℕ → ℕ → ℕ
size gates k = first gates (k + 1) - first gates k

-- a block, with its gates and with all signals behind the last of them
abbrev pub block : ℕ → ℕ → ℕ → Block
block gates number k = record {
  number = k;
  gates = map (gate number (first gates k)) (range_with_len (first gates k) (size gates k));
  signals = signals number (first gates k) (size gates k);
}

-- the blocks of a design of so many gates
unfoldable pub blocks : ℕ → ℕ → List Block
blocks gates number = map (block gates number) (0 ∷ 1 ∷ 2 ∷ 3 ∷ [])

-- how many of the gates have a register behind them
abbrev pub registers_of : List Gate → ℕ
registers_of [] = 0
registers_of (g ∷ gs) = (if g.is_registered then 1 else 0) + registers_of gs

abbrev pub registers : List Block → ℕ
registers [] = 0
registers (b ∷ bs) = registers_of b.gates + registers bs

-- a block has at most so many gates as a design, and its inputs are among its signals
abbrev pub IsSized : Block → Type 0
IsSized b = (length b.gates ≤ 20000) × (4 ≤ length b.signals)

-- a block is made up to a gate: its gates before it, the signals before it, and the state before its draws
pub record IsBlockBefore (number low g x : ℕ) (made : List Gate) (before : List Signal) : Type 0 where
  pub from : low ≤ g
  pub gates : made ≡ map (gate number low) (range_with_len low (g - low))
  pub signals : before ≡ signals number low (g - low)
  pub state : x ≡ state number g
  pub range : x < 2147483648
  pub inputs : 4 ≤ length before
  pub few : length made ≤ g
