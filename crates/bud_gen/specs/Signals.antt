-- The signals of a block.
use Rattle.std.specs.Prelude.{ℕ, ◌-◌, List, [], ◌∷◌, ◌++◌, codes, decimal, length, slice_index_or}
use Rattle.bud_gen.specs.declared.signals.Signal.{Signal}
use Rattle.bud_gen.specs.declared.signals.Signal.TheVariants.{Input, Net, Register}

-- the inputs of a block
abbrev pub inputs : List Signal
inputs = Input 0 ∷ Input 1 ∷ Input 2 ∷ Input 3 ∷ []

-- the signal that stands so many places before the last
abbrev pub back : List Signal → ℕ → Signal
back signals places = slice_index_or signals (length signals - 1 - places) (Input 0)

-- a letter or a word, and a number behind it
abbrev pub numbered : List ℕ → ℕ → List ℕ
numbered title n = title ++ decimal n

-- an input by its number, the output of a gate or of a gate's register by the number of the gate
abbrev pub signal_name : Signal → List ℕ
signal_name (Input j) = numbered (codes "a") j
signal_name (Net g) = numbered (codes "n") g
signal_name (Register g) = numbered (codes "q") g
