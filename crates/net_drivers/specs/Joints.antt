-- Port bits with the net bits that they are joined to, by number.
use Rattle.std.specs.Prelude.{◌≡◌, ℕ, suc, ◌+◌, List, [], ◌∷◌, ◌++◌, map, replicate, Option, Some, None}
use Rattle.bud_syntax.specs.declared.modules.Dir.{Dir}
use Rattle.bud_syntax.specs.declared.modules.Port.{Port}
use Rattle.module_nets.specs.Numbers.{range_width}
use Rattle.net_drivers.specs.declared.slots.Joint.{Joint}

-- the directions of ports, bit by bit
abbrev pub directions : List Port → List Dir
directions [] = []
directions (p ∷ ps) = replicate (range_width p.range) p.dir ++ directions ps

-- the port bits of a module are joined to its first net bits
abbrev pub own_joints : ℕ → List Dir → List Joint
own_joints k [] = []
own_joints k (d ∷ ds) = record { dir = d; bit = Some k } ∷ own_joints (suc k) ds

-- the port bits of an instance are joined to these, as far as both go
abbrev pub joints : List Dir → List (Option ℕ) → List Joint
joints [] bits = []
joints (d ∷ ds) [] = []
joints (d ∷ ds) (b ∷ bs) = record { dir = d; bit = b } ∷ joints ds bs
