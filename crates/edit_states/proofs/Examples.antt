-- Edits of a small design, by computation: a wire from the input `a` of the top to its output `z`.
use Rattle.std.specs.Prelude.{◌≡◌, ℕ, ℤ, pos, negsuc, true, false, List, [], ◌∷◌, map, Some, None, Result, Ok, Err, codes}
use Rattle.std.proofs.Common.{refl}
use Rattle.bud_syntax.specs.declared.constraints.SdcCommand.{SdcCommand}
use Rattle.bud_syntax.specs.declared.constraints.SdcCommand.TheVariants as command
use Rattle.bud_syntax.specs.declared.modules.Dir.TheVariants.{Input, Output}
use Rattle.bud_design.specs.declared.policies.Edit.{Edit}
use Rattle.bud_design.specs.declared.policies.Edit.TheVariants as edit
use Rattle.bud_design.specs.declared.policies.PolicyLine.TheVariants as line
use Rattle.bud_design.specs.Arcs.{Arc}
use Rattle.bud_design.specs.Designs.{Design}
use Rattle.bud_design.specs.Policies.{version_of}
use Rattle.edit_states.specs.Edits.{edited}
use Rattle.edit_states.specs.Ranges.{is_in_range}
use Rattle.edit_states.specs.States.{State, begun}
use Rattle.edit_states.specs.declared.faults.EditFault.{EditFault}
use Rattle.edit_states.specs.declared.faults.EditFault.TheVariants.{UnknownArc, UnknownCommand}

abbrev wire : Design
wire = record {
  places = record { name = []; «module» = codes "top"; leaf = false; parent = None } ∷ [];
  pins = record { place = 0; port = codes "a"; bit = None; dir = Input } ∷ record { place = 0; port = codes "z"; bit = None; dir = Output } ∷ [];
  wires = record { from = record { 0 = 0 }; to = record { 0 = 1 }; home = 0 } ∷ [];
}

abbrev clock : List ℕ → SdcCommand
clock name = command.Clock name (pos 2000) (pos 0) (pos 1000) []

abbrev arcs : ℤ → List Arc
arcs least = record { from = 0; to = 1; least = least; home = 0 } ∷ []

-- with a clock C and a clock D
abbrev start : State
start =
    begun wire (record { wires = pos 300 ∷ []; pairs = []; checks = []; edges = []; left_out = 0 }) (arcs (pos 300)) (clock (codes "C") ∷ clock (codes "D") ∷ [])
    (record { version = 1; lines = [] })

abbrev after : Result State EditFault → Edit → Result State EditFault
after (Ok s) e = edited s e
after (Err fault) e = Err fault

abbrev numbers_of : Result State EditFault → List ℕ
numbers_of (Ok s) = map (λ c. c.number) s.commands
numbers_of (Err fault) = []

abbrev version_behind : Result State EditFault → ℕ
version_behind (Ok s) = version_of s.policy
version_behind (Err fault) = 0

-- a delay is set on the arc that two names mean
delay_is_set : edited start (edit.Delay (codes "a") (codes "z") (pos 1300)) ≡ Ok (record start { arcs = arcs (pos 1300) })
delay_is_set = refl

-- and on no other
no_such_arc : edited start (edit.Delay (codes "z") (codes "a") (pos 1300)) ≡ Err (UnknownArc (codes "z") (codes "a"))
no_such_arc = refl

-- nor is a command dropped that isn't there
no_such_command : edited start (edit.Drop 3) ≡ Err (UnknownCommand 3)
no_such_command = refl

-- an added command gets the next number, and stands last
added_last : numbers_of (after (edited start (edit.Drop 1)) (edit.Add (clock (codes "E")))) ≡ 2 ∷ 3 ∷ []
added_last = refl

-- a dropped number isn't used again
dropped_for_good : numbers_of (after (after (after (edited start (edit.Drop 2)) (edit.Add (clock (codes "E")))) (edit.Drop 3)) (edit.Add (clock (codes "F")))) ≡ 1 ∷ 4 ∷ []
dropped_for_good = refl

dropped_twice : after (edited start (edit.Drop 2)) (edit.Drop 2) ≡ Err (UnknownCommand 2)
dropped_twice = refl

-- under `policy 1` a line with a clock makes the version 2, for good
version_rises : version_behind (edited start (edit.Line (line.Default (pos 900) 2 (Some (codes "C"))))) ≡ 2
version_rises = refl

version_stays : version_behind (after (edited start (edit.Line (line.Default (pos 900) 2 (Some (codes "C"))))) (edit.Line (line.Default (pos 0) 1 None))) ≡ 2
version_stays = refl

version_is_1 : version_behind (edited start (edit.Line (line.Default (pos 900) 2 None))) ≡ 1
version_is_1 = refl

-- the least and the greatest delay, extra and weight, and the numbers behind them
in_range : (is_in_range 3 (edit.Delay [] [] (pos 0)) ≡ true) × (is_in_range 3 (edit.Delay [] [] (pos 1000000000)) ≡ true) × (is_in_range 3 (edit.Line (line.Default (pos 1000000000) 1048576 None)) ≡ true)
in_range = (refl, refl, refl)

out_of_range : (is_in_range 3 (edit.Delay [] [] (negsuc 0)) ≡ false) × (is_in_range 3 (edit.Delay [] [] (pos 1000000001)) ≡ false) × (is_in_range 3 (edit.Line (line.Default (pos 0) 1048577 None)) ≡ false)
out_of_range = (refl, refl, refl)

-- a clock's name, and the last number of a command
no_clock_name : is_in_range 3 (edit.Add (clock (codes "a b"))) ≡ false
no_clock_name = refl

last_number : (is_in_range 4294967294 (edit.Add (clock (codes "C"))) ≡ true) × (is_in_range 4294967295 (edit.Add (clock (codes "C"))) ≡ false)
last_number = (refl, refl)
