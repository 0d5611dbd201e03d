-- What an edit changes of a state, before the new state is judged.
use Rattle.std.specs.Prelude.{ℕ, ◌+◌, ◌==◌, not, ℤ, Bool, List, [], ◌∷◌, ◌++◌, filter, Option, Some, None, Result, Ok, Err, if◌then◌else◌}
use Rattle.std.specs.List.{list_any}
use Rattle.bud_design.specs.declared.policies.Edit.{Edit}
use Rattle.bud_design.specs.declared.policies.Edit.TheVariants as edit
use Rattle.bud_design.specs.declared.policies.NumberedCommand.{NumberedCommand}
use Rattle.bud_design.specs.Policies.{arc_called}
use Rattle.timing_graph.specs.Graphs.{with_least}
use Rattle.edit_states.specs.States.{State}
use Rattle.edit_states.specs.declared.faults.EditFault.{EditFault}
use Rattle.edit_states.specs.declared.faults.EditFault.TheVariants.{UnknownArc, UnknownCommand}

-- the arc of this number has another least delay
abbrev pub delayed : State → ℤ → EditFault → Option ℕ → Result State EditFault
delayed s amount unknown None = Err unknown
delayed s amount unknown (Some a) = Ok (record s { arcs = with_least s.arcs a amount })

abbrev pub has_command : List NumberedCommand → ℕ → Bool
has_command commands number = list_any (λ c. c.number == number) commands

abbrev pub without : List NumberedCommand → ℕ → List NumberedCommand
without commands number = filter (λ c. not (c.number == number)) commands

-- `Delay` sets the least delay of the arc between two pins. `Add` appends a command with the next number, and the number
-- after it comes next. `Drop` takes the command of a number out. `Line` appends a line to the policy.
abbrev pub edited : State → Edit → Result State EditFault
edited s (edit.Delay from to amount) = delayed s amount (UnknownArc from to) (arc_called s.design s.arcs from to)
edited s (edit.Add command) = Ok (record s { commands = s.commands ++ record { number = s.next; command = command } ∷ []; next = s.next + 1 })
edited s (edit.Drop number) = if has_command s.commands number then Ok (record s { commands = without s.commands number }) else Err (UnknownCommand number)
edited s (edit.Line line) = Ok (record s { policy = record { version = s.policy.version; lines = s.policy.lines ++ line ∷ [] } })
