-- The ranges of an edit's numbers, as its text has them.
use Rattle.std.specs.Prelude.{ℕ, ◌&&◌, ◌==◌, not, ℤ, pos, negsuc, int_le, nat_le, Bool, true}
use Rattle.bud_syntax.specs.declared.constraints.SdcCommand.{SdcCommand}
use Rattle.bud_syntax.specs.declared.constraints.SdcCommand.TheVariants as command
use Rattle.bud_design.specs.declared.policies.Edit.{Edit}
use Rattle.bud_design.specs.declared.policies.Edit.TheVariants as edit
use Rattle.bud_design.specs.declared.policies.PolicyLine.{PolicyLine}
use Rattle.bud_design.specs.declared.policies.PolicyLine.TheVariants as line
use Rattle.sdc_reader.specs.Words.{is_clock_name}

-- within 10^9 ps either way
abbrev pub is_time : ℤ → Bool
is_time n = int_le (negsuc 999999999) n && int_le n (pos 1000000000)

-- from 0 to 10^9 ps
abbrev pub is_length : ℤ → Bool
is_length n = int_le (pos 0) n && int_le n (pos 1000000000)

-- what a constraints text may give: times and counts in their ranges, and for a clock a name of the alphabet of clock names
abbrev pub is_read : SdcCommand → Bool
is_read (command.Clock name period rise fall sources) = is_clock_name name && (is_time period && (is_time rise && is_time fall))
is_read (command.InputDelay amount clock edge setup add ports) = is_time amount
is_read (command.OutputDelay amount clock edge setup add ports) = is_time amount
is_read (command.FalsePath setup from through to) = true
is_read (command.Multicycle count setup by_launch from through to) = nat_le 1 count && nat_le count 1000
is_read (command.MaxDelay amount from through to) = is_time amount

-- an extra and a weight that a policy may give
abbrev pub is_share : ℤ → ℕ → Bool
is_share extra weight = is_length extra && nat_le weight 1048576

abbrev pub is_line : PolicyLine → Bool
is_line (line.Block path) = true
is_line (line.Default extra weight clock) = is_share extra weight
is_line (line.Inst path extra weight clock) = is_share extra weight
is_line (line.Arc from to extra weight clock) = is_share extra weight

-- the numbers of the edit are in their ranges, and a command that is added gets a number below 2^32 - 1
abbrev pub is_in_range : ℕ → Edit → Bool
is_in_range next (edit.Delay from to amount) = is_length amount
is_in_range next (edit.Add command) = is_read command && not (next == 4294967295)
is_in_range next (edit.Drop number) = true
is_in_range next (edit.Line line) = is_line line
