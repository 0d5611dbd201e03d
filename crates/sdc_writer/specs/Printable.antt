-- The files whose text reads back as them.
use Rattle.std.specs.Prelude.{ℕ, ◌==◌, ◌&&◌, ◌||◌, not, nat_le, ℤ, Bool, true, false, List, [], ◌∷◌, Option, Some, None}
use Rattle.std.specs.List.{list_all}
use Rattle.bud_syntax.specs.declared.constraints.Object.{Object}
use Rattle.bud_syntax.specs.declared.constraints.Object.TheVariants.{Ports, Pins, Cells, Clocks, Any, AllInputs, AllOutputs, AllClocks}
use Rattle.bud_syntax.specs.declared.constraints.SdcCommand.{SdcCommand}
use Rattle.bud_syntax.specs.declared.constraints.SdcCommand.TheVariants as timing
use Rattle.bud_syntax.specs.declared.constraints.SdcFile.{SdcFile}
use Rattle.sdc_reader.specs.Numbers.{is_small}
use Rattle.sdc_reader.specs.Words.{is_clock_name}

abbrev pub has_some : {X : Type 0} → List X → Bool
has_some [] = false
has_some (x ∷ xs) = true

-- a graphic character of ASCII
abbrev pub is_visible : ℕ → Bool
is_visible b = nat_le 33 b && nat_le b 126

abbrev pub is_brace : ℕ → Bool
is_brace b = b == 123 || b == 125

-- A name, or the rest of one, stands for itself in braces: each brace in it has a backslash before it. `escaped` says that
-- one stands before the rest.
abbrev pub is_kept : Bool → List ℕ → Bool
is_kept escaped [] = not escaped
is_kept true (b ∷ bs) = is_visible b && is_kept false bs
is_kept false (b ∷ bs) = is_visible b && (not (is_brace b) && is_kept (b == 92) bs)

abbrev pub is_kept_name : List ℕ → Bool
is_kept_name name = has_some name && is_kept false name

abbrev pub has_kept_name : Object → Bool
has_kept_name (Ports name) = is_kept_name name
has_kept_name (Pins name) = is_kept_name name
has_kept_name (Clocks name) = is_kept_name name
has_kept_name (Cells name) = false
has_kept_name (Any name) = false
has_kept_name AllInputs = false
has_kept_name AllOutputs = false
has_kept_name AllClocks = false

-- ports stand before pins, and pins before clocks
abbrev pub rank : Object → ℕ
rank (Ports name) = 0
rank (Pins name) = 1
rank (Clocks name) = 2
rank (Cells name) = 3
rank (Any name) = 3
rank AllInputs = 3
rank AllOutputs = 3
rank AllClocks = 3

-- objects by name, in this order from a rank on
abbrev pub are_in_order : ℕ → List Object → Bool
are_in_order least [] = true
are_in_order least (o ∷ os) = nat_le least (rank o) && (has_kept_name o && are_in_order (rank o) os)

-- objects that are read as they were written
abbrev pub are_written : List Object → Bool
are_written objects = are_in_order 0 objects

abbrev pub is_part : Option (List Object) → Bool
is_part None = false
is_part (Some objects) = true

-- a part of an exception names something, where there is one
abbrev pub is_written_part : Option (List Object) → Bool
is_written_part None = true
is_written_part (Some objects) = has_some objects && are_written objects

abbrev pub is_written_delay : ℤ → List ℕ → Bool → List Object → Bool
is_written_delay amount clock setup ports = setup && (is_small amount && (is_kept_name clock && (has_some ports && are_written ports)))

-- an exception for setup checks, with a from-part or a to-part, and without through groups
abbrev pub is_written_exception : Bool → Option (List Object) → List (List Object) → Option (List Object) → Bool
is_written_exception setup from through to = setup && (not (has_some through) && ((is_part from || is_part to) && (is_written_part from && is_written_part to)))

abbrev pub is_written_command : SdcCommand → Bool
is_written_command (timing.Clock name period rise fall sources) =
    is_clock_name name && (is_small period && (is_small rise && (is_small fall && are_written sources)))
is_written_command (timing.InputDelay amount clock edge setup add ports) = is_written_delay amount clock setup ports
is_written_command (timing.OutputDelay amount clock edge setup add ports) = is_written_delay amount clock setup ports
is_written_command (timing.FalsePath setup from through to) = is_written_exception setup from through to
is_written_command (timing.Multicycle count setup by_launch from through to) = nat_le 1 count && (nat_le count 1000 && is_written_exception setup from through to)
is_written_command (timing.MaxDelay amount from through to) = is_small amount && is_written_exception true from through to

abbrev pub is_kept_design : Option (List ℕ) → Bool
is_kept_design None = true
is_kept_design (Some name) = is_kept_name name

-- names stand for themselves in braces, times and counts are in the ranges that are read, and all that is said has a place in the text
abbrev pub is_printable_file : SdcFile → Bool
is_printable_file file = is_kept_design file.design && list_all is_written_command file.commands
