-- The text of a constraints file (SDC), line by line.
use Rattle.std.specs.Prelude.{ℕ, ℤ, Bool, true, false, List, [], ◌∷◌, ◌++◌, map, codes, decimal, Option, Some, None}
use Rattle.std.specs.Fmt.{signed_decimal}
use Rattle.std.specs.List.{flat_map}
use Rattle.line_text.specs.Written.{spaced}
use Rattle.bud_syntax.specs.declared.edges.Edge.{Edge}
use Rattle.bud_syntax.specs.declared.edges.Edge.TheVariants.{Rise, Fall}
use Rattle.bud_syntax.specs.declared.constraints.Object.{Object}
use Rattle.bud_syntax.specs.declared.constraints.Object.TheVariants as object
use Rattle.bud_syntax.specs.declared.constraints.SdcCommand.{SdcCommand}
use Rattle.bud_syntax.specs.declared.constraints.SdcCommand.TheVariants as timing
use Rattle.bud_syntax.specs.declared.constraints.SdcFile.{SdcFile}
use Rattle.sdc_writer.specs.declared.objects.ObjectKind.{ObjectKind}
use Rattle.sdc_writer.specs.declared.objects.ObjectKind.TheVariants.{Ports, Pins, Clocks}

-- words with one space between two
abbrev pub words : List (List ℕ) → List ℕ
words [] = []
words (w ∷ ws) = w ++ flat_map spaced ws

-- a text in braces, and words in brackets
abbrev pub braced : List ℕ → List ℕ
braced text = 123 ∷ (text ++ 125 ∷ [])

abbrev pub bracketed : List (List ℕ) → List ℕ
bracketed ws = 91 ∷ (words ws ++ 93 ∷ [])

-- the command that finds objects of a kind by their names
abbrev pub getter : ObjectKind → List ℕ
getter Ports = codes "get_ports"
getter Pins = codes "get_pins"
getter Clocks = codes "get_clocks"

-- the name of an object, where it is one of this kind
abbrev pub name_as : ObjectKind → Object → List (List ℕ)
name_as Ports (object.Ports name) = name ∷ []
name_as Ports (object.Pins name) = []
name_as Ports (object.Cells name) = []
name_as Ports (object.Clocks name) = []
name_as Ports (object.Any name) = []
name_as Ports object.AllInputs = []
name_as Ports object.AllOutputs = []
name_as Ports object.AllClocks = []
name_as Pins (object.Ports name) = []
name_as Pins (object.Pins name) = name ∷ []
name_as Pins (object.Cells name) = []
name_as Pins (object.Clocks name) = []
name_as Pins (object.Any name) = []
name_as Pins object.AllInputs = []
name_as Pins object.AllOutputs = []
name_as Pins object.AllClocks = []
name_as Clocks (object.Ports name) = []
name_as Clocks (object.Pins name) = []
name_as Clocks (object.Cells name) = []
name_as Clocks (object.Clocks name) = name ∷ []
name_as Clocks (object.Any name) = []
name_as Clocks object.AllInputs = []
name_as Clocks object.AllOutputs = []
name_as Clocks object.AllClocks = []

abbrev pub names_as : ObjectKind → List Object → List (List ℕ)
names_as kind objects = flat_map (name_as kind) objects

-- the command that finds objects of one kind by these names, where there are any
abbrev pub found_by : ObjectKind → List (List ℕ) → List (List ℕ)
found_by kind [] = []
found_by kind (name ∷ names) = bracketed (getter kind ∷ braced (words (name ∷ names)) ∷ []) ∷ []

-- commands that find objects as one word, none where there are none: a list where they are several
abbrev pub as_word : List (List ℕ) → List (List ℕ)
as_word [] = []
as_word (word ∷ []) = word ∷ []
as_word (word ∷ other ∷ others) = bracketed (codes "list" ∷ word ∷ other ∷ others) ∷ []

-- objects as one word: ports before pins before clocks
abbrev pub object_word : List Object → List (List ℕ)
object_word objects = as_word (found_by Ports (names_as Ports objects) ++ (found_by Pins (names_as Pins objects) ++ found_by Clocks (names_as Clocks objects)))

abbrev pub edge_option : Edge → List (List ℕ)
edge_option Rise = []
edge_option Fall = codes "-clock_fall" ∷ []

abbrev pub option_if : Bool → List ℕ → List (List ℕ)
option_if true option = option ∷ []
option_if false option = []

-- the amount of a delay and its clock edge
abbrev pub delay_start : ℤ → List ℕ → Edge → List (List ℕ)
delay_start amount clock edge = signed_decimal amount ∷ codes "-clock" ∷ braced clock ∷ edge_option edge

-- the ports of a delay
abbrev pub delay_end : Bool → List Object → List (List ℕ)
delay_end add ports = codes "-max" ∷ (option_if add (codes "-add_delay") ++ object_word ports)

abbrev pub delay_words : ℤ → List ℕ → Edge → Bool → List Object → List (List ℕ)
delay_words amount clock edge add ports = delay_start amount clock edge ++ delay_end add ports

-- a part of an exception behind its option, where there is one
abbrev pub part_words : List ℕ → Option (List Object) → List (List ℕ)
part_words option None = []
part_words option (Some objects) = option ∷ object_word objects

-- the parts of an exception
abbrev pub between : Option (List Object) → Option (List Object) → List (List ℕ)
between from to = part_words (codes "-from") from ++ part_words (codes "-to") to

-- the first edges of a clock
abbrev pub edge_words : ℤ → ℤ → List ℕ
edge_words rise fall = braced (words (signed_decimal rise ∷ signed_decimal fall ∷ []))

abbrev pub clock_words : List ℕ → ℤ → ℤ → ℤ → List Object → List (List ℕ)
clock_words name period rise fall sources =
    codes "-name" ∷ braced name ∷ codes "-period" ∷ signed_decimal period ∷ codes "-waveform" ∷ edge_words rise fall ∷ object_word sources

abbrev pub cycle_words : ℕ → Bool → Option (List Object) → Option (List Object) → List (List ℕ)
cycle_words count by_launch from to = decimal count ∷ codes "-setup" ∷ (option_if by_launch (codes "-start") ++ between from to)

-- the name of a command
abbrev pub title_of : SdcCommand → List ℕ
title_of (timing.Clock name period rise fall sources) = codes "create_clock"
title_of (timing.InputDelay amount clock edge setup add ports) = codes "set_input_delay"
title_of (timing.OutputDelay amount clock edge setup add ports) = codes "set_output_delay"
title_of (timing.FalsePath setup from through to) = codes "set_false_path"
title_of (timing.Multicycle count setup by_launch from through to) = codes "set_multicycle_path"
title_of (timing.MaxDelay amount from through to) = codes "set_max_delay"

-- the words of a command behind its name
abbrev pub fields_of : SdcCommand → List (List ℕ)
fields_of (timing.Clock name period rise fall sources) = clock_words name period rise fall sources
fields_of (timing.InputDelay amount clock edge setup add ports) = delay_words amount clock edge add ports
fields_of (timing.OutputDelay amount clock edge setup add ports) = delay_words amount clock edge add ports
fields_of (timing.FalsePath setup from through to) = codes "-setup" ∷ between from to
fields_of (timing.Multicycle count setup by_launch from through to) = cycle_words count by_launch from to
fields_of (timing.MaxDelay amount from through to) = signed_decimal amount ∷ between from to

abbrev pub command_words : SdcCommand → List (List ℕ)
command_words command = title_of command ∷ fields_of command

-- times are in whole ps
abbrev pub unit_words : List (List ℕ)
unit_words = codes "set_units" ∷ codes "-time" ∷ codes "ps" ∷ []

abbrev pub design_words : Option (List ℕ) → List (List (List ℕ))
design_words None = []
design_words (Some name) = (codes "current_design" ∷ braced name ∷ []) ∷ []

-- the words of each line
abbrev pub file_words : SdcFile → List (List (List ℕ))
file_words file = unit_words ∷ (design_words file.design ++ map command_words file.commands)

abbrev pub line : List (List ℕ) → List ℕ
line ws = words ws ++ 10 ∷ []

-- The text of a file. Hold checks, through groups and objects that aren't found by name have no place in it.
abbrev pub file_text : SdcFile → List ℕ
file_text file = flat_map line (file_words file)
