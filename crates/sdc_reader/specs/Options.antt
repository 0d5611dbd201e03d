-- The commands, and the options of each.
use Rattle.std.specs.Prelude.{ℕ, Bool, true, false, Option, Some, None, List, codes, if◌then◌else◌}
use Rattle.std.specs.Str.{bytes_eq}
use Rattle.sdc_reader.specs.declared.options.CommandKind.{CommandKind}
use Rattle.sdc_reader.specs.declared.options.CommandKind.TheVariants.{Version, Units, Design, CreateClock, InputDelay, OutputDelay, FalsePath, Multicycle, MaxDelay}
use Rattle.sdc_reader.specs.declared.options.SdcOption.{SdcOption}
use Rattle.sdc_reader.specs.declared.options.SdcOption.TheVariants.{Time, Resistance, Capacitance, Current, Voltage, Power, Period, Name, Waveform, Comment, Clock, ClockFall, Max, Min, AddDelay, Setup, Hold, Start, End, From, Through, To}
use Rattle.sdc_reader.specs.declared.options.Seen.{Seen}

abbrev pub kind_of : List ℕ → Option CommandKind
kind_of name =
    if bytes_eq name (codes "set") then Some Version
    else (if bytes_eq name (codes "set_units") then Some Units
    else (if bytes_eq name (codes "current_design") then Some Design
    else (if bytes_eq name (codes "create_clock") then Some CreateClock
    else (if bytes_eq name (codes "set_input_delay") then Some InputDelay
    else (if bytes_eq name (codes "set_output_delay") then Some OutputDelay
    else (if bytes_eq name (codes "set_false_path") then Some FalsePath
    else (if bytes_eq name (codes "set_multicycle_path") then Some Multicycle
    else (if bytes_eq name (codes "set_max_delay") then Some MaxDelay
    else None))))))))

-- the options of set_units
abbrev pub unit_option : List ℕ → Option SdcOption
unit_option name =
    if bytes_eq name (codes "-time") then Some Time
    else (if bytes_eq name (codes "-resistance") then Some Resistance
    else (if bytes_eq name (codes "-capacitance") then Some Capacitance
    else (if bytes_eq name (codes "-current") then Some Current
    else (if bytes_eq name (codes "-voltage") then Some Voltage
    else (if bytes_eq name (codes "-power") then Some Power
    else None)))))

-- the options of create_clock
abbrev pub clock_option : List ℕ → Option SdcOption
clock_option name =
    if bytes_eq name (codes "-period") then Some Period
    else (if bytes_eq name (codes "-name") then Some Name
    else (if bytes_eq name (codes "-waveform") then Some Waveform
    else (if bytes_eq name (codes "-comment") then Some Comment
    else None)))

-- the options of set_input_delay and set_output_delay
abbrev pub delay_option : List ℕ → Option SdcOption
delay_option name =
    if bytes_eq name (codes "-clock") then Some Clock
    else (if bytes_eq name (codes "-clock_fall") then Some ClockFall
    else (if bytes_eq name (codes "-max") then Some Max
    else (if bytes_eq name (codes "-min") then Some Min
    else (if bytes_eq name (codes "-add_delay") then Some AddDelay
    else None))))

-- the options of set_false_path
abbrev pub false_path_option : List ℕ → Option SdcOption
false_path_option name =
    if bytes_eq name (codes "-setup") then Some Setup
    else (if bytes_eq name (codes "-hold") then Some Hold
    else (if bytes_eq name (codes "-from") then Some From
    else (if bytes_eq name (codes "-through") then Some Through
    else (if bytes_eq name (codes "-to") then Some To
    else (if bytes_eq name (codes "-comment") then Some Comment
    else None)))))

-- the options of set_multicycle_path
abbrev pub multicycle_option : List ℕ → Option SdcOption
multicycle_option name =
    if bytes_eq name (codes "-setup") then Some Setup
    else (if bytes_eq name (codes "-hold") then Some Hold
    else (if bytes_eq name (codes "-start") then Some Start
    else (if bytes_eq name (codes "-end") then Some End
    else (if bytes_eq name (codes "-from") then Some From
    else (if bytes_eq name (codes "-through") then Some Through
    else (if bytes_eq name (codes "-to") then Some To
    else (if bytes_eq name (codes "-comment") then Some Comment
    else None)))))))

-- the options of set_max_delay
abbrev pub max_delay_option : List ℕ → Option SdcOption
max_delay_option name =
    if bytes_eq name (codes "-from") then Some From
    else (if bytes_eq name (codes "-through") then Some Through
    else (if bytes_eq name (codes "-to") then Some To
    else (if bytes_eq name (codes "-comment") then Some Comment
    else None)))

abbrev pub option_of : CommandKind → List ℕ → Option SdcOption
option_of Version name = None
option_of Units name = unit_option name
option_of Design name = None
option_of CreateClock name = clock_option name
option_of InputDelay name = delay_option name
option_of OutputDelay name = delay_option name
option_of FalsePath name = false_path_option name
option_of Multicycle name = multicycle_option name
option_of MaxDelay name = max_delay_option name

-- the options that a word belongs to
abbrev pub takes_word : SdcOption → Bool
takes_word Time = true
takes_word Resistance = true
takes_word Capacitance = true
takes_word Current = true
takes_word Voltage = true
takes_word Power = true
takes_word Period = true
takes_word Name = true
takes_word Waveform = true
takes_word Comment = true
takes_word Clock = true
takes_word ClockFall = false
takes_word Max = false
takes_word Min = false
takes_word AddDelay = false
takes_word Setup = false
takes_word Hold = false
takes_word Start = false
takes_word End = false
takes_word From = true
takes_word Through = true
takes_word To = true

-- it was given, and may not be given again; only `-through` may
abbrev pub has : Seen → SdcOption → Bool
has seen Time = seen.time
has seen Resistance = seen.resistance
has seen Capacitance = seen.capacitance
has seen Current = seen.current
has seen Voltage = seen.voltage
has seen Power = seen.power
has seen Period = seen.period
has seen Name = seen.name
has seen Waveform = seen.waveform
has seen Comment = seen.comment
has seen Clock = seen.clock
has seen ClockFall = seen.clock_fall
has seen Max = seen.max
has seen Min = seen.min
has seen AddDelay = seen.add_delay
has seen Setup = seen.setup
has seen Hold = seen.hold
has seen Start = seen.start
has seen End = seen.end
has seen From = seen.from
has seen Through = false
has seen To = seen.to

abbrev pub with_option : SdcOption → Seen → Seen
with_option Time seen = record seen { time = true }
with_option Resistance seen = record seen { resistance = true }
with_option Capacitance seen = record seen { capacitance = true }
with_option Current seen = record seen { current = true }
with_option Voltage seen = record seen { voltage = true }
with_option Power seen = record seen { power = true }
with_option Period seen = record seen { period = true }
with_option Name seen = record seen { name = true }
with_option Waveform seen = record seen { waveform = true }
with_option Comment seen = record seen { comment = true }
with_option Clock seen = record seen { clock = true }
with_option ClockFall seen = record seen { clock_fall = true }
with_option Max seen = record seen { max = true }
with_option Min seen = record seen { min = true }
with_option AddDelay seen = record seen { add_delay = true }
with_option Setup seen = record seen { setup = true }
with_option Hold seen = record seen { hold = true }
with_option Start seen = record seen { start = true }
with_option End seen = record seen { end = true }
with_option From seen = record seen { from = true }
with_option Through seen = seen
with_option To seen = record seen { to = true }

abbrev pub none_seen : Seen
none_seen = record { time = false; resistance = false; capacitance = false; current = false; voltage = false; power = false; period = false; name = false; waveform = false; comment = false; clock = false; clock_fall = false; max = false; min = false; add_delay = false; setup = false; hold = false; start = false; end = false; from = false; to = false }

-- `-start` and `-end` may not stand together
abbrev pub excludes : Seen → SdcOption → Bool
excludes seen Time = false
excludes seen Resistance = false
excludes seen Capacitance = false
excludes seen Current = false
excludes seen Voltage = false
excludes seen Power = false
excludes seen Period = false
excludes seen Name = false
excludes seen Waveform = false
excludes seen Comment = false
excludes seen Clock = false
excludes seen ClockFall = false
excludes seen Max = false
excludes seen Min = false
excludes seen AddDelay = false
excludes seen Setup = false
excludes seen Hold = false
excludes seen Start = seen.end
excludes seen End = seen.start
excludes seen From = false
excludes seen Through = false
excludes seen To = false
