-- What stands in brackets: object commands, and the objects that they find.
use Rattle.std.specs.Prelude.{◌≡◌, ℕ, ◌+◌, true, false, Option, Some, None, List, [], ◌∷◌, ◌++◌, map, codes, if◌then◌else◌}
use Rattle.std.specs.Str.{bytes_eq}
use Rattle.tcl_words.specs.Commands.{AreBracketWords}
use Rattle.tcl_words.specs.declared.words.Word.{Word}
use Rattle.bud_syntax.specs.declared.constraints.Object.{Object}
use Rattle.bud_syntax.specs.declared.constraints.Object.TheVariants as object
use Rattle.sdc_reader.specs.declared.faults.SdcFault.{SdcFault}
use Rattle.sdc_reader.specs.declared.faults.SdcFault.TheVariants.{Syntax, UnknownCommand, UnknownOption}
use Rattle.sdc_reader.specs.declared.opened.Found.{Found}
use Rattle.sdc_reader.specs.declared.opened.Finds.{Finds}
use Rattle.sdc_reader.specs.declared.opened.NameKind.{NameKind}
use Rattle.sdc_reader.specs.declared.opened.NameKind.TheVariants.{Ports, Pins, Cells, Clocks, Any}
use Rattle.sdc_reader.specs.declared.opened.ObjectCommand.{ObjectCommand}
use Rattle.sdc_reader.specs.declared.opened.ObjectCommand.TheVariants.{Get, AllInputs, AllOutputs, AllClocks, List as ListOf}
use Rattle.sdc_reader.specs.declared.opened.Inside.{Inside}
use Rattle.sdc_reader.specs.declared.opened.Inside.TheVariants.{Empty, Refused, Command}
use Rattle.sdc_reader.specs.declared.opened.Opened.{Opened}
use Rattle.sdc_reader.specs.Words.{is_option, is_bracket, names_in}

-- words, with the words in their brackets
pub data Forest : Type 0 where
  nothing : Forest
  plain_word : Word → Forest → Forest
  in_brackets : Word → Forest → Forest → Forest

-- these words, opened
pub data Opens : List Word → Forest → Type 0 where
  none : Opens [] nothing
  plain : (w : Word) (ws : List Word) (f : Forest) → is_bracket w.kind ≡ false → Opens ws f → Opens (w ∷ ws) (plain_word w f)
  nested : (w : Word) (ws inner : List Word) (inside f : Forest) → is_bracket w.kind ≡ true → AreBracketWords (w.at + 1) w.text inner → Opens inner inside → Opens ws f →
      Opens (w ∷ ws) (in_brackets w inside f)

abbrev pub object_command : List ℕ → Option ObjectCommand
object_command name =
    if bytes_eq name (codes "get_ports") then Some (Get Ports)
    else (if bytes_eq name (codes "get_pins") then Some (Get Pins)
    else (if bytes_eq name (codes "get_cells") then Some (Get Cells)
    else (if bytes_eq name (codes "get_clocks") then Some (Get Clocks)
    else (if bytes_eq name (codes "all_inputs") then Some AllInputs
    else (if bytes_eq name (codes "all_outputs") then Some AllOutputs
    else (if bytes_eq name (codes "all_clocks") then Some AllClocks
    else (if bytes_eq name (codes "list") then Some ListOf
    else None)))))))

abbrev pub named_object : NameKind → List ℕ → Object
named_object Ports name = object.Ports name
named_object Pins name = object.Pins name
named_object Cells name = object.Cells name
named_object Clocks name = object.Clocks name
named_object Any name = object.Any name

-- what the names in a word find
abbrev pub found_in : NameKind → Word → List Found
found_in kind word = map (λ name. record { at = word.at; object = named_object kind name }) (names_in word)

abbrev pub all_of : List Found → Finds
all_of found = record { found = found; refusal = None }

abbrev pub refused : SdcFault → Finds
refused fault = record { found = []; refusal = Some fault }

-- one after the other, up to the first refusal
abbrev pub behind_refusal : List Found → Option SdcFault → Finds → Finds
behind_refusal found None finds = record { found = found ++ finds.found; refusal = finds.refusal }
behind_refusal found (Some fault) finds = record { found = found; refusal = Some fault }

abbrev pub followed : Finds → Finds → Finds
followed first second = behind_refusal first.found first.refusal second

abbrev pub unknown_option : Word → SdcFault
unknown_option word = UnknownOption word.text word.at

abbrev pub unknown_command : Word → SdcFault
unknown_command word = UnknownCommand word.text word.at

-- brackets stand where the name of an object command should
abbrev pub bracket_name : Word → Forest → SdcFault
bracket_name w nothing = Syntax w.at
bracket_name w (plain_word _ _) = unknown_command w
bracket_name w (in_brackets _ _ _) = unknown_command w

abbrev pub misnamed : ℕ → Word → Option ObjectCommand → SdcFault
misnamed at first None = unknown_command first
misnamed at first (Some _) = Syntax at

-- brackets stand where none may
abbrev pub misplaced : Word → Forest → SdcFault
misplaced w nothing = Syntax w.at
misplaced w (plain_word first _) = misnamed w.at first (object_command first.text)
misplaced w (in_brackets first inside _) = bracket_name first inside

-- a word where none may stand any more
abbrev pub surplus : Forest → Option SdcFault
surplus nothing = None
surplus (plain_word w _) = Some (if is_option w then unknown_option w else Syntax w.at)
surplus (in_brackets w inside _) = Some (misplaced w inside)

-- `get_ports` and the like: one word of names
abbrev pub got : NameKind → ℕ → Forest → Finds
got kind at nothing = refused (Syntax at)
got kind at (plain_word w rest) = if is_option w then refused (unknown_option w) else record { found = found_in kind w; refusal = surplus rest }
got kind at (in_brackets w inside _) = refused (misplaced w inside)

-- where the word of names begins
abbrev pub names_place : Forest → Option ℕ
names_place nothing = None
names_place (plain_word w _) = if is_option w then None else Some w.at
names_place (in_brackets _ _ _) = None

-- an object command without words
abbrev pub all_found : ℕ → Object → Forest → Finds
all_found at object words = record { found = record { at = at; object = object } ∷ []; refusal = surplus words }

-- what an object command finds, whose name begins at this offset; `listed` is what its words find as those of `list`
abbrev pub obeyed : ObjectCommand → ℕ → Forest → Finds → Finds
obeyed (Get kind) at words listed = got kind at words
obeyed AllInputs at words listed = all_found at object.AllInputs words
obeyed AllOutputs at words listed = all_found at object.AllOutputs words
obeyed AllClocks at words listed = all_found at object.AllClocks words
obeyed ListOf at words listed = listed

abbrev pub commanded : Option ObjectCommand → Word → Forest → Finds → Finds
commanded None first words listed = refused (unknown_command first)
commanded (Some command) first words listed = obeyed command first.at words listed

-- what the words behind `list` find
unfoldable pub listed : Forest → Finds
listed nothing = all_of []
listed (plain_word w rest) = followed (if is_option w then refused (unknown_option w) else all_of (found_in Any w)) (listed rest)
listed (in_brackets w nothing rest) = followed (refused (Syntax w.at)) (listed rest)
listed (in_brackets w (in_brackets first inside _) rest) = followed (refused (bracket_name first inside)) (listed rest)
listed (in_brackets w (plain_word first words) rest) = followed (commanded (object_command first.text) first words (listed words)) (listed rest)

abbrev pub words_place : ObjectCommand → Forest → Option ℕ
words_place (Get _) words = names_place words
words_place AllInputs words = None
words_place AllOutputs words = None
words_place AllClocks words = None
words_place ListOf words = None

abbrev pub named : Option ObjectCommand → Word → Forest → Inside
named None first words = Refused (unknown_command first)
named (Some command) first words = Command command first.at (words_place command words) (obeyed command first.at words (listed words))

-- what stands in brackets, which hold these words
abbrev pub inside_of : Forest → Inside
inside_of nothing = Empty
inside_of (in_brackets first inside _) = Refused (bracket_name first inside)
inside_of (plain_word first words) = named (object_command first.text) first words

-- the words of a command, each with what stands in its brackets
abbrev pub opened : Forest → List Opened
opened nothing = []
opened (plain_word w rest) = record { word = w; inside = None } ∷ opened rest
opened (in_brackets w inside rest) = record { word = w; inside = Some (inside_of inside) } ∷ opened rest
