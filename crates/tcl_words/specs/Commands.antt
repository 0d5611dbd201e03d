-- The commands of a text.
use Rattle.std.specs.Prelude.{◌≡◌, ℕ, ◌+◌, ◌<◌, ◌≤◌, Bool, true, false, not, List, [], ◌∷◌, ◌++◌, length, if◌then◌else◌, Result, Ok, Err}
use Rattle.std.specs.List.{list_all, AllByRecursion}
use Rattle.tcl_words.specs.Characters.{characters, size, is_byte, is_gap, is_end, is_feed}
use Rattle.tcl_words.specs.Words.{AreWords}
use Rattle.tcl_words.specs.declared.characters.Character.{Character}
use Rattle.tcl_words.specs.declared.characters.Scope.{Scope}
use Rattle.tcl_words.specs.declared.characters.Scope.TheVariants.{Line, Brackets}
use Rattle.tcl_words.specs.declared.words.Word.{Word}
use Rattle.tcl_words.specs.declared.words.WordKind.TheVariants.{Bracket}
use Rattle.tcl_words.specs.declared.words.TclFault.{TclFault}
use Rattle.tcl_words.specs.declared.words.TclFault.TheVariants.{Syntax, NoMemory}

-- what stands behind the white space at the front
abbrev pub behind_gap : Scope → List Character → List Character
behind_gap scope [] = []
behind_gap scope (c ∷ cs) = if is_gap scope c then behind_gap scope cs else c ∷ cs

-- `#` stands at the front
abbrev pub begins_hash : List Character → Bool
begins_hash [] = false
begins_hash (c ∷ _) = is_byte 35 c

-- `#` in a command's place, and no line feed behind it
pub record IsComment (cs : List Character) : Type 0 where
  pub hash : begins_hash (behind_gap Line cs) ≡ true
  pub on_line : list_all (λ c. not (is_feed c)) (behind_gap Line cs) ≡ true

-- words without a `#` in the command's place; there may be none
pub record IsCommand (at : ℕ) (cs : List Character) (words : List Word) : Type 0 where
  pub no_comment : begins_hash (behind_gap Line cs) ≡ false
  pub are_words : AreWords Line at cs words

-- a command that has a word
abbrev pub kept : List Word → List (List Word)
kept [] = []
kept (word ∷ words) = (word ∷ words) ∷ []

-- The characters from this offset on are these commands: a command or a comment, and where a line feed ends it, or `;` a
-- command, further ones.
pub data AreCommands : ℕ → List Character → List (List Word) → Type 0 where
  command : (at : ℕ) (cs : List Character) (words : List Word) → IsCommand at cs words → AreCommands at cs (kept words)
  comment : (at : ℕ) (cs : List Character) → IsComment cs → AreCommands at cs []
  behind_command : (at : ℕ) (cs rest : List Character) (end : Character) (words : List Word) (commands : List (List Word)) → IsCommand at cs words → is_end Line end ≡ true →
      AreCommands (at + size (cs ++ end ∷ [])) rest commands → AreCommands at (cs ++ end ∷ rest) (kept words ++ commands)
  behind_comment : (at : ℕ) (cs rest : List Character) (end : Character) (commands : List (List Word)) → IsComment cs → is_feed end ≡ true →
      AreCommands (at + size (cs ++ end ∷ [])) rest commands → AreCommands at (cs ++ end ∷ rest) commands

-- the text splits into these commands
abbrev pub Splits : List ℕ → List (List Word) → Type 0
Splits text commands = AreCommands 0 (characters text) commands

-- what each answer of `commands` says of the text
abbrev pub IsCommandsAnswer : List ℕ → Result (List (List Word)) TclFault → Type 0
IsCommandsAnswer text (Ok commands) = Splits text commands
IsCommandsAnswer text (Err (Syntax at)) = (commands : List (List Word)) → Splits text commands → ⊥
IsCommandsAnswer text (Err NoMemory) = Unit {0}

-- the text of a word in brackets, which begins at this offset, is made of these words
abbrev pub AreBracketWords : ℕ → List ℕ → List Word → Type 0
AreBracketWords at text words = AreWords Brackets at (characters text) words

-- what each answer of `bracket_words` says
abbrev pub IsBracketAnswer : ℕ → List ℕ → Result (List Word) TclFault → Type 0
IsBracketAnswer at text (Ok words) = AreBracketWords at text words
IsBracketAnswer at text (Err (Syntax fault)) = (words : List Word) → AreBracketWords at text words → ⊥
IsBracketAnswer at text (Err NoMemory) = Unit {0}

-- the offset that a fault carries is at most this one
abbrev pub IsFaultWithin : {X : Type 0} → ℕ → Result X TclFault → Type 0
IsFaultWithin stop (Err (Syntax at)) = at ≤ stop
IsFaultWithin stop (Err NoMemory) = Unit {0}
IsFaultWithin stop (Ok _) = Unit {0}

-- this holds, unless memory ran out
abbrev pub UnlessMemory : {X : Type 0} → Result X TclFault → Type 0 → Type 0
UnlessMemory (Err NoMemory) P = Unit {0}
UnlessMemory (Err (Syntax _)) P = P
UnlessMemory (Ok _) P = P

abbrev pub IsSyntax : {X : Type 0} → Result X TclFault → Type 0
IsSyntax (Err (Syntax _)) = Unit {0}
IsSyntax (Err NoMemory) = ⊥
IsSyntax (Ok _) = ⊥

-- A word of a text that ends at this offset: it lies in the text, and where it stands in brackets, words stand in these.
pub record IsWordOf (stop : ℕ) (word : Word) : Type 0 where
  pub within : word.at + length word.text ≤ stop
  pub brackets : word.kind ≡ Bracket → (words : List Word) × AreBracketWords (word.at + 1) word.text words

-- words of a text
pub record AreWordsOf (stop : ℕ) (words : List Word) : Type 0 where
  pub count : length words ≤ stop
  pub each : AllByRecursion (IsWordOf stop) words

-- commands of a text, each with a word
pub record AreCommandsOf (stop : ℕ) (commands : List (List Word)) : Type 0 where
  pub count : length commands ≤ stop
  pub named : AllByRecursion (λ words. 0 < length words) commands
  pub each : AllByRecursion (AreWordsOf stop) commands
