-- What the functions answer that read words from an offset of a text.
use Rattle.std.specs.Prelude.{ℕ, ◌+◌, ◌-◌, ◌≤◌, List, length, map, drop, take, Result, Ok, Err, if◌then◌else◌}
use Rattle.tcl_words.specs.Characters.{characters, meaning, is_byte}
use Rattle.tcl_words.specs.Commands.{IsCommandsAnswer, IsBracketAnswer, IsFaultWithin}
use Rattle.tcl_words.specs.Scanning.{left, Stands, StandAll, IsLine}
use Rattle.tcl_words.specs.declared.characters.Character.{Character}
use Rattle.tcl_words.specs.declared.characters.Scope.{Scope}
use Rattle.tcl_words.specs.declared.words.Word.{Word}
use Rattle.tcl_words.specs.declared.words.WordKind.{WordKind}
use Rattle.tcl_words.specs.declared.words.WordKind.TheVariants.{Bare, Quoted, Braced, Bracket}
use Rattle.tcl_words.specs.declared.words.TclFault.{TclFault}
use Rattle.tcl_words.specs.declared.words.TclFault.TheVariants.{Syntax, NoMemory}

-- how a word is written that begins with this character
abbrev pub kind_of : Character → WordKind
kind_of c = if is_byte 34 c then Quoted else (if is_byte 123 c then Braced else (if is_byte 91 c then Bracket else Bare))

-- all but the first and the last
abbrev pub between : {A : Type 0} → List A → List A
between xs = take (length xs - 1 - 1) (drop 1 xs)

-- the bytes that a word stands for which is made of these
abbrev pub text_of : WordKind → List ℕ → List ℕ
text_of Bare bytes = map meaning (characters bytes)
text_of Quoted bytes = map meaning (characters (between bytes))
text_of Braced bytes = between bytes
text_of Bracket bytes = between bytes

-- the word has a first and a last byte besides its text
abbrev pub IsEnclosed : WordKind → ℕ → Type 0
IsEnclosed Bare size = Unit {0}
IsEnclosed Quoted size = 2 ≤ size
IsEnclosed Braced size = 2 ≤ size
IsEnclosed Bracket size = 2 ≤ size

-- What each answer of `next_word` says of the text from an offset on. In a larger text it begins at `base`.
abbrev pub IsWordAnswer : Scope → List ℕ → ℕ → ℕ → Result (Word × ℕ) TclFault → Type 0
IsWordAnswer scope text base at (Ok r) = Stands scope (base + at) (left text at) (left text r.1) r.0
IsWordAnswer scope text base at (Err (Syntax fault)) = ((rest : List Character) (word : Word) → Stands scope (base + at) (left text at) rest word → ⊥) × (fault ≤ base + length text)
IsWordAnswer scope text base at (Err NoMemory) = Unit {0}

-- what each answer of `words` says
abbrev pub IsWordsAnswer : Scope → List ℕ → ℕ → ℕ → Result (List Word × ℕ) TclFault → Type 0
IsWordsAnswer scope text base at (Ok r) = StandAll scope (base + at) (left text at) (left text r.1) r.0
IsWordsAnswer scope text base at (Err (Syntax fault)) = ((rest : List Character) (words : List Word) → StandAll scope (base + at) (left text at) rest words → ⊥) × (fault ≤ base + length text)
IsWordsAnswer scope text base at (Err NoMemory) = Unit {0}

-- what each answer of `line` says
abbrev pub IsLineAnswer : List ℕ → ℕ → Result (List Word × ℕ) TclFault → Type 0
IsLineAnswer text at (Ok r) = IsLine at (left text at) (left text r.1) r.0
IsLineAnswer text at (Err (Syntax fault)) = ((rest : List Character) (words : List Word) → IsLine at (left text at) rest words → ⊥) × (fault ≤ length text)
IsLineAnswer text at (Err NoMemory) = Unit {0}

-- what each answer of `split` says
pub record IsSplitAnswer (text : List ℕ) (result : Result (List (List Word)) TclFault) : Type 0 where
  pub answer : IsCommandsAnswer text result
  pub within : IsFaultWithin (length text) result

-- what each answer of `split_brackets` says
pub record IsBracketsAnswer (at : ℕ) (text : List ℕ) (result : Result (List Word) TclFault) : Type 0 where
  pub answer : IsBracketAnswer at text result
  pub within : IsFaultWithin (at + length text) result
