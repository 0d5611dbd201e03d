-- Words as options, as names and as lists of names.
use Rattle.std.specs.Prelude.{ℕ, ◌==◌, ◌||◌, ◌&&◌, not, Bool, true, false, List, [], ◌∷◌, if◌then◌else◌}
use Rattle.std.specs.List.{list_all}
use Rattle.std.specs.Char.{is_ascii_digit, is_ascii_alphanumeric}
use Rattle.tcl_words.specs.declared.words.Word.{Word}
use Rattle.tcl_words.specs.declared.words.WordKind.{WordKind}
use Rattle.tcl_words.specs.declared.words.WordKind.TheVariants.{Bare, Quoted, Braced, Bracket}
use Rattle.tcl_words.specs.Lists.{elements}

abbrev pub is_bare : WordKind → Bool
is_bare Bare = true
is_bare Quoted = false
is_bare Braced = false
is_bare Bracket = false

abbrev pub is_bracket : WordKind → Bool
is_bracket Bare = false
is_bracket Quoted = false
is_bracket Braced = false
is_bracket Bracket = true

-- `-` stands at the front, and neither a digit nor a point behind it
abbrev pub is_dashed : List ℕ → Bool
is_dashed [] = false
is_dashed (b ∷ []) = b == 45
is_dashed (b ∷ c ∷ _) = b == 45 && not (is_ascii_digit c || c == 46)

abbrev pub is_option : Word → Bool
is_option word = is_bare word.kind && is_dashed word.text

abbrev pub is_empty : {A : Type 0} → List A → Bool
is_empty [] = true
is_empty (_ ∷ _) = false

-- a letter, a digit, or one of `_ $ . / [ ] - :`
abbrev pub is_name_byte : ℕ → Bool
is_name_byte b = is_ascii_alphanumeric b || (b == 95 || (b == 36 || (b == 46 || (b == 47 || (b == 91 || (b == 93 || (b == 45 || b == 58)))))))

-- a name that a clock may have
abbrev pub is_clock_name : List ℕ → Bool
is_clock_name text = not (is_empty text) && list_all is_name_byte text

-- the names in a word that isn't in brackets: a bare word is one, and one in braces or quotes is a list
abbrev pub names_in : Word → List (List ℕ)
names_in word = if is_bare word.kind then word.text ∷ [] else elements word.kind word.text
