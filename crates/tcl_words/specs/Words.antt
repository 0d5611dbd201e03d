-- The words of a command, or of brackets.
use Rattle.std.specs.Prelude.{◌≡◌, ℕ, ◌+◌, ◌<◌, ◌||◌, Bool, true, false, List, [], ◌∷◌, ◌++◌, length, map}
use Rattle.std.specs.List.{list_all}
use Rattle.text_scan.specs.Nesting.{Balanced}
use Rattle.tcl_words.specs.Characters.{spelling, size, is_byte, meaning, is_gap, is_ascii, is_ordinary, is_digit, is_named, is_quotable}
use Rattle.tcl_words.specs.declared.characters.Character.{Character}
use Rattle.tcl_words.specs.declared.characters.Character.TheVariants.{Plain}
use Rattle.tcl_words.specs.declared.characters.Scope.{Scope}
use Rattle.tcl_words.specs.declared.characters.Scope.TheVariants.{Brackets}
use Rattle.tcl_words.specs.declared.words.Word.{Word}
use Rattle.tcl_words.specs.declared.words.WordKind.TheVariants.{Bare, Quoted, Braced, Bracket}

-- A bare word, or the rest of one: ordinary characters, and directly behind a name character, as `named` says that one
-- stands before, an index `[` digits `]`, which is as good as a name character.
pub data IsBare (scope : Scope) : Bool → List Character → Type 0 where
  over : (named : Bool) → IsBare scope named []
  next : (named : Bool) (c : Character) (cs : List Character) → is_ordinary scope c ≡ true → IsBare scope (is_named c) cs → IsBare scope named (c ∷ cs)
  index : (digits cs : List Character) → list_all is_digit digits ≡ true → 0 < length digits → IsBare scope true cs → IsBare scope true (Plain 91 ∷ (digits ++ Plain 93 ∷ cs))

-- a quote, a brace or a bracket that opens
abbrev pub opens_word : Character → Bool
opens_word c = is_byte 34 c || (is_byte 123 c || is_byte 91 c)

-- white space stands at the front, or nothing
abbrev pub begins_gap : Scope → List Character → Bool
begins_gap scope [] = true
begins_gap scope (c ∷ _) = is_gap scope c

mutual
  -- these characters, which begin at this offset, are this word
  pub data IsWord : Scope → ℕ → List Character → Word → Type 0 where
    bare : (scope : Scope) (at : ℕ) (c : Character) (cs : List Character) → opens_word c ≡ false → IsBare scope false (c ∷ cs) →
        IsWord scope at (c ∷ cs) (record { at = at; kind = Bare; text = map meaning (c ∷ cs) })
    quoted : (scope : Scope) (at : ℕ) (cs : List Character) → list_all is_quotable cs ≡ true →
        IsWord scope at (Plain 34 ∷ (cs ++ Plain 34 ∷ [])) (record { at = at; kind = Quoted; text = map meaning cs })
    braced : (scope : Scope) (at : ℕ) (cs : List Character) → Balanced (is_byte 123) (is_byte 125) cs → list_all is_ascii cs ≡ true →
        IsWord scope at (Plain 123 ∷ (cs ++ Plain 125 ∷ [])) (record { at = at; kind = Braced; text = spelling cs })
    bracket : (scope : Scope) (at : ℕ) (cs : List Character) (words : List Word) → AreWords Brackets (at + 1) cs words →
        IsWord scope at (Plain 91 ∷ (cs ++ Plain 93 ∷ [])) (record { at = at; kind = Bracket; text = spelling cs })

  -- these characters are these words, with white space before, behind and between them
  pub data AreWords : Scope → ℕ → List Character → List Word → Type 0 where
    none : (scope : Scope) (at : ℕ) (gap : List Character) → list_all (is_gap scope) gap ≡ true → AreWords scope at gap []
    more : (scope : Scope) (at : ℕ) (gap source rest : List Character) (word : Word) (words : List Word) → list_all (is_gap scope) gap ≡ true →
        IsWord scope (at + size gap) source word → begins_gap scope rest ≡ true → AreWords scope (at + size gap + size source) rest words →
        AreWords scope at (gap ++ (source ++ rest)) (word ∷ words)
