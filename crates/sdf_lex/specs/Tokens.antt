-- The tokens of a delay file (IEEE 1497), cut off one after another.
use Rattle.std.specs.Prelude.{ℕ, zero, suc, ◌+◌, ◌==◌, ◌||◌, Bool, false, List, [], ◌∷◌, ◌++◌, Option, Some, None, length, take, drop, if◌then◌else◌}
use Rattle.std.specs.Char.{is_ascii_graphic}
use Rattle.line_text.specs.Parts.{Part}
use Rattle.sdf_lex.specs.Words.{is_white, word_length, string_length, comment_length, line_length}
use Rattle.sdf_lex.specs.declared.lexemes.Kind.{Kind}
use Rattle.sdf_lex.specs.declared.lexemes.Kind.TheVariants.{Open, Close, Quoted, Word, Sign, Stray}

-- a token, and the offset at which it begins
pub record Token : Type 0 where
  pub kind : Kind
  pub at : ℕ
  pub bytes : List ℕ

-- a stretch of a text: a token of this kind, or none where it is white space or a comment, and how many bytes it takes
abbrev pub Stretch : Type 0
Stretch = Option Kind × ℕ

-- the byte stands next
abbrev pub begins : ℕ → List ℕ → Bool
begins b [] = false
begins b (c ∷ _) = c == b

-- a string, behind its first quote; one that isn't closed is stray up to the end of the text
abbrev pub string_stretch : List ℕ → Option ℕ → Stretch
string_stretch bs None = (Some Stray, 1 + length bs)
string_stretch bs (Some n) = (Some Quoted, 1 + n)

-- a comment, behind its `/*`; one that isn't closed is stray up to the end of the text
abbrev pub comment_stretch : List ℕ → Option ℕ → Stretch
comment_stretch bs None = (Some Stray, 2 + length bs)
comment_stretch bs (Some n) = (None, 2 + n)

-- any other byte: a sign where it is printable, but for a backslash
abbrev pub sign_stretch : ℕ → Stretch
sign_stretch b = if is_ascii_graphic b then (if b == 92 then (Some Stray, 1) else (Some Sign, 1)) else (Some Stray, 1)

-- A word is as long as it can be. A `+` or `-` directly in front of it belongs to it.
abbrev pub word_stretch : ℕ → List ℕ → Stretch
word_stretch b bs =
    if b == 43 || b == 45
    then (if word_length bs == 0 then (Some Sign, 1) else (Some Word, 1 + word_length bs))
    else (if word_length (b ∷ bs) == 0 then sign_stretch b else (Some Word, word_length (b ∷ bs)))

-- what stands at the front of a text
unfoldable pub stretch : List ℕ → Stretch
stretch [] = (None, 0)
stretch (b ∷ bs) =
    if is_white b then (None, 1)
    else (if b == 40 then (Some Open, 1)
    else (if b == 41 then (Some Close, 1)
    else (if b == 34 then string_stretch bs (string_length bs)
    else (if b == 47
    then (if begins 47 bs then (None, 1 + line_length bs)
    else (if begins 42 bs then comment_stretch (drop 1 bs) (comment_length (drop 1 bs))
    else word_stretch b bs))
    else word_stretch b bs))))

-- the token that a part of this kind is, if it is one
abbrev pub told : Option Kind → Part → List Token
told None part = []
told (Some kind) part = record { kind = kind; at = part.at; bytes = part.bytes } ∷ []

-- stretch by stretch, for at most this many
unfoldable pub tokens_from : ℕ → ℕ → List ℕ → List Token
tokens_from zero at bytes = []
tokens_from (suc stretches) at [] = []
tokens_from (suc stretches) at (b ∷ bs) =
    let s = stretch (b ∷ bs) in
    told s.0 (record { at = at; bytes = take s.1 (b ∷ bs) }) ++ tokens_from stretches (at + s.1) (drop s.1 (b ∷ bs))

-- the tokens of a part of a text
unfoldable pub tokens : Part → List Token
tokens part = tokens_from (length part.bytes) part.at part.bytes

-- the tokens of a whole text
abbrev pub tokens_of : List ℕ → List Token
tokens_of text = tokens (record { at = 0; bytes = text })
