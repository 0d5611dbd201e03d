-- Names of instances, ports and pins, and their printed form.
use Rattle.std.specs.Prelude.{ℕ, ◌==◌, ◌||◌, Bool, true, false, List, [], ◌∷◌, ◌++◌, Option, Some, None, if◌then◌else◌}
use Rattle.std.specs.Char.{is_ascii_digit, is_ascii_graphic}
use Rattle.text_scan.specs.Left.{Left, ◌>>=◌}
use Rattle.sdf_lex.specs.Words.{is_plain}
use Rattle.sdf_lex.specs.Tokens.{Token}
use Rattle.sdf_reader.specs.Marks.{word}
use Rattle.sdf_reader.specs.declared.names.Place.{Place}
use Rattle.sdf_reader.specs.declared.names.Place.TheVariants.{Outside, Escape, Bracket, Index}

-- behind a digit in brackets stand further digits and the closing bracket
abbrev pub behind_index : ℕ → Option Place
behind_index b = if is_ascii_digit b then Some Index else (if b == 93 then Some Outside else None)

-- Where the next byte of a name stands: outside of brackets, behind a backslash, behind a bracket, or behind a digit in
-- brackets. Outside stand letters, digits, `_`, `$`, the divider, a backslash, or a bracket with digits behind it.
abbrev pub behind_byte : ℕ → Place → ℕ → Option Place
behind_byte divider Outside b =
    if is_plain b || b == divider then Some Outside else (if b == 92 then Some Escape else (if b == 91 then Some Bracket else None))
behind_byte divider Escape b = if is_ascii_graphic b then Some Outside else None
behind_byte divider Bracket b = if is_ascii_digit b then Some Index else None
behind_byte divider Index b = behind_index b

abbrev pub is_outside : Place → Bool
is_outside Outside = true
is_outside Escape = false
is_outside Bracket = false
is_outside Index = false

-- the bytes end a name, from this place on
unfoldable pub ends_name : ℕ → Option Place → List ℕ → Bool
ends_name divider None bytes = false
ends_name divider (Some place) [] = is_outside place
ends_name divider (Some place) (b ∷ bs) = ends_name divider (behind_byte divider place b) bs

-- the word is a name: letters, digits, `_`, `$`, the divider, digits in brackets, and backslashes each with the character
-- after it
abbrev pub is_name : ℕ → List ℕ → Bool
is_name divider bytes = ends_name divider (Some Outside) bytes

-- an escaped character in printed form: a letter, a digit, `_` or `$` needs no backslash
abbrev pub escaped : ℕ → List ℕ
escaped b = if is_plain b then b ∷ [] else 92 ∷ b ∷ []

-- bytes of a name in printed form; the first of them may stand behind a backslash
unfoldable pub printed_from : ℕ → Bool → List ℕ → List ℕ
printed_from divider escape [] = []
printed_from divider true (b ∷ bs) = escaped b ++ printed_from divider false bs
printed_from divider false (b ∷ bs) =
    if b == 92
    then printed_from divider true bs
    else ((if b == divider then 47 else b) ∷ printed_from divider false bs)

-- The printed form of a name: split at its dividers, except those behind a backslash, into identifiers that are joined
-- by `/`, with a backslash before each character that needs one.
abbrev pub printed : ℕ → List ℕ → List ℕ
printed divider bytes = printed_from divider false bytes

-- a name, in printed form
unfoldable pub name : ℕ → Left Token → Option (List ℕ × Left Token)
name divider left = do
  (token, left) ← word left
  if is_name divider token.bytes then Some (printed divider token.bytes, left) else None
