-- Single tokens of delay files.
use Rattle.std.specs.Prelude.{ℕ, ◌&&◌, Bool, true, false, List, [], ◌∷◌, length, take, drop, ◌-◌, Option, Some, None, codes, if◌then◌else◌}
use Rattle.std.specs.Str.{bytes_eq, str_eq_ignore_ascii_case}
use Rattle.text_scan.specs.Left.{Left, ◌>>=◌, next}
use Rattle.sdf_lex.specs.Tokens.{Token}
use Rattle.sdf_lex.specs.declared.lexemes.Kind.{Kind}
use Rattle.sdf_lex.specs.declared.lexemes.Kind.TheVariants.{Open, Close, Quoted, Word, Sign, Stray}

abbrev pub is_open : Kind → Bool
is_open Open = true
is_open Close = false
is_open Quoted = false
is_open Word = false
is_open Sign = false
is_open Stray = false

abbrev pub is_close : Kind → Bool
is_close Open = false
is_close Close = true
is_close Quoted = false
is_close Word = false
is_close Sign = false
is_close Stray = false

abbrev pub is_quoted : Kind → Bool
is_quoted Open = false
is_quoted Close = false
is_quoted Quoted = true
is_quoted Word = false
is_quoted Sign = false
is_quoted Stray = false

abbrev pub is_word : Kind → Bool
is_word Open = false
is_word Close = false
is_word Quoted = false
is_word Word = true
is_word Sign = false
is_word Stray = false

abbrev pub is_sign : Kind → Bool
is_sign Open = false
is_sign Close = false
is_sign Quoted = false
is_sign Word = false
is_sign Sign = true
is_sign Stray = false

abbrev pub is_stray : Kind → Bool
is_stray Open = false
is_stray Close = false
is_stray Quoted = false
is_stray Word = false
is_stray Sign = false
is_stray Stray = true

abbrev pub opens : Token → Bool
opens token = is_open token.kind

abbrev pub closes : Token → Bool
closes token = is_close token.kind

-- the token is this keyword, in either case
abbrev pub is_keyword : List ℕ → Token → Bool
is_keyword word token = is_word token.kind && str_eq_ignore_ascii_case token.bytes word

-- the token is this sign
abbrev pub is_mark : List ℕ → Token → Bool
is_mark mark token = is_sign token.kind && bytes_eq token.bytes mark

-- what stands next
abbrev pub next_is : (Token → Bool) → Left Token → Bool
next_is test ([], _) = false
next_is test (token ∷ _, _) = test token

-- "("
unfoldable pub opening : Left Token → Option (Left Token)
opening left = do
  (token, left) ← next left
  if opens token then Some left else None

-- ")"
unfoldable pub closing : Left Token → Option (Left Token)
closing left = do
  (token, left) ← next left
  if closes token then Some left else None

-- ":"
unfoldable pub colon : Left Token → Option (Left Token)
colon left = do
  (token, left) ← next left
  if is_mark (codes ":") token then Some left else None

-- a keyword
unfoldable pub keyword : List ℕ → Left Token → Option (Left Token)
keyword word left = do
  (token, left) ← next left
  if is_keyword word token then Some left else None

-- "(" and a keyword
unfoldable pub opened : List ℕ → Left Token → Option (Left Token)
opened word left = do
  left ← opening left
  keyword word left

abbrev pub is_some : {A : Type 0} → Option A → Bool
is_some None = false
is_some (Some x) = true

-- "(" and this keyword stand next
unfoldable pub starts : List ℕ → Left Token → Bool
starts word left = is_some (opened word left)

-- a word of any kind
unfoldable pub word : Left Token → Option (Token × Left Token)
word left = do
  (token, left) ← next left
  if is_word token.kind then Some (token, left) else None

-- what stands between the quotes of a string
abbrev pub inside_quotes : List ℕ → List ℕ
inside_quotes bytes = take (length bytes - 2) (drop 1 bytes)

-- a string
unfoldable pub string : Left Token → Option (List ℕ × Left Token)
string left = do
  (token, left) ← next left
  if is_quoted token.kind then Some (inside_quotes token.bytes, left) else None
