-- Nested lists that are passed over.
use Rattle.std.specs.Prelude.{ℕ, ◌+◌, ◌-◌, ◌==◌, ◌&&◌, not, Bool, false, List, length, Option, Some, None, if◌then◌else◌}
use Rattle.std.specs.List.{list_all}
use Rattle.text_scan.specs.Left.{Left, ◌>>=◌, next}
use Rattle.text_scan.specs.Nesting.{closed}
use Rattle.sdf_lex.specs.Tokens.{Token}
use Rattle.sdf_lex.specs.declared.lexemes.Kind.{Kind}
use Rattle.sdf_reader.specs.Marks.{is_open, is_close, is_stray, opens, closes, next_is, opening}
use Rattle.sdf_reader.specs.Until.{until}

-- none of them is a byte that no token has
abbrev pub are_tokens : List Token → Bool
are_tokens tokens = list_all (λ token. not (is_stray token.kind)) tokens

-- what stands behind the ")" that closes a list, where this many lists are open besides
abbrev pub behind_list : ℕ → List Token → Option (List Token)
behind_list depth tokens = do
  (inside, rest) ← closed opens closes depth tokens
  if are_tokens inside then Some rest else None

-- a token of this kind closes the list
abbrev pub ends_list : ℕ → Kind → Bool
ends_list depth kind = is_close kind && depth == 0

-- any tokens with balanced parentheses, and the ")" behind them
unfoldable pub balanced : Left Token → Option (Left Token)
balanced left = do
  rest ← behind_list 0 left.0
  Some (rest, left.1)

-- how many lists are open behind a token of this kind
abbrev pub depth_behind : ℕ → Kind → ℕ
depth_behind depth kind = if is_open kind then depth + 1 else (if is_close kind then depth - 1 else depth)

-- "(", balanced tokens, and ")"
unfoldable pub nested : Left Token → Option (Left Token)
nested left = do
  left ← opening left
  balanced left

-- no list begins next
abbrev pub no_list : Left Token → Bool
no_list left = not (next_is opens left)

-- any number of nested lists
unfoldable pub lists : Left Token → Option (Left Token)
lists left = until no_list nested (length left.0) left

-- a single token
unfoldable pub single : Left Token → Option (Left Token)
single left = do
  (token, left) ← next left
  if is_stray token.kind then None else (if closes token then None else Some left)

-- an element of a list: a nested list, or a single token
unfoldable pub element : Left Token → Option (Left Token)
element left = if next_is opens left then nested left else single left

abbrev pub closes_behind : Option (Left Token) → Bool
closes_behind None = false
closes_behind (Some behind) = next_is closes behind

-- the next element is the last: the ")" stands behind it
abbrev pub is_last : Left Token → Bool
is_last left = closes_behind (element left)

-- the elements before the last one of a list
unfoldable pub before_last : Left Token → Option (Left Token)
before_last left = until is_last element (length left.0) left
