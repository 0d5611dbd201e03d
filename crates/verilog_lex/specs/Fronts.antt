-- What stands at the front of a Verilog text: what is skipped, a token, or nothing that may stand there (IEEE 1364).
use Rattle.std.specs.Prelude.{ℕ, ◌+◌, ◌==◌, ◌||◌, ◌&&◌, not, nat_lt, Bool, false, List, [], ◌∷◌, take, drop, Option, Some, None, if◌then◌else◌}
use Rattle.std.specs.Char.{is_ascii, is_ascii_alphabetic, is_ascii_alphanumeric, is_ascii_digit, is_ascii_graphic}
use Rattle.std.specs.List.{prefix_len}
use Rattle.std.specs.Option.{option_map}
use Rattle.verilog_lex.specs.declared.kinds.Kind.TheVariants.{Name, Escaped, Number, Quoted, Sign}
use Rattle.verilog_lex.specs.declared.fronts.Front.{Front}
use Rattle.verilog_lex.specs.declared.fronts.Front.TheVariants.{Skipped, Found, Refused}

-- space, tab, line feed, carriage return and form feed
abbrev pub is_white : ℕ → Bool
is_white b = b == 32 || b == 9 || b == 10 || b == 13 || b == 12

-- a letter or `_`, with which an identifier begins
abbrev pub begins_name : ℕ → Bool
begins_name b = is_ascii_alphabetic b || b == 95

-- a letter, a digit, `_` or `$`, with which it goes on
abbrev pub is_of_name : ℕ → Bool
is_of_name b = is_ascii_alphanumeric b || b == 95 || b == 36

-- no line feed
abbrev pub is_of_line : ℕ → Bool
is_of_line b = not (b == 10)

-- neither a double quote nor a line feed
abbrev pub is_of_string : ℕ → Bool
is_of_string b = not (b == 34 || b == 10)

-- the first byte passes a test
abbrev pub begins : (ℕ → Bool) → List ℕ → Bool
begins passes [] = false
begins passes (b ∷ _) = passes b

-- how many bytes stand before the first place at which these two stand one after the other
abbrev pub before_pair : ℕ → ℕ → List ℕ → Option ℕ
before_pair x y [] = None
before_pair x y (b ∷ bs) = if b == x && begins (λ c. c == y) bs then Some 0 else option_map (λ n. n + 1) (before_pair x y bs)

-- `/*` with what is behind it, up to the first `*/`
abbrev pub block_comment : Option ℕ → Front
block_comment None = Refused 0
block_comment (Some n) = Skipped (n + 4)

-- `(*` with what is behind it, up to the first `*)`; no byte past 127 may stand in it
abbrev pub attribute : List ℕ → Option ℕ → Front
attribute behind None = Refused 0
attribute behind (Some n) =
    if nat_lt (prefix_len is_ascii (take n behind)) n then Refused (prefix_len is_ascii (take n behind) + 2) else Skipped (n + 4)

-- a double quote with what is behind it, up to the next one on the line
abbrev pub quoted : List ℕ → Front
quoted behind = if begins (λ b. b == 34) (drop (prefix_len is_of_string behind) behind) then Found Quoted (prefix_len is_of_string behind + 2) else Refused 0

-- a backslash with the printable bytes behind it, where there are some and white space ends them; else it is a sign
abbrev pub escaped : List ℕ → Front
escaped behind =
    if nat_lt 0 (prefix_len is_ascii_graphic behind) && begins is_white (drop (prefix_len is_ascii_graphic behind) behind)
    then Found Escaped (prefix_len is_ascii_graphic behind + 1)
    else Found Sign 1

-- what stands at the front of a text with this first byte and these behind it: a comment, an attribute, a string, an
-- escaped identifier or another sign
unfoldable pub sign_front : ℕ → List ℕ → Front
sign_front b behind =
    if b == 47 && begins (λ c. c == 47) behind then Skipped (prefix_len is_of_line behind + 1)
    else (if b == 47 && begins (λ c. c == 42) behind then block_comment (before_pair 42 47 (drop 1 behind))
    else (if b == 40 && begins (λ c. c == 42) behind && not (begins (λ c. c == 41) (drop 1 behind)) then attribute (drop 1 behind) (before_pair 42 41 (drop 1 behind))
    else (if b == 34 then quoted behind
    else (if b == 92 then escaped behind
    else (if is_ascii_graphic b then Found Sign 1 else Refused 0)))))

-- the same with any first byte: an identifier, white space, a number, or the above
unfoldable pub front_of : ℕ → List ℕ → Front
front_of b behind =
    if begins_name b then Found Name (prefix_len is_of_name behind + 1)
    else (if is_white b then Skipped (prefix_len is_white behind + 1)
    else (if is_ascii_digit b then Found Number (prefix_len is_ascii_digit behind + 1) else sign_front b behind))
