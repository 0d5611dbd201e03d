-- Parts of the standard that are left out, by the words with which they begin.
use Rattle.std.specs.Prelude.{◌||◌, ◌&&◌, Bool, codes, List, [], ◌∷◌, Option, Some, None, if◌then◌else◌}
use Rattle.sdf_lex.specs.Tokens.{Token}
use Rattle.sdf_reader.specs.Marks.{opens, is_keyword, is_mark}

abbrev pub is_left_out : Token → Bool
is_left_out token =
    is_keyword (codes "INCREMENT") token || is_keyword (codes "PORT") token || is_keyword (codes "DEVICE") token || is_keyword (codes "NETDELAY") token
    || is_keyword (codes "RETAIN") token || is_keyword (codes "PATHPULSE") token || is_keyword (codes "PATHPULSEPERCENT") token
    || is_keyword (codes "GLOBALPATHPULSE") token || is_keyword (codes "TIMINGENV") token || is_keyword (codes "LABEL") token

-- `*` directly behind INSTANCE
abbrev pub wildcard : Token → List Token → Option Token
wildcard word [] = None
wildcard word (t ∷ _) = if is_keyword (codes "INSTANCE") word && is_mark (codes "*") t then Some t else None

-- directly behind a "(": a word left out, or INSTANCE and `*`
abbrev pub behind_open : List Token → Option Token
behind_open [] = None
behind_open (word ∷ ts) = if is_left_out word then Some word else wildcard word ts

abbrev pub or_later : Option Token → Option Token → Option Token
or_later None later = later
or_later (Some t) later = Some t

-- behind this token, where it is a "("
abbrev pub left_out_here : Token → List Token → Option Token
left_out_here token ts = if opens token then behind_open ts else None

-- the first of them
unfoldable pub first_left_out : List Token → Option Token
first_left_out [] = None
first_left_out (t ∷ ts) = or_later (left_out_here t ts) (first_left_out ts)
