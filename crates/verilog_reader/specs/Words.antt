-- Signs and words of the language.
use Rattle.std.specs.Prelude.{ℕ, ◌&&◌, Bool, List, [], ◌∷◌, Option, Some, None, if◌then◌else◌}
use Rattle.std.specs.Str.{bytes_eq}
use Rattle.text_scan.specs.Left.{◌>>=◌}
use Rattle.verilog_lex.specs.Kinds.{names, signs}
use Rattle.verilog_reader.specs.Left.{Left, Word, next}

-- the word is this sign
abbrev pub is_sign : ℕ → Word → Bool
is_sign sign word = signs word.kind && bytes_eq word.bytes (sign ∷ [])

-- the word is this word of the language, not escaped
abbrev pub is_word : List ℕ → Word → Bool
is_word title word = names word.kind && bytes_eq word.bytes title

-- this sign
unfoldable pub sign : ℕ → Left → Option Left
sign expected s = do
  (word, s) ← next s
  if is_sign expected word then Some s else None

-- this word of the language
unfoldable pub title : List ℕ → Left → Option Left
title expected s = do
  (word, s) ← next s
  if is_word expected word then Some s else None
