-- The bytes of a token, and what it is.
use Rattle.std.specs.Prelude.{ℕ, ◌+◌, ◌&&◌, Bool, true, false, List, [], ◌∷◌}
use Rattle.std.specs.List.{slice_range}
use Rattle.std.specs.Str.{bytes_eq}
use Rattle.verilog_lex.specs.declared.kinds.Kind.{Kind}
use Rattle.verilog_lex.specs.declared.kinds.Kind.TheVariants.{Name, Escaped, Number, Quoted, Sign}
use Rattle.verilog_lex.specs.declared.kinds.Token.{Token}

-- the bytes of a token in its text
abbrev pub bytes_of : List ℕ → Token → List ℕ
bytes_of text token = slice_range text token.at (token.at + token.len)

abbrev pub names : Kind → Bool
names Name = true
names Escaped = false
names Number = false
names Quoted = false
names Sign = false

abbrev pub escapes : Kind → Bool
escapes Name = false
escapes Escaped = true
escapes Number = false
escapes Quoted = false
escapes Sign = false

abbrev pub numbers : Kind → Bool
numbers Name = false
numbers Escaped = false
numbers Number = true
numbers Quoted = false
numbers Sign = false

abbrev pub signs : Kind → Bool
signs Name = false
signs Escaped = false
signs Number = false
signs Quoted = false
signs Sign = true

abbrev pub is_name : Token → Bool
is_name token = names token.kind

abbrev pub is_escaped : Token → Bool
is_escaped token = escapes token.kind

abbrev pub is_number : Token → Bool
is_number token = numbers token.kind

-- the token is this word: a name, not escaped, of these bytes
abbrev pub is_word : List ℕ → List ℕ → Token → Bool
is_word text word token = names token.kind && bytes_eq (bytes_of text token) word

-- the token is this sign
abbrev pub is_sign : List ℕ → ℕ → Token → Bool
is_sign text sign token = signs token.kind && bytes_eq (bytes_of text token) (sign ∷ [])
