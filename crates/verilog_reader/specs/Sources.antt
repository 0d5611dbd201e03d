-- What stands in a file: directives, modules and primitives.
use Rattle.std.specs.Prelude.{ℕ, ◌+◌, ◌==◌, ◌&&◌, nat_lt, Bool, true, false, List, [], ◌∷◌, drop, codes, Option, Some, None, if◌then◌else◌}
use Rattle.std.specs.List.{prefix_len}
use Rattle.std.specs.Str.{byte, bytes_eq}
use Rattle.text_scan.specs.Left.{◌>>=◌}
use Rattle.verilog_lex.specs.Fronts.{is_of_line}
use Rattle.verilog_lex.specs.Kinds.{names}
use Rattle.verilog_lex.specs.declared.kinds.Token.{Token}
use Rattle.verilog_words.specs.Reserved.{is_skipped}
use Rattle.verilog_reader.specs.Left.{Left, Production, word_of, next, with_tokens}
use Rattle.verilog_reader.specs.Words.{sign, title, is_word}
use Rattle.verilog_reader.specs.Names.{id}
use Rattle.verilog_reader.specs.Declarations.{maybe_header}
use Rattle.verilog_reader.specs.Items.{items}
use Rattle.verilog_reader.specs.declared.trees.Tree.{Tree}

-- "module" id ["(" [ports] ")"] ";" {item} "endmodule"
unfoldable pub tree : Production Tree
tree s = do
  s ← title (codes "module") s
  (name, s) ← id s
  (header, s) ← maybe_header s
  s ← sign (byte ";") s
  (items, s) ← items s
  s ← title (codes "endmodule") s
  Some (record { leaf = s.leaf; name = name.name; header = header; items = items }, s)

-- what is left behind the next word of this title
abbrev pub behind_word : List ℕ → List ℕ → List Token → Option (List Token)
behind_word text expected [] = None
behind_word text expected (t ∷ ts) = if is_word expected (word_of text t) then Some ts else behind_word text expected ts

-- what is left where these tokens are found
abbrev pub with_found : Left → Option (List Token) → Option Left
with_found s None = None
with_found s (Some tokens) = Some (with_tokens s tokens)

-- "primitive" with all up to "endprimitive", which has no effect
unfoldable pub primitive : Left → Option Left
primitive s = do
  s ← title (codes "primitive") s
  with_found s (behind_word s.text (codes "endprimitive") s.tokens)

-- the offset at which the line ends that the offset stands in
abbrev pub line_end : List ℕ → ℕ → ℕ
line_end text at = at + prefix_len is_of_line (drop at text)

-- the tokens that begin at this offset or behind it
abbrev pub from_offset : ℕ → List Token → List Token
from_offset offset [] = []
from_offset offset (t ∷ ts) = if nat_lt t.at offset then from_offset offset ts else t ∷ ts

-- from here on modules are leaves, or aren't
abbrev pub marked : Bool → Left → Left
marked leaf s = record { text = s.text; tokens = s.tokens; leaf = leaf; breach = s.breach }

-- `celldefine` and `endcelldefine` mark leaves; what is skipped is skipped to the end of the line
abbrev pub directed : ℕ → List ℕ → Left → Option Left
directed at name s =
    if bytes_eq name (codes "celldefine") then Some (marked true s)
    else (if bytes_eq name (codes "endcelldefine") then Some (marked false s)
    else (if is_skipped name then Some (with_tokens s (from_offset (line_end s.text at) s.tokens))
    else None))

-- a backtick with a name directly behind it
unfoldable pub directive : Left → Option Left
directive s = do
  (tick, s) ← next s
  (word, s) ← next s
  if names word.kind && word.at == tick.at + 1 then directed tick.at word.bytes s else None
