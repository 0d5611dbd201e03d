-- What stands in the body of a module.
use Rattle.std.specs.Prelude.{ℕ, Bool, true, false, List, [], ◌∷◌, codes, is_some, Option, Some, None, if◌then◌else◌}
use Rattle.std.specs.List.{list_all}
use Rattle.std.specs.Str.{byte}
use Rattle.text_scan.specs.Left.{◌>>=◌}
use Rattle.text_scan.specs.Repeat.{repeat}
use Rattle.verilog_lex.specs.declared.kinds.Token.{Token}
use Rattle.verilog_reader.specs.Left.{Left, Production, Word, word_of, next, begins, with_tokens, size}
use Rattle.verilog_reader.specs.Words.{sign, title, is_word}
use Rattle.verilog_reader.specs.Names.{id}
use Rattle.verilog_reader.specs.Numbers.{maybe_range}
use Rattle.verilog_reader.specs.Joining.{expr}
use Rattle.verilog_reader.specs.Lists.{separated}
use Rattle.verilog_reader.specs.Links.{cell}
use Rattle.verilog_reader.specs.Declarations.{declared, is_dir}
use Rattle.bud_syntax.specs.declared.modules.Assign.{Assign}
use Rattle.bud_syntax.specs.declared.modules.Piece.{Piece}
use Rattle.bud_syntax.specs.declared.modules.Piece.TheVariants.{Net, Bit, Part, Const}
use Rattle.verilog_reader.specs.declared.trees.Item.{Item}
use Rattle.verilog_reader.specs.declared.trees.Item.TheVariants.{Ports, Nets, Assigns, Cells, Skipped}

-- dir ["wire"] [range] id {"," id} ";"
unfoldable pub ports_item : Production Item
ports_item s = do
  (d, s) ← declared s
  (names, s) ← separated id s
  s ← sign (byte ";") s
  Some (Ports d names, s)

-- whether a declaration that begins so makes constant nets
abbrev pub net_kind_of : Word → Option Bool
net_kind_of word =
    if is_word (codes "wire") word then Some false
    else (if is_word (codes "tri") word then Some false
    else (if is_word (codes "supply0") word then Some true
    else (if is_word (codes "supply1") word then Some true else None)))

abbrev pub is_net_kind : Word → Bool
is_net_kind word = is_some (net_kind_of word)

unfoldable pub net_kind : Production Bool
net_kind s = do
  (word, s) ← next s
  constant ← net_kind_of word
  Some (constant, s)

-- ("wire" | "tri" | "supply0" | "supply1") [range] id {"," id} ";"
unfoldable pub nets_item : Production Item
nets_item s = do
  (constant, s) ← net_kind s
  (r, s) ← maybe_range s
  (names, s) ← separated id s
  s ← sign (byte ";") s
  Some (Nets constant r names, s)

abbrev pub is_of_nets : Piece → Bool
is_of_nets (Net _) = true
is_of_nets (Bit _ _) = true
is_of_nets (Part _ _ _) = true
is_of_nets (Const _) = false

-- expr "=" expr, the left side without a constant
unfoldable pub assign : Production Assign
assign s = do
  (left, s) ← expr s
  s ← sign (byte "=") s
  (right, s) ← expr s
  if list_all is_of_nets left then Some (record { left = left; right = right }, s) else None

-- "assign" expr "=" expr {"," expr "=" expr} ";"
unfoldable pub assigns_item : Production Item
assigns_item s = do
  s ← title (codes "assign") s
  (assigns, s) ← separated assign s
  s ← sign (byte ";") s
  Some (Assigns assigns, s)

-- id id "(" [links] ")" {"," id "(" [links] ")"} ";"
unfoldable pub cells_item : Production Item
cells_item s = do
  (name, s) ← id s
  (cells, s) ← separated cell s
  s ← sign (byte ";") s
  Some (Cells name.name cells, s)

unfoldable pub item : Production Item
item s =
    if begins is_dir s then ports_item s
    else (if begins is_net_kind s then nets_item s
    else (if begins (is_word (codes "assign")) s then assigns_item s
    else cells_item s))

-- what is left behind the next word of this title, or where "endmodule" comes before it, from there on
abbrev pub behind_block : List ℕ → List ℕ → List Token → List Token
behind_block text title [] = []
behind_block text title (t ∷ ts) =
    if is_word title (word_of text t) then ts
    else (if is_word (codes "endmodule") (word_of text t) then t ∷ ts
    else behind_block text title ts)

-- what is left behind this word and the block that it opens
abbrev pub behind_opened : List ℕ → Word → List Token → List Token
behind_opened text word tokens =
    if is_word (codes "function") word then behind_block text (codes "endfunction") tokens
    else (if is_word (codes "task") word then behind_block text (codes "endtask") tokens
    else tokens)

-- a word of a leaf without effect, and behind "function" or "task" the block up to its end
unfoldable pub skipped : Production Item
skipped s = do
  (word, s) ← next s
  Some (Skipped, with_tokens s (behind_opened s.text word s.tokens))

-- in a leaf only the declarations of its ports are read
unfoldable pub leaf_item : Production Item
leaf_item s = if begins is_dir s then ports_item s else skipped s

unfoldable pub body_item : Production Item
body_item s = if s.leaf then leaf_item s else item s

abbrev pub ends_module : Left → Bool
ends_module s = begins (is_word (codes "endmodule")) s

-- {item}, up to "endmodule"
abbrev pub items : Production (List Item)
items s = repeat ends_module body_item (size s) s
