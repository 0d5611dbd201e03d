-- Declarations of ports, in the header of a module and in its body.
use Rattle.std.specs.Prelude.{◌&&◌, ◌||◌, Bool, true, List, [], ◌∷◌, codes, is_some, is_none, Option, Some, None, if◌then◌else◌}
use Rattle.std.specs.List.{list_all}
use Rattle.std.specs.Str.{byte}
use Rattle.text_scan.specs.Left.{◌>>=◌}
use Rattle.verilog_reader.specs.Left.{Left, Production, Word, next, begins, behind_first}
use Rattle.verilog_reader.specs.Words.{sign, is_sign, is_word}
use Rattle.verilog_reader.specs.Names.{id}
use Rattle.verilog_reader.specs.Numbers.{maybe_range}
use Rattle.verilog_reader.specs.Lists.{separated}
use Rattle.bud_syntax.specs.declared.modules.Dir.{Dir}
use Rattle.bud_syntax.specs.declared.modules.Dir.TheVariants.{Input, Output, Inout}
use Rattle.verilog_reader.specs.declared.trees.Declared.{Declared}
use Rattle.verilog_reader.specs.declared.trees.HeaderPort.{HeaderPort}

-- "input" | "output" | "inout"
abbrev pub dir_of : Word → Option Dir
dir_of word =
    if is_word (codes "input") word then Some Input
    else (if is_word (codes "output") word then Some Output
    else (if is_word (codes "inout") word then Some Inout else None))

abbrev pub is_dir : Word → Bool
is_dir word = is_some (dir_of word)

unfoldable pub dir : Production Dir
dir s = do
  (word, s) ← next s
  d ← dir_of word
  Some (d, s)

-- "wire", or in a leaf also "reg"
abbrev pub is_net_type : Bool → Word → Bool
is_net_type leaf word = is_word (codes "wire") word || (leaf && is_word (codes "reg") word)

-- ["wire"], which has no effect
abbrev pub behind_net_type : Left → Left
behind_net_type s = if begins (is_net_type s.leaf) s then behind_first s else s

-- dir ["wire"] [range]
unfoldable pub declared : Production Declared
declared s = do
  (d, s) ← dir s
  (r, s) ← maybe_range (behind_net_type s)
  Some (record { dir = d; range = r }, s)

-- dir ["wire"] [range] id
unfoldable pub declared_port : Production HeaderPort
declared_port s = do
  (d, s) ← declared s
  (name, s) ← id s
  Some (record { named = name; declared = Some d }, s)

-- id
unfoldable pub listed_port : Production HeaderPort
listed_port s = do
  (name, s) ← id s
  Some (record { named = name; declared = None }, s)

unfoldable pub port : Production HeaderPort
port s = if begins is_dir s then declared_port s else listed_port s

-- where the first port has no declaration, no port of the header has one
abbrev pub begin_declared : List HeaderPort → Bool
begin_declared [] = true
begin_declared (p ∷ ps) = is_some p.declared || list_all (λ q. is_none q.declared) ps

-- id {"," id} | decl {"," (decl | id)}
unfoldable pub ports : Production (List HeaderPort)
ports s = do
  (ports, s) ← separated port s
  if begin_declared ports then Some (ports, s) else None

-- [ports] in parentheses
unfoldable pub maybe_ports : Production (List HeaderPort)
maybe_ports s = if begins (is_sign (byte ")")) s then Some ([], s) else ports s

-- "(" [ports] ")"
unfoldable pub header : Production (List HeaderPort)
header s = do
  s ← sign (byte "(") s
  (ports, s) ← maybe_ports s
  s ← sign (byte ")") s
  Some (ports, s)

-- ["(" [ports] ")"]
unfoldable pub maybe_header : Production (List HeaderPort)
maybe_header s = if begins (is_sign (byte "(")) s then header s else Some ([], s)
