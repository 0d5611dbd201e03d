-- Ports, and entries of delays.
use Rattle.std.specs.Prelude.{ℕ, codes, List, Option, Some, None, if◌then◌else◌}
use Rattle.text_scan.specs.Left.{Left, ◌>>=◌, next}
use Rattle.bud_syntax.specs.declared.edges.Edge.{Edge}
use Rattle.bud_syntax.specs.declared.edges.Edge.TheVariants.{Rise, Fall}
use Rattle.bud_syntax.specs.declared.delays.SdfKind.{SdfKind}
use Rattle.bud_syntax.specs.declared.delays.SdfKind.TheVariants.{Delay, Wire}
use Rattle.sdf_lex.specs.Tokens.{Token}
use Rattle.sdf_reader.specs.Marks.{is_keyword, opens, next_is, opening, closing, opened, starts}
use Rattle.sdf_reader.specs.Names.{name}
use Rattle.sdf_reader.specs.Nests.{before_last}
use Rattle.sdf_reader.specs.Values.{values}

abbrev pub edge_of : Token → Option Edge
edge_of token = if is_keyword (codes "posedge") token then Some Rise else (if is_keyword (codes "negedge") token then Some Fall else None)

-- posedge or negedge
unfoldable pub edge : Left Token → Option (Edge × Left Token)
edge left = do
  (token, left) ← next left
  edge ← edge_of token
  Some (edge, left)

-- "(" (posedge | negedge) name ")"
unfoldable pub edged_port : ℕ → Left Token → Option ((Option Edge × List ℕ) × Left Token)
edged_port divider left = do
  left ← opening left
  (edge, left) ← edge left
  (name, left) ← name divider left
  left ← closing left
  Some ((Some edge, name), left)

unfoldable pub plain_port : ℕ → Left Token → Option ((Option Edge × List ℕ) × Left Token)
plain_port divider left = do
  (name, left) ← name divider left
  Some ((None, name), left)

-- a port: a name, or one with an edge
abbrev pub port : ℕ → Left Token → Option ((Option Edge × List ℕ) × Left Token)
port divider left = if next_is opens left then edged_port divider left else plain_port divider left

-- "(" IOPATH port name values ")"
unfoldable pub iopath : ℕ → ℕ → Left Token → Option (SdfKind × Left Token)
iopath divider unit left = do
  left ← opened (codes "IOPATH") left
  (from, left) ← port divider left
  (to, left) ← name divider left
  (value, left) ← values unit left
  left ← closing left
  Some (Delay from.1 from.0 to value, left)

-- "(" COND [string] balanced iopath ")"; a string is one of the balanced tokens
unfoldable pub conditional : ℕ → ℕ → Left Token → Option (SdfKind × Left Token)
conditional divider unit left = do
  left ← opened (codes "COND") left
  left ← before_last left
  (kind, left) ← iopath divider unit left
  left ← closing left
  Some (kind, left)

-- "(" CONDELSE iopath ")"
unfoldable pub otherwise : ℕ → ℕ → Left Token → Option (SdfKind × Left Token)
otherwise divider unit left = do
  left ← opened (codes "CONDELSE") left
  (kind, left) ← iopath divider unit left
  left ← closing left
  Some (kind, left)

-- "(" INTERCONNECT name name values ")"
unfoldable pub interconnect : ℕ → ℕ → Left Token → Option (SdfKind × Left Token)
interconnect divider unit left = do
  left ← opened (codes "INTERCONNECT") left
  (from, left) ← name divider left
  (to, left) ← name divider left
  (value, left) ← values unit left
  left ← closing left
  Some (Wire from to value, left)

-- an entry of a delay
unfoldable pub delay : ℕ → ℕ → Left Token → Option (SdfKind × Left Token)
delay divider unit left =
    if starts (codes "IOPATH") left then iopath divider unit left
    else (if starts (codes "COND") left then conditional divider unit left
    else (if starts (codes "CONDELSE") left then otherwise divider unit left
    else interconnect divider unit left))
