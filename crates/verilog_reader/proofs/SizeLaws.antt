-- No list of a netlist is longer than its tokens.
use Rattle.std.proofs.Common.{◌≡◌, ℕ, ◌+◌, ◌<◌, ◌≤◌, ◌==◌, ◌&&◌, not, nat_lt, Bool, true, false, Option, Some, None, List, [], ◌∷◌, ◌++◌, length, map, filter, codes, Result, Ok, Err, IfOk, All, refl, sym, ap, ◌∙◌, subst, arith, length-append, length-drop, if◌then◌else◌}
use Rattle.std.specs.Str.{byte, bytes_eq}
use Rattle.std.specs.List.{list_all, flat_map}
use Rattle.std.proofs.lemmas.List.{length-map}
use Rattle.std.proofs.lemmas.List.Concat.{flat_map-cons}
use Rattle.std.proofs.lemmas.List.Elements.{All-nil, All-cons, All-append, All-map}
use Rattle.std.proofs.lemmas.Option.{same_Some}
use Rattle.text_scan.specs.Repeat.{Runs, repeat}
use Rattle.text_scan.specs.Repeat.Runs.{over, turn as further}
use Rattle.text_scan.proofs.Binds.{step, by_test}
use Rattle.text_scan.proofs.RepeatLaws.{repeat_sound}
use Rattle.verilog_lex.specs.Kinds.{names}
use Rattle.verilog_lex.specs.Tokens.{AreTokens}
use Rattle.verilog_lex.specs.declared.kinds.Token.{Token}
use Rattle.verilog_lex.proofs.TokenLaws.{one_list}
use Rattle.verilog_words.specs.Reserved.{is_skipped}
use Rattle.verilog_reader.specs.Left.{Left, Production, Word, size, word_of, with_tokens, next, begins}
use Rattle.verilog_reader.specs.Words.{sign, is_sign, title, is_word}
use Rattle.verilog_reader.specs.Names.{id}
use Rattle.verilog_reader.specs.Numbers.{num, range, maybe_range}
use Rattle.verilog_reader.specs.Lists.{separated, behind_comma, has_no_comma}
use Rattle.verilog_reader.specs.Joining.{Joint, is_done, turn, somes, expr}
use Rattle.verilog_reader.specs.Links.{ends_link, maybe_expr, named_link, placed_link, links, cell}
use Rattle.verilog_reader.specs.Declarations.{dir, dir_of, is_dir, is_net_type, behind_net_type, declared, declared_port, listed_port, port, begin_declared, ports, maybe_ports, header, maybe_header}
use Rattle.verilog_reader.specs.Items.{ports_item, net_kind, net_kind_of, is_net_kind, nets_item, is_of_nets, assign, assigns_item, cells_item, item, behind_block, behind_opened, skipped, leaf_item, body_item, ends_module, items}
use Rattle.verilog_reader.specs.Sources.{tree, behind_word, with_found, primitive, from_offset, line_end, marked, directed, directive}
use Rattle.verilog_reader.specs.Modules.{item_nets, item_assigns, item_instances, instance_of, is_formed, module_of, assembled, port_of, first_declared, declarations, repeats_port, is_listed}
use Rattle.verilog_reader.specs.Breaches.{Breach}
use Rattle.verilog_reader.specs.Netlists.{marks, passed, made, part, parts, is_at_end, modules_of, whole, netlist, IsReadAnswer}
use Rattle.verilog_reader.specs.Sizes.{LinkHasAtMost, AssignHasAtMost, InstanceHasAtMost, ModuleHasAtMost, HasAtMost}
use Rattle.verilog_reader.specs.declared.trees.Named.{Named}
use Rattle.verilog_reader.specs.declared.trees.Declared.{Declared}
use Rattle.verilog_reader.specs.declared.trees.HeaderPort.{HeaderPort}
use Rattle.verilog_reader.specs.declared.trees.Cell.{Cell}
use Rattle.verilog_reader.specs.declared.trees.Tree.{Tree}
use Rattle.verilog_reader.specs.declared.trees.Assembled.{Assembled}
use Rattle.verilog_reader.specs.declared.trees.Item.{Item}
use Rattle.verilog_reader.specs.declared.trees.Item.TheVariants.{Ports, Nets, Assigns, Cells, Skipped}
use Rattle.verilog_reader.specs.declared.faults.VerilogFault.{VerilogFault}
use Rattle.verilog_reader.proofs.SizeLemmas.{next_less, tested, sign_less, id_less, num_less}
use Rattle.verilog_reader.proofs.NestingLaws.{turn_less}
use Rattle.verilog_reader.proofs.JoiningSteps.{start}
use Rattle.bud_syntax.specs.declared.modules.Dir.{Dir}
use Rattle.bud_syntax.specs.declared.modules.Range.{Range}
use Rattle.bud_syntax.specs.declared.modules.NetDecl.{NetDecl}
use Rattle.bud_syntax.specs.declared.modules.Piece.{Piece}
use Rattle.bud_syntax.specs.declared.modules.Link.{Link}
use Rattle.bud_syntax.specs.declared.modules.Assign.{Assign}
use Rattle.bud_syntax.specs.declared.modules.Module.{Module}

-- ---- single words
title_less : (expected : List ℕ) (s t : Left) → title expected s ≡ Some t → size t < size s
unfolding title
title_less expected s t read = step (next s) _ t read (λ r is_next behind.
    let P : Left → Type 0 = λ u. size u < size s in
    subst P (tested (is_word expected r.0) r.1 t behind) (next_less s r is_next))

-- ---- expressions
somes_fewer : (xs : List (Option Piece)) → length (somes xs) ≤ length xs
somes_fewer [] = omega arith
somes_fewer (None ∷ xs) = (let less = somes_fewer xs in omega arith)
somes_fewer (Some x ∷ xs) = (let less = somes_fewer xs in omega arith)

turns_long : (j k : Joint) (xs : List (Option Piece)) → Runs is_done turn j xs k → length xs + size k.rest ≤ size j.rest
turns_long _ _ _ (over j done) = omega arith
turns_long _ _ _ (further j k end x xs goes read runs) = (let less = turn_less j k x read in let others = turns_long k end xs runs in omega arith)

expr_long : (s : Left) (r : List Piece × Left) → expr s ≡ Some r → length r.0 + size r.1 ≤ size s
unfolding expr
expr_long s r read = step (repeat is_done turn (size s) (start s)) _ r read (λ q is_read behind.
    let P : List Piece × Left → Type 0 = λ u. length u.0 + size u.1 ≤ size s in
    let long = turns_long (start s) q.1 q.0 (repeat_sound is_done turn (size s) (start s) q.0 q.1 is_read) in
    let fewer = somes_fewer q.0 in
    subst P (same_Some _ r behind) (omega arith))

maybe_expr_long : (s : Left) (r : List Piece × Left) → maybe_expr s ≡ Some r → length r.0 + size r.1 ≤ size s
unfolding maybe_expr
maybe_expr_long s r read =
    let P : List Piece × Left → Type 0 = λ u. length u.0 + size u.1 ≤ size s in
    let none : 0 + size s ≤ size s = omega arith in
    by_test (begins ends_link s)
    (λ ends. subst P (same_Some ([], s) r (rw ends at read)) none)
    (λ bare. expr_long s r (rw bare at read))

-- ---- lists with commas
-- each element takes at least a word, but for so many in all, and this holds of it
abbrev Each : {X : Type 0} → (X → Type 0) → ℕ → ℕ → Production X → Type 0
Each {X} P most spare production = (s : Left) (r : X × Left) → size s ≤ most → production s ≡ Some r → (size r.1 + 1 ≤ size s + spare) × P r.0

record IsShort {X : Type 0} (P : X → Type 0) (spare : ℕ) (s : Left) (xs : List X) (t : Left) : Type 0 where
  long : length xs + size t ≤ size s + spare
  each : All P xs

behind_comma_each : {X : Type 0} (P : X → Type 0) (most spare : ℕ) (production : Production X) → spare ≤ 1 → Each P most spare production → Each P most 0 (behind_comma production)
unfolding behind_comma
behind_comma_each P most spare production few each s r room read = step (sign (byte ",") s) _ r read (λ t is_comma behind.
    let less = sign_less (byte ",") s t is_comma in
    let given = each t r (omega arith) behind in
    let fewer = given.0 in
    (omega arith, given.1))

runs_short : {X : Type 0} (P : X → Type 0) (most : ℕ) (stops : Left → Bool) (production : Production X) → Each P most 0 production →
    (s u : Left) (xs : List X) → size s ≤ most → Runs stops production s xs u → IsShort P 0 s xs u
runs_short P most stops production each _ _ _ room (over s ends) = record { long = omega arith; each = All-nil P }
runs_short P most stops production each _ _ _ room (further s t u x xs goes read runs) =
    let given = each s (x, t) room read in
    let fewer = given.0 in
    let others = runs_short P most stops production each t u xs (omega arith) runs in
    let others_long = others.long in
    record { long = omega arith; each = All-cons P x xs given.1 others.each }

separated_short : {X : Type 0} (P : X → Type 0) (most spare : ℕ) (production : Production X) → spare ≤ 1 → Each P most spare production →
    (s : Left) (r : List X × Left) → size s ≤ most → separated production s ≡ Some r → IsShort P spare s r.0 r.1
unfolding separated
separated_short {X} P most spare production few each s r room read = step (production s) _ r read (λ q is_first behind.
    step (repeat has_no_comma (behind_comma production) (size q.1) q.1) _ r behind (λ u are_others whole.
    let Q : List X × Left → Type 0 = λ v. IsShort P spare s v.0 v.1 in
    let given = each s q room is_first in
    let fewer = given.0 in
    let others = runs_short P most has_no_comma (behind_comma production) (behind_comma_each P most spare production few each) q.1 u.1 u.0 (omega arith)
    (repeat_sound has_no_comma (behind_comma production) (size q.1) q.1 u.0 u.1 are_others) in
    let others_long = others.long in
    let short : IsShort P spare s (q.0 ∷ u.0) u.1 = record { long = omega arith; each = All-cons P q.0 u.0 given.1 others.each } in
    subst Q (same_Some _ r whole) short))

-- what is only counted
abbrev Any : {X : Type 0} → X → Type 0
Any x = Unit {0}

id_each : (most : ℕ) → Each Any most 0 id
id_each most s r room read = (let less = id_less s r read in omega arith, tt)

-- ---- links and cells
named_each : (most : ℕ) → Each (LinkHasAtMost most) most 0 named_link
unfolding named_link
named_each most s r room read = step (sign (byte ".") s) _ r read (λ a is_point b1.
    step (id a) _ r b1 (λ b is_id b2.
    step (sign (byte "(") b.1) _ r b2 (λ c is_open b3.
    step (maybe_expr c) _ r b3 (λ e is_expr b4.
    step (sign (byte ")") e.1) _ r b4 (λ f is_end whole.
    let P : Link × Left → Type 0 = λ u. (size u.1 + 1 ≤ size s + 0) × LinkHasAtMost most u.0 in
    let one = sign_less (byte ".") s a is_point in
    let two = id_less a b is_id in
    let three = sign_less (byte "(") b.1 c is_open in
    let four = maybe_expr_long c e is_expr in
    let five = sign_less (byte ")") e.1 f is_end in
    subst P (same_Some _ r whole) (omega arith, omega arith))))))

placed_each : (most : ℕ) → Each (LinkHasAtMost most) most 1 placed_link
unfolding placed_link
placed_each most s r room read = step (maybe_expr s) _ r read (λ e is_expr whole.
    let P : Link × Left → Type 0 = λ u. (size u.1 + 1 ≤ size s + 1) × LinkHasAtMost most u.0 in
    let one = maybe_expr_long s e is_expr in
    subst P (same_Some _ r whole) (omega arith, omega arith))

links_short : (most : ℕ) (s : Left) (r : List Link × Left) → size s ≤ most → links s ≡ Some r → IsShort (LinkHasAtMost most) 1 s r.0 r.1
unfolding links
links_short most s r room read =
    let Q : List Link × Left → Type 0 = λ v. IsShort (LinkHasAtMost most) 1 s v.0 v.1 in
    by_test (begins (is_sign (byte ")")) s)
    (λ ends.
    let nothing : IsShort (LinkHasAtMost most) 1 s [] s = record { long = omega arith; each = All-nil (LinkHasAtMost most) } in
    subst Q (same_Some ([], s) r (rw ends at read)) nothing)
    (λ bare. by_test (begins (is_sign (byte ".")) s)
    (λ named.
    let given = separated_short (LinkHasAtMost most) most 0 named_link (omega arith) (named_each most) s r room (rw (bare, named) at read) in
    let long = given.long in
    record { long = omega arith; each = given.each })
    (λ placed. separated_short (LinkHasAtMost most) most 1 placed_link (omega arith) (placed_each most) s r room (rw (bare, placed) at read)))

record CellHasAtMost (most : ℕ) (cell : Cell) : Type 0 where
  links : length cell.links ≤ most
  pieces : All (LinkHasAtMost most) cell.links

cell_each : (most : ℕ) → Each (CellHasAtMost most) most 0 cell
unfolding cell
cell_each most s r room read = step (id s) _ r read (λ a is_id b1.
    step (sign (byte "(") a.1) _ r b1 (λ b is_open b2.
    let one = id_less s a is_id in
    let two = sign_less (byte "(") a.1 b is_open in
    step (links b) _ r b2 (λ c are_links b3.
    step (sign (byte ")") c.1) _ r b3 (λ d is_end whole.
    let P : Cell × Left → Type 0 = λ u. (size u.1 + 1 ≤ size s + 0) × CellHasAtMost most u.0 in
    let short = links_short most b c (omega arith) are_links in
    let three = short.long in
    let four = sign_less (byte ")") c.1 d is_end in
    subst P (same_Some _ r whole) (omega arith, record { links = omega arith; pieces = short.each })))))

-- ---- declarations
range_less : (s : Left) (r : Range × Left) → range s ≡ Some r → size r.1 < size s
unfolding range
range_less s r read = step (sign (byte "[") s) _ r read (λ a is_open b1.
    step (num a) _ r b1 (λ b is_first b2.
    step (sign (byte ":") b.1) _ r b2 (λ c is_colon b3.
    step (num c) _ r b3 (λ d is_last b4.
    step (sign (byte "]") d.1) _ r b4 (λ e is_end whole.
    let P : Range × Left → Type 0 = λ u. size u.1 < size s in
    let one = sign_less (byte "[") s a is_open in
    let two = num_less a b is_first in
    let three = sign_less (byte ":") b.1 c is_colon in
    let four = num_less c d is_last in
    let five = sign_less (byte "]") d.1 e is_end in
    subst P (same_Some _ r whole) (omega arith))))))

maybe_range_no_more : (s : Left) (r : Option Range × Left) → maybe_range s ≡ Some r → size r.1 ≤ size s
unfolding maybe_range
maybe_range_no_more s r read =
    let P : Option Range × Left → Type 0 = λ u. size u.1 ≤ size s in
    let none : size s ≤ size s = omega arith in
    by_test (begins (is_sign (byte "[")) s)
    (λ opens. step (range s) _ r (rw opens at read) (λ q is_range whole. let less = range_less s q is_range in subst P (same_Some _ r whole) (omega arith)))
    (λ bare. subst P (same_Some (None, s) r (rw bare at read)) none)

dir_less : (s : Left) (r : Dir × Left) → dir s ≡ Some r → size r.1 < size s
unfolding dir
dir_less s r read = step (next s) _ r read (λ q is_next behind. step (dir_of q.0) _ r behind (λ d is_dir whole.
    let P : Dir × Left → Type 0 = λ u. size u.1 < size s in
    subst P (same_Some _ r whole) (next_less s q is_next)))

net_type_no_more : (s : Left) → size (behind_net_type s) ≤ size s
net_type_no_more s = by_test (begins (is_net_type s.leaf) s)
    (λ is. let less = length-drop 1 s.tokens in rw is (omega arith))
    (λ none. rw none (omega arith))

declared_less : (s : Left) (r : Declared × Left) → declared s ≡ Some r → size r.1 < size s
unfolding declared
declared_less s r read = step (dir s) _ r read (λ q is_dir behind. step (maybe_range (behind_net_type q.1)) _ r behind (λ u is_range whole.
    let P : Declared × Left → Type 0 = λ u. size u.1 < size s in
    let one = dir_less s q is_dir in
    let two = net_type_no_more q.1 in
    let three = maybe_range_no_more (behind_net_type q.1) u is_range in
    subst P (same_Some _ r whole) (omega arith)))

declared_port_less : (s : Left) (r : HeaderPort × Left) → declared_port s ≡ Some r → size r.1 < size s
unfolding declared_port
declared_port_less s r read = step (declared s) _ r read (λ q is_declared behind. step (id q.1) _ r behind (λ u is_id whole.
    let P : HeaderPort × Left → Type 0 = λ u. size u.1 < size s in
    let one = declared_less s q is_declared in
    let two = id_less q.1 u is_id in
    subst P (same_Some _ r whole) (omega arith)))

listed_port_less : (s : Left) (r : HeaderPort × Left) → listed_port s ≡ Some r → size r.1 < size s
unfolding listed_port
listed_port_less s r read = step (id s) _ r read (λ u is_id whole.
    let P : HeaderPort × Left → Type 0 = λ u. size u.1 < size s in
    subst P (same_Some _ r whole) (id_less s u is_id))

port_each : (most : ℕ) → Each Any most 0 port
unfolding port
port_each most s r room read = by_test (begins is_dir s)
    (λ declares. (let less = declared_port_less s r (rw declares at read) in omega arith, tt))
    (λ bare. (let less = listed_port_less s r (rw bare at read) in omega arith, tt))

ports_long : (s : Left) (r : List HeaderPort × Left) → ports s ≡ Some r → length r.0 + size r.1 ≤ size s
unfolding ports
ports_long s r read = step (separated port s) _ r read (λ q are_ports behind.
    let P : List HeaderPort × Left → Type 0 = λ u. length u.0 + size u.1 ≤ size s in
    let short = separated_short Any (size s) 0 port (omega arith) (port_each (size s)) s q (omega arith) are_ports in
    let long = short.long in
    subst P (tested (begin_declared q.0) _ r behind) (omega arith))

maybe_ports_long : (s : Left) (r : List HeaderPort × Left) → maybe_ports s ≡ Some r → length r.0 + size r.1 ≤ size s
unfolding maybe_ports
maybe_ports_long s r read =
    let P : List HeaderPort × Left → Type 0 = λ u. length u.0 + size u.1 ≤ size s in
    let none : 0 + size s ≤ size s = omega arith in
    by_test (begins (is_sign (byte ")")) s)
    (λ ends. subst P (same_Some ([], s) r (rw ends at read)) none)
    (λ bare. ports_long s r (rw bare at read))

header_long : (s : Left) (r : List HeaderPort × Left) → header s ≡ Some r → length r.0 + size r.1 ≤ size s
unfolding header
header_long s r read = step (sign (byte "(") s) _ r read (λ a is_open b1. step (maybe_ports a) _ r b1 (λ q are_ports b2. step (sign (byte ")") q.1) _ r b2 (λ b is_end whole.
    let P : List HeaderPort × Left → Type 0 = λ u. length u.0 + size u.1 ≤ size s in
    let one = sign_less (byte "(") s a is_open in
    let two = maybe_ports_long a q are_ports in
    let three = sign_less (byte ")") q.1 b is_end in
    subst P (same_Some _ r whole) (omega arith))))

maybe_header_long : (s : Left) (r : List HeaderPort × Left) → maybe_header s ≡ Some r → length r.0 + size r.1 ≤ size s
unfolding maybe_header
maybe_header_long s r read =
    let P : List HeaderPort × Left → Type 0 = λ u. length u.0 + size u.1 ≤ size s in
    let none : 0 + size s ≤ size s = omega arith in
    by_test (begins (is_sign (byte "(")) s)
    (λ opens. header_long s r (rw opens at read))
    (λ bare. subst P (same_Some ([], s) r (rw bare at read)) none)

-- ---- items
-- what an item gives is no more than the words that it takes
record IsShortItem (most : ℕ) (s : Left) (x : Item) (t : Left) : Type 0 where
  nets : length (item_nets x) + size t ≤ size s
  assigns : length (item_assigns x) + size t ≤ size s
  instances : length (item_instances x) + size t ≤ size s
  sides : All (AssignHasAtMost most) (item_assigns x)
  links : All (InstanceHasAtMost most) (item_instances x)

ports_item_short : (most : ℕ) (s : Left) (r : Item × Left) → ports_item s ≡ Some r → IsShortItem most s r.0 r.1
unfolding ports_item
ports_item_short most s r read = step (declared s) _ r read (λ a is_declared b1. step (separated id a.1) _ r b1 (λ b are_names b2. step (sign (byte ";") b.1) _ r b2 (λ c is_end whole.
    let P : Item × Left → Type 0 = λ u. IsShortItem most s u.0 u.1 in
    let one = declared_less s a is_declared in
    let short = separated_short Any (size a.1) 0 id (omega arith) (id_each (size a.1)) a.1 b (omega arith) are_names in
    let two = short.long in
    let three = sign_less (byte ";") b.1 c is_end in
    let item_short : IsShortItem most s (Ports a.0 b.0) c = record {
      nets = omega arith;
      assigns = omega arith;
      instances = omega arith;
      sides = All-nil (AssignHasAtMost most);
      links = All-nil (InstanceHasAtMost most);
    } in
    subst P (same_Some _ r whole) item_short)))

net_kind_less : (s : Left) (r : Bool × Left) → net_kind s ≡ Some r → size r.1 < size s
unfolding net_kind
net_kind_less s r read = step (next s) _ r read (λ q is_next behind. step (net_kind_of q.0) _ r behind (λ d is_kind whole.
    let P : Bool × Left → Type 0 = λ u. size u.1 < size s in
    subst P (same_Some _ r whole) (next_less s q is_next)))

nets_item_short : (most : ℕ) (s : Left) (r : Item × Left) → nets_item s ≡ Some r → IsShortItem most s r.0 r.1
unfolding nets_item
nets_item_short most s r read = step (net_kind s) _ r read (λ a is_kind b1. step (maybe_range a.1) _ r b1 (λ g is_range b2. step (separated id g.1) _ r b2 (λ b are_names b3. step (sign (byte ";") b.1) _ r b3 (λ c is_end whole.
    let P : Item × Left → Type 0 = λ u. IsShortItem most s u.0 u.1 in
    let one = net_kind_less s a is_kind in
    let range_is = maybe_range_no_more a.1 g is_range in
    let short = separated_short Any (size g.1) 0 id (omega arith) (id_each (size g.1)) g.1 b (omega arith) are_names in
    let two = short.long in
    let three = sign_less (byte ";") b.1 c is_end in
    let net : Named → NetDecl = λ n. record { name = n.name; range = g.0; constant = a.0 } in
    let same : length (map net b.0) ≡ length b.0 = length-map b.0 net in
    let item_short : IsShortItem most s (Nets a.0 g.0 b.0) c = record {
      nets = omega arith;
      assigns = omega arith;
      instances = omega arith;
      sides = All-nil (AssignHasAtMost most);
      links = All-nil (InstanceHasAtMost most);
    } in
    subst P (same_Some _ r whole) item_short))))

assign_each : (most : ℕ) → Each (AssignHasAtMost most) most 0 assign
unfolding assign
assign_each most s r room read = step (expr s) _ r read (λ a is_left b1. step (sign (byte "=") a.1) _ r b1 (λ b is_sign b2. step (expr b) _ r b2 (λ c is_right whole.
    let P : Assign × Left → Type 0 = λ u. (size u.1 + 1 ≤ size s + 0) × AssignHasAtMost most u.0 in
    let one = expr_long s a is_left in
    let two = sign_less (byte "=") a.1 b is_sign in
    let three = expr_long b c is_right in
    subst P (tested (list_all is_of_nets a.0) _ r whole) (omega arith, record { left = omega arith; right = omega arith }))))

assigns_item_short : (most : ℕ) (s : Left) (r : Item × Left) → size s ≤ most → assigns_item s ≡ Some r → IsShortItem most s r.0 r.1
unfolding assigns_item
assigns_item_short most s r room read = step (title (codes "assign") s) _ r read (λ a is_title b1.
    let one = title_less (codes "assign") s a is_title in
    step (separated assign a) _ r b1 (λ b are_assigns b2. step (sign (byte ";") b.1) _ r b2 (λ c is_end whole.
    let P : Item × Left → Type 0 = λ u. IsShortItem most s u.0 u.1 in
    let short = separated_short (AssignHasAtMost most) most 0 assign (omega arith) (assign_each most) a b (omega arith) are_assigns in
    let two = short.long in
    let three = sign_less (byte ";") b.1 c is_end in
    let item_short : IsShortItem most s (Assigns b.0) c = record {
      nets = omega arith;
      assigns = omega arith;
      instances = omega arith;
      sides = short.each;
      links = All-nil (InstanceHasAtMost most);
    } in
    subst P (same_Some _ r whole) item_short)))

instances_at_most : (most : ℕ) (name : List ℕ) (cells : List Cell) → All (CellHasAtMost most) cells → All (InstanceHasAtMost most) (map (instance_of name) cells)
instances_at_most most name cells all = All-map (InstanceHasAtMost most) (instance_of name) cells (λ i default inside. let given = all i default inside in record { links = given.links; pieces = given.pieces })

cells_item_short : (most : ℕ) (s : Left) (r : Item × Left) → size s ≤ most → cells_item s ≡ Some r → IsShortItem most s r.0 r.1
unfolding cells_item
cells_item_short most s r room read = step (id s) _ r read (λ a is_id b1.
    let one = id_less s a is_id in
    step (separated cell a.1) _ r b1 (λ b are_cells b2. step (sign (byte ";") b.1) _ r b2 (λ c is_end whole.
    let P : Item × Left → Type 0 = λ u. IsShortItem most s u.0 u.1 in
    let short = separated_short (CellHasAtMost most) most 0 cell (omega arith) (cell_each most) a.1 b (omega arith) are_cells in
    let two = short.long in
    let three = sign_less (byte ";") b.1 c is_end in
    let same : length (map (instance_of a.0.name) b.0) ≡ length b.0 = length-map b.0 (instance_of a.0.name) in
    let item_short : IsShortItem most s (Cells a.0.name b.0) c = record {
      nets = omega arith;
      assigns = omega arith;
      instances = omega arith;
      sides = All-nil (AssignHasAtMost most);
      links = instances_at_most most a.0.name b.0 short.each;
    } in
    subst P (same_Some _ r whole) item_short)))

item_short : (most : ℕ) (s : Left) (r : Item × Left) → size s ≤ most → item s ≡ Some r → IsShortItem most s r.0 r.1
unfolding item
item_short most s r room read = by_test (begins is_dir s)
    (λ ports. ports_item_short most s r (rw ports at read))
    (λ no_ports. by_test (begins is_net_kind s)
    (λ nets. nets_item_short most s r (rw (no_ports, nets) at read))
    (λ no_nets. by_test (begins (is_word (codes "assign")) s)
    (λ assigns. assigns_item_short most s r room (rw (no_ports, no_nets, assigns) at read))
    (λ cells. cells_item_short most s r room (rw (no_ports, no_nets, cells) at read))))

block_no_more : (text expected : List ℕ) (ts : List Token) → length (behind_block text expected ts) ≤ length ts
block_no_more text expected [] = omega arith
block_no_more text expected (t ∷ ts) = by_test (is_word expected (word_of text t))
    (λ is. rw is (omega arith))
    (λ other. by_test (is_word (codes "endmodule") (word_of text t))
    (λ ends. rw (other, ends) (omega arith))
    (λ goes. let less = block_no_more text expected ts in rw (other, goes) (omega arith)))

opened_no_more : (text : List ℕ) (w : Word) (ts : List Token) → length (behind_opened text w ts) ≤ length ts
opened_no_more text w ts = by_test (is_word (codes "function") w)
    (λ is. rw is (block_no_more text (codes "endfunction") ts))
    (λ other. by_test (is_word (codes "task") w)
    (λ is. rw (other, is) (block_no_more text (codes "endtask") ts))
    (λ none. rw (other, none) (omega arith)))

skipped_short : (most : ℕ) (s : Left) (r : Item × Left) → skipped s ≡ Some r → IsShortItem most s r.0 r.1
unfolding skipped
skipped_short most s r read = step (next s) _ r read (λ a is_next whole.
    let P : Item × Left → Type 0 = λ u. IsShortItem most s u.0 u.1 in
    let one = next_less s a is_next in
    let two = opened_no_more a.1.text a.0 a.1.tokens in
    let item_short : IsShortItem most s Skipped (with_tokens a.1 (behind_opened a.1.text a.0 a.1.tokens)) = record {
      nets = omega arith;
      assigns = omega arith;
      instances = omega arith;
      sides = All-nil (AssignHasAtMost most);
      links = All-nil (InstanceHasAtMost most);
    } in
    subst P (same_Some _ r whole) item_short)

leaf_item_short : (most : ℕ) (s : Left) (r : Item × Left) → leaf_item s ≡ Some r → IsShortItem most s r.0 r.1
unfolding leaf_item
leaf_item_short most s r read = by_test (begins is_dir s)
    (λ ports. ports_item_short most s r (rw ports at read))
    (λ other. skipped_short most s r (rw other at read))

body_item_short : (most : ℕ) (s : Left) (r : Item × Left) → size s ≤ most → body_item s ≡ Some r → IsShortItem most s r.0 r.1
unfolding body_item
body_item_short most s r room read = either s.leaf read where
  either : (leaf : Bool) → (if leaf then leaf_item s else item s) ≡ Some r → IsShortItem most s r.0 r.1
  either true read = leaf_item_short most s r read
  either false read = item_short most s r room read

record AreShortItems (most : ℕ) (s : Left) (xs : List Item) (t : Left) : Type 0 where
  nets : length (flat_map item_nets xs) + size t ≤ size s
  assigns : length (flat_map item_assigns xs) + size t ≤ size s
  instances : length (flat_map item_instances xs) + size t ≤ size s
  sides : All (AssignHasAtMost most) (flat_map item_assigns xs)
  links : All (InstanceHasAtMost most) (flat_map item_instances xs)

more_long : {X A : Type 0} (f : X → List A) (x : X) (xs : List X) → length (flat_map f (x ∷ xs)) ≡ length (f x) + length (flat_map f xs)
more_long f x xs = ap length (flat_map-cons f x xs) ∙ length-append (f x) (flat_map f xs)

more_all : {X A : Type 0} (P : A → Type 0) (f : X → List A) (x : X) (xs : List X) → All P (f x) → All P (flat_map f xs) → All P (flat_map f (x ∷ xs))
more_all P f x xs first others = subst (All P) (sym (flat_map-cons f x xs)) (All-append P (f x) (flat_map f xs) first others)

items_short : (most : ℕ) (s u : Left) (xs : List Item) → size s ≤ most → Runs ends_module body_item s xs u → AreShortItems most s xs u
items_short most _ _ _ room (over s ends) =
    record { nets = omega arith; assigns = omega arith; instances = omega arith; sides = All-nil (AssignHasAtMost most); links = All-nil (InstanceHasAtMost most) }
items_short most _ _ _ room (further s t u x xs goes read runs) =
    let given = body_item_short most s (x, t) room read in
    let nets = given.nets in
    let assigns = given.assigns in
    let instances = given.instances in
    let others = items_short most t u xs (omega arith) runs in
    let others_nets = others.nets in
    let others_assigns = others.assigns in
    let others_instances = others.instances in
    let long_nets = more_long item_nets x xs in
    let long_assigns = more_long item_assigns x xs in
    let long_instances = more_long item_instances x xs in
    record {
      nets = omega arith;
      assigns = omega arith;
      instances = omega arith;
      sides = more_all (AssignHasAtMost most) item_assigns x xs given.sides others.sides;
      links = more_all (InstanceHasAtMost most) item_instances x xs given.links others.links;
    }

-- ---- modules
record IsShortTree (most : ℕ) (s : Left) (x : Tree) (t : Left) : Type 0 where
  less : size t < size s
  header : length x.header ≤ most
  nets : length (flat_map item_nets x.items) ≤ most
  assigns : length (flat_map item_assigns x.items) ≤ most
  instances : length (flat_map item_instances x.items) ≤ most
  sides : All (AssignHasAtMost most) (flat_map item_assigns x.items)
  links : All (InstanceHasAtMost most) (flat_map item_instances x.items)

tree_short : (most : ℕ) (s : Left) (r : Tree × Left) → size s ≤ most → tree s ≡ Some r → IsShortTree most s r.0 r.1
unfolding tree
tree_short most s r room read = step (title (codes "module") s) _ r read (λ a is_title b1. step (id a) _ r b1 (λ b is_id b2. step (maybe_header b.1) _ r b2 (λ c is_header b3. step (sign (byte ";") c.1) _ r b3 (λ d is_end b4.
    let one = title_less (codes "module") s a is_title in
    let two = id_less a b is_id in
    let three = maybe_header_long b.1 c is_header in
    let four = sign_less (byte ";") c.1 d is_end in
    step (items d) _ r b4 (λ e are_items b5. step (title (codes "endmodule") e.1) _ r b5 (λ f is_last whole.
    let P : Tree × Left → Type 0 = λ u. IsShortTree most s u.0 u.1 in
    let given = items_short most d e.1 e.0 (omega arith) (repeat_sound ends_module body_item (size d) d e.0 e.1 are_items) in
    let nets_are = given.nets in
    let assigns_are = given.assigns in
    let instances_are = given.instances in
    let six = title_less (codes "endmodule") e.1 f is_last in
    let short : IsShortTree most s (record { leaf = f.leaf; name = b.0.name; header = c.0; items = e.0 }) f = record {
      less = omega arith;
      header = omega arith;
      nets = omega arith;
      assigns = omega arith;
      instances = omega arith;
      sides = given.sides;
      links = given.links;
    } in
    subst P (same_Some _ r whole) short))))))

filter_fewer : {X : Type 0} (p : X → Bool) (xs : List X) → length (filter p xs) ≤ length xs
filter_fewer p [] = omega arith
filter_fewer p (x ∷ xs) = let less = filter_fewer p xs in by_test (p x) (λ is. rw is (omega arith)) (λ other. rw other (omega arith))

module_short : (most : ℕ) (s t : Left) (x : Tree) → IsShortTree most s x t → ModuleHasAtMost most (module_of x)
module_short most s t x given =
    let header_is = given.header in
    let nets_are = given.nets in
    let same : length (map (port_of (first_declared (declarations x))) x.header) ≡ length x.header = length-map x.header (port_of (first_declared (declarations x))) in
    let fewer = filter_fewer (λ n. not (repeats_port (is_listed x.header) n)) (flat_map item_nets x.items) in
    record { ports = omega arith; nets = omega arith; assigns = given.assigns; instances = given.instances; sides = given.sides; links = given.links }

-- ---- files
-- the modules of a part
record IsShortPart (most : ℕ) (s : Left) (x : Option Assembled) (t : Left) : Type 0 where
  long : length (modules_of (x ∷ [])) + size t ≤ size s
  each : All (ModuleHasAtMost most) (modules_of (x ∷ []))

offset_no_more : (offset : ℕ) (ts : List Token) → length (from_offset offset ts) ≤ length ts
offset_no_more offset [] = omega arith
offset_no_more offset (t ∷ ts) = by_test (nat_lt t.at offset)
    (λ before. let less = offset_no_more offset ts in rw before (omega arith))
    (λ behind. rw behind (omega arith))

directed_no_more : (at : ℕ) (name : List ℕ) (s t : Left) → directed at name s ≡ Some t → size t ≤ size s
directed_no_more at name s t read =
    let P : Left → Type 0 = λ u. size u ≤ size s in
    let same : size s ≤ size s = omega arith in
    by_test (bytes_eq name (codes "celldefine"))
    (λ begins_leaf. subst P (same_Some (marked true s) t (rw begins_leaf at read)) same)
    (λ other. by_test (bytes_eq name (codes "endcelldefine"))
    (λ ends_leaf. subst P (same_Some (marked false s) t (rw (other, ends_leaf) at read)) same)
    (λ neither. subst P (tested (is_skipped name) (with_tokens s (from_offset (line_end s.text at) s.tokens)) t (rw (other, neither) at read)) (offset_no_more (line_end s.text at) s.tokens)))

guarded : {A : Type 0} (test : Bool) (o : Option A) (y : A) → (if test then o else None) ≡ Some y → o ≡ Some y
guarded true o y read = read
guarded false o y read = absurd (cc)

directive_less : (s t : Left) → directive s ≡ Some t → size t < size s
unfolding directive
directive_less s t read = step (next s) _ t read (λ a is_tick b1. step (next a.1) _ t b1 (λ b is_word b2.
    let one = next_less s a is_tick in
    let two = next_less a.1 b is_word in
    let three = directed_no_more a.0.at b.0.bytes b.1 t (guarded (names b.0.kind && b.0.at == a.0.at + 1) _ t b2) in
    omega arith))

behind_word_less : (text expected : List ℕ) (ts us : List Token) → behind_word text expected ts ≡ Some us → length us ≤ length ts
behind_word_less text expected [] us read = absurd (cc)
behind_word_less text expected (t ∷ ts) us read = by_test (is_word expected (word_of text t))
    (λ is. let same = ap length (same_Some ts us (rw is at read)) in omega arith)
    (λ other. let less = behind_word_less text expected ts us (rw other at read) in omega arith)

found_no_more : (s t : Left) (o : Option (List Token)) → ((us : List Token) → o ≡ Some us → length us ≤ size s) → with_found s o ≡ Some t → size t ≤ size s
found_no_more s t None less read = absurd (cc)
found_no_more s t (Some us) less read = (let P : Left → Type 0 = λ u. size u ≤ size s in subst P (same_Some (with_tokens s us) t read) (less us refl))

primitive_less : (s t : Left) → primitive s ≡ Some t → size t < size s
unfolding primitive
primitive_less s t read = step (title (codes "primitive") s) _ t read (λ a is_title b1.
    let one = title_less (codes "primitive") s a is_title in
    let two = found_no_more a t (behind_word a.text (codes "endprimitive") a.tokens) (λ us. behind_word_less a.text (codes "endprimitive") a.tokens us) b1 in
    omega arith)

no_module : (most : ℕ) (s t : Left) → size t < size s → IsShortPart most s None t
no_module most s t less = record { long = omega arith; each = All-nil (ModuleHasAtMost most) }

one_module : (most : ℕ) (s t : Left) (x : Tree) (m : Assembled) → IsShortTree most s x t → assembled x ≡ Some m → IsShortPart most s (Some m) t
unfolding assembled
one_module most s t x m given read =
    let less = given.less in
    let P : Assembled → Type 0 = λ a. ModuleHasAtMost most a.«module» in
    let short : ModuleHasAtMost most m.«module» = subst P (tested (is_formed x) _ m read) (module_short most s t x given) in
    record { long = omega arith; each = All-cons (ModuleHasAtMost most) m.«module» [] short (All-nil (ModuleHasAtMost most)) }

marks_short : (most : ℕ) (s : Left) (r : Option Assembled × Left) → marks s ≡ Some r → IsShortPart most s r.0 r.1
unfolding marks
marks_short most s r read = step (directive s) _ r read (λ t is_directive whole.
    let P : Option Assembled × Left → Type 0 = λ u. IsShortPart most s u.0 u.1 in
    subst P (same_Some _ r whole) (no_module most s t (directive_less s t is_directive)))

passed_short : (most : ℕ) (s : Left) (r : Option Assembled × Left) → passed s ≡ Some r → IsShortPart most s r.0 r.1
unfolding passed
passed_short most s r read = step (primitive s) _ r read (λ t is_primitive whole.
    let P : Option Assembled × Left → Type 0 = λ u. IsShortPart most s u.0 u.1 in
    subst P (same_Some _ r whole) (no_module most s t (primitive_less s t is_primitive)))

made_short : (most : ℕ) (s : Left) (r : Option Assembled × Left) → size s ≤ most → made s ≡ Some r → IsShortPart most s r.0 r.1
unfolding made
made_short most s r room read = step (tree s) _ r read (λ a is_tree b1. step (assembled a.0) _ r b1 (λ m is_made whole.
    let P : Option Assembled × Left → Type 0 = λ u. IsShortPart most s u.0 u.1 in
    subst P (same_Some _ r whole) (one_module most s a.1 a.0 m (tree_short most s a room is_tree) is_made)))

part_short : (most : ℕ) (s : Left) (r : Option Assembled × Left) → size s ≤ most → part s ≡ Some r → IsShortPart most s r.0 r.1
unfolding part
part_short most s r room read = by_test (begins (is_sign (byte "`")) s)
    (λ tick. marks_short most s r (rw tick at read))
    (λ no_tick. by_test (begins (is_word (codes "primitive")) s)
    (λ is. passed_short most s r (rw (no_tick, is) at read))
    (λ other. made_short most s r room (rw (no_tick, other) at read)))

record AreShortParts (most : ℕ) (s : Left) (xs : List (Option Assembled)) (t : Left) : Type 0 where
  long : length (modules_of xs) + size t ≤ size s
  each : All (ModuleHasAtMost most) (modules_of xs)

part_and_parts : (x : Option Assembled) (xs : List (Option Assembled)) → modules_of (x ∷ xs) ≡ modules_of (x ∷ []) ++ modules_of xs
part_and_parts None xs = refl
part_and_parts (Some m) xs = refl

parts_short : (most : ℕ) (s u : Left) (xs : List (Option Assembled)) → size s ≤ most → Runs is_at_end part s xs u → AreShortParts most s xs u
parts_short most _ _ _ room (over s ends) = record { long = omega arith; each = All-nil (ModuleHasAtMost most) }
parts_short most _ _ _ room (further s t u x xs goes read runs) =
    let given = part_short most s (x, t) room read in
    let long = given.long in
    let others = parts_short most t u xs (omega arith) runs in
    let others_long = others.long in
    let joined = part_and_parts x xs in
    let sum = ap length joined ∙ length-append (modules_of (x ∷ [])) (modules_of xs) in
    record {
      long = omega arith;
      each = subst (All (ModuleHasAtMost most)) (sym joined) (All-append (ModuleHasAtMost most) (modules_of (x ∷ [])) (modules_of xs) given.each others.each);
    }

netlist_short : (most : ℕ) (text : List ℕ) (ts : List Token) (m : List Module) (b : Option Breach) → length ts ≤ most → netlist text ts ≡ Some (m, b) → HasAtMost most m
unfolding netlist
netlist_short most text ts m b room read = step (parts (whole text ts)) _ (m, b) read (λ q are_parts same.
    let given = parts_short most (whole text ts) q.1 q.0 room (repeat_sound is_at_end part (length ts) (whole text ts) q.0 q.1 are_parts) in
    let long = given.long in
    let short : HasAtMost most (modules_of q.0) = record { modules = omega arith; each = given.each } in
    subst (λ r. HasAtMost most r.0) (same_Some _ (m, b) same) short)

-- what is answered for a text with these tokens
pub answer_short : (most : ℕ) (text : List ℕ) (ts : List Token) (r : Result (List Module) VerilogFault) → AreTokens 0 text ts → length ts ≤ most → IsReadAnswer text r → IfOk r (HasAtMost most)
answer_short most text ts (Ok m) are room reads =
    let same : length reads.0 ≡ length ts = ap length (one_list 0 text reads.0 ts reads.1.0 are) in
    netlist_short most text reads.0 m None (omega arith) reads.1.1
answer_short most text ts (Err fault) are room given = tt
