-- In a netlist that is read the names of ports and instances are of graphic characters.
use Rattle.std.proofs.Common.{◌≡◌, ℕ, ◌+◌, ◌==◌, ◌&&◌, nat_lt, Bool, true, false, Option, Some, None, Ok, List, [], ◌∷◌, map, codes, length, All, refl, sym, subst, if◌then◌else◌}
use Rattle.std.specs.Str.{byte, bytes_eq}
use Rattle.std.specs.List.{list_all, flat_map, AllByRecursion}
use Rattle.std.proofs.lemmas.List.Concat.{flat_map-cons}
use Rattle.std.proofs.lemmas.List.Elements.{All-nil, All-cons, All-append}
use Rattle.std.proofs.lemmas.Option.{same_Some}
use Rattle.text_scan.proofs.Binds.{step, by_test}
use Rattle.text_scan.proofs.RepeatLaws.{repeat_sound}
use Rattle.verilog_lex.specs.Kinds.{names}
use Rattle.verilog_lex.specs.declared.kinds.Token.{Token}
use Rattle.verilog_lex.proofs.SpellingLaws.{answer_stands}
use Rattle.verilog_words.specs.Reserved.{is_skipped}
use Rattle.verilog_reader.specs.Breaches.{Breach}
use Rattle.verilog_reader.specs.Left.{Left, Word, size, word_of, with_tokens, next, begins}
use Rattle.verilog_reader.specs.Words.{sign, is_sign, title, is_word}
use Rattle.verilog_reader.specs.Names.{id}
use Rattle.verilog_reader.specs.Numbers.{maybe_range}
use Rattle.verilog_reader.specs.Lists.{separated}
use Rattle.verilog_reader.specs.Joining.{expr}
use Rattle.verilog_reader.specs.Links.{maybe_expr, named_link, placed_link, links, cell}
use Rattle.verilog_reader.specs.Declarations.{dir, dir_of, is_dir, is_net_type, behind_net_type, declared, declared_port, listed_port, port, begin_declared, ports, maybe_ports, header, maybe_header}
use Rattle.verilog_reader.specs.Items.{ports_item, net_kind, net_kind_of, is_net_kind, nets_item, is_of_nets, assign, assigns_item, cells_item, item, behind_block, behind_opened, skipped, leaf_item, body_item, ends_module, items}
use Rattle.verilog_reader.specs.Sources.{tree, behind_word, with_found, primitive, from_offset, line_end, marked, directed, directive}
use Rattle.verilog_reader.specs.Modules.{item_instances, instance_of, is_formed, module_of, assembled, port_of, first_declared, declarations}
use Rattle.verilog_reader.specs.Netlists.{marks, passed, made, part, parts, is_at_end, modules_of, whole, netlist, Reads}
use Rattle.verilog_reader.specs.declared.trees.Named.{Named}
use Rattle.verilog_reader.specs.declared.trees.Declared.{Declared}
use Rattle.verilog_reader.specs.declared.trees.HeaderPort.{HeaderPort}
use Rattle.verilog_reader.specs.declared.trees.Cell.{Cell}
use Rattle.verilog_reader.specs.declared.trees.Tree.{Tree}
use Rattle.verilog_reader.specs.declared.trees.Assembled.{Assembled}
use Rattle.verilog_reader.specs.declared.trees.Item.{Item}
use Rattle.bud_syntax.specs.declared.modules.Dir.{Dir}
use Rattle.bud_syntax.specs.declared.modules.Assign.{Assign}
use Rattle.bud_syntax.specs.declared.modules.Instance.{Instance}
use Rattle.bud_syntax.specs.declared.modules.Link.{Link}
use Rattle.bud_syntax.specs.declared.modules.Module.{Module}
use Rattle.bud_syntax.specs.declared.modules.Port.{Port}
use Rattle.bud_design.specs.DesignRules.{is_identifier}
use Rattle.netlist_names.specs.Identifiers.{HasIdentifiers}
use Rattle.netlist_names.proofs.Spelled.{AreSpelled, Kept, stand-spelled, dropped, tested, next-kept, sign-kept, title-kept, id-kept}
use Rattle.netlist_names.proofs.Expressions.{Keeps, Gives, expr-kept, maybe_expr-kept, maybe_range-kept, runs-give, separated-gives}

-- ---- what is said of values
abbrev Any : {X : Type 0} → X → Type 0
Any x = Unit {0}

abbrev IsNamed : Named → Type 0
IsNamed n = is_identifier n.name ≡ true

abbrev IsPort : HeaderPort → Type 0
IsPort p = is_identifier p.named.name ≡ true

abbrev IsCell : Cell → Type 0
IsCell c = is_identifier c.name ≡ true

abbrev IsInstance : Instance → Type 0
IsInstance i = is_identifier i.name ≡ true

abbrev After : {X : Type 0} → X × Left → Type 0
After r = Kept r.1

abbrev Left-and : {X : Type 0} → (X → Type 0) → X × Left → Type 0
Left-and P r = Kept r.1 × P r.0

-- ---- links and cells
named_link-gives : Gives Any named_link
unfolding named_link
named_link-gives s r read kept = step (sign (byte ".") s) _ r read (λ a is_point b1.
    step (id a) _ r b1 (λ b is_id b2.
    step (sign (byte "(") b.1) _ r b2 (λ c is_open b3.
    step (maybe_expr c) _ r b3 (λ e is_expr b4.
    step (sign (byte ")") e.1) _ r b4 (λ f is_end last.
    let one = sign-kept (byte ".") s a is_point kept in
    let two = (id-kept a b is_id one).0 in
    let three = sign-kept (byte "(") b.1 c is_open two in
    let four = maybe_expr-kept c e is_expr three in
    subst (Left-and {X = Link} Any) (same_Some _ r last) (sign-kept (byte ")") e.1 f is_end four, tt))))))

placed_link-gives : Gives Any placed_link
unfolding placed_link
placed_link-gives s r read kept = step (maybe_expr s) _ r read (λ e is_expr last. subst (Left-and {X = Link} Any) (same_Some _ r last) (maybe_expr-kept s e is_expr kept, tt))

links-kept : Keeps links
unfolding links
links-kept s r read kept = by_test (begins (is_sign (byte ")")) s)
    (λ ends. subst (After {X = List Link}) (same_Some ([], s) r (rw ends at read)) kept)
    (λ bare. by_test (begins (is_sign (byte ".")) s)
    (λ named. (separated-gives Any named_link named_link-gives s r (rw (bare, named) at read) kept).0)
    (λ placed. (separated-gives Any placed_link placed_link-gives s r (rw (bare, placed) at read) kept).0))

cell-gives : Gives IsCell cell
unfolding cell
cell-gives s r read kept = step (id s) _ r read (λ a is_id b1.
    step (sign (byte "(") a.1) _ r b1 (λ b is_open b2.
    step (links b) _ r b2 (λ c are_links b3.
    step (sign (byte ")") c.1) _ r b3 (λ d is_end last.
    let one = id-kept s a is_id kept in
    let two = sign-kept (byte "(") a.1 b is_open one.0 in
    let three = links-kept b c are_links two in
    subst (Left-and IsCell) (same_Some _ r last) (sign-kept (byte ")") c.1 d is_end three, one.1)))))

-- ---- declarations
dir-kept : Keeps dir
unfolding dir
dir-kept s r read kept = step (next s) _ r read (λ q is_next behind. step (dir_of q.0) _ r behind (λ d is_dir last. subst (After {X = Dir}) (same_Some _ r last) (next-kept s q is_next kept).1))

net_type-kept : (s : Left) → Kept s → Kept (behind_net_type s)
net_type-kept s kept = by_test (begins (is_net_type s.leaf) s) (λ is. rw is (dropped s.text 1 s.tokens kept)) (λ none. rw none kept)

declared-kept : Keeps declared
unfolding declared
declared-kept s r read kept = step (dir s) _ r read (λ q is_dir behind. step (maybe_range (behind_net_type q.1)) _ r behind (λ u is_range last.
    subst (After {X = Declared}) (same_Some _ r last) (maybe_range-kept (behind_net_type q.1) u is_range (net_type-kept q.1 (dir-kept s q is_dir kept)))))

declared_port-gives : Gives IsPort declared_port
unfolding declared_port
declared_port-gives s r read kept = step (declared s) _ r read (λ q is_declared behind. step (id q.1) _ r behind (λ u is_id last.
    subst (Left-and IsPort) (same_Some _ r last) (id-kept q.1 u is_id (declared-kept s q is_declared kept))))

listed_port-gives : Gives IsPort listed_port
unfolding listed_port
listed_port-gives s r read kept = step (id s) _ r read (λ u is_id last. subst (Left-and IsPort) (same_Some _ r last) (id-kept s u is_id kept))

port-gives : Gives IsPort port
unfolding port
port-gives s r read kept = by_test (begins is_dir s)
    (λ declares. declared_port-gives s r (rw declares at read) kept)
    (λ bare. listed_port-gives s r (rw bare at read) kept)

abbrev ArePorts : List HeaderPort → Type 0
ArePorts ps = AllByRecursion IsPort ps

ports-give : Gives ArePorts ports
unfolding ports
ports-give s r read kept = step (separated port s) _ r read (λ q are_ports behind.
    subst (Left-and ArePorts) (tested (begin_declared q.0) _ r behind).1 (separated-gives IsPort port port-gives s q are_ports kept))

maybe_ports-give : Gives ArePorts maybe_ports
unfolding maybe_ports
maybe_ports-give s r read kept = by_test (begins (is_sign (byte ")")) s)
    (λ ends. subst (Left-and ArePorts) (same_Some ([], s) r (rw ends at read)) (kept, tt))
    (λ bare. ports-give s r (rw bare at read) kept)

header-gives : Gives ArePorts header
unfolding header
header-gives s r read kept = step (sign (byte "(") s) _ r read (λ a is_open b1. step (maybe_ports a) _ r b1 (λ q are_ports b2. step (sign (byte ")") q.1) _ r b2 (λ b is_end last.
    let given = maybe_ports-give a q are_ports (sign-kept (byte "(") s a is_open kept) in
    subst (Left-and ArePorts) (same_Some _ r last) (sign-kept (byte ")") q.1 b is_end given.0, given.1))))

maybe_header-gives : Gives ArePorts maybe_header
unfolding maybe_header
maybe_header-gives s r read kept = by_test (begins (is_sign (byte "(")) s)
    (λ opens. header-gives s r (rw opens at read) kept)
    (λ bare. subst (Left-and ArePorts) (same_Some ([], s) r (rw bare at read)) (kept, tt))

-- ---- items
abbrev HasInstances : Item → Type 0
HasInstances x = All IsInstance (item_instances x)

ports_item-gives : Gives HasInstances ports_item
unfolding ports_item
ports_item-gives s r read kept = step (declared s) _ r read (λ a is_declared b1. step (separated id a.1) _ r b1 (λ b are_names b2. step (sign (byte ";") b.1) _ r b2 (λ c is_end last.
    let names = separated-gives IsNamed id id-kept a.1 b are_names (declared-kept s a is_declared kept) in
    subst (Left-and HasInstances) (same_Some _ r last) (sign-kept (byte ";") b.1 c is_end names.0, All-nil IsInstance))))

net_kind-kept : Keeps net_kind
unfolding net_kind
net_kind-kept s r read kept = step (next s) _ r read (λ q is_next behind. step (net_kind_of q.0) _ r behind (λ d is_kind last. subst (After {X = Bool}) (same_Some _ r last) (next-kept s q is_next kept).1))

nets_item-gives : Gives HasInstances nets_item
unfolding nets_item
nets_item-gives s r read kept = step (net_kind s) _ r read (λ a is_kind b1. step (maybe_range a.1) _ r b1 (λ g is_range b2. step (separated id g.1) _ r b2 (λ b are_names b3. step (sign (byte ";") b.1) _ r b3 (λ c is_end last.
    let names = separated-gives IsNamed id id-kept g.1 b are_names (maybe_range-kept a.1 g is_range (net_kind-kept s a is_kind kept)) in
    subst (Left-and HasInstances) (same_Some _ r last) (sign-kept (byte ";") b.1 c is_end names.0, All-nil IsInstance)))))

assign-gives : Gives Any assign
unfolding assign
assign-gives s r read kept = step (expr s) _ r read (λ a is_left b1. step (sign (byte "=") a.1) _ r b1 (λ b is_equals b2. step (expr b) _ r b2 (λ c is_right last.
    subst (Left-and {X = Assign} Any) (tested (list_all is_of_nets a.0) _ r last).1 (expr-kept b c is_right (sign-kept (byte "=") a.1 b is_equals (expr-kept s a is_left kept)), tt))))

assigns_item-gives : Gives HasInstances assigns_item
unfolding assigns_item
assigns_item-gives s r read kept = step (title (codes "assign") s) _ r read (λ a is_title b1. step (separated assign a) _ r b1 (λ b are_assigns b2. step (sign (byte ";") b.1) _ r b2 (λ c is_end last.
    let given = separated-gives Any assign assign-gives a b are_assigns (title-kept (codes "assign") s a is_title kept) in
    subst (Left-and HasInstances) (same_Some _ r last) (sign-kept (byte ";") b.1 c is_end given.0, All-nil IsInstance))))

instances-graphic : (module_name : List ℕ) (cells : List Cell) → AllByRecursion IsCell cells → All IsInstance (map (instance_of module_name) cells)
instances-graphic module_name [] given = All-nil IsInstance
instances-graphic module_name (c ∷ cs) given = All-cons IsInstance (instance_of module_name c) (map (instance_of module_name) cs) given.0 (instances-graphic module_name cs given.1)

cells_item-gives : Gives HasInstances cells_item
unfolding cells_item
cells_item-gives s r read kept = step (id s) _ r read (λ a is_id b1. step (separated cell a.1) _ r b1 (λ b are_cells b2. step (sign (byte ";") b.1) _ r b2 (λ c is_end last.
    let cells = separated-gives IsCell cell cell-gives a.1 b are_cells (id-kept s a is_id kept).0 in
    subst (Left-and HasInstances) (same_Some _ r last) (sign-kept (byte ";") b.1 c is_end cells.0, instances-graphic a.0.name b.0 cells.1))))

item-gives : Gives HasInstances item
unfolding item
item-gives s r read kept = by_test (begins is_dir s)
    (λ ports. ports_item-gives s r (rw ports at read) kept)
    (λ no_ports. by_test (begins is_net_kind s)
    (λ nets. nets_item-gives s r (rw (no_ports, nets) at read) kept)
    (λ no_nets. by_test (begins (is_word (codes "assign")) s)
    (λ assigns. assigns_item-gives s r (rw (no_ports, no_nets, assigns) at read) kept)
    (λ cells. cells_item-gives s r (rw (no_ports, no_nets, cells) at read) kept)))

block-kept : (text expected : List ℕ) (ts : List Token) → AreSpelled text ts → AreSpelled text (behind_block text expected ts)
block-kept text expected [] kept = tt
block-kept text expected (t ∷ ts) kept = by_test (is_word expected (word_of text t))
    (λ is. rw is kept.1)
    (λ other. by_test (is_word (codes "endmodule") (word_of text t))
    (λ ends. rw (other, ends) kept)
    (λ goes. rw (other, goes) (block-kept text expected ts kept.1)))

opened-kept : (text : List ℕ) (w : Word) (ts : List Token) → AreSpelled text ts → AreSpelled text (behind_opened text w ts)
opened-kept text w ts kept = by_test (is_word (codes "function") w)
    (λ is. rw is (block-kept text (codes "endfunction") ts kept))
    (λ other. by_test (is_word (codes "task") w)
    (λ is. rw (other, is) (block-kept text (codes "endtask") ts kept))
    (λ none. rw (other, none) kept))

skipped-gives : Gives HasInstances skipped
unfolding skipped
skipped-gives s r read kept = step (next s) _ r read (λ a is_next last.
    subst (Left-and HasInstances) (same_Some _ r last) (opened-kept a.1.text a.0 a.1.tokens (next-kept s a is_next kept).1, All-nil IsInstance))

leaf_item-gives : Gives HasInstances leaf_item
unfolding leaf_item
leaf_item-gives s r read kept = by_test (begins is_dir s)
    (λ ports. ports_item-gives s r (rw ports at read) kept)
    (λ other. skipped-gives s r (rw other at read) kept)

body_item-gives : Gives HasInstances body_item
unfolding body_item
body_item-gives s r read kept = either s.leaf read
  where
    either : (leaf : Bool) → (if leaf then leaf_item s else item s) ≡ Some r → Kept r.1 × HasInstances r.0
    either true read = leaf_item-gives s r read kept
    either false read = item-gives s r read kept

all-instances : (xs : List Item) → AllByRecursion HasInstances xs → All IsInstance (flat_map item_instances xs)
all-instances [] given = All-nil IsInstance
all-instances (x ∷ xs) given = subst (All IsInstance) (sym (flat_map-cons item_instances x xs)) (All-append IsInstance (item_instances x) (flat_map item_instances xs) given.0 (all-instances xs given.1))

-- ---- modules
record IsGraphicTree (t : Tree) : Type 0 where
  name : is_identifier t.name ≡ true
  header : AllByRecursion IsPort t.header
  instances : All IsInstance (flat_map item_instances t.items)

tree-gives : Gives IsGraphicTree tree
unfolding tree
tree-gives s r read kept = step (title (codes "module") s) _ r read (λ a is_title b1. step (id a) _ r b1 (λ b is_id b2. step (maybe_header b.1) _ r b2 (λ c is_header b3. step (sign (byte ";") c.1) _ r b3 (λ d is_end b4.
    step (items d) _ r b4 (λ e are_items b5. step (title (codes "endmodule") e.1) _ r b5 (λ f is_last last.
    let one = title-kept (codes "module") s a is_title kept in
    let two = id-kept a b is_id one in
    let three = maybe_header-gives b.1 c is_header two.0 in
    let four = sign-kept (byte ";") c.1 d is_end three.0 in
    let five = runs-give HasInstances ends_module body_item body_item-gives d e.1 e.0 (repeat_sound ends_module body_item (size d) d e.0 e.1 are_items) four in
    let fine : IsGraphicTree (record { leaf = f.leaf; name = b.0.name; header = c.0; items = e.0 }) = record { name = two.1; header = three.1; instances = all-instances e.0 five.1 } in
    subst (Left-and IsGraphicTree) (same_Some _ r last) (title-kept (codes "endmodule") e.1 f is_last five.0, fine)))))))

abbrev IsGraphicPort : Port → Type 0
IsGraphicPort p = is_identifier p.name ≡ true

ports-graphic : (said : List ℕ → Option Declared) (ps : List HeaderPort) → AllByRecursion IsPort ps → All IsGraphicPort (map (port_of said) ps)
ports-graphic said [] given = All-nil IsGraphicPort
ports-graphic said (p ∷ ps) given = All-cons IsGraphicPort (port_of said p) (map (port_of said) ps) given.0 (ports-graphic said ps given.1)

module-graphic : (t : Tree) → IsGraphicTree t → HasIdentifiers (module_of t)
module-graphic t given = record { name = given.name; ports = ports-graphic (first_declared (declarations t)) t.header given.header; instances = given.instances }

abbrev IsGraphicMade : Assembled → Type 0
IsGraphicMade m = HasIdentifiers m.«module»

assembled-graphic : (t : Tree) (m : Assembled) → assembled t ≡ Some m → IsGraphicTree t → IsGraphicMade m
unfolding assembled
assembled-graphic t m read given = subst IsGraphicMade (tested (is_formed t) _ m read).1 (module-graphic t given)

-- ---- files
offset-kept : (text : List ℕ) (offset : ℕ) (ts : List Token) → AreSpelled text ts → AreSpelled text (from_offset offset ts)
offset-kept text offset [] kept = tt
offset-kept text offset (t ∷ ts) kept = by_test (nat_lt t.at offset) (λ before. rw before (offset-kept text offset ts kept.1)) (λ behind. rw behind kept)

directed-kept : (at : ℕ) (name : List ℕ) (s t : Left) → directed at name s ≡ Some t → Kept s → Kept t
directed-kept at name s t read kept = by_test (bytes_eq name (codes "celldefine"))
    (λ begins_leaf. subst Kept (same_Some (marked true s) t (rw begins_leaf at read)) kept)
    (λ other. by_test (bytes_eq name (codes "endcelldefine"))
    (λ ends_leaf. subst Kept (same_Some (marked false s) t (rw (other, ends_leaf) at read)) kept)
    (λ neither. subst Kept (tested (is_skipped name) (with_tokens s (from_offset (line_end s.text at) s.tokens)) t (rw (other, neither) at read)).1 (offset-kept s.text (line_end s.text at) s.tokens kept)))

guarded : {A : Type 0} (test : Bool) (o : Option A) (y : A) → (if test then o else None) ≡ Some y → o ≡ Some y
guarded true o y read = read
guarded false o y read = absurd (cc)

directive-kept : (s t : Left) → directive s ≡ Some t → Kept s → Kept t
unfolding directive
directive-kept s t read kept = step (next s) _ t read (λ a is_tick b1. step (next a.1) _ t b1 (λ b is_name b2.
    directed-kept a.0.at b.0.bytes b.1 t (guarded (names b.0.kind && b.0.at == a.0.at + 1) _ t b2) (next-kept a.1 b is_name (next-kept s a is_tick kept).1).1))

word-behind : (text expected : List ℕ) (ts us : List Token) → behind_word text expected ts ≡ Some us → AreSpelled text ts → AreSpelled text us
word-behind text expected [] us read kept = absurd (cc)
word-behind text expected (t ∷ ts) us read kept = by_test (is_word expected (word_of text t))
    (λ is. subst (AreSpelled text) (same_Some ts us (rw is at read)) kept.1)
    (λ other. word-behind text expected ts us (rw other at read) kept.1)

found-kept : (s t : Left) (o : Option (List Token)) → ((us : List Token) → o ≡ Some us → AreSpelled s.text us) → with_found s o ≡ Some t → Kept t
found-kept s t None are read = absurd (cc)
found-kept s t (Some us) are read = subst Kept (same_Some (with_tokens s us) t read) (are us refl)

primitive-kept : (s t : Left) → primitive s ≡ Some t → Kept s → Kept t
unfolding primitive
primitive-kept s t read kept = step (title (codes "primitive") s) _ t read (λ a is_title b1.
    found-kept a t (behind_word a.text (codes "endprimitive") a.tokens) (λ us is. word-behind a.text (codes "endprimitive") a.tokens us is (title-kept (codes "primitive") s a is_title kept)) b1)

abbrev IsGraphicPart : Option Assembled → Type 0
IsGraphicPart None = Unit {0}
IsGraphicPart (Some m) = IsGraphicMade m

marks-gives : Gives IsGraphicPart marks
unfolding marks
marks-gives s r read kept = step (directive s) _ r read (λ t is_directive last. subst (Left-and IsGraphicPart) (same_Some _ r last) (directive-kept s t is_directive kept, tt))

passed-gives : Gives IsGraphicPart passed
unfolding passed
passed-gives s r read kept = step (primitive s) _ r read (λ t is_primitive last. subst (Left-and IsGraphicPart) (same_Some _ r last) (primitive-kept s t is_primitive kept, tt))

made-gives : Gives IsGraphicPart made
unfolding made
made-gives s r read kept = step (tree s) _ r read (λ a is_tree b1. step (assembled a.0) _ r b1 (λ m is_made last.
    let given = tree-gives s a is_tree kept in
    subst (Left-and IsGraphicPart) (same_Some _ r last) (given.0, assembled-graphic a.0 m is_made given.1)))

part-gives : Gives IsGraphicPart part
unfolding part
part-gives s r read kept = by_test (begins (is_sign (byte "`")) s)
    (λ tick. marks-gives s r (rw tick at read) kept)
    (λ no_tick. by_test (begins (is_word (codes "primitive")) s)
    (λ is. passed-gives s r (rw (no_tick, is) at read) kept)
    (λ other. made-gives s r (rw (no_tick, other) at read) kept))

modules-graphic : (ps : List (Option Assembled)) → AllByRecursion IsGraphicPart ps → All HasIdentifiers (modules_of ps)
modules-graphic [] given = All-nil HasIdentifiers
modules-graphic (None ∷ ps) given = modules-graphic ps given.1
modules-graphic (Some m ∷ ps) given = All-cons HasIdentifiers m.«module» (modules_of ps) given.0 (modules-graphic ps given.1)

netlist-graphic : (text : List ℕ) (ts : List Token) (m : List Module) (b : Option Breach) → AreSpelled text ts → netlist text ts ≡ Some (m, b) → All HasIdentifiers m
unfolding netlist
netlist-graphic text ts m b kept read = step (parts (whole text ts)) _ (m, b) read (λ q are_parts same.
    let given = runs-give IsGraphicPart is_at_end part part-gives (whole text ts) q.1 q.0 (repeat_sound is_at_end part (length ts) (whole text ts) q.0 q.1 are_parts) kept in
    subst (λ r. All HasIdentifiers r.0) (same_Some _ (m, b) same) (modules-graphic q.0 given.1))

-- a netlist that is read has modules of such names
pub reads_identifiers : (text : List ℕ) (modules : List Module) → Reads text modules → All HasIdentifiers modules
reads_identifiers text modules (tokens, (are, read)) = netlist-graphic text tokens modules None (stand-spelled text 0 tokens (answer_stands text (Ok tokens) are)) read
