-- What is refused of one link, and what is known behind it.
use Rattle.std.proofs.Common.{◌≡◌, ℕ, zero, suc, ◌+◌, ◌-◌, ◌<◌, ◌≤◌, ◌==◌, ◌||◌, nat_eq, Bool, true, false, Option, Some, None, List, [], ◌∷◌, ◌++◌, take, drop, get_or, set, length, map, find, replicate, refl, sym, ap, ◌∙◌, subst, arith, true≢false, ◌≢◌}
use Rattle.std.specs.Prelude.{is_some, reverse, Result, Ok, Err, OnOk, IfOk}
use Rattle.std.specs.List.{list_any}
use Rattle.std.specs.Option.{option_or, option_map}
use Rattle.std.specs.Str.{bytes_eq}
use Rattle.std.proofs.lemmas.List.{get_or-set_same, get_or-set_other, length-set, length-replicate, get_or-replicate, map-append, reverse-append, append-nil, take_all, drop_all}
use Rattle.std.proofs.lemmas.List.Folds.{list_any-append}
use Rattle.std.proofs.lemmas.Bool.{eq-eqb, eqb-true}
use Rattle.std.proofs.lemmas.Option.{same_Some}
use Rattle.bud_design.specs.Lists.{first_again, has_name, first_some}
use Rattle.bud_design.specs.Names.{printed}
use Rattle.bud_syntax.specs.declared.modules.Dir.TheVariants.{Input}
use Rattle.bud_syntax.specs.declared.modules.Link.{Link}
use Rattle.bud_syntax.specs.declared.modules.Link.TheVariants.{Named, Placed}
use Rattle.bud_syntax.specs.declared.modules.Assign.{Assign}
use Rattle.bud_syntax.specs.declared.modules.Piece.{Piece}
use Rattle.bud_syntax.specs.declared.modules.Instance.{Instance}
use Rattle.bud_syntax.specs.declared.modules.NetDecl.{NetDecl}
use Rattle.bud_syntax.specs.declared.modules.Port.{Port}
use Rattle.bud_syntax.specs.declared.modules.Module.{Module}
use Rattle.module_nets.specs.Entering.{Entry, printed_in, joined_fault, free_port, port_in_place, port_width_fault, link_faults, select_fault, bad_select, assign_width, instance_fault, child_fault, recursive, inout_port}
use Rattle.module_nets.specs.Headers.{port_called}
use Rattle.module_nets.specs.Judging.{link_fault, linked_by, linked_behind, Flags, fits, are_equal}
use Rattle.module_nets.specs.Nets.{piece_net, expression_bits, module_called}
use Rattle.module_nets.specs.Numbers.{range_width, declared_names}
use Rattle.module_nets.proofs.WidthLaws.{length-range_bits}
use Rattle.module_nets.specs.Tables.{seen_behind}
use Rattle.module_nets.specs.declared.faults.ElabFault.TheVariants.{UnknownPort, Width, Select, UnknownModule, Recursive}
use Rattle.module_nets.proofs.Bytes.{by_test, bytes_same, bytes_itself}
use Rattle.module_nets.proofs.ListSteps.{at_place, no_place, take_one, drop_one, or_assoc}
use Rattle.module_nets.proofs.NetLaws.{swapped}
use Rattle.module_nets.proofs.TableSteps.{first_again-append}

-- ---- names declared twice, over several lists
pub found_first : (seen xs ys : List (List ℕ)) (a : Option (List ℕ)) → a ≡ first_again seen xs → is_some a ≡ true → a ≡ first_again seen (xs ++ ys)
found_first seen xs ys None is some = absurd (cc)
found_first seen xs ys (Some x) is some = sym (first_again-append seen xs ys ∙ ap (λ o. option_or o (first_again (seen_behind seen xs) ys)) (sym is))

pub found_later : (seen xs ys : List (List ℕ)) (a : Option (List ℕ)) → None ≡ first_again seen xs → a ≡ first_again (seen_behind seen xs) ys → a ≡ first_again seen (xs ++ ys)
found_later seen xs ys a none is = is ∙ sym (first_again-append seen xs ys ∙ ap (λ o. option_or o (first_again (seen_behind seen xs) ys)) (sym none))

-- ---- one link
default_port : Port
default_port = record { name = []; dir = Input; range = None }

free_is : (linked : List (List ℕ)) (child : Module) (name : List ℕ) (place : ℕ) (port : Port) → port_called child name ≡ Some place → has_name linked name ≡ false → port ≡ get_or child.ports place port
    → free_port linked child.ports name ≡ Some port
free_is linked child name place port called free is =
    rw free ((at_place (λ p. bytes_eq p.name name) child.ports place called).element port ∙ ap (λ p. Some p) (sym is))

pub free_unknown : (linked : List (List ℕ)) (child : Module) (name : List ℕ) → port_called child name ≡ None → None ≡ free_port linked child.ports name
free_unknown linked child name none =
    let missing : find (λ p. bytes_eq p.name name) child.ports ≡ None = no_place (λ p. bytes_eq p.name name) child.ports none in
    by_test (has_name linked name) (λ h. rw h refl) (λ h. rw h (sym missing))

pub free_again : (linked : List (List ℕ)) (child : Module) (name : List ℕ) (place : ℕ) (flags : List Bool) → Flags child linked flags → port_called child name ≡ Some place → get_or flags place false ≡ true
    → None ≡ free_port linked child.ports name
free_again linked child name place flags flagged called again =
    let there : has_name linked name ≡ true = sym (flagged.marks name place called) ∙ again in
    rw there refl

pub free_found : (linked : List (List ℕ)) (child : Module) (name : List ℕ) (place : ℕ) (flags : List Bool) (ports : List Port) (p : Port) → Flags child linked flags → port_called child name ≡ Some place
    → get_or flags place false ≡ false → ports ≡ child.ports → p ≡ get_or ports place p → Some p ≡ free_port linked child.ports name
free_found linked child name place flags ports p flagged called free ports_are is =
    sym (free_is linked child name place p called (sym (flagged.marks name place called) ∙ free) (is ∙ ap (λ ps. get_or ps place p) ports_are))

pub port_below : (child : Module) (name : List ℕ) (place : ℕ) → port_called child name ≡ Some place → place < length child.ports
port_below child name place called = (at_place (λ p. bytes_eq p.name name) child.ports place called).within

suc_apart : (k : ℕ) → (suc k == 0) ≡ false
suc_apart k = by_test (suc k == 0) (λ h. let same : suc k ≡ 0 = eqb-true (suc k) 0 h in absurd (omega (arith, same))) (λ h. h)

place_over : (ports : List Port) (k : ℕ) → length ports ≤ k → port_in_place ports k ≡ None
place_over [] k past = refl
place_over (p ∷ ports) zero past = absurd (omega (arith, past))
place_over (p ∷ ports) (suc k) past = let less : suc k - 1 ≡ k = omega arith in rw (suc_apart k) (ap (port_in_place ports) less ∙ place_over ports k (omega (arith, past)))

place_in : (ports : List Port) (k : ℕ) (p : Port) → k < length ports → p ≡ get_or ports k p → port_in_place ports k ≡ Some p
place_in [] k p within is = absurd (omega (arith, within))
place_in (x ∷ ports) zero p within is = ap (λ y. Some y) (sym is)
place_in (x ∷ ports) (suc k) p within is = let less : suc k - 1 ≡ k = omega arith in rw (suc_apart k) (ap (port_in_place ports) less ∙ place_in ports k p (omega (arith, within)) is)

pub place_none : (ports : List Port) (k : ℕ) → length ports ≤ k → None ≡ port_in_place ports k
place_none ports k past = sym (place_over ports k past)

pub place_some : (ports : List Port) (k : ℕ) (p : Port) → k < length ports → p ≡ get_or ports k p → Some p ≡ port_in_place ports k
place_some ports k p within is = sym (place_in ports k p within is)

-- what is refused of a link, by the port that was found
pub named_is : (e : Entry) (ports : List Port) (instance : List ℕ) (linked : List (List ℕ)) (k : ℕ) (link : Link) (port slice : List ℕ) (pieces taken : List Piece) (found : Option Port) → link ≡ Named port pieces
    → slice ≡ port → taken ≡ pieces → found ≡ free_port linked ports slice → link_fault e ports instance linked k link ≡ joined_fault e (UnknownPort (printed slice)) found taken
named_is e ports instance linked k link port slice pieces taken found is slice_is taken_is found_is =
    ap (link_fault e ports instance linked k) is
    ∙ (ap (λ n. joined_fault e (UnknownPort (printed n)) (free_port linked ports n) pieces) (sym slice_is)
    ∙ (ap (λ o. joined_fault e (UnknownPort (printed slice)) o pieces) (sym found_is) ∙ ap (joined_fault e (UnknownPort (printed slice)) found) (sym taken_is)))

pub placed_is : (e : Entry) (ports held : List Port) (instance : List ℕ) (linked : List (List ℕ)) (k : ℕ) (link : Link) (pieces taken : List Piece) (found : Option Port) → link ≡ Placed pieces → taken ≡ pieces
    → held ≡ ports → found ≡ port_in_place held k → link_fault e ports instance linked k link ≡ joined_fault e (UnknownPort (printed_in e instance)) found taken
placed_is e ports held instance linked k link pieces taken found is taken_is held_is found_is =
    ap (link_fault e ports instance linked k) is
    ∙ (ap (λ ps. joined_fault e (UnknownPort (printed_in e instance)) (port_in_place ps k) pieces) (sym held_is)
    ∙ (ap (λ o. joined_fault e (UnknownPort (printed_in e instance)) o pieces) (sym found_is) ∙ ap (joined_fault e (UnknownPort (printed_in e instance)) found) (sym taken_is)))

-- ---- flags
same_place : (child : Module) (p q : List ℕ) (j : ℕ) → port_called child p ≡ Some j → port_called child q ≡ Some j → q ≡ p
same_place child p q j first second =
    let one = (at_place (λ x. bytes_eq x.name p) child.ports j first).passes default_port in
    let two = (at_place (λ x. bytes_eq x.name q) child.ports j second).passes default_port in
    sym (bytes_same (get_or child.ports j default_port).name q two) ∙ bytes_same (get_or child.ports j default_port).name p one

pub flags_none : (child : Module) (flags : List Bool) (ports : List Port) → ports ≡ child.ports → flags ≡ replicate (length ports) false → Flags child [] flags
flags_none child flags ports ports_are is = record {
  each = ap length is ∙ (length-replicate (length ports) false ∙ ap length ports_are);
  marks = λ q j called.
      let within = (at_place (λ x. bytes_eq x.name q) child.ports j called).within in
      ap (λ fs. get_or fs j false) is ∙ get_or-replicate (length ports) j false false (omega (arith, within, ap length ports_are));
}

pub flags_set : (child : Module) (linked : List (List ℕ)) (old new : List Bool) (name : List ℕ) (place : ℕ) → Flags child linked old
    → port_called child name ≡ Some place → new ≡ set old place true → Flags child (name ∷ linked) new
flags_set child linked old new name place flagged called set_is =
    let within = (at_place (λ x. bytes_eq x.name name) child.ports place called).within in
    record {
      each = ap length set_is ∙ (length-set old place true ∙ flagged.each);
      marks = λ q j q_called.
          by_test (nat_eq j place)
          (λ h.
          let at_place_is : j ≡ place = eqb-true j place h in
          let same : q ≡ name = same_place child name q place called (q_called ∙ ap (λ x. Some x) at_place_is) in
          let itself : bytes_eq q name ≡ true = ap (bytes_eq q) (sym same) ∙ bytes_itself q in
          ap (λ fs. get_or fs j false) set_is ∙ (ap (λ x. get_or (set old place true) x false) at_place_is
          ∙ (get_or-set_same old place true false (omega (arith, within, flagged.each)) ∙ rw itself refl)))
          (λ h.
          let other : j ≢ place = λ same. true≢false (sym (eq-eqb j place same) ∙ h) in
          let names : bytes_eq q name ≡ false =
          by_test (bytes_eq q name)
          (λ g. let one : q ≡ name = bytes_same q name g in
          absurd (other (sym (same_Some place j (sym called ∙ (ap (port_called child) (sym one) ∙ q_called))))))
          (λ g. g) in
          ap (λ fs. get_or fs j false) set_is ∙ (get_or-set_other old place j true false other ∙ (flagged.marks q j q_called ∙ rw names refl)));
    }

pub flags_named : (child : Module) (linked : List (List ℕ)) (flags : List Bool) (link : Link) (port slice : List ℕ) (pieces : List Piece) → link ≡ Named port pieces → slice ≡ port
    → Flags child (slice ∷ linked) flags → Flags child (linked_by link linked) flags
flags_named child linked flags link port slice pieces is slice_is flagged =
    let P : Link → Type 0 = λ l. Flags child (linked_by l linked) flags in
    let Q : List ℕ → Type 0 = λ n. Flags child (n ∷ linked) flags in
    subst P (sym is) (subst Q slice_is flagged)

pub flags_placed : (child : Module) (linked : List (List ℕ)) (flags : List Bool) (link : Link) (pieces : List Piece) → Flags child linked flags → link ≡ Placed pieces → Flags child (linked_by link linked) flags
flags_placed child linked flags link pieces flagged is =
    let P : Link → Type 0 = λ l. Flags child (linked_by l linked) flags in
    subst P (sym is) flagged

-- ---- links one by one
links-cons : (e : Entry) (ports : List Port) (instance : List ℕ) (linked : List (List ℕ)) (k : ℕ) (link : Link) (links : List Link) →
    link_faults e ports instance linked k (link ∷ links) ≡ option_or (link_fault e ports instance linked k link) (link_faults e ports instance (linked_by link linked) (suc k) links)
links-cons e ports instance linked k (Named port pieces) links = refl
links-cons e ports instance linked k (Placed pieces) links = refl

linked_behind-append : (linked : List (List ℕ)) (xs ys : List Link) → linked_behind linked (xs ++ ys) ≡ linked_behind (linked_behind linked xs) ys
linked_behind-append linked [] ys = refl
linked_behind-append linked (x ∷ xs) ys = linked_behind-append (linked_by x linked) xs ys

pub linked_more : (links : List Link) (k : ℕ) (link : Link) → k < length links → link ≡ get_or links k link → linked_behind [] (take (k + 1) links) ≡ linked_by link (linked_behind [] (take k links))
linked_more links k link within is = ap (linked_behind []) (take_one links k link within is) ∙ linked_behind-append [] (take k links) (link ∷ [])

pub links_on : (e : Entry) (ports : List Port) (instance : List ℕ) (links : List Link) (k : ℕ) (link : Link) → k < length links → link ≡ get_or links k link →
    link_faults e ports instance (linked_behind [] (take k links)) k (drop k links)
    ≡ option_or (link_fault e ports instance (linked_behind [] (take k links)) k link) (link_faults e ports instance (linked_behind [] (take (k + 1) links)) (k + 1) (drop (k + 1) links))
links_on e ports instance links k link within is =
    let on : suc k ≡ k + 1 = omega arith in
    ap (link_faults e ports instance (linked_behind [] (take k links)) k) (drop_one links k link within is)
    ∙ (links-cons e ports instance (linked_behind [] (take k links)) k link (drop (k + 1) links)
    ∙ (ap (λ n. option_or (link_fault e ports instance (linked_behind [] (take k links)) k link) (link_faults e ports instance (linked_by link (linked_behind [] (take k links))) n (drop (k + 1) links))) on
    ∙ ap (λ ls. option_or (link_fault e ports instance (linked_behind [] (take k links)) k link) (link_faults e ports instance ls (k + 1) (drop (k + 1) links))) (sym (linked_more links k link within is))))

-- ---- widths and selects
pub fits_not : (e : Entry) (p : Port) (pieces : List Piece) (test : Bool) → test ≡ fits e.«module» p pieces → test ≡ false → port_width_fault e p pieces ≡ Some (Width (printed p.name))
fits_not e p pieces test is fails = let h : fits e.«module» p pieces ≡ false = sym is ∙ fails in rw h refl

pub fits_so : (e : Entry) (p : Port) (pieces : List Piece) (test : Bool) → test ≡ fits e.«module» p pieces → test ≡ true → port_width_fault e p pieces ≡ None
fits_so e p pieces test is so = let h : fits e.«module» p pieces ≡ true = sym is ∙ so in rw h refl

first_some-append : {X Y : Type 0} (f : X → Option Y) (xs ys : List X) → first_some f (xs ++ ys) ≡ option_or (first_some f xs) (first_some f ys)
first_some-append f [] ys = refl
first_some-append f (x ∷ xs) ys = ap (option_or (f x)) (first_some-append f xs ys) ∙ sym (or_assoc (f x) (first_some f xs) (first_some f ys))

option_map-or : {X Y : Type 0} (f : X → Y) (a b : Option X) → option_map f (option_or a b) ≡ option_or (option_map f a) (option_map f b)
option_map-or f None b = refl
option_map-or f (Some x) b = refl

pub selects_split : (e : Entry) (xs ys : List Piece) → select_fault e (xs ++ ys) ≡ option_or (select_fault e xs) (select_fault e ys)
selects_split e xs ys =
    ap (option_map (λ name. Select (printed_in e name))) (first_some-append (bad_select e.«module») xs ys)
    ∙ option_map-or (λ name. Select (printed_in e name)) (first_some (bad_select e.«module») xs) (first_some (bad_select e.«module») ys)

pub equal_so : (e : Entry) (a : Assign) (test : Bool) → test ≡ are_equal e.«module» a → test ≡ true → assign_width e a ≡ None
equal_so e a test is so = let h : are_equal e.«module» a ≡ true = sym is ∙ so in rw h refl

pub equal_not : (e : Entry) (a : Assign) (test : Bool) → test ≡ are_equal e.«module» a → test ≡ false → assign_width e a ≡ option_map (λ name. Width (printed_in e name)) (first_some piece_net a.left)
equal_not e a test is fails = let h : are_equal e.«module» a ≡ false = sym is ∙ fails in rw h refl

-- ---- modules that are being entered
pub entered_reversed : {X : Type 0} (f : X → List ℕ) (xs : List X) (q : List ℕ) → has_name (map f (reverse xs)) q ≡ list_any (λ n. bytes_eq q (f n)) xs
entered_reversed f [] q = refl
entered_reversed f (x ∷ xs) q =
    ap (λ ys. has_name (map f ys) q) (reverse-append (x ∷ []) xs)
    ∙ (ap (λ ns. has_name ns q) (map-append f (reverse xs) (x ∷ []))
    ∙ (list_any-append (bytes_eq q) (map f (reverse xs)) (f x ∷ [])
    ∙ (ap (λ b. b || (bytes_eq q (f x) || false)) (entered_reversed f xs q) ∙ swapped (list_any (λ n. bytes_eq q (f n)) xs) (bytes_eq q (f x)))))

pub fits_open : (m : Module) (p : Port) (pieces : List Piece) (test : Bool) → test ≡ nat_eq (length pieces) 0 → test ≡ true → true ≡ fits m p pieces
fits_open m p [] test is open_ = refl
fits_open m p (x ∷ pieces) test is open_ = let none : length (x ∷ pieces) ≡ 0 = eqb-true (length (x ∷ pieces)) 0 (sym is ∙ open_) in absurd (omega (arith, none))

pub fits_joined : (m : Module) (p : Port) (pieces : List Piece) (test equal : Bool) (w r : ℕ) → test ≡ nat_eq (length pieces) 0 → test ≡ false → equal ≡ nat_eq w r → w ≡ length (expression_bits m pieces)
    → r ≡ range_width p.range → equal ≡ fits m p pieces
fits_joined m p [] test equal w r is joined equal_is w_is r_is = absurd (true≢false (sym is ∙ joined))
fits_joined m p (x ∷ pieces) test equal w r is joined equal_is w_is r_is =
    equal_is ∙ (ap (λ n. nat_eq n r) w_is ∙ ap (λ n. nat_eq (length (expression_bits m (x ∷ pieces))) n) (r_is ∙ sym (length-range_bits p.range)))

pub on_ok : {X E : Type 0} (r : Result X E) (P : Type 0) → P → OnOk r P
on_ok (Ok x) P holds = holds
on_ok (Err e) P holds = tt

pub if_ok : {X E : Type 0} (P Q : X → Type 0) (r : Result X E) → ((x : X) → P x → Q x) → IfOk r P → IfOk r Q
if_ok P Q (Ok x) weaker holds = weaker x holds
if_ok P Q (Err e) weaker holds = tt

pub is_some-map : {X Y : Type 0} (f : X → Y) (o : Option X) → is_some (option_map f o) ≡ is_some o
is_some-map f None = refl
is_some-map f (Some x) = refl

pub map-none : {X Y : Type 0} (f : X → Y) (o : Option X) → is_some o ≡ false → option_map f o ≡ None
map-none f None none = refl
map-none f (Some x) some = absurd (cc)

pub found_is : (e : Entry) (a : Assign) (left : List Piece) (found : Option (List ℕ)) → left ≡ a.left → found ≡ first_some piece_net left
    → option_map (λ name. Width (printed_in e name)) (first_some piece_net a.left) ≡ option_map (λ name. Width (printed_in e name)) found
found_is e a left found left_is is = ap (λ ps. option_map (λ name. Width (printed_in e name)) (first_some piece_net ps)) (sym left_is) ∙ ap (option_map (λ name. Width (printed_in e name))) (sym is)

pub links_on_slice : (e : Entry) (ports : List Port) (instance : List ℕ) (links slice : List Link) (k : ℕ) (link : Link) → slice ≡ links → k < length slice → link ≡ get_or slice k link →
    link_faults e ports instance (linked_behind [] (take k links)) k (drop k links)
    ≡ option_or (link_fault e ports instance (linked_behind [] (take k links)) k link) (link_faults e ports instance (linked_behind [] (take (k + 1) links)) (k + 1) (drop (k + 1) links))
links_on_slice e ports instance links slice k link same within is =
    let P : List Link → Type 0 = λ ys. k < length ys in
    links_on e ports instance links k link (subst P same within) (is ∙ ap (λ ys. get_or ys k link) same)

pub linked_more_slice : (links slice : List Link) (k : ℕ) (link : Link) → slice ≡ links → k < length slice → link ≡ get_or slice k link
    → linked_behind [] (take (k + 1) links) ≡ linked_by link (linked_behind [] (take k links))
linked_more_slice links slice k link same within is =
    let P : List Link → Type 0 = λ ys. k < length ys in
    linked_more links k link (subst P same within) (is ∙ ap (λ ys. get_or ys k link) same)

-- ---- one instance
pub child_unknown : (modules : List Module) (e : Entry) (i : Instance) (name text : List ℕ) → name ≡ i.«module» → module_called modules name ≡ None → text ≡ printed name → instance_fault modules e i ≡ Some (UnknownModule text)
child_unknown modules e i name text name_is none text_is =
    ap (child_fault e i) (ap (module_called modules) (sym name_is) ∙ none) ∙ ap (λ t. Some (UnknownModule t)) (ap printed (sym name_is) ∙ sym text_is)

pub child_known : (modules : List Module) (e : Entry) (i : Instance) (name : List ℕ) (child : Module) → name ≡ i.«module» → module_called modules name ≡ Some child
    → instance_fault modules e i ≡ option_or (recursive e i) (option_or (inout_port child) (link_faults e child.ports i.name [] 0 i.links))
child_known modules e i name child name_is called = ap (child_fault e i) (ap (module_called modules) (sym name_is) ∙ called)

pub recursive_so : (e : Entry) (i : Instance) (name text : List ℕ) (test : Bool) → name ≡ i.«module» → test ≡ has_name e.entered name → test ≡ true → text ≡ printed name → recursive e i ≡ Some (Recursive text)
recursive_so e i name text test name_is test_is so text_is =
    let there : has_name e.entered i.«module» ≡ true = ap (has_name e.entered) (sym name_is) ∙ (sym test_is ∙ so) in
    rw there (ap (λ t. Some (Recursive t)) (ap printed (sym name_is) ∙ sym text_is))

pub recursive_not : (e : Entry) (i : Instance) (name : List ℕ) (test : Bool) → name ≡ i.«module» → test ≡ has_name e.entered name → test ≡ false → recursive e i ≡ None
recursive_not e i name test name_is test_is fails =
    let there : has_name e.entered i.«module» ≡ false = ap (has_name e.entered) (sym name_is) ∙ (sym test_is ∙ fails) in
    rw there refl

-- ---- names declared twice in a module
pub names_are : (m : Module) (ps : List Port) (ns : List NetDecl) (is : List Instance) → ps ≡ m.ports → ns ≡ m.nets → is ≡ m.instances
    → map (λ p. p.name) ps ++ (map (λ n. n.name) ns ++ map (λ i. i.name) is) ≡ declared_names m
names_are m ps ns is ports nets instances =
    ap (λ x. map (λ p. p.name) x ++ (map (λ n. n.name) ns ++ map (λ i. i.name) is)) ports
    ∙ (ap (λ x. map (λ p. p.name) m.ports ++ (map (λ n. n.name) x ++ map (λ i. i.name) is)) nets ∙ ap (λ x. map (λ p. p.name) m.ports ++ (map (λ n. n.name) m.nets ++ map (λ i. i.name) x)) instances)

-- flags as they are written back
pub written : (old new : List Bool) (n : ℕ) → n ≡ length old → length new ≡ length old → take n (new ++ drop (length new) old) ≡ new
written old new n n_is same =
    ap (λ xs. take n (new ++ xs)) (drop_all (length new) old (omega (arith, same)))
    ∙ (ap (take n) (append-nil new) ∙ take_all n new (omega (arith, n_is, same)))
