-- What is found of the ports and the nets of a module is what the definition says.
use Rattle.std.proofs.Common.{◌≡◌, ℕ, not, Bool, true, false, List, [], ◌++◌, map, Option, Some, None, Ok, refl, sym, ap, ◌∙◌, subst, if◌then◌else◌}
use Rattle.std.specs.Prelude.{filter}
use Rattle.std.specs.Borrow.{Bor}
use Rattle.std.specs.List.{list_all, flat_map}
use Rattle.std.proofs.lemmas.Option.{same_Some}
use Rattle.bud_syntax.specs.declared.modules.Assign.{Assign}
use Rattle.bud_syntax.specs.declared.modules.Instance.{Instance}
use Rattle.bud_syntax.specs.declared.modules.NetDecl.{NetDecl}
use Rattle.verilog_reader.specs.declared.trees.Assembled.{Assembled}
use Rattle.verilog_reader.specs.declared.trees.Tree.{Tree}
use Rattle.bud_syntax.specs.declared.modules.Port.{Port}
use Rattle.verilog_reader.specs.Modules.{assembled, is_formed, module_of, breaches, item_assigns, item_instances, header_declarations, item_declarations, item_nets, is_listed, first_declared, listed_again, declared_again, undirected, earlier, earliest, port_of, repeats_port, agrees}
use Rattle.verilog_reader.specs.Tables.{listed_by, declared_by, IsTable, IsDeclaring, AddsNets, seen}
use Rattle.verilog_reader.specs.Surveys.{all_declarations, surveyed}
use Rattle.verilog_reader.specs.declared.surveys.Survey.{Survey}
use Rattle.verilog_reader.specs.declared.trees.Named.{Named}
use Rattle.verilog_reader.specs.declared.trees.Declared.{Declared}
use Rattle.verilog_reader.specs.declared.trees.HeaderPort.{HeaderPort}
use Rattle.verilog_reader.specs.declared.trees.Item.{Item}
use Rattle.verilog_reader.proofs.TableSteps.{earlier_assoc, earliest-append}

abbrev survey : List Port → List NetDecl → Option Named → Survey
survey p m f = record { ports = p; nets = m; fault = f }

one_survey : (p q : List Port) (m n : List NetDecl) (f g : Option Named) → p ≡ q → m ≡ n → f ≡ g → Some (survey p m f) ≡ Some (survey q n g)
one_survey p q m n f g ps ms fs = ap (λ (x : List Port). Some (survey x m f)) ps ∙ ap (λ (x : List NetDecl). Some (survey q x f)) ms ∙ ap (λ (x : Option Named). Some (survey q n x)) fs

both_hold : (header : List HeaderPort) (items : List Item) (found : Survey) →
    list_all (λ d. is_listed header d.named.name) (flat_map item_declarations items) ≡ true →
    list_all (agrees (is_listed header) (first_declared (all_declarations header items))) (flat_map item_nets items) ≡ true →
    Some (record {
      ports = map (port_of (first_declared (all_declarations header items))) header;
      nets = filter (λ n. not (repeats_port (is_listed header) n)) (flat_map item_nets items);
      fault =
          earliest (
          listed_again [] header
          ++ (declared_again (header_declarations None header) (flat_map item_declarations items)
          ++ undirected (first_declared (all_declarations header items)) header));
    }) ≡ Some found → surveyed header items ≡ Some found
both_hold header items found first second is = rw (first, second) is

pub survey_is : (header : List HeaderPort) (items : List Item) (K : List ℕ → Option (Option Declared)) (first second : Option (Bor Named)) (nets : List NetDecl) (ports : List Port) (third : Option Named) (fault : Option Named) →
    seen first ≡ earliest (listed_again [] header) →
    IsDeclaring header (header_declarations None header) (flat_map item_declarations items) K (seen first) (Ok second) →
    AddsNets K (flat_map item_nets items) [] nets (Ok tt) →
    ports ≡ map (port_of (declared_by K)) header →
    third ≡ earlier (seen second) (earliest (undirected (declared_by K) header)) →
    fault ≡ third → surveyed header items ≡ Some (record { ports = ports; nets = nets; fault = fault })
survey_is header items K first second nets ports third fault first_is declaring adds ports_is third_is fault_is =
    let all = all_declarations header items in
    let body = flat_map item_declarations items in
    let table : IsTable header all K = declaring.0 in
    let listed : listed_by K ≡ is_listed header = λ i. λ name. table.listed_is name i in
    let declared : declared_by K ≡ first_declared all = λ i. λ name. table.declared_is name i in
    let A : (List ℕ → Bool) → Type 0 = λ l. list_all (agrees l (declared_by K)) (flat_map item_nets items) ≡ true in
    let B : (List ℕ → Option Declared) → Type 0 = λ d. list_all (agrees (is_listed header) d) (flat_map item_nets items) ≡ true in
    let again = declared_again (header_declarations None header) body in
    let bare = undirected (first_declared all) header in
    both_hold header items (record { ports = ports; nets = nets; fault = fault }) declaring.1 (subst B declared (subst A listed adds.1))
    (one_survey _ ports _ nets _ fault
    (sym (ports_is ∙ ap (λ (d : List ℕ → Option Declared). map (port_of d) header) declared))
    (sym (adds.0 ∙ ap (λ (l : List ℕ → Bool). filter (λ n. not (repeats_port l n)) (flat_map item_nets items)) listed))
    (sym (fault_is ∙ third_is ∙ ap (λ (d : List ℕ → Option Declared). earlier (seen second) (earliest (undirected d header))) declared
    ∙ ap (λ f. earlier f (earliest bare)) (declaring.2 ∙ ap (λ f. earlier f (earliest again)) first_is)
    ∙ earlier_assoc (earliest (listed_again [] header)) (earliest again) (earliest bare)
    ∙ sym (earliest-append (listed_again [] header) (again ++ bare) ∙ ap (earlier (earliest (listed_again [] header))) (earliest-append again bare)))))

-- ---- the whole module
if_some : {X : Type 0} (test : Bool) (x y : X) → (if test then Some x else None) ≡ Some y → (test ≡ true) × (x ≡ y)
if_some true x y is = (refl, same_Some x y is)
if_some false x y is = absurd (cc)

some_if : {X : Type 0} (test : Bool) (x y : X) → test ≡ true → x ≡ y → (if test then Some x else None) ≡ Some y
some_if true x y holds is = ap (λ z. Some z) is
some_if false x y holds is = absurd (cc)

abbrev put_together : Tree → List Port → List NetDecl → List Assign → List Instance → Option Named → Assembled
put_together tree ports nets assigns instances fault =
    record { «module» = record { name = tree.name; leaf = tree.leaf; ports = ports; nets = nets; assigns = assigns; instances = instances }; fault = fault }

pub assembled_is : (tree : Tree) (found : Survey) (assigns : List Assign) (instances : List Instance) → surveyed tree.header tree.items ≡ Some found →
    assigns ≡ flat_map item_assigns tree.items → instances ≡ flat_map item_instances tree.items →
    assembled tree ≡ Some (put_together tree found.ports found.nets assigns instances found.fault)
unfolding assembled
assembled_is tree found assigns instances read assigns_is instances_is =
    let given = if_some (is_formed tree) (survey (module_of tree).ports (module_of tree).nets (earliest (breaches tree))) found read in
    some_if (is_formed tree) _ _ given.0
    (ap (λ (s : Survey). put_together tree s.ports s.nets (flat_map item_assigns tree.items) (flat_map item_instances tree.items) s.fault) given.1
    ∙ sym (ap (λ (x : List Assign). put_together tree found.ports found.nets x instances found.fault) assigns_is
    ∙ ap (λ (x : List Instance). put_together tree found.ports found.nets (flat_map item_assigns tree.items) x found.fault) instances_is))
