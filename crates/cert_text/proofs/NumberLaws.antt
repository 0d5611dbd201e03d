-- The numbers of a certificate that is read are in their ranges.
use Rattle.std.proofs.Common.{◌≡◌, ℕ, ℤ, pos, ◌-ℤ◌, ◌≤ℤ◌, Option, Some, Result, Ok, Err, List, [], ◌∷◌, map, arith, ap, subst}
use Rattle.std.proofs.lemmas.Int.{ints}
use Rattle.std.proofs.lemmas.Bool.{and_parts}
use Rattle.std.proofs.lemmas.Option.{same_Some}
use Rattle.std.proofs.lemmas.List.Elements.{All-nil, All-cons, All-head, All-tail}
use Rattle.std.specs.Prelude.{All, int_le, codes, IfOk}
use Rattle.text_scan.specs.Left.{Left, end_of}
use Rattle.text_scan.proofs.Binds.{step, by_test}
use Rattle.line_text.specs.Parts.{Part, Row, rows_of}
use Rattle.line_text.specs.Numbers.{whole, whole_of, is_within, word}
use Rattle.line_text.specs.Names.{name}
use Rattle.line_text.specs.Lines.{Production, titled, Each}
use Rattle.line_text.specs.Lines.Each.{none, more}
use Rattle.bud_plans.specs.Plans.{IsPlanNumber, IsPlanWeight, HasPlanNumbers}
use Rattle.cert_text.specs.Certs.{plan_in}
use Rattle.cert_text.specs.Lines as lines
use Rattle.cert_text.specs.Texts.{IsCertificate, IsReadAnswer}
use Rattle.cert_text.specs.declared.certs.Cert.{Cert}
use Rattle.cert_text.specs.declared.certs.CertNode.{CertNode}
use Rattle.cert_text.specs.declared.certs.CertItem.{CertItem}
use Rattle.cert_text.specs.declared.certs.CertFlow.{CertFlow}
use Rattle.bud_base.specs.declared.texts.TextFault.{TextFault}

-- a number that is read is in its range
whole_range : (least most n : ℤ) (line rest : Left Part) → least ≤ℤ most → whole least most line ≡ Some (n, rest) → (least ≤ℤ n) × (n ≤ℤ most)
unfolding whole
whole_range least most n ([], breach) rest between read = absurd (cc)
whole_range least most n (field ∷ fields, breach) rest between read =
    step (whole_of field.bytes) _ _ read (λ m is_m found.
    by_test (is_within least most m)
    (λ inside.
    let parts = and_parts (int_le least m) (int_le m most) inside in
    let same : m ≡ n = ap (λ r. r.0) (same_Some _ _ (rw inside at found)) in
    (omega (arith, ints, parts.0, same), omega (arith, ints, parts.1, same)))
    (λ outside.
    let same : least ≡ n = ap (λ r. r.0) (same_Some _ _ (rw outside at found)) in
    (omega (arith, ints, same, between), omega (arith, ints, same, between))))

number_range : (n : ℤ) (line rest : Left Part) → lines.number line ≡ Some (n, rest) → IsPlanNumber n
number_range n line rest read =
    let both = whole_range (pos 0 -ℤ pos 17592186044416) (pos 17592186044416) n line rest (omega (arith, ints)) read in
    record { low = omega (arith, ints, both.0); high = both.1 }

-- what holds of what a production reads holds of all that are read
each_holds : {X : Type 0} (P : X → Type 0) (production : Production X) (rows : List Row) (a b : Option ℕ) (xs : List X)
    → ((row : Row) (a b : Option ℕ) (x : X) → production (row, a) ≡ Some (x, b) → P x) → Each production rows a xs b → All P xs
each_holds P production _ _ _ _ so (none breach) = All-nil P
each_holds P production _ _ _ _ so (more row rows x xs a b c read each) = All-cons P x xs (so row a b x read) (each_holds P production rows b c xs so each)

-- behind the title
titled_holds : {X : Type 0} (P : X → Type 0) (title : List ℕ) (production : Production X) → ((line : Left Part) (b : Option ℕ) (x : X) → production line ≡ Some (x, b) → P x)
    → (row : Row) (a b : Option ℕ) (x : X) → titled title production (row, a) ≡ Some (x, b) → P x
titled_holds P title production so row a b x read = step (word title (row, a)) _ _ read (λ line is_line behind. so line b x behind)

node_range : (line : Left Part) (b : Option ℕ) (x : CertNode) → lines.node line ≡ Some (x, b) → IsPlanNumber x.arrival
unfolding lines.node
node_range line b x read =
    step (name line) _ _ read (λ name _ behind1.
    step (lines.class_number name.1) _ _ behind1 (λ class _ behind2.
    step (lines.number class.1) _ _ behind2 (λ arrival is_arrival behind3.
    step (end_of arrival.1) _ _ behind3 (λ breach _ whole.
    subst IsPlanNumber (ap (λ r. r.0.arrival) (same_Some _ _ whole)) (number_range arrival.0 class.1 arrival.1 is_arrival)))))

item_range : (line : Left Part) (b : Option ℕ) (x : CertItem) → lines.item line ≡ Some (x, b) → IsPlanNumber x.budget × IsPlanNumber x.flow
unfolding lines.item
item_range line b x read =
    step (name line) _ _ read (λ from _ behind1.
    step (name from.1) _ _ behind1 (λ to _ behind2.
    step (lines.class_number to.1) _ _ behind2 (λ class _ behind3.
    step (lines.number class.1) _ _ behind3 (λ budget is_budget behind4.
    step (lines.number budget.1) _ _ behind4 (λ flow is_flow behind5.
    step (end_of flow.1) _ _ behind5 (λ breach _ whole. (
      subst IsPlanNumber (ap (λ r. r.0.budget) (same_Some _ _ whole)) (number_range budget.0 class.1 budget.1 is_budget),
      subst IsPlanNumber (ap (λ r. r.0.flow) (same_Some _ _ whole)) (number_range flow.0 budget.1 flow.1 is_flow),
    )))))))

flow_range : (line : Left Part) (b : Option ℕ) (x : CertFlow) → lines.flow line ≡ Some (x, b) → IsPlanNumber x.flow
unfolding lines.flow
flow_range line b x read =
    step (name line) _ _ read (λ name _ behind1.
    step (lines.class_number name.1) _ _ behind1 (λ class _ behind2.
    step (lines.number class.1) _ _ behind2 (λ flow is_flow behind3.
    step (end_of flow.1) _ _ behind3 (λ breach _ whole.
    subst IsPlanNumber (ap (λ r. r.0.flow) (same_Some _ _ whole)) (number_range flow.0 class.1 flow.1 is_flow)))))

weight_range : (line : Left Part) (b : Option ℕ) (w : ℤ) → lines.weight line ≡ Some (w, b) → IsPlanWeight w
unfolding lines.weight
weight_range line b w read =
    step (whole (pos 0 -ℤ pos 1267650600228229401496703205376) (pos 1267650600228229401496703205376) line) _ _ read (λ weight is_weight behind.
    step (end_of weight.1) _ _ behind (λ breach _ whole.
    let both = whole_range (pos 0 -ℤ pos 1267650600228229401496703205376) (pos 1267650600228229401496703205376) weight.0 line weight.1 (omega (arith, ints)) is_weight in
    let same : weight.0 ≡ w = ap (λ r. r.0) (same_Some _ _ whole) in
    record { low = omega (arith, ints, both.0, same); high = omega (arith, ints, both.1, same) }))

-- in range of each line, so of the list of the numbers
All-mapped : {A : Type 0} (number_of : A → ℤ) (lines : List A) → All (λ line. IsPlanNumber (number_of line)) lines → All IsPlanNumber (map number_of lines)
All-mapped number_of [] all = All-nil IsPlanNumber
All-mapped number_of (x ∷ xs) all =
    All-cons IsPlanNumber (number_of x) (map number_of xs) (All-head (λ line. IsPlanNumber (number_of line)) x xs all) (All-mapped number_of xs (All-tail (λ line. IsPlanNumber (number_of line)) x xs all))

pub HasPlanNumbers-read : (rows : List Row) (cert : Cert) (b : Option ℕ) → IsCertificate rows cert b → HasPlanNumbers (plan_in cert)
HasPlanNumbers-read rows cert b given =
    let items : All (λ line. IsPlanNumber line.budget × IsPlanNumber line.flow) cert.items
    = each_holds (λ line. IsPlanNumber line.budget × IsPlanNumber line.flow) (titled (codes "item") lines.item) given.items given.before_items given.before_starts cert.items
    (titled_holds (λ line. IsPlanNumber line.budget × IsPlanNumber line.flow) (codes "item") lines.item item_range) given.are_items in
    let nodes : All (λ line. IsPlanNumber line.arrival) cert.nodes
    = each_holds (λ line. IsPlanNumber line.arrival) (titled (codes "node") lines.node) given.nodes given.before_nodes given.before_items cert.nodes
    (titled_holds (λ line. IsPlanNumber line.arrival) (codes "node") lines.node node_range) given.are_nodes in
    let starts : All (λ line. IsPlanNumber line.flow) cert.starts
    = each_holds (λ line. IsPlanNumber line.flow) (titled (codes "start") lines.flow) given.starts given.before_starts given.before_ends cert.starts
    (titled_holds (λ line. IsPlanNumber line.flow) (codes "start") lines.flow flow_range) given.are_starts in
    let ends : All (λ line. IsPlanNumber line.flow) cert.ends
    = each_holds (λ line. IsPlanNumber line.flow) (titled (codes "end") lines.flow) given.ends given.before_ends given.before_weight cert.ends
    (titled_holds (λ line. IsPlanNumber line.flow) (codes "end") lines.flow flow_range) given.are_ends in
    record {
      budgets = All-mapped (λ line. line.budget) cert.items (λ k d within. (items k d within).0);
      arrivals = All-mapped (λ line. line.arrival) cert.nodes nodes;
      flow = All-mapped (λ line. line.flow) cert.items (λ k d within. (items k d within).1);
      start_flow = All-mapped (λ line. line.flow) cert.starts starts;
      end_flow = All-mapped (λ line. line.flow) cert.ends ends;
      weight = titled_holds IsPlanWeight (codes "weight") lines.weight weight_range given.weight given.before_weight b cert.weight given.is_weight;
    }

pub numbers_read : (text : List ℕ) (r : Result Cert TextFault) → IsReadAnswer text r → IfOk r (λ cert. HasPlanNumbers (plan_in cert))
numbers_read text (Ok cert) reads = HasPlanNumbers-read (rows_of text) cert _ reads
numbers_read text (Err fault) given = tt
