-- What is written for a certificate is read as it.
use Rattle.std.proofs.Common.{◌≡◌, ◌⊎◌, inl, inr, ℕ, ◌+◌, ◌^◌, ◌<◌, ℤ, pos, negsuc, ◌-ℤ◌, ◌≤ℤ◌, Bool, true, false, Option, Some, None, List, [], ◌∷◌, ◌++◌, length, map, refl, ap, ◌∙◌, codes, decimal, arith}
use Rattle.std.specs.Fmt.{signed_decimal}
use Rattle.std.specs.Int.Signed.{mag}
use Rattle.std.specs.List.{flat_map, list_all, AllByRecursion}
use Rattle.std.proofs.lemmas.Int.{ints}
use Rattle.std.proofs.Math.Dec.{T}
use Rattle.std.proofs.lemmas.Bool.{and_parts}
use Rattle.std.proofs.lemmas.List.{append-nil}
use Rattle.line_text.specs.Parts.{Part, Row, placed, rows}
use Rattle.line_text.specs.Numbers.{word}
use Rattle.line_text.specs.Names.{name, is_name}
use Rattle.line_text.specs.Written.{is_field, written}
use Rattle.line_text.specs.Lines.{titled}
use Rattle.line_text.proofs.PartsLemmas.{rows_none}
use Rattle.line_text.proofs.WrittenLaws.{rows_written}
use Rattle.line_text.proofs.WrittenSections.{IsWritten, IsWrittenSection, section_written}
use Rattle.line_text.proofs.PrintedLaws.{field_decimal, whole_reads}
use Rattle.bud_base.specs.declared.ids.ClassId.{ClassId}
use Rattle.bud_plans.specs.Plans.{IsPlanNumber, IsPlanWeight}
use Rattle.bud_syntax.specs.declared.edges.Edge.{Edge}
use Rattle.bud_syntax.specs.declared.edges.Edge.TheVariants.{Rise, Fall}
use Rattle.cert_text.specs.Lines as lines
use Rattle.cert_text.proofs.WrittenExceptions.{count_written, exception_written, exception_is_field}
use Rattle.cert_text.specs.Exceptions.{exceptions}
use Rattle.cert_text.specs.Texts.{IsHeader, Reads}
use Rattle.cert_text.specs.Texts.IsHeader.{first, second}
use Rattle.cert_text.specs.Writing.{header_text, exception_field, edge_word, class_fields, node_fields, item_fields, flow_fields, class_line, node_line, item_line, start_line, end_line, text_of, IsTextName, IsTextException, IsTextClass, IsTextNode, IsTextItem, IsTextFlow, IsInTextRanges}
use Rattle.line_text.proofs.WideLaws.{wide_whole_printed, wide_field_signed}
use Rattle.cert_text.specs.declared.certs.Cert.{Cert}
use Rattle.cert_text.specs.declared.certs.CertException.{CertException}
use Rattle.cert_text.specs.declared.certs.CertClass.{CertClass}
use Rattle.cert_text.specs.declared.certs.CertNode.{CertNode}
use Rattle.cert_text.specs.declared.certs.CertItem.{CertItem}
use Rattle.cert_text.specs.declared.certs.CertFlow.{CertFlow}

true_of : (b : Bool) → T b → b ≡ true
true_of true h = refl
true_of false h = absurd h

abbrev part : ℕ → List ℕ → Part
part at bytes = record { at = at; bytes = bytes }

-- ---- fields
number_magnitude : (z : ℤ) → IsPlanNumber z → mag z + 1 < 10 ^ 64
number_magnitude (pos n) within = omega (arith, ints, within.high)
number_magnitude (negsuc n) within = omega (arith, ints, within.low)

weight_magnitude : (z : ℤ) → IsPlanWeight z → mag z + 1 < 10 ^ 64
weight_magnitude (pos n) within = omega (arith, ints, within.high)
weight_magnitude (negsuc n) within = omega (arith, ints, within.low)

-- a name is read as itself
name_written : (bytes : List ℕ) (at : ℕ) (parts : List Part) (b : Option ℕ) → IsTextName bytes → name (part at bytes ∷ parts, b) ≡ Some (bytes, (parts, b))
unfolding name
name_written bytes at parts b plain = rw (and_parts (is_field bytes) (is_name bytes) plain).1 refl

name_field : (bytes : List ℕ) → IsTextName bytes → is_field bytes ≡ true
name_field bytes plain = (and_parts (is_field bytes) (is_name bytes) plain).0

class_written : (n : ClassId) (at : ℕ) (parts : List Part) (b : Option ℕ) → n.0 < 2 ^ 32 → lines.class_number (part at (decimal n.0) ∷ parts, b) ≡ Some (n, (parts, b))
unfolding lines.class_number
class_written n at parts b low = rw (count_written n.0 at parts b low) refl

-- so is a budget, an arrival or a flow
number_written : (z : ℤ) (at : ℕ) (parts : List Part) (b : Option ℕ) → IsPlanNumber z → lines.number (part at (signed_decimal z) ∷ parts, b) ≡ Some (z, (parts, b))
number_written z at parts b within =
    let low : (pos 0 -ℤ pos 17592186044416) ≤ℤ z = omega (arith, ints, within.low) in
    whole_reads _ _ z at (signed_decimal z) parts b (wide_whole_printed z (number_magnitude z within)) (rw (true_of _ low.le, true_of _ within.high.le) refl)

edge_written : (e : Edge) (at : ℕ) (parts : List Part) (b : Option ℕ) → lines.edge (part at (edge_word e) ∷ parts, b) ≡ Some (e, (parts, b))
unfolding lines.edge
edge_written Rise at parts b = refl
edge_written Fall at parts b = refl

exceptions_written : (xs : List CertException) (at : ℕ) (b : Option ℕ) → AllByRecursion IsTextException xs → exceptions (placed at (map exception_field xs)) b ≡ Some (xs, b)
unfolding exceptions
exceptions_written [] at b low = refl
exceptions_written (x ∷ xs) at b low =
    rw (exception_written x at b low.0, exceptions_written xs (at + length (exception_field x) + 1) b low.1) refl

exceptions_fields : (xs : List CertException) → AllByRecursion IsTextException xs → list_all is_field (map exception_field xs) ≡ true
exceptions_fields [] low = refl
exceptions_fields (x ∷ xs) low = rw (exception_is_field x low.0, exceptions_fields xs low.1) refl

-- ---- lines
class_parts : (x : CertClass) → IsTextClass x → (a b c d : ℕ)
    → lines.class (part a (decimal x.number.0) ∷ part b x.clock ∷ part c (edge_word x.edge) ∷ placed d (map exception_field x.exceptions), None) ≡ Some (x, None)
unfolding lines.class
class_parts x given a b c d =
    let p3 = placed d (map exception_field x.exceptions) in
    let p2 = part c (edge_word x.edge) ∷ p3 in
    rw (
      class_written x.number a (part b x.clock ∷ p2) None given.number,
      name_written x.clock b p2 None given.clock,
      edge_written x.edge c p3 None,
      exceptions_written x.exceptions d None given.exceptions,
    ) refl

class_read : (x : CertClass) → IsTextClass x → (at : ℕ) → titled (codes "class") lines.class (placed at (codes "class" ∷ class_fields x), None) ≡ Some (x, None)
unfolding word
class_read x given at = class_parts x given _ _ _ _

edge_field : (e : Edge) → is_field (edge_word e) ≡ true
edge_field Rise = refl
edge_field Fall = refl

class_line_written : (x : CertClass) → IsTextClass x → IsWritten (codes "class") lines.class class_fields x
class_line_written x given = record {
  plain = rw (field_decimal x.number.0 (omega (arith, given.number)), name_field x.clock given.clock, edge_field x.edge, exceptions_fields x.exceptions given.exceptions) refl;
  read = class_read x given;
}

node_parts : (x : CertNode) → IsTextNode x → (a b c : ℕ) → lines.node (part a x.name ∷ part b (decimal x.class.0) ∷ part c (signed_decimal x.arrival) ∷ [], None) ≡ Some (x, None)
unfolding lines.node
node_parts x given a b c =
    let p3 = part c (signed_decimal x.arrival) ∷ [] in
    rw (name_written x.name a (part b (decimal x.class.0) ∷ p3) None given.name, class_written x.class b p3 None given.class, number_written x.arrival c [] None given.arrival) refl

node_read : (x : CertNode) → IsTextNode x → (at : ℕ) → titled (codes "node") lines.node (placed at (codes "node" ∷ node_fields x), None) ≡ Some (x, None)
unfolding word
node_read x given at = node_parts x given _ _ _

node_line_written : (x : CertNode) → IsTextNode x → IsWritten (codes "node") lines.node node_fields x
node_line_written x given = record {
  plain = rw (name_field x.name given.name, field_decimal x.class.0 (omega (arith, given.class)), wide_field_signed x.arrival (number_magnitude x.arrival given.arrival)) refl;
  read = node_read x given;
}

item_parts : (x : CertItem) → IsTextItem x → (a b c d e : ℕ)
    → lines.item (part a x.from ∷ part b x.to ∷ part c (decimal x.class.0) ∷ part d (signed_decimal x.budget) ∷ part e (signed_decimal x.flow) ∷ [], None) ≡ Some (x, None)
unfolding lines.item
item_parts x given a b c d e =
    let p5 = part e (signed_decimal x.flow) ∷ [] in
    let p4 = part d (signed_decimal x.budget) ∷ p5 in
    let p3 = part c (decimal x.class.0) ∷ p4 in
    rw (
      name_written x.from a (part b x.to ∷ p3) None given.from,
      name_written x.to b p3 None given.to,
      class_written x.class c p4 None given.class,
      number_written x.budget d p5 None given.budget,
      number_written x.flow e [] None given.flow,
    ) refl

item_read : (x : CertItem) → IsTextItem x → (at : ℕ) → titled (codes "item") lines.item (placed at (codes "item" ∷ item_fields x), None) ≡ Some (x, None)
unfolding word
item_read x given at = item_parts x given _ _ _ _ _

item_line_written : (x : CertItem) → IsTextItem x → IsWritten (codes "item") lines.item item_fields x
item_line_written x given = record {
  plain = rw (
    name_field x.from given.from,
    name_field x.to given.to,
    field_decimal x.class.0 (omega (arith, given.class)),
    wide_field_signed x.budget (number_magnitude x.budget given.budget),
    wide_field_signed x.flow (number_magnitude x.flow given.flow),
  ) refl;
  read = item_read x given;
}

flow_parts : (x : CertFlow) → IsTextFlow x → (a b c : ℕ) → lines.flow (part a x.name ∷ part b (decimal x.class.0) ∷ part c (signed_decimal x.flow) ∷ [], None) ≡ Some (x, None)
unfolding lines.flow
flow_parts x given a b c =
    let p3 = part c (signed_decimal x.flow) ∷ [] in
    rw (name_written x.name a (part b (decimal x.class.0) ∷ p3) None given.name, class_written x.class b p3 None given.class, number_written x.flow c [] None given.flow) refl

start_read : (x : CertFlow) → IsTextFlow x → (at : ℕ) → titled (codes "start") lines.flow (placed at (codes "start" ∷ flow_fields x), None) ≡ Some (x, None)
unfolding word
start_read x given at = flow_parts x given _ _ _

end_read : (x : CertFlow) → IsTextFlow x → (at : ℕ) → titled (codes "end") lines.flow (placed at (codes "end" ∷ flow_fields x), None) ≡ Some (x, None)
unfolding word
end_read x given at = flow_parts x given _ _ _

flow_plain : (x : CertFlow) → IsTextFlow x → list_all is_field (flow_fields x) ≡ true
flow_plain x given = rw (name_field x.name given.name, field_decimal x.class.0 (omega (arith, given.class)), wide_field_signed x.flow (number_magnitude x.flow given.flow)) refl

start_line_written : (x : CertFlow) → IsTextFlow x → IsWritten (codes "start") lines.flow flow_fields x
start_line_written x given = record { plain = flow_plain x given; read = start_read x given }

end_line_written : (x : CertFlow) → IsTextFlow x → IsWritten (codes "end") lines.flow flow_fields x
end_line_written x given = record { plain = flow_plain x given; read = end_read x given }

weight_part : (w : ℤ) → IsPlanWeight w → (a : ℕ) → lines.weight (part a (signed_decimal w) ∷ [], None) ≡ Some (w, None)
unfolding lines.weight
weight_part w within a =
    let low : (pos 0 -ℤ pos 1267650600228229401496703205376) ≤ℤ w = omega (arith, ints, within.low) in
    rw (whole_reads (pos 0 -ℤ pos 1267650600228229401496703205376) (pos 1267650600228229401496703205376) w a (signed_decimal w) [] None (wide_whole_printed w (weight_magnitude w within)) (rw (true_of _ low.le, true_of _ within.high.le) refl)) refl

weight_read : (w : ℤ) → IsPlanWeight w → (at : ℕ) → titled (codes "weight") lines.weight (placed at (codes "weight" ∷ signed_decimal w ∷ []), None) ≡ Some (w, None)
unfolding word
weight_read w within at = weight_part w within _

version_read : (at : ℕ) → titled (codes "certificate") lines.version (placed at (codes "certificate" ∷ codes "1" ∷ []), None) ≡ Some (1, None)
unfolding lines.version word
version_read at = refl

second_read : (at : ℕ) → titled (codes "certificate") lines.version (placed at (codes "certificate" ∷ codes "2" ∷ []), None) ≡ Some (2, None)
unfolding lines.version word
second_read at = refl

policy_read : (at : ℕ) → titled (codes "policy") lines.policy (placed at (codes "policy" ∷ codes "2" ∷ []), None) ≡ Some (tt, None)
unfolding lines.policy word
policy_read at = refl

-- the rows of the first lines, and those of the text behind them
record IsWrittenHeader (policy : ℕ) (rest : List ℕ) : Type 0 where
  front : List Row
  rows_are : rows (record { at = 0; bytes = header_text policy ++ rest }) ≡ front ++ rows (record { at = 0 + length (header_text policy); bytes = rest })
  is_header : IsHeader front policy None

header_written : (policy : ℕ) (rest : List ℕ) → (policy ≡ 1) ⊎ (policy ≡ 2) → IsWrittenHeader policy rest
header_written policy rest (inl one) = rw one (record {
  front = placed 0 (codes "certificate" ∷ codes "1" ∷ []) ∷ [];
  rows_are = rows_written 0 (codes "certificate") (codes "1" ∷ []) rest refl refl;
  is_header = first (placed 0 (codes "certificate" ∷ codes "1" ∷ [])) None (version_read 0);
})
header_written policy rest (inr two) =
    let before = length (written (codes "certificate") (codes "2" ∷ [])) in
    let behind = placed before (codes "policy" ∷ codes "2" ∷ []) in
    rw two (record {
      front = placed 0 (codes "certificate" ∷ codes "2" ∷ []) ∷ behind ∷ [];
      rows_are =
          rows_written 0 (codes "certificate") (codes "2" ∷ []) (written (codes "policy") (codes "2" ∷ []) ++ rest) refl refl
          ∙ ap (λ others. placed 0 (codes "certificate" ∷ codes "2" ∷ []) ∷ others) (rows_written before (codes "policy") (codes "2" ∷ []) rest refl refl);
      is_header = second (placed 0 (codes "certificate" ∷ codes "2" ∷ [])) behind None None (second_read 0) (policy_read before);
    })

all_mapped : {X : Type 0} {P Q : X → Type 0} → ((x : X) → P x → Q x) → (xs : List X) → AllByRecursion P xs → AllByRecursion Q xs
all_mapped f [] all = tt
all_mapped f (x ∷ xs) all = (f x all.0, all_mapped f xs all.1)

-- ---- the text
-- where the classes begin
abbrev at_classes : ℕ → ℕ
at_classes policy = 0 + length (header_text policy)

abbrev weight_line : ℤ → List ℕ
weight_line w = written (codes "weight") (signed_decimal w ∷ [])

-- the parts of the text make a certificate
text_made : (cert : Cert) → (cert.policy ≡ 1) ⊎ (cert.policy ≡ 2) → IsPlanWeight cert.weight → (classes nodes items starts ends : List ℕ) →
    (s1 : IsWrittenSection (codes "class") lines.class cert.classes (record { at = at_classes cert.policy; bytes = classes }) nodes) →
    (s2 : IsWrittenSection (codes "node") lines.node cert.nodes (record { at = s1.behind; bytes = nodes }) items) →
    (s3 : IsWrittenSection (codes "item") lines.item cert.items (record { at = s2.behind; bytes = items }) starts) →
    (s4 : IsWrittenSection (codes "start") lines.flow cert.starts (record { at = s3.behind; bytes = starts }) ends) →
    IsWrittenSection (codes "end") lines.flow cert.ends (record { at = s4.behind; bytes = ends }) (weight_line cert.weight) →
    Reads (header_text cert.policy ++ classes) cert
text_made cert known within classes nodes items starts ends s1 s2 s3 s4 s5 =
    let h = header_written cert.policy classes known in
    let weight = placed s5.behind (codes "weight" ∷ signed_decimal cert.weight ∷ []) in
    let plain : list_all is_field (signed_decimal cert.weight ∷ []) ≡ true = rw (wide_field_signed cert.weight (weight_magnitude cert.weight within)) refl in
    let end = s5.behind + length (weight_line cert.weight) in
    let last : rows (record { at = s5.behind; bytes = weight_line cert.weight }) ≡ weight ∷ []
    = rw append-nil at (rows_written s5.behind (codes "weight") (signed_decimal cert.weight ∷ []) [] refl plain) ∙ ap (λ rest. weight ∷ rest) (rows_none (record { at = end; bytes = [] }) refl) in
    record {
      header = h.front;
      classes = s1.front;
      nodes = s2.front;
      items = s3.front;
      starts = s4.front;
      ends = s5.front;
      weight = weight;
      in_order =
          h.rows_are
          ∙ ap (λ rest. h.front ++ rest) (s1.rows_are
          ∙ ap (λ rest. s1.front ++ rest) (s2.rows_are
          ∙ ap (λ rest. s2.front ++ rest) (s3.rows_are
          ∙ ap (λ rest. s3.front ++ rest) (s4.rows_are
          ∙ ap (λ rest. s4.front ++ rest) (s5.rows_are
          ∙ ap (λ rest. s5.front ++ rest) last)))));
      before_classes = None;
      before_nodes = None;
      before_items = None;
      before_starts = None;
      before_ends = None;
      before_weight = None;
      is_header = h.is_header;
      are_classes = s1.each;
      are_nodes = s2.each;
      are_items = s3.each;
      are_starts = s4.each;
      are_ends = s5.each;
      is_weight = weight_read cert.weight within s5.behind;
    }

-- the text reads as the certificate
pub text_reads : (cert : Cert) → IsInTextRanges cert → Reads (text_of cert) cert
text_reads cert given =
    let ends = flat_map end_line cert.ends ++ weight_line cert.weight in
    let starts = flat_map start_line cert.starts ++ ends in
    let items = flat_map item_line cert.items ++ starts in
    let nodes = flat_map node_line cert.nodes ++ items in
    let s1 = section_written (codes "class") lines.class class_fields cert.classes (at_classes cert.policy) nodes refl (all_mapped class_line_written cert.classes given.classes) in
    let s2 = section_written (codes "node") lines.node node_fields cert.nodes s1.behind items refl (all_mapped node_line_written cert.nodes given.nodes) in
    let s3 = section_written (codes "item") lines.item item_fields cert.items s2.behind starts refl (all_mapped item_line_written cert.items given.items) in
    let s4 = section_written (codes "start") lines.flow flow_fields cert.starts s3.behind ends refl (all_mapped start_line_written cert.starts given.starts) in
    let s5 = section_written (codes "end") lines.flow flow_fields cert.ends s4.behind (weight_line cert.weight) refl (all_mapped end_line_written cert.ends given.ends) in
    text_made cert given.policy given.weight (flat_map class_line cert.classes ++ nodes) nodes items starts ends s1 s2 s3 s4 s5
