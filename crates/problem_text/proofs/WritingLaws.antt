-- What is written for a problem is read as it.
use Rattle.std.proofs.Common.{◌≡◌, ℕ, ◌+◌, ◌^◌, ◌<◌, ℤ, pos, negsuc, Bool, true, false, Option, Some, None, List, [], ◌∷◌, ◌++◌, length, refl, ap, ◌∙◌, codes, decimal, arith}
use Rattle.std.specs.Fmt.{signed_decimal}
use Rattle.std.specs.Int.Signed.{mag}
use Rattle.std.specs.List.{flat_map, list_all, AllByRecursion}
use Rattle.std.proofs.lemmas.Int.{ints}
use Rattle.std.proofs.Math.Dec.{T}
use Rattle.std.proofs.lemmas.Bool.{le-leb}
use Rattle.std.proofs.lemmas.List.{append-nil}
use Rattle.line_text.specs.Parts.{Part, placed, rows}
use Rattle.line_text.specs.Numbers.{word}
use Rattle.line_text.specs.Written.{is_field, written}
use Rattle.line_text.specs.Lines.{titled}
use Rattle.line_text.proofs.PartsLemmas.{rows_none}
use Rattle.line_text.proofs.WrittenLaws.{rows_written}
use Rattle.line_text.proofs.WrittenSections.{IsWritten, IsWrittenSection, section_written, section_written_last}
use Rattle.line_text.proofs.PrintedLaws.{count_printed, whole_printed, field_decimal, field_signed, whole_reads, count_reads}
use Rattle.problem_text.specs.Lines as lines
use Rattle.problem_text.specs.Problems.{Reads}
use Rattle.problem_text.specs.Writing.{item_fields, start_fields, end_fields, nodes_line, item_line, start_line, end_line, text_of, IsTextTime, IsTextItem, IsTextStart, IsTextEnd, IsInTextRanges}
use Rattle.bud_base.specs.declared.ids.NodeId.{NodeId}
use Rattle.bud_base.specs.declared.problems.Problem.{Problem}
use Rattle.bud_base.specs.declared.problems.Item.{Item}
use Rattle.bud_base.specs.declared.problems.Start.{Start}
use Rattle.bud_base.specs.declared.problems.End.{End}

true_of : (b : Bool) → T b → b ≡ true
true_of true h = refl
true_of false h = absurd h

time_magnitude : (t : ℤ) → IsTextTime t → mag t < 2 ^ 63
time_magnitude (pos n) within = omega (arith, ints, within.low, within.high)
time_magnitude (negsuc n) within = omega (arith, ints, within.low, within.high)

-- a printed number from 0 to 2^32 - 1 is read as a number
number_written : (n at : ℕ) (parts : List Part) (b : Option ℕ) → n < 2 ^ 32 → lines.number (record { at = at; bytes = decimal n } ∷ parts, b) ≡ Some (n, (parts, b))
number_written n at parts b low =
    count_reads 0 4294967295 n at (decimal n) parts b (count_printed n (omega arith)) (rw (le-leb 0 n (omega arith), le-leb n 4294967295 (omega arith)) refl)

node_written : (n : NodeId) (at : ℕ) (parts : List Part) (b : Option ℕ) → n.0 < 2 ^ 32 → lines.node (record { at = at; bytes = decimal n.0 } ∷ parts, b) ≡ Some (n, (parts, b))
unfolding lines.node
node_written n at parts b low = rw (number_written n.0 at parts b low) refl

-- a printed time is read as a time
time_written : (t : ℤ) (at : ℕ) (parts : List Part) (b : Option ℕ) → IsTextTime t → lines.time (record { at = at; bytes = signed_decimal t } ∷ parts, b) ≡ Some (t, (parts, b))
time_written t at parts b within =
    whole_reads _ _ t at (signed_decimal t) parts b (whole_printed t (time_magnitude t within)) (rw (true_of _ within.low.le, true_of _ within.high.le) refl)

abbrev part : ℕ → List ℕ → Part
part at bytes = record { at = at; bytes = bytes }

-- a written item is read as the item
item_parts : (x : Item) → IsTextItem x → (a b c d e : ℕ) →
    lines.item (part a (decimal x.from.0) ∷ part b (decimal x.to.0) ∷ part c (signed_decimal x.least) ∷ part d (signed_decimal x.greatest) ∷ part e (decimal x.weight) ∷ [], None) ≡ Some (x, None)
unfolding lines.item
item_parts x given a b c d e =
    let p5 = part e (decimal x.weight) ∷ [] in
    let p4 = part d (signed_decimal x.greatest) ∷ p5 in
    let p3 = part c (signed_decimal x.least) ∷ p4 in
    let p2 = part b (decimal x.to.0) ∷ p3 in
    rw (
      node_written x.from a p2 None given.from,
      node_written x.to b p3 None given.to,
      time_written x.least c p4 None given.least,
      time_written x.greatest d p5 None given.greatest,
      number_written x.weight e [] None given.weight,
    ) refl

item_read : (x : Item) → IsTextItem x → (at : ℕ) → titled (codes "item") lines.item (placed at (codes "item" ∷ item_fields x), None) ≡ Some (x, None)
unfolding word
item_read x given at = item_parts x given _ _ _ _ _

item_written : (x : Item) → IsTextItem x → IsWritten (codes "item") lines.item item_fields x
item_written x given = record {
  plain = rw (
    field_decimal x.from.0 (omega (arith, given.from)),
    field_decimal x.to.0 (omega (arith, given.to)),
    field_signed x.least (time_magnitude x.least given.least),
    field_signed x.greatest (time_magnitude x.greatest given.greatest),
    field_decimal x.weight (omega (arith, given.weight)),
  ) refl;
  read = item_read x given;
}

start_parts : (s : Start) → IsTextStart s → (a b : ℕ) → lines.start (part a (decimal s.node.0) ∷ part b (signed_decimal s.offset) ∷ [], None) ≡ Some (s, None)
unfolding lines.start
start_parts s given a b = rw (node_written s.node a (part b (signed_decimal s.offset) ∷ []) None given.node, time_written s.offset b [] None given.offset) refl

start_read : (s : Start) → IsTextStart s → (at : ℕ) → titled (codes "start") lines.start (placed at (codes "start" ∷ start_fields s), None) ≡ Some (s, None)
unfolding word
start_read s given at = start_parts s given _ _

start_written : (s : Start) → IsTextStart s → IsWritten (codes "start") lines.start start_fields s
start_written s given = record {
  plain = rw (field_decimal s.node.0 (omega (arith, given.node)), field_signed s.offset (time_magnitude s.offset given.offset)) refl;
  read = start_read s given;
}

end_parts : (e : End) → IsTextEnd e → (a b : ℕ) → lines.end (part a (decimal e.node.0) ∷ part b (signed_decimal e.require) ∷ [], None) ≡ Some (e, None)
unfolding lines.end
end_parts e given a b = rw (node_written e.node a (part b (signed_decimal e.require) ∷ []) None given.node, time_written e.require b [] None given.require) refl

end_read : (e : End) → IsTextEnd e → (at : ℕ) → titled (codes "end") lines.end (placed at (codes "end" ∷ end_fields e), None) ≡ Some (e, None)
unfolding word
end_read e given at = end_parts e given _ _

end_written : (e : End) → IsTextEnd e → IsWritten (codes "end") lines.end end_fields e
end_written e given = record {
  plain = rw (field_decimal e.node.0 (omega (arith, given.node)), field_signed e.require (time_magnitude e.require given.require)) refl;
  read = end_read e given;
}

nodes_part : (n : ℕ) → n < 2 ^ 32 → (a : ℕ) → lines.nodes (part a (decimal n) ∷ [], None) ≡ Some (n, None)
unfolding lines.nodes
nodes_part n low a = rw (number_written n a [] None low) refl

nodes_read : (n : ℕ) → n < 2 ^ 32 → (at : ℕ) → titled (codes "nodes") lines.nodes (placed at (codes "nodes" ∷ decimal n ∷ []), None) ≡ Some (n, None)
unfolding word
nodes_read n low at = nodes_part n low _

version_read : (at : ℕ) → titled (codes "problem") lines.version (placed at (codes "problem" ∷ codes "1" ∷ []), None) ≡ Some (tt, None)
unfolding lines.version word
version_read at = refl

all_mapped : {X : Type 0} {P Q : X → Type 0} → ((x : X) → P x → Q x) → (xs : List X) → AllByRecursion P xs → AllByRecursion Q xs
all_mapped f [] all = tt
all_mapped f (x ∷ xs) all = (f x all.0, all_mapped f xs all.1)

-- where the sections begin
abbrev at_nodes : ℕ
at_nodes = 0 + length (written (codes "problem") (codes "1" ∷ []))

abbrev at_items : ℕ → ℕ
at_items n = at_nodes + length (nodes_line n)

-- the parts of the text make a problem
text_made : (p : Problem) → p.nodes < 2 ^ 32 → (items starts ends : List ℕ) →
    (s3 : IsWrittenSection (codes "item") lines.item p.items (record { at = at_items p.nodes; bytes = items }) starts) →
    (s4 : IsWrittenSection (codes "start") lines.start p.starts (record { at = s3.behind; bytes = starts }) ends) →
    IsWrittenSection (codes "end") lines.end p.ends (record { at = s4.behind; bytes = ends }) [] →
    Reads (written (codes "problem") (codes "1" ∷ []) ++ (nodes_line p.nodes ++ items)) p
text_made p low items starts ends s3 s4 s5 =
    let version = placed 0 (codes "problem" ∷ codes "1" ∷ []) in
    let nodes = placed at_nodes (codes "nodes" ∷ decimal p.nodes ∷ []) in
    let plain : list_all is_field (decimal p.nodes ∷ []) ≡ true = rw (field_decimal p.nodes (omega arith)) refl in
    let last : rows (record { at = s5.behind; bytes = [] }) ≡ [] = rows_none (record { at = s5.behind; bytes = [] }) refl in
    record {
      version = version;
      nodes = nodes;
      items = s3.front;
      starts = s4.front;
      ends = s5.front;
      in_order =
          rows_written 0 (codes "problem") (codes "1" ∷ []) (nodes_line p.nodes ++ items) refl refl
          ∙ ap (λ rest. version ∷ rest) (rows_written at_nodes (codes "nodes") (decimal p.nodes ∷ []) items refl plain
          ∙ ap (λ rest. nodes ∷ rest) (s3.rows_are
          ∙ ap (λ rest. s3.front ++ rest) (s4.rows_are
          ∙ ap (λ rest. s4.front ++ rest) (s5.rows_are
          ∙ ap (λ rest. s5.front ++ rest) last
          ∙ append-nil s5.front))));
      before_nodes = None;
      before_items = None;
      before_starts = None;
      before_ends = None;
      is_version = version_read 0;
      are_nodes = nodes_read p.nodes low at_nodes;
      are_items = s3.each;
      are_starts = s4.each;
      are_ends = s5.each;
    }

-- the text reads as the problem
pub text_reads : (p : Problem) → IsInTextRanges p → Reads (text_of p) p
text_reads p given =
    let ends = flat_map end_line p.ends in
    let starts = flat_map start_line p.starts ++ ends in
    let s3 = section_written (codes "item") lines.item item_fields p.items (at_items p.nodes) starts refl (all_mapped item_written p.items given.items) in
    let s4 = section_written (codes "start") lines.start start_fields p.starts s3.behind ends refl (all_mapped start_written p.starts given.starts) in
    let s5 = section_written_last (codes "end") lines.end end_fields p.ends s4.behind refl (all_mapped end_written p.ends given.ends) in
    text_made p given.nodes (flat_map item_line p.items ++ starts) starts ends s3 s4 s5
