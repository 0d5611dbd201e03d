-- What is read is in the grammar, and all that is in the grammar is read.
use Rattle.std.proofs.Common.{◌≡◌, ℕ, false, Option, Some, None, Result, Ok, Err, List, ◌∷◌, ◌++◌, refl, ap, ◌∙◌, subst, codes}
use Rattle.std.proofs.lemmas.List.{append-nil}
use Rattle.std.proofs.lemmas.Option.{same_Some}
use Rattle.std.specs.Str.{bytes_eq}
use Rattle.text_scan.specs.Left.{end_of}
use Rattle.text_scan.proofs.Binds.{step, same_value}
use Rattle.line_text.specs.Parts.{Row, rows_of}
use Rattle.line_text.specs.Answers.{FailsText, UnlessMemory, IsSyntax}
use Rattle.line_text.specs.Lines.{titled, line, section, Each}
use Rattle.line_text.proofs.SectionLaws.{section_sound, section_complete, section_all, each_apart, all_apart, line_sound, line_complete, end_sound}
use Rattle.problem_text.specs.Lines as lines
use Rattle.problem_text.specs.Problems.{IsProblem, Reads, IsBreached, IsMalformed, IsReadAnswer}
use Rattle.problem_text.specs.Reading.{problem}
use Rattle.bud_base.specs.declared.texts.TextFault.{TextFault}
use Rattle.bud_base.specs.declared.texts.TextFault.TheVariants.{Syntax, Value, NoMemory}
use Rattle.bud_base.specs.declared.problems.Problem.{Problem}
use Rattle.bud_base.specs.declared.problems.Item.{Item}
use Rattle.bud_base.specs.declared.problems.Start.{Start}
use Rattle.bud_base.specs.declared.problems.End.{End}

-- what the steps read is in the grammar
steps_sound : (nodes : ℕ) (items : List Item) (starts : List Start) (ends : List End) (rows r1 r2 r3 r4 r5 : List Row) (b1 b2 b3 b4 b5 breach : Option ℕ) →
    line (titled (codes "problem") lines.version) (rows, None) ≡ Some (tt, (r1, b1)) →
    line (titled (codes "nodes") lines.nodes) (r1, b1) ≡ Some (nodes, (r2, b2)) →
    section (codes "item") lines.item r2 b2 ≡ Some (items, (r3, b3)) →
    section (codes "start") lines.start r3 b3 ≡ Some (starts, (r4, b4)) →
    section (codes "end") lines.end r4 b4 ≡ Some (ends, (r5, b5)) →
    end_of (r5, b5) ≡ Some breach →
    IsProblem rows (record { nodes = nodes; items = items; starts = starts; ends = ends }) breach
steps_sound nodes items starts ends rows r1 r2 r3 r4 r5 b1 b2 b3 b4 b5 breach read1 read2 read3 read4 read5 read6 =
    let l1 = line_sound (titled (codes "problem") lines.version) rows None tt r1 b1 read1 in
    let l2 = line_sound (titled (codes "nodes") lines.nodes) r1 b1 nodes r2 b2 read2 in
    let s3 = section_sound (codes "item") lines.item r2 b2 items r3 b3 read3 in
    let s4 = section_sound (codes "start") lines.start r3 b3 starts r4 b4 read4 in
    let s5 = section_sound (codes "end") lines.end r4 b4 ends r5 b5 read5 in
    let last = end_sound r5 b5 breach read6 in
    let P : Option ℕ → Type 0 = λ b. Each (titled (codes "end") lines.end) s5.rows b4 ends b in
    record {
      version = l1.row;
      nodes = l2.row;
      items = s3.rows;
      starts = s4.rows;
      ends = s5.rows;
      in_order =
          l1.front ∙ ap (λ rest. l1.row ∷ rest) (l2.front ∙ ap (λ rest. l2.row ∷ rest) (s3.front ∙ ap (λ rest. s3.rows ++ rest)
          (s4.front ∙ ap (λ rest. s4.rows ++ rest) (s5.front ∙ ap (λ rest. s5.rows ++ rest) last.0 ∙ append-nil s5.rows))));
      before_nodes = b1;
      before_items = b2;
      before_starts = b3;
      before_ends = b4;
      is_version = l1.read;
      are_nodes = l2.read;
      are_items = s3.each;
      are_starts = s4.each;
      are_ends = subst P last.1 s5.each;
    }

-- what is read is in the grammar
pub problem_sound : (rows : List Row) (p : Problem) (b : Option ℕ) → problem (rows, None) ≡ Some (p, b) → IsProblem rows p b
unfolding problem
problem_sound rows p b read =
    let P : Problem × Option ℕ → Type 0 = λ r. IsProblem rows r.0 r.1 in
    step (line (titled (codes "problem") lines.version) (rows, None)) _ _ read (λ version is_version behind1.
    step (line (titled (codes "nodes") lines.nodes) version.1) _ _ behind1 (λ nodes are_nodes behind2.
    step (section (codes "item") lines.item nodes.1.0 nodes.1.1) _ _ behind2 (λ items are_items behind3.
    step (section (codes "start") lines.start items.1.0 items.1.1) _ _ behind3 (λ starts are_starts behind4.
    step (section (codes "end") lines.end starts.1.0 starts.1.1) _ _ behind4 (λ ends are_ends behind5.
    step (end_of ends.1) _ _ behind5 (λ breach is_breach whole.
    subst P (same_Some _ _ whole)
    (steps_sound nodes.0 items.0 starts.0 ends.0 rows version.1.0 nodes.1.0 items.1.0 starts.1.0 ends.1.0 version.1.1 nodes.1.1 items.1.1 starts.1.1 ends.1.1 breach
    is_version are_nodes are_items are_starts are_ends is_breach)))))))

-- all that is in the grammar is read
pub problem_complete : (rows : List Row) (p : Problem) (b : Option ℕ) → IsProblem rows p b → problem (rows, None) ≡ Some (p, b)
unfolding problem
problem_complete rows p b given =
    let ends_apart = λ (other : List ℕ) (apart : bytes_eq (codes "end") other ≡ false). all_apart (codes "end") other lines.end given.ends given.before_ends b p.ends given.are_ends apart in
    let starts_apart = each_apart (codes "start") (codes "item") lines.start given.starts given.ends given.before_starts given.before_ends p.starts given.are_starts refl (ends_apart (codes "item") refl) in
    rw (
      given.in_order,
      line_complete (titled (codes "problem") lines.version) given.version (given.nodes ∷ (given.items ++ (given.starts ++ given.ends))) None given.before_nodes tt given.is_version,
      line_complete (titled (codes "nodes") lines.nodes) given.nodes (given.items ++ (given.starts ++ given.ends)) given.before_nodes given.before_items p.nodes given.are_nodes,
      section_complete (codes "item") lines.item given.items (given.starts ++ given.ends) given.before_items given.before_starts p.items given.are_items starts_apart,
      section_complete (codes "start") lines.start given.starts given.ends given.before_starts given.before_ends p.starts given.are_starts (ends_apart (codes "start") refl),
      section_all (codes "end") lines.end given.ends given.before_ends b p.ends given.are_ends,
    ) refl

-- a text has one reading
pub one_reading : (rows : List Row) (p q : Problem) (b c : Option ℕ) → IsProblem rows p b → IsProblem rows q c → (p ≡ q) × (b ≡ c)
one_reading rows p q b c first second =
    let same = same_value (problem (rows, None)) (p, b) (q, c) (problem_complete rows p b first) (problem_complete rows q c second) in
    (ap (λ r. r.0) same, ap (λ r. r.1) same)

-- a fault of reading is the answer that it names
pub refused : (text : List ℕ) (fault : TextFault) → FailsText fault (problem (rows_of text, None)) → IsReadAnswer text (Err fault)
refused text (Syntax at) none = λ p breach given. (let read = problem_complete (rows_of text) p breach given in cc)
refused text (Value at) never = absurd never
refused text NoMemory _ = tt

-- the answer to a text in the grammar
pub answer_reads : (text : List ℕ) (p : Problem) (r : Result Problem TextFault) → IsReadAnswer text r → Reads text p → UnlessMemory r (r ≡ Ok p)
answer_reads text p (Ok q) given reads = ap (λ value. Ok value) (one_reading (rows_of text) q p None None given reads).0
answer_reads text p (Err (Syntax at)) given reads = absurd (given p None reads)
answer_reads text p (Err (Value at)) given reads = (let same = (one_reading (rows_of text) given.0 p (Some at) None given.1 reads).1 in cc)
answer_reads text p (Err NoMemory) given reads = tt

-- the answer to a text with a number out of its range
pub answer_breached : (text : List ℕ) (at : ℕ) (r : Result Problem TextFault) → IsReadAnswer text r → IsBreached text at → UnlessMemory r (r ≡ Err (Value at))
answer_breached text at (Ok q) given breached = (let same = (one_reading (rows_of text) q breached.0 None (Some at) given breached.1).1 in cc)
answer_breached text at (Err (Syntax _)) given breached = absurd (given breached.0 (Some at) breached.1)
answer_breached text at (Err (Value other)) given breached = (let same = (one_reading (rows_of text) given.0 breached.0 (Some other) (Some at) given.1 breached.1).1 in cc)
answer_breached text at (Err NoMemory) given breached = tt

-- the answer to a text of another form
pub answer_malformed : (text : List ℕ) (r : Result Problem TextFault) → IsReadAnswer text r → IsMalformed text → UnlessMemory r (IsSyntax r)
answer_malformed text (Ok q) given malformed = absurd (malformed q None given)
answer_malformed text (Err (Syntax _)) given malformed = tt
answer_malformed text (Err (Value at)) given malformed = absurd (malformed given.0 (Some at) given.1)
answer_malformed text (Err NoMemory) given malformed = tt
