-- What is read is in the grammar, and all that is in the grammar is read.
use Rattle.std.proofs.Common.{◌≡◌, ℕ, Option, Some, None, Result, Ok, Err, List, [], ◌∷◌, refl, ap, subst, codes}
use Rattle.std.proofs.lemmas.Option.{same_Some}
use Rattle.text_scan.proofs.Binds.{step, same_value}
use Rattle.line_text.specs.Parts.{Row, rows_of}
use Rattle.line_text.specs.Answers.{FailsText, UnlessMemory, IsSyntax}
use Rattle.line_text.specs.Lines.{titled, line, Each}
use Rattle.line_text.specs.Lines.Each.{none, more}
use Rattle.line_text.proofs.SectionLaws.{line_sound, line_complete}
use Rattle.policy_reader.specs.Lines as lines
use Rattle.policy_reader.specs.Policies.{IsPolicy, Reads, IsBreached, IsMalformed, IsReadAnswer}
use Rattle.policy_reader.specs.Reading.{all_lines, policy}
use Rattle.bud_design.specs.declared.policies.Policy.{Policy}
use Rattle.bud_design.specs.declared.policies.PolicyLine.{PolicyLine}
use Rattle.bud_base.specs.declared.texts.TextFault.{TextFault}
use Rattle.bud_base.specs.declared.texts.TextFault.TheVariants.{Syntax, Value, NoMemory}

-- the lines that are read are those of the rows
lines_sound : (version : ℕ) (rows : List Row) (a : Option ℕ) (xs : List PolicyLine) (b : Option ℕ) →
    all_lines version rows a ≡ Some (xs, b) → Each (lines.policy_line version) rows a xs b
unfolding all_lines
lines_sound version [] a xs b read =
    let P : List PolicyLine × Option ℕ → Type 0 = λ r. Each (lines.policy_line version) [] a r.0 r.1 in
    subst P (same_Some _ _ read) (none a)
lines_sound version (row ∷ rows) a xs b read =
    let P : List PolicyLine × Option ℕ → Type 0 = λ r. Each (lines.policy_line version) (row ∷ rows) a r.0 r.1 in
    step (lines.policy_line version (row, a)) _ _ read (λ first is_first behind.
    step (all_lines version rows first.1) _ _ behind (λ others are_others whole.
    let tail = lines_sound version rows first.1 others.0 others.1 are_others in
    subst P (same_Some _ _ whole) (more row rows first.0 others.0 a first.1 others.1 is_first tail)))

-- and all of them are read
lines_complete : (version : ℕ) (rows : List Row) (a b : Option ℕ) (xs : List PolicyLine) →
    Each (lines.policy_line version) rows a xs b → all_lines version rows a ≡ Some (xs, b)
unfolding all_lines
lines_complete version _ _ _ _ (none breach) = refl
lines_complete version _ _ _ _ (more row rows x xs a b c read each) = rw (read, lines_complete version rows b c xs each) refl

-- what is read is in the grammar
pub policy_sound : (rows : List Row) (p : Policy) (b : Option ℕ) → policy (rows, None) ≡ Some (p, b) → IsPolicy rows p b
unfolding policy
policy_sound rows p b read =
    let P : Policy × Option ℕ → Type 0 = λ r. IsPolicy rows r.0 r.1 in
    step (line (titled (codes "policy") lines.version) (rows, None)) _ _ read (λ version is_version behind.
    step (all_lines version.0 version.1.0 version.1.1) _ _ behind (λ others are_others whole.
    let first = line_sound (titled (codes "policy") lines.version) rows None version.0 version.1.0 version.1.1 is_version in
    subst P (same_Some _ _ whole) (record {
      version = first.row;
      others = version.1.0;
      in_order = first.front;
      before_lines = version.1.1;
      is_version = first.read;
      are_lines = lines_sound version.0 version.1.0 version.1.1 others.0 others.1 are_others;
    })))

-- all that is in the grammar is read
pub policy_complete : (rows : List Row) (p : Policy) (b : Option ℕ) → IsPolicy rows p b → policy (rows, None) ≡ Some (p, b)
unfolding policy
policy_complete rows p b given =
    rw (
      given.in_order,
      line_complete (titled (codes "policy") lines.version) given.version given.others None given.before_lines p.version given.is_version,
      lines_complete p.version given.others given.before_lines b p.lines given.are_lines,
    ) refl

-- a text has one reading
pub one_reading : (rows : List Row) (p q : Policy) (b c : Option ℕ) → IsPolicy rows p b → IsPolicy rows q c → (p ≡ q) × (b ≡ c)
one_reading rows p q b c first second =
    let same = same_value (policy (rows, None)) (p, b) (q, c) (policy_complete rows p b first) (policy_complete rows q c second) in
    (ap (λ r. r.0) same, ap (λ r. r.1) same)

-- a fault of reading is the answer that it names
pub refused : (text : List ℕ) (fault : TextFault) → FailsText fault (policy (rows_of text, None)) → IsReadAnswer text (Err fault)
refused text (Syntax at) unread = λ p breach given. (let read = policy_complete (rows_of text) p breach given in cc)
refused text (Value at) never = absurd never
refused text NoMemory _ = tt

-- the answer to a text in the grammar
pub answer_reads : (text : List ℕ) (p : Policy) (r : Result Policy TextFault) → IsReadAnswer text r → Reads text p → UnlessMemory r (r ≡ Ok p)
answer_reads text p (Ok q) given reads = ap (λ value. Ok value) (one_reading (rows_of text) q p None None given reads).0
answer_reads text p (Err (Syntax at)) given reads = absurd (given p None reads)
answer_reads text p (Err (Value at)) given reads = (let same = (one_reading (rows_of text) given.0 p (Some at) None given.1 reads).1 in cc)
answer_reads text p (Err NoMemory) given reads = tt

-- the answer to a text with a number out of its range
pub answer_breached : (text : List ℕ) (at : ℕ) (r : Result Policy TextFault) → IsReadAnswer text r → IsBreached text at → UnlessMemory r (r ≡ Err (Value at))
answer_breached text at (Ok q) given breached = (let same = (one_reading (rows_of text) q breached.0 None (Some at) given breached.1).1 in cc)
answer_breached text at (Err (Syntax _)) given breached = absurd (given breached.0 (Some at) breached.1)
answer_breached text at (Err (Value other)) given breached = (let same = (one_reading (rows_of text) given.0 breached.0 (Some other) (Some at) given.1 breached.1).1 in cc)
answer_breached text at (Err NoMemory) given breached = tt

-- the answer to a text of another form
pub answer_malformed : (text : List ℕ) (r : Result Policy TextFault) → IsReadAnswer text r → IsMalformed text → UnlessMemory r (IsSyntax r)
answer_malformed text (Ok q) given malformed = absurd (malformed q None given)
answer_malformed text (Err (Syntax _)) given malformed = tt
answer_malformed text (Err (Value at)) given malformed = absurd (malformed given.0 (Some at) given.1)
answer_malformed text (Err NoMemory) given malformed = tt
