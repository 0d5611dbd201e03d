-- What is read is in the grammar, and all that is in the grammar is read, with one value.
use Rattle.std.proofs.Common.{◌≡◌, ◌∙◌, ℕ, ◌+◌, true, false, Option, Some, None, Result, Ok, Err, List, [], ◌∷◌, ◌++◌, refl, sym, ap, subst, arith, append_assoc, codes, min, length, ◌≤◌}
use Rattle.std.specs.Option.{ForSome}
use Rattle.std.proofs.lemmas.List.{length-append}
use Rattle.std.specs.Str.{bytes_eq}
use Rattle.std.proofs.lemmas.List.{append-nil}
use Rattle.std.proofs.lemmas.Option.{same_Some}
use Rattle.std.proofs.lemmas.Slice.Eq.{bytes_eq-Decides}
use Rattle.text_scan.specs.Left.{lesser}
use Rattle.text_scan.proofs.Binds.{same_value}
use Rattle.line_text.specs.Parts.{Part, fields}
use Rattle.line_text.specs.Answers.{FailsText, UnlessMemory, IsSyntax}
use Rattle.bud_base.specs.declared.texts.TextFault.{TextFault}
use Rattle.bud_base.specs.declared.texts.TextFault.TheVariants.{Syntax, Value, NoMemory}
use Rattle.bud_design.specs.declared.policies.Edit.TheVariants as edit
use Rattle.bud_syntax.specs.declared.constraints.SdcCommand.{SdcCommand}
use Rattle.sdc_reader.specs.Answers.{Answer, UnlessMemory as Unless}
use Rattle.sdc_reader.specs.Files.{HasCommand, IsCommandAnswer}
use Rattle.sdc_reader.specs.declared.faults.SdcFault.{SdcFault}
use Rattle.sdc_reader.specs.declared.faults.SdcFault.TheVariants.{Syntax as SdcSyntax, UnknownCommand, UnknownOption, Value as ValueOf, NoMemory as SdcNoMemory}
use Rattle.edit_reader.specs.declared.commands.Refusal.TheVariants as refusal
use Rattle.sdc_reader.proofs.CommandLemmas.{one_command_of}
use Rattle.edit_reader.specs.Numbered.{Line, lines_of}
use Rattle.edit_reader.specs.Lines.{header as header_of, kind_of, plain_line, behind, IsAdd, IsLine}
use Rattle.edit_reader.specs.Lines.IsLine.{plain, add, out_of_range}
use Rattle.edit_reader.specs.Reading.{refusal_of, IsNoCommand, IsAddedAnswer, IsLineAnswer, HaveReading, AreSoFar, AreLinesAnswer, IsLooseAnswer}
use Rattle.edit_reader.specs.Scripts.{onto, AreLines, IsScript, Reads, IsBreached, IsMalformed, IsReadAnswer}
use Rattle.edit_reader.specs.Scripts.AreLines.{none, more}
use Rattle.edit_reader.specs.declared.scripts.ScriptLine.{ScriptLine}
use Rattle.edit_reader.specs.declared.scripts.ScriptLine.TheVariants as script

min_assoc : (a b c : ℕ) → min a (min b c) ≡ min (min a b) c
min_assoc a b c = omega arith

-- the least of three offsets
lesser_assoc : (a b c : Option ℕ) → lesser a (lesser b c) ≡ lesser (lesser a b) c
lesser_assoc None b c = refl
lesser_assoc (Some a) None c = refl
lesser_assoc (Some a) (Some b) None = refl
lesser_assoc (Some a) (Some b) (Some c) = ap (λ n. Some n) (min_assoc a b c)

lesser_none : (a : Option ℕ) → lesser a None ≡ a
lesser_none None = refl
lesser_none (Some a) = refl

onto_append : (found : List ScriptLine) (x : Option ScriptLine) (xs : List ScriptLine) → found ++ onto x xs ≡ (found ++ onto x []) ++ xs
onto_append found None xs = ap (λ front. front ++ xs) (sym (append-nil found))
onto_append found (Some x) xs = sym (append_assoc found (x ∷ []) xs)

-- two front elements, and what is behind them
head_of : {A : Type 0} (x y : A) (xs ys : List A) → x ∷ xs ≡ y ∷ ys → x ≡ y
head_of x y xs ys same = cc

rest_of : {A : Type 0} (x y : A) (xs ys : List A) → x ∷ xs ≡ y ∷ ys → xs ≡ ys
rest_of x y xs ys same = cc

-- nothing is read yet
pub nothing_read : (version : ℕ) (lines : List Line) → AreSoFar version lines [] None lines
nothing_read version lines = record { goes_on = λ xs last given. given; only = λ given. given }

-- the first line and the others, with their values
record IsSplit (version : ℕ) (line : Line) (lines : List Line) (ys : List ScriptLine) (c : Option ℕ) : Type 0 where
  pub x : Option ScriptLine
  pub xs : List ScriptLine
  pub a : Option ℕ
  pub b : Option ℕ
  pub said : IsLine version line x a
  pub others : AreLines version lines xs b
  pub value_is : ys ≡ onto x xs
  pub breach_is : c ≡ lesser a b

split_of : (version : ℕ) (all : List Line) (ys : List ScriptLine) (c : Option ℕ) → AreLines version all ys c →
    (line : Line) (lines : List Line) → all ≡ line ∷ lines → IsSplit version line lines ys c
split_of version _ _ _ none line lines is = (let no : ⊥ = cc in absurd no)
split_of version _ _ _ (more first rest x xs a b said given) line lines is = record {
  x = x;
  xs = xs;
  a = a;
  b = b;
  said = subst (λ l. IsLine version l x a) (head_of first line rest lines is) said;
  others = subst (λ ls. AreLines version ls xs b) (rest_of first line rest lines is) given;
  value_is = refl;
  breach_is = refl;
}

others_read : (version : ℕ) (line : Line) (lines : List Line) → HaveReading version (line ∷ lines) → HaveReading version lines
others_read version line lines given =
    let parts = split_of version (line ∷ lines) given.0 given.1.0 given.1.1 line lines refl in
    (parts.xs, (parts.b, parts.others))

-- the lesser of two offsets that are small
pub lesser_within : (inner most : ℕ) (a b : Option ℕ) → ForSome a (λ at. at ≤ most) → ForSome b (λ at. at ≤ inner) → inner ≤ most → ForSome (lesser a b) (λ at. at ≤ most)
lesser_within inner most None b first second order = λ x is. (let small = second x is in omega (arith, small, order))
lesser_within inner most (Some a) None first second order = first
lesser_within inner most (Some a) (Some b) first second order = λ x is.
    (let small = first a refl in
    let same : min a b ≡ x = same_Some _ _ is in
    omega (arith, small, same))

pub kept_length : (found : List ScriptLine) (x : Option ScriptLine) → length (found ++ onto x []) ≤ length found + 1
kept_length found None = rw append-nil (omega arith)
kept_length found (Some x) = rw length-append (omega arith)

-- one line more is read
pub line_read : (version : ℕ) (lines : List Line) (found : List ScriptLine) (breach : Option ℕ) (left : List Line) (line : Line) (rest : List Line) (x : Option ScriptLine) (a : Option ℕ) →
    AreSoFar version lines found breach left → left ≡ line ∷ rest → IsLine version line x a → AreSoFar version lines (found ++ onto x []) (lesser breach a) rest
line_read version lines found breach left line rest x a so_far is said = record {
  goes_on = λ xs last given.
      (let here = subst (λ ls. AreLines version ls (onto x xs) (lesser a last)) (sym is) (more line rest x xs a last said given) in
      let whole = so_far.goes_on (onto x xs) (lesser a last) here in
      let values = subst (λ ys. AreLines version lines ys (lesser breach (lesser a last))) (onto_append found x xs) whole in
      subst (λ b. AreLines version lines ((found ++ onto x []) ++ xs) b) (lesser_assoc breach a last) values);
  only = λ given. others_read version line rest (subst (HaveReading version) is (so_far.only given));
}

-- the next line says nothing
pub line_refused : (version : ℕ) (lines : List Line) (found : List ScriptLine) (breach : Option ℕ) (left : List Line) (line : Line) (rest : List Line) →
    AreSoFar version lines found breach left → left ≡ line ∷ rest → ((x : Option ScriptLine) (a : Option ℕ) → IsLine version line x a → ⊥) →
    (xs : List ScriptLine) (last : Option ℕ) → AreLines version lines xs last → ⊥
line_refused version lines found breach left line rest so_far is refused xs last given =
    let reading = so_far.only (xs, (last, given)) in
    let parts = split_of version left reading.0 reading.1.0 reading.1.1 line rest is in
    refused parts.x parts.a parts.said

-- no line is left
pub lines_end : (version : ℕ) (lines : List Line) (found : List ScriptLine) (breach : Option ℕ) (left : List Line) →
    AreSoFar version lines found breach left → left ≡ [] → AreLines version lines found breach
lines_end version lines found breach left so_far is =
    let whole = so_far.goes_on [] None (subst (λ ls. AreLines version ls [] None) (sym is) none) in
    let values = subst (λ ys. AreLines version lines ys (lesser breach None)) (append-nil found) whole in
    subst (λ b. AreLines version lines found b) (lesser_none breach) values

-- a line that begins with `add` is of no other kind
add_no_kind : (bytes : List ℕ) → bytes_eq bytes (codes "add") ≡ true → kind_of bytes ≡ None
add_no_kind bytes is = rw ((bytes_eq-Decides bytes (codes "add")).0 is) refl

pub add_not_plain : (version number : ℕ) (line text : Part) (breach last : Option ℕ) (x : ScriptLine) → IsAdd line text → plain_line version number (fields line, breach) ≡ Some (x, last) → ⊥
unfolding plain_line
add_not_plain version number line text breach last x given read =
    let named = add_no_kind given.field.bytes given.add in
    let here = rw (given.in_order, named) at read in
    (let no : ⊥ = cc in no)

-- where the first word isn't `add`, no text stands behind `add`
pub no_add : (line text field : Part) (others : List Part) → fields line ≡ field ∷ others → bytes_eq field.bytes (codes "add") ≡ false → IsAdd line text → ⊥
no_add line text field others is other given =
    let same : field ≡ given.field = head_of field given.field others given.others (sym is ∙ given.in_order) in
    let both : false ≡ true = sym other ∙ (ap (λ f. bytes_eq f.bytes (codes "add")) same ∙ given.add) in
    (let no : ⊥ = cc in no)

-- the text behind `add` is one
same_text : (line a b : Part) → IsAdd line a → IsAdd line b → a ≡ b
same_text line a b one two =
    let same : one.field ≡ two.field = head_of one.field two.field one.others two.others (sym one.in_order ∙ two.in_order) in
    one.behind_is ∙ (ap (λ f. behind line f) same ∙ sym two.behind_is)

same_command : (line a b : Part) (x y : Answer SdcCommand) → IsAdd line a → IsAdd line b → HasCommand a.bytes x → HasCommand b.bytes y → x ≡ y
same_command line a b x y one two read other =
    one_command_of a.bytes x y read (subst (λ (t : Part). HasCommand t.bytes y) (sym (same_text line a b one two)) other)

-- a text that is refused, but not for a number
pub no_command : (text : Part) (fault : SdcFault) → refusal_of fault ≡ refusal.Other →
    ((answer : Answer SdcCommand) → HasCommand text.bytes answer → Unless {X = SdcCommand} (Err fault) (Err fault ≡ answer)) → IsNoCommand text
no_command text (SdcSyntax at) is exact = record {
  unread = λ command has. (let same = exact (Ok command) has in let no : ⊥ = cc in no);
  in_range = λ place has. (let same = exact (Err (ValueOf place)) has in let no : ⊥ = cc in no);
}
no_command text (UnknownCommand name at) is exact = record {
  unread = λ command has. (let same = exact (Ok command) has in let no : ⊥ = cc in no);
  in_range = λ place has. (let same = exact (Err (ValueOf place)) has in let no : ⊥ = cc in no);
}
no_command text (UnknownOption name at) is exact = record {
  unread = λ command has. (let same = exact (Ok command) has in let no : ⊥ = cc in no);
  in_range = λ place has. (let same = exact (Err (ValueOf place)) has in let no : ⊥ = cc in no);
}
no_command text (ValueOf at) is exact = (let no : ⊥ = cc in absurd no)
no_command text SdcNoMemory is exact = (let no : ⊥ = cc in absurd no)

-- a text that is refused for a number
pub value_refused : (text : List ℕ) (fault : SdcFault) (at : ℕ) → refusal_of fault ≡ refusal.OutOfRange at → IsCommandAnswer text (Err fault) → HasCommand text (Err (ValueOf at))
value_refused text (ValueOf place) at is given =
    let same : place ≡ at = cc in
    subst (λ n. HasCommand text (Err (ValueOf n))) same given
value_refused text (SdcSyntax place) at is given = (let no : ⊥ = cc in absurd no)
value_refused text (UnknownCommand name place) at is given = (let no : ⊥ = cc in absurd no)
value_refused text (UnknownOption name place) at is given = (let no : ⊥ = cc in absurd no)
value_refused text SdcNoMemory at is given = (let no : ⊥ = cc in absurd no)

-- a line `add` whose text is no command
added_none : (version : ℕ) (line : Line) (text : Part) → IsAdd line.part text → IsNoCommand text → (x : Option ScriptLine) (a : Option ℕ) → IsLine version line x a → ⊥
added_none version line text is given _ _ (plain x a read) = add_not_plain version line.number line.part text None a x is read
added_none version line text is given _ _ (add other command also reads) =
    given.unread command (subst (λ (t : Part). HasCommand t.bytes (Ok command)) (same_text line.part other text also is) reads)
added_none version line text is given _ _ (out_of_range other at also reads) =
    given.in_range at (subst (λ (t : Part). HasCommand t.bytes (Err (ValueOf at))) (same_text line.part other text also is) reads)

pub added_refused : (version : ℕ) (line : Line) (text : Part) (fault : TextFault) → IsAdd line.part text → IsAddedAnswer text (Err fault) → IsLineAnswer version line (Err fault)
added_refused version line text (Syntax at) is given = added_none version line text is given
added_refused version line text (Value at) is never = never
added_refused version line text NoMemory is given = tt

-- one whose command has a number out of its range
pub added_breached : (version : ℕ) (line : Line) (text : Part) (at : ℕ) → IsAdd line.part text →
    ((inside : ℕ) × (HasCommand text.bytes (Err (ValueOf inside)) × (at ≡ text.at + inside))) → IsLine version line None (Some at)
added_breached version line text at is given =
    subst (λ n. IsLine version line None (Some n)) (sym given.1.1) (out_of_range text given.0 is given.1.0)

-- a line without a field says nothing
pub nothing_said : (version : ℕ) (line : Line) → fields line.part ≡ [] → (x : Option ScriptLine) (a : Option ℕ) → IsLine version line x a → ⊥
unfolding plain_line
nothing_said version line is _ _ (plain x a read) =
    let here = rw is at read in
    (let no : ⊥ = cc in no)
nothing_said version line is _ _ (add text command given reads) =
    let both = sym is ∙ given.in_order in
    (let no : ⊥ = cc in no)
nothing_said version line is _ _ (out_of_range text at given reads) =
    let both = sym is ∙ given.in_order in
    (let no : ⊥ = cc in no)

-- nor one that is of no kind
other_none : (version : ℕ) (line : Line) (field : Part) (others : List Part) → fields line.part ≡ field ∷ others → bytes_eq field.bytes (codes "add") ≡ false →
    plain_line version line.number (fields line.part, None) ≡ None → (x : Option ScriptLine) (a : Option ℕ) → IsLine version line x a → ⊥
other_none version line field others is apart unread _ _ (plain x a read) = (let both = sym unread ∙ read in let no : ⊥ = cc in no)
other_none version line field others is apart unread _ _ (add text command given reads) = no_add line.part text field others is apart given
other_none version line field others is apart unread _ _ (out_of_range text at given reads) = no_add line.part text field others is apart given

pub other_refused : (version : ℕ) (line : Line) (field : Part) (others : List Part) (fault : TextFault) → fields line.part ≡ field ∷ others → bytes_eq field.bytes (codes "add") ≡ false →
    FailsText fault (plain_line version line.number (fields line.part, None)) → IsLineAnswer version line (Err fault)
other_refused version line field others (Syntax at) is apart unread = other_none version line field others is apart unread
other_refused version line field others (Value at) is apart never = never
other_refused version line field others NoMemory is apart given = tt

abbrev AreSame : Option ScriptLine → Option ℕ → Option ScriptLine → Option ℕ → Type 0
AreSame x a y b = (x ≡ y) × (a ≡ b)

-- a line says one thing
line_once : (version : ℕ) (line : Line) (x y : Option ScriptLine) (a b : Option ℕ) → IsLine version line x a → IsLine version line y b → AreSame x a y b
line_once version line _ _ _ _ (plain x a read) (plain y b other) =
    let same = same_value (plain_line version line.number (fields line.part, None)) (x, a) (y, b) read other in
    (ap (λ r. Some r.0) same, ap (λ r. r.1) same)
line_once version line _ _ _ _ (plain x a read) (add text command is reads) = absurd (add_not_plain version line.number line.part text None a x is read)
line_once version line _ _ _ _ (plain x a read) (out_of_range text at is reads) = absurd (add_not_plain version line.number line.part text None a x is read)
line_once version line _ _ _ _ (add text command is reads) (plain y b read) = absurd (add_not_plain version line.number line.part text None b y is read)
line_once version line _ _ _ _ (add text command is reads) (add other second also read) =
    let same = same_command line.part text other (Ok command) (Ok second) is also reads read in
    let one : command ≡ second = cc in
    (ap (λ c. Some (script.Change line.number (edit.Add c))) one, refl)
line_once version line _ _ _ _ (add text command is reads) (out_of_range other at also read) =
    let same = same_command line.part text other (Ok command) (Err (ValueOf at)) is also reads read in
    (let no : ⊥ = cc in absurd no)
line_once version line _ _ _ _ (out_of_range text at is reads) (plain y b read) = absurd (add_not_plain version line.number line.part text None b y is read)
line_once version line _ _ _ _ (out_of_range text at is reads) (add other second also read) =
    let same = same_command line.part text other (Err (ValueOf at)) (Ok second) is also reads read in
    (let no : ⊥ = cc in absurd no)
line_once version line _ _ _ _ (out_of_range text at is reads) (out_of_range other place also read) =
    let same = same_command line.part text other (Err (ValueOf at)) (Err (ValueOf place)) is also reads read in
    let one : at ≡ place = cc in
    let texts = same_text line.part text other is also in
    (refl, ap (λ n. Some (text.at + n)) one ∙ ap (λ (t : Part). Some (t.at + place)) texts)

abbrev AreSameLines : List ScriptLine → Option ℕ → List ScriptLine → Option ℕ → Type 0
AreSameLines xs a ys b = (xs ≡ ys) × (a ≡ b)

no_lines : (version : ℕ) (lines : List Line) (ys : List ScriptLine) (c : Option ℕ) → AreLines version lines ys c → lines ≡ [] → AreSameLines [] None ys c
no_lines version _ _ _ none is = (refl, refl)
no_lines version _ _ _ (more first rest x xs a b said given) is = (let no : ⊥ = cc in absurd no)

lines_once : (version : ℕ) (lines : List Line) (xs ys : List ScriptLine) (b c : Option ℕ) → AreLines version lines xs b → AreLines version lines ys c → AreSameLines xs b ys c
lines_once version _ _ ys _ c none second = no_lines version [] ys c second refl
lines_once version _ _ ys _ c (more line lines x xs a b said given) second =
    let parts = split_of version (line ∷ lines) ys c second line lines refl in
    let first = line_once version line x parts.x a parts.a said parts.said in
    let others = lines_once version lines xs parts.xs b parts.b given parts.others in (
      ap (λ y. onto y xs) first.0 ∙ (ap (λ zs. onto parts.x zs) others.0 ∙ sym parts.value_is),
      ap (λ y. lesser y b) first.1 ∙ (ap (λ y. lesser parts.a y) others.1 ∙ sym parts.breach_is),
    )

-- lines are one script, with one least breach
pub one_reading : (lines : List Line) (xs ys : List ScriptLine) (b c : Option ℕ) → IsScript lines xs b → IsScript lines ys c → (xs ≡ ys) × (b ≡ c)
one_reading lines xs ys b c first second =
    let same = sym first.in_order ∙ second.in_order in
    let headers = head_of first.header second.header first.others second.others same in
    let others = rest_of first.header second.header first.others second.others same in
    let header : header_of (fields first.header.part) ≡ Some second.edits = subst (λ (l : Line). header_of (fields l.part) ≡ Some second.edits) (sym headers) second.is_header in
    let versions = same_value (header_of (fields first.header.part)) first.edits second.edits first.is_header header in
    let lines_here = subst (λ n. AreLines n second.others ys c) (sym versions) second.are_lines in
    lines_once first.edits first.others xs ys b c first.are_lines (subst (λ ls. AreLines first.edits ls ys c) (sym others) lines_here)

-- a text without a line isn't a script
pub no_script : (text : List ℕ) → lines_of text ≡ [] → IsMalformed text
no_script text is xs breach given =
    let both = sym is ∙ given.in_order in
    (let no : ⊥ = cc in no)

-- nor is one whose first line is no header
pub no_header : (text : List ℕ) (first : Line) (others : List Line) → lines_of text ≡ first ∷ others → header_of (fields first.part) ≡ None → IsMalformed text
no_header text first others is missing xs breach given =
    let same = head_of first given.header others given.others (sym is ∙ given.in_order) in
    let both : None ≡ Some given.edits = sym missing ∙ (ap (λ (l : Line). header_of (fields l.part)) same ∙ given.is_header) in
    (let no : ⊥ = cc in no)

-- a header, and lines
pub loosely_read : (text : List ℕ) (first : Line) (others : List Line) (version : ℕ) (r : Result (List ScriptLine × Option ℕ) TextFault) →
    lines_of text ≡ first ∷ others → header_of (fields first.part) ≡ Some version → AreLinesAnswer version others r → IsLooseAnswer text r
loosely_read text first others version (Ok r) is header given =
    record { header = first; others = others; in_order = is; edits = version; is_header = header; are_lines = given }
loosely_read text first others version (Err (Syntax at)) is header refused = λ xs breach given.
    (let same = sym is ∙ given.in_order in
    let headers = head_of first given.header others given.others same in
    let lines = rest_of first given.header others given.others same in
    let here : header_of (fields first.part) ≡ Some given.edits = subst (λ (l : Line). header_of (fields l.part) ≡ Some given.edits) (sym headers) given.is_header in
    let versions = same_value (header_of (fields first.part)) version given.edits header here in
    let lines_here = subst (λ n. AreLines n given.others xs breach) (sym versions) given.are_lines in
    refused xs breach (subst (λ ls. AreLines version ls xs breach) (sym lines) lines_here))
loosely_read text first others version (Err (Value at)) is header never = never
loosely_read text first others version (Err NoMemory) is header given = tt

-- a fault of reading is the answer that it names
pub refused : (text : List ℕ) (fault : TextFault) → IsLooseAnswer text (Err fault) → IsReadAnswer text (Err fault)
refused text (Syntax at) given = given
refused text (Value at) never = absurd never
refused text NoMemory given = tt

-- the answer to a text in the grammar
pub answer_reads : (text : List ℕ) (p : List ScriptLine) (r : Result (List ScriptLine) TextFault) → IsReadAnswer text r → Reads text p → UnlessMemory r (r ≡ Ok p)
answer_reads text p (Ok q) given reads = ap (λ value. Ok value) (one_reading (lines_of text) q p None None given reads).0
answer_reads text p (Err (Syntax at)) given reads = absurd (given p None reads)
answer_reads text p (Err (Value at)) given reads = (let same = (one_reading (lines_of text) given.0 p (Some at) None given.1 reads).1 in cc)
answer_reads text p (Err NoMemory) given reads = tt

-- the answer to a text with a number out of its range
pub answer_breached : (text : List ℕ) (at : ℕ) (r : Result (List ScriptLine) TextFault) → IsReadAnswer text r → IsBreached text at → UnlessMemory r (r ≡ Err (Value at))
answer_breached text at (Ok q) given breached = (let same = (one_reading (lines_of text) q breached.0 None (Some at) given breached.1).1 in cc)
answer_breached text at (Err (Syntax _)) given breached = absurd (given breached.0 (Some at) breached.1)
answer_breached text at (Err (Value other)) given breached = (let same = (one_reading (lines_of text) given.0 breached.0 (Some other) (Some at) given.1 breached.1).1 in cc)
answer_breached text at (Err NoMemory) given breached = tt

-- the answer to a text of another form
pub answer_malformed : (text : List ℕ) (r : Result (List ScriptLine) TextFault) → IsReadAnswer text r → IsMalformed text → UnlessMemory r (IsSyntax r)
answer_malformed text (Ok q) given malformed = absurd (malformed q None given)
answer_malformed text (Err (Syntax _)) given malformed = tt
answer_malformed text (Err (Value at)) given malformed = absurd (malformed given.0 (Some at) given.1)
answer_malformed text (Err NoMemory) given malformed = tt
