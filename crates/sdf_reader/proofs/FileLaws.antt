-- A text has one reading, and the answer to it.
use Rattle.std.proofs.Common.{◌≡◌, ℕ, ◌≤◌, Option, Some, None, Result, Ok, Err, List, length, sym, ap, ◌∙◌}
use Rattle.std.proofs.lemmas.Option.{same_Some}
use Rattle.text_scan.proofs.Binds.{same_value}
use Rattle.bud_syntax.specs.declared.delays.SdfFile.{SdfFile}
use Rattle.line_text.specs.Parts.{Part}
use Rattle.sdf_lex.specs.Tokens.{tokens_of}
use Rattle.sdf_reader.specs.LeftOut.{first_left_out}
use Rattle.sdf_reader.specs.Files.{file, IsFile, Reads, IsBreached, IsMalformed, IsLeftOut}
use Rattle.sdf_reader.specs.Answers.{IsReadAnswer, UnlessMemory, IsSyntax, IsRefusal}
use Rattle.sdf_reader.specs.declared.faults.SdfFault.{SdfFault}
use Rattle.sdf_reader.specs.declared.faults.SdfFault.TheVariants.{Syntax, Unsupported, Value, NoMemory}

pub one_reading : (text : List ℕ) (a b : SdfFile) (x y : Option ℕ) → IsFile text a x → IsFile text b y → (a ≡ b) × (x ≡ y)
one_reading text a b x y first second =
    let same = same_value (file (tokens_of text, None)) (a, x) (b, y) first second in
    (ap (λ r. r.0) same, ap (λ r. r.1) same)

pub not_file : (text : List ℕ) → file (tokens_of text, None) ≡ None → IsMalformed text
not_file text none value breach given = cc

-- a text of another form, refused
pub refused : (text : List ℕ) (place : ℕ) (fault : SdfFault) → file (tokens_of text, None) ≡ None → place ≤ length text → IsRefusal text place fault → IsReadAnswer text (Err fault)
refused text place (Syntax at) none within given = (not_file text none, given.0, rw given.1 within)
refused text place (Unsupported word at) none within given = (not_file text none, given)
refused text place (Value at) none within given = absurd given
refused text place NoMemory none within given = tt

-- the answer to a text in the grammar
pub answer_reads : (text : List ℕ) (value : SdfFile) (r : Result SdfFile SdfFault) → IsReadAnswer text r → Reads text value → UnlessMemory r (r ≡ Ok value)
answer_reads text value (Ok other) given reads = ap (λ v. Ok v) (one_reading text other value None None given reads).0
answer_reads text value (Err (Syntax _)) given reads = absurd (given.0 value None reads)
answer_reads text value (Err (Unsupported _ _)) given reads = absurd (given.0 value None reads)
answer_reads text value (Err (Value at)) given reads = (let same = (one_reading text given.0 value (Some at) None given.1 reads).1 in cc)
answer_reads text value (Err NoMemory) given reads = tt

-- the answer to a text with a number out of its range
pub answer_breached : (text : List ℕ) (at : ℕ) (r : Result SdfFile SdfFault) → IsReadAnswer text r → IsBreached text at → UnlessMemory r (r ≡ Err (Value at))
answer_breached text at (Ok other) given breached = (let same = (one_reading text other breached.0 None (Some at) given breached.1).1 in cc)
answer_breached text at (Err (Syntax _)) given breached = absurd (given.0 breached.0 (Some at) breached.1)
answer_breached text at (Err (Unsupported _ _)) given breached = absurd (given.0 breached.0 (Some at) breached.1)
answer_breached text at (Err (Value other)) given breached =
    ap (λ n. Err (Value n)) (same_Some other at (one_reading text given.0 breached.0 (Some other) (Some at) given.1 breached.1).1)
answer_breached text at (Err NoMemory) given breached = tt

one_left_out : (text word other : List ℕ) (at place : ℕ) → IsLeftOut text word at → IsLeftOut text other place → (word ≡ other) × (at ≡ place)
one_left_out text word other at place first second =
    let same : first.0 ≡ second.0 = same_value (first_left_out (tokens_of text)) first.0 second.0 first.1.0 second.1.0 in
    (sym first.1.1 ∙ ap (λ t. t.bytes) same ∙ second.1.1, sym first.1.2 ∙ ap (λ t. t.at) same ∙ second.1.2)

-- the answer to a text of another form, in which something is left out
pub answer_left_out : (text word : List ℕ) (at : ℕ) (r : Result SdfFile SdfFault) → IsReadAnswer text r → IsMalformed text → IsLeftOut text word at → UnlessMemory r (r ≡ Err (Unsupported word at))
answer_left_out text word at (Ok other) given malformed out = absurd (malformed other None given)
answer_left_out text word at (Err (Syntax _)) given malformed out = (let none = given.1 in let some = out.1.0 in absurd (cc))
answer_left_out text word at (Err (Unsupported w place)) given malformed out =
    let same = one_left_out text w word place at given.1 out in
    ap (λ n. Err (Unsupported w n)) same.1 ∙ ap (λ v. Err (Unsupported v at)) same.0
answer_left_out text word at (Err (Value place)) given malformed out = absurd (malformed given.0 (Some place) given.1)
answer_left_out text word at (Err NoMemory) given malformed out = tt

-- the answer to a text of another form, in which nothing is left out
pub answer_malformed : (text : List ℕ) (r : Result SdfFile SdfFault) → IsReadAnswer text r → IsMalformed text → first_left_out (tokens_of text) ≡ None → UnlessMemory r (IsSyntax r)
answer_malformed text (Ok other) given malformed none = absurd (malformed other None given)
answer_malformed text (Err (Syntax _)) given malformed none = tt
answer_malformed text (Err (Unsupported w place)) given malformed none = (let some = given.1.1.0 in absurd (cc))
answer_malformed text (Err (Value place)) given malformed none = absurd (malformed given.0 (Some place) given.1)
answer_malformed text (Err NoMemory) given malformed none = tt

abbrev pub part_at : ℕ → List ℕ → Part
part_at at bytes = record { at = at; bytes = bytes }

-- a span that is a whole text
pub whole_part : (at : ℕ) (bytes text : List ℕ) → at ≡ 0 → bytes ≡ text → part_at at bytes ≡ part_at 0 text
whole_part at bytes text at_is bytes_is = (λ i. record { at = at_is i; bytes = bytes_is i })
