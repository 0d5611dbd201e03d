-- What is read is in the grammar, and all that is in the grammar is read.
use Rattle.std.proofs.Common.{◌≡◌, ℕ, false, Option, Some, None, Result, Ok, Err, List, [], ◌∷◌, ◌++◌, refl, ap, ◌∙◌, subst, codes}
use Rattle.std.proofs.lemmas.Option.{same_Some}
use Rattle.std.specs.Str.{bytes_eq}
use Rattle.text_scan.specs.Left.{Left, end_of}
use Rattle.text_scan.proofs.Binds.{step, same_value}
use Rattle.line_text.specs.Parts.{Row, rows_of}
use Rattle.line_text.specs.Answers.{FailsText, UnlessMemory, IsSyntax}
use Rattle.line_text.specs.Lines.{titled, line, section, Each}
use Rattle.line_text.specs.Lines.Each.{none, more}
use Rattle.line_text.proofs.SectionLaws.{section_sound, section_complete, each_apart, all_apart, line_sound, line_complete, end_sound}
use Rattle.cert_text.proofs.HeaderLaws.{header_sound, header_complete}
use Rattle.cert_text.specs.Lines as lines
use Rattle.cert_text.specs.Texts.{IsHeader, IsCertificate, Reads, IsBreached, IsMalformed, IsReadAnswer}
use Rattle.cert_text.specs.Reading.{header, front, back, certificate}
use Rattle.cert_text.specs.declared.certs.Cert.{Cert}
use Rattle.cert_text.specs.declared.reader.Front.{Front}
use Rattle.cert_text.specs.declared.reader.Back.{Back}
use Rattle.bud_base.specs.declared.texts.TextFault.{TextFault}
use Rattle.bud_base.specs.declared.texts.TextFault.TheVariants.{Syntax, Value, NoMemory}

-- rows up to the items, and the rows behind them
record IsFront (rows : List Row) (f : Front) (rest : List Row) (after : Option ℕ) : Type 0 where
  header : List Row
  classes : List Row
  nodes : List Row
  items : List Row
  in_order : rows ≡ header ++ (classes ++ (nodes ++ (items ++ rest)))
  before_classes : Option ℕ
  before_nodes : Option ℕ
  before_items : Option ℕ
  is_header : IsHeader header f.policy before_classes
  are_classes : Each (titled (codes "class") lines.class) classes before_classes f.classes before_nodes
  are_nodes : Each (titled (codes "node") lines.node) nodes before_nodes f.nodes before_items
  are_items : Each (titled (codes "item") lines.item) items before_items f.items after

-- rows from the starts on
record IsBack (rows : List Row) (before : Option ℕ) (k : Back) (after : Option ℕ) : Type 0 where
  starts : List Row
  ends : List Row
  weight : Row
  in_order : rows ≡ starts ++ (ends ++ weight ∷ [])
  before_ends : Option ℕ
  before_weight : Option ℕ
  are_starts : Each (titled (codes "start") lines.flow) starts before k.starts before_ends
  are_ends : Each (titled (codes "end") lines.flow) ends before_ends k.ends before_weight
  is_weight : titled (codes "weight") lines.weight (weight, before_weight) ≡ Some (k.weight, after)

-- ---- what is read is in the grammar
front_sound : (rows : List Row) (f : Front) (rest : List Row) (b : Option ℕ) → front (rows, None) ≡ Some (f, (rest, b)) → IsFront rows f rest b
unfolding front
front_sound rows f rest b read =
    let P : Front × Left Row → Type 0 = λ r. IsFront rows r.0 r.1.0 r.1.1 in
    step (header (rows, None)) _ _ read (λ policy is_policy behind1.
    step (section (codes "class") lines.class policy.1.0 policy.1.1) _ _ behind1 (λ classes are_classes behind2.
    step (section (codes "node") lines.node classes.1.0 classes.1.1) _ _ behind2 (λ nodes are_nodes behind3.
    step (section (codes "item") lines.item nodes.1.0 nodes.1.1) _ _ behind3 (λ items are_items whole.
    let h1 = header_sound rows policy.0 policy.1.0 policy.1.1 is_policy in
    let s2 = section_sound (codes "class") lines.class policy.1.0 policy.1.1 classes.0 classes.1.0 classes.1.1 are_classes in
    let s3 = section_sound (codes "node") lines.node classes.1.0 classes.1.1 nodes.0 nodes.1.0 nodes.1.1 are_nodes in
    let s4 = section_sound (codes "item") lines.item nodes.1.0 nodes.1.1 items.0 items.1.0 items.1.1 are_items in
    subst P (same_Some _ _ whole) (record {
      header = h1.front;
      classes = s2.rows;
      nodes = s3.rows;
      items = s4.rows;
      in_order = h1.in_order ∙ ap (λ r. h1.front ++ r) (s2.front ∙ ap (λ r. s2.rows ++ r) (s3.front ∙ ap (λ r. s3.rows ++ r) s4.front));
      before_classes = policy.1.1;
      before_nodes = classes.1.1;
      before_items = nodes.1.1;
      is_header = h1.is_header;
      are_classes = s2.each;
      are_nodes = s3.each;
      are_items = s4.each;
    })))))

back_sound : (rows : List Row) (a : Option ℕ) (k : Back) (b : Option ℕ) → back (rows, a) ≡ Some (k, b) → IsBack rows a k b
unfolding back
back_sound rows a k b read =
    let P : Back × Option ℕ → Type 0 = λ r. IsBack rows a r.0 r.1 in
    step (section (codes "start") lines.flow rows a) _ _ read (λ starts are_starts behind1.
    step (section (codes "end") lines.flow starts.1.0 starts.1.1) _ _ behind1 (λ ends are_ends behind2.
    step (line (titled (codes "weight") lines.weight) ends.1) _ _ behind2 (λ weight is_weight behind3.
    step (end_of weight.1) _ _ behind3 (λ breach is_breach whole.
    let s1 = section_sound (codes "start") lines.flow rows a starts.0 starts.1.0 starts.1.1 are_starts in
    let s2 = section_sound (codes "end") lines.flow starts.1.0 starts.1.1 ends.0 ends.1.0 ends.1.1 are_ends in
    let l3 = line_sound (titled (codes "weight") lines.weight) ends.1.0 ends.1.1 weight.0 weight.1.0 weight.1.1 is_weight in
    let last = end_sound weight.1.0 weight.1.1 breach is_breach in
    let Q : Option ℕ → Type 0 = λ o. titled (codes "weight") lines.weight (l3.row, ends.1.1) ≡ Some (weight.0, o) in
    subst P (same_Some _ _ whole) (record {
      starts = s1.rows;
      ends = s2.rows;
      weight = l3.row;
      in_order = s1.front ∙ ap (λ r. s1.rows ++ r) (s2.front ∙ ap (λ r. s2.rows ++ r) (l3.front ∙ ap (λ r. l3.row ∷ r) last.0));
      before_ends = starts.1.1;
      before_weight = ends.1.1;
      are_starts = s1.each;
      are_ends = s2.each;
      is_weight = subst Q last.1 l3.read;
    })))))

-- the two parts make a certificate
together : (rows rest : List Row) (f : Front) (k : Back) (a b : Option ℕ) → IsFront rows f rest a → IsBack rest a k b
    → IsCertificate rows (record { policy = f.policy; classes = f.classes; nodes = f.nodes; items = f.items; starts = k.starts; ends = k.ends; weight = k.weight }) b
together rows rest f k a b first last = record {
  header = first.header;
  classes = first.classes;
  nodes = first.nodes;
  items = first.items;
  starts = last.starts;
  ends = last.ends;
  weight = last.weight;
  in_order = first.in_order ∙ ap (λ r. first.header ++ (first.classes ++ (first.nodes ++ (first.items ++ r)))) last.in_order;
  before_classes = first.before_classes;
  before_nodes = first.before_nodes;
  before_items = first.before_items;
  before_starts = a;
  before_ends = last.before_ends;
  before_weight = last.before_weight;
  is_header = first.is_header;
  are_classes = first.are_classes;
  are_nodes = first.are_nodes;
  are_items = first.are_items;
  are_starts = last.are_starts;
  are_ends = last.are_ends;
  is_weight = last.is_weight;
}

pub certificate_sound : (rows : List Row) (cert : Cert) (b : Option ℕ) → certificate (rows, None) ≡ Some (cert, b) → IsCertificate rows cert b
unfolding certificate
certificate_sound rows cert b read =
    let P : Cert × Option ℕ → Type 0 = λ r. IsCertificate rows r.0 r.1 in
    step (front (rows, None)) _ _ read (λ first is_first behind.
    step (back first.1) _ _ behind (λ last is_last whole.
    subst P (same_Some _ _ whole)
    (together rows first.1.0 first.0 last.0 first.1.1 last.1 (front_sound rows first.0 first.1.0 first.1.1 is_first) (back_sound first.1.0 first.1.1 last.0 last.1 is_last))))

-- ---- all that is in the grammar is read
pub certificate_complete : (rows : List Row) (cert : Cert) (b : Option ℕ) → IsCertificate rows cert b → certificate (rows, None) ≡ Some (cert, b)
unfolding certificate front back
certificate_complete rows cert b given =
    let weight_apart = λ (other : List ℕ) (apart : bytes_eq (codes "weight") other ≡ false).
    all_apart (codes "weight") other lines.weight (given.weight ∷ []) given.before_weight b (cert.weight ∷ []) (more given.weight [] cert.weight [] given.before_weight b b given.is_weight (none b)) apart in
    let ends_apart = λ (other : List ℕ) (apart : bytes_eq (codes "end") other ≡ false) (others : bytes_eq (codes "weight") other ≡ false).
    each_apart (codes "end") other lines.flow given.ends (given.weight ∷ []) given.before_ends given.before_weight cert.ends given.are_ends apart (weight_apart other others) in
    let starts_apart = λ (other : List ℕ) (apart : bytes_eq (codes "start") other ≡ false) (end : bytes_eq (codes "end") other ≡ false) (others : bytes_eq (codes "weight") other ≡ false).
    each_apart (codes "start") other lines.flow given.starts (given.ends ++ given.weight ∷ []) given.before_starts given.before_ends cert.starts given.are_starts apart (ends_apart other end others) in
    let items_apart = λ (other : List ℕ) (apart : bytes_eq (codes "item") other ≡ false) (start : bytes_eq (codes "start") other ≡ false) (end : bytes_eq (codes "end") other ≡ false) (others : bytes_eq (codes "weight") other ≡ false).
    each_apart (codes "item") other lines.item given.items (given.starts ++ (given.ends ++ given.weight ∷ [])) given.before_items given.before_starts cert.items given.are_items apart (starts_apart other start end others) in
    let nodes_apart =
    each_apart (codes "node") (codes "class") lines.node given.nodes (given.items ++ (given.starts ++ (given.ends ++ given.weight ∷ []))) given.before_nodes given.before_items cert.nodes given.are_nodes refl (items_apart (codes "class") refl refl refl refl) in
    rw (
      given.in_order,
      header_complete given.header cert.policy (given.classes ++ (given.nodes ++ (given.items ++ (given.starts ++ (given.ends ++ given.weight ∷ []))))) given.before_classes given.is_header,
      section_complete (codes "class") lines.class given.classes (given.nodes ++ (given.items ++ (given.starts ++ (given.ends ++ given.weight ∷ [])))) given.before_classes given.before_nodes cert.classes given.are_classes nodes_apart,
      section_complete (codes "node") lines.node given.nodes (given.items ++ (given.starts ++ (given.ends ++ given.weight ∷ []))) given.before_nodes given.before_items cert.nodes given.are_nodes (items_apart (codes "node") refl refl refl refl),
      section_complete (codes "item") lines.item given.items (given.starts ++ (given.ends ++ given.weight ∷ [])) given.before_items given.before_starts cert.items given.are_items (starts_apart (codes "item") refl refl refl),
      section_complete (codes "start") lines.flow given.starts (given.ends ++ given.weight ∷ []) given.before_starts given.before_ends cert.starts given.are_starts (ends_apart (codes "start") refl refl),
      section_complete (codes "end") lines.flow given.ends (given.weight ∷ []) given.before_ends given.before_weight cert.ends given.are_ends (weight_apart (codes "end") refl),
      line_complete (titled (codes "weight") lines.weight) given.weight [] given.before_weight b cert.weight given.is_weight,
    ) refl

-- ---- answers
-- a text has one reading
pub one_reading : (rows : List Row) (p q : Cert) (b c : Option ℕ) → IsCertificate rows p b → IsCertificate rows q c → (p ≡ q) × (b ≡ c)
one_reading rows p q b c first second =
    let same = same_value (certificate (rows, None)) (p, b) (q, c) (certificate_complete rows p b first) (certificate_complete rows q c second) in
    (ap (λ r. r.0) same, ap (λ r. r.1) same)

-- a fault of reading is the answer that it names
pub refused : (text : List ℕ) (fault : TextFault) → FailsText fault (certificate (rows_of text, None)) → IsReadAnswer text (Err fault)
refused text (Syntax at) unread = λ p breach given. (let read = certificate_complete (rows_of text) p breach given in cc)
refused text (Value at) never = absurd never
refused text NoMemory _ = tt

-- the answer to a text in the grammar
pub answer_reads : (text : List ℕ) (p : Cert) (r : Result Cert TextFault) → IsReadAnswer text r → Reads text p → UnlessMemory r (r ≡ Ok p)
answer_reads text p (Ok q) given reads = ap (λ value. Ok value) (one_reading (rows_of text) q p None None given reads).0
answer_reads text p (Err (Syntax at)) given reads = absurd (given p None reads)
answer_reads text p (Err (Value at)) given reads = (let same = (one_reading (rows_of text) given.0 p (Some at) None given.1 reads).1 in cc)
answer_reads text p (Err NoMemory) given reads = tt

-- the answer to a text with a number out of its range
pub answer_breached : (text : List ℕ) (at : ℕ) (r : Result Cert TextFault) → IsReadAnswer text r → IsBreached text at → UnlessMemory r (r ≡ Err (Value at))
answer_breached text at (Ok q) given breached = (let same = (one_reading (rows_of text) q breached.0 None (Some at) given breached.1).1 in cc)
answer_breached text at (Err (Syntax _)) given breached = absurd (given breached.0 (Some at) breached.1)
answer_breached text at (Err (Value other)) given breached = (let same = (one_reading (rows_of text) given.0 breached.0 (Some other) (Some at) given.1 breached.1).1 in cc)
answer_breached text at (Err NoMemory) given breached = tt

-- the answer to a text of another form
pub answer_malformed : (text : List ℕ) (r : Result Cert TextFault) → IsReadAnswer text r → IsMalformed text → UnlessMemory r (IsSyntax r)
answer_malformed text (Ok q) given malformed = absurd (malformed q None given)
answer_malformed text (Err (Syntax _)) given malformed = tt
answer_malformed text (Err (Value at)) given malformed = absurd (malformed given.0 (Some at) given.1)
answer_malformed text (Err NoMemory) given malformed = tt
