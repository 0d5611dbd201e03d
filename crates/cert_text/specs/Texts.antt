-- Certificate texts: what is in the grammar, with which value, and what a reader of them answers.
use Rattle.std.specs.Prelude.{◌≡◌, ℕ, ◌≤◌, List, [], ◌∷◌, ◌++◌, length, Option, Some, None, Result, Ok, Err, codes}
use Rattle.line_text.specs.Parts.{Row, rows_of}
use Rattle.line_text.specs.Lines.{titled, Each}
use Rattle.cert_text.specs.Lines as lines
use Rattle.cert_text.specs.declared.certs.Cert.{Cert}
use Rattle.bud_base.specs.declared.texts.TextFault.{TextFault}
use Rattle.bud_base.specs.declared.texts.TextFault.TheVariants.{Syntax, Value, NoMemory}

-- the first rows: `certificate 1`, or `certificate 2` and then `policy 2`; the version, and the least breach
pub data IsHeader : List Row → ℕ → Option ℕ → Type 0 where
  first : (version : Row) (breach : Option ℕ) → titled (codes "certificate") lines.version (version, None) ≡ Some (1, breach) → IsHeader (version ∷ []) 1 breach
  second : (version policy : Row) (middle breach : Option ℕ) → titled (codes "certificate") lines.version (version, None) ≡ Some (2, middle)
      → titled (codes "policy") lines.policy (policy, middle) ≡ Some (tt, breach) → IsHeader (version ∷ policy ∷ []) 2 breach

-- The rows are a certificate text in the loose form, in which numbers may be of any size: the version, then
-- classes, nodes, items, starts and ends, and last the line `weight W`. Where all numbers are in their ranges, `breach`
-- is None and the value is the certificate; else it is the least offset of a number that isn't, and in the value the
-- least of the range stands for such a number.
pub record IsCertificate (rows : List Row) (cert : Cert) (breach : Option ℕ) : Type 0 where
  pub header : List Row
  pub classes : List Row
  pub nodes : List Row
  pub items : List Row
  pub starts : List Row
  pub ends : List Row
  pub weight : Row
  pub in_order : rows ≡ header ++ (classes ++ (nodes ++ (items ++ (starts ++ (ends ++ weight ∷ [])))))
  pub before_classes : Option ℕ
  pub before_nodes : Option ℕ
  pub before_items : Option ℕ
  pub before_starts : Option ℕ
  pub before_ends : Option ℕ
  pub before_weight : Option ℕ
  pub is_header : IsHeader header cert.policy before_classes
  pub are_classes : Each (titled (codes "class") lines.class) classes before_classes cert.classes before_nodes
  pub are_nodes : Each (titled (codes "node") lines.node) nodes before_nodes cert.nodes before_items
  pub are_items : Each (titled (codes "item") lines.item) items before_items cert.items before_starts
  pub are_starts : Each (titled (codes "start") lines.flow) starts before_starts cert.starts before_ends
  pub are_ends : Each (titled (codes "end") lines.flow) ends before_ends cert.ends before_weight
  pub is_weight : titled (codes "weight") lines.weight (weight, before_weight) ≡ Some (cert.weight, breach)

-- the text reads as the certificate
abbrev pub Reads : List ℕ → Cert → Type 0
Reads text cert = IsCertificate (rows_of text) cert None

-- the text is in the loose form, and this is the least offset of a number out of its range
abbrev pub IsBreached : List ℕ → ℕ → Type 0
IsBreached text at = (cert : Cert) × IsCertificate (rows_of text) cert (Some at)

-- the text isn't in the loose form
abbrev pub IsMalformed : List ℕ → Type 0
IsMalformed text = (cert : Cert) (breach : Option ℕ) → IsCertificate (rows_of text) cert breach → ⊥

-- what each answer of `read_cert` says of the text
abbrev pub IsReadAnswer : List ℕ → Result Cert TextFault → Type 0
IsReadAnswer text (Ok cert) = Reads text cert
IsReadAnswer text (Err (Value at)) = IsBreached text at
IsReadAnswer text (Err (Syntax at)) = IsMalformed text
IsReadAnswer text (Err NoMemory) = Unit {0}

-- no list of the certificate has more elements than this
pub record HasAtMost (most : ℕ) (cert : Cert) : Type 0 where
  pub classes : length cert.classes ≤ most
  pub nodes : length cert.nodes ≤ most
  pub items : length cert.items ≤ most
  pub starts : length cert.starts ≤ most
  pub ends : length cert.ends ≤ most
