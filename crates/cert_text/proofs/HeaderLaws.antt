-- The first rows of a certificate: what is read of them is in the grammar, and all that is in the grammar is read.
use Rattle.std.proofs.Common.{◌≡◌, ℕ, ◌==◌, ◌⊎◌, inl, inr, true, false, Option, Some, None, List, [], ◌∷◌, ◌++◌, refl, sym, ap, ◌∙◌, subst, codes}
use Rattle.std.proofs.lemmas.Option.{same_Some}
use Rattle.std.proofs.lemmas.Bool.{eqb-true}
use Rattle.std.specs.Str.{bytes_eq}
use Rattle.text_scan.specs.Left.{Left, next, end_of}
use Rattle.text_scan.proofs.Binds.{step, by_test}
use Rattle.line_text.specs.Parts.{Part, Row}
use Rattle.line_text.specs.Numbers.{word}
use Rattle.line_text.specs.Lines.{titled, line}
use Rattle.line_text.proofs.SectionLaws.{line_sound, line_complete}
use Rattle.cert_text.specs.Lines as lines
use Rattle.cert_text.specs.Texts.{IsHeader}
use Rattle.cert_text.specs.Texts.IsHeader.{first, second}
use Rattle.cert_text.specs.Reading.{policy_line, header}

-- the first rows, and those behind them
pub record HasHeader (rows : List Row) (policy : ℕ) (rest : List Row) (after : Option ℕ) : Type 0 where
  pub front : List Row
  pub in_order : rows ≡ front ++ rest
  pub is_header : IsHeader front policy after

-- a version is 1 or 2
version_known : (field : List ℕ) (v : ℕ) → lines.version_of field ≡ Some v → (v ≡ 1) ⊎ (v ≡ 2)
version_known field v read =
    by_test (bytes_eq field (codes "1"))
    (λ one. inl (sym (same_Some _ _ (rw one at read))))
    (λ other. by_test (bytes_eq field (codes "2"))
    (λ two. inr (sym (same_Some _ _ (rw (other, two) at read))))
    (λ neither. absurd (let none = rw (other, neither) at read in cc)))

version_read : (row : Left Part) (v : ℕ) (b : Option ℕ) → titled (codes "certificate") lines.version row ≡ Some (v, b) → (v ≡ 1) ⊎ (v ≡ 2)
unfolding lines.version
version_read row v b read =
    step (word (codes "certificate") row) _ _ read (λ line _ behind1.
    step (next line) _ _ behind1 (λ field _ behind2.
    step (lines.version_of field.0.bytes) _ _ behind2 (λ version is_version behind3.
    step (end_of field.1) _ _ behind3 (λ breach _ whole.
    let same : version ≡ v = ap (λ r. r.0) (same_Some _ _ whole) in
    version_known field.0.bytes v (is_version ∙ ap (λ n. Some n) same)))))

-- behind version 1 there is no more
one_row : (row : Row) (rest : List Row) (v p : ℕ) (text : List Row) (a b : Option ℕ) → titled (codes "certificate") lines.version (row, None) ≡ Some (v, a)
    → (v == 2) ≡ false → policy_line v (rest, a) ≡ Some (p, (text, b)) → HasHeader (row ∷ rest) p text b
unfolding policy_line
one_row row rest v p text a b is_version other read =
    let P : ℕ × Left Row → Type 0 = λ r. HasHeader (row ∷ rest) r.0 r.1.0 r.1.1 in
    subst P (same_Some _ _ (rw other at read)) (elim (version_read (row, None) v a is_version) [
      | inl one ↦ record { front = row ∷ []; in_order = refl; is_header = rw one (first row a (rw one at is_version)) }
      | inr two ↦ absurd (let not_two = rw two at other in cc)
    ])

-- behind version 2 there is the policy's
two_rows : (row : Row) (rest : List Row) (v p : ℕ) (text : List Row) (a b : Option ℕ) → titled (codes "certificate") lines.version (row, None) ≡ Some (v, a)
    → (v == 2) ≡ true → policy_line v (rest, a) ≡ Some (p, (text, b)) → HasHeader (row ∷ rest) p text b
unfolding policy_line
two_rows row rest v p text a b is_version two read =
    let P : ℕ × Left Row → Type 0 = λ r. HasHeader (row ∷ rest) r.0 r.1.0 r.1.1 in
    let is_two : v ≡ 2 = eqb-true v 2 two in
    step (line (titled (codes "policy") lines.policy) (rest, a)) _ _ (rw two at read) (λ policy is_policy whole.
    let l = line_sound (titled (codes "policy") lines.policy) rest a policy.0 policy.1.0 policy.1.1 is_policy in
    subst P (same_Some _ _ whole) (record {
      front = row ∷ l.row ∷ [];
      in_order = ap (λ rows. row ∷ rows) l.front;
      is_header = rw is_two (second row l.row a policy.1.1 (rw is_two at is_version) l.read);
    }))

pub header_sound : (rows : List Row) (policy : ℕ) (rest : List Row) (b : Option ℕ) → header (rows, None) ≡ Some (policy, (rest, b)) → HasHeader rows policy rest b
unfolding header
header_sound rows policy rest b read =
    step (line (titled (codes "certificate") lines.version) (rows, None)) _ _ read (λ version is_version behind.
    let l = line_sound (titled (codes "certificate") lines.version) rows None version.0 version.1.0 version.1.1 is_version in
    let P : List Row → Type 0 = λ rows. HasHeader rows policy rest b in
    subst P (sym l.front) (by_test (version.0 == 2)
    (λ two. two_rows l.row version.1.0 version.0 policy rest version.1.1 b l.read two behind)
    (λ other. one_row l.row version.1.0 version.0 policy rest version.1.1 b l.read other behind)))

pub header_complete : (front : List Row) (policy : ℕ) (rest : List Row) (b : Option ℕ) → IsHeader front policy b → header (front ++ rest, None) ≡ Some (policy, (rest, b))
unfolding header policy_line
header_complete _ _ rest _ (first row b read) = rw (line_complete (titled (codes "certificate") lines.version) row rest None b 1 read) refl
header_complete _ _ rest _ (second row policy a b read is_policy) =
    rw (
      line_complete (titled (codes "certificate") lines.version) row (policy ∷ rest) None a 2 read,
      line_complete (titled (codes "policy") lines.policy) policy rest a b tt is_policy,
    ) refl
