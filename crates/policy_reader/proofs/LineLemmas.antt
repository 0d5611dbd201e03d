-- Lines of a policy that are read row by row.
use Rattle.std.proofs.Common.{◌≡◌, ℕ, Option, Some, None, List, [], ◌∷◌, ◌++◌, refl, sym, ap, append_assoc}
use Rattle.std.proofs.lemmas.List.{append-nil}
use Rattle.text_scan.specs.Left.{◌>>=◌}
use Rattle.bud_design.specs.declared.policies.PolicyLine.{PolicyLine}
use Rattle.line_text.specs.Parts.{Row}
use Rattle.policy_reader.specs.Lines.{policy_line}
use Rattle.policy_reader.specs.Reading.{all_lines}

-- what is read, with these lines before it
abbrev pub with_lines : List PolicyLine → Option (List PolicyLine × Option ℕ) → Option (List PolicyLine × Option ℕ)
with_lines front read = do
  (xs, last) ← read
  Some (front ++ xs, last)

-- lines before lines
with_lines-append : (front : List PolicyLine) (x : PolicyLine) (read : Option (List PolicyLine × Option ℕ)) →
    with_lines front (read >>= λ r. Some (x ∷ r.0, r.1)) ≡ with_lines (front ++ x ∷ []) read
with_lines-append front x None = refl
with_lines-append front x (Some r) = ap (λ xs. Some (xs, r.1)) (sym (append_assoc front (x ∷ []) r.0))

-- the next row is read
pub lines_turn : (version : ℕ) (front : List PolicyLine) (x : PolicyLine) (all : List Row) (row : Row) (rows : List Row) (a b : Option ℕ) →
    all ≡ row ∷ rows → policy_line version (row, a) ≡ Some (x, b) →
    with_lines front (all_lines version all a) ≡ with_lines (front ++ x ∷ []) (all_lines version rows b)
unfolding all_lines
lines_turn version front x all row rows a b is read = rw (is, read) (with_lines-append front x (all_lines version rows b))

-- the next row can't be read
pub lines_fails : (version : ℕ) (front : List PolicyLine) (all : List Row) (row : Row) (rows : List Row) (a : Option ℕ) →
    all ≡ row ∷ rows → policy_line version (row, a) ≡ None → with_lines front (all_lines version all a) ≡ None
unfolding all_lines
lines_fails version front all row rows a is read = rw (is, read) refl

-- there is no next row
pub lines_ends : (version : ℕ) (front : List PolicyLine) (all : List Row) (a : Option ℕ) → all ≡ [] → with_lines front (all_lines version all a) ≡ Some (front, a)
unfolding all_lines
lines_ends version front all a none = rw none (ap (λ xs. Some (xs, a)) (append-nil front))
