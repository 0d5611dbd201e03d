-- A written section is read as its values.
use Rattle.std.proofs.Common.{◌≡◌, ℕ, ◌+◌, true, Some, None, List, [], ◌∷◌, ◌++◌, length, refl, ap, ◌∙◌, append_assoc}
use Rattle.std.specs.List.{flat_map, list_all, AllByRecursion}
use Rattle.std.proofs.lemmas.List.{append-nil}
use Rattle.line_text.specs.Parts.{Part, Row, placed, rows}
use Rattle.line_text.specs.Lines.{Production, titled, Each}
use Rattle.line_text.specs.Lines.Each.{none, more}
use Rattle.line_text.specs.Written.{written, is_field, is_title}
use Rattle.line_text.proofs.WrittenLaws.{rows_written}

-- the value's fields, written behind the title, are read as the value
pub record IsWritten {X : Type 0} (title : List ℕ) (production : Production X) (fields_of : X → List (List ℕ)) (x : X) : Type 0 where
  pub plain : list_all is_field (fields_of x) ≡ true
  pub read : (at : ℕ) → titled title production (placed at (title ∷ fields_of x), None) ≡ Some (x, None)

-- the rows of a text are those of these values, and behind them the rows of the rest
pub record IsWrittenSection {X : Type 0} (title : List ℕ) (production : Production X) (xs : List X) (text : Part) (rest : List ℕ) : Type 0 where
  pub front : List Row
  pub behind : ℕ
  pub rows_are : rows text ≡ front ++ rows (record { at = behind; bytes = rest })
  pub each : Each (titled title production) front None xs None

pub section_written : {X : Type 0} (title : List ℕ) (production : Production X) (fields_of : X → List (List ℕ)) (xs : List X) (at : ℕ) (rest : List ℕ) →
    is_title title ≡ true → AllByRecursion (IsWritten title production fields_of) xs →
    IsWrittenSection title production xs (record { at = at; bytes = flat_map (λ x. written title (fields_of x)) xs ++ rest }) rest
section_written title production fields_of [] at rest first all = record { front = []; behind = at; rows_are = refl; each = none None }
section_written title production fields_of (x ∷ xs) at rest first all =
    let others = flat_map (λ x. written title (fields_of x)) xs ++ rest in
    let line = written title (fields_of x) in
    let tail = section_written title production fields_of xs (at + length line) rest first all.1 in
    let regrouped : (line ++ flat_map (λ x. written title (fields_of x)) xs) ++ rest ≡ line ++ others = append_assoc line (flat_map (λ x. written title (fields_of x)) xs) rest in
    record {
      front = placed at (title ∷ fields_of x) ∷ tail.front;
      behind = tail.behind;
      rows_are =
          ap (λ bytes. rows (record { at = at; bytes = bytes })) regrouped
          ∙ rows_written at title (fields_of x) others first all.0.plain
          ∙ ap (λ rs. placed at (title ∷ fields_of x) ∷ rs) tail.rows_are;
      each = more (placed at (title ∷ fields_of x)) tail.front x xs None None None (all.0.read at) tail.each;
    }

-- the same at the end of a text
pub section_written_last : {X : Type 0} (title : List ℕ) (production : Production X) (fields_of : X → List (List ℕ)) (xs : List X) (at : ℕ) →
    is_title title ≡ true → AllByRecursion (IsWritten title production fields_of) xs →
    IsWrittenSection title production xs (record { at = at; bytes = flat_map (λ x. written title (fields_of x)) xs }) []
section_written_last title production fields_of xs at first all =
    rw append-nil at (section_written title production fields_of xs at [] first all)
