-- Sections read what the grammar of lines says, and all of it.
use Rattle.std.proofs.Common.{◌≡◌, ℕ, Bool, true, false, Option, Some, List, [], ◌∷◌, ◌++◌, refl, ap, subst}
use Rattle.std.proofs.lemmas.List.{append-nil}
use Rattle.std.proofs.lemmas.Option.{same_Some}
use Rattle.std.specs.Str.{bytes_eq}
use Rattle.std.proofs.lemmas.Slice.Eq.{bytes_eq-Decides}
use Rattle.text_scan.specs.Left.{Left, end_of}
use Rattle.text_scan.proofs.Binds.{step, by_test, guard_true}
use Rattle.line_text.specs.Parts.{Row}
use Rattle.line_text.specs.Numbers.{word}
use Rattle.line_text.specs.Lines.{Production, titled, begins, line, section, Each}
use Rattle.line_text.specs.Lines.Each.{none, more}

-- the first of the rows begins with the title
abbrev pub next_begins : List ℕ → List Row → Bool
next_begins title [] = false
next_begins title (row ∷ _) = begins title row

-- what a section of a text is: the rows of this kind at its front, and behind them no row that begins with the title
pub record IsSection {X : Type 0} (title : List ℕ) (production : Production X) (all : List Row) (before : Option ℕ) (xs : List X) (rest : List Row) (after : Option ℕ) : Type 0 where
  pub rows : List Row
  pub front : all ≡ rows ++ rest
  pub each : Each (titled title production) rows before xs after
  pub ends : next_begins title rest ≡ false

-- a row that is read as a line of this title begins with it
begins_titled : {X : Type 0} (title : List ℕ) (production : Production X) (row : Row) (a b : Option ℕ) (x : X) → titled title production (row, a) ≡ Some (x, b) → begins title row ≡ true
unfolding word
begins_titled title production [] a b x read = absurd (cc)
begins_titled title production (field ∷ fields) a b x read = guard_true (bytes_eq field.bytes title) (fields, a) production (x, b) read

-- such a row begins with no other title
begins_apart : (title other : List ℕ) (row : Row) → begins title row ≡ true → bytes_eq title other ≡ false → begins other row ≡ false
begins_apart title other [] begun apart = refl
begins_apart title other (field ∷ fields) begun apart = rw ((bytes_eq-Decides field.bytes title).0 begun) apart

-- so rows of one title, before rows that begin with no other, begin with no other
pub each_apart : {X : Type 0} (title other : List ℕ) (production : Production X) (rows rest : List Row) (a b : Option ℕ) (xs : List X) →
    Each (titled title production) rows a xs b → bytes_eq title other ≡ false → next_begins other rest ≡ false → next_begins other (rows ++ rest) ≡ false
each_apart title other production _ rest _ _ _ (none breach) apart ends = ends
each_apart title other production _ rest _ _ _ (more row rows x xs a b c read each) apart ends = begins_apart title other row (begins_titled title production row a b x read) apart

-- a section with one row more before it
section_more : {X : Type 0} (title : List ℕ) (production : Production X) (row : Row) (all rest : List Row) (a b c : Option ℕ) (x : X) (xs : List X) →
    titled title production (row, a) ≡ Some (x, b) → IsSection title production all b xs rest c → IsSection title production (row ∷ all) a (x ∷ xs) rest c
section_more title production row all rest a b c x xs read tail = record {
  rows = row ∷ tail.rows;
  front = ap (λ rows. row ∷ rows) tail.front;
  each = more row tail.rows x xs a b c read tail.each;
  ends = tail.ends;
}

-- a section reads what the grammar has at the front
pub section_sound : {X : Type 0} (title : List ℕ) (production : Production X) (all : List Row) (a : Option ℕ) (xs : List X) (rest : List Row) (b : Option ℕ) →
    section title production all a ≡ Some (xs, (rest, b)) → IsSection title production all a xs rest b
unfolding section
section_sound {X} title production [] a xs rest b read =
    let P : List X × Left Row → Type 0 = λ r. IsSection title production [] a r.0 r.1.0 r.1.1 in
    subst P (same_Some _ _ read) (record { rows = []; front = refl; each = none a; ends = refl })
section_sound {X} title production (row ∷ rows) a xs rest b read =
    let P : List X × Left Row → Type 0 = λ r. IsSection title production (row ∷ rows) a r.0 r.1.0 r.1.1 in
    by_test (begins title row)
    (λ begun. step (titled title production (row, a)) _ _ (rw begun at read) (λ first is_first behind.
    step (section title production rows first.1) _ _ behind (λ others are_others whole.
    let tail = section_sound title production rows first.1 others.0 others.1.0 others.1.1 are_others in
    subst P (same_Some _ _ whole) (section_more title production row rows others.1.0 a first.1 others.1.1 first.0 others.0 is_first tail))))
    (λ other. subst P (same_Some _ _ (rw other at read)) (record { rows = []; front = refl; each = none a; ends = other }))

-- and all of it
pub section_complete : {X : Type 0} (title : List ℕ) (production : Production X) (rows rest : List Row) (a b : Option ℕ) (xs : List X) →
    Each (titled title production) rows a xs b → next_begins title rest ≡ false → section title production (rows ++ rest) a ≡ Some (xs, (rest, b))
unfolding section
section_complete title production _ [] _ _ _ (none breach) ends = refl
section_complete title production _ (row ∷ rest) _ _ _ (none breach) ends = rw ends refl
section_complete title production _ rest _ _ _ (more row rows x xs a b c read each) ends =
    rw (begins_titled title production row a b x read, read, section_complete title production rows rest b c xs each ends) refl

-- the same for the rows of a whole text's end
pub all_apart : {X : Type 0} (title other : List ℕ) (production : Production X) (rows : List Row) (a b : Option ℕ) (xs : List X) →
    Each (titled title production) rows a xs b → bytes_eq title other ≡ false → next_begins other rows ≡ false
all_apart title other production rows a b xs each apart = rw append-nil at (each_apart title other production rows [] a b xs each apart refl)

pub section_all : {X : Type 0} (title : List ℕ) (production : Production X) (rows : List Row) (a b : Option ℕ) (xs : List X) →
    Each (titled title production) rows a xs b → section title production rows a ≡ Some (xs, ([], b))
section_all title production rows a b xs each = rw append-nil at (section_complete title production rows [] a b xs each refl)

-- the next row, read by the production, and the rows behind it
pub record IsLine {X : Type 0} (production : Production X) (all : List Row) (before : Option ℕ) (x : X) (rest : List Row) (after : Option ℕ) : Type 0 where
  pub row : Row
  pub front : all ≡ row ∷ rest
  pub read : production (row, before) ≡ Some (x, after)

pub line_sound : {X : Type 0} (production : Production X) (all : List Row) (a : Option ℕ) (x : X) (rest : List Row) (b : Option ℕ) →
    line production (all, a) ≡ Some (x, (rest, b)) → IsLine production all a x rest b
unfolding line
line_sound production [] a x rest b read = absurd (cc)
line_sound {X} production (row ∷ rows) a x rest b read =
    step (production (row, a)) _ _ read (λ found is_found whole.
    let P : X × Left Row → Type 0 = λ r. IsLine production (row ∷ rows) a r.0 r.1.0 r.1.1 in
    subst P (same_Some _ _ whole) (record { row = row; front = refl; read = is_found }))

pub line_complete : {X : Type 0} (production : Production X) (row : Row) (rest : List Row) (a b : Option ℕ) (x : X) →
    production (row, a) ≡ Some (x, b) → line production (row ∷ rest, a) ≡ Some (x, (rest, b))
unfolding line
line_complete production row rest a b x read = rw read refl

-- nothing is left where the end is read
pub end_sound : {A : Type 0} (parts : List A) (a b : Option ℕ) → end_of (parts, a) ≡ Some b → (parts ≡ []) × (a ≡ b)
end_sound [] a b read = (refl, same_Some _ _ read)
end_sound (part ∷ parts) a b read = absurd (cc)
