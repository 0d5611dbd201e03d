-- Sections that are read row by row.
use Rattle.std.proofs.Common.{◌≡◌, ℕ, true, false, Option, Some, None, List, [], ◌∷◌, ◌++◌, refl, sym, ap, append_assoc}
use Rattle.std.proofs.lemmas.List.{append-nil}
use Rattle.text_scan.specs.Left.{Left, ◌>>=◌}
use Rattle.bud_base.specs.declared.texts.TextFault.{TextFault}
use Rattle.bud_base.specs.declared.texts.TextFault.TheVariants.{Syntax, Value, NoMemory}
use Rattle.line_text.specs.Answers.{FailsText}
use Rattle.line_text.specs.Parts.{Row}
use Rattle.line_text.specs.Lines.{Production, titled, begins, section}

-- what is read, with these values before it
abbrev pub with_front : {X : Type 0} → List X → Option (List X × Left Row) → Option (List X × Left Row)
with_front front read = do
  (xs, text) ← read
  Some (front ++ xs, text)

-- values before values
with_front-append : {X : Type 0} (front : List X) (x : X) (read : Option (List X × Left Row)) →
    with_front front (read >>= λ r. Some (x ∷ r.0, r.1)) ≡ with_front (front ++ x ∷ []) read
with_front-append front x None = refl
with_front-append front x (Some r) = ap (λ xs. Some (xs, r.1)) (sym (append_assoc front (x ∷ []) r.0))

-- the next row is read
pub section_turn : {X : Type 0} (title : List ℕ) (production : Production X) (front : List X) (x : X) (all : List Row) (row : Row) (rows : List Row) (a b : Option ℕ) →
    all ≡ row ∷ rows → begins title row ≡ true → titled title production (row, a) ≡ Some (x, b) →
    with_front front (section title production all a) ≡ with_front (front ++ x ∷ []) (section title production rows b)
unfolding section
section_turn title production front x all row rows a b is begun read =
    rw (is, begun, read) (with_front-append front x (section title production rows b))

-- the next row begins with the title, and can't be read
pub section_fails : {X : Type 0} (title : List ℕ) (production : Production X) (front : List X) (all : List Row) (row : Row) (rows : List Row) (a : Option ℕ) →
    all ≡ row ∷ rows → begins title row ≡ true → titled title production (row, a) ≡ None →
    with_front front (section title production all a) ≡ None
unfolding section
section_fails title production front all row rows a is begun read = rw (is, begun, read) refl

-- the next row does not begin with the title
pub section_stops : {X : Type 0} (title : List ℕ) (production : Production X) (front : List X) (all : List Row) (row : Row) (rows : List Row) (a : Option ℕ) →
    all ≡ row ∷ rows → begins title row ≡ false → with_front front (section title production all a) ≡ Some (front, (all, a))
unfolding section
section_stops title production front all row rows a is other = rw (is, other) (ap (λ xs. Some (xs, (row ∷ rows, a))) (append-nil front))

-- there is no next row
pub section_ends : {X : Type 0} (title : List ℕ) (production : Production X) (front : List X) (all : List Row) (a : Option ℕ) →
    all ≡ [] → with_front front (section title production all a) ≡ Some (front, (all, a))
unfolding section
section_ends title production front all a none = rw none (ap (λ xs. Some (xs, ([], a))) (append-nil front))

-- what fails where a part can't be read, as the part does
pub fails_too : {A B : Type 0} (fault : TextFault) (part : Option A) (whole : Option B) → FailsText fault part → (part ≡ None → whole ≡ None) → FailsText fault whole
fails_too (Syntax at) part whole fails so = so fails
fails_too (Value at) part whole fails so = fails
fails_too NoMemory part whole fails so = tt
