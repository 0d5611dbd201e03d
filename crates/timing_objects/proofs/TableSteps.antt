-- Tables of the texts of elements, one more at a time, and clocks by tables.
use Rattle.std.proofs.Common.{◌≡◌, ℕ, suc, ◌+◌, ◌<◌, ◌≤◌, ◌==◌, ◌||◌, Bool, true, false, List, [], ◌∷◌, ◌++◌, take, get_or, length, map, refl, sym, ap, ◌∙◌, subst}
use Rattle.std.specs.List.{list_any}
use Rattle.std.proofs.lemmas.List.{take_more, take_all, length-take-le, map-append}
use Rattle.bud_design.specs.declared.clocks.Clock.{Clock}
use Rattle.text_tables.specs.Standings.{IsOf}
use Rattle.text_tables.specs.declared.standings.TextTable.{TextTable}
use Rattle.timing_objects.specs.ClockTables.{has_source, holds, AreFound}

pub length-texts : {X : Type 0} (f : X → List ℕ) (xs : List X) → length (map f xs) ≡ length xs
length-texts f [] = refl
length-texts f (x ∷ xs) = ap (λ n. suc n) (length-texts f xs)

pub texts-length : {X : Type 0} (f : X → List ℕ) (xs : List X) (i : ℕ) → i ≤ length xs → length (map f (take i xs)) ≡ i
texts-length f xs i within = length-texts f (take i xs) ∙ length-take-le i xs within

texts-push : {X : Type 0} (f : X → List ℕ) (xs : List X) (i : ℕ) (x : X) → i < length xs → x ≡ get_or xs i x → map f (take i xs) ++ f x ∷ [] ≡ map f (take (i + 1) xs)
texts-push f xs i x within is = sym (ap (map f) (take_more xs i x within ∙ ap (λ y. take i xs ++ y ∷ []) (sym is)) ∙ map-append f (take i xs) (x ∷ []))

pub texts-more : {X : Type 0} (f : X → List ℕ) (xs : List X) (i : ℕ) (x : X) (table : TextTable) (text : List ℕ) → i < length xs → x ≡ get_or xs i x → text ≡ f x
    → IsOf (map f (take i xs) ++ text ∷ []) table → IsOf (map f (take (i + 1) xs)) table
texts-more f xs i x table text within is named is_of =
    subst (λ ts. IsOf ts table) (ap (λ t. map f (take i xs) ++ t ∷ []) named ∙ texts-push f xs i x within is) is_of

pub texts-all : {X : Type 0} (f : X → List ℕ) (xs : List X) (i : ℕ) (table : TextTable) → length xs ≤ i → IsOf (map f (take i xs)) table → IsOf (map f xs) table
texts-all f xs i table past is_of = subst (λ ys. IsOf (map f ys) table) (take_all i xs past) is_of

-- ---- clocks
or-assoc : (a b c : Bool) → (a || (b || c)) ≡ ((a || b) || c)
or-assoc true b c = refl
or-assoc false b c = refl

or-none : (a : Bool) → (a || false) ≡ a
or-none true = refl
or-none false = refl

sources-last : (clocks : List Clock) (c : Clock) (v : ℕ) → has_source (clocks ++ c ∷ []) v ≡ (has_source clocks v || list_any (λ p. p.0 == v) c.sources)
sources-last [] c v = or-none (list_any (λ p. p.0 == v) c.sources)
sources-last (d ∷ ds) c v =
    ap (λ b. list_any (λ p. p.0 == v) d.sources || b) (sources-last ds c v)
    ∙ or-assoc (list_any (λ p. p.0 == v) d.sources) (has_source ds v) (list_any (λ p. p.0 == v) c.sources)

pub clock-more : (clocks : List Clock) (c : Clock) (names : TextTable) (old new : List ℕ) → AreFound clocks names old → (names' : TextTable) → IsOf (map (λ c. c.name) clocks ++ c.name ∷ []) names'
    → ((v : ℕ) → holds new v ≡ (holds old v || list_any (λ p. p.0 == v) c.sources)) → AreFound (clocks ++ c ∷ []) names' new
clock-more clocks c names old new are names' named sourced = record {
  named = subst (λ ts. IsOf ts names') (sym (map-append (λ c. c.name) clocks (c ∷ []))) named;
  sourced = λ v. sourced v ∙ (ap (λ b. b || list_any (λ p. p.0 == v) c.sources) (are.sourced v) ∙ sym (sources-last clocks c v));
}
