-- Which of a file's exceptions match, as their forms tell.
use Rattle.std.specs.Prelude.{◌≡◌, ℕ, suc, ◌&&◌, Bool, true, false, List, [], ◌∷◌, ◌++◌, map, filter, flat_map, All, Some, if◌then◌else◌}
use Rattle.std.proofs.Common.{refl, sym, ◌∙◌, ap}
use Rattle.std.proofs.lemmas.List.{map-append}
use Rattle.std.proofs.lemmas.List.Concat.{flat_map-cons}
use Rattle.std.proofs.lemmas.List.Elements.{All-head, All-tail, filter-append}
use Rattle.bud_design.specs.declared.clocks.Capture.{Capture}
use Rattle.bud_design.specs.declared.clocks.Exception.{Exception}
use Rattle.bud_design.specs.declared.clocks.ExceptionKind.{ExceptionKind}
use Rattle.bud_design.specs.declared.clocks.Launch.{Launch}
use Rattle.bud_design.specs.Exceptions.{matches, names}
use Rattle.bud_design.proofs.StepLaws.{steps-none}
use Rattle.block_theory.specs.BlockExceptions.{Part, Form, is_empty_part, form_of}
use Rattle.block_theory.specs.BlockPorts.{Context}
use Rattle.block_theory.specs.BlockScopes.{marks_as, exceptions_from}

-- a form matches a launch and a capture
abbrev pub form_matches : Context → Launch → Capture → Form → Bool
form_matches x l y f = names (Some (marks_as x f.from)) l.pin.0 l.clock && names (Some (marks_as x f.to)) y.pin.0 y.clock

and-true : (b : Bool) → b && true ≡ b
and-true true = refl
and-true false = refl

exception-matches : (x : Context) (l : Launch) (vs : List ℕ) (y : Capture) (number : ℕ) (f : Form)
    → matches (record { number = number; kind = f.kind; from = Some (marks_as x f.from); groups = []; to = Some (marks_as x f.to) }) l vs y ≡ form_matches x l y f
exception-matches x l vs y number f = rw (steps-none vs) (ap (λ b. names (Some (marks_as x f.from)) l.pin.0 l.clock && b) (and-true (names (Some (marks_as x f.to)) y.pin.0 y.clock)))

-- the kinds of the exceptions that match are those of the forms that do
pub kinds-from : (x : Context) (l : Launch) (vs : List ℕ) (y : Capture) (number : ℕ) (fs : List Form)
    → map (λ (e : Exception). e.kind) (filter (λ e. matches e l vs y) (exceptions_from x number fs)) ≡ map (λ (f : Form). f.kind) (filter (form_matches x l y) fs)
kinds-from x l vs y number [] = refl
kinds-from x l vs y number (f ∷ fs) = by_test (form_matches x l y f) refl (kinds-from x l vs y (suc number) fs)
  where
    by_test : (b : Bool) → form_matches x l y f ≡ b
        → map (λ (e : Exception). e.kind) (filter (λ e. matches e l vs y) (exceptions_from x (suc number) fs)) ≡ map (λ (f : Form). f.kind) (filter (form_matches x l y) fs)
        → map (λ (e : Exception). e.kind) (filter (λ e. matches e l vs y) (exceptions_from x number (f ∷ fs))) ≡ map (λ (f : Form). f.kind) (filter (form_matches x l y) (f ∷ fs))
    by_test true is rest = rw (exception-matches x l vs y number f ∙ is, is) (ap (λ ks. f.kind ∷ ks) rest)
    by_test false is rest = rw (exception-matches x l vs y number f ∙ is, is) rest

-- ---- the kinds of matching forms, part by part
abbrev pub kinds : (Form → Bool) → List Form → List ExceptionKind
kinds test fs = map (λ (f : Form). f.kind) (filter test fs)

pub kinds-append : (test : Form → Bool) (fs gs : List Form) → kinds test (fs ++ gs) ≡ kinds test fs ++ kinds test gs
kinds-append test fs gs = ap (map (λ (f : Form). f.kind)) (filter-append test fs gs) ∙ map-append (λ (f : Form). f.kind) (filter test fs) (filter test gs)

pub kinds-none : (test : Form → Bool) (fs : List Form) → All (λ f. test f ≡ false) fs → kinds test fs ≡ []
kinds-none test [] none = refl
kinds-none test (f ∷ fs) none = rw (All-head (λ f. test f ≡ false) f fs none) (kinds-none test fs (All-tail (λ f. test f ≡ false) f fs none))

pub kinds-concat : {X : Type 0} (test : Form → Bool) (g : X → List Form) (h : X → List ExceptionKind) (xs : List X) → All (λ x. kinds test (g x) ≡ h x) xs → kinds test (flat_map g xs) ≡ flat_map h xs
kinds-concat test g h [] same = refl
kinds-concat {X} test g h (x ∷ xs) same =
    ap (kinds test) (flat_map-cons g x xs)
    ∙ (kinds-append test (g x) (flat_map g xs)
    ∙ (rw (All-head (λ x. kinds test (g x) ≡ h x) x xs same, kinds-concat test g h xs (All-tail (λ x. kinds test (g x) ≡ h x) x xs same)) (sym (flat_map-cons h x xs))))

-- one form, or none where a part is empty
pub kinds-form : (test : Form → Bool) (kind : ExceptionKind) (from to : Part) → (is_empty_part from ≡ true → test (record { kind = kind; from = from; to = to }) ≡ false)
    → (is_empty_part to ≡ true → test (record { kind = kind; from = from; to = to }) ≡ false)
    → kinds test (form_of kind from to) ≡ (if test (record { kind = kind; from = from; to = to }) then kind ∷ [] else [])
kinds-form test kind from to no_from no_to = by_tests (is_empty_part from) refl (is_empty_part to) refl
  where
    by_tests : (a : Bool) → is_empty_part from ≡ a → (b : Bool) → is_empty_part to ≡ b
        → kinds test (form_of kind from to) ≡ (if test (record { kind = kind; from = from; to = to }) then kind ∷ [] else [])
    by_tests true nothing b is = rw (nothing, no_from nothing) refl
    by_tests false some true nothing = rw (some, nothing, no_to nothing) refl
    by_tests false some false more = rw (some, more) (by_match (test (record { kind = kind; from = from; to = to })) refl)
      where
        by_match : (t : Bool) → test (record { kind = kind; from = from; to = to }) ≡ t
            → kinds test (record { kind = kind; from = from; to = to } ∷ []) ≡ (if test (record { kind = kind; from = from; to = to }) then kind ∷ [] else [])
        by_match true is = rw is refl
        by_match false is = rw is refl
