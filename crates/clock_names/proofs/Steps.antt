-- Answers taken apart, step by step.
use Rattle.std.proofs.Common.{◌≡◌, ℕ, Bool, true, false, List, [], ◌∷◌, map, Option, Some, None, Ok, Err, refl, subst, sym, if◌then◌else◌}
use Rattle.bud_syntax.specs.declared.constraints.Object.{Object}
use Rattle.bud_syntax.specs.declared.constraints.Object.TheVariants as object
use Rattle.sdc_reader.specs.declared.faults.SdcFault.{SdcFault}
use Rattle.sdc_reader.specs.declared.faults.SdcFault.TheVariants.{Value}
use Rattle.sdc_reader.specs.declared.opened.Opened.{Opened}
use Rattle.sdc_reader.specs.declared.opened.Found.{Found}
use Rattle.sdc_reader.specs.declared.opened.Finds.{Finds}
use Rattle.sdc_reader.specs.Answers.{Answer, ◌>>=◌}
use Rattle.sdc_reader.specs.Values.{whole, finds_of, clock_name, clock_name_word, name_in, may_name, names_clock, named_objects, object_word, objects, unrefused, taken, as_port}
use Rattle.sdc_reader.specs.Words.{is_clock_name}

-- one step after the other: what holds behind both
pub behind : {A B : Type 0} (P : B → Type 0) (read : Answer A) (f : A → Answer B) (y : B) → ((x : A) → read ≡ Ok x → (z : B) → f x ≡ Ok z → P z) → (read >>= f) ≡ Ok y → P y
behind P (Ok x) f y holds is = holds x refl y is
behind P (Err fault) f y holds is = (let no : ⊥ = cc in absurd no)

-- what is answered
pub answered : {B : Type 0} (P : B → Type 0) (x y : B) → P x → ◌≡◌ {A = Answer B} (Ok x) (Ok y) → P y
answered P x y holds is = (let same : x ≡ y = cc in subst P same holds)

-- a step that gives this
pub gave : {A B : Type 0} (P : B → Type 0) (read : Answer A) (f : A → B) (y : B) → ((x : A) → read ≡ Ok x → P (f x)) → (read >>= λ x. Ok (f x)) ≡ Ok y → P y
gave P read f y holds is = behind P read (λ x. Ok (f x)) y (λ x read_is z is. answered P (f x) z (holds x read_is) is) is

abbrev pub IfThere : {X : Type 0} → (X → Type 0) → Option X → Type 0
IfThere P None = Unit {0}
IfThere P (Some x) = P x

-- ---- names
abbrev pub IsName : List ℕ → Type 0
IsName name = is_clock_name name ≡ true

under : {X : Type 0} (b : Bool) (x y : X) (fault : SdcFault) → ◌≡◌ {A = Answer X} (if b then Ok x else Err fault) (Ok y) → (b ≡ true) × (x ≡ y)
under true x y fault is = (refl, cc)
under false x y fault is = (let no : ⊥ = cc in absurd no)

name-is : (at : ℕ) (text name : List ℕ) → clock_name at text ≡ Ok name → IsName name
unfolding clock_name
name-is at text name is = let both = under (is_clock_name text) text name (Value at) is in subst IsName both.1 both.0

pub name_word-is : (o : Opened) (name : List ℕ) → clock_name_word o ≡ Ok name → IsName name
unfolding clock_name_word
name_word-is o name is = behind IsName (whole o) (λ text. clock_name o.word.at text) name (λ text read name is. name-is o.word.at text name is) is

-- ---- sources
-- the name of the first object, where it has one, may be a clock's
abbrev pub FirstIsNamed : List Object → Type 0
FirstIsNamed [] = Unit {0}
FirstIsNamed (o ∷ _) = IfThere IsName (name_in o)

same-name : (o : Object) → name_in (as_port o) ≡ name_in o
same-name (object.Ports name) = refl
same-name (object.Pins name) = refl
same-name (object.Cells name) = refl
same-name (object.Clocks name) = refl
same-name (object.Any name) = refl
same-name object.AllInputs = refl
same-name object.AllOutputs = refl
same-name object.AllClocks = refl

may-name : (at : ℕ) (name : Option (List ℕ)) (done : Unit {0}) → may_name at name ≡ Ok done → IfThere IsName name
may-name at None done is = tt
may-name at (Some name) done is = (under (is_clock_name name) tt done (Value at) is).0

first-named : (found : List Found) (done : Unit {0}) → names_clock false found ≡ Ok done → FirstIsNamed (map (taken true) found)
first-named [] done is = tt
first-named (first ∷ others) done is = subst (IfThere IsName) (same-name-back first.object) (may-name first.at (name_in first.object) done is)
  where
    same-name-back : (o : Object) → name_in o ≡ name_in (as_port o)
    same-name-back o = sym (same-name o)

found-named : (finds : Finds) (xs : List Object) → (done : Unit {0}) → names_clock false finds.found ≡ Ok done → objects true finds ≡ Ok xs → FirstIsNamed xs
unfolding objects
found-named finds xs done first is = gave FirstIsNamed (unrefused finds.refusal) (λ done. map (taken true) finds.found) xs (λ d read. first-named finds.found done first) is

-- where the sources are to name the clock, the first may
pub sources-named : (named : Bool) (o : Opened) (xs : List Object) → object_word true named o ≡ Ok xs → named ≡ false → FirstIsNamed xs
unfolding object_word named_objects
sources-named true o xs is apart = (let no : ⊥ = cc in absurd no)
sources-named false o xs is apart =
    behind FirstIsNamed (finds_of o) (λ finds. names_clock false finds.found >>= λ done. objects true finds) xs
    (λ finds read xs is. behind FirstIsNamed (names_clock false finds.found) (λ done. objects true finds) xs (λ done names xs is. found-named finds xs done names is) is) is
