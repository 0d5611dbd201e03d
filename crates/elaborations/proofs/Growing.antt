-- What entering a module adds to the places and pins so far.
use Rattle.std.specs.Prelude.{◌≡◌, ℕ, ◌<◌, ◌+◌, Bool, true, false, List, [], ◌∷◌, ◌++◌, length, Option, Some, None, Result, Ok, Err, zero, suc, All, if◌then◌else◌}
use Rattle.std.proofs.Common.{true≢false, arith, sym, ◌∙◌, refl, ap, subst, append-nil}
use Rattle.std.proofs.lemmas.List.{append_assoc, length-append, get_or-append-add}
use Rattle.std.proofs.lemmas.List.Elements.{All-head, All-tail, All-nil, All-cons}
use Rattle.bud_base.proofs.FindLemmas.{option_or-none, option_map-none}
use Rattle.bud_syntax.specs.declared.modules.Instance.{Instance}
use Rattle.bud_syntax.specs.declared.modules.Module.{Module}
use Rattle.bud_design.specs.declared.designs.Place.{Place}
use Rattle.bud_design.specs.declared.designs.Pin.{Pin}
use Rattle.bud_design.specs.Designs.{place_at}
use Rattle.bud_design.specs.Lists.{first_some, first_again}
use Rattle.bud_design.specs.Names.{printed}
use Rattle.module_nets.specs.declared.faults.ElabFault.{ElabFault}
use Rattle.module_nets.specs.Nets.{module_called}
use Rattle.module_nets.specs.Entering.{Entry, entered_count, top_inout, name_twice, too_large, body_fault, instance_fault, child_fault, assign_fault}
use Rattle.elaborations.specs.Elaborations.{Built, ◌>>=◌, pins_at, with_place, counted, entry_below, placed, all_placed, enter, entering_fault, two_drivers, module_of}
use Rattle.elaborations.specs.Walks.{children, StandsFor, AreInside, HasInside, pins_in, own_names}
use Rattle.elaborations.proofs.Called.{called-printed}
use Rattle.elaborations.proofs.Walks.{AreInside-append, AreInside-plain, AreInside-nil}

abbrev is_ok : {X Y : Type 0} → Result X Y → Bool
is_ok (Ok x) = true
is_ok (Err y) = false

abbrev value_or : Built → Result Built ElabFault → Built
value_or d (Ok x) = x
value_or d (Err y) = d

ok-injective : (a b : Built) → ◌≡◌ {A = Result Built ElabFault} (Ok a) (Ok b) → a ≡ b
ok-injective a b same = ap (value_or a) same

-- places and pins are added, which are inside the place here, whatever places come behind
pub record Grows (modules : List Module) (instances : List Instance) (here : ℕ) (a b : Built) : Type 0 where
  pub more : List Place
  pub new : List Pin
  pub places_are : b.places ≡ a.places ++ more
  pub pins_are : b.pins ≡ a.pins ++ new
  pub inside : (rest : List Place) → AreInside modules instances here (length a.places) (length more) (b.places ++ rest) new

Grows-append : (modules : List Module) (xs ys : List Instance) (here : ℕ) (a b c : Built) → here < length a.places → Grows modules xs here a b → Grows modules ys here b c → Grows modules (xs ++ ys) here a c
Grows-append modules xs ys here a b c less first second = record {
  more = first.more ++ second.more;
  new = first.new ++ second.new;
  places_are = second.places_are ∙ (ap (λ ps. ps ++ second.more) first.places_are ∙ append_assoc a.places first.more second.more);
  pins_are = second.pins_are ∙ (ap (λ ps. ps ++ second.new) first.pins_are ∙ append_assoc a.pins first.new second.new);
  inside = λ rest.
      let same : b.places ++ (second.more ++ rest) ≡ c.places ++ rest = sym (append_assoc b.places second.more rest) ∙ ap (λ ps. ps ++ rest) (sym second.places_are) in
      let from : length b.places ≡ length a.places + length first.more = ap length first.places_are ∙ length-append a.places first.more in
      subst (λ n. AreInside modules (xs ++ ys) here (length a.places) n (c.places ++ rest) (first.new ++ second.new)) (sym (length-append first.more second.more))
      (AreInside-append modules xs ys here (length a.places) (length first.more) (length second.more) (c.places ++ rest) first.new second.new less
      (subst (λ ps. AreInside modules xs here (length a.places) (length first.more) ps first.new) same (first.inside (second.more ++ rest)))
      (subst (λ n. AreInside modules ys here n (length second.more) (c.places ++ rest) second.new) from (second.inside rest)));
}

Grows-nil : (modules : List Module) (here : ℕ) (a b : Built) → a ≡ b → Grows modules [] here a b
Grows-nil modules here a b same = subst (Grows modules [] here a) same (record {
  more = [];
  new = [];
  places_are = sym (append-nil a.places);
  pins_are = sym (append-nil a.pins);
  inside = λ rest. AreInside-nil modules here (length a.places) (a.places ++ rest);
})

-- the place of an instance
abbrev place_of_instance : ℕ → Instance → Module → Place
place_of_instance here i child = record { name = printed i.name; «module» = printed child.name; leaf = child.leaf; parent = Some here }

module _ (modules : List Module) (i : Instance) (child : Module) (here at : ℕ) (places : List Place) (called : module_called modules i.«module» ≡ Some child) (is : place_at places at ≡ place_of_instance here i child) where
  its-module : module_of modules (place_at places at) ≡ Some child
  its-module = ap (module_of modules) is ∙ called-printed modules i.«module» child called

  abbrev instance-stands : StandsFor modules places i at
  instance-stands = record { name = ap (λ p. p.name) is; child = child; called = called; is_of = record { called = its-module; leaf = ap (λ p. p.leaf) is } }

  instance-pins : pins_in modules places at ≡ pins_at at child
  instance-pins = rw its-module refl

  -- an instance with what is inside it
  instance-inside : (n : ℕ) (pins : List Pin) (instances : List Instance) → here < at → AreInside modules instances at (at + 1) n places pins → HasInside child.leaf modules places child (children places at (at + 1) n)
      → AreInside modules (i ∷ []) here at (suc n) places (pins_at at child ++ pins)
  instance-inside n pins instances below inside filled =
      subst (λ ps. AreInside modules (i ∷ []) here at (suc n) places (ps ++ pins)) instance-pins
      (AreInside-plain modules i here at n places pins instances below instance-stands (ap (λ p. p.parent) is) inside filled)

-- the place behind so many
seam : (xs : List Place) (x : Place) (ys : List Place) → place_at ((xs ++ x ∷ []) ++ ys) (length xs) ≡ x
seam xs x ys =
    let none : length xs + 0 ≡ length xs = omega arith in
    ap (λ ps. place_at ps (length xs)) (append_assoc xs (x ∷ []) ys) ∙ (ap (place_at (xs ++ x ∷ ys)) (sym none) ∙ get_or-append-add xs (x ∷ ys) 0 (record { name = []; «module» = []; leaf = false; parent = None }))

abbrev pub IsClean : Module → Type 0
IsClean m = first_again [] (own_names m) ≡ None

abbrev pub Known : List Module → Instance → Type 0
Known modules i = (child : Module) × (module_called modules i.«module» ≡ Some child)

abbrev pub Enters : List Module → (Entry → ℕ → Built → Result Built ElabFault) → Type 0
Enters modules enter = (e : Entry) (here : ℕ) (a b : Built) → here < length a.places → enter e here a ≡ Ok b → Grows modules e.«module».instances here a b × IsClean e.«module»

module _ (modules : List Module) (go : Entry → ℕ → Built → Result Built ElabFault) (enters : Enters modules go) (e : Entry) (here : ℕ) where
  cell-grows : (i : Instance) (child : Module) (a b : Built) → here < length a.places → module_called modules i.«module» ≡ Some child → child.leaf ≡ true → with_place (printed i.name) (Some here) child a ≡ b → Grows modules (i ∷ []) here a b
  cell-grows i child a b less called leaf same = subst (Grows modules (i ∷ []) here a) same (record {
    more = place_of_instance here i child ∷ [];
    new = pins_at (length a.places) child ++ [];
    places_are = refl;
    pins_are = ap (λ ps. a.pins ++ ps) (sym (append-nil (pins_at (length a.places) child)));
    inside = λ rest. inside ((a.places ++ place_of_instance here i child ∷ []) ++ rest) (seam a.places (place_of_instance here i child) rest);
  })
    where
      inside : (places : List Place) → place_at places (length a.places) ≡ place_of_instance here i child → AreInside modules (i ∷ []) here (length a.places) 1 places (pins_at (length a.places) child ++ [])
      inside places is =
          instance-inside modules i child here (length a.places) places called is 0 [] [] less (AreInside-nil modules (length a.places) (length a.places + 1) places)
          (subst (λ b. HasInside b modules places child []) (sym leaf) refl)

  plain-grows : (i : Instance) (child : Module) (a b : Built) → here < length a.places → module_called modules i.«module» ≡ Some child → child.leaf ≡ false
      → go (entry_below e i child) (length a.places) (with_place (printed i.name) (Some here) child a) ≡ Ok b → Grows modules (i ∷ []) here a b
  plain-grows i child a b less called leaf entered =
      let longer : length (a.places ++ place_of_instance here i child ∷ []) ≡ length a.places + 1 = length-append a.places (place_of_instance here i child ∷ []) in
      let both = enters (entry_below e i child) (length a.places) (with_place (printed i.name) (Some here) child a) b (omega (arith, longer)) entered in
      record {
        more = place_of_instance here i child ∷ both.0.more;
        new = pins_at (length a.places) child ++ both.0.new;
        places_are = both.0.places_are ∙ append_assoc a.places (place_of_instance here i child ∷ []) both.0.more;
        pins_are = both.0.pins_are ∙ append_assoc a.pins (pins_at (length a.places) child) both.0.new;
        inside = λ rest. inside both.0 both.1 (b.places ++ rest)
            (ap (λ ps. place_at (ps ++ rest) (length a.places)) both.0.places_are ∙ (ap (λ ps. place_at ps (length a.places)) (append_assoc (a.places ++ place_of_instance here i child ∷ []) both.0.more rest)
            ∙ seam a.places (place_of_instance here i child) (both.0.more ++ rest)))
            (subst (λ n. AreInside modules child.instances (length a.places) n (length both.0.more) (b.places ++ rest) both.0.new) longer (both.0.inside rest));
      }
    where
      inside : (grows : Grows modules child.instances (length a.places) (with_place (printed i.name) (Some here) child a) b) → IsClean child → (places : List Place) → place_at places (length a.places) ≡ place_of_instance here i child
          → AreInside modules child.instances (length a.places) (length a.places + 1) (length grows.more) places grows.new
          → AreInside modules (i ∷ []) here (length a.places) (suc (length grows.more)) places (pins_at (length a.places) child ++ grows.new)
      inside grows clean places is within =
          instance-inside modules i child here (length a.places) places called is (length grows.more) grows.new child.instances less within
          (subst (λ b. HasInside b modules places child (children places (length a.places) (length a.places + 1) (length grows.more))) (sym leaf) (within.inside, clean))

  placed-grows : (i : Instance) (o : Option Module) (a b : Built) → here < length a.places → module_called modules i.«module» ≡ o → Known modules i → placed go e here i o a ≡ Ok b → Grows modules (i ∷ []) here a b
  placed-grows i None a b less called known is = absurd (none-some (sym called ∙ known.1))
    where
      none-some : {m : Module} → None ≡ Some m → ⊥
      none-some same = true≢false (ap is_none same)
        where
          is_none : Option Module → Bool
          is_none None = true
          is_none (Some m) = false
  placed-grows i (Some child) a b less called known is = by_leaf child.leaf refl is
    where
      by_leaf : (leaf : Bool) → child.leaf ≡ leaf
          → (if leaf then Ok (with_place (printed i.name) (Some here) child a) else go (entry_below e i child) (length a.places) (with_place (printed i.name) (Some here) child a)) ≡ Ok b → Grows modules (i ∷ []) here a b
      by_leaf true leaf is = cell-grows i child a b less called leaf (ok-injective (with_place (printed i.name) (Some here) child a) b is)
      by_leaf false leaf is = plain-grows i child a b less called leaf is

  all_placed-grows : (is : List Instance) (a b : Built) → here < length a.places → All (Known modules) is → all_placed go modules e here is a ≡ Ok b → Grows modules is here a b
  all_placed-grows [] a b less known done = Grows-nil modules here a b (ok-injective a b done)
  all_placed-grows (i ∷ is) a b less known done =
      by_first (λ c longer rest. all_placed-grows is c b longer (All-tail (Known modules) i is known) rest) (placed go e here i (module_called modules i.«module») a) refl done
    where
      by_first : ((c : Built) → here < length c.places → all_placed go modules e here is c ≡ Ok b → Grows modules is here c b) → (r : Result Built ElabFault) → placed go e here i (module_called modules i.«module») a ≡ r → (r >>= (λ built. all_placed go modules e here is built)) ≡ Ok b → Grows modules (i ∷ is) here a b
      by_first others (Err fault) first done = absurd (true≢false (sym (ap is_ok done)))
      by_first others (Ok c) first done =
          let grows = placed-grows i (module_called modules i.«module») a c less refl (All-head (Known modules) i is known) first in
          let longer : length c.places ≡ length a.places + length grows.more = ap length grows.places_are ∙ length-append a.places grows.more in
          Grows-append modules (i ∷ []) is here a c b less grows (others c (omega (arith, less, longer)) done)

known-unless : (modules : List Module) (e : Entry) (i : Instance) → instance_fault modules e i ≡ None → Known modules i
known-unless modules e i none = by_called (module_called modules i.«module») refl none
  where
    by_called : (o : Option Module) → module_called modules i.«module» ≡ o → child_fault e i o ≡ None → Known modules i
    by_called None called none = absurd (true≢false (sym (ap is_none none)))
      where
        is_none : Option ElabFault → Bool
        is_none None = true
        is_none (Some f) = false
    by_called (Some child) called none = (child, called)

all-known : (modules : List Module) (e : Entry) (is : List Instance) → first_some (instance_fault modules e) is ≡ None → All (Known modules) is
all-known modules e [] none = All-nil (Known modules)
all-known modules e (i ∷ is) none =
    let both = option_or-none (instance_fault modules e i) (first_some (instance_fault modules e) is) none in
    All-cons (Known modules) i is (known-unless modules e i both.0) (all-known modules e is both.1)

-- what entering without a refusal says of the module
entered-clean : (modules : List Module) (e : Entry) (count : ℕ) → entering_fault modules e count ≡ None → IsClean e.«module» × All (Known modules) e.«module».instances
entered-clean modules e count none =
    let body = option_or-none (body_fault modules e count) (two_drivers modules e) none in
    let a = option_or-none (top_inout e) _ body.0 in
    let b = option_or-none (name_twice e) _ a.1 in
    let c = option_or-none (too_large count) _ b.1 in
    let d = option_or-none (first_some (instance_fault modules e) e.«module».instances) (first_some (assign_fault e) e.«module».assigns) c.1 in
    (option_map-none _ (first_again [] (own_names e.«module»)) b.0, all-known modules e e.«module».instances d.0)

-- entering a module adds what is inside it
pub enter-grows : (levels : ℕ) (modules : List Module) → Enters modules (enter levels modules)
enter-grows zero modules e here a b less done = absurd (true≢false (sym (ap is_ok done)))
enter-grows (suc levels) modules e here a b less done = by_fault (enter-grows levels modules) (entering_fault modules e (a.count + entered_count modules e.«module»)) refl done
  where
    by_fault : Enters modules (enter levels modules) → (o : Option ElabFault) → entering_fault modules e (a.count + entered_count modules e.«module») ≡ o
        → (counted modules e a o >>= (λ built. all_placed (enter levels modules) modules e here e.«module».instances built)) ≡ Ok b → Grows modules e.«module».instances here a b × IsClean e.«module»
    by_fault enters (Some fault) is done = absurd (true≢false (sym (ap is_ok done)))
    by_fault enters None is done =
        let clean = entered-clean modules e (a.count + entered_count modules e.«module») is in
        let counted_so = record a { count = a.count + entered_count modules e.«module» } in
        let grows = all_placed-grows modules (enter levels modules) enters e here e.«module».instances counted_so b less clean.1 done in
        (record { more = grows.more; new = grows.new; places_are = grows.places_are; pins_are = grows.pins_are; inside = grows.inside }, clean.0)
