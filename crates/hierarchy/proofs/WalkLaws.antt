-- The walk over instances, instance by instance.
use Rattle.std.specs.Prelude.{◌≡◌, ℕ, suc, ◌<◌, ◌+◌, ◌-◌, ◌⊎◌, Bool, true, false, List, [], ◌∷◌, ◌++◌, map, reverse, take, drop, length, find, Option, Some, None, Result, Ok, Err, slice_index_or, if◌then◌else◌}
use Rattle.std.specs.List.{position_from}
use Rattle.std.specs.Str.{bytes_eq}
use Rattle.std.proofs.Common.{arith, sym, ◌∙◌, refl, ap, subst, inl, inr}
use Rattle.std.proofs.lemmas.List.{reverse-append, length-append, get_or_append_left, get_or-append-add, drop_more}
use Rattle.std.proofs.Math.Seq.{take-append_seam}
use Rattle.bud_syntax.specs.declared.modules.Instance.{Instance}
use Rattle.bud_syntax.specs.declared.modules.Module.{Module}
use Rattle.bud_design.specs.declared.designs.Place.{Place}
use Rattle.bud_design.specs.Designs.{place_at}
use Rattle.bud_design.specs.Names.{printed}
use Rattle.module_nets.specs.declared.faults.ElabFault.{ElabFault}
use Rattle.module_nets.specs.declared.faults.ElabFault.TheVariants.{ModuleTwice, NoTop, ManyTops, TooDeep, InoutPort, NameTwice, TooLarge, UnknownModule, Recursive, UnknownPort, Select, Width, TwoDrivers, NoMemory}
use Rattle.module_nets.specs.Entering.{Entry, entered_count}
use Rattle.module_nets.specs.Nets.{module_called}
use Rattle.module_nets.specs.Headers.{module_number}
use Rattle.module_nets.specs.Refusals.{IsRefusal}
use Rattle.module_nets.specs.Tops.{module_at}
use Rattle.elaborations.specs.Elaborations.{Built, ◌>>=◌, with_place, counted, entering_fault, entry_below, placed, all_placed, enter}
use Rattle.elaborations.proofs.Called.{called-name, called-printed}
use Rattle.elaborations.proofs.Lists.{by_lt}
use Rattle.hierarchy.specs.declared.walks.Trail.{Trail}
use Rattle.hierarchy.specs.Placing.{place_of_module}
use Rattle.hierarchy.specs.Surveys.{is_known, IsKind, AreKinds}
use Rattle.hierarchy.specs.Walking.{entry_at, IsFault, GoesOn, SameTrail, step, steps}

-- ---- faults
pub fault-through : (whole other : Result Built ElabFault) (fault : ElabFault) → (whole ≡ Err fault → other ≡ Err fault) → IsFault whole fault → IsFault other fault
fault-through whole other (ModuleTwice name) on is = on is
fault-through whole other (NoTop name) on is = on is
fault-through whole other (ManyTops a b) on is = on is
fault-through whole other (TooDeep n) on is = on is
fault-through whole other (InoutPort name) on is = on is
fault-through whole other (NameTwice name) on is = on is
fault-through whole other (TooLarge n) on is = on is
fault-through whole other (UnknownModule name) on is = on is
fault-through whole other (Recursive name) on is = on is
fault-through whole other (UnknownPort name) on is = on is
fault-through whole other (Select name) on is = on is
fault-through whole other (Width name) on is = on is
fault-through whole other (TwoDrivers name) on is = on is
fault-through whole other NoMemory on is = tt

pub refusal-through : (refusal : Option ElabFault) (whole : Result Built ElabFault) (fault : ElabFault) → (refusal ≡ Some fault → whole ≡ Err fault) → IsRefusal refusal fault → IsFault whole fault
refusal-through refusal whole (ModuleTwice name) on is = on is
refusal-through refusal whole (NoTop name) on is = on is
refusal-through refusal whole (ManyTops a b) on is = on is
refusal-through refusal whole (TooDeep n) on is = on is
refusal-through refusal whole (InoutPort name) on is = on is
refusal-through refusal whole (NameTwice name) on is = on is
refusal-through refusal whole (TooLarge n) on is = on is
refusal-through refusal whole (UnknownModule name) on is = on is
refusal-through refusal whole (Recursive name) on is = on is
refusal-through refusal whole (UnknownPort name) on is = on is
refusal-through refusal whole (Select name) on is = on is
refusal-through refusal whole (Width name) on is = on is
refusal-through refusal whole (TwoDrivers name) on is = on is
refusal-through refusal whole NoMemory on is = tt

pub memory-fault : (whole : Result Built ElabFault) (fault : ElabFault) → fault ≡ NoMemory → IsFault whole fault
memory-fault whole fault is = subst (IsFault whole) (sym is) tt

module _ (modules : List Module) where
  -- ---- one instance
  pub step-none : (levels : ℕ) (trail : Trail) (here : ℕ) (i : Instance) (built : Built) → module_called modules i.«module» ≡ None → step modules levels trail here i built ≡ Ok built
  step-none levels trail here i built called = ap (λ o. placed (enter levels modules) (entry_at modules 0 trail) here i o built) called

  pub step-cell : (levels : ℕ) (trail : Trail) (here : ℕ) (i : Instance) (child : Module) (built : Built) → module_called modules i.«module» ≡ Some child → child.leaf ≡ true
      → step modules levels trail here i built ≡ Ok (with_place (printed i.name) (Some here) child built)
  step-cell levels trail here i child built called leaf =
      ap (λ o. placed (enter levels modules) (entry_at modules 0 trail) here i o built) called
      ∙ ap (λ b. if b then Ok (with_place (printed i.name) (Some here) child built) else enter levels modules (entry_below (entry_at modules 0 trail) i child) (length built.places) (with_place (printed i.name) (Some here) child built)) leaf

  step-plain : (levels : ℕ) (trail : Trail) (here : ℕ) (i : Instance) (child : Module) (built : Built) → module_called modules i.«module» ≡ Some child → child.leaf ≡ false
      → step modules levels trail here i built ≡ enter levels modules (entry_below (entry_at modules 0 trail) i child) (length built.places) (with_place (printed i.name) (Some here) child built)
  step-plain levels trail here i child built called leaf =
      ap (λ o. placed (enter levels modules) (entry_at modules 0 trail) here i o built) called
      ∙ ap (λ b. if b then Ok (with_place (printed i.name) (Some here) child built) else enter levels modules (entry_below (entry_at modules 0 trail) i child) (length built.places) (with_place (printed i.name) (Some here) child built)) leaf

  pub step-deep : (trail : Trail) (here : ℕ) (i : Instance) (child : Module) (built : Built) → module_called modules i.«module» ≡ Some child → child.leaf ≡ false → step modules 0 trail here i built ≡ Err (TooDeep 257)
  step-deep trail here i child built called leaf = step-plain 0 trail here i child built called leaf

  abbrev pub entry_with : Module → List (List ℕ) → List (List ℕ) → Entry
  entry_with m p e = record { «module» = m; path = p; entered = e }

  pub same-entry : (a b : Entry) → a.«module» ≡ b.«module» → a.path ≡ b.path → a.entered ≡ b.entered → a ≡ b
  same-entry a b m p e = ap (λ x. entry_with x a.path a.entered) m ∙ (ap (λ x. entry_with b.«module» x a.entered) p ∙ ap (entry_with b.«module» b.path) e)

  entry-below : (trail on : Trail) (i : Instance) (kind : ℕ) → GoesOn (printed i.name) kind trail on → entry_below (entry_at modules 0 trail) i (module_at modules kind) ≡ entry_at modules kind on
  entry-below trail on i kind goes =
      same-entry (entry_below (entry_at modules 0 trail) i (module_at modules kind)) (entry_at modules kind on) refl (sym goes.path)
      (sym (ap (λ line. map (λ n. (module_at modules n).name) (reverse line)) goes.line
      ∙ ap (map (λ n. (module_at modules n).name)) (reverse-append trail.line.items (kind ∷ []))))

  -- the plain instance is entered
  pub step-entered : (below : ℕ) (trail on : Trail) (here : ℕ) (i : Instance) (kind : ℕ) (built : Built) → module_called modules i.«module» ≡ Some (module_at modules kind) → (module_at modules kind).leaf ≡ false
      → GoesOn (printed i.name) kind trail on
      → step modules (suc below) trail here i built
      ≡ (counted modules (entry_at modules kind on) (with_place (printed i.name) (Some here) (module_at modules kind) built) (entering_fault modules (entry_at modules kind on) (built.count + entered_count modules (module_at modules kind)))
      >>= (λ b. steps modules below kind on (length built.places) (module_at modules kind).instances b))
  step-entered below trail on here i kind built called leaf goes =
      step-plain (suc below) trail here i (module_at modules kind) built called leaf
      ∙ ap (λ e. enter (suc below) modules e (length built.places) (with_place (printed i.name) (Some here) (module_at modules kind) built)) (entry-below trail on i kind goes)

  pub step-refused : (below : ℕ) (trail on : Trail) (here : ℕ) (i : Instance) (kind : ℕ) (built : Built) (fault : ElabFault) → module_called modules i.«module» ≡ Some (module_at modules kind) → (module_at modules kind).leaf ≡ false
      → GoesOn (printed i.name) kind trail on → entering_fault modules (entry_at modules kind on) (built.count + entered_count modules (module_at modules kind)) ≡ Some fault
      → step modules (suc below) trail here i built ≡ Err fault
  step-refused below trail on here i kind built fault called leaf goes refused =
      step-entered below trail on here i kind built called leaf goes
      ∙ ap (λ o. counted modules (entry_at modules kind on) (with_place (printed i.name) (Some here) (module_at modules kind) built) o >>= (λ b. steps modules below kind on (length built.places) (module_at modules kind).instances b)) refused

  pub step-begun : (below : ℕ) (trail on : Trail) (here : ℕ) (i : Instance) (kind : ℕ) (built next : Built) → module_called modules i.«module» ≡ Some (module_at modules kind) → (module_at modules kind).leaf ≡ false
      → GoesOn (printed i.name) kind trail on → entering_fault modules (entry_at modules kind on) (built.count + entered_count modules (module_at modules kind)) ≡ None
      → next ≡ record (with_place (printed i.name) (Some here) (module_at modules kind) built) { count = built.count + entered_count modules (module_at modules kind) }
      → step modules (suc below) trail here i built ≡ steps modules below kind on (length built.places) (module_at modules kind).instances next
  step-begun below trail on here i kind built next called leaf goes clean is =
      step-entered below trail on here i kind built called leaf goes
      ∙ (ap (λ o. counted modules (entry_at modules kind on) (with_place (printed i.name) (Some here) (module_at modules kind) built) o >>= (λ b. steps modules below kind on (length built.places) (module_at modules kind).instances b)) clean
      ∙ ap (steps modules below kind on (length built.places) (module_at modules kind).instances) (sym is))

  -- ---- the instances of a module
  placed-same : (go : Entry → ℕ → Built → Result Built ElabFault) (trail : Trail) (kind here : ℕ) (i : Instance) (o : Option Module) (built : Built) → placed go (entry_at modules kind trail) here i o built ≡ placed go (entry_at modules 0 trail) here i o built
  placed-same go trail kind here i None built = refl
  placed-same go trail kind here i (Some child) built = refl

  steps-first : (levels kind : ℕ) (trail : Trail) (here : ℕ) (i : Instance) (is : List Instance) (built : Built)
      → steps modules levels kind trail here (i ∷ is) built ≡ (step modules levels trail here i built >>= (λ b. steps modules levels kind trail here is b))
  steps-first levels kind trail here i is built = ap (λ r. r >>= (λ b. steps modules levels kind trail here is b)) (placed-same (enter levels modules) trail kind here i (module_called modules i.«module») built)

  pub steps-on : (levels kind : ℕ) (trail : Trail) (here : ℕ) (is : List Instance) (k : ℕ) (i : Instance) (built next : Built) → k < length is → i ≡ slice_index_or is k i → step modules levels trail here i built ≡ Ok next
      → steps modules levels kind trail here (drop k is) built ≡ steps modules levels kind trail here (drop (k + 1) is) next
  steps-on levels kind trail here is k i built next below read done =
      ap (λ xs. steps modules levels kind trail here xs built) (drop_more is k i below ∙ ap (λ x. x ∷ drop (k + 1) is) (sym read))
      ∙ (steps-first levels kind trail here i (drop (k + 1) is) built ∙ ap (λ r. r >>= (λ b. steps modules levels kind trail here (drop (k + 1) is) b)) done)

  pub steps-fault : (levels kind : ℕ) (trail : Trail) (here : ℕ) (is : List Instance) (k : ℕ) (i : Instance) (built : Built) (fault : ElabFault) → k < length is → i ≡ slice_index_or is k i → step modules levels trail here i built ≡ Err fault
      → steps modules levels kind trail here (drop k is) built ≡ Err fault
  steps-fault levels kind trail here is k i built fault below read done =
      ap (λ xs. steps modules levels kind trail here xs built) (drop_more is k i below ∙ ap (λ x. x ∷ drop (k + 1) is) (sym read))
      ∙ (steps-first levels kind trail here i (drop (k + 1) is) built ∙ ap (λ r. r >>= (λ b. steps modules levels kind trail here (drop (k + 1) is) b)) done)

  -- a trail that was kept makes the same entry
  pub steps-trail : (levels kind : ℕ) (trail other : Trail) (here : ℕ) (is : List Instance) (built : Built) → SameTrail trail other → steps modules levels kind other here is built ≡ steps modules levels kind trail here is built
  steps-trail levels kind trail other here is built same =
      ap (λ e. all_placed (enter levels modules) modules e here is built)
      (same-entry (entry_at modules kind other) (entry_at modules kind trail) refl same.path (ap (λ line. map (λ n. (module_at modules n).name) (reverse line)) same.line))

  pub step-trail : (levels : ℕ) (trail other : Trail) (here : ℕ) (i : Instance) (built : Built) → SameTrail trail other → step modules levels other here i built ≡ step modules levels trail here i built
  step-trail levels trail other here i built same =
      ap (λ e. placed (enter levels modules) e here i (module_called modules i.«module») built)
      (same-entry (entry_at modules 0 other) (entry_at modules 0 trail) refl same.path (ap (λ line. map (λ n. (module_at modules n).name) (reverse line)) same.line))

  -- ---- the modules of places
  pub kinds-keep : (known later : List Bool) (places : List Place) (kinds : List ℕ) → ((n : ℕ) → is_known known n ≡ true → is_known later n ≡ true) → AreKinds modules known places kinds → AreKinds modules later places kinds
  kinds-keep known later places kinds keep are = record {
    size = are.size;
    each = λ p below. let its = are.each p below in record { below = its.below; called = its.called; entered = on (slice_index_or kinds p 0) its.entered };
  }
    where
      on : (k : ℕ) → ((module_at modules k).leaf ≡ true) ⊎ (is_known known k ≡ true) → ((module_at modules k).leaf ≡ true) ⊎ (is_known later k ≡ true)
      on k (inl leaf) = inl leaf
      on k (inr is) = inr (keep k is)

  pub kind-of : (known : List Bool) (name : List ℕ) (parent : Option ℕ) (kind : ℕ) → kind < length modules → module_called modules (module_at modules kind).name ≡ Some (module_at modules kind)
      → ((module_at modules kind).leaf ≡ true) ⊎ (is_known known kind ≡ true) → IsKind modules known (place_of_module name parent (module_at modules kind)) kind
  kind-of known name parent kind below called entered = record {
    below = below;
    called = called-printed modules (module_at modules kind).name (module_at modules kind) called;
    entered = entered;
  }

  pub kinds-more : (known : List Bool) (places : List Place) (kinds : List ℕ) (place : Place) (kind : ℕ) → IsKind modules known place kind → AreKinds modules known places kinds
      → AreKinds modules known (places ++ place ∷ []) (kinds ++ kind ∷ [])
  kinds-more known places kinds place kind is are = record {
    size = omega (arith, are.size, length-append kinds (kind ∷ []), length-append places (place ∷ []));
    each = λ p below. by_lt p (length places)
        (λ less. subst (λ x. IsKind modules known x (slice_index_or (kinds ++ kind ∷ []) p 0)) (sym (get_or_append_left places (place ∷ []) (place_at [] 0) p less))
        (subst (IsKind modules known (place_at places p)) (sym (get_or_append_left kinds (kind ∷ []) 0 p (omega (arith, less, are.size)))) (are.each p less)))
        (λ most.
        let last : length places + 0 ≡ p = omega (arith, most, below, length-append places (place ∷ [])) in
        let last_kind : length kinds + 0 ≡ p = omega (arith, last, are.size) in
        subst (λ x. IsKind modules known x (slice_index_or (kinds ++ kind ∷ []) p 0)) (sym (ap (place_at (places ++ place ∷ [])) (sym last) ∙ get_or-append-add places (place ∷ []) 0 (place_at [] 0)))
        (subst (IsKind modules known place) (sym (ap (λ k. slice_index_or (kinds ++ kind ∷ []) k 0) (sym last_kind) ∙ get_or-append-add kinds (kind ∷ []) 0 0)) is));
  }

same-kinds : (modules : List Module) (known : List Bool) (ps places : List Place) (ks kinds : List ℕ) → ps ≡ places → ks ≡ kinds → AreKinds modules known places kinds → AreKinds modules known ps ks
same-kinds modules known ps places ks kinds p k are = rw (p, k) are

-- a place of a module more, as it was put
pub kinds-put : (modules : List Module) (known : List Bool) (places ps : List Place) (kinds ks : List ℕ) (name : List ℕ) (parent : Option ℕ) (kind : ℕ) (m : Module) → m ≡ module_at modules kind
    → ps ≡ places ++ place_of_module name parent m ∷ [] → ks ≡ kinds ++ kind ∷ [] → kind < length modules → module_called modules (module_at modules kind).name ≡ Some (module_at modules kind)
    → ((module_at modules kind).leaf ≡ true) ⊎ (is_known known kind ≡ true) → AreKinds modules known places kinds → AreKinds modules known ps ks
kinds-put modules known places ps kinds ks name parent kind m is put more below called entered are =
    same-kinds modules known ps (places ++ place_of_module name parent (module_at modules kind) ∷ []) ks (kinds ++ kind ∷ [])
    (put ∙ ap (λ x. places ++ place_of_module name parent x ∷ []) is) more
    (kinds-more modules known places kinds (place_of_module name parent (module_at modules kind)) kind (kind-of modules known name parent kind below called entered) are)

-- ---- modules by number
position-none : {X : Type 0} (t : X → Bool) (k : ℕ) (xs : List X) → position_from t k xs ≡ None → find t xs ≡ None
position-none t k [] none = refl
position-none t k (x ∷ xs) none = by_test (t x) refl none (position-none t (k + 1) xs)
  where
    by_test : (b : Bool) → t x ≡ b → position_from t k (x ∷ xs) ≡ None → (position_from t (k + 1) xs ≡ None → find t xs ≡ None) → find t (x ∷ xs) ≡ None
    by_test true e none rest = absurd (let found : position_from t k (x ∷ xs) ≡ Some k = rw e refl in cc)
    by_test false e none rest = rw e (rest (rw e at none))

record IsFoundAt {X : Type 0} (t : X → Bool) (j n : ℕ) (xs : List X) (d : X) : Type 0 where
  place : ℕ
  at_place : n ≡ j + place
  below : place < length xs
  found : find t xs ≡ Some (slice_index_or xs place d)

position-found : {X : Type 0} (t : X → Bool) (j n : ℕ) (xs : List X) (d : X) → position_from t j xs ≡ Some n → IsFoundAt t j n xs d
position-found t j n [] d found = absurd (cc)
position-found t j n (x ∷ xs) d found = by_test (t x) refl found (position-found t (j + 1) n xs d)
  where
    by_test : (b : Bool) → t x ≡ b → position_from t j (x ∷ xs) ≡ Some n → (position_from t (j + 1) xs ≡ Some n → IsFoundAt t (j + 1) n xs d) → IsFoundAt t j n (x ∷ xs) d
    by_test true e found rest =
        let here : position_from t j (x ∷ xs) ≡ Some j = rw e refl in
        let same : j ≡ n = cc in
        record { place = 0; at_place = omega (arith, same); below = omega arith; found = rw e refl }
    by_test false e found rest =
        let more = rest (rw e at found) in
        record { place = suc more.place; at_place = omega (arith, more.at_place); below = omega (arith, more.below); found = rw e more.found }

pub called-none : (modules : List Module) (name : List ℕ) → module_number modules name ≡ None → module_called modules name ≡ None
called-none modules name none = position-none (λ m. bytes_eq m.name name) 0 modules none

pub number-below : (modules : List Module) (name : List ℕ) (k : ℕ) → module_number modules name ≡ Some k → k < length modules
number-below modules name k found =
    let at = position-found (λ m. bytes_eq m.name name) 0 k modules (module_at [] 0) found in
    omega (arith, at.at_place, at.below)

pub called-number : (modules : List Module) (name : List ℕ) (k : ℕ) → module_number modules name ≡ Some k → module_called modules name ≡ Some (module_at modules k)
called-number modules name k found =
    let at = position-found (λ m. bytes_eq m.name name) 0 k modules (module_at [] 0) found in
    let place : at.place ≡ k = omega (arith, at.at_place) in
    at.found ∙ ap (λ j. Some (module_at modules j)) place

pub called-itself : (modules : List Module) (name : List ℕ) (m : Module) → module_called modules name ≡ Some m → module_called modules m.name ≡ Some m
called-itself modules name m called = ap (module_called modules) (called-name modules name m called) ∙ called

-- the trail without its last instance
pub went-back : {X : Type 0} (xs ys zs : List X) (x : X) → ys ≡ xs ++ x ∷ [] → zs ≡ take (length ys - 1) ys → zs ≡ xs
went-back xs ys zs x longer is =
    let size : length ys - 1 ≡ length xs = omega (arith, ap length longer, length-append xs (x ∷ [])) in
    is ∙ (ap (λ n. take n ys) size ∙ (ap (take (length xs)) longer ∙ take-append_seam xs (x ∷ [])))
