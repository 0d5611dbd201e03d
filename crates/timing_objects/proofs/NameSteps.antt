-- What a name means among names, by searches through their list.
use Rattle.std.proofs.Common.{◌≡◌, ℕ, ◌+◌, ◌<◌, ◌==◌, ◌&&◌, suc, Bool, true, false, cond, List, [], ◌∷◌, ◌++◌, map, filter, drop, length, get_or, Option, Some, None, refl, sym, ◌∙◌, ap, arith, subst, append_assoc}
use Rattle.std.specs.Prelude.{find, take_while, not, ◌||◌, if◌then◌else◌, All}
use Rattle.std.specs.List.{list_any, prefix_len}
use Rattle.std.specs.Option.{option_map, option_or}
use Rattle.std.specs.Str.{bytes_eq}
use Rattle.std.proofs.lemmas.List.{map-append, at_drop_more}
use Rattle.std.proofs.lemmas.List.Elements.{All-head, All-tail, All-push, filter_agree}
use Rattle.bud_base.specs.declared.ids.PinId.{PinId}
use Rattle.bud_design.specs.declared.designs.Pin.{Pin}
use Rattle.bud_design.specs.Designs.{Design, pin_at, is_bit, bits_of, leads_vector, named_ports}
use Rattle.bud_design.specs.Lists.{only}
use Rattle.bud_design.specs.Names.{Named, object_of, meaning, plain}
use Rattle.timing_objects.specs.PortNames.{design_of, numbers, named_as, HasPlain, bit_named, vector_named, has_port, comes_before, leads_among}
use Rattle.timing_objects.specs.declared.port_names.PortName.{PortName}

-- the only one of those from here on, where one was seen before or not
abbrev pub only_behind : {X : Type 0} → Option X → List X → Option X
only_behind None xs = only xs
only_behind (Some x) [] = Some x
only_behind (Some x) (y ∷ ys) = None

find-printed : (names : List PortName) (name : List ℕ) → object_of (find (λ o. bytes_eq o.name name) (map named_as names)) ≡ option_map (λ n. numbers n.pins) (find (λ n. bytes_eq n.printed name) names)
find-printed [] name = refl
find-printed (n ∷ ns) name = by_test (bytes_eq n.printed name) refl (find-printed ns name)
  where
    by_test : (b : Bool) → bytes_eq n.printed name ≡ b
        → object_of (find (λ o. bytes_eq o.name name) (map named_as ns)) ≡ option_map (λ n. numbers n.pins) (find (λ n. bytes_eq n.printed name) ns)
        → object_of (find (λ o. bytes_eq o.name name) (map named_as (n ∷ ns))) ≡ option_map (λ n. numbers n.pins) (find (λ n. bytes_eq n.printed name) (n ∷ ns))
    by_test true e rest = rw e refl
    by_test false e rest = rw e rest

filter-plain : (names : List PortName) (name : List ℕ) → All HasPlain names → filter (λ o. bytes_eq (plain o.name) name) (map named_as names) ≡ map named_as (filter (λ n. bytes_eq n.plain name) names)
filter-plain [] name plains = refl
filter-plain (n ∷ ns) name plains =
    by_test (bytes_eq n.plain name) refl (ap (λ (t : List ℕ). bytes_eq t name) (sym (All-head HasPlain n ns plains))) (filter-plain ns name (All-tail HasPlain n ns plains))
  where
    by_test : (b : Bool) → bytes_eq n.plain name ≡ b → bytes_eq (plain n.printed) name ≡ bytes_eq n.plain name
        → filter (λ o. bytes_eq (plain o.name) name) (map named_as ns) ≡ map named_as (filter (λ n. bytes_eq n.plain name) ns)
        → filter (λ o. bytes_eq (plain o.name) name) (map named_as (n ∷ ns)) ≡ map named_as (filter (λ n. bytes_eq n.plain name) (n ∷ ns))
    by_test true e same rest = rw (same, e) (ap (λ (os : List (Named (List ℕ))). named_as n ∷ os) rest)
    by_test false e same rest = rw (same, e) rest

only-map : (names : List PortName) → object_of (only (map named_as names)) ≡ option_map (λ n. numbers n.pins) (only names)
only-map [] = refl
only-map (n ∷ []) = refl
only-map (n ∷ m ∷ ns) = refl

-- what a name means, by the two searches
pub meaning-names : (names : List PortName) (name : List ℕ) → All HasPlain names
    → meaning (map named_as names) name ≡ option_or (option_map (λ n. numbers n.pins) (find (λ n. bytes_eq n.printed name) names)) (option_map (λ n. numbers n.pins) (only (filter (λ n. bytes_eq n.plain name) names)))
meaning-names names name plains = rw (find-printed names name, filter-plain names name plains, only-map (filter (λ n. bytes_eq n.plain name) names)) refl

pub meaning-printed : (names : List PortName) (name : List ℕ) (n : PortName) → All HasPlain names → find (λ n. bytes_eq n.printed name) names ≡ Some n
    → meaning (map named_as names) name ≡ Some (numbers n.pins)
meaning-printed names name n plains found = meaning-names names name plains ∙ rw found refl

pub meaning-plain : (names : List PortName) (name : List ℕ) (o : Option PortName) → All HasPlain names → find (λ n. bytes_eq n.printed name) names ≡ None
    → only (filter (λ n. bytes_eq n.plain name) names) ≡ o → meaning (map named_as names) name ≡ option_map (λ n. numbers n.pins) o
meaning-plain names name o plains none is = meaning-names names name plains ∙ rw (none, is) refl

-- ---- one name more
numbers-drop : (bits : List PinId) (i : ℕ) (d : PinId) → i < length bits → numbers (drop i bits) ≡ (get_or bits i d).0 ∷ numbers (drop (i + 1) bits)
numbers-drop bits i d below = at_drop_more numbers bits i d below

named-push : (names names' : List PortName) (n : PortName) (os : List (Named (List ℕ))) → names' ≡ names ++ n ∷ [] → map named_as names ++ named_as n ∷ os ≡ map named_as names' ++ os
named-push names names' n os pushed =
    sym (append_assoc (map named_as names) (named_as n ∷ []) os)
    ∙ ap (λ (xs : List (Named (List ℕ))). xs ++ os) (sym (ap (map named_as) pushed ∙ map-append named_as names (n ∷ [])))

pub plain-push : (names names' : List PortName) (n : PortName) → names' ≡ names ++ n ∷ [] → HasPlain n → All HasPlain names → All HasPlain names'
plain-push names names' n pushed here plains = subst (All HasPlain) (sym pushed) (All-push HasPlain names n plains here)

pub names-more : (f : ℕ → Named (List ℕ)) (all : List (Named (List ℕ))) (names names' : List PortName) (n : PortName) (bits : List PinId) (i : ℕ) (d : PinId)
    → i < length bits → names' ≡ names ++ n ∷ [] → named_as n ≡ f (get_or bits i d).0
    → all ≡ map named_as names ++ map f (numbers (drop i bits)) → all ≡ map named_as names' ++ map f (numbers (drop (i + 1) bits))
names-more f all names names' n bits i d below pushed is so_far =
    so_far ∙ (ap (λ (ks : List ℕ). map named_as names ++ map f ks) (numbers-drop bits i d below)
    ∙ (ap (λ (o : Named (List ℕ)). map named_as names ++ o ∷ map f (numbers (drop (i + 1) bits))) (sym is)
    ∙ named-push names names' n (map f (numbers (drop (i + 1) bits))) pushed))

pub names-more_if : (t : ℕ → Bool) (f : ℕ → Named (List ℕ)) (all : List (Named (List ℕ))) (names names' : List PortName) (n : PortName) (bits : List PinId) (i : ℕ) (d : PinId)
    → i < length bits → t (get_or bits i d).0 ≡ true → names' ≡ names ++ n ∷ [] → named_as n ≡ f (get_or bits i d).0
    → all ≡ map named_as names ++ map f (filter t (numbers (drop i bits))) → all ≡ map named_as names' ++ map f (filter t (numbers (drop (i + 1) bits)))
names-more_if t f all names names' n bits i d below passes pushed is so_far =
    so_far ∙ (ap (λ (ks : List ℕ). map named_as names ++ map f (filter t ks)) (numbers-drop bits i d below)
    ∙ (ap (λ (b : Bool). map named_as names ++ map f (cond b ((get_or bits i d).0 ∷ filter t (numbers (drop (i + 1) bits))) (filter t (numbers (drop (i + 1) bits))))) passes
    ∙ (ap (λ (o : Named (List ℕ)). map named_as names ++ o ∷ map f (filter t (numbers (drop (i + 1) bits)))) (sym is)
    ∙ named-push names names' n (map f (filter t (numbers (drop (i + 1) bits)))) pushed)))

pub names-skip_if : (t : ℕ → Bool) (f : ℕ → Named (List ℕ)) (all : List (Named (List ℕ))) (names names' : List PortName) (bits : List PinId) (i : ℕ) (d : PinId)
    → i < length bits → t (get_or bits i d).0 ≡ false → names' ≡ names
    → all ≡ map named_as names ++ map f (filter t (numbers (drop i bits))) → all ≡ map named_as names' ++ map f (filter t (numbers (drop (i + 1) bits)))
names-skip_if t f all names names' bits i d below fails same so_far =
    so_far ∙ (ap (λ (ks : List ℕ). map named_as names ++ map f (filter t ks)) (numbers-drop bits i d below)
    ∙ (ap (λ (b : Bool). map named_as names ++ map f (cond b ((get_or bits i d).0 ∷ filter t (numbers (drop (i + 1) bits))) (filter t (numbers (drop (i + 1) bits))))) fails
    ∙ ap (λ (ns : List PortName). map named_as ns ++ map f (filter t (numbers (drop (i + 1) bits)))) (sym same)))

-- ---- all names
take_while-yes : (p : ℕ → Bool) (u : ℕ) (us : List ℕ) → p u ≡ true → take_while p (u ∷ us) ≡ u ∷ take_while p us
take_while-yes p u us passes =
    let one : 1 + prefix_len p us ≡ suc (prefix_len p us) = omega arith in
    rw (passes, one) refl

before-is : (pins : List Pin) (port : List ℕ) (v : ℕ) (bits : List ℕ) → comes_before pins port v bits ≡ list_any (has_port pins port) (take_while (λ u. not (u == v)) bits)
before-is pins port v [] = refl
before-is pins port v (u ∷ us) = by_test (u == v) refl (before-is pins port v us)
  where
    by_test : (b : Bool) → (u == v) ≡ b → comes_before pins port v us ≡ list_any (has_port pins port) (take_while (λ u. not (u == v)) us)
        → comes_before pins port v (u ∷ us) ≡ list_any (has_port pins port) (take_while (λ u. not (u == v)) (u ∷ us))
    by_test true e rest = rw e refl
    by_test false e rest =
        ap (λ (b : Bool). if b then false else (has_port pins port u || comes_before pins port v us)) e
        ∙ (ap (λ (b : Bool). has_port pins port u || b) rest
        ∙ sym (ap (list_any (has_port pins port)) (take_while-yes (λ u. not (u == v)) u us (ap not e))))

leads-are : (pins : List Pin) (v : ℕ) → leads_among pins (bits_of (design_of pins) 0) v ≡ leads_vector (design_of pins) 0 v
leads-are pins v = ap (λ (b : Bool). is_bit (pin_at pins v).bit && not b) (before-is pins (pin_at pins v).port v (bits_of (design_of pins) 0))

pub port-names-are : (pins : List Pin) (bits : List ℕ) (names : List (Named (List ℕ))) → bits ≡ bits_of (design_of pins) 0
    → names ≡ map (bit_named pins) bits ++ map (vector_named pins bits) (filter (leads_among pins bits) bits) → names ≡ named_ports (design_of pins) 0
port-names-are pins bits names is named =
    let d : Design = design_of pins in
    named ∙ (ap (λ (ks : List ℕ). map (bit_named pins) ks ++ map (vector_named pins ks) (filter (leads_among pins ks) ks)) is
    ∙ ap (λ (ks : List ℕ). map (bit_named pins) (bits_of d 0) ++ map (vector_named pins (bits_of d 0)) ks)
    (filter_agree (leads_among pins (bits_of d 0)) (leads_vector d 0) (leads-are pins) (bits_of d 0)))
