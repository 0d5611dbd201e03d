-- The exceptions of a class that match are the same whether they are sought in the class or among all.
use Rattle.std.specs.Prelude.{◌≡◌, ℕ, suc, ◌<◌, slice_index_or, ◌-◌, ◌*ℤ◌, ◌==◌, ◌&&◌, ◌||◌, ℤ, pos, ◌+ℤ◌, ◌≤ℤ◌, int_le, nat_lt, Bool, true, false, List, [], ◌∷◌, map, filter, filter_map, length, Option, Some, None, unwrap_or, All, if◌then◌else◌}
use Rattle.std.specs.List.{list_any, cons_option}
use Rattle.std.specs.Option.{option_or}
use Rattle.std.proofs.Common.{refl, sym, ◌∙◌, ap, arith}
use Rattle.std.proofs.lemmas.Int.{ints}
use Rattle.std.proofs.lemmas.List.{get_or_default}
use Rattle.bud_design.specs.declared.clocks.Clock.{Clock}
use Rattle.bud_design.specs.declared.clocks.Capture.{Capture}
use Rattle.bud_design.specs.declared.clocks.Exception.{Exception}
use Rattle.bud_design.specs.declared.clocks.ExceptionKind.{ExceptionKind}
use Rattle.bud_design.specs.declared.clocks.ExceptionKind.TheVariants.{FalsePath, Multicycle, MaxDelay}
use Rattle.bud_design.specs.declared.clocks.Constraints.{Constraints}
use Rattle.bud_design.specs.declared.layers.Met.{Met}
use Rattle.bud_design.specs.declared.layers.Class.{Class}
use Rattle.bud_design.specs.Clocks.{relation, clock_at}
use Rattle.bud_design.specs.Lists.{least}
use Rattle.bud_design.specs.Exceptions.{has_met, meets_to, is_false_kind, most_delay, more_cycles, class_requirement}
use Rattle.bud_design.proofs.ClassLaws.{pairs-head, pairs-tail}
use Rattle.path_requirements.specs.declared.requirements.Bounds.{Bounds}
use Rattle.path_requirements.specs.Bounds.{IsModest, no_bounds, bounds_with, bounds_with_all}
use Rattle.path_requirements.specs.Matching.{kind_met, kinds_met}
use Rattle.path_requirements.proofs.Leasts.{is_at_most, least-at_most, lesser-at_most, same-by_tests}
use Rattle.path_requirements.proofs.Searching.{Rise}

abbrev any_option : {X : Type 0} → (X → Bool) → Option X → Bool
any_option p None = false
any_option p (Some x) = p x

any-cons : {X : Type 0} (p : X → Bool) (o : Option X) (xs : List X) → list_any p (cons_option o xs) ≡ any_option p o || list_any p xs
any-cons p None xs = refl
any-cons p (Some x) xs = refl

any-filter_map : {X Y : Type 0} (p : Y → Bool) (f : X → Option Y) (xs : List X) → list_any p (filter_map f xs) ≡ list_any (λ x. any_option p (f x)) xs
any-filter_map p f [] = refl
any-filter_map p f (x ∷ xs) = any-cons p (f x) (filter_map f xs) ∙ ap (λ b. any_option p (f x) || b) (any-filter_map p f xs)

any-map_filter : {A B : Type 0} (p : B → Bool) (f : A → B) (q : A → Bool) (xs : List A) → list_any p (map f (filter q xs)) ≡ list_any (λ x. q x && p (f x)) xs
any-map_filter p f q [] = refl
any-map_filter {A} {B} p f q (x ∷ xs) = by_test (q x) refl (any-map_filter p f q xs)
  where
    by_test : (b : Bool) → q x ≡ b → list_any p (map f (filter q xs)) ≡ list_any (λ y. q y && p (f y)) xs → list_any p (map f (filter q (x ∷ xs))) ≡ list_any (λ y. q y && p (f y)) (x ∷ xs)
    by_test true e rest = rw (e, rest) refl
    by_test false e rest = rw (e, rest) refl

or-middle : (a b c d : Bool) → (a || b) || (c || d) ≡ (a || c) || (b || d)
or-middle true b c d = refl
or-middle false true true d = refl
or-middle false true false d = refl
or-middle false false c d = refl

any-or : {A : Type 0} (p q : A → Bool) (xs : List A) → list_any (λ x. p x || q x) xs ≡ list_any p xs || list_any q xs
any-or p q [] = refl
any-or p q (x ∷ xs) = ap (λ b. (p x || q x) || b) (any-or p q xs) ∙ or-middle (p x) (q x) (list_any p xs) (list_any q xs)

any-same : {A : Type 0} (p q : A → Bool) → ((x : A) → p x ≡ q x) → (xs : List A) → list_any p xs ≡ list_any q xs
any-same p q same [] = refl
any-same p q same (x ∷ xs) = rw (same x, any-same p q same xs) refl

any-none : {A : Type 0} (xs : List A) → list_any (λ x. false) xs ≡ false
any-none [] = refl
any-none (x ∷ xs) = any-none xs

-- the exception is the one that is met
abbrev is_met : Capture → Met → Exception → Bool
is_met x m e = (m.number == e.number && m.steps == length e.groups) && meets_to e x

spread : (a b c d : Bool) → ((a || b) && c) && d ≡ ((a && c) && d) || ((b && c) && d)
spread true b c d = by_rest c d b
  where
    by_rest : (c d b : Bool) → c && d ≡ (c && d) || ((b && c) && d)
    by_rest true true b = refl
    by_rest true false true = refl
    by_rest true false false = refl
    by_rest false d true = refl
    by_rest false d false = refl
spread false b c d = refl

not-later : (x : Capture) (p : ExceptionKind → Bool) (m : Met) (e : Exception) (es : List Exception) → m.number ≡ e.number → All (λ g. nat_lt e.number g.number ≡ true) es
    → list_any (λ e. is_met x m e && p e.kind) es ≡ false
not-later x p m e [] same above = refl
not-later x p m e (g ∷ gs) same above =
    let here = above 0 g (omega arith) in
    let other : (m.number == g.number) ≡ false = grind arith in
    rw other (not-later x p m e gs same (λ k d below. above (suc k) d (omega (arith, below))))

-- among exceptions of different numbers at most one is met
any-met : (x : Capture) (p : ExceptionKind → Bool) (m : Met) (es : List Exception) → Rise es → list_any (λ e. is_met x m e && p e.kind) es ≡ any_option p (kind_met es x m)
any-met x p m [] rise = refl
any-met x p m (e ∷ es) rise = by_number (e.number == m.number) refl (any-met x p m es (pairs-tail (λ x y. nat_lt x.number y.number ≡ true) e es rise))
  where
    first : (b c : Bool) → (true && b) && c && p e.kind || false ≡ any_option p (if b && c then Some e.kind else None)
    first true true = by_kind (p e.kind)
      where
        by_kind : (d : Bool) → d || false ≡ d
        by_kind true = refl
        by_kind false = refl
    first true false = refl
    first false c = refl

    by_number : (b : Bool) → (e.number == m.number) ≡ b → list_any (λ e. is_met x m e && p e.kind) es ≡ any_option p (kind_met es x m)
        → list_any (λ e. is_met x m e && p e.kind) (e ∷ es) ≡ any_option p (kind_met (e ∷ es) x m)
    by_number true same rest =
        let equal : m.number ≡ e.number = grind arith in
        let flipped : (m.number == e.number) ≡ true = grind arith in
        rw (same, flipped, not-later x p m e es equal (pairs-head (λ x y. nat_lt x.number y.number ≡ true) e es rise)) (first (m.steps == length e.groups) (meets_to e x))
    by_number false other rest =
        let flipped : (m.number == e.number) ≡ false = grind arith in
        rw (other, flipped) rest

-- the kinds that match, sought among all exceptions and in the class, pass the same tests
any-kinds : (es : List Exception) (x : Capture) (p : ExceptionKind → Bool) (ms : List Met) → Rise es
    → list_any (λ e. (list_any (λ m. m.number == e.number && m.steps == length e.groups) ms && meets_to e x) && p e.kind) es ≡ list_any p (kinds_met es x ms)
any-kinds es x p [] rise = any-none es
any-kinds es x p (m ∷ ms) rise =
    any-same (λ e. (list_any (λ m. m.number == e.number && m.steps == length e.groups) (m ∷ ms) && meets_to e x) && p e.kind)
    (λ e. (is_met x m e && p e.kind) || ((list_any (λ m. m.number == e.number && m.steps == length e.groups) ms && meets_to e x) && p e.kind))
    (λ e. spread (m.number == e.number && m.steps == length e.groups) (list_any (λ m. m.number == e.number && m.steps == length e.groups) ms) (meets_to e x) (p e.kind)) es
    ∙ (any-or (λ e. is_met x m e && p e.kind) (λ e. (list_any (λ m. m.number == e.number && m.steps == length e.groups) ms && meets_to e x) && p e.kind) es
    ∙ (ap (λ b. b || list_any (λ e. (list_any (λ m. m.number == e.number && m.steps == length e.groups) ms && meets_to e x) && p e.kind) es) (any-met x p m es rise)
    ∙ (ap (λ b. any_option p (kind_met es x m) || b) (any-kinds es x p ms rise) ∙ sym (any-cons p (kind_met es x m) (kinds_met es x ms)))))

-- the exceptions of the class that match
abbrev kinds_of : List Exception → Class → Capture → List ExceptionKind
kinds_of es k x = map (λ e. e.kind) (filter (λ e. has_met k e && meets_to e x) es)

pub same-tests : (es : List Exception) (k : Class) (x : Capture) → Rise es → (p : ExceptionKind → Bool) → list_any p (kinds_of es k x) ≡ list_any p (kinds_met es x k.exceptions)
same-tests es k x rise p = any-map_filter p (λ (e : Exception). e.kind) (λ (e : Exception). has_met k e && meets_to e x) es ∙ any-kinds es x p k.exceptions rise

-- a least number of kinds that pass the same tests is the same
least-same : (f : ExceptionKind → Option ℤ) (kinds others : List ExceptionKind) → ((p : ExceptionKind → Bool) → list_any p kinds ≡ list_any p others)
    → least (filter_map f kinds) ≡ least (filter_map f others)
least-same f kinds others same =
    same-by_tests (least (filter_map f kinds)) (least (filter_map f others))
    (λ limit.
    least-at_most (filter_map f kinds) limit
    ∙ (any-filter_map (λ z. int_le z limit) f kinds
    ∙ (same (λ kind. any_option (λ z. int_le z limit) (f kind))
    ∙ (sym (any-filter_map (λ z. int_le z limit) f others) ∙ sym (least-at_most (filter_map f others) limit)))))

or-assoc : (a b c : Bool) → (a || b) || c ≡ a || (b || c)
or-assoc true b c = refl
or-assoc false b c = refl

or-swap : (a b c : Bool) → (a || b) || c ≡ b || (a || c)
or-swap true true c = refl
or-swap true false c = refl
or-swap false b c = refl

or-true : (a b : Bool) → true || b ≡ a || (true || b)
or-true true b = refl
or-true false b = refl

module _ (launch capture : Clock) where
  with_all-never : (bounds : Bounds) (kinds : List ExceptionKind) → (bounds_with_all launch capture bounds kinds).never ≡ bounds.never || list_any is_false_kind kinds
  with_all-never bounds [] = grind arith
  with_all-never bounds (FalsePath ∷ kinds) = with_all-never (bounds_with launch capture bounds FalsePath) kinds ∙ or-true bounds.never (list_any is_false_kind kinds)
  with_all-never bounds (Multicycle n by_launch ∷ kinds) = with_all-never (bounds_with launch capture bounds (Multicycle n by_launch)) kinds
  with_all-never bounds (MaxDelay amount ∷ kinds) = with_all-never (bounds_with launch capture bounds (MaxDelay amount)) kinds

  with_all-most : (bounds : Bounds) (kinds : List ExceptionKind) (limit : ℤ)
      → is_at_most (bounds_with_all launch capture bounds kinds).most limit ≡ is_at_most bounds.most limit || list_any (λ z. int_le z limit) (filter_map most_delay kinds)
  with_all-most bounds [] limit = grind arith
  with_all-most bounds (FalsePath ∷ kinds) limit = with_all-most (bounds_with launch capture bounds FalsePath) kinds limit
  with_all-most bounds (Multicycle n by_launch ∷ kinds) limit = with_all-most (bounds_with launch capture bounds (Multicycle n by_launch)) kinds limit
  with_all-most bounds (MaxDelay amount ∷ kinds) limit =
      with_all-most (bounds_with launch capture bounds (MaxDelay amount)) kinds limit
      ∙ (ap (λ b. b || list_any (λ z. int_le z limit) (filter_map most_delay kinds)) (lesser-at_most amount bounds.most limit)
      ∙ or-swap (int_le amount limit) (is_at_most bounds.most limit) (list_any (λ z. int_le z limit) (filter_map most_delay kinds)))

  with_all-more : (bounds : Bounds) (kinds : List ExceptionKind) (limit : ℤ)
      → is_at_most (bounds_with_all launch capture bounds kinds).more limit ≡ is_at_most bounds.more limit || list_any (λ z. int_le z limit) (filter_map (more_cycles launch capture) kinds)
  with_all-more bounds [] limit = grind arith
  with_all-more bounds (FalsePath ∷ kinds) limit = with_all-more (bounds_with launch capture bounds FalsePath) kinds limit
  with_all-more bounds (MaxDelay amount ∷ kinds) limit = with_all-more (bounds_with launch capture bounds (MaxDelay amount)) kinds limit
  with_all-more bounds (Multicycle n by_launch ∷ kinds) limit =
      with_all-more (bounds_with launch capture bounds (Multicycle n by_launch)) kinds limit
      ∙ (ap (λ b. b || list_any (λ z. int_le z limit) (filter_map (more_cycles launch capture) kinds)) (lesser-at_most cycles bounds.more limit)
      ∙ or-swap (int_le cycles limit) (is_at_most bounds.more limit) (list_any (λ z. int_le z limit) (filter_map (more_cycles launch capture) kinds)))
    where
      cycles : ℤ
      cycles = pos (n - 1) *ℤ (if by_launch then launch.period else capture.period)

  -- what is asked one after the other is what the kinds ask for
  pub all-never : (kinds : List ExceptionKind) → (bounds_with_all launch capture no_bounds kinds).never ≡ list_any is_false_kind kinds
  all-never kinds = with_all-never no_bounds kinds

  pub all-most : (kinds : List ExceptionKind) → (bounds_with_all launch capture no_bounds kinds).most ≡ least (filter_map most_delay kinds)
  all-most kinds =
      same-by_tests (bounds_with_all launch capture no_bounds kinds).most (least (filter_map most_delay kinds))
      (λ limit. with_all-most no_bounds kinds limit ∙ sym (least-at_most (filter_map most_delay kinds) limit))

  pub all-more : (kinds : List ExceptionKind) → (bounds_with_all launch capture no_bounds kinds).more ≡ least (filter_map (more_cycles launch capture) kinds)
  all-more kinds =
      same-by_tests (bounds_with_all launch capture no_bounds kinds).more (least (filter_map (more_cycles launch capture) kinds))
      (λ limit. with_all-more no_bounds kinds limit ∙ sym (least-at_most (filter_map (more_cycles launch capture) kinds) limit))

-- the requirement by bounds
abbrev pub required_within : Bounds → ℤ → Option ℤ
required_within bounds apart = if bounds.never then None else option_or bounds.most (Some (apart +ℤ unwrap_or bounds.more (pos 0)))

-- the requirement by class is that by the states that the class lists
pub class_requirement-bounds : (all : Constraints) (k : Class) (x : Capture) (launch capture : Clock) → Rise all.exceptions → clock_at all.clocks k.clock ≡ launch → clock_at all.clocks x.clock ≡ capture
    → class_requirement all k x ≡ required_within (bounds_with_all launch capture no_bounds (kinds_met all.exceptions x k.exceptions)) (relation launch k.edge capture x.edge)
class_requirement-bounds all k x launch capture rise first second =
    let kinds = kinds_of all.exceptions k x in
    let others = kinds_met all.exceptions x k.exceptions in
    let same = same-tests all.exceptions k x rise in
    rw (first, second, all-never launch capture others, all-most launch capture others, all-more launch capture others, same is_false_kind, least-same most_delay kinds others same, least-same (more_cycles launch capture) kinds others same) refl

-- the requirement, where a false path matches, where a maximum delay does, and by the relation
pub requirement-never : (all : Constraints) (k : Class) (x : Capture) (launch capture : Clock) (bounds : Bounds) → Rise all.exceptions → clock_at all.clocks k.clock ≡ launch → clock_at all.clocks x.clock ≡ capture
    → bounds ≡ bounds_with_all launch capture no_bounds (kinds_met all.exceptions x k.exceptions) → bounds.never ≡ true → class_requirement all k x ≡ None
requirement-never all k x launch capture bounds rise first second is never =
    class_requirement-bounds all k x launch capture rise first second ∙ rw (← is, never) refl

pub requirement-most : (all : Constraints) (k : Class) (x : Capture) (launch capture : Clock) (bounds : Bounds) (amount : ℤ) → Rise all.exceptions → clock_at all.clocks k.clock ≡ launch → clock_at all.clocks x.clock ≡ capture
    → bounds ≡ bounds_with_all launch capture no_bounds (kinds_met all.exceptions x k.exceptions) → bounds.never ≡ false → bounds.most ≡ Some amount → class_requirement all k x ≡ Some amount
requirement-most all k x launch capture bounds amount rise first second is never most =
    class_requirement-bounds all k x launch capture rise first second ∙ rw (← is, never, most) refl

pub requirement-apart : (all : Constraints) (k : Class) (x : Capture) (launch capture : Clock) (bounds : Bounds) (apart : ℤ) → Rise all.exceptions → clock_at all.clocks k.clock ≡ launch → clock_at all.clocks x.clock ≡ capture
    → bounds ≡ bounds_with_all launch capture no_bounds (kinds_met all.exceptions x k.exceptions) → bounds.never ≡ false → bounds.most ≡ None → apart ≡ relation launch k.edge capture x.edge
    → class_requirement all k x ≡ Some (apart +ℤ unwrap_or bounds.more (pos 0))
requirement-apart all k x launch capture bounds apart rise first second is never most apart_is =
    class_requirement-bounds all k x launch capture rise first second ∙ rw (← is, never, most, ← apart_is) refl

pub unwrap-modest : (o : Option ℤ) → IsModest o → (pos 0 ≤ℤ unwrap_or o (pos 0)) × (unwrap_or o (pos 0) ≤ℤ pos 4294967294000000000)
unwrap-modest None modest = (omega (arith, ints), omega (arith, ints))
unwrap-modest (Some z) modest = modest

pub clock_at-from_index : (clocks : List Clock) (k : ℕ) (c : Clock) → k < length clocks → c ≡ slice_index_or clocks k c → clock_at clocks k ≡ c
clock_at-from_index clocks k c below is = get_or_default clocks k (clock_at [] 0) c below ∙ sym is
