-- Delays at ports: one at each pin from each edge of each clock, and what holds of each goes on.
use Rattle.std.proofs.Common.{◌≡◌, ℕ, ◌<◌, ◌==◌, ◌&&◌, Bool, true, false, List, [], ◌∷◌, ◌++◌, map, length, get_or, Ok, refl, sym, ◌∙◌, ap, subst, arith, true≢false, eq-eqb}
use Rattle.std.specs.Prelude.{All, not, ℤ, int_le, if◌then◌else◌}
use Rattle.std.specs.List.{list_any}
use Rattle.std.specs.Str.{bytes_eq}
use Rattle.std.proofs.lemmas.Bool.Decides.{Decides-eqb}
use Rattle.std.proofs.lemmas.List.Elements.{All-nil, All-cons, All-head, All-tail, All-map, All-filter, All-weaker, All-push}
use Rattle.std.proofs.lemmas.List.Kept.{AllPairs-cons, AllPairs-filter}
use Rattle.std.proofs.lemmas.List.Quantifiers.{all_pairs_push}
use Rattle.bud_base.specs.declared.ids.PinId.{PinId}
use Rattle.bud_syntax.specs.declared.edges.Edge.{Edge}
use Rattle.bud_syntax.specs.declared.edges.Edge.TheVariants.{Rise, Fall}
use Rattle.bud_syntax.specs.declared.constraints.Object.{Object}
use Rattle.bud_syntax.specs.Ranges.{IsReadTime}
use Rattle.bud_design.specs.declared.clocks.Clock.{Clock}
use Rattle.bud_design.specs.Clocks.{clock_called}
use Rattle.bud_design.specs.Exceptions.{has_pin}
use Rattle.bud_design.specs.Orders.{same_edge}
use Rattle.bud_design.proofs.ClassLaws.{pairs-head, pairs-tail}
use Rattle.timing_objects.specs.declared.faults.ResolveFault.TheVariants.{UnknownClock}
use Rattle.timing_objects.specs.declared.things.Role.{Role}
use Rattle.timing_objects.specs.Answers.{◌>>=◌}
use Rattle.timing_objects.specs.Objects.{Subject, is_part}
use Rattle.timing_objects.proofs.ThingLaws.{position-below}
use Rattle.timing_scopes.specs.declared.scopes.PinDelay.{PinDelay}
use Rattle.timing_scopes.specs.Resolving.{clock_of, pins_named, same_place, raised, with_delay, with_delays, kept, delay_at, delayed, new_delays}
use Rattle.requirements.specs.SoundScopes.{IsPinAs, IsDelayAs, OneEach, AreSoundDelays}
use Rattle.requirements.proofs.JudgedLaws.{then-ok, ok-same, given-some, IsPinJudged, named-judged, and-left, and-right}

-- ---- places
pub record SameKeys (x y : PinDelay) : Type 0 where
  pub pin : x.pin.0 ≡ y.pin.0
  pub clock : x.clock ≡ y.clock
  pub edge : x.edge ≡ y.edge

edges-same : (e f : Edge) → same_edge e f ≡ true → e ≡ f
edges-same Rise Rise is = refl
edges-same Rise Fall is = absurd (true≢false (sym is))
edges-same Fall Rise is = absurd (true≢false (sym is))
edges-same Fall Fall is = refl

same_edge-itself : (e : Edge) → same_edge e e ≡ true
same_edge-itself Rise = refl
same_edge-itself Fall = refl

pub keys-same : (x y : PinDelay) → same_place x y ≡ true → SameKeys x y
keys-same x y is =
    let rest = and-right (x.pin.0 == y.pin.0) (x.clock == y.clock && same_edge x.edge y.edge) is in
    record {
      pin = (Decides-eqb x.pin.0 y.pin.0).0 (and-left (x.pin.0 == y.pin.0) (x.clock == y.clock && same_edge x.edge y.edge) is);
      clock = (Decides-eqb x.clock y.clock).0 (and-left (x.clock == y.clock) (same_edge x.edge y.edge) rest);
      edge = edges-same x.edge y.edge (and-right (x.clock == y.clock) (same_edge x.edge y.edge) rest);
    }

pub same-by_keys : (x y : PinDelay) → SameKeys x y → same_place x y ≡ true
same-by_keys x y k =
    ap (λ (b : Bool). b && (x.clock == y.clock && same_edge x.edge y.edge)) (eq-eqb x.pin.0 y.pin.0 k.pin)
    ∙ (ap (λ (b : Bool). b && same_edge x.edge y.edge) (eq-eqb x.clock y.clock k.clock)
    ∙ (ap (λ (e : Edge). same_edge e y.edge) k.edge ∙ same_edge-itself y.edge))

keys-turned : (x y : PinDelay) → SameKeys x y → SameKeys y x
keys-turned x y k = record { pin = sym k.pin; clock = sym k.clock; edge = sym k.edge }

keys-on : (x y z : PinDelay) → SameKeys x y → SameKeys y z → SameKeys x z
keys-on x y z k l = record { pin = k.pin ∙ l.pin; clock = k.clock ∙ l.clock; edge = k.edge ∙ l.edge }

-- delays at the places of two that differ differ
differ-by_keys : (w x y z : PinDelay) → SameKeys w x → SameKeys y z → same_place x z ≡ false → same_place w y ≡ false
differ-by_keys w x y z k l differ = by_test (same_place w y) refl
  where
    by_test : (b : Bool) → same_place w y ≡ b → same_place w y ≡ false
    by_test true is = absurd (true≢false (sym (same-by_keys x z (keys-on x w z (keys-turned w x k) (keys-on w y z (keys-same w y is) l))) ∙ differ))
    by_test false is = is

keys-itself : (x : PinDelay) → SameKeys x x
keys-itself x = record { pin = refl; clock = refl; edge = refl }

differ-turned : (x y : PinDelay) → same_place x y ≡ false → same_place y x ≡ false
differ-turned x y differ = by_test (same_place y x) refl
  where
    by_test : (b : Bool) → same_place y x ≡ b → same_place y x ≡ false
    by_test true is = absurd (true≢false (sym (same-by_keys x y (keys-turned y x (keys-same y x is))) ∙ differ))
    by_test false is = is

raised-keys : (x y : PinDelay) → SameKeys (raised x y) y
raised-keys x y = by_test (same_place x y && int_le y.amount x.amount) refl
  where
    by_test : (b : Bool) → same_place x y && int_le y.amount x.amount ≡ b → SameKeys (raised x y) y
    by_test true is =
        let here : raised x y ≡ x = rw is refl in
        subst (λ (z : PinDelay). SameKeys z y) (sym here) (keys-same x y (and-left (same_place x y) (int_le y.amount x.amount) is))
    by_test false is = (let here : raised x y ≡ y = rw is refl in subst (λ (z : PinDelay). SameKeys z y) (sym here) (keys-itself y))

raised-all : (P : PinDelay → Type 0) (x y : PinDelay) → P x → P y → P (raised x y)
raised-all P x y here there = by_test (same_place x y && int_le y.amount x.amount) refl
  where
    by_test : (b : Bool) → same_place x y && int_le y.amount x.amount ≡ b → P (raised x y)
    by_test true is = (let r : raised x y ≡ x = rw is refl in subst P (sym r) here)
    by_test false is = (let r : raised x y ≡ y = rw is refl in subst P (sym r) there)

-- ---- one delay more
abbrev pub Differ : PinDelay → PinDelay → Type 0
Differ x y = same_place x y ≡ false

none-any : (x : PinDelay) (ys : List PinDelay) → list_any (same_place x) ys ≡ false → All (Differ x) ys
none-any x [] e = All-nil (Differ x)
none-any x (y ∷ ys) e = by_test (same_place x y) refl (none-any x ys)
  where
    by_test : (b : Bool) → same_place x y ≡ b → (list_any (same_place x) ys ≡ false → All (Differ x) ys) → All (Differ x) (y ∷ ys)
    by_test true is rest = (let here : list_any (same_place x) (y ∷ ys) ≡ true = rw is refl in absurd (true≢false (sym here ∙ e)))
    by_test false is rest = (let later : list_any (same_place x) (y ∷ ys) ≡ list_any (same_place x) ys = rw is refl in All-cons (Differ x) y ys is (rest (sym later ∙ e)))

one-raised : (x : PinDelay) (ys : List PinDelay) → OneEach ys → OneEach (map (raised x) ys)
one-raised x [] one = λ i j d less below. absurd (omega (arith, below))
one-raised x (y ∷ ys) one =
    AllPairs-cons Differ (raised x y) (map (raised x) ys)
    (All-map (Differ (raised x y)) (raised x) ys
    (All-weaker (Differ y) (λ z. Differ (raised x y) (raised x z)) (λ z differ. differ-by_keys (raised x y) y (raised x z) z (raised-keys x y) (raised-keys x z) differ) ys (pairs-head Differ y ys one)))
    (one-raised x ys (pairs-tail Differ y ys one))

one-with : (x : PinDelay) (ys : List PinDelay) → OneEach ys → OneEach (with_delay ys x)
one-with x ys one = by_test (list_any (same_place x) ys) refl
  where
    by_test : (b : Bool) → list_any (same_place x) ys ≡ b → OneEach (with_delay ys x)
    by_test true is = (let r : with_delay ys x ≡ map (raised x) ys = rw is refl in subst OneEach (sym r) (one-raised x ys one))
    by_test false is =
        let r : with_delay ys x ≡ ys ++ x ∷ [] = rw is refl in
        subst OneEach (sym r) (all_pairs_push Differ ys x one (λ k d below. differ-turned x (get_or ys k d) (none-any x ys is k d below)))

all-with : (P : PinDelay → Type 0) (x : PinDelay) (ys : List PinDelay) → P x → All P ys → All P (with_delay ys x)
all-with P x ys here all = by_test (list_any (same_place x) ys) refl
  where
    by_test : (b : Bool) → list_any (same_place x) ys ≡ b → All P (with_delay ys x)
    by_test true is =
        let r : with_delay ys x ≡ map (raised x) ys = rw is refl in
        subst (All P) (sym r) (All-map P (raised x) ys (All-weaker P (λ y. P (raised x y)) (λ y there. raised-all P x y here there) ys all))
    by_test false is = (let r : with_delay ys x ≡ ys ++ x ∷ [] = rw is refl in subst (All P) (sym r) (All-push P ys x all here))

module _ (s : Subject) (role : Role) (clocks : ℕ) where
  with-sound : (xs ys : List PinDelay) → All (IsDelayAs s role clocks) xs → AreSoundDelays s role clocks ys → AreSoundDelays s role clocks (with_delays ys xs)
  with-sound [] ys each sound = sound
  with-sound (x ∷ xs) ys each sound =
      with-sound xs (with_delay ys x) (All-tail (IsDelayAs s role clocks) x xs each)
      (record { each = all-with (IsDelayAs s role clocks) x ys (All-head (IsDelayAs s role clocks) x xs each) sound.each; one = one-with x ys sound.one })

  kept-sound : (add : Bool) (pins : List PinId) (ys : List PinDelay) → AreSoundDelays s role clocks ys → AreSoundDelays s role clocks (kept add pins ys)
  kept-sound true pins ys sound = sound
  kept-sound false pins ys sound = record {
    each = All-filter (λ x. not (has_pin pins x.pin.0)) (IsDelayAs s role clocks) ys sound.each;
    one = AllPairs-filter Differ (λ x. not (has_pin pins x.pin.0)) ys sound.one;
  }

  delayed-sound : (add : Bool) (pins : List PinId) (c : ℕ) (edge : Edge) (amount : ℤ) (ys : List PinDelay) → All (IsPinAs s role) pins → c < clocks → IsReadTime amount
      → AreSoundDelays s role clocks ys → AreSoundDelays s role clocks (delayed add pins c edge amount ys)
  delayed-sound add pins c edge amount ys named below read sound =
      with-sound (map (delay_at c edge amount) pins) (kept add pins ys)
      (All-map (IsDelayAs s role clocks) (delay_at c edge amount) pins (All-weaker (IsPinAs s role) (λ v. IsDelayAs s role clocks (delay_at c edge amount v)) (λ v pin. record { pin = pin; clock = below; amount = read }) pins named))
      (kept-sound add pins ys sound)

-- a command on ports leaves sound delays
pub new-sound : (s : Subject) (role : Role) (clocks : List Clock) (delays made : List PinDelay) (amount : ℤ) (clock : List ℕ) (edge : Edge) (setup add : Bool) (ports : List Object)
    → is_part role ≡ false → IsReadTime amount → new_delays s role clocks delays amount clock edge setup add ports ≡ Ok made
    → AreSoundDelays s role (length clocks) delays → AreSoundDelays s role (length clocks) made
new-sound s role clocks delays made amount clock edge setup add ports no_part read e sound =
    let found = then-ok (clock_of clocks clock) (λ c. pins_named s role clocks ports >>= λ pins. Ok (if setup then delayed add pins c edge amount delays else delays)) made e in
    let pins = then-ok (pins_named s role clocks ports) (λ pins. Ok (if setup then delayed add pins found.0 edge amount delays else delays)) made found.1.1 in
    let below = position-below (λ c. bytes_eq c.name clock) clocks 0 found.0 (given-some (clock_called clocks clock) (UnknownClock clock) found.0 found.1.0) in
    let named = All-weaker (IsPinJudged s role clocks) (IsPinAs s role) (λ v j. j.pin) pins.0 (named-judged s role clocks no_part ports pins.0 pins.1.0) in
    subst (AreSoundDelays s role (length clocks)) (ok-same (if setup then delayed add pins.0 found.0 edge amount delays else delays) made pins.1.1)
    (by_setup setup (delayed-sound s role (length clocks) add pins.0 found.0 edge amount delays named (omega (arith, below)) read sound))
  where
    by_setup : (b : Bool) {xs : List PinDelay} → AreSoundDelays s role (length clocks) xs → AreSoundDelays s role (length clocks) (if b then xs else delays)
    by_setup true more = more
    by_setup false more = sound
