-- What the entries of accepted rows keep.
use Rattle.std.specs.List.{All, range_with_len, filter_map, cons_option}
use Rattle.std.specs.Option.{option_and_then, option_or}
use Rattle.std.specs.Str.{bytes_eq}
use Rattle.std.proofs.Common.{◌≡◌, ℕ, ◌<◌, ◌≤◌, ◌&&◌, Bool, true, false, cond, List, [], ◌∷◌, length, filter, find, Option, Some, None, refl, sym, subst, arith, true≢false}
use Rattle.std.proofs.lemmas.Bool.{eqb-true}
use Rattle.std.proofs.lemmas.Option.{same_Some, none-some, option_and_then_some}
use Rattle.std.proofs.lemmas.List.Elements.{All-head, All-tail, All-map, All-filter}
use Rattle.std.proofs.lemmas.List.FromFn.{length-range_with_len, get_or-range_with_len}
use Rattle.bud_base.proofs.FindLemmas.{option_or-none}
use Rattle.bud_syntax.specs.Ranges.{IsReadTime, IsReadKind}
use Rattle.bud_syntax.specs.declared.modules.Dir.{Dir}
use Rattle.bud_syntax.specs.declared.delays.SdfRow.{SdfRow}
use Rattle.bud_syntax.specs.declared.delays.SdfKind.{SdfKind}
use Rattle.bud_syntax.specs.declared.delays.SdfKind.TheVariants.{Cell, Delay, Wire, Setup as SetupRow}
use Rattle.bud_design.specs.Designs.{Design, place_at, pin_at, pin_name, is_pin_of, pins_of, named_pins, is_input, is_output}
use Rattle.bud_design.specs.Names.{Named, plain, object_of, meaning}
use Rattle.bud_design.specs.Lists.{only}
use Rattle.net_delays.specs.Nets.{AreOneNet}
use Rattle.net_delays.specs.declared.alongs.Along.{Along}
use Rattle.registers.specs.declared.entries.Through.{Through}
use Rattle.registers.specs.declared.entries.Setup.{Setup}
use Rattle.registers.proofs.Filtering.{filter_map-All}
use Rattle.delay_bind.specs.Rows.{row_place, row_name, row_pin, unless, is_own_pin, own_pin_fault, kind_fault, placed_fault, AreJoined, IsJoined, IsAcceptedRow}
use Rattle.delay_bind.specs.Entries.{through_of, setup_of, along_of, entries_of}
use Rattle.delay_bind.specs.Leaves.{IsLeafPin, IsSoundThrough, IsSoundSetup, IsSoundNet, AreSoundEntries}
use Rattle.delay_bind.specs.declared.faults.BindFault.{BindFault}
use Rattle.delay_bind.specs.declared.faults.BindFault.TheVariants.{NotALeaf, UnknownPin}

-- what holds of each object holds of the one that a name means
module _ {X : Type 0} (P : X → Type 0) where
  found-such : (p : Named X → Bool) (os : List (Named X)) (x : X) → All (λ (o : Named X). P o.object) os → object_of (find p os) ≡ Some x → P x
  found-such p [] x such e = absurd (none-some x e)
  found-such p (o ∷ os) x such e = by_test (p o) e (found-such p os x (All-tail (λ (o : Named X). P o.object) o os such))
    where
      by_test : (b : Bool) → object_of (cond b (Some o) (find p os)) ≡ Some x → (object_of (find p os) ≡ Some x → P x) → P x
      by_test true here later = subst P (same_Some o.object x here) (All-head (λ (o : Named X). P o.object) o os such)
      by_test false here later = later here

  only-such : (os : List (Named X)) (x : X) → All (λ (o : Named X). P o.object) os → object_of (only os) ≡ Some x → P x
  only-such [] x such e = absurd (none-some x e)
  only-such (o ∷ []) x such e = subst P (same_Some o.object x e) (All-head (λ (o : Named X). P o.object) o [] such)
  only-such (o ∷ q ∷ os) x such e = absurd (none-some x e)

  pub or-such : (a b : Option X) (x : X) → (a ≡ Some x → P x) → (b ≡ Some x → P x) → option_or a b ≡ Some x → P x
  or-such None b x first second e = second e
  or-such (Some y) b x first second e = first e

  meaning-such : (os : List (Named X)) (name : List ℕ) (x : X) → All (λ (o : Named X). P o.object) os → meaning os name ≡ Some x → P x
  meaning-such os name x such =
      or-such (object_of (find (λ o. bytes_eq o.name name) os)) (object_of (only (filter (λ o. bytes_eq (plain o.name) name) os))) x
      (found-such (λ o. bytes_eq o.name name) os x such)
      (only-such (filter (λ o. bytes_eq (plain o.name) name) os) x (All-filter (λ o. bytes_eq (plain o.name) name) (λ (o : Named X). P o.object) os such))

pub range-below : (n : ℕ) → All (λ v. v < n) (range_with_len 0 n)
range-below n = λ k d below. (let size = length-range_with_len 0 n in let is = get_or-range_with_len 0 n k d (omega (arith, below, size)) in omega (arith, below, size, is))

-- the pin that a row's name means is a pin of the design
row_pin-within : (d : Design) (row : SdfRow) (name : List ℕ) (v : ℕ) → row_pin d row name ≡ Some v → v < length d.pins
row_pin-within d row name v =
    meaning-such (λ u. u < length d.pins) (named_pins d 0) (row_name row name) v
    (All-map (λ (o : Named ℕ). o.object < length d.pins) (λ u. record { name = pin_name d 0 u; object = u }) (pins_of d 0)
    (All-filter (is_pin_of d 0) (λ u. u < length d.pins) (range_with_len 0 (length d.pins)) (range-below (length d.pins))))

unless-true : (b : Bool) (fault : BindFault) → unless b fault ≡ None → b ≡ true
unless-true true fault e = refl
unless-true false fault e = absurd (none-some fault (sym e))

and-true : (a b : Bool) → a && b ≡ true → (a ≡ true) × (b ≡ true)
and-true true b both = (refl, both)
and-true false b both = absurd (true≢false (sym both))

-- the pin is of the place and has the direction
pub record IsOwn (d : Design) (p v : ℕ) (dir : Dir → Bool) : Type 0 where
  pub place : (pin_at d.pins v).place ≡ p
  pub side : dir (pin_at d.pins v).dir ≡ true

own-pin : (d : Design) (p : ℕ) (row : SdfRow) (dir : Dir → Bool) (name : List ℕ) (v : ℕ) → own_pin_fault d p row dir name ≡ None → row_pin d row name ≡ Some v → IsOwn d p v dir
own-pin d p row dir name v quiet is =
    let both = and-true _ _ (subst (λ o. is_own_pin d p dir o ≡ true) is (unless-true (is_own_pin d p dir (row_pin d row name)) (UnknownPin (row_name row name)) quiet)) in
    record { place = eqb-true (pin_at d.pins v).place p both.0; side = both.1 }

leaf-pin : (d : Design) (p v : ℕ) (dir : Dir → Bool) → (place_at d.places p).leaf ≡ true → IsOwn d p v dir → IsLeafPin d v
leaf-pin d p v dir leaf own = subst (λ q. (place_at d.places q).leaf ≡ true) (sym own.place) leaf

-- the place of an accepted row, where its kind isn't refused
placed : (d : Design) (row : SdfRow) (o : Option ℕ) → placed_fault d row o ≡ None → (p : ℕ) × (kind_fault d p row row.kind ≡ None)
placed d row None quiet = absurd (none-some _ (sym quiet))
placed d row (Some p) quiet = (p, (option_or-none _ (kind_fault d p row row.kind) quiet).1)

through-sound : (d : Design) (row : SdfRow) (p : ℕ) (kind : SdfKind) (t : Through) → kind_fault d p row kind ≡ None → IsReadKind kind → through_of d row kind ≡ Some t → IsSoundThrough d t
through-sound d row p Cell t quiet read is = absurd (none-some t is)
through-sound d row p (Wire from to value) t quiet read is = absurd (none-some t is)
through-sound d row p (SetupRow pin clock edge value) t quiet read is = absurd (none-some t is)
through-sound d row p (Delay from edge to value) t quiet read is =
    let parts = option_or-none _ (option_or (own_pin_fault d p row is_input from) (own_pin_fault d p row is_output to)) quiet in
    let pins = option_or-none (own_pin_fault d p row is_input from) (own_pin_fault d p row is_output to) parts.1 in
    let leaf = unless-true (place_at d.places p).leaf (NotALeaf row.instance) parts.0 in
    option_and_then_some (λ a. option_and_then (λ b. Some (record { from = record { 0 = a }; edge = edge; to = record { 0 = b }; value = value })) (row_pin d row to)) (row_pin d row from) t is (λ a first rest.
    option_and_then_some (λ b. Some (record { from = record { 0 = a }; edge = edge; to = record { 0 = b }; value = value })) (row_pin d row to) t rest (λ b second whole.
    let own = own-pin d p row is_input from a pins.0 first in
    subst (IsSoundThrough d) (same_Some (record { from = record { 0 = a }; edge = edge; to = record { 0 = b }; value = value }) t whole)
    (record { within = record { from = row_pin-within d row from a first; to = row_pin-within d row to b second }; leaf = leaf-pin d p a is_input leaf own; input = own.side; time = read })))

setup-sound : (d : Design) (row : SdfRow) (p : ℕ) (kind : SdfKind) (s : Setup) → kind_fault d p row kind ≡ None → IsReadKind kind → setup_of d row kind ≡ Some s → IsSoundSetup d s
setup-sound d row p Cell s quiet read is = absurd (none-some s is)
setup-sound d row p (Wire from to value) s quiet read is = absurd (none-some s is)
setup-sound d row p (Delay from edge to value) s quiet read is = absurd (none-some s is)
setup-sound d row p (SetupRow pin clock edge value) s quiet read is =
    let parts = option_or-none _ (option_or (own_pin_fault d p row is_input pin) (own_pin_fault d p row is_input clock)) quiet in
    let pins = option_or-none (own_pin_fault d p row is_input pin) (own_pin_fault d p row is_input clock) parts.1 in
    let leaf = unless-true (place_at d.places p).leaf (NotALeaf row.instance) parts.0 in
    option_and_then_some (λ a. option_and_then (λ b. Some (record { pin = record { 0 = a }; clock = record { 0 = b }; edge = edge; value = value })) (row_pin d row clock)) (row_pin d row pin) s is (λ a first rest.
    option_and_then_some (λ b. Some (record { pin = record { 0 = a }; clock = record { 0 = b }; edge = edge; value = value })) (row_pin d row clock) s rest (λ b second whole.
    subst (IsSoundSetup d) (same_Some (record { pin = record { 0 = a }; clock = record { 0 = b }; edge = edge; value = value }) s whole)
    (record {
      within = record { pin = row_pin-within d row pin a first; clock = row_pin-within d row clock b second };
      pin_leaf = leaf-pin d p a is_input leaf (own-pin d p row is_input pin a pins.0 first);
      clock_leaf = leaf-pin d p b is_input leaf (own-pin d p row is_input clock b pins.1 second);
      time = read;
    })))

-- the two pins of a row of wires that is accepted are on one net
along-net : (d : Design) (row : SdfRow) (kind : SdfKind) (x : Along) → IsJoined d row kind → along_of d row kind ≡ Some x → AreOneNet d x.from.0 x.to.0
along-net d row Cell x joined is = absurd (none-some x is)
along-net d row (Delay from edge to value) x joined is = absurd (none-some x is)
along-net d row (SetupRow pin clock edge value) x joined is = absurd (none-some x is)
along-net d row (Wire from to value) x joined is =
    option_and_then_some (λ a. option_and_then (λ b. Some (record { from = record { 0 = a }; to = record { 0 = b }; value = value })) (row_pin d row to)) (row_pin d row from) x is (λ a first rest.
    option_and_then_some (λ b. Some (record { from = record { 0 = a }; to = record { 0 = b }; value = value })) (row_pin d row to) x rest (λ b second whole.
    subst (λ (y : Along). AreOneNet d y.from.0 y.to.0) (same_Some (record { from = record { 0 = a }; to = record { 0 = b }; value = value }) x whole)
    (subst (λ o. AreJoined d (Some a) o) second (subst (λ o. AreJoined d o (row_pin d row to)) first joined))))

along-sound : (d : Design) (row : SdfRow) (kind : SdfKind) (x : Along) → IsJoined d row kind → IsReadKind kind → along_of d row kind ≡ Some x → IsSoundNet d x
along-sound d row Cell x joined read is = absurd (none-some x is)
along-sound d row (Delay from edge to value) x joined read is = absurd (none-some x is)
along-sound d row (SetupRow pin clock edge value) x joined read is = absurd (none-some x is)
along-sound d row (Wire from to value) x joined read is =
    let net = along-net d row (Wire from to value) x joined is in
    option_and_then_some (λ a. option_and_then (λ b. Some (record { from = record { 0 = a }; to = record { 0 = b }; value = value })) (row_pin d row to)) (row_pin d row from) x is (λ a first rest.
    option_and_then_some (λ b. Some (record { from = record { 0 = a }; to = record { 0 = b }; value = value })) (row_pin d row to) x rest (λ b second whole.
    let same = same_Some (record { from = record { 0 = a }; to = record { 0 = b }; value = value }) x whole in
    record {
      within = record { from = subst (λ (y : Along). y.from.0 < length d.pins) same (row_pin-within d row from a first); to = subst (λ (y : Along). y.to.0 < length d.pins) same (row_pin-within d row to b second) };
      net = net;
      time = subst (λ (y : Along). IsReadTime y.value) same read;
    }))

module _ (d : Design) (rows : List SdfRow) (accepted : All (IsAcceptedRow d) rows) where
  -- each delay along wires joins two pins of one net
  pub nets-accepted : All (λ x. AreOneNet d x.from.0 x.to.0) (entries_of d rows).alongs
  nets-accepted = filter_map-All (λ (row : SdfRow). along_of d row row.kind) (IsAcceptedRow d) (λ x. AreOneNet d x.from.0 x.to.0)
      (λ row x one is. along-net d row row.kind x one.joined is) rows accepted

  -- what entries keep, where values are in the readers' range
  pub AreSoundEntries-accepted : All (λ (row : SdfRow). IsReadKind row.kind) rows → AreSoundEntries d (entries_of d rows)
  AreSoundEntries-accepted read = record {
    throughs = filter_map-All (λ (row : SdfRow). through_of d row row.kind) IsGood (IsSoundThrough d)
        (λ row t good is. (let at_place = placed d row (row_place d row) good.0.named in through-sound d row at_place.0 row.kind t at_place.1 good.1 is)) rows both;
    setups = filter_map-All (λ (row : SdfRow). setup_of d row row.kind) IsGood (IsSoundSetup d)
        (λ row s good is. (let at_place = placed d row (row_place d row) good.0.named in setup-sound d row at_place.0 row.kind s at_place.1 good.1 is)) rows both;
    alongs = filter_map-All (λ (row : SdfRow). along_of d row row.kind) IsGood (IsSoundNet d)
        (λ row x good is. along-sound d row row.kind x good.0.joined good.1 is) rows both;
  }
    where
      IsGood : SdfRow → Type 0
      IsGood row = IsAcceptedRow d row × IsReadKind row.kind

      both : All IsGood rows
      both = λ k e below. (accepted k e below, read k e below)

-- there are no more entries than rows
pub few-taken : {X Y : Type 0} (f : X → Option Y) (xs : List X) → length (filter_map f xs) ≤ length xs
few-taken f [] = omega arith
few-taken {Y = Y} f (x ∷ xs) = by_value (f x) (few-taken f xs)
  where
    by_value : (o : Option Y) → length (filter_map f xs) ≤ length xs → length (cons_option o (filter_map f xs)) ≤ length (x ∷ xs)
    by_value None rest = omega (arith, rest)
    by_value (Some y) rest = omega (arith, rest)
