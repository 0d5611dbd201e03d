-- The pins of a delay and of a setup check of an accepted row stand at one leaf.
use Rattle.std.specs.Prelude.{◌≡◌, ℕ, ◌==◌, ◌&&◌, Bool, true, false, List, All, Option, Some, None}
use Rattle.std.specs.Option.{option_and_then, option_or}
use Rattle.std.proofs.Common.{refl, sym, ◌∙◌, subst}
use Rattle.std.proofs.lemmas.Bool.{eqb-true}
use Rattle.std.proofs.lemmas.Option.{same_Some, none-some, option_and_then_some}
use Rattle.std.proofs.lemmas.List.Elements.{All-weaker}
use Rattle.bud_base.proofs.FindLemmas.{option_or-none}
use Rattle.bud_syntax.specs.declared.modules.Dir.{Dir}
use Rattle.bud_syntax.specs.declared.delays.SdfRow.{SdfRow}
use Rattle.bud_syntax.specs.declared.delays.SdfKind.{SdfKind}
use Rattle.bud_syntax.specs.declared.delays.SdfKind.TheVariants.{Cell, Delay, Wire, Setup as SetupRow}
use Rattle.bud_design.specs.declared.timings.Check.{Check}
use Rattle.bud_design.specs.declared.timings.Pair.{Pair}
use Rattle.bud_design.specs.declared.timings.Timing.{Timing}
use Rattle.bud_design.specs.Designs.{Design, place_at, pin_at, is_input, is_output}
use Rattle.registers.specs.Registers.{IsCheck, IsPair, both_or, has_edge}
use Rattle.registers.specs.declared.entries.Through.{Through}
use Rattle.registers.specs.declared.entries.Setup.{Setup}
use Rattle.registers.proofs.Filtering.{filter_map-All}
use Rattle.delay_bind.specs.Bindings.{IsBound}
use Rattle.delay_bind.specs.Entries.{through_of, setup_of, entries_of}
use Rattle.delay_bind.specs.Rows.{row_place, row_name, row_pin, unless, is_own_pin, own_pin_fault, kind_fault, placed_fault, IsAcceptedRow}
use Rattle.delay_bind.specs.declared.faults.BindFault.{BindFault}
use Rattle.delay_bind.specs.declared.faults.BindFault.TheVariants.{NotALeaf, UnknownPin}
use Rattle.delay_bind.proofs.SoundTimings.{greatest-passing, and-both}

-- two pins of one leaf
pub record AtOneLeaf (d : Design) (a b : ℕ) : Type 0 where
  pub leaf : (place_at d.places (pin_at d.pins a).place).leaf ≡ true
  pub together : (pin_at d.pins a).place ≡ (pin_at d.pins b).place

unless-true : (b : Bool) (fault : BindFault) → unless b fault ≡ None → b ≡ true
unless-true true fault e = refl
unless-true false fault e = absurd (none-some fault (sym e))

own-place : (d : Design) (p : ℕ) (row : SdfRow) (dir : Dir → Bool) (name : List ℕ) (v : ℕ) → own_pin_fault d p row dir name ≡ None → row_pin d row name ≡ Some v → (pin_at d.pins v).place ≡ p
own-place d p row dir name v quiet is =
    eqb-true (pin_at d.pins v).place p
    (and-both ((pin_at d.pins v).place == p) (dir (pin_at d.pins v).dir)
    (subst (λ o. is_own_pin d p dir o ≡ true) is (unless-true (is_own_pin d p dir (row_pin d row name)) (UnknownPin (row_name row name)) quiet))).0

own-leaf : (d : Design) (p a b : ℕ) → (place_at d.places p).leaf ≡ true → (pin_at d.pins a).place ≡ p → (pin_at d.pins b).place ≡ p → AtOneLeaf d a b
own-leaf d p a b leaf first second = record { leaf = subst (λ q. (place_at d.places q).leaf ≡ true) (sym first) leaf; together = first ∙ sym second }

placed : (d : Design) (row : SdfRow) (o : Option ℕ) → placed_fault d row o ≡ None → (p : ℕ) × (kind_fault d p row row.kind ≡ None)
placed d row None quiet = absurd (none-some _ (sym quiet))
placed d row (Some p) quiet = (p, (option_or-none _ (kind_fault d p row row.kind) quiet).1)

through-leaf : (d : Design) (row : SdfRow) (p : ℕ) (kind : SdfKind) (t : Through) → kind_fault d p row kind ≡ None → through_of d row kind ≡ Some t → AtOneLeaf d t.from.0 t.to.0
through-leaf d row p Cell t quiet is = absurd (none-some t is)
through-leaf d row p (Wire from to value) t quiet is = absurd (none-some t is)
through-leaf d row p (SetupRow pin clock edge value) t quiet is = absurd (none-some t is)
through-leaf d row p (Delay from edge to value) t quiet is =
    let parts = option_or-none _ (option_or (own_pin_fault d p row is_input from) (own_pin_fault d p row is_output to)) quiet in
    let pins = option_or-none (own_pin_fault d p row is_input from) (own_pin_fault d p row is_output to) parts.1 in
    let leaf = unless-true (place_at d.places p).leaf (NotALeaf row.instance) parts.0 in
    option_and_then_some (λ a. option_and_then (λ b. Some (record { from = record { 0 = a }; edge = edge; to = record { 0 = b }; value = value })) (row_pin d row to)) (row_pin d row from) t is (λ a first rest.
    option_and_then_some (λ b. Some (record { from = record { 0 = a }; edge = edge; to = record { 0 = b }; value = value })) (row_pin d row to) t rest (λ b second made.
    subst (λ (u : Through). AtOneLeaf d u.from.0 u.to.0) (same_Some (record { from = record { 0 = a }; edge = edge; to = record { 0 = b }; value = value }) t made)
    (own-leaf d p a b leaf (own-place d p row is_input from a pins.0 first) (own-place d p row is_output to b pins.1 second))))

setup-leaf : (d : Design) (row : SdfRow) (p : ℕ) (kind : SdfKind) (s : Setup) → kind_fault d p row kind ≡ None → setup_of d row kind ≡ Some s → AtOneLeaf d s.pin.0 s.clock.0
setup-leaf d row p Cell s quiet is = absurd (none-some s is)
setup-leaf d row p (Wire from to value) s quiet is = absurd (none-some s is)
setup-leaf d row p (Delay from edge to value) s quiet is = absurd (none-some s is)
setup-leaf d row p (SetupRow pin clock edge value) s quiet is =
    let parts = option_or-none _ (option_or (own_pin_fault d p row is_input pin) (own_pin_fault d p row is_input clock)) quiet in
    let pins = option_or-none (own_pin_fault d p row is_input pin) (own_pin_fault d p row is_input clock) parts.1 in
    let leaf = unless-true (place_at d.places p).leaf (NotALeaf row.instance) parts.0 in
    option_and_then_some (λ a. option_and_then (λ b. Some (record { pin = record { 0 = a }; clock = record { 0 = b }; edge = edge; value = value })) (row_pin d row clock)) (row_pin d row pin) s is (λ a first rest.
    option_and_then_some (λ b. Some (record { pin = record { 0 = a }; clock = record { 0 = b }; edge = edge; value = value })) (row_pin d row clock) s rest (λ b second made.
    subst (λ (u : Setup). AtOneLeaf d u.pin.0 u.clock.0) (same_Some (record { pin = record { 0 = a }; clock = record { 0 = b }; edge = edge; value = value }) s made)
    (own-leaf d p a b leaf (own-place d p row is_input pin a pins.0 first) (own-place d p row is_input clock b pins.1 second))))

module _ (d : Design) (rows : List SdfRow) (t : Timing) (bound : IsBound d rows t) where
  throughs-leaf : All (λ (u : Through). AtOneLeaf d u.from.0 u.to.0) (entries_of d rows).throughs
  throughs-leaf = filter_map-All (λ (row : SdfRow). through_of d row row.kind) (IsAcceptedRow d) (λ (u : Through). AtOneLeaf d u.from.0 u.to.0)
      (λ row u one is. (let stands = placed d row (row_place d row) one.named in through-leaf d row stands.0 row.kind u stands.1 is)) rows bound.accepted.rows_are

  setups-leaf : All (λ (s : Setup). AtOneLeaf d s.pin.0 s.clock.0) (entries_of d rows).setups
  setups-leaf = filter_map-All (λ (row : SdfRow). setup_of d row row.kind) (IsAcceptedRow d) (λ (s : Setup). AtOneLeaf d s.pin.0 s.clock.0)
      (λ row s one is. (let stands = placed d row (row_place d row) one.named in setup-leaf d row stands.0 row.kind s stands.1 is)) rows bound.accepted.rows_are

  pair-leaf : (x : Pair) → IsPair d (entries_of d rows).throughs (entries_of d rows).setups x → AtOneLeaf d x.from.0 x.to.0
  pair-leaf x is =
      let found = greatest-passing (λ (u : Through). u.from.0 == x.from.0 && u.to.0 == x.to.0) (λ (u : Through). u.value) (λ (u : Through). AtOneLeaf d u.from.0 u.to.0) (entries_of d rows).throughs x.value throughs-leaf is.value in
      let ends = and-both (found.one.from.0 == x.from.0) (found.one.to.0 == x.to.0) found.passes in
      subst (λ v. AtOneLeaf d v x.to.0) (eqb-true found.one.from.0 x.from.0 ends.0) (subst (λ v. AtOneLeaf d found.one.from.0 v) (eqb-true found.one.to.0 x.to.0 ends.1) found.such)

  check-leaf : (x : Check) → IsCheck (entries_of d rows).setups x → AtOneLeaf d x.pin.0 x.clock.0
  check-leaf x is =
      let found = greatest-passing (λ (s : Setup). s.pin.0 == x.pin.0 && (s.clock.0 == x.clock.0 && has_edge x.edge (both_or s.edge))) (λ (s : Setup). s.value) (λ (s : Setup). AtOneLeaf d s.pin.0 s.clock.0)
      (entries_of d rows).setups x.amount setups-leaf is.amount in
      let pins = and-both (found.one.pin.0 == x.pin.0) (found.one.clock.0 == x.clock.0 && has_edge x.edge (both_or found.one.edge)) found.passes in
      let clocks = and-both (found.one.clock.0 == x.clock.0) (has_edge x.edge (both_or found.one.edge)) pins.1 in
      subst (λ v. AtOneLeaf d v x.clock.0) (eqb-true found.one.pin.0 x.pin.0 pins.0) (subst (λ v. AtOneLeaf d found.one.pin.0 v) (eqb-true found.one.clock.0 x.clock.0 clocks.0) found.such)

  pub pairs-leaf : All (λ (x : Pair). AtOneLeaf d x.from.0 x.to.0) t.pairs
  pairs-leaf = All-weaker (IsPair d (entries_of d rows).throughs (entries_of d rows).setups) (λ (x : Pair). AtOneLeaf d x.from.0 x.to.0) pair-leaf t.pairs bound.timing.pairs.sound

  pub checks-together : All (λ (x : Check). (pin_at d.pins x.pin.0).place ≡ (pin_at d.pins x.clock.0).place) t.checks
  checks-together =
      All-weaker (IsCheck (entries_of d rows).setups) (λ (x : Check). (pin_at d.pins x.pin.0).place ≡ (pin_at d.pins x.clock.0).place) (λ x is. (check-leaf x is).together) t.checks bound.timing.checks.sound
