-- The refusals of registers and pairs, by names.
use Rattle.std.specs.List.{All, range_with_len}
use Rattle.std.specs.Option.{option_map, option_or}
use Rattle.std.proofs.Common.{◌≡◌, ℕ, ◌<◌, ◌==◌, ◌&&◌, Bool, true, false, cond, List, [], ◌∷◌, length, find, Option, Some, None, pos, int_lt, refl, sym, ap, subst, ◌∙◌}
use Rattle.std.proofs.lemmas.Bool.{eqb-true}
use Rattle.std.proofs.lemmas.Option.{same_Some, none-some}
use Rattle.std.proofs.lemmas.List.Elements.{All-head, All-tail, All-filter}
use Rattle.bud_syntax.specs.declared.edges.Edge.{Edge}
use Rattle.bud_design.specs.declared.timings.Pair.{Pair}
use Rattle.bud_design.specs.Designs.{Design, pin_at, bits_of}
use Rattle.bud_design.specs.Lists.{first_some}
use Rattle.registers.specs.Marks.{IsThroughWithin}
use Rattle.registers.specs.PairTables.{IsPairTable}
use Rattle.registers.specs.Registers.{is_clock_pin, launch_edge, unless_one, mixed_edge, is_latch, latch, register_fault, IsPair}
use Rattle.registers.specs.declared.entries.Through.{Through}
use Rattle.registers.specs.declared.entries.Setup.{Setup}
use Rattle.registers.specs.declared.faults.RegisterFault.{RegisterFault}
use Rattle.registers.specs.declared.faults.RegisterFault.TheVariants.{MixedEdge as MixedPin, Latch as LatchAt}
use Rattle.registers.specs.declared.pair_tables.PairTable.{PairTable}
use Rattle.delay_bind.specs.Answers.{UnlessMemory}
use Rattle.delay_bind.specs.Entries.{Entries, named_fault}
use Rattle.delay_bind.specs.Bindings.{negative_pair}
use Rattle.delay_bind.specs.Binding.{IsFaultWithin, IsNegativeNamed, IsPairRefusal}
use Rattle.delay_bind.specs.declared.faults.BindFault.{BindFault}
use Rattle.delay_bind.specs.declared.faults.BindFault.TheVariants.{UnknownInstance, WrongCell, NotALeaf, UnknownPin, NotOneNet, MixedEdge, Latch, NegativeDelay, NegativeRest, NoMemory}
use Rattle.delay_bind.proofs.EntryLaws.{range-below}
use Rattle.delay_bind.proofs.SoundTimings.{and-both, greatest-passing}

pub UnlessMemory-then : (fault : BindFault) (P Q : Type 0) → (P → Q) → UnlessMemory fault P → UnlessMemory fault Q
UnlessMemory-then (UnknownInstance name) P Q step is = step is
UnlessMemory-then (WrongCell name) P Q step is = step is
UnlessMemory-then (NotALeaf name) P Q step is = step is
UnlessMemory-then (UnknownPin name) P Q step is = step is
UnlessMemory-then (NotOneNet from to) P Q step is = step is
UnlessMemory-then (MixedEdge name) P Q step is = step is
UnlessMemory-then (Latch name) P Q step is = step is
UnlessMemory-then (NegativeDelay from to) P Q step is = step is
UnlessMemory-then (NegativeRest to) P Q step is = step is
UnlessMemory-then NoMemory P Q step is = tt

first_some-such : {X Y : Type 0} (Q : Y → Type 0) (f : X → Option Y) (xs : List X) (y : Y) → All (λ x. (z : Y) → f x ≡ Some z → Q z) xs → first_some f xs ≡ Some y → Q y
first_some-such Q f [] y each e = absurd (none-some y e)
first_some-such {Y = Y} Q f (x ∷ xs) y each e = by_value (f x) (λ z is. All-head (λ x. (z : Y) → f x ≡ Some z → Q z) x xs each z is) (first_some-such Q f xs y (All-tail (λ x. (z : Y) → f x ≡ Some z → Q z) x xs each)) e
  where
    by_value : (o : Option Y) → ((z : Y) → o ≡ Some z → Q z) → (first_some f xs ≡ Some y → Q y) → option_or o (first_some f xs) ≡ Some y → Q y
    by_value None here later e = later e
    by_value (Some z) here later e = here y e

module _ (d : Design) (ts : List Through) (ss : List Setup) where
  unless_one-within : (v : ℕ) (o : Option Edge) (y : RegisterFault) → v < length d.pins → unless_one v o ≡ Some y → IsFaultWithin d y
  unless_one-within v None y below e = subst (IsFaultWithin d) (same_Some (MixedPin (record { 0 = v })) y e) below
  unless_one-within v (Some edge) y below e = absurd (none-some y e)

  mixed-by : (v : ℕ) (b : Bool) (y : RegisterFault) → v < length d.pins → cond b (unless_one v (launch_edge ts ss v)) None ≡ Some y → IsFaultWithin d y
  mixed-by v true y below e = unless_one-within v (launch_edge ts ss v) y below e
  mixed-by v false y below e = absurd (none-some y e)

  latch-by : (p : ℕ) (b : Bool) (y : RegisterFault) → p < length d.places → cond b (Some (LatchAt p)) None ≡ Some y → IsFaultWithin d y
  latch-by p true y below e = subst (IsFaultWithin d) (same_Some (LatchAt p) y e) below
  latch-by p false y below e = absurd (none-some y e)

  place-within : (p : ℕ) (y : RegisterFault) → p < length d.places → option_or (first_some (mixed_edge ts ss) (bits_of d p)) (latch d ts ss p) ≡ Some y → IsFaultWithin d y
  place-within p y below e = by_value (first_some (mixed_edge ts ss) (bits_of d p)) refl e
    where
      by_value : (o : Option RegisterFault) → first_some (mixed_edge ts ss) (bits_of d p) ≡ o → option_or o (latch d ts ss p) ≡ Some y → IsFaultWithin d y
      by_value None is e = latch-by p (is_latch d ts ss p) y below e
      by_value (Some z) is e =
          first_some-such (IsFaultWithin d) (mixed_edge ts ss) (bits_of d p) y
          (λ k v inside z given. mixed-by _ (is_clock_pin ss _) z (All-filter (λ u. (pin_at d.pins u).place == p) (λ u. u < length d.pins) (range_with_len 0 (length d.pins)) (range-below (length d.pins)) k v inside) given)
          (is ∙ e)

  -- the refusal of a register is of a pin or an instance of the design
  pub IsFaultWithin-given : (y : RegisterFault) → Some y ≡ register_fault d ts ss → IsFaultWithin d y
  IsFaultWithin-given y e =
      first_some-such (IsFaultWithin d) (λ p. option_or (first_some (mixed_edge ts ss) (bits_of d p)) (latch d ts ss p)) (range_with_len 0 (length d.places)) y
      (λ k p inside z given. place-within _ z (range-below (length d.places) k p inside) given) (sym e)

  pub refusal-given : (y : RegisterFault) (fault : BindFault) → Some y ≡ register_fault d ts ss → UnlessMemory fault (named_fault d y ≡ fault) → UnlessMemory fault (option_map (named_fault d) (register_fault d ts ss) ≡ Some fault)
  refusal-given y fault is named = UnlessMemory-then fault (named_fault d y ≡ fault) (option_map (named_fault d) (register_fault d ts ss) ≡ Some fault)
      (λ same. sym (ap (option_map (named_fault d)) is) ∙ ap (λ f. Some f) same) named

pub find-such : {X : Type 0} (P : X → Type 0) (p : X → Bool) (xs : List X) (x : X) → All P xs → find p xs ≡ Some x → P x
find-such P p [] x each e = absurd (none-some x e)
find-such P p (y ∷ ys) x each e = by_test (p y) e (find-such P p ys x (All-tail P y ys each))
  where
    by_test : (b : Bool) → cond b (Some y) (find p ys) ≡ Some x → (find p ys ≡ Some x → P x) → P x
    by_test true here later = subst P (same_Some y x here) (All-head P y ys each)
    by_test false here later = later here

-- the pins of a pair are the design's
pub record IsPairWithin (pins : ℕ) (x : Pair) : Type 0 where
  pub from : x.from.0 < pins
  pub to : x.to.0 < pins

module _ (d : Design) (e : Entries) (within : All (IsThroughWithin (length d.pins)) e.throughs) (table : PairTable) (are : IsPairTable d e.throughs e.setups table) (x : Pair) (found : Some x ≡ negative_pair table.pairs) where
  pub IsPairWithin-found : IsPairWithin (length d.pins) x
  IsPairWithin-found =
      let is = find-such (IsPair d e.throughs e.setups) (λ (y : Pair). int_lt y.value (pos 0)) table.pairs x are.pairs.sound (sym found) in
      let one = greatest-passing (λ (u : Through). u.from.0 == x.from.0 && u.to.0 == x.to.0) (λ (u : Through). u.value) (IsThroughWithin (length d.pins)) e.throughs x.value within is.value in
      let ends = and-both (one.one.from.0 == x.from.0) (one.one.to.0 == x.to.0) one.passes in
      record {
        from = subst (λ v. v < length d.pins) (eqb-true one.one.from.0 x.from.0 ends.0) one.such.from;
        to = subst (λ v. v < length d.pins) (eqb-true one.one.to.0 x.to.0 ends.1) one.such.to;
      }

  pub IsPairRefusal-named : (fault : BindFault) → IsNegativeNamed d x fault → IsPairRefusal d e fault
  IsPairRefusal-named (UnknownInstance name) named = named
  IsPairRefusal-named (WrongCell name) named = named
  IsPairRefusal-named (NotALeaf name) named = named
  IsPairRefusal-named (UnknownPin name) named = named
  IsPairRefusal-named (NotOneNet from to) named = named
  IsPairRefusal-named (MixedEdge name) named = named
  IsPairRefusal-named (Latch name) named = named
  IsPairRefusal-named (NegativeDelay from to) named = record { pairs = table.pairs; are_pairs = are.pairs; pair = x; first = sym found; from_is = named.0; to_is = named.1 }
  IsPairRefusal-named (NegativeRest to) named = named
  IsPairRefusal-named NoMemory named = tt
