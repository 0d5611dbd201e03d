-- The table of pairs by the marks of pins and instances.
use Rattle.std.specs.List.{All, Contains, filter_map, cons_option}
use Rattle.std.proofs.Common.{◌≡◌, ℕ, ◌+◌, ◌-◌, ◌<◌, ◌≤◌, ◌||◌, not, Bool, List, [], ◌∷◌, length, map, Option, Some, None, refl, sym, ap, subst, ◌∙◌, inl, inr, arith}
use Rattle.std.proofs.lemmas.List.{length-map}
use Rattle.std.proofs.lemmas.List.Elements.{All-map, All-contains, All-weaker}
use Rattle.bud_design.specs.declared.designs.Pin.{Pin}
use Rattle.bud_design.specs.declared.timings.Pair.{Pair}
use Rattle.bud_design.specs.Designs.{Design, pin_at}
use Rattle.bud_design.specs.DesignRules.{IsDesign}
use Rattle.registers.specs.Registers.{pin_place, is_counted, is_register}
use Rattle.registers.specs.Marks.{mark_at, IsThroughWithin}
use Rattle.registers.specs.PairLists.{through_value, pair_by, pair_of, left_of, marked_pair, HasRoom}
use Rattle.registers.specs.PairTables.{IsPairTable}
use Rattle.registers.specs.RegisterMarks.{AreMarks}
use Rattle.registers.specs.Tables.{IsGreatest, AreGreatest}
use Rattle.registers.specs.declared.entries.Through.{Through}
use Rattle.registers.specs.declared.entries.Setup.{Setup}
use Rattle.registers.specs.declared.pair_tables.PairTable.{PairTable}
use Rattle.registers.specs.declared.register_marks.RegisterMarks.{RegisterMarks}
use Rattle.registers.specs.declared.tables.Valued.{Valued}
use Rattle.registers.proofs.PairLaws.{Lists-pairs, IsLeftOutCount-pairs, parted}

filter_map-same : {X Y : Type 0} (h g : X → Option Y) → ((x : X) → h x ≡ g x) → (xs : List X) → filter_map h xs ≡ filter_map g xs
filter_map-same h g same [] = refl
filter_map-same h g same (x ∷ xs) = ap (λ o. cons_option o (filter_map h xs)) (same x) ∙ ap (cons_option (g x)) (filter_map-same h g same xs)

module _ (d : Design) (ts : List Through) (setups : List Setup) (m : RegisterMarks) (marks : AreMarks d ts setups m) where
  marked_is : (e : Valued) → marked_pair d.pins m e ≡ pair_of d setups e
  marked_is e =
      ap (λ b. pair_by (not b || mark_at m.clocks.items e.first.0) b e) (marks.registers (pin_at d.pins e.first.0).place)
      ∙ ap (λ b. pair_by (not (is_register d setups (pin_place d e.first.0)) || b) (is_register d setups (pin_place d e.first.0)) e) (marks.clocks e.first.0)

  marked_all : (ys : List Valued) → filter_map (marked_pair d.pins m) ys ≡ filter_map (pair_of d setups) ys
  marked_all ys = filter_map-same (marked_pair d.pins m) (pair_of d setups) marked_is ys

  first_within : All (IsThroughWithin (length d.pins)) ts → (ys : List Valued) → AreGreatest (map through_value ts) ys → All (λ (e : Valued). e.first.0 < length d.pins) ys
  first_within within ys are = All-weaker (IsGreatest (map through_value ts)) (λ (e : Valued). e.first.0 < length d.pins)
      (λ e great. All-contains (λ (x : Valued). x.first.0 < length d.pins) (map through_value ts) e
      (All-map (λ (x : Valued). x.first.0 < length d.pins) through_value ts (λ k z below. (within k z below).from)) great.stands) ys are.sound

  -- the marks have room for each delay
  pub rooms : IsDesign d → All (IsThroughWithin (length d.pins)) ts → (ys : List Valued) → AreGreatest (map through_value ts) ys → All (HasRoom d.pins m) ys
  rooms design within ys are = All-weaker (λ (e : Valued). e.first.0 < length d.pins) (HasRoom d.pins m)
      (λ e below. record {
        pin = below;
        clock = omega (arith, below, marks.clock_pins);
        place = (let place = design.in_places e.first.0 (pin_at [] 0) below in omega (arith, place, marks.places));
      }) ys (first_within within ys are)

  pub fewer : (ys : List Valued) (pairs : List Pair) → pairs ≡ filter_map (marked_pair d.pins m) ys → length pairs ≤ length ys
  fewer ys pairs is =
      let both = parted d setups ys in
      let size : length pairs ≡ length (filter_map (pair_of d setups) ys) = ap length (is ∙ marked_all ys) in
      omega (arith, both, size)

  pub IsPairTable-made : (ys : List Valued) (table : PairTable) → AreGreatest (map through_value ts) ys → table.pairs ≡ filter_map (marked_pair d.pins m) ys → table.left_out ≡ length ys - length table.pairs
      → IsPairTable d ts setups table
  IsPairTable-made ys table are is left =
      let both = parted d setups ys in
      let whole : table.pairs ≡ filter_map (pair_of d setups) ys = is ∙ marked_all ys in
      let size : length table.pairs ≡ length (filter_map (pair_of d setups) ys) = ap length whole in
      let count : table.left_out ≡ length (filter_map (left_of d setups) ys) = omega (arith, both, size, left) in
      record {
        pairs = rw whole (Lists-pairs d ts setups ys are);
        left_out = rw count (IsLeftOutCount-pairs d ts setups ys are);
      }

pub few_values : (ts : List Through) (ys : List Valued) → AreGreatest (map through_value ts) ys → length ys ≤ length ts
few_values ts ys are = (let size = length-map ts through_value in omega (arith, are.few))
