-- Objects of a block, and parts of its exceptions, may be written.
use Rattle.std.proofs.Common.{◌≡◌, ℕ, zero, suc, ◌<◌, ◌≤◌, ◌^◌, ◌&&◌, nat_lt, nat_le, ℤ, Bool, true, false, List, [], ◌∷◌, ◌++◌, map, find, sum_by, unwrap_or, length, refl, arith}
use Rattle.std.proofs.lemmas.Bool.{and_parts}
use Rattle.std.proofs.lemmas.Bool.Decides.{nat_tests}
use Rattle.std.specs.List.{list_all, range_with_len}
use Rattle.bud_syntax.specs.declared.constraints.Object.{Object}
use Rattle.bud_syntax.specs.declared.constraints.Object.TheVariants.{Ports, Pins, Clocks}
use Rattle.bud_design.specs.declared.clocks.Clock.{Clock}
use Rattle.bud_design.specs.Clocks.{clock_at}
use Rattle.bud_design.specs.Designs.{pin_name, pins_of, bits_of}
use Rattle.sdc_reader.specs.Words.{is_name_byte, is_clock_name}
use Rattle.sdc_writer.specs.Printable.{has_some, is_kept_name, has_kept_name, rank, are_in_order, are_written}
use Rattle.kept_names.proofs.Ways.{pin_kept}
use Rattle.kept_names.proofs.Objects.{clock_kept, clock_numbered}
use Rattle.block_theory.specs.BlockPorts.{Context, pins_where}
use Rattle.block_theory.specs.BlockClocks.{pin_objects, bits_reached, sources_inside, source_objects, real_objects, prefix_with, is_free, prefix, virtual_name, virtual_objects}
use Rattle.block_theory.specs.BlockExceptions.{Part, is_empty_list, is_empty_part, part_objects}
use Rattle.block_prints.specs.Writable.{IsWritable, has_small_times, is_read_clock}
use Rattle.block_prints.proofs.Lists.{all_filter, all_below, below_from}

-- ---- objects in order
order_on : (low high : ℕ) (os : List Object) → low ≤ high → are_in_order high os ≡ true → are_in_order low os ≡ true
order_on low high [] less is = refl
order_on low high (o ∷ os) less is =
    let parts = and_parts (nat_le high (rank o)) (has_kept_name o && are_in_order (rank o) os) is in
    rw (on_rank (rank o) parts.0, parts.1) refl
  where
    on_rank : (r : ℕ) → nat_le high r ≡ true → nat_le low r ≡ true
    on_rank r is = grind (arith, nat_tests)

ports_then : (f : ℕ → List ℕ) (vs : List ℕ) (rest : List Object) → list_all (λ v. is_kept_name (f v)) vs ≡ true → are_in_order 0 rest ≡ true → are_in_order 0 (map (λ v. Ports (f v)) vs ++ rest) ≡ true
ports_then f [] rest all is = is
ports_then f (v ∷ vs) rest all is =
    let parts = and_parts (is_kept_name (f v)) (list_all (λ v. is_kept_name (f v)) vs) all in
    rw (parts.0, ports_then f vs rest parts.1 is) refl

pins_then : (f : ℕ → List ℕ) (vs : List ℕ) (rest : List Object) → list_all (λ v. is_kept_name (f v)) vs ≡ true → are_in_order 1 rest ≡ true → are_in_order 1 (map (λ v. Pins (f v)) vs ++ rest) ≡ true
pins_then f [] rest all is = is
pins_then f (v ∷ vs) rest all is =
    let parts = and_parts (is_kept_name (f v)) (list_all (λ v. is_kept_name (f v)) vs) all in
    rw (parts.0, pins_then f vs rest parts.1 is) refl

clocks_then : (f : ℕ → List ℕ) (cs : List ℕ) (rest : List Object) → list_all (λ c. is_kept_name (f c)) cs ≡ true → are_in_order 2 rest ≡ true → are_in_order 2 (map (λ c. Clocks (f c)) cs ++ rest) ≡ true
clocks_then f [] rest all is = is
clocks_then f (c ∷ cs) rest all is =
    let parts = and_parts (is_kept_name (f c)) (list_all (λ c. is_kept_name (f c)) cs) all in
    rw (parts.0, clocks_then f cs rest parts.1 is) refl

-- a test for each element from another
all_on : (p q : ℕ → Bool) (xs : List ℕ) → ((x : ℕ) → p x ≡ true → q x ≡ true) → list_all p xs ≡ true → list_all q xs ≡ true
all_on p q [] each all = refl
all_on p q (x ∷ xs) each all =
    let parts = and_parts (p x) (list_all p xs) all in
    rw (each x parts.0, all_on p q xs each parts.1) refl

-- ---- clocks
-- a clock past the last has times of 0
pub times_small : (clocks : List Clock) (c : ℕ) → list_all is_read_clock clocks ≡ true → has_small_times (clock_at clocks c) ≡ true
times_small [] c all = refl
times_small (k ∷ ks) zero all = (and_parts (is_clock_name k.name) (has_small_times k) (and_parts (is_read_clock k) (list_all is_read_clock ks) all).0).1
times_small (k ∷ ks) (suc c) all = times_small ks c (and_parts (is_read_clock k) (list_all is_read_clock ks) all).1

pub clock_named : (clocks : List Clock) (c : ℕ) → list_all is_read_clock clocks ≡ true → c < length clocks → is_clock_name (clock_at clocks c).name ≡ true
clock_named [] c all low = absurd (omega (arith, low))
clock_named (k ∷ ks) zero all low = (and_parts (is_clock_name k.name) (has_small_times k) (and_parts (is_read_clock k) (list_all is_read_clock ks) all).0).0
clock_named (k ∷ ks) (suc c) all low = clock_named ks c (and_parts (is_read_clock k) (list_all is_read_clock ks) all).1 (omega (arith, low))

prefix_bytes : (n : ℕ) → list_all is_name_byte (prefix_with n) ≡ true
prefix_bytes zero = refl
prefix_bytes (suc n) = prefix_bytes n

prefix_named : (n : ℕ) → is_clock_name (prefix_with n) ≡ true
prefix_named zero = refl
prefix_named (suc n) = prefix_bytes n

pub virtual_named : (x : Context) (k : ℕ) → k < 2 ^ 64 → is_clock_name (virtual_name x k) ≡ true
virtual_named x k low =
    clock_numbered (prefix x.all.clocks) k (prefix_named (unwrap_or (find (is_free x.all.clocks) (range_with_len 0 (suc (sum_by (λ c. length c.name) x.all.clocks)))) 0)) low

-- ---- what lies in the block
module _ (x : Context) (arrivals : List ℤ) (fine : IsWritable x arrivals) where
  abbrev is_pin : ℕ → Bool
  is_pin v = nat_lt v (length x.design.pins)

  abbrev is_clock : ℕ → Bool
  is_clock c = nat_lt c (length x.all.clocks)

  abbrev is_class : ℕ → Bool
  is_class k = nat_lt k (length x.layered.classes)

  pub pins_below : (is_such : ℕ → Bool) → list_all is_pin (pins_where x is_such) ≡ true
  pins_below is_such = all_filter is_pin is_such (pins_of x.design x.block) (all_filter is_pin _ (range_with_len 0 (length x.design.pins)) (all_below (length x.design.pins)))

  pub pin_named : (v : ℕ) → is_pin v ≡ true → is_kept_name (pin_name x.design x.block v) ≡ true
  pin_named v low = pin_kept x.design x.block v fine.names fine.bits (below_from v (length x.design.pins) low)

  real_named : (c : ℕ) → is_clock c ≡ true → is_kept_name (clock_at x.all.clocks c).name ≡ true
  real_named c low = clock_kept (clock_at x.all.clocks c).name (clock_named x.all.clocks c fine.clocks (below_from c (length x.all.clocks) low))

  virtual_low : (k : ℕ) → is_class k ≡ true → k < 2 ^ 64
  virtual_low k low = (let less = below_from k (length x.layered.classes) low in let few = fine.classes in omega (arith, less, few))

  pub virtual_kept : (k : ℕ) → is_class k ≡ true → is_kept_name (virtual_name x k) ≡ true
  virtual_kept k low = clock_kept (virtual_name x k) (virtual_named x k (virtual_low k low))

  pub virtual_clock_named : (k : ℕ) → is_class k ≡ true → is_clock_name (virtual_name x k) ≡ true
  virtual_clock_named k low = virtual_named x k (virtual_low k low)

  -- a part whose pins, real clocks and classes there are
  abbrev pub is_part_of : Part → Bool
  is_part_of p = list_all is_pin p.pins && (list_all is_clock p.reals && list_all is_class p.virtuals)

  pub part_written : (p : Part) → is_part_of p ≡ true → are_written (part_objects x p) ≡ true
  part_written p is =
      let a = and_parts (list_all is_pin p.pins) _ is in
      let b = and_parts (list_all is_clock p.reals) (list_all is_class p.virtuals) a.1 in
      let virtuals = virtuals_end p.virtuals b.1 in
      let reals = clocks_then (λ c. (clock_at x.all.clocks c).name) p.reals (virtual_objects x p.virtuals) (all_on is_clock _ p.reals real_named b.0) virtuals in
      order_on 0 1 (part_objects x p) (omega arith)
      (pins_then (pin_name x.design x.block) p.pins (real_objects x p.reals ++ virtual_objects x p.virtuals) (all_on is_pin _ p.pins pin_named a.0) (order_on 1 2 (real_objects x p.reals ++ virtual_objects x p.virtuals) (omega arith) reals))
    where
      virtuals_end : (ks : List ℕ) → list_all is_class ks ≡ true → are_in_order 2 (virtual_objects x ks) ≡ true
      virtuals_end [] all = refl
      virtuals_end (k ∷ ks) all =
          let parts = and_parts (is_class k) (list_all is_class ks) all in
          rw (virtual_kept k parts.0, virtuals_end ks parts.1) refl

  pub part_some : (p : Part) → is_empty_part p ≡ false → has_some (part_objects x p) ≡ true
  part_some p some = by_lists p.pins p.reals p.virtuals some
    where
      by_lists : (vs cs ks : List ℕ) → (is_empty_list vs && (is_empty_list cs && is_empty_list ks)) ≡ false → has_some (pin_objects x vs ++ (real_objects x cs ++ virtual_objects x ks)) ≡ true
      by_lists [] [] [] some = absurd (cc)
      by_lists [] [] (k ∷ ks) some = refl
      by_lists [] (c ∷ cs) ks some = refl
      by_lists (v ∷ vs) cs ks some = refl

  -- the sources of a clock
  pub sources_written : (c : ℕ) → are_written (source_objects x c) ≡ true
  sources_written c =
      ports_then (pin_name x.design x.block) (bits_reached x c) (pin_objects x (sources_inside x c)) (all_on is_pin _ (bits_reached x c) pin_named bits)
      (order_on 0 1 (pin_objects x (sources_inside x c)) (omega arith) (pins_end (sources_inside x c) (pins_below _)))
    where
      bits : list_all is_pin (bits_reached x c) ≡ true
      bits = all_filter is_pin _ _ (all_filter is_pin _ (bits_of x.design x.block) (all_filter is_pin _ (range_with_len 0 (length x.design.pins)) (all_below (length x.design.pins))))

      pins_end : (vs : List ℕ) → list_all is_pin vs ≡ true → are_in_order 1 (pin_objects x vs) ≡ true
      pins_end [] all = refl
      pins_end (v ∷ vs) all =
          let parts = and_parts (is_pin v) (list_all is_pin vs) all in
          rw (pin_named v parts.0, pins_end vs parts.1) refl
