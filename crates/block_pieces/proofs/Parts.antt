-- What the parts of a file's exceptions name, in the numbers of the block's design.
use Rattle.std.specs.Prelude.{◌≡◌, ℕ, ◌==◌, ◌||◌, Bool, true, false, List, [], ◌∷◌, map, All, Contains, Some, slice_index_or}
use Rattle.std.specs.List.{list_any}
use Rattle.std.proofs.Common.{true≢false, refl, sym, ◌∙◌, ap, arith, eq-eqb}
use Rattle.std.proofs.lemmas.Bool.{ne_eqb}
use Rattle.std.proofs.lemmas.Bool.Decides.{Decides-eqb}
use Rattle.std.proofs.lemmas.List.Elements.{All-head, All-tail}
use Rattle.std.proofs.lemmas.List.Folds.{list_any-append}
use Rattle.bud_design.specs.Exceptions.{names, has_pin, has_clock}
use Rattle.block_theory.specs.BlockClocks.{real_clocks}
use Rattle.block_theory.specs.BlockExceptions.{Part}
use Rattle.block_theory.specs.BlockPorts.{Context, port_classes}
use Rattle.block_theory.specs.BlockScopes.{pin_ids, real_number, virtual_number, marks_as}
use Rattle.block_pieces.proofs.Numbering.{IsPlaceOf-place_in, place_in-same}

-- a number is one of a list's
abbrev pub has : List ℕ → ℕ → Bool
has ns n = list_any (λ m. m == n) ns

pins-named : (vs : List ℕ) (v : ℕ) → has_pin (pin_ids vs) v ≡ has vs v
pins-named [] v = refl
pins-named (u ∷ us) v = ap (λ b. u == v || b) (pins-named us v)

-- numbers given one to one name what they stand for
numbered-has : (f : ℕ → ℕ) (n : ℕ) (ms : List ℕ) → All (λ m. f m ≡ f n → m ≡ n) ms → has_clock (map f ms) (f n) ≡ has ms n
numbered-has f n [] one = refl
numbered-has f n (m ∷ ms) one = rw (here (m == n) refl, numbered-has f n ms (All-tail (λ m. f m ≡ f n → m ≡ n) m ms one)) refl
  where
    here : (b : Bool) → (m == n) ≡ b → (f m == f n) ≡ (m == n)
    here true same = rw same (eq-eqb (f m) (f n) (ap f ((Decides-eqb m n).0 same)))
    here false other = rw other (ne_eqb (f m) (f n) (λ e. true≢false (sym (eq-eqb m n (All-head (λ m. f m ≡ f n → m ≡ n) m ms one e)) ∙ other)))

none-numbered : (f : ℕ → ℕ) (c : ℕ) (ms : List ℕ) → All (λ m. f m ≡ c → ⊥) ms → has_clock (map f ms) c ≡ false
none-numbered f c [] other = refl
none-numbered f c (m ∷ ms) other = rw (ne_eqb (f m) c (All-head (λ m. f m ≡ c → ⊥) m ms other)) (none-numbered f c ms (All-tail (λ m. f m ≡ c → ⊥) m ms other))

or-false : (b : Bool) → b || false ≡ b
or-false true = refl
or-false false = refl

-- real clocks and classes at ports that a part of the file names
pub record IsBlockPart (x : Context) (p : Part) : Type 0 where
  pub reals : All (Contains (real_clocks x)) p.reals
  pub virtuals : All (Contains (port_classes x)) p.virtuals

module _ (x : Context) where
  pub virtual-real : (k c : ℕ) → Contains (real_clocks x) c → virtual_number x k ≡ real_number x c → ⊥
  virtual-real k c there same = (let place = IsPlaceOf-place_in (real_clocks x) c there in omega (arith, place.below, same))

  pub virtual-same : (j k : ℕ) → Contains (port_classes x) j → Contains (port_classes x) k → virtual_number x j ≡ virtual_number x k → j ≡ k
  virtual-same j k hasj hask same = place_in-same (port_classes x) j k hasj hask (omega (arith, same))

  -- at the virtual clock of a class, and a pin that the part doesn't name
  pub names-virtual : (p : Part) → IsBlockPart x p → (v k : ℕ) → has p.pins v ≡ false → Contains (port_classes x) k → names (Some (marks_as x p)) v (virtual_number x k) ≡ has p.virtuals k
  names-virtual p is v k no_pin there =
      let reals = none-numbered (real_number x) (virtual_number x k) p.reals (λ i d below e. virtual-real k (slice_index_or p.reals i d) (is.reals i d below) (sym e)) in
      let virtuals = numbered-has (virtual_number x) k p.virtuals (λ i d below e. virtual-same (slice_index_or p.virtuals i d) k (is.virtuals i d below) there e) in
      let clocks = list_any-append (λ m. m == virtual_number x k) (map (real_number x) p.reals) (map (virtual_number x) p.virtuals) in
      rw (pins-named p.pins v, no_pin, clocks, reals) virtuals

  -- at a real clock and any pin
  pub names-real : (p : Part) → IsBlockPart x p → (v c : ℕ) → Contains (real_clocks x) c → names (Some (marks_as x p)) v (real_number x c) ≡ has p.pins v || has p.reals c
  names-real p is v c there =
      let reals = numbered-has (real_number x) c p.reals (λ i d below e. place_in-same (real_clocks x) (slice_index_or p.reals i d) c (is.reals i d below) there e) in
      let virtuals = none-numbered (virtual_number x) (real_number x c) p.virtuals (λ i d below e. virtual-real (slice_index_or p.virtuals i d) c there e) in
      let clocks = list_any-append (λ m. m == real_number x c) (map (real_number x) p.reals) (map (virtual_number x) p.virtuals) in
      rw (pins-named p.pins v, clocks, reals, virtuals) (ap (λ b. has p.pins v || b) (or-false (has p.reals c)))
