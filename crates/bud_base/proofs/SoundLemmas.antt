-- Between the refusals by numbers and the soundness of items, starts and ends.
use Rattle.std.proofs.Common.{◌≡◌, ℕ, ℤ, pos, negsuc, ◌≤ℤ◌, ◌<◌, ◌≤◌, Bool, true, false, not, ◌&&◌, ◌||◌, nat_le, nat_lt, int_le, cond, Option, Some, None, List, length, find, refl, sym, ◌∙◌, arith, All}
use Rattle.std.specs.Option.{option_map}
use Rattle.std.proofs.lemmas.Bool.{leb-true, leb-false, le-leb, lt-leb, ltb-false, le-ltb, and_parts, and_from, or_parts, not-false, not_from_true}
use Rattle.std.proofs.lemmas.Int.{ints}
use Rattle.std.proofs.lemmas.List.Elements.{All-weaker}
use Rattle.std.proofs.lemmas.Option.{none-some}
use Rattle.bud_base.specs.Markings.{NamesOwnNodes}
use Rattle.bud_base.specs.Orders.{IsWithinNodes, HasOrder, IsLive}
use Rattle.bud_base.specs.Soundness.{IsSoundItem, IsTime, IsSoundStart, IsSoundEnd, IsWithinLimits, IsSound, first_bad_node, is_bounded, first_bad_bounds, is_time, first_bad_time, first_passed_limit, IsInRange}
use Rattle.bud_base.proofs.FindLemmas.{find-none, none-find, position_from-none, none-position_from, find_map-none, none-find_map, find_pairs-none, none-find_pairs, option_or-none, none-option_or, option_map-none, none-option_map}
use Rattle.bud_base.proofs.RangeLemmas.{first_bad_node-parts}
use Rattle.bud_base.specs.declared.problems.Item.{Item}
use Rattle.bud_base.specs.declared.problems.Start.{Start}
use Rattle.bud_base.specs.declared.problems.End.{End}
use Rattle.bud_base.specs.declared.problems.Problem.{Problem}

-- where no node number is out of range, the problem names its own nodes
pub NamesOwnNodes-from_range : (p : Problem) → first_bad_node p ≡ None → NamesOwnNodes p
NamesOwnNodes-from_range p none =
    let parts = option_or-none _ _ (first_bad_node-parts p p.items p.starts p.ends _ _ _ refl refl refl refl refl refl ∙ none) in
    let others = option_or-none _ _ parts.1 in
    record {
      items = λ k d below.
          let fails = find_pairs-none (λ n. nat_le p.nodes n) (λ x. x.from.0) (λ x. x.to.0) p.items parts.0 k d below in
          record { from = leb-false _ _ fails.0; to = leb-false _ _ fails.1 };
      starts = λ k d below. leb-false _ _ (find_map-none (λ n. nat_le p.nodes n) (λ x. x.node.0) p.starts others.0 k d below);
      ends = λ k d below. leb-false _ _ (find_map-none (λ n. nat_le p.nodes n) (λ x. x.node.0) p.ends others.1 k d below);
    }

pub range-from_NamesOwnNodes : (p : Problem) → NamesOwnNodes p → first_bad_node p ≡ None
range-from_NamesOwnNodes p names =
    sym (first_bad_node-parts p p.items p.starts p.ends _ _ _ refl refl refl refl refl refl)
    ∙ none-option_or _ _
    (none-find_pairs (λ n. nat_le p.nodes n) (λ x. x.from.0) (λ x. x.to.0) p.items
    (λ k d below. (lt-leb _ _ (names.items k d below).from, lt-leb _ _ (names.items k d below).to)))
    (none-option_or _ _ (none-find_map (λ n. nat_le p.nodes n) (λ x. x.node.0) p.starts (λ k d below. lt-leb _ _ (names.starts k d below)))
    (none-find_map (λ n. nat_le p.nodes n) (λ x. x.node.0) p.ends (λ k d below. lt-leb _ _ (names.ends k d below))))

-- an item's bounds and weight
pub record HasBounds (x : Item) : Type 0 where
  pub low : pos 0 ≤ℤ x.least
  pub between : x.least ≤ℤ x.greatest
  pub high : x.greatest ≤ℤ pos 2000000000
  pub weight : x.weight ≤ 1048576

HasBounds-from_test : (x : Item) → is_bounded x ≡ true → HasBounds x
HasBounds-from_test x passes =
    let low : Bool = int_le (pos 0) x.least in
    let between : Bool = int_le x.least x.greatest in
    let high : Bool = int_le x.greatest (pos 2000000000) in
    let last = and_parts (low && between && high) (nat_le x.weight 1048576) passes in
    let third = and_parts (low && between) high last.0 in
    let first = and_parts low between third.0 in
    record { low = omega (arith, ints, first.0); between = omega (arith, ints, first.1); high = omega (arith, ints, third.1); weight = leb-true x.weight 1048576 last.1 }

test-from_HasBounds : (x : Item) → HasBounds x → is_bounded x ≡ true
test-from_HasBounds x bounds =
    let low : int_le (pos 0) x.least ≡ true = grind (arith, ints, bounds.low) in
    let between : int_le x.least x.greatest ≡ true = grind (arith, ints, bounds.between) in
    let high : int_le x.greatest (pos 2000000000) ≡ true = grind (arith, ints, bounds.high) in
    and_from _ _ (and_from _ _ (and_from _ _ low between) high) (le-leb x.weight 1048576 bounds.weight)

pub AllBounds-from_range : (items : List Item) → first_bad_bounds items ≡ None → All HasBounds items
AllBounds-from_range items none = λ k d below.
    HasBounds-from_test _ (not-false _ (position_from-none (λ x. not (is_bounded x)) 0 items (option_map-none _ _ none) k d below))

pub range-from_AllBounds : (items : List Item) → All HasBounds items → first_bad_bounds items ≡ None
range-from_AllBounds items all =
    none-option_map _ _ (none-position_from (λ x. not (is_bounded x)) 0 items (λ k d below. not_from_true _ (test-from_HasBounds _ (all k d below))))

IsTime-from_test : (t : ℤ) → is_time t ≡ true → IsTime t
IsTime-from_test t passes =
    let parts = and_parts (int_le (negsuc 1999999999999) t) (int_le t (pos 2000000000000)) passes in
    record { low = omega (arith, ints, parts.0); high = omega (arith, ints, parts.1) }

test-from_IsTime : (t : ℤ) → IsTime t → is_time t ≡ true
test-from_IsTime t time =
    let low : int_le (negsuc 1999999999999) t ≡ true = grind (arith, ints, time.low) in
    let high : int_le t (pos 2000000000000) ≡ true = grind (arith, ints, time.high) in
    and_from _ _ low high

-- the times of the starts and ends
pub record HasTimes (p : Problem) : Type 0 where
  pub starts : All (λ s. IsTime s.offset) p.starts
  pub ends : All (λ e. IsTime e.require) p.ends

pub HasTimes-from_range : (p : Problem) → first_bad_time p ≡ None → HasTimes p
HasTimes-from_range p none =
    let late_starts : Option Start = find (λ s. not (is_time s.offset)) p.starts in
    let late_ends : Option End = find (λ e. not (is_time e.require)) p.ends in
    let parts = option_or-none (option_map (λ s. s.node) late_starts) (option_map (λ e. e.node) late_ends) none in
    record {
      starts = λ k d below.
          IsTime-from_test _ (not-false _ (find-none (λ s. not (is_time s.offset)) p.starts (option_map-none (λ s. s.node) late_starts parts.0) k d below));
      ends = λ k d below. IsTime-from_test _ (not-false _ (find-none (λ e. not (is_time e.require)) p.ends (option_map-none (λ e. e.node) late_ends parts.1) k d below));
    }

pub range-from_HasTimes : (p : Problem) → HasTimes p → first_bad_time p ≡ None
range-from_HasTimes p times =
    none-option_or _ _
    (none-option_map _ _ (none-find (λ s. not (is_time s.offset)) p.starts (λ k d below. not_from_true _ (test-from_IsTime _ (times.starts k d below)))))
    (none-option_map _ _ (none-find (λ e. not (is_time e.require)) p.ends (λ k d below. not_from_true _ (test-from_IsTime _ (times.ends k d below)))))

-- a limit that is passed, or none
cond-none : {X : Type 0} (b : Bool) (x : X) (o : Option X) → cond b (Some x) o ≡ None → (b ≡ false) × (o ≡ None)
cond-none true x o none = absurd (none-some x (sym none))
cond-none false x o none = (refl, none)

pub IsWithinLimits-from_range : (p : Problem) → first_passed_limit p ≡ None → IsWithinLimits p
IsWithinLimits-from_range p none =
    let nodes : Bool = nat_lt 8388608 p.nodes in
    let starts : Bool = nat_lt 8388608 (length p.starts) in
    let ends : Bool = nat_lt 8388608 (length p.ends) in
    let first = cond-none (nat_lt 4194304 (length p.items)) 4194305 (cond (nodes || starts || ends) (Some 8388609) None) none in
    let second = cond-none (nodes || starts || ends) 8388609 None first.1 in
    let third = or_parts (nodes || starts) ends second.0 in
    let fourth = or_parts nodes starts third.0 in
    record { items = ltb-false _ _ first.0; nodes = ltb-false _ _ fourth.0; starts = ltb-false _ _ fourth.1; ends = ltb-false _ _ third.1 }

pub range-from_IsWithinLimits : (p : Problem) → IsWithinLimits p → first_passed_limit p ≡ None
range-from_IsWithinLimits p limits =
    let none : (nat_lt 8388608 p.nodes || nat_lt 8388608 (length p.starts) || nat_lt 8388608 (length p.ends)) ≡ false
    = rw (le-ltb 8388608 p.nodes limits.nodes, le-ltb 8388608 (length p.starts) limits.starts, le-ltb 8388608 (length p.ends) limits.ends) refl in
    rw (le-ltb 4194304 (length p.items) limits.items, none) refl

-- a sound problem names its own nodes
pub NamesOwnNodes-from_sound : (p : Problem) → IsSound p → NamesOwnNodes p
NamesOwnNodes-from_sound p sound = record {
  items = All-weaker (IsSoundItem p.nodes) (IsWithinNodes p.nodes) (λ x item. record { from = item.from; to = item.to }) p.items sound.items;
  starts = All-weaker (IsSoundStart p.nodes) (λ s. s.node.0 < p.nodes) (λ s start. start.node) p.starts sound.starts;
  ends = All-weaker (IsSoundEnd p.nodes) (λ e. e.node.0 < p.nodes) (λ e end. end.node) p.ends sound.ends;
}

-- and has no number out of range
pub IsInRange-from_sound : (p : Problem) → IsSound p → IsInRange p
IsInRange-from_sound p sound = record {
  nodes = range-from_NamesOwnNodes p (NamesOwnNodes-from_sound p sound);
  bounds = range-from_AllBounds p.items
      (All-weaker (IsSoundItem p.nodes) HasBounds (λ x item. record { low = item.low; between = item.between; high = item.high; weight = item.weight }) p.items sound.items);
  times = range-from_HasTimes p (record {
    starts = All-weaker (IsSoundStart p.nodes) (λ s. IsTime s.offset) (λ s start. start.time) p.starts sound.starts;
    ends = All-weaker (IsSoundEnd p.nodes) (λ e. IsTime e.require) (λ e end. end.time) p.ends sound.ends;
  });
  limits = range-from_IsWithinLimits p sound.limits;
}

-- a problem in range with an order whose nodes are all on paths is sound
pub IsSound-from_range : (p : Problem) → IsInRange p → HasOrder p → ((n : ℕ) → n < p.nodes → IsLive p n) → IsSound p
IsSound-from_range p in_range has_order live =
    let names = NamesOwnNodes-from_range p in_range.nodes in
    let bounds = AllBounds-from_range p.items in_range.bounds in
    let times = HasTimes-from_range p in_range.times in
    record {
      items = λ k d below.
          let within = names.items k d below in
          let bounded = bounds k d below in
          record { from = within.from; to = within.to; low = bounded.low; between = bounded.between; high = bounded.high; weight = bounded.weight };
      starts = λ k d below. record { node = names.starts k d below; time = times.starts k d below };
      ends = λ k d below. record { node = names.ends k d below; time = times.ends k d below };
      limits = IsWithinLimits-from_range p in_range.limits;
      order = has_order;
      live = live;
    }
