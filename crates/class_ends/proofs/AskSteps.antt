-- The least that captures ask for, one after another.
use Rattle.std.proofs.Common.{◌≡◌, ◌≢◌, ◌==◌, ◌&&◌, ℕ, zero, suc, ◌+◌, ◌-◌, ◌<◌, ◌≤◌, true, false, List, [], ◌∷◌, length, drop, get_or, map, Option, Some, None, refl, sym, ◌∙◌, ap, subst, inl, inr, arith, eq-eqb, if◌then◌else◌}
use Rattle.std.specs.Prelude.{All, filter_map, filter, ℤ, pos, negsuc, ◌-ℤ◌, ◌≤ℤ◌, int_le}
use Rattle.std.specs.Option.{option_map}
use Rattle.std.specs.List.{cons_option}
use Rattle.std.proofs.lemmas.Bool.{ne_eqb, cases_lt, cases_eq, cases_Bool}
use Rattle.std.proofs.lemmas.Int.{ints}
use Rattle.std.proofs.lemmas.List.{at_drop_more, drop_all, get_or-map, length-map}
use Rattle.std.proofs.lemmas.List.Elements.{All-map, All-filter}
use Rattle.bud_base.specs.Paths.{item_at}
use Rattle.bud_base.specs.Leaving.{leaving_from}
use Rattle.bud_base.specs.declared.ids.ItemId.{ItemId}
use Rattle.bud_base.specs.declared.problems.Item.{Item}
use Rattle.bud_base.proofs.LeavingLemmas.{IsFirstLeaving, leaving_from-some, leaving_from-none}
use Rattle.bud_syntax.specs.declared.edges.Edge.TheVariants.{Rise}
use Rattle.bud_design.specs.Clocks.{clock_at}
use Rattle.bud_design.specs.Exceptions.{class_requirement, has_met, meets_to}
use Rattle.bud_design.specs.ConstraintRules.{IsSoundKind}
use Rattle.bud_design.specs.Lists.{least, lesser}
use Rattle.bud_design.specs.TimingPaths.{asked, least_asked}
use Rattle.bud_design.specs.declared.clocks.Capture.{Capture}
use Rattle.bud_design.specs.declared.clocks.Constraints.{Constraints}
use Rattle.bud_design.specs.declared.clocks.Exception.{Exception}
use Rattle.bud_design.specs.declared.layers.Class.{Class}
use Rattle.bud_design.proofs.RequirementRanges.{IsWithin, required_by-within}
use Rattle.class_ends.specs.Asks.{capture_item, with_ask, HasSoundConstraints}

pub requirement-within : (all : Constraints) → HasSoundConstraints all → (k : Class) (x : Capture) → k.clock < length all.clocks → x.clock < length all.clocks → (r : ℤ)
    → class_requirement all k x ≡ Some r → IsWithin (negsuc 999999999) (pos 1000000000000) r
requirement-within all sound k x launch capture r is =
    required_by-within (map (λ (g : Exception). g.kind) (filter (λ (g : Exception). has_met k g && meets_to g x) all.exceptions))
    (clock_at all.clocks k.clock) (clock_at all.clocks x.clock) k.edge x.edge (sound.clocks k.clock (clock_at [] 0) launch) (sound.clocks x.clock (clock_at [] 0) capture)
    (All-map IsSoundKind (λ (g : Exception). g.kind) (filter (λ (g : Exception). has_met k g && meets_to g x) all.exceptions)
    (All-filter (λ (g : Exception). has_met k g && meets_to g x) (λ (g : Exception). IsSoundKind g.kind) all.exceptions sound.kinds)) r is

abbrev pub capture_at : List Capture → ℕ → Capture
capture_at xs i = get_or xs i (record { pin = record { 0 = 0 }; clock = 0; edge = Rise; amount = pos 0 })

-- the lesser of two times that may be missing
abbrev pub lesser_of_two : Option ℤ → Option ℤ → Option ℤ
lesser_of_two None o = o
lesser_of_two (Some z) o = Some (lesser z o)

least-cons : (o : Option ℤ) (zs : List ℤ) → least (cons_option o zs) ≡ lesser_of_two o (least zs)
least-cons None zs = refl
least-cons (Some z) zs = refl

min-comm : (a b : ℤ) → (if int_le a b then a else b) ≡ (if int_le b a then b else a)
min-comm a b = grind (arith, ints)

min-assoc : (a b c : ℤ) → (if int_le a (if int_le b c then b else c) then a else (if int_le b c then b else c)) ≡ (if int_le (if int_le a b then a else b) c then (if int_le a b then a else b) else c)
min-assoc a b c = grind (arith, ints)

-- a time and what was found before, and then the rest
lesser-joins : (z : ℤ) (found rest : Option ℤ) → lesser_of_two (Some (lesser z found)) rest ≡ lesser_of_two found (lesser_of_two (Some z) rest)
lesser-joins z None rest = refl
lesser-joins z (Some b) None = ap Some (min-comm z b)
lesser-joins z (Some b) (Some c) = ap Some (ap (λ m. if int_le m c then m else c) (min-comm z b) ∙ sym (min-assoc b z c))

module _ (xs : List Capture) (v : ℕ) (f : Capture → Option ℤ) where
  -- what is asked from a place on
  abbrev pub asked_from : ℕ → Option ℤ
  asked_from low = least (filter_map (asked v f) (drop low xs))

  asked-step : (low : ℕ) → low < length xs → asked_from low ≡ lesser_of_two (asked v f (capture_at xs low)) (asked_from (low + 1))
  asked-step low below =
      at_drop_more (λ zs. least (filter_map (asked v f) zs)) xs low (capture_at [] 0) below ∙ least-cons (asked v f (capture_at xs low)) (filter_map (asked v f) (drop (low + 1) xs))

  asked-other : (low : ℕ) → low < length xs → ((capture_at xs low).pin.0 ≢ v) → asked_from low ≡ asked_from (low + 1)
  asked-other low below other = asked-step low below ∙ rw (ne_eqb (capture_at xs low).pin.0 v other) refl

  asked-skip : (gap low : ℕ) → low + gap ≤ length xs → ((j : ℕ) → low ≤ j → j < low + gap → (capture_at xs j).pin.0 ≢ v) → asked_from low ≡ asked_from (low + gap)
  asked-skip zero low within others = let e : low + zero ≡ low = omega arith in ap asked_from (sym e)
  asked-skip (suc gap) low within others =
      let e : (low + 1) + gap ≡ low + suc gap = omega arith in
      asked-other low (omega (arith, within)) (others low (omega arith) (omega arith))
      ∙ (asked-skip gap (low + 1) (omega (arith, within)) (λ j past below. others j (omega (arith, past)) (omega (arith, below))) ∙ ap asked_from e)

  asked-between : (low i : ℕ) → low ≤ i → i ≤ length xs → ((j : ℕ) → low ≤ j → j < i → (capture_at xs j).pin.0 ≢ v) → asked_from low ≡ asked_from i
  asked-between low i ordered within others =
      let e : low + (i - low) ≡ i = omega (arith, ordered) in
      asked-skip (i - low) low (omega (arith, ordered, within)) (λ j past below. others j past (omega (arith, below, e))) ∙ ap asked_from e

  asked-here : (i : ℕ) (found : Option ℤ) → i < length xs → (capture_at xs i).pin.0 ≡ v → asked v f (capture_at xs i) ≡ option_map (λ r. r -ℤ (capture_at xs i).amount) (f (capture_at xs i))
  asked-here i found below same = rw (eq-eqb (capture_at xs i).pin.0 v same) refl

  -- the pin of a capture is the first node of its item
  item-pin : (i : ℕ) → i < length xs → (item_at (map capture_item xs) i).from.0 ≡ (capture_at xs i).pin.0
  item-pin i below = ap (λ (x : Item). x.from.0) (get_or-map capture_item xs i (capture_at [] 0) (item_at [] 0) below)

  -- the least found so far, and the captures that are left
  pub record IsAsking (next : Option ItemId) (found : Option ℤ) : Type 0 where
    pub low : ℕ
    pub from_low : next ≡ leaving_from (map capture_item xs) v low
    pub rest : asked_from 0 ≡ lesser_of_two found (asked_from low)

  pub IsAsking-first : (next : Option ItemId) → next ≡ leaving_from (map capture_item xs) v 0 → IsAsking next None
  IsAsking-first next is = record { low = 0; from_low = is; rest = refl }

  pub found-item : (next : Option ItemId) (found : Option ℤ) (i : ItemId) → next ≡ Some i → (asking : IsAsking next found) → IsFirstLeaving (map capture_item xs) v asking.low i.0
  found-item next found i is asking = leaving_from-some (map capture_item xs) v asking.low i (sym asking.from_low ∙ is)

  -- what is found with one ask more
  with_ask-joins : (o found rest : Option ℤ) → lesser_of_two (with_ask o found) rest ≡ lesser_of_two found (lesser_of_two o rest)
  with_ask-joins None None rest = refl
  with_ask-joins None (Some z) rest = refl
  with_ask-joins (Some z) found rest = lesser-joins z found rest

  pub IsAsking-more : (next : Option ItemId) (found : Option ℤ) (i : ItemId) (o : Option ℤ) (after : Option ItemId) → next ≡ Some i
      → o ≡ option_map (λ r. r -ℤ (capture_at xs i.0).amount) (f (capture_at xs i.0)) → after ≡ leaving_from (map capture_item xs) (item_at (map capture_item xs) i.0).from.0 (i.0 + 1)
      → IsAsking next found → IsAsking after (with_ask o found)
  IsAsking-more next found i o after is ask behind asking =
      let first = found-item next found i is asking in
      let within : i.0 < length xs = omega (arith, first.within, length-map xs capture_item) in
      let pin : (capture_at xs i.0).pin.0 ≡ v = sym (item-pin i.0 within) ∙ first.leaves in
      record {
        low = i.0 + 1;
        from_low = behind ∙ ap (λ u. leaving_from (map capture_item xs) u (i.0 + 1)) first.leaves;
        rest = asking.rest
            ∙ (ap (lesser_of_two found) (asked-between asking.low i.0 first.above (omega (arith, within))
            (λ j past below at_pin. first.between j past below (item-pin j (omega (arith, below, within)) ∙ at_pin))
            ∙ (asked-step i.0 within ∙ ap (λ a. lesser_of_two a (asked_from (i.0 + 1))) (asked-here i.0 found within pin ∙ sym ask)))
            ∙ sym (with_ask-joins o found (asked_from (i.0 + 1))));
      }

  lesser-none : (o : Option ℤ) → lesser_of_two o None ≡ o
  lesser-none None = refl
  lesser-none (Some z) = refl

  pub asked-from_asking : (next : Option ItemId) (found : Option ℤ) → next ≡ None → IsAsking next found → found ≡ least_asked xs v f
  asked-from_asking next found none asking = sym (asking.rest ∙ (ap (lesser_of_two found) ended ∙ lesser-none found))
    where
      ended : asked_from asking.low ≡ None
      ended = elim (cases_lt asking.low (length xs)) [
        | inl below ↦
            asked-between asking.low (length xs) (omega (arith, below)) (omega arith)
            (λ j past within at_pin. leaving_from-none (map capture_item xs) v asking.low (sym asking.from_low ∙ none) j past (omega (arith, within, length-map xs capture_item)) (item-pin j within ∙ at_pin))
            ∙ ap (λ zs. least (filter_map (asked v f) zs)) (drop_all (length xs) xs (omega arith))
        | inr past ↦ ap (λ zs. least (filter_map (asked v f) zs)) (drop_all asking.low xs past)
      ]

pub items-below : (xs : List Capture) (pins : ℕ) → All (λ x. x.pin.0 < pins) xs → (items : List Item) → items ≡ map capture_item xs → All (λ y. y.from.0 < pins) items
items-below xs pins below items is = subst (λ ys. All (λ (y : Item). y.from.0 < pins) ys) (sym is) (All-map (λ (y : Item). y.from.0 < pins) capture_item xs below)

pub ask-value : (t a s : ℤ) (o : Option ℤ) → Some t ≡ o → s ≡ t -ℤ a → Some s ≡ option_map (λ r. r -ℤ a) o
ask-value t a s o is value = ap Some value ∙ ap (option_map (λ r. r -ℤ a)) is
