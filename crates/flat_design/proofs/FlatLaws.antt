-- What a name means in a flat design, by searches from a number on.
use Rattle.std.specs.Prelude.{◌≡◌, ℕ, suc, ◌<◌, ◌≤◌, ◌+◌, ◌-◌, ◌==◌, ◌&&◌, not, Bool, true, false, List, [], ◌∷◌, length, map, filter, Option, Some, None, IfSome}
use Rattle.std.specs.List.{range_with_len}
use Rattle.std.proofs.Common.{arith, sym, ◌∙◌, refl, ap}
use Rattle.std.proofs.lemmas.Bool.Decides.{Decides-eqb}
use Rattle.bud_design.specs.Designs.{Design, pin_at, is_inside, is_pin_of, named_pins, named_cells, place_name, pin_name}
use Rattle.bud_design.specs.Names.{meaning, plain}
use Rattle.bud_design.proofs.Lineages.{is_inside-top}
use Rattle.std.specs.Prelude.{slice_index_or, ◌++◌}
use Rattle.std.proofs.lemmas.List.{get_or_read_under}
use Rattle.bud_design.specs.declared.designs.Pin.{Pin}
use Rattle.bud_design.specs.Names.{bit_name}
use Rattle.flat_design.specs.declared.texts.Form.{Form}
use Rattle.flat_design.specs.Flats.{IsFlat, ArePlaces}
use Rattle.flat_design.specs.Fronts.{formed, front}
use Rattle.flat_design.specs.Kinds.{low_of, count_of, name_at, has_name, named_from, meant, keyed, name_key}
use Rattle.flat_design.specs.declared.kinds.Kind.{Kind}
use Rattle.flat_design.specs.declared.kinds.Kind.TheVariants.{Bits, Instances}
use Rattle.flat_design.specs.declared.texts.Form.TheVariants.{Printed, Plain}
use Rattle.name_tables.specs.ChainLists.{ChainLists}
use Rattle.name_tables.specs.Chained.{first_of, AreChained}
use Rattle.name_tables.specs.Keys.{key_of}
use Rattle.name_tables.proofs.ChainLaws.{LeadsOn, leads-first, leads-next}
use Rattle.name_tables.proofs.Finding.{find-here, find-next, find-end, found-within, found-passes}
use Rattle.std.proofs.lemmas.Slice.Eq.{bytes_eq-Decides}
use Rattle.flat_design.proofs.FrontLaws.{name-last}
use Rattle.flat_design.proofs.MeaningLaws.{named, meaning-named, filter-range, only-none, only-one, only-two}

pub are_places : (d : Design) → IsFlat d → ArePlaces d.places
are_places d is = record { top = is.is_design.top; parents = is.is_design.parents; forms = is.names.places }

pub meant-printed : (kind : Kind) (d : Design) (name : List ℕ) (v : ℕ) → named_from kind Printed d name (low_of kind) ≡ Some v → meant kind d name ≡ Some v
meant-printed kind d name v found = rw found refl

pub meant-none : (kind : Kind) (d : Design) (name : List ℕ) → named_from kind Printed d name (low_of kind) ≡ None → named_from kind Plain d name (low_of kind) ≡ None → meant kind d name ≡ None
meant-none kind d name none plain_none = rw none (only-none (has_name kind Plain d name) (low_of kind) (count_of kind d) plain_none)

pub meant-one : (kind : Kind) (d : Design) (name : List ℕ) (v : ℕ) → named_from kind Printed d name (low_of kind) ≡ None → named_from kind Plain d name (low_of kind) ≡ Some v
    → named_from kind Plain d name (v + 1) ≡ None → meant kind d name ≡ Some v
meant-one kind d name v none found last = rw none (only-one (has_name kind Plain d name) (low_of kind) (count_of kind d) v found last)

pub meant-two : (kind : Kind) (d : Design) (name : List ℕ) (v w : ℕ) → named_from kind Printed d name (low_of kind) ≡ None → named_from kind Plain d name (low_of kind) ≡ Some v
    → named_from kind Plain d name (v + 1) ≡ Some w → meant kind d name ≡ None
meant-two kind d name v w none found again = rw none (only-two (has_name kind Plain d name) (low_of kind) (count_of kind d) v w found again)

-- what is named stands below the count
pub named-within : (kind : Kind) (form : Form) (d : Design) (name : List ℕ) (v : ℕ) → named_from kind form d name (low_of kind) ≡ Some v → (low_of kind ≤ v) × (v < count_of kind d)
named-within kind form d name v found = found-within (has_name kind form d name) (low_of kind) (count_of kind d) v found

pub meant-within : (kind : Kind) (d : Design) (name : List ℕ) (v : ℕ) → meant kind d name ≡ Some v → v < count_of kind d
meant-within kind d name v is = by_printed (named_from kind Printed d name (low_of kind)) refl
  where
    by_plain : (o p : Option ℕ) → named_from kind Plain d name (low_of kind) ≡ o → ((w : ℕ) → o ≡ Some w → named_from kind Plain d name (w + 1) ≡ p) → meant kind d name ≡ Some v
        → named_from kind Printed d name (low_of kind) ≡ None → v < count_of kind d
    by_plain None p e f is none = absurd (let never : meant kind d name ≡ None = meant-none kind d name none e in cc)
    by_plain (Some w) None e f is none =
        let one : meant kind d name ≡ Some w = meant-one kind d name w none e (f w refl) in
        let same : w ≡ v = cc in
        omega (arith, same, (named-within kind Plain d name w e).1)
    by_plain (Some w) (Some u) e f is none = absurd (let never : meant kind d name ≡ None = meant-two kind d name w u none e (f w refl) in cc)

    by_second : (o : Option ℕ) → named_from kind Plain d name (low_of kind) ≡ o → named_from kind Printed d name (low_of kind) ≡ None → v < count_of kind d
    by_second None e none = by_plain None None e (λ w same. absurd (cc)) is none
    by_second (Some w) e none =
        by_plain (Some w) (named_from kind Plain d name (w + 1)) e (λ u same. let here : w ≡ u = cc in ap (λ w. named_from kind Plain d name (w + 1)) (sym here)) is none

    by_printed : (o : Option ℕ) → named_from kind Printed d name (low_of kind) ≡ o → v < count_of kind d
    by_printed (Some w) e =
        let one : meant kind d name ≡ Some w = meant-printed kind d name w e in
        let same : w ≡ v = cc in
        omega (arith, same, (named-within kind Printed d name w e).1)
    by_printed None e = by_second (named_from kind Plain d name (low_of kind)) refl e

-- what has a name has its key
named-keyed : (kind : Kind) (form : Form) (d : Design) (name : List ℕ) (v : ℕ) → has_name kind form d name v ≡ true → keyed kind d v ≡ name_key form name
named-keyed kind Printed d name v has = ap (λ s. key_of (plain s)) ((bytes_eq-Decides (name_at kind d v) name).0 has)
named-keyed kind Plain d name v has = ap key_of ((bytes_eq-Decides (plain (name_at kind d v)) name).0 has)

pub found-keyed : (kind : Kind) (form : Form) (d : Design) (name : List ℕ) (v : ℕ) → named_from kind form d name (low_of kind) ≡ Some v → keyed kind d v ≡ name_key form name
found-keyed kind form d name v found =
    named-keyed kind form d name v (found-passes (has_name kind form d name) (range_with_len (low_of kind) (count_of kind d - low_of kind)) v found)

-- a search goes on along the chain of the name's key
abbrev pub Leads : Kind → Form → Design → List ℕ → ℕ → ℕ → Type 0
Leads kind form d name from v = LeadsOn (keyed kind d) (has_name kind form d name) (count_of kind d) (name_key form name) from v

pub named-first : (kind : Kind) (form : Form) (d : Design) (name : List ℕ) (chains : ChainLists) (v : ℕ) → AreChained (keyed kind d) (low_of kind) (count_of kind d) chains → low_of kind ≤ count_of kind d
    → v ≡ first_of chains (name_key form name) → Leads kind form d name (low_of kind) v
named-first kind form d name chains v are small is =
    leads-first (keyed kind d) (low_of kind) (count_of kind d) chains (has_name kind form d name) (name_key form name) v are small (named-keyed kind form d name) is

pub named-next : (kind : Kind) (form : Form) (d : Design) (name : List ℕ) (chains : ChainLists) (u v : ℕ) → AreChained (keyed kind d) (low_of kind) (count_of kind d) chains → low_of kind ≤ u
    → u < count_of kind d → keyed kind d u ≡ name_key form name → v ≡ slice_index_or chains.next u 0 → Leads kind form d name (u + 1) v
named-next kind form d name chains u v are low below alike is =
    leads-next (keyed kind d) (low_of kind) (count_of kind d) chains (has_name kind form d name) (name_key form name) u v are low below alike (named-keyed kind form d name) is

-- one object without the name is left behind
pub named-on : (kind : Kind) (form : Form) (d : Design) (name : List ℕ) (chains : ChainLists) (start u v : ℕ) → AreChained (keyed kind d) (low_of kind) (count_of kind d) chains → low_of kind ≤ u
    → u < count_of kind d → keyed kind d u ≡ name_key form name → has_name kind form d name u ≡ false → v ≡ slice_index_or chains.next u 0 → named_from kind form d name start ≡ named_from kind form d name u
    → (named_from kind form d name start ≡ named_from kind form d name v) × (low_of kind ≤ v) × (v ≤ count_of kind d) × (v < count_of kind d → keyed kind d v ≡ name_key form name)
named-on kind form d name chains start u v are low below alike other is so_far =
    let leads = named-next kind form d name chains u v are low below alike is in (
      so_far ∙ (find-next (has_name kind form d name) u (count_of kind d) below other ∙ leads.same),
      omega (arith, low, leads.behind),
      leads.within,
      leads.alike,
    )

pub named-here : (kind : Kind) (form : Form) (d : Design) (name : List ℕ) (start u : ℕ) → u < count_of kind d → has_name kind form d name u ≡ true → named_from kind form d name start ≡ named_from kind form d name u
    → Some u ≡ named_from kind form d name start
named-here kind form d name start u below has so_far = sym (so_far ∙ find-here (has_name kind form d name) u (count_of kind d) below has)

pub named-end : (kind : Kind) (form : Form) (d : Design) (name : List ℕ) (start u : ℕ) → count_of kind d ≤ u → named_from kind form d name start ≡ named_from kind form d name u
    → None ≡ named_from kind form d name start
named-end kind form d name start u past so_far = sym (so_far ∙ find-end (has_name kind form d name) u (count_of kind d) past)

pub named-less : (count u v : ℕ) → u + 1 ≤ v → v ≤ count → u < count → count - v < count - u
named-less count u v behind within below = omega (arith, behind, within, below)

pub within-some : (o : Option ℕ) (n : ℕ) → ((v : ℕ) → o ≡ Some v → v < n) → IfSome o (λ v. v < n)
within-some None n below = tt
within-some (Some v) n below = below v refl

pub low-below : (kind : Kind) (d : Design) → IsFlat d → low_of kind ≤ count_of kind d
low-below Bits d is = omega arith
low-below Instances d is = omega (arith, is.is_design.top)

range-whole : (n : ℕ) → range_with_len 0 n ≡ range_with_len 0 (n - 0)
range-whole n = let same : n ≡ n - 0 = omega arith in ap (range_with_len 0) same

pub meant-pin : (d : Design) (name : List ℕ) → IsFlat d → meaning (named_pins d 0) name ≡ meant Bits d name
meant-pin d name is =
    ap (λ xs. meaning (map (named (pin_name d 0)) xs) name)
    (filter-range (is_pin_of d 0) 0 (length d.pins)
    (λ v low high. is_inside-top d.places is.is_design.parents (pin_at d.pins v).place (is.is_design.in_places v (pin_at [] 0) (omega (arith, high))))
    ∙ range-whole (length d.pins))
    ∙ meaning-named (pin_name d 0) (range_with_len 0 (length d.pins - 0)) name

not-zero : (p : ℕ) → 1 ≤ p → (p == 0) ≡ false
not-zero p some = by_test (p == 0) refl
  where
    by_test : (b : Bool) → (p == 0) ≡ b → (p == 0) ≡ false
    by_test true is = absurd (omega (arith, (Decides-eqb p 0).0 is, some))
    by_test false is = is

both-pass : (a b : Bool) → a ≡ false → b ≡ true → not a && b ≡ true
both-pass a b none some = rw (none, some) refl

range-top : (n : ℕ) → 0 < n → range_with_len 0 n ≡ 0 ∷ range_with_len 1 (n - 1)
range-top n some = let one : n ≡ suc (n - 1) = omega (arith, some) in ap (range_with_len 0) one

pub meant-place : (d : Design) (name : List ℕ) → IsFlat d → meaning (named_cells d 0) name ≡ meant Instances d name
meant-place d name is =
    ap (λ xs. meaning (map (named (place_name d.places 0)) xs) name)
    (ap (filter (λ p. not (p == 0) && is_inside d.places 0 p)) (range-top (length d.places) is.is_design.top)
    ∙ filter-range (λ p. not (p == 0) && is_inside d.places 0 p) 1 (length d.places - 1)
    (λ p low high. both-pass (p == 0) (is_inside d.places 0 p) (not-zero p low) (is_inside-top d.places is.is_design.parents p (omega (arith, high)))))
    ∙ meaning-named (place_name d.places 0) (range_with_len 1 (length d.places - 1)) name

-- the name of a pin that was read, by its parts
pub pin-named : (d : Design) (v : ℕ) (p : Pin) (form : Form) → IsFlat d → v < length d.pins → p ≡ slice_index_or d.pins v p
    → front form d.places p.place ++ formed form (bit_name p.port p.bit) ≡ formed form (pin_name d 0 v)
pin-named d v p form is below read =
    let same : p ≡ pin_at d.pins v = get_or_read_under d.pins v (length d.pins) p (pin_at [] 0) read below refl in
    ap (λ p. front form d.places p.place ++ formed form (bit_name p.port p.bit)) same
    ∙ sym (name-last d.places (are_places d is) form (pin_at d.pins v).place (bit_name (pin_at d.pins v).port (pin_at d.pins v).bit) (is.is_design.in_places v (pin_at [] 0) below))
