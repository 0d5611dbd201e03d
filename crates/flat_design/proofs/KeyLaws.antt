-- Keys of places and pins by those of the places above.
use Rattle.std.specs.Prelude.{◌≡◌, ℕ, ◌+◌, ◌<◌, ◌≤◌, ◌==◌, Bool, true, false, List, [], ◌∷◌, ◌++◌, length, slice_index_or, Option, Some, None, if◌then◌else◌}
use Rattle.std.proofs.Common.{arith, sym, ◌∙◌, refl, ap, subst, append_assoc, inl, inr}
use Rattle.std.proofs.lemmas.Bool.Decides.{Decides-eqb}
use Rattle.std.proofs.lemmas.Bool.{cases_lt}
use Rattle.std.proofs.Math.ListN.{get_or-append}
use Rattle.std.proofs.Math.Seq.{get_or-append_seam}
use Rattle.std.proofs.lemmas.List.{get_or_read_under, length-append}
use Rattle.bud_design.specs.Designs.{Design, place_at, pin_at, place_name}
use Rattle.bud_design.specs.DesignRules.{HasParent}
use Rattle.bud_design.specs.Names.{plain, bit_name}
use Rattle.bud_design.specs.declared.designs.Place.{Place}
use Rattle.bud_design.specs.declared.designs.Pin.{Pin}
use Rattle.flat_design.specs.Flats.{IsFlat, ArePlaces}
use Rattle.flat_design.specs.Fronts.{front, brackets, IsShort}
use Rattle.flat_design.specs.Keyed.{HaveKeys, HavePinKeys, front_key, pin_key}
use Rattle.flat_design.specs.Kinds.{keyed, HasTables}
use Rattle.flat_design.specs.declared.kinds.Kind.TheVariants.{Bits, Instances}
use Rattle.flat_design.specs.declared.texts.Form.TheVariants.{Plain}
use Rattle.flat_design.proofs.FlatLaws.{are_places}
use Rattle.flat_design.proofs.FrontLaws.{front-more, name-more, name-last, formed-last, is_below}
use Rattle.name_tables.specs.ChainLists.{ChainLists}
use Rattle.name_tables.specs.Chained.{key_at, AreChained}
use Rattle.name_tables.specs.Keys.{key_from, key_of}
use Rattle.name_tables.proofs.ChainLaws.{AreChained-same}
use Rattle.name_tables.proofs.KeyLaws.{key_from-append}

module _ (places : List Place) (are : ArePlaces places) where
  -- a place's name and a `/` stand before the names of what is in it
  front-named : (p q : ℕ) → p < length places → (place_at places p).parent ≡ Some q → front Plain places p ≡ plain (place_name places 0 p) ++ 47 ∷ []
  front-named p q below is =
      front-more places are Plain p q below is
      ∙ (sym (append_assoc (front Plain places q) (plain (place_at places p).name) (47 ∷ []))
      ∙ ap (λ s. s ++ 47 ∷ []) (sym (name-more places are Plain p q below is)))

  -- by the key of its name
  pub front-keyed : (keys : List ℕ) (n p : ℕ) → HaveKeys places n keys → p < n → n ≤ length places → front_key keys p ≡ key_of (front Plain places p)
  front-keyed keys n p have before all = by_test (p == 0) refl
    where
      inside : p < length places
      inside = omega (arith, before, all)

      by_parent : (o : Option ℕ) → (place_at places p).parent ≡ o → HasParent p o → (p == 0) ≡ false → front_key keys p ≡ key_of (front Plain places p)
      by_parent None is has e = absurd (let top : (p == 0) ≡ true = (Decides-eqb p 0).1 has in cc)
      by_parent (Some q) is has e =
          ap (λ b. if b then 0 else key_from (slice_index_or keys p 0) (47 ∷ [])) e
          ∙ (ap (λ k. key_from k (47 ∷ [])) (have.are p before)
          ∙ (sym (key_from-append 0 (plain (place_name places 0 p)) (47 ∷ []))
          ∙ ap key_of (sym (front-named p q inside is))))

      by_test : (b : Bool) → (p == 0) ≡ b → front_key keys p ≡ key_of (front Plain places p)
      by_test true e =
          ap (λ b. if b then 0 else key_from (slice_index_or keys p 0) (47 ∷ [])) e
          ∙ ap (λ p. key_of (front Plain places p)) (sym ((Decides-eqb p 0).0 e))
      by_test false e = by_parent (place_at places p).parent refl (are.parents p inside) e

  -- a place's key by that of its parent
  pub place-keyed : (keys : List ℕ) (p q : ℕ) → HaveKeys places p keys → p < length places → (place_at places p).parent ≡ Some q
      → key_from (front_key keys q) (plain (place_at places p).name) ≡ key_of (plain (place_name places 0 p))
  place-keyed keys p q have below is =
      let before : q < p = is_below places are p q below is in
      ap (λ k. key_from k (plain (place_at places p).name)) (front-keyed keys p q have before (omega (arith, below)))
      ∙ (sym (key_from-append 0 (front Plain places q) (plain (place_at places p).name))
      ∙ ap key_of (sym (name-more places are Plain p q below is)))

-- the top has the key of no text
pub top-keyed : (places : List Place) → 0 ≡ key_of (plain (place_name places 0 0))
top-keyed places = refl

-- one more place has its key
pub HaveKeys-none : (places : List Place) → HaveKeys places 0 []
HaveKeys-none places = record { all = refl; are = λ p below. absurd (omega (arith, below)) }

pub HaveKeys-more : (places : List Place) (n key : ℕ) (keys : List ℕ) → HaveKeys places n keys → key ≡ key_of (plain (place_name places 0 n)) → HaveKeys places (n + 1) (keys ++ key ∷ [])
HaveKeys-more places n key keys have is = record {
  all = length-append keys (key ∷ []) ∙ ap (λ m. m + 1) have.all;
  are = λ p below. elim (cases_lt p n) [
    | inl before ↦ get_or-append keys (key ∷ []) 0 p (omega (arith, before, have.all)) ∙ have.are p before
    | inr past ↦
        let last : p ≡ n = omega (arith, below, past) in
        let first : p ≡ length keys = omega (arith, last, have.all) in
        ap (λ p. slice_index_or (keys ++ key ∷ []) p 0) first ∙ (get_or-append_seam keys key [] 0 ∙ (is ∙ ap (λ p. key_of (plain (place_name places 0 p))) (sym last)))
  ];
}

-- one more pin has its key
pub HavePinKeys-none : (keys : List ℕ) (pins : List Pin) → HavePinKeys keys pins 0 []
HavePinKeys-none keys pins = record { all = refl; are = λ v below. absurd (omega (arith, below)); short = λ v below. absurd (omega (arith, below)) }

pub HavePinKeys-more : (keys : List ℕ) (pins : List Pin) (n key : ℕ) (pin : Pin) (out : List ℕ) → n < length pins → pin ≡ slice_index_or pins n pin → HavePinKeys keys pins n out
    → key ≡ pin_key keys pin → IsShort pin.bit → HavePinKeys keys pins (n + 1) (out ++ key ∷ [])
HavePinKeys-more keys pins n key pin out within read have is short = record {
  all = length-append out (key ∷ []) ∙ ap (λ m. m + 1) have.all;
  are = λ v below. elim (cases_lt v n) [
    | inl before ↦ get_or-append out (key ∷ []) 0 v (omega (arith, before, have.all)) ∙ have.are v before
    | inr past ↦
        let last : v ≡ n = omega (arith, below, past) in
        let end : v ≡ length out = omega (arith, last, have.all) in
        ap (λ v. slice_index_or (out ++ key ∷ []) v 0) end ∙ (get_or-append_seam out key [] 0 ∙ (is ∙ (ap (pin_key keys) here ∙ ap (λ v. pin_key keys (pin_at pins v)) (sym last))))
  ];
  short = λ v below. elim (cases_lt v n) [
    | inl before ↦ have.short v before
    | inr past ↦
        let last : v ≡ n = omega (arith, below, past) in
        subst (λ (p : Pin). IsShort p.bit) (here ∙ ap (pin_at pins) (sym last)) short
  ];
}
  where
    here : pin ≡ pin_at pins n
    here = get_or_read_under pins n (length pins) pin (pin_at [] 0) read within refl

-- a pin's key is that of its plain name
pin-keyed : (d : Design) (keys : List ℕ) (v : ℕ) → IsFlat d → HaveKeys d.places (length d.places) keys → v < length d.pins → IsShort (pin_at d.pins v).bit
    → pin_key keys (pin_at d.pins v) ≡ keyed Bits d v
pin-keyed d keys v flat have below short =
    let are = are_places d flat in
    let p = pin_at d.pins v in
    let place : p.place < length d.places = flat.is_design.in_places v (pin_at [] 0) below in
    let last : plain (bit_name p.port p.bit) ≡ plain p.port ++ brackets p.bit = formed-last Plain p.port p.bit (flat.names.ports v (pin_at [] 0) below) short in
    ap (λ k. key_from k (plain p.port ++ brackets p.bit)) (front-keyed d.places are keys (length d.places) p.place have place (omega arith))
    ∙ (sym (key_from-append 0 (front Plain d.places p.place) (plain p.port ++ brackets p.bit))
    ∙ ap key_of (ap (λ s. front Plain d.places p.place ++ s) (sym last) ∙ sym (name-last d.places are Plain p.place (bit_name p.port p.bit) place)))

-- the tables of a flat design
pub are-tables : (d : Design) (places pins : List ℕ) (bits instances : ChainLists) → IsFlat d → HaveKeys d.places (length d.places) places → HavePinKeys places d.pins (length d.pins) pins
    → AreChained (key_at pins) 0 (length pins) bits → AreChained (key_at places) 1 (length places) instances → HasTables d bits instances
are-tables d places pins bits instances flat have havepins arebits areinstances = record {
  flat = flat;
  of_bits =
      AreChained-same (key_at pins) (keyed Bits d) 0 (length d.pins) bits (omega arith)
      (λ v low below. havepins.are v below ∙ pin-keyed d places v flat have below (havepins.short v below))
      (subst (λ n. AreChained (key_at pins) 0 n bits) havepins.all arebits);
  of_instances =
      AreChained-same (key_at places) (keyed Instances d) 1 (length d.places) instances (omega (arith, flat.is_design.top))
      (λ p low below. have.are p below)
      (subst (λ n. AreChained (key_at places) 1 n instances) have.all areinstances);
}
