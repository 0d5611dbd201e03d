-- The exceptions of a block's file are accepted, and mark what their parts say.
use Rattle.std.specs.Prelude.{◌≡◌, ℕ, suc, ◌^◌, ◌≤◌, ◌||◌, Bool, true, false, List, [], ◌∷◌, ◌++◌, map, flat_map, length, All, Contains, Some, Ok, slice_index_or}
use Rattle.std.specs.Option.{option_map}
use Rattle.std.proofs.Common.{refl, sym, ◌∙◌, ap}
use Rattle.std.proofs.lemmas.Grind.{flat_map-append}
use Rattle.std.proofs.lemmas.List.{append_assoc, append-nil}
use Rattle.std.proofs.lemmas.List.Concat.{flat_map-cons}
use Rattle.std.proofs.lemmas.List.Elements.{All-head, All-tail}
use Rattle.bud_base.specs.declared.ids.PinId.{PinId}
use Rattle.bud_syntax.specs.declared.constraints.Object.{Object}
use Rattle.bud_syntax.specs.declared.constraints.Object.TheVariants.{Pins, Clocks}
use Rattle.bud_design.specs.declared.clocks.Clock.{Clock}
use Rattle.bud_design.specs.declared.clocks.Exception.{Exception}
use Rattle.bud_design.specs.declared.clocks.ExceptionKind.{ExceptionKind}
use Rattle.bud_design.specs.declared.clocks.ExceptionKind.TheVariants.{FalsePath, Multicycle, MaxDelay}
use Rattle.bud_design.specs.declared.clocks.Marks.{Marks}
use Rattle.bud_design.specs.Arcs.{is_clocked}
use Rattle.bud_design.specs.Clocks.{clock_at}
use Rattle.bud_design.specs.Designs.{pin_name}
use Rattle.bud_design.specs.DesignRules.{IsDesign}
use Rattle.timing_objects.specs.declared.things.Role.{Role}
use Rattle.timing_objects.specs.declared.things.Role.TheVariants.{Start, End}
use Rattle.timing_objects.specs.declared.things.Thing.{Thing}
use Rattle.timing_objects.specs.declared.things.Thing.TheVariants as thing
use Rattle.timing_objects.specs.Answers.{Answer, ◌>>=◌, each}
use Rattle.timing_objects.specs.Objects.{Subject, a_pin, is_input_bit, is_output_bit, is_checked, meant, may_be, is_free, things_in, pins_in, clocks_in, marks_of}
use Rattle.timing_scopes.specs.declared.scopes.Scope.{Scope}
use Rattle.timing_scopes.specs.Resolving.{part_of, new_exception, with_command, resolved_from}
use Rattle.block_theory.specs.BlockClocks.{pin_objects, real_clocks, real_objects, virtual_name, virtual_objects}
use Rattle.block_theory.specs.BlockExceptions.{Part, Form, part_objects, command_of, form_command}
use Rattle.block_theory.specs.BlockFiles.{numbered_from}
use Rattle.block_theory.specs.BlockPorts.{Context, port_classes}
use Rattle.block_theory.specs.Blocks.{IsBlock}
use Rattle.block_theory.specs.BlockScopes.{pin_ids, block_clocks, real_number, virtual_number, marks_as, exceptions_from}
use Rattle.block_names.specs.ClockNames.{NamesDiffer}
use Rattle.block_names.specs.PartReadings.{IsPinSuch, IsReadPart, IsReadForm}
use Rattle.block_names.proofs.BlockClockNames.{real-called, virtual-called}
use Rattle.block_names.proofs.NamesBelow.{pin-means}

-- an object that means one thing of the kind
pub things-one : (s : Subject) (role : Role) (clocks : List Clock) (o : Object) (t : Thing) → meant s role clocks o ≡ Some (t ∷ []) → may_be s role t ≡ true → is_free role clocks t ≡ true → things_in s role clocks o ≡ Ok (t ∷ [])
things-one s role clocks o t is may free = rw (is, may, free) refl

-- objects that give one thing each, before others
pub each-map : (f : Object → Answer (List Thing)) (obj : ℕ → Object) (g : ℕ → Thing) (vs : List ℕ) (ys : List Object) (bs : List Thing) → All (λ v. f (obj v) ≡ Ok (g v ∷ [])) vs → each f ys ≡ Ok bs → each f (map obj vs ++ ys) ≡ Ok (map g vs ++ bs)
each-map f obj g [] ys bs one rest = rest
each-map f obj g (v ∷ vs) ys bs one rest =
    rw (All-head (λ v. f (obj v) ≡ Ok (g v ∷ [])) v vs one, each-map f obj g vs ys bs (All-tail (λ v. f (obj v) ≡ Ok (g v ∷ [])) v vs one) rest) refl

clock_thing : ℕ → Thing
clock_thing c = thing.Clock c

module _ (s : Subject) (role : Role) where
  pub pins-pins : (vs : List ℕ) → flat_map (pins_in s role) (map a_pin vs) ≡ pin_ids vs
  pins-pins [] = refl
  pins-pins (v ∷ vs) = flat_map-cons (pins_in s role) (a_pin v) (map a_pin vs) ∙ ap (λ ps. record { 0 = v } ∷ ps) (pins-pins vs)

  pins-clocks : (f : ℕ → ℕ) (cs : List ℕ) → flat_map (pins_in s role) (map (λ c. thing.Clock (f c)) cs) ≡ []
  pins-clocks f [] = refl
  pins-clocks f (c ∷ cs) = flat_map-cons (pins_in s role) (thing.Clock (f c)) (map (λ c. thing.Clock (f c)) cs) ∙ pins-clocks f cs

clocks-pins : (vs : List ℕ) → flat_map clocks_in (map a_pin vs) ≡ []
clocks-pins [] = refl
clocks-pins (v ∷ vs) = flat_map-cons clocks_in (a_pin v) (map a_pin vs) ∙ clocks-pins vs

clocks-clocks : (f : ℕ → ℕ) (cs : List ℕ) → flat_map clocks_in (map (λ c. thing.Clock (f c)) cs) ≡ map f cs
clocks-clocks f [] = refl
clocks-clocks f (c ∷ cs) = flat_map-cons clocks_in (thing.Clock (f c)) (map (λ c. thing.Clock (f c)) cs) ∙ ap (λ ks. f c ∷ ks) (clocks-clocks f cs)

module _ (x : Context) (design : IsDesign x.design) (block : IsBlock x.design x.block) (differ : NamesDiffer x.all.clocks) (few : length x.layered.classes ≤ 2 ^ 64) where
  abbrev s : Subject
  s = record { design = x.design; root = x.block; timing = x.timing }

  -- ---- a part, in the role of a start or an end
  module _ (role : Role) (is_such : ℕ → Bool) (may_pin : (v : ℕ) → is_such v ≡ true → may_be s role (a_pin v) ≡ true) (may_clock : (c : ℕ) → may_be s role (thing.Clock c) ≡ true)
      (free : (t : Thing) → is_free role (block_clocks x) t ≡ true) where
    abbrev things : Object → Answer (List Thing)
    things o = things_in s role (block_clocks x) o

    pin-thing : (v : ℕ) → IsPinSuch x is_such v → things_in s role (block_clocks x) (Pins (pin_name x.design x.block v)) ≡ Ok (a_pin v ∷ [])
    pin-thing v is =
        things-one s role (block_clocks x) (Pins (pin_name x.design x.block v)) (a_pin v) (ap (option_map (λ v. a_pin v ∷ [])) (pin-means x.design design x.block block v is.below is.inside)) (may_pin v is.such) (free (a_pin v))

    real-thing : (c : ℕ) → Contains (real_clocks x) c → things_in s role (block_clocks x) (Clocks (clock_at x.all.clocks c).name) ≡ Ok (thing.Clock (real_number x c) ∷ [])
    real-thing c there =
        things-one s role (block_clocks x) (Clocks (clock_at x.all.clocks c).name) (thing.Clock (real_number x c)) (ap (option_map (λ c. thing.Clock c ∷ [])) (real-called x differ few c there)) (may_clock (real_number x c))
        (free (thing.Clock (real_number x c)))

    virtual-thing : (k : ℕ) → Contains (port_classes x) k → things_in s role (block_clocks x) (Clocks (virtual_name x k)) ≡ Ok (thing.Clock (virtual_number x k) ∷ [])
    virtual-thing k there =
        things-one s role (block_clocks x) (Clocks (virtual_name x k)) (thing.Clock (virtual_number x k)) (ap (option_map (λ c. thing.Clock c ∷ [])) (virtual-called x differ few k there)) (may_clock (virtual_number x k))
        (free (thing.Clock (virtual_number x k)))

    abbrev things_of : Part → List Thing
    things_of p = map a_pin p.pins ++ (map (λ c. thing.Clock (real_number x c)) p.reals ++ (map (λ k. thing.Clock (virtual_number x k)) p.virtuals ++ []))

    part-things : (p : Part) → IsReadPart x is_such p → each things (part_objects x p) ≡ Ok (things_of p)
    part-things p is =
        ap (each things) (ap (λ os. pin_objects x p.pins ++ (real_objects x p.reals ++ os)) (sym (append-nil (virtual_objects x p.virtuals))))
        ∙ each-map things (λ v. Pins (pin_name x.design x.block v)) a_pin p.pins (real_objects x p.reals ++ (virtual_objects x p.virtuals ++ [])) (map (λ c. thing.Clock (real_number x c)) p.reals ++ (map (λ k. thing.Clock (virtual_number x k)) p.virtuals ++ []))
        (λ i e below. pin-thing (slice_index_or p.pins i e) (is.pins i e below))
        (each-map things (λ c. Clocks (clock_at x.all.clocks c).name) (λ c. thing.Clock (real_number x c)) p.reals (virtual_objects x p.virtuals ++ []) (map (λ k. thing.Clock (virtual_number x k)) p.virtuals ++ [])
        (λ i e below. real-thing (slice_index_or p.reals i e) (is.reals i e below))
        (each-map things (λ k. Clocks (virtual_name x k)) (λ k. thing.Clock (virtual_number x k)) p.virtuals [] [] (λ i e below. virtual-thing (slice_index_or p.virtuals i e) (is.virtuals i e below)) refl))

    part-marks : (p : Part) → marks_of s role (things_of p) ≡ marks_as x p
    part-marks p =
        let a = map a_pin p.pins in
        let b = map (λ c. thing.Clock (real_number x c)) p.reals in
        let c = map (λ k. thing.Clock (virtual_number x k)) p.virtuals in
        let nil = append-nil c in
        let pins : flat_map (pins_in s role) (a ++ (b ++ c)) ≡ pin_ids p.pins
        = flat_map-append (pins_in s role) a (b ++ c)
        ∙ (ap (λ ps. flat_map (pins_in s role) a ++ ps) (flat_map-append (pins_in s role) b c ∙ (ap (λ ps. ps ++ flat_map (pins_in s role) c) (pins-clocks s role (real_number x) p.reals) ∙ pins-clocks s role (virtual_number x) p.virtuals))
        ∙ (append-nil (flat_map (pins_in s role) a) ∙ pins-pins s role p.pins)) in
        let clocks : flat_map clocks_in (a ++ (b ++ c)) ≡ map (real_number x) p.reals ++ map (virtual_number x) p.virtuals
        = flat_map-append clocks_in a (b ++ c)
        ∙ (ap (λ ks. ks ++ flat_map clocks_in (b ++ c)) (clocks-pins p.pins)
        ∙ (flat_map-append clocks_in b c ∙ (ap (λ ks. ks ++ flat_map clocks_in c) (clocks-clocks (real_number x) p.reals) ∙ ap (λ ks. map (real_number x) p.reals ++ ks) (clocks-clocks (virtual_number x) p.virtuals)))) in
        ap (λ cs. marks_of s role (a ++ (b ++ cs))) nil
        ∙ (ap (λ (ps : List PinId). record { pins = ps; clocks = flat_map clocks_in (a ++ (b ++ c)) }) pins ∙ ap (λ (ks : List ℕ). record { pins = pin_ids p.pins; clocks = ks }) clocks)

    pub part-read : (p : Part) → IsReadPart x is_such p → part_of s role (block_clocks x) (Some (part_objects x p)) ≡ Ok (Some (marks_as x p))
    part-read p is =
        ap (λ (a : Answer (List Thing)). a >>= λ ts. Ok (Some (marks_of s role ts))) (part-things p is) ∙ ap (λ (m : Marks). Ok (Some m)) (part-marks p)

  or-second : (a b : Bool) → b ≡ true → a || b ≡ true
  or-second true b is = refl
  or-second false b is = is

  start-read : (p : Part) → IsReadPart x (is_clocked x.timing) p → part_of s Start (block_clocks x) (Some (part_objects x p)) ≡ Ok (Some (marks_as x p))
  start-read = part-read Start (is_clocked x.timing) (λ v such. or-second (is_input_bit s v) (is_clocked x.timing v) such) (λ c. refl) (λ t. refl)

  end-read : (p : Part) → IsReadPart x (is_checked x.timing) p → part_of s End (block_clocks x) (Some (part_objects x p)) ≡ Ok (Some (marks_as x p))
  end-read = part-read End (is_checked x.timing) (λ v such. or-second (is_output_bit s v) (is_checked x.timing v) such) (λ c. refl) (λ t. refl)

  abbrev exception_at : ℕ → Form → Exception
  exception_at number f = record { number = number; kind = f.kind; from = Some (marks_as x f.from); groups = []; to = Some (marks_as x f.to) }

  form-made : (number : ℕ) (kind : ExceptionKind) (f : Form) → IsReadForm x f → new_exception s (block_clocks x) number kind (Some (part_objects x f.from)) [] (Some (part_objects x f.to))
      ≡ Ok (record { number = number; kind = kind; from = Some (marks_as x f.from); groups = []; to = Some (marks_as x f.to) })
  form-made number kind f is = rw (start-read f.from is.from, end-read f.to is.to) refl

  form-step : (scope : Scope) → scope.clocks ≡ block_clocks x → (number : ℕ) (f : Form) → IsReadForm x f → with_command s scope number (form_command x f) ≡ Ok (record scope { exceptions = scope.exceptions ++ exception_at number f ∷ [] })
  form-step scope clocks number f is = by_kind f.kind refl
    where
      by_kind : (kind : ExceptionKind) → f.kind ≡ kind → with_command s scope number (command_of kind (part_objects x f.from) (part_objects x f.to))
          ≡ Ok (record scope { exceptions = scope.exceptions ++ record { number = number; kind = kind; from = Some (marks_as x f.from); groups = []; to = Some (marks_as x f.to) } ∷ [] })
      by_kind FalsePath e = rw (clocks, form-made number FalsePath f is) refl
      by_kind (Multicycle n by_launch) e = rw (clocks, form-made number (Multicycle n by_launch) f is) refl
      by_kind (MaxDelay amount) e = rw (clocks, form-made number (MaxDelay amount) f is) refl

  -- all of them, one after the other
  pub forms-read : (fs : List Form) (scope : Scope) → scope.clocks ≡ block_clocks x → (number : ℕ) → All (IsReadForm x) fs
      → resolved_from s scope (numbered_from number (map (form_command x) fs)) ≡ Ok (record scope { exceptions = scope.exceptions ++ exceptions_from x number fs })
  forms-read [] scope clocks number are = ap (λ es. Ok (record scope { exceptions = es })) (sym (append-nil scope.exceptions))
  forms-read (f ∷ fs) scope clocks number are =
      let e = exception_at number f in
      ap (λ (a : Answer Scope). a >>= λ next. resolved_from s next (numbered_from (suc number) (map (form_command x) fs))) (form-step scope clocks number f (All-head (IsReadForm x) f fs are))
      ∙ (forms-read fs (record scope { exceptions = scope.exceptions ++ e ∷ [] }) clocks (suc number) (All-tail (IsReadForm x) f fs are)
      ∙ ap (λ es. Ok (record scope { exceptions = es })) (append_assoc scope.exceptions (e ∷ []) (exceptions_from x (suc number) fs)))
