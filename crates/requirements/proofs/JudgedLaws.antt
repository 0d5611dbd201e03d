-- What holds of the things that judged objects give, and of the pins and clocks that they name.
use Rattle.std.proofs.Common.{◌≡◌, ◌<◌, ◌&&◌, Bool, true, false, List, [], ◌∷◌, ◌++◌, flat_map, length, Option, Some, None, Ok, Err, refl, sym, ◌∙◌, ap, subst, true≢false}
use Rattle.std.specs.Prelude.{All, ok_or}
use Rattle.std.specs.List.{list_all}
use Rattle.std.proofs.lemmas.List.Elements.{All-nil, All-cons, All-head, All-tail, All-append, All-map, All-filter}
use Rattle.bud_base.specs.declared.ids.PinId.{PinId}
use Rattle.bud_syntax.specs.declared.constraints.Object.{Object}
use Rattle.bud_design.specs.declared.clocks.Clock.{Clock}
use Rattle.bud_design.specs.declared.clocks.Marks.{Marks}
use Rattle.bud_design.specs.Designs.{bits_of}
use Rattle.bud_design.specs.ConstraintRules.{AreMarksBelow}
use Rattle.timing_objects.specs.declared.faults.ResolveFault.{ResolveFault}
use Rattle.timing_objects.specs.declared.faults.ResolveFault.TheVariants.{ClockTwice}
use Rattle.timing_objects.specs.declared.things.Role.{Role}
use Rattle.timing_objects.specs.declared.things.Role.TheVariants.{Through}
use Rattle.timing_objects.specs.declared.things.Thing.{Thing}
use Rattle.timing_objects.specs.declared.things.Thing.TheVariants as thing
use Rattle.timing_objects.specs.Answers.{Answer, ◌>>=◌, each}
use Rattle.timing_objects.specs.Objects.{Subject, meant, unknown, object_text, may_be, misfit, is_free, is_part, is_register_place, judged, things_in, pins_in, clocks_in, pins_of_cell, is_meant_by_cell, marks_of}
use Rattle.timing_objects.specs.Within.{IsThingIn}
use Rattle.timing_objects.proofs.ThingLaws.{meant-in, bits-below}
use Rattle.timing_scopes.specs.Resolving.{pins_named, part_of, group_of}
use Rattle.requirements.specs.SoundScopes.{IsPinAs}

-- ---- what an Ok tells
pub ok-same : {X : Type 0} (x y : X) → ◌≡◌ {A = Answer X} (Ok x) (Ok y) → x ≡ y
ok-same x y e = cc

pub err-ok : {X : Type 0} (f : ResolveFault) (x : X) {P : Type 0} → ◌≡◌ {A = Answer X} (Err f) (Ok x) → P
err-ok f x e = absurd (cc)

-- one step that goes well comes of one that went well
pub then-ok : {A B : Type 0} (m : Answer A) (f : A → Answer B) (y : B) → (m >>= f) ≡ Ok y → (x : A) × ((m ≡ Ok x) × (f x ≡ Ok y))
then-ok (Ok x) f y e = (x, (refl, e))
then-ok (Err fault) f y e = err-ok fault y e

pub given-some : {X : Type 0} (o : Option X) (fault : ResolveFault) (x : X) → ok_or o fault ≡ Ok x → o ≡ Some x
given-some None fault x e = err-ok fault x e
given-some (Some y) fault x e = ap (λ z. Some z) (ok-same y x e)

pub each-all : {A B : Type 0} (P : B → Type 0) (f : A → Answer (List B)) → ((x : A) (ys : List B) → f x ≡ Ok ys → All P ys) → (xs : List A) (ys : List B) → each f xs ≡ Ok ys → All P ys
each-all P f all [] ys e = subst (All P) (ok-same [] ys e) (All-nil P)
each-all P f all (x ∷ xs) ys e =
    let first = then-ok (f x) (λ found. each f xs >>= λ others. Ok (found ++ others)) ys e in
    let rest = then-ok (each f xs) (λ others. Ok (first.0 ++ others)) ys first.1.1 in
    subst (All P) (ok-same (first.0 ++ rest.0) ys rest.1.1) (All-append P first.0 rest.0 (all x first.0 first.1.0) (each-all P f all xs rest.0 rest.1.0))

-- a judgement that goes well gives the things back, which all pass
judged-ok : (test : Thing → Bool) (fault : ResolveFault) (things ys : List Thing) → judged test fault things ≡ Ok ys → (list_all test things ≡ true) × (things ≡ ys)
judged-ok test fault things ys e = by_test (list_all test things) refl
  where
    by_test : (b : Bool) → list_all test things ≡ b → (list_all test things ≡ true) × (things ≡ ys)
    by_test true is = (let same : judged test fault things ≡ Ok things = rw is refl in (is, ok-same things ys (sym same ∙ e)))
    by_test false is = (let same : judged test fault things ≡ Err fault = rw is refl in err-ok fault ys (sym same ∙ e))

pub and-left : (a b : Bool) → a && b ≡ true → a ≡ true
and-left true b e = refl
and-left false b e = e

pub and-right : (a b : Bool) → a && b ≡ true → b ≡ true
and-right true b e = e
and-right false b e = absurd (true≢false (sym e))

all-pass : (test : Thing → Bool) (things : List Thing) → list_all test things ≡ true → All (λ x. test x ≡ true) things
all-pass test [] e = All-nil (λ x. test x ≡ true)
all-pass test (x ∷ xs) e = All-cons (λ x. test x ≡ true) x xs (and-left (test x) (list_all test xs) e) (all-pass test xs (and-right (test x) (list_all test xs) e))

-- a thing that is judged: it is in the design, may be named so, and is no source of another clock
pub record IsJudged (s : Subject) (role : Role) (clocks : List Clock) (x : Thing) : Type 0 where
  pub within : IsThingIn s.design (length clocks) x
  pub may : may_be s role x ≡ true
  pub free : is_free role clocks x ≡ true

-- where no cell and no clock may be named so, the pins may be
pub record IsPinJudged (s : Subject) (role : Role) (clocks : List Clock) (v : PinId) : Type 0 where
  pub pin : IsPinAs s role v
  pub free : is_free role clocks (thing.Pin v) ≡ true

module _ (s : Subject) (role : Role) (clocks : List Clock) where
  things-judged : (o : Object) (things : List Thing) → things_in s role clocks o ≡ Ok things → All (IsJudged s role clocks) things
  things-judged o things e =
      let found = then-ok (ok_or (meant s role clocks o) (unknown o)) (λ xs. judged (may_be s role) (misfit role (object_text o)) xs >>= λ ys. judged (is_free role clocks) (ClockTwice (object_text o)) ys) things e in
      let fit = then-ok (judged (may_be s role) (misfit role (object_text o)) found.0) (λ ys. judged (is_free role clocks) (ClockTwice (object_text o)) ys) things found.1.1 in
      let is_fit = judged-ok (may_be s role) (misfit role (object_text o)) found.0 fit.0 fit.1.0 in
      let is_freed = judged-ok (is_free role clocks) (ClockTwice (object_text o)) fit.0 things fit.1.1 in
      let within = meant-in s clocks role o found.0 (given-some (meant s role clocks o) (unknown o) found.0 found.1.0) in
      let fits = all-pass (may_be s role) found.0 is_fit.0 in
      let frees = all-pass (is_free role clocks) fit.0 is_freed.0 in
      let same : found.0 ≡ things = is_fit.1 ∙ is_freed.1 in
      λ k d below. record {
        within = subst (All (IsThingIn s.design (length clocks))) same within k d below;
        may = subst (All (λ x. may_be s role x ≡ true)) same fits k d below;
        free = subst (All (λ x. is_free role clocks x ≡ true)) is_freed.1 frees k d below;
      }

  pub all-judged : (objects : List Object) (things : List Thing) → each (things_in s role clocks) objects ≡ Ok things → All (IsJudged s role clocks) things
  all-judged objects things e = each-all (IsJudged s role clocks) (things_in s role clocks) things-judged objects things e

  flat-all : {Y : Type 0} (P : Thing → Type 0) (Q : Y → Type 0) (f : Thing → List Y) → ((x : Thing) → P x → All Q (f x)) → (xs : List Thing) → All P xs → All Q (flat_map f xs)
  flat-all P Q f all [] of = All-nil Q
  flat-all P Q f all (x ∷ xs) of = All-append Q (f x) (flat_map f xs) (all x (All-head P x xs of)) (flat-all P Q f all xs (All-tail P x xs of))

  -- the pins that judged things name are in the design
  pins-in-below : (x : Thing) → IsJudged s role clocks x → All (λ v. v.0 < length s.design.pins) (pins_in s role x)
  pins-in-below (thing.Pin v) j = All-cons (λ (v : PinId). v.0 < length s.design.pins) v [] j.within (All-nil (λ (v : PinId). v.0 < length s.design.pins))
  pins-in-below (thing.Cell p) j =
      All-map (λ (v : PinId). v.0 < length s.design.pins) (λ v. record { 0 = v }) (pins_of_cell s role p)
      (All-filter (is_meant_by_cell s role) (λ v. v < length s.design.pins) (bits_of s.design p) (bits-below s.design p))
  pins-in-below (thing.Clock c) j = All-nil (λ (v : PinId). v.0 < length s.design.pins)

  pub pins-below : (things : List Thing) → All (IsJudged s role clocks) things → All (λ v. v.0 < length s.design.pins) (flat_map (pins_in s role) things)
  pins-below things all = flat-all (IsJudged s role clocks) (λ (v : PinId). v.0 < length s.design.pins) (pins_in s role) pins-in-below things all

  clocks-in-below : (x : Thing) → IsJudged s role clocks x → All (λ c. c < length clocks) (clocks_in x)
  clocks-in-below (thing.Pin v) j = All-nil (λ c. c < length clocks)
  clocks-in-below (thing.Cell p) j = All-nil (λ c. c < length clocks)
  clocks-in-below (thing.Clock c) j = All-cons (λ c. c < length clocks) c [] j.within (All-nil (λ c. c < length clocks))

  pub marks-below : (part : Option (List Object)) (marks : Option Marks) → part_of s role clocks part ≡ Ok marks → AreMarksBelow (length s.design.pins) (length clocks) marks
  marks-below None marks e = subst (AreMarksBelow (length s.design.pins) (length clocks)) (ok-same None marks e) tt
  marks-below (Some objects) marks e =
      let found = then-ok (each (things_in s role clocks) objects) (λ things. Ok (Some (marks_of s role things))) marks e in
      let all = all-judged objects found.0 found.1.0 in
      subst (AreMarksBelow (length s.design.pins) (length clocks)) (ok-same (Some (marks_of s role found.0)) marks found.1.1)
      (pins-below found.0 all, flat-all (IsJudged s role clocks) (λ c. c < length clocks) clocks_in clocks-in-below found.0 all)

  pins-in-judged : is_part role ≡ false → (x : Thing) → IsJudged s role clocks x → All (IsPinJudged s role clocks) (pins_in s role x)
  pins-in-judged no_part (thing.Pin v) j = All-cons (IsPinJudged s role clocks) v [] (record { pin = record { below = j.within; may_be = j.may }; free = j.free }) (All-nil (IsPinJudged s role clocks))
  pins-in-judged no_part (thing.Cell p) j = absurd (true≢false (sym (and-left (is_part role) (is_register_place s p) j.may) ∙ no_part))
  pins-in-judged no_part (thing.Clock c) j = All-nil (IsPinJudged s role clocks)

  pub named-judged : is_part role ≡ false → (objects : List Object) (pins : List PinId) → pins_named s role clocks objects ≡ Ok pins → All (IsPinJudged s role clocks) pins
  named-judged no_part objects pins e =
      let found = then-ok (each (things_in s role clocks) objects) (λ things. Ok (flat_map (pins_in s role) things)) pins e in
      subst (All (IsPinJudged s role clocks)) (ok-same (flat_map (pins_in s role) found.0) pins found.1.1)
      (flat-all (IsJudged s role clocks) (IsPinJudged s role clocks) (pins_in s role) (pins-in-judged no_part) found.0 (all-judged objects found.0 found.1.0))

pub groups-below : (s : Subject) (clocks : List Clock) (groups : List (List Object)) (pins : List (List PinId)) → each (group_of s clocks) groups ≡ Ok pins
    → All (λ g. All (λ v. v.0 < length s.design.pins) g) pins
groups-below s clocks groups pins e = each-all (All (λ (v : PinId). v.0 < length s.design.pins)) (group_of s clocks) one groups pins e
  where
    one : (objects : List Object) (found : List (List PinId)) → group_of s clocks objects ≡ Ok found → All (All (λ (v : PinId). v.0 < length s.design.pins)) found
    one objects found e =
        let named = then-ok (pins_named s Through clocks objects) (λ pins. Ok (pins ∷ [])) found e in
        let things = then-ok (each (things_in s Through clocks) objects) (λ things. Ok (flat_map (pins_in s Through) things)) named.0 named.1.0 in
        let below = subst (All (λ (v : PinId). v.0 < length s.design.pins)) (ok-same (flat_map (pins_in s Through) things.0) named.0 things.1.1)
        (pins-below s Through clocks things.0 (all-judged s Through clocks objects things.0 things.1.0)) in
        subst (All (All (λ (v : PinId). v.0 < length s.design.pins))) (ok-same (named.0 ∷ []) found named.1.1)
        (All-cons (All (λ (v : PinId). v.0 < length s.design.pins)) named.0 [] below (All-nil (All (λ (v : PinId). v.0 < length s.design.pins))))
