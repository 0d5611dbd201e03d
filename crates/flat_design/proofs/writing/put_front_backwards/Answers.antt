use Rattle.std.proofs.Common.{◌≡◌, ℕ, List, [], ◌∷◌, ◌++◌, reverse, sym, ◌∙◌, ap, arith, append_assoc}
use Rattle.std.proofs.lemmas.List.{reverse-append}
use Rattle.flat_design.specs.declared.texts.Form.TheVariants.{Printed}
use Rattle.flat_design.specs.Fronts.{front}
use Rattle.flat_design.proofs.FrontLaws.{front-more, is_below}
use Rattle.flat_design.proofs.writing.put_front_backwards.Goals as goal

regroup : (text name above : List ℕ) → ((text ++ 47 ∷ []) ++ name) ++ above ≡ text ++ (47 ∷ (name ++ above))
regroup text name above = simp append_assoc

-- one more name
step : (text mid new above name whole target : List ℕ) → whole ≡ above ++ (name ++ 47 ∷ []) → mid ≡ text ++ 47 ∷ [] → new ≡ mid ++ reverse name
    → text ++ reverse whole ≡ target → new ++ reverse above ≡ target
step text mid new above name whole target is slash named so_far =
    let turned : reverse whole ≡ 47 ∷ (reverse name ++ reverse above) =
    ap reverse is ∙ (reverse-append above (name ++ 47 ∷ []) ∙ ap (λ s. s ++ reverse above) (reverse-append name (47 ∷ []))) in
    ap (λ s. s ++ reverse above) (named ∙ ap (λ s. s ++ reverse name) slash) ∙ (regroup text (reverse name) (reverse above) ∙ (ap (λ s. text ++ s) (sym turned) ∙ so_far))

pub loop-parent-preserved : goal.loop-parent-preserved
loop-parent-preserved c =
    let parent = sym c.above.ensures ∙ c.in-Some.is in
    let less = is_below c.args.places.now c.requires.places c.loop-parent.place c.in-Some.parent c.loop-parent.invariant.1 parent in
    let whole = front-more c.args.places.now c.requires.places Printed c.loop-parent.place c.in-Some.parent c.loop-parent.invariant.1 parent
    ∙ ap (λ name. front Printed c.args.places.now c.in-Some.parent ++ (name ++ 47 ∷ [])) (sym c.own_name.ensures) in (
      step c.loop-parent.text.items c.push.new.self.items c.put_backwards.new.text.items (front Printed c.args.places.now c.in-Some.parent) c.own_name.result.now
          (front Printed c.args.places.now c.loop-parent.place) _ whole c.in_ok-push.ensures.items c.in_ok-put_backwards.ensures c.loop-parent.invariant.0,
      omega (arith, less, c.loop-parent.invariant.1),
    )
