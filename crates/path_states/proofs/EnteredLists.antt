-- Lists into which an element is entered.
use Rattle.std.proofs.Common.{◌≡◌, ℕ, ◌+◌, ◌<◌, ◌==◌, ◌&&◌, Bool, true, List, [], ◌∷◌, ◌++◌, length, get_or, Some, refl, sym, ◌∙◌, ap, inl, inr, arith, length-append}
use Rattle.std.proofs.Math.ListN.{get_or-append}
use Rattle.std.specs.List.{list_any, slice_get}
use Rattle.std.proofs.lemmas.Bool.{cases_lt, cases_Bool, both_ways}
use Rattle.std.proofs.lemmas.List.Folds.{list_any_at}
use Rattle.std.proofs.lemmas.List.{get_or_default}
use Rattle.std.proofs.lemmas.Option.{get_or_from_slice_get}
use Rattle.indexmap.specs.IndexSet.{insert_key}
use Rattle.path_states.specs.Entering.{IsEntered}
use Rattle.path_states.specs.declared.tables.State.{State}

-- what is put behind a list
pub IsEntered-behind : {X : Type 0} (old new : List X) (x : X) (i : ℕ) → new ≡ old ++ x ∷ [] → i ≡ length old → IsEntered old new x i
IsEntered-behind {X} old new x i is place =
    let long : length new ≡ length old + 1 = ap (λ (xs : List X). length xs) is ∙ length-append old (x ∷ []) in
    record {
      longer = omega (arith, long);
      kept = λ j d below. ap (λ xs. get_or xs j d) is ∙ get_or-append old (x ∷ []) d j below;
      within = omega (arith, long, place);
      here = λ d. ap (λ xs. get_or xs i d) is ∙ (ap (λ j. get_or (old ++ x ∷ []) j d) place ∙ seam old d);
      fresh = λ j past below. omega (arith, long, place, past, below);
    }
  where
    seam : (xs : List X) (d : X) → get_or (xs ++ x ∷ []) (length xs) d ≡ x
    seam [] d = refl
    seam (y ∷ ys) d = seam ys d

-- what is there
pub IsEntered-there : {X : Type 0} (old new : List X) (x : X) (i : ℕ) (d : X) → new ≡ old → i < length old → get_or old i d ≡ x → IsEntered old new x i
IsEntered-there {X} old new x i d is below here = record {
  longer = omega (arith, ap (λ (xs : List X). length xs) is);
  kept = λ j e within. ap (λ xs. get_or xs j e) is;
  within = omega (arith, ap (λ (xs : List X). length xs) is, below);
  here = λ e. ap (λ xs. get_or xs i e) is ∙ (get_or_default old i e d below ∙ here);
  fresh = λ j past within. absurd (omega (arith, ap (λ (xs : List X). length xs) is, past, within));
}

pub record IsStored {X : Type 0} (eq : X → X → Bool) (new : List X) (x : X) (i : ℕ) : Type 0 where
  pub key : X
  pub stands : slice_get new i ≡ Some key
  pub same : eq x key ≡ true

-- what an insertion into a set leaves
pub IsEntered-inserted : {X : Type 0} (eq : X → X → Bool) → ((a b : X) → eq a b ≡ true → a ≡ b) → (old new : List X) (x : X) (i : ℕ)
    → new ≡ insert_key eq old x → i < length new → IsStored eq new x i → IsEntered old new x i
IsEntered-inserted {X} eq decides old new x i inserted within stored = elim (cases_Bool (list_any (eq x) old)) [
  | inl present ↦
      let is : new ≡ old = inserted ∙ rw present refl in
      let here : get_or new i x ≡ x = get_or_from_slice_get new i stored.key x stored.stands ∙ sym (decides x stored.key stored.same) in
      IsEntered-there old new x i x is (omega (arith, ap (λ (xs : List X). length xs) is, within)) (ap (λ xs. get_or xs i x) (sym is) ∙ here)
  | inr absent ↦
      let is : new ≡ old ++ x ∷ [] = inserted ∙ rw absent refl in
      let long : length new ≡ length old + 1 = ap (λ (xs : List X). length xs) is ∙ length-append old (x ∷ []) in
      elim (cases_lt i (length old)) [
        | inl below ↦
            let key : get_or old i x ≡ stored.key = sym (get_or-append old (x ∷ []) x i below) ∙ (ap (λ xs. get_or xs i x) (sym is) ∙ get_or_from_slice_get new i stored.key x stored.stands) in
            absurd (both_ways (list_any (eq x) old) absent (list_any_at (eq x) old i x below (ap (eq x) key ∙ stored.same)))
        | inr past ↦ IsEntered-behind old new x i is (omega (arith, long, past, within))
      ]
]

pub State-decides : (a b : State) → (a.pin.0 == b.pin.0 && a.kind == b.kind) ≡ true → a ≡ b
State-decides a b equal = let pins : a.pin.0 ≡ b.pin.0 = grind (arith, equal) in let kinds : a.kind ≡ b.kind = grind (arith, equal) in rw (pins, kinds) refl
