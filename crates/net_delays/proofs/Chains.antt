-- Ways back over wires: what leads to what.
use Rattle.std.specs.Prelude.{zero, suc}
use Rattle.std.proofs.Common.{◌≡◌, ℕ, ◌+◌, ◌<◌, ◌⊎◌, Option, Some, None, refl, sym, ap, subst, ◌∙◌, inl, inr, arith, zero-add}
use Rattle.std.specs.Option.{option_and_then}
use Rattle.std.proofs.lemmas.Option.{option_and_then_some, same_Some, none-some}
use Rattle.net_delays.specs.Drives.{back, Leads}

module _ (drive : ℕ → Option ℕ) where
  pub back_on : (j i v u : ℕ) → back drive j v ≡ Some u → back drive (j + i) v ≡ back drive i u
  back_on zero i v u e = rw (zero-add i) (ap (back drive i) (same_Some v u e))
  back_on (suc j) i v u e = option_and_then_some (back drive j) (drive v) u e
      (λ w is rest. let sum : suc j + i ≡ suc (j + i) = omega arith in rw (sum, is) (back_on j i w u rest))

  pub Leads-one : (v u : ℕ) → drive v ≡ Some u → Leads drive u v
  Leads-one v u is = (0, rw is refl)

  pub Leads-more : (v u a : ℕ) → drive v ≡ Some u → Leads drive a u → Leads drive a v
  Leads-more v u a is way = (suc way.0, rw is way.1)

  cases-at : (k v u a : ℕ) → drive v ≡ Some u → back drive (suc k) v ≡ Some a → (u ≡ a) ⊎ Leads drive a u
  cases-at zero v u a is e = inl (same_Some u a (rw is at e))
  cases-at (suc k) v u a is e = inr (k, rw is at e)

  -- what leads to a pin is its driver or leads to it
  pub Leads-cases : (v u a : ℕ) → drive v ≡ Some u → Leads drive a v → (u ≡ a) ⊎ Leads drive a u
  Leads-cases v u a is way = cases-at way.0 v u a is way.1

  pub Leads-none : (v a : ℕ) → drive v ≡ None → Leads drive a v → ⊥
  Leads-none v a is way = none-some a (rw is at way.1)

  pub Leads-trans : (a b c : ℕ) → Leads drive a b → Leads drive b c → Leads drive a c
  Leads-trans a b c first second = (
    second.0 + suc first.0,
    let sum : suc second.0 + suc first.0 ≡ suc (second.0 + suc first.0) = omega arith in
        subst (λ n. back drive n c ≡ Some a) sum (back_on (suc second.0) (suc first.0) c b second.1 ∙ first.1),
  )

  -- what holds of a pin and of each driver of what it holds of holds so many wires back
  pub held_back : {P : ℕ → Type 0} → ((v u : ℕ) → drive v ≡ Some u → P v → P u) → (k v a : ℕ) → back drive k v ≡ Some a → P v → P a
  held_back {P} step zero v a e here = subst P (same_Some v a e) here
  held_back {P} step (suc k) v a e here = option_and_then_some (back drive k) (drive v) a e (λ u is rest. held_back {P = P} step k u a rest (step v u is here))

  pub held_leads : {P : ℕ → Type 0} → ((v u : ℕ) → drive v ≡ Some u → P v → P u) → (v a : ℕ) → Leads drive a v → P v → P a
  held_leads {P} step v a way here = held_back {P = P} step (suc way.0) v a way.1 here

  -- there is one way back: of two pins on it one leads to the other
  pub both_back : (i j v a b : ℕ) → back drive i v ≡ Some a → back drive j v ≡ Some b → (a ≡ b) ⊎ (Leads drive a b ⊎ Leads drive b a)
  both_back zero zero v a b e f = inl (sym (same_Some v a e) ∙ same_Some v b f)
  both_back zero (suc j) v a b e f = inr (inr (j, subst (λ x. back drive (suc j) x ≡ Some b) (same_Some v a e) f))
  both_back (suc i) zero v a b e f = inr (inl (i, subst (λ x. back drive (suc i) x ≡ Some a) (same_Some v b f) e))
  both_back (suc i) (suc j) v a b e f = option_and_then_some (back drive i) (drive v) a e (λ u is rest. both_back i j u a b rest (rw is at f))

  pub Leads-both : (v a b : ℕ) → Leads drive a v → Leads drive b v → (a ≡ b) ⊎ (Leads drive a b ⊎ Leads drive b a)
  Leads-both v a b first second = both_back (suc first.0) (suc second.0) v a b first.1 second.1
