-- Lists of the delays that end at each pin, built from the last delay to the first.
use Rattle.std.proofs.Common.{◌≡◌, ◌≢◌, ℕ, ◌+◌, ◌-◌, ◌<◌, ◌≤◌, ◌==◌, eqb, Bool, true, false, cond, List, [], ◌∷◌, length, drop, map, filter, get_or, set, Option, Some, None, ℤ, ◌+ℤ◌, pos, int_le, arith, refl, sym, ap, subst, ◌∙◌, inl, inr, get_or-set_same, get_or-set_other}
use Rattle.std.proofs.lemmas.Bool.{cases_eq, eq-eqb, ne_eqb}
use Rattle.std.proofs.lemmas.List.{length-set, at_drop_more, at_drop_all, drop_more, drop_all}
use Rattle.std.proofs.lemmas.Grind.{common_steps}
use Rattle.std.proofs.lemmas.Int.{ints}
use Rattle.bud_design.specs.Lists.{greater, greatest}
use Rattle.net_delays.specs.Alongs.{along_at, ending_at, ending_from, IsEndAt, IsNextEnd, next_at, AreEndsFrom, reach, greatest_reach, greater_of}
use Rattle.net_delays.specs.declared.alongs.Along.{Along}

-- one delay more, that ends at the pin or doesn't
pub ending_at-here : (alongs : List Along) (i v : ℕ) → i < length alongs → (along_at alongs i).to.0 ≡ v → ending_at (drop i alongs) v ≡ along_at alongs i ∷ ending_at (drop (i + 1) alongs) v
ending_at-here alongs i v within is =
    let more = drop_more alongs i (along_at [] 0) within in
    ap (λ xs. ending_at xs v) more ∙ rw (eq-eqb (along_at alongs i).to.0 v is) refl

pub ending_at-skip : (alongs : List Along) (i v : ℕ) → i < length alongs → (along_at alongs i).to.0 ≢ v → ending_at (drop i alongs) v ≡ ending_at (drop (i + 1) alongs) v
ending_at-skip alongs i v within differs =
    let more = drop_more alongs i (along_at [] 0) within in
    ap (λ xs. ending_at xs v) more ∙ rw (ne_eqb (along_at alongs i).to.0 v differs) refl

IsEndAt-less : (alongs : List Along) (v low : ℕ) (o : Option ℕ) → IsEndAt alongs v (low + 1) o → IsEndAt alongs v low o
IsEndAt-less alongs v low None stands = tt
IsEndAt-less alongs v low (Some i) stands = (omega (arith, stands.0), stands.1, stands.2)

pub AreEndsFrom-none : (alongs : List Along) (heads tails : List (Option ℕ)) → ((v : ℕ) → next_at heads v ≡ None) → AreEndsFrom alongs (length alongs) heads tails
AreEndsFrom-none alongs heads tails none = record {
  first = λ v below. rw (none v) (record { stands = tt; others = rw (drop_all (length alongs) alongs (omega arith)) refl });
  next = λ i from below. absurd (omega (arith, from, below));
}

-- one delay more stands before those of its pin
pub AreEndsFrom-more : (alongs : List Along) (low v : ℕ) (heads tails : List (Option ℕ)) → low < length alongs → length alongs ≤ length tails → v < length heads
    → (along_at alongs low).to.0 ≡ v → AreEndsFrom alongs (low + 1) heads tails → AreEndsFrom alongs low (set heads v (Some low)) (set tails low (next_at heads v))
AreEndsFrom-more alongs low v heads tails within room there ends so_far = record {
  first = λ w below. elim (cases_eq w v) [
    | inl same ↦ rw (same, get_or-set_same heads v (Some low) None there) (record { stands = (omega arith, within, ends); others = refl })
    | inr differs ↦
        let before = so_far.first w (omega (arith, below, length-set heads v (Some low))) in
        rw (get_or-set_other heads v w (Some low) None differs)
        (record { stands = IsEndAt-less alongs w low (next_at heads w) before.stands; others = before.others ∙ sym (ending_at-skip alongs low w within (λ same. differs (sym same ∙ ends))) })
  ];
  next = λ i from below. elim (cases_eq i low) [
    | inl same ↦ rw (same, get_or-set_same tails low (next_at heads v) None (omega arith), ends) (so_far.first v there)
    | inr differs ↦ rw (get_or-set_other tails low i (next_at heads v) None differs) (so_far.next i (omega (arith, from)) below)
  ];
}

-- the greater of two and one more
pub greater_of-more : (best : Option ℤ) (z : ℤ) (o : Option ℤ) → greater_of best (Some (greater z o)) ≡ greater_of (Some (greater z best)) o
greater_of-more None z o = refl
greater_of-more (Some b) z None = grind (arith, common_steps, ints)
greater_of-more (Some b) z (Some y) = grind (arith, common_steps, ints)

-- the greatest of the delays from this one on
pub greatest_from : (ℕ → ℤ) → List Along → ℕ → Option ℕ → Option ℤ
greatest_from sums alongs v o = greatest (map (reach sums) (ending_from alongs v o))

pub greatest_from-first : (sums : ℕ → ℤ) (alongs : List Along) (v : ℕ) (o : Option ℕ) → IsNextEnd alongs v 0 o → greatest_reach sums alongs v ≡ greatest_from sums alongs v o
unfolding greatest_from
greatest_from-first sums alongs v o next = ap (λ xs. greatest (map (reach sums) xs)) (sym next.others)

pub greatest_from-none : (sums : ℕ → ℤ) (alongs : List Along) (v : ℕ) → greatest_from sums alongs v None ≡ None
unfolding greatest_from
greatest_from-none sums alongs v = refl

pub greatest_from-more : (sums : ℕ → ℤ) (alongs : List Along) (v i : ℕ) (o : Option ℕ) → i < length alongs → (along_at alongs i).to.0 ≡ v → IsNextEnd alongs v (i + 1) o
    → greatest_from sums alongs v (Some i) ≡ Some (greater (reach sums (along_at alongs i)) (greatest_from sums alongs v o))
unfolding greatest_from
greatest_from-more sums alongs v i o within ends next = rw (ending_at-here alongs i v within ends, next.others) refl

-- how many delays are left from this one on
abbrev pub left_from : List Along → Option ℕ → ℕ
left_from alongs None = 0
left_from alongs (Some i) = length alongs - i

pub IsEndAt-any : (alongs : List Along) (v low : ℕ) (o : Option ℕ) → IsEndAt alongs v low o → IsEndAt alongs v 0 o
IsEndAt-any alongs v low None stands = tt
IsEndAt-any alongs v low (Some i) stands = (omega arith, stands.1, stands.2)

-- one delay more is looked at
pub greatest-more : (sums : ℕ → ℤ) (alongs : List Along) (v i : ℕ) (best later : Option ℤ) (next o : Option ℕ) → next ≡ Some i → i < length alongs → (along_at alongs i).to.0 ≡ v → IsNextEnd alongs v (i + 1) o
    → later ≡ Some (greater (reach sums (along_at alongs i)) best) → greatest_reach sums alongs v ≡ greater_of best (greatest_from sums alongs v next)
    → greatest_reach sums alongs v ≡ greater_of later (greatest_from sums alongs v o)
greatest-more sums alongs v i best later next o is within ends further later_is so_far =
    so_far ∙ (ap (λ n. greater_of best (greatest_from sums alongs v n)) is
    ∙ (ap (greater_of best) (greatest_from-more sums alongs v i o within ends further)
    ∙ (greater_of-more best (reach sums (along_at alongs i)) (greatest_from sums alongs v o)
    ∙ ap (λ b. greater_of b (greatest_from sums alongs v o)) (sym later_is))))

greater_of-none : (o : Option ℤ) → greater_of o None ≡ o
greater_of-none None = refl
greater_of-none (Some z) = refl

pub greatest-end : (sums : ℕ → ℤ) (alongs : List Along) (v : ℕ) (best : Option ℤ) (next : Option ℕ) → next ≡ None → greatest_reach sums alongs v ≡ greater_of best (greatest_from sums alongs v next)
    → best ≡ greatest_reach sums alongs v
greatest-end sums alongs v best next is so_far =
    sym (so_far ∙ (ap (λ n. greater_of best (greatest_from sums alongs v n)) is ∙ (ap (greater_of best) (greatest_from-none sums alongs v) ∙ greater_of-none best)))
