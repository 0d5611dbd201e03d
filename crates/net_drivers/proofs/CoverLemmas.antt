-- The two furthest ends tell what is driven twice.
use Rattle.std.proofs.Common.{◌≡◌, ℕ, zero, suc, ◌+◌, ◌-◌, ◌<◌, ◌≤◌, ◌==◌, nat_lt, Bool, true, false, cond, List, [], ◌∷◌, ◌++◌, length, count_by, min, get_or, refl, sym, ◌∙◌, ap, subst, arith, ⊎_elim, add-one}
use Rattle.std.proofs.lemmas.Bool.Decides.{nat_tests}
use Rattle.std.proofs.lemmas.Grind.{common_steps}
use Rattle.std.proofs.lemmas.Bool.{cases_lt, cases_eq}
use Rattle.std.proofs.lemmas.List.{get_or-set_other}
use Rattle.std.proofs.lemmas.Grind.{get_or-set_at}
use Rattle.std.proofs.Math.ListN.{set, length-set}
use Rattle.std.specs.List.{range_with_len}
use Rattle.net_drivers.specs.declared.covers.Ends.{Ends}
use Rattle.net_drivers.specs.Covers.{with_end, one_if, ends_behind, ends_at, behind_in, covered, passing, times, AreOrdered, Adds}

pub with_end-ordered : (ends : Ends) (end : ℕ) → ends.second ≤ ends.last → (with_end ends end).second ≤ (with_end ends end).last
with_end-ordered ends end ordered = grind (arith, nat_tests)

pub with_end-behind : (ends : Ends) (end b : ℕ) → ends.second ≤ ends.last → min 2 (ends_behind (with_end ends end) b) ≡ min 2 (ends_behind ends b + one_if (nat_lt b end))
with_end-behind ends end b ordered = grind (arith, nat_tests)

min-add : (a b x y : ℕ) → min 2 a ≡ min 2 b → min 2 x ≡ min 2 y → min 2 (a + x) ≡ min 2 (b + y)
min-add a b x y p q = omega arith

-- the bit is driven by what begins at one row once more, or not
abbrev pub more_in : ℕ → ℕ → ℕ → ℕ
more_in n k more = cond (nat_lt k n) more 0

behind_in-set_here : (a b x y more m n : ℕ) → min 2 a ≡ min 2 (b + m) → m ≡ 0 → min 2 x ≡ min 2 (y + more) → n ≡ more → min 2 (a + x) ≡ min 2 ((b + y) + n)
behind_in-set_here a b x y more m n p z q e = omega arith

behind_in-set_there : (a b x y m n : ℕ) → min 2 a ≡ min 2 (b + m) → n ≡ m → x ≡ y → min 2 (a + x) ≡ min 2 ((b + y) + n)
behind_in-set_there a b x y m n p e same = omega arith

more_in-below : (n k more : ℕ) → k < n → more_in n k more ≡ more
more_in-below n k more less = grind (arith, nat_tests)

more_in-past : (n k more : ℕ) → n ≤ k → more_in n k more ≡ 0
more_in-past n k more less = grind (arith, nat_tests)

more_in-other : (n k more : ℕ) → (n ≡ k → ⊥) → more_in (suc n) k more ≡ more_in n k more
more_in-other n k more other = ⊎_elim (λ less. more_in-below (suc n) k more (omega arith) ∙ sym (more_in-below n k more less)) (λ more'. more_in-past (suc n) k more (omega arith) ∙ sym (more_in-past n k more (omega arith))) (cases_lt k n)

pub behind_in-set : (n k : ℕ) (rows : List Ends) (ends : Ends) (b more : ℕ) → k < length rows
    → min 2 (ends_behind ends b) ≡ min 2 (ends_behind (ends_at rows k) b + more)
    → min 2 (behind_in n (set rows k ends) b) ≡ min 2 (behind_in n rows b + more_in n k more)
behind_in-set zero k rows ends b more within same = let none : more_in zero k more ≡ 0 = more_in-past zero k more (omega arith) in rw none refl
behind_in-set (suc n) k rows ends b more within same =
    let before = behind_in-set n k rows ends b more within same in
    let none : Ends = record { last = 0; second = 0 } in
    ⊎_elim
    (λ here.
    let row : ends_at (set rows k ends) n ≡ ends = get_or-set_at rows k n ends none here within in
    let old : ends_at rows n ≡ ends_at rows k = ap (λ i. ends_at rows i) here in
    behind_in-set_here _ _ _ _ more _ _ before (more_in-past n k more (omega arith))
    (ap (λ e. min 2 (ends_behind e b)) row ∙ (same ∙ ap (λ e. min 2 (ends_behind e b + more)) (sym old)))
    (more_in-below (suc n) k more (omega arith)))
    (λ other.
    behind_in-set_there _ _ _ _ _ _ before (more_in-other n k more other) (ap (λ e. ends_behind e b) (get_or-set_other rows k n ends none other)))
    (cases_eq n k)

times-range_one : (low n b : ℕ) → one_if (low == b) + more_in (suc b) (low + 1) (one_if (nat_lt b ((low + 1) + n))) ≡ more_in (suc b) low (one_if (nat_lt b (low + suc n)))
times-range_one low n b = grind (arith, nat_tests)

-- how often a number stands in a row of numbers
pub times-range : (low n b : ℕ) → times b (range_with_len low n) ≡ more_in (suc b) low (one_if (nat_lt b (low + n)))
times-range low zero b = grind (arith, nat_tests)
times-range low (suc n) b = ap (λ k. one_if (low == b) + k) (times-range (low + 1) n b) ∙ times-range_one low n b

pub AreOrdered-set : (rows : List Ends) (k : ℕ) (ends : Ends) → k < length rows → ends.second ≤ ends.last → AreOrdered rows → AreOrdered (set rows k ends)
AreOrdered-set rows k ends within ordered rest = record {
  each = λ j.
      let none : Ends = record { last = 0; second = 0 } in
      ⊎_elim
      (λ here. let row : ends_at (set rows k ends) j ≡ ends = get_or-set_at rows k j ends none here within in let P : Ends → Type 0 = λ e. e.second ≤ e.last in subst P (sym row) ordered)
      (λ other. let P : Ends → Type 0 = λ e. e.second ≤ e.last in subst P (sym (get_or-set_other rows k j ends none other)) (rest.each j))
      (cases_eq j k);
}

min-cover : (a b c more t : ℕ) → a ≡ min 2 (b + more) → t ≡ more → c ≡ min 2 b → a ≡ min 2 (c + t)
min-cover a b c more t p q r = omega arith

pub Adds-covered : (rows : List Ends) (low end : ℕ) → low < length rows → low ≤ end → Adds (range_with_len low (end - low)) rows (covered low end rows)
unfolding passing
Adds-covered rows low end within less =
    let ends : Ends = with_end (ends_at rows low) end in
    record {
      size = length-set rows low ends;
      ordered = λ ordered. AreOrdered-set rows low ends within (with_end-ordered (ends_at rows low) end (ordered.each low)) ordered;
      counts = λ ordered b within'.
          let same : min 2 (ends_behind ends b) ≡ min 2 (ends_behind (ends_at rows low) b + one_if (nat_lt b end)) = with_end-behind (ends_at rows low) end b (ordered.each low) in
          let back : low + (end - low) ≡ end = omega arith in
          min-cover _ (behind_in (suc b) rows b) _ (more_in (suc b) low (one_if (nat_lt b end))) _
          (behind_in-set (suc b) low rows ends b (one_if (nat_lt b end)) within same)
          (times-range low (end - low) b ∙ ap (λ e. more_in (suc b) low (one_if (nat_lt b e))) back)
          refl;
    }

pub times-append : (b : ℕ) (xs ys : List ℕ) → times b (xs ++ ys) ≡ times b xs + times b ys
times-append b [] ys = omega arith
times-append b (x ∷ xs) ys = omega (arith, times-append b xs ys)

min-adds : (new middle old x y xy : ℕ) → new ≡ min 2 (middle + y) → middle ≡ min 2 (old + x) → xy ≡ x + y → new ≡ min 2 (old + xy)
min-adds new middle old x y xy p q r = omega arith

pub Adds-both : {xs ys : List ℕ} {old middle new : List Ends} → Adds xs old middle → Adds ys middle new → Adds (xs ++ ys) old new
Adds-both {xs} {ys} {old} {middle} {new} first second = record {
  size = second.size ∙ first.size;
  ordered = λ ordered. second.ordered (first.ordered ordered);
  counts = λ ordered b within.
      let within' : b < length middle = omega (arith, first.size) in
      min-adds _ _ _ _ _ _ (second.counts (first.ordered ordered) b within') (first.counts ordered b within) (times-append b xs ys);
}

pub Adds-none : (rows : List Ends) → Adds [] rows rows
unfolding passing
Adds-none rows = record { size = refl; ordered = λ ordered. ordered; counts = λ ordered b within. min-none _ }
  where
    min-none : (n : ℕ) → min 2 n ≡ min 2 (min 2 n + 0)
    min-none n = omega arith

-- the two furthest ends of what begins at the first bits
pub record IsSwept (rows : List Ends) (n : ℕ) (furthest : Ends) : Type 0 where
  pub ordered : furthest.second ≤ furthest.last
  pub behind : (b : ℕ) → min 2 (ends_behind furthest b) ≡ min 2 (behind_in n rows b)

min-swept : (a' a f behind x y : ℕ) → min 2 a' ≡ min 2 (a + y) → min 2 a ≡ min 2 (f + x) → min 2 f ≡ min 2 behind → min 2 a' ≡ min 2 (behind + (x + y))
min-swept a' a f behind x y p q r = omega arith

pub IsSwept-next : {rows : List Ends} {n : ℕ} {furthest : Ends} (middle next : Ends) → middle ≡ with_end furthest (ends_at rows n).last → next ≡ with_end middle (ends_at rows n).second → IsSwept rows n furthest → IsSwept rows (n + 1) next
IsSwept-next {rows} {n} {furthest} middle next first second swept =
    let middle_ordered : middle.second ≤ middle.last = rw first (with_end-ordered furthest _ swept.ordered) in
    record {
      ordered = rw second (with_end-ordered middle _ middle_ordered);
      behind = λ b.
          let p : min 2 (ends_behind next b) ≡ min 2 (ends_behind middle b + one_if (nat_lt b (ends_at rows n).second)) = rw second (with_end-behind middle _ b middle_ordered) in
          let q : min 2 (ends_behind middle b) ≡ min 2 (ends_behind furthest b + one_if (nat_lt b (ends_at rows n).last)) = rw first (with_end-behind furthest _ b swept.ordered) in
          rw add-one (min-swept _ _ _ _ _ _ p q (swept.behind b));
    }

behind-less : (ends : Ends) (b : ℕ) → ends.second ≤ b → nat_lt 1 (min 2 (ends_behind ends b)) ≡ false
behind-less ends b less = grind (arith, nat_tests)

behind-more : (ends : Ends) (b : ℕ) → ends.second ≤ ends.last → b < ends.second → nat_lt 1 (min 2 (ends_behind ends b)) ≡ true
behind-more ends b ordered more = grind (arith, nat_tests)

passing-is : (rows : List Ends) (b : ℕ) (furthest : Ends) → IsSwept rows (b + 1) furthest → min 2 (ends_behind furthest b) ≡ passing rows b
unfolding passing
passing-is rows b furthest swept = let e : b + 1 ≡ suc b = omega arith in let P : ℕ → Type 0 = λ n. min 2 (ends_behind furthest b) ≡ min 2 (behind_in n rows b) in subst P e (swept.behind b)

pub passing-once : {rows : List Ends} {b : ℕ} {furthest : Ends} → IsSwept rows (b + 1) furthest → furthest.second ≤ b → nat_lt 1 (passing rows b) ≡ false
passing-once {rows} {b} {furthest} swept less = subst (λ k. nat_lt 1 k ≡ false) (passing-is rows b furthest swept) (behind-less furthest b less)

pub passing-twice : {rows : List Ends} {b : ℕ} {furthest : Ends} → IsSwept rows (b + 1) furthest → b < furthest.second → nat_lt 1 (passing rows b) ≡ true
passing-twice {rows} {b} {furthest} swept more = subst (λ k. nat_lt 1 k ≡ true) (passing-is rows b furthest swept) (behind-more furthest b swept.ordered more)
