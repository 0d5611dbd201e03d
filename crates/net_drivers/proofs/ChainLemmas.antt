-- Steps one after the other, and what goes on as far again.
use Rattle.std.proofs.Common.{◌≡◌, ℕ, zero, suc, ◌+◌, ◌-◌, ◌^◌, ◌<◌, ◌≤◌, List, length, slice_index, refl, sym, ◌∙◌, ap, subst, arith, add-one, add-zero}
use Rattle.std.proofs.Math.Nat.{two-pow-succ}
use Rattle.net_drivers.specs.Chains.{steps, StayWithin, IsFollowed, IsDoubled}

pub steps-within : (n : ℕ) (next : List ℕ) (b : ℕ) → StayWithin next → b < length next → steps n next b < length next
unfolding steps
steps-within zero next b stay within = within
steps-within (suc n) next b stay within = steps-within n next (slice_index next b) stay (stay.each b within)

pub steps-add : (m n : ℕ) (next : List ℕ) (b : ℕ) → steps (m + n) next b ≡ steps n next (steps m next b)
unfolding steps
steps-add zero n next b = let e : 0 + n ≡ n = omega arith in rw e refl
steps-add (suc m) n next b = let e : suc m + n ≡ suc (m + n) = omega arith in rw e (steps-add m n next (slice_index next b))

pub IsFollowed-one : (next reached : List ℕ) → reached ≡ next → IsFollowed 1 next reached
unfolding steps
IsFollowed-one next reached same = record { size = ap length same; far = λ b within. ap (λ xs. slice_index xs b) same }

pub StayWithin-followed : {n : ℕ} {next reached : List ℕ} → StayWithin next → IsFollowed n next reached → StayWithin reached
StayWithin-followed {n} {next} {reached} stay followed = record {
  each = λ b within.
      let w : b < length next = omega (arith, followed.size) in
      let e = followed.far b w in
      let s = steps-within n next b stay w in
      omega (arith, e, s, followed.size);
}

pub IsFollowed-twice : {n : ℕ} {next reached twice : List ℕ} → StayWithin next → IsFollowed n next reached → IsDoubled reached twice → IsFollowed (n + n) next twice
IsFollowed-twice {n} {next} {reached} {twice} stay followed doubled = record {
  size = doubled.size ∙ followed.size;
  far = λ b within.
      let w : b < length reached = omega (arith, followed.size) in
      let e = followed.far b within in
      let s = steps-within n next b stay within in
      doubled.each b w ∙ (ap (slice_index reached) e ∙ (followed.far (steps n next b) s ∙ sym (steps-add n n next b)));
}

pub IsFollowed-next : (n : ℕ) {next reached twice : List ℕ} → StayWithin next → IsFollowed (2 ^ n) next reached → IsDoubled reached twice → IsFollowed (2 ^ (n + 1)) next twice
IsFollowed-next n {next} {reached} {twice} stay followed doubled =
    let power : 2 ^ (n + 1) ≡ 2 ^ n + 2 ^ n = rw add-one (two-pow-succ n) in
    subst (λ k. IsFollowed k next twice) (sym power) (IsFollowed-twice stay followed doubled)

pub IsFollowed-more : (k n : ℕ) {next reached : List ℕ} → StayWithin next → IsDoubled reached reached → IsFollowed (2 ^ n) next reached → IsFollowed (2 ^ (n + k)) next reached
IsFollowed-more zero n {next} {reached} stay doubled followed = rw add-zero followed
IsFollowed-more (suc k) n {next} {reached} stay doubled followed =
    let e : n + suc k ≡ (n + 1) + k = omega arith in
    rw e (IsFollowed-more k (n + 1) stay doubled (IsFollowed-next n stay followed doubled))

pub IsFollowed-rests : (m n : ℕ) {next reached : List ℕ} → n ≤ m → StayWithin next → IsDoubled reached reached → IsFollowed (2 ^ n) next reached → IsFollowed (2 ^ m) next reached
IsFollowed-rests m n {next} {reached} less stay doubled followed =
    let e : n + (m - n) ≡ m = omega arith in
    subst (λ k. IsFollowed (2 ^ k) next reached) e (IsFollowed-more (m - n) n stay doubled followed)

pub IsDoubled-same : {read far : List ℕ} → read ≡ far → IsDoubled read read → IsDoubled far far
IsDoubled-same {read} {far} same doubled = subst (λ xs. IsDoubled xs xs) same doubled
