-- Chains built from the last number to the first.
use Rattle.std.proofs.Common.{◌≡◌, ℕ, ◌+◌, ◌-◌, ◌<◌, ◌≤◌, ◌==◌, Bool, true, false, List, [], length, get_or, set, find, Option, Some, None, arith, refl, ap, subst, sym, ◌∙◌, inl, inr, get_or-set_same, get_or-set_other, if◌then◌else◌}
use Rattle.std.specs.List.{range_with_len}
use Rattle.std.proofs.lemmas.Bool.Decides.{Decides-eqb}
use Rattle.std.specs.Map.{lookup}
use Rattle.std.proofs.lemmas.Bool.{cases_eq}
use Rattle.std.proofs.Math.ListN.{length-set}
use Rattle.name_tables.specs.ChainLists.{ChainLists}
use Rattle.name_tables.specs.Chained.{number_or, found, first_of, AreChained}
use Rattle.name_tables.proofs.Finding.{find-here, find-next, find-end, find-same, find-from, found-within, found-passes}

-- no number is chained yet
pub AreChained-none : (keyed : ℕ → ℕ) (count : ℕ) (next : List ℕ) → length next ≡ count → AreChained keyed count count (record { first = []; next = next })
AreChained-none keyed count next all = record {
  all = all;
  first = λ key. all ∙ sym (ap (number_or count) (find-end (λ v. keyed v == key) count count (omega arith)));
  next = λ v low below. absurd (omega (arith, low, below));
}

found-here : (keyed : ℕ → ℕ) (low count key : ℕ) → low < count → (keyed low == key) ≡ true → found keyed low count key ≡ Some low
found-here keyed low count key below is = find-here (λ v. keyed v == key) low count below is

found-next : (keyed : ℕ → ℕ) (low count key : ℕ) → low < count → (keyed low == key) ≡ false → found keyed low count key ≡ found keyed (low + 1) count key
found-next keyed low count key below is = find-next (λ v. keyed v == key) low count below is

-- one number is put before those of its key
pub AreChained-more : (keyed : ℕ → ℕ) (low count : ℕ) (old new : ChainLists) → low < count → AreChained keyed (low + 1) count old
    → new.next ≡ set old.next low (first_of old (keyed low))
    → ((q : ℕ) → lookup (λ k. q == k) new.first ≡ (if keyed low == q then Some low else lookup (λ k. q == k) old.first))
    → AreChained keyed low count new
AreChained-more keyed low count old new below so_far next first =
    let all : length new.next ≡ count = ap length next ∙ (length-set old.next low (first_of old (keyed low)) ∙ so_far.all) in
    record {
      all = all;
      first = λ key. by_test key (keyed low == key) refl all;
      next = λ v from within. elim (cases_eq v low) [
        | inl same ↦ rw same (ap (λ xs. get_or xs low 0) next ∙ (get_or-set_same old.next low (first_of old (keyed low)) 0 (omega (arith, below, so_far.all)) ∙ so_far.first (keyed low)))
        | inr differs ↦ ap (λ xs. get_or xs v 0) next ∙ (get_or-set_other old.next low v (first_of old (keyed low)) 0 differs ∙ so_far.next v (omega (arith, from, differs)) within)
      ];
    }
  where
    by_test : (key : ℕ) (b : Bool) → (keyed low == key) ≡ b → length new.next ≡ count → first_of new key ≡ number_or count (found keyed low count key)
    by_test key true e all =
        let got : lookup (λ k. key == k) new.first ≡ Some low = first key ∙ rw e refl in
        ap (number_or (length new.next)) got ∙ sym (ap (number_or count) (found-here keyed low count key below e))
    by_test key false e all =
        let got : lookup (λ k. key == k) new.first ≡ lookup (λ k. key == k) old.first = first key ∙ rw e refl in
        ap (number_or (length new.next)) got
        ∙ (ap (λ n. number_or n (lookup (λ k. key == k) old.first)) (all ∙ sym so_far.all)
        ∙ (so_far.first key ∙ sym (ap (number_or count) (found-next keyed low count key below e))))

same-found : (f g : ℕ → ℕ) (low count key : ℕ) → low ≤ count → ((v : ℕ) → low ≤ v → v < count → f v ≡ g v) → found f low count key ≡ found g low count key
same-found f g low count key small same =
    find-same (λ v. f v == key) (λ v. g v == key) low (count - low) (λ v from within. ap (λ k. k == key) (same v from (omega (arith, small, within))))

-- numbers that have the same keys have the same chains
pub AreChained-same : (f g : ℕ → ℕ) (low count : ℕ) (chains : ChainLists) → low ≤ count → ((v : ℕ) → low ≤ v → v < count → f v ≡ g v) → AreChained f low count chains → AreChained g low count chains
AreChained-same f g low count chains small same are = record {
  all = are.all;
  first = λ key. are.first key ∙ ap (number_or count) (same-found f g low count key small same);
  next = λ v from within.
      are.next v from within
      ∙ (ap (λ k. number_or count (found f (v + 1) count k)) (same v from within)
      ∙ ap (number_or count) (same-found f g (v + 1) count (g v) (omega (arith, within)) (λ w behind below. same w (omega (arith, from, behind)) below)));
}

-- one step of the way down to the first number
pub chained-step : (keys : List ℕ) (low number : ℕ) (old new : ChainLists) → low < number → number ≤ length keys → AreChained (λ v. get_or keys v 0) number (length keys) old
    → new.next ≡ set old.next (number - 1) (first_of old (get_or keys (number - 1) 0))
    → ((q : ℕ) → lookup (λ k. q == k) new.first ≡ (if get_or keys (number - 1) 0 == q then Some (number - 1) else lookup (λ k. q == k) old.first))
    → (number - 1 ≤ length keys) × (low ≤ number - 1) × AreChained (λ v. get_or keys v 0) (number - 1) (length keys) new
chained-step keys low number old new some within so_far next first =
    let back : number ≡ number - 1 + 1 = omega (arith, some) in (
      omega (arith, within),
      omega (arith, some),
      AreChained-more (λ v. get_or keys v 0) (number - 1) (length keys) old new (omega (arith, some, within)) (subst (λ n. AreChained (λ v. get_or keys v 0) n (length keys) old) back so_far) next first,
    )

-- a search for what has the key may go on at this number
pub record LeadsOn (keyed : ℕ → ℕ) (q : ℕ → Bool) (count key from v : ℕ) : Type 0 where
  pub behind : from ≤ v
  pub within : v ≤ count
  pub alike : v < count → keyed v ≡ key
  pub same : find q (range_with_len from (count - from)) ≡ find q (range_with_len v (count - v))

leads-on : (keyed : ℕ → ℕ) (q : ℕ → Bool) (count key from v : ℕ) → from ≤ count → ((w : ℕ) → q w ≡ true → keyed w ≡ key) → v ≡ number_or count (found keyed from count key)
    → LeadsOn keyed q count key from v
leads-on keyed q count key from v small weaker is = by_found (found keyed from count key) refl
  where
    on : find q (range_with_len from (count - from)) ≡ find q (range_with_len v (count - v))
    on =
        find-from q (λ w. keyed w == key) (λ w passes. (Decides-eqb (keyed w) key).1 (weaker w passes)) from count small
        ∙ ap (λ w. find q (range_with_len w (count - w))) (sym is)

    by_found : (o : Option ℕ) → found keyed from count key ≡ o → LeadsOn keyed q count key from v
    by_found None e =
        let last : v ≡ count = is ∙ ap (number_or count) e in
        record { behind = omega (arith, last, small); within = omega (arith, last); alike = λ below. absurd (omega (arith, last, below)); same = on }
    by_found (Some w) e =
        let here : v ≡ w = is ∙ ap (number_or count) e in
        let inside = found-within (λ w. keyed w == key) from count w e in
        record {
          behind = omega (arith, here, inside.0);
          within = omega (arith, here, inside.1);
          alike = λ below. ap keyed here ∙ (Decides-eqb (keyed w) key).0 (found-passes (λ w. keyed w == key) (range_with_len from (count - from)) w e);
          same = on;
        }

-- from the lowest number to the first of the key
pub leads-first : (keyed : ℕ → ℕ) (low count : ℕ) (chains : ChainLists) (q : ℕ → Bool) (key v : ℕ) → AreChained keyed low count chains → low ≤ count
    → ((w : ℕ) → q w ≡ true → keyed w ≡ key) → v ≡ first_of chains key → LeadsOn keyed q count key low v
leads-first keyed low count chains q key v are small weaker is = leads-on keyed q count key low v small weaker (is ∙ are.first key)

-- from the number behind one of the key to the next of the key
pub leads-next : (keyed : ℕ → ℕ) (low count : ℕ) (chains : ChainLists) (q : ℕ → Bool) (key u v : ℕ) → AreChained keyed low count chains → low ≤ u → u < count → keyed u ≡ key
    → ((w : ℕ) → q w ≡ true → keyed w ≡ key) → v ≡ get_or chains.next u 0 → LeadsOn keyed q count key (u + 1) v
leads-next keyed low count chains q key u v are from below alike weaker is =
    leads-on keyed q count key (u + 1) v (omega (arith, below)) weaker
    (is ∙ (are.next u from below ∙ ap (λ k. number_or count (found keyed (u + 1) count k)) alike))
