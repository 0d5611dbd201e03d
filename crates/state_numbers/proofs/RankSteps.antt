-- Keys of live classes and places in their order, one by one.
use Rattle.std.proofs.Common.{◌≡◌, ℕ, suc, ◌+◌, ◌<◌, ◌≤◌, Bool, true, false, List, [], ◌∷◌, ◌++◌, length, get_or, set, Option, Some, None, refl, sym, ◌∙◌, ap, subst, inl, inr, arith, get_or-set_same, get_or-set_other, length-append}
use Rattle.std.specs.Prelude.{All, AllPairs, Contains}
use Rattle.std.specs.List.Sorted.{IsPermutation}
use Rattle.std.proofs.lemmas.List.Sorted.{All-permutation, Contains-permutation}
use Rattle.bud_design.specs.declared.layers.Class.{Class}
use Rattle.path_states.specs.declared.tables.State.{State}
use Rattle.state_numbers.specs.Firsts.{IsFirstIn}
use Rattle.std.proofs.lemmas.Bool.{cases_lt, cases_eq}
use Rattle.std.proofs.lemmas.Option.{none-some}
use Rattle.std.proofs.lemmas.List.{get_or_default}
use Rattle.std.proofs.Math.ListN.{get_or-append, length-set}
use Rattle.std.proofs.Math.Seq.{get_or-append_seam}
use Rattle.state_numbers.specs.Ranks.{key_before, key_at, IsKey, AreKeys, IsRank, AreRanks, AreRanked}
use Rattle.state_numbers.specs.declared.ranks.KindKey.{KindKey}

pub Contains-behind : {X : Type 0} (xs : List X) (y x : X) → Contains xs x → Contains (xs ++ y ∷ []) x
Contains-behind xs y x (k, below, is) = (k, omega (arith, below, length-append xs (y ∷ [])), get_or-append xs (y ∷ []) x k below ∙ is)

pub Contains-last : {X : Type 0} (xs : List X) (y : X) → Contains (xs ++ y ∷ []) y
Contains-last xs y = (length xs, omega (arith, length-append xs (y ∷ [])), get_or-append_seam xs y [] y)

pub All-behind : {X : Type 0} (P : X → Type 0) (xs : List X) (y : X) → All P xs → P y → All P (xs ++ y ∷ [])
All-behind P xs y all here k d below = elim (cases_lt k (length xs)) [
  | inl before ↦ subst P (sym (get_or-append xs (y ∷ []) d k before)) (all k d before)
  | inr past ↦
      let same : length xs ≡ k = omega (arith, past, below, length-append xs (y ∷ [])) in
      subst (λ j. P (get_or (xs ++ y ∷ []) j d)) same (subst P (sym (get_or-append_seam xs y [] d)) here)
]

IsKey-more : (firsts : List (Option ℕ)) (count : ℕ) (x : KindKey) → IsKey firsts count x → IsKey firsts (count + 1) x
IsKey-more firsts count x is = (omega (arith, is.0), is.1)

pub AreKeys-skip : (firsts : List (Option ℕ)) (count : ℕ) (keys : List KindKey) → get_or firsts count None ≡ None → AreKeys firsts count keys → AreKeys firsts (count + 1) keys
AreKeys-skip firsts count keys none are = record {
  few = omega (arith, are.few);
  sound = λ k d below. IsKey-more firsts count (get_or keys k d) (are.sound k d below);
  complete = λ x is. elim (cases_eq x.kind count) [
    | inl same ↦ absurd (none-some x.launch (sym (ap (λ c. get_or firsts c None) same ∙ none) ∙ is.1))
    | inr differs ↦ are.complete x (omega (arith, is.0, differs), is.1)
  ];
}

pub AreKeys-more : (firsts : List (Option ℕ)) (count : ℕ) (keys : List KindKey) (n : ℕ) → get_or firsts count None ≡ Some n → AreKeys firsts count keys
    → AreKeys firsts (count + 1) (keys ++ record { kind = count; launch = n } ∷ [])
AreKeys-more firsts count keys n some are = record {
  few = omega (arith, are.few, length-append keys (record { kind = count; launch = n } ∷ []));
  sound = All-behind (IsKey firsts (count + 1)) keys (record { kind = count; launch = n }) (λ k d below. IsKey-more firsts count (get_or keys k d) (are.sound k d below)) (omega arith, some);
  complete = λ x is. elim (cases_eq x.kind count) [
    | inl same ↦
        let launch : n ≡ x.launch = (let e : Some n ≡ Some x.launch = sym some ∙ (ap (λ c. get_or firsts c None) (sym same) ∙ is.1) in cc) in
        let equal : record { kind = count; launch = n } ≡ x = rw (sym same, launch) refl in
        subst (Contains (keys ++ record { kind = count; launch = n } ∷ [])) equal (Contains-last keys (record { kind = count; launch = n }))
    | inr differs ↦ Contains-behind keys (record { kind = count; launch = n }) x (are.complete x (omega (arith, is.0, differs), is.1))
  ];
}

IsRank-more : (keys : List KindKey) (count c : ℕ) (o : Option ℕ) → ((key_at keys count).kind ≡ c → ⊥) → IsRank keys count c o → IsRank keys (count + 1) c o
IsRank-more keys count c None other none = λ r below same. elim (cases_eq r count) [
  | inl here ↦ other (ap (λ k. (key_at keys k).kind) (sym here) ∙ same)
  | inr differs ↦ none r (omega (arith, below, differs)) same
]
IsRank-more keys count c (Some r) other is = (omega (arith, is.0), is.1)

pub AreRanks-none : (keys : List KindKey) (ranks : List (Option ℕ)) → ((c : ℕ) → c < length ranks → get_or ranks c None ≡ None) → AreRanks keys 0 ranks
AreRanks-none keys ranks none = λ c below. subst (IsRank keys 0 c) (sym (none c below)) (λ r under same. absurd (omega (arith, under)))

pub AreRanks-more : (keys : List KindKey) (ranks : List (Option ℕ)) (count c : ℕ) → (key_at keys count).kind ≡ c → c < length ranks → AreRanks keys count ranks
    → AreRanks keys (count + 1) (set ranks c (Some count))
AreRanks-more keys ranks count c here within are e below = elim (cases_eq e c) [
  | inl same ↦
      subst (λ k. IsRank keys (count + 1) k (get_or (set ranks c (Some count)) k None)) (sym same)
      (subst (IsRank keys (count + 1) c) (sym (get_or-set_same ranks c (Some count) None within)) (omega arith, here))
  | inr differs ↦
      subst (IsRank keys (count + 1) e) (sym (get_or-set_other ranks c e (Some count) None differs))
      (IsRank-more keys count e (get_or ranks e None) (λ is. differs (sym is ∙ here)) (are e (omega (arith, below, length-set ranks c (Some count)))))
]

-- what is known of sorted keys and their places
pub AreRanked-from : (classes : List Class) (states : List State) (launches : List ℕ) (live : List Bool) (firsts : List (Option ℕ)) (found keys : List KindKey) (ranks : List (Option ℕ))
    → length firsts ≡ length classes → ((c : ℕ) → c < length classes → IsFirstIn states launches live (length states) c (get_or firsts c None)) → AreKeys firsts (length firsts) found
    → IsPermutation found keys → AllPairs (λ x y. key_before classes x y ≡ true) keys → length ranks ≡ length classes → AreRanks keys (length keys) ranks
    → AreRanked classes states launches live keys ranks
AreRanked-from classes states launches live firsts found keys ranks size firsts_are are same rising ranks_size ranks_are = record {
  size = ranks_size;
  rising = rising;
  kinds = λ k d below. omega (arith, (sound k d below).0, size);
  firsts = λ k d below. subst (IsFirstIn states launches live (length states) (get_or keys k d).kind) (sound k d below).1 (firsts_are (get_or keys k d).kind (omega (arith, (sound k d below).0, size)));
  ranks_are = ranks_are;
  dead = λ c below none. dead c below none (get_or firsts c None) refl;
}
  where
    sound : All (IsKey firsts (length firsts)) keys
    sound = All-permutation (IsKey firsts (length firsts)) found keys same are.sound

    dead : (c : ℕ) → c < length ranks → get_or ranks c None ≡ None → (o : Option ℕ) → get_or firsts c None ≡ o → IsFirstIn states launches live (length states) c None
    dead c below none None is = subst (IsFirstIn states launches live (length states) c) is (firsts_are c (omega (arith, below, ranks_size)))
    dead c below none (Some n) is =
        let there = Contains-permutation found keys (record { kind = c; launch = n }) same (are.complete (record { kind = c; launch = n }) (omega (arith, below, ranks_size, size), is)) in
        absurd (subst (IsRank keys (length keys) c) none (ranks_are c below) there.0 there.1
        (ap (λ (x : KindKey). x.kind) (get_or_default keys there.0 (key_at [] 0) (record { kind = c; launch = n }) there.1 ∙ there.2)))
