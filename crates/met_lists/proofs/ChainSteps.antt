-- Following the numbers of a key.
use Rattle.std.proofs.Common.{◌≡◌, ℕ, zero, suc, ◌+◌, ◌-◌, ◌<◌, ◌≤◌, ◌==◌, ◌&&◌, ◌||◌, Bool, true, false, get_or, find, arith, refl, sym, ◌∙◌, ap, subst, inl, inr, eq-eqb}
use Rattle.std.specs.Prelude.{nat_lt}
use Rattle.std.specs.List.{range_with_len}
use Rattle.std.proofs.lemmas.Bool.{cases_eq, cases_lt, ne_eqb}
use Rattle.std.proofs.lemmas.Bool.Decides.{Decides-eqb}
use Rattle.name_tables.specs.ChainLists.{ChainLists}
use Rattle.name_tables.specs.Chained.{number_or, found, first_of, AreChained}
use Rattle.name_tables.proofs.ChainLaws.{leads-first, leads-next}
use Rattle.met_lists.proofs.Bools.{by_test, or-none, or-all}

-- nothing before what is found passes
none-before : (q : ℕ → Bool) (k m n v : ℕ) → k + m ≡ n → k ≤ v → v < number_or n (find q (range_with_len k m)) → q v ≡ false
none-before q k zero n v all low before = absurd (omega (arith, all, low, before))
none-before q k (suc m) n v all low before = by_test (q k)
    (λ passes.
    let here : number_or n (find q (range_with_len k (suc m))) ≡ k = rw passes refl in
    absurd (omega (arith, low, before, here)))
    (λ fails. elim (cases_eq k v) [
      | inl same ↦ ap q (sym same) ∙ fails
      | inr other ↦
          let on : find q (range_with_len k (suc m)) ≡ find q (range_with_len (k + 1) m) = rw fails refl in
          none-before q (k + 1) m n v (omega (arith, all)) (omega (arith, low, other)) (subst (λ o. v < number_or n o) on before)
    ])

-- the number has the key, or is the count of all, and none of those before it and from the last on has
pub record IsNext (keyed : ℕ → ℕ) (count key last next : ℕ) : Type 0 where
  pub behind : last ≤ next
  pub within : next ≤ count
  pub here : next < count → keyed next ≡ key
  pub none : (v : ℕ) → last ≤ v → v < next → (keyed v == key) ≡ false

pub next-first : (keyed : ℕ → ℕ) (count : ℕ) (chains : ChainLists) (key next : ℕ) → AreChained keyed 0 count chains → next ≡ first_of chains key → IsNext keyed count key 0 next
next-first keyed count chains key next are is =
    let leads = leads-first keyed 0 count chains (λ w. keyed w == key) key next are (omega arith) (λ w. (Decides-eqb (keyed w) key).0) is in
    record {
      behind = leads.behind;
      within = leads.within;
      here = leads.alike;
      none = λ v low before. none-before (λ w. keyed w == key) 0 (count - 0) count v (omega arith) low (omega (arith, before, is, are.first key));
    }

pub next-next : (keyed : ℕ → ℕ) (count : ℕ) (chains : ChainLists) (key last next : ℕ) → AreChained keyed 0 count chains → last < count → keyed last ≡ key → next ≡ get_or chains.next last 0
    → IsNext keyed count key (last + 1) next
next-next keyed count chains key last next are below alike is =
    let leads = leads-next keyed 0 count chains (λ w. keyed w == key) key last next are (omega arith) below alike (λ w. (Decides-eqb (keyed w) key).0) is in
    let found_is = is ∙ (are.next last (omega arith) below ∙ ap (λ k. number_or count (found keyed (last + 1) count k)) alike) in
    record {
      behind = leads.behind;
      within = leads.within;
      here = leads.alike;
      none = λ v low before. none-before (λ w. keyed w == key) (last + 1) (count - (last + 1)) count v (omega (arith, below)) low (omega (arith, before, found_is));
    }

-- those of the key before the next one are those before the last one, and the last one
pub passed-more : (keyed : ℕ → ℕ) (count key last next v : ℕ) → keyed last ≡ key → IsNext keyed count key (last + 1) next
    → (nat_lt v next && keyed v == key) ≡ ((nat_lt v last && keyed v == key) || last == v)
passed-more keyed count key last next v alike is = elim (cases_lt v last) [
  | inl below ↦
      let before : nat_lt v last ≡ true = grind (arith, below) in
      let there : nat_lt v next ≡ true = grind (arith, below, is.behind) in
      let other : (last == v) ≡ false = ne_eqb last v (λ e. omega (arith, below, e)) in
      rw (before, there, other) (sym (or-none (keyed v == key)))
  | inr past ↦ elim (cases_eq last v) [
    | inl same ↦
        let there : nat_lt v next ≡ true = grind (arith, same, is.behind) in
        let has : (keyed v == key) ≡ true = eq-eqb (keyed v) key (ap keyed (sym same) ∙ alike) in
        let one : (last == v) ≡ true = eq-eqb last v same in
        rw (there, has, one) (sym (or-all (nat_lt v last && true)))
    | inr other ↦
        let after : nat_lt v last ≡ false = grind (arith, past) in
        let not_one : (last == v) ≡ false = ne_eqb last v other in
        rw (after, not_one) (elim (cases_lt v next) [
          | inl before ↦ let none = is.none v (omega (arith, past, other)) before in rw none (and-none (nat_lt v next))
          | inr behind ↦ let out : nat_lt v next ≡ false = grind (arith, behind) in rw out refl
        ])
  ]
]
  where
    and-none : (a : Bool) → (a && false) ≡ false
    and-none true = refl
    and-none false = refl

-- none before the first of the key has it
pub passed-first : (keyed : ℕ → ℕ) (count key next v : ℕ) → IsNext keyed count key 0 next → (nat_lt v next && keyed v == key) ≡ false
passed-first keyed count key next v is = elim (cases_lt v next) [
  | inl before ↦ let none = is.none v (omega arith) before in let there : nat_lt v next ≡ true = grind (arith, before) in rw (there, none) refl
  | inr behind ↦ let out : nat_lt v next ≡ false = grind (arith, behind) in rw out refl
]

-- behind the last of the key all are passed
pub passed-all : (keyed : ℕ → ℕ) (count key next v : ℕ) → count ≤ next → v < count → (keyed v == key) ≡ (nat_lt v next && keyed v == key)
passed-all keyed count key next v all below = let there : nat_lt v next ≡ true = grind (arith, all, below) in rw there refl
