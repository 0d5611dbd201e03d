-- First launches, state by state.
use Rattle.std.proofs.Common.{◌≡◌, ℕ, suc, ◌+◌, ◌<◌, ◌≤◌, nat_lt, Bool, true, false, List, length, get_or, set, Option, Some, None, refl, sym, ◌∙◌, ap, subst, inl, inr, arith, get_or-set_same, get_or-set_other}
use Rattle.std.proofs.lemmas.Bool.{cases_lt, cases_eq, both_ways, cases_Bool}
use Rattle.path_states.specs.Tables.{state_at}
use Rattle.path_states.specs.declared.tables.State.{State}
use Rattle.state_numbers.specs.Firsts.{lesser, IsLiveIn, HasFirst, IsFirstIn}

module _ (states : List State) (launches : List ℕ) (live : List Bool) where
  -- a state that is not live, or of another class, changes nothing
  pub IsFirstIn-skip : (i c : ℕ) (o : Option ℕ) → (IsLiveIn states live c i → ⊥) → IsFirstIn states launches live i c o → IsFirstIn states launches live (i + 1) c o
  IsFirstIn-skip i c None other none = λ j below alive. elim (cases_eq j i) [
    | inl same ↦ other (subst (IsLiveIn states live c) same alive)
    | inr differs ↦ none j (omega (arith, below, differs)) alive
  ]
  IsFirstIn-skip i c (Some n) other has = record {
    state = has.state;
    within = omega (arith, has.within);
    alive = has.alive;
    launch = has.launch;
    first = λ j below alive. elim (cases_eq j i) [
      | inl same ↦ absurd (other (subst (IsLiveIn states live c) same alive))
      | inr differs ↦ has.first j (omega (arith, below, differs)) alive
    ];
  }

  pub IsFirstIn-here : (i c : ℕ) (o : Option ℕ) (n : ℕ) → IsLiveIn states live c i → get_or launches i 0 ≡ n → IsFirstIn states launches live i c o
      → IsFirstIn states launches live (i + 1) c (Some (lesser o n))
  IsFirstIn-here i c None n here launch none = record {
    state = i;
    within = omega arith;
    alive = here;
    launch = launch;
    first = λ j below alive. elim (cases_eq j i) [
      | inl same ↦ let e = ap (λ k. get_or launches k 0) same ∙ launch in omega (arith, e)
      | inr differs ↦ absurd (none j (omega (arith, below, differs)) alive)
    ];
  }
  IsFirstIn-here i c (Some m) n here launch has = elim (cases_lt m n) [
    | inl less ↦ let e : nat_lt m n ≡ true = grind (arith, less) in rw e (record {
      state = has.state;
      within = omega (arith, has.within);
      alive = has.alive;
      launch = has.launch;
      first = λ j below alive. elim (cases_eq j i) [
        | inl same ↦ let e = ap (λ k. get_or launches k 0) same ∙ launch in omega (arith, e, less)
        | inr differs ↦ has.first j (omega (arith, below, differs)) alive
      ];
    })
    | inr most ↦ let e : nat_lt m n ≡ false = grind (arith, most) in rw e (record {
      state = i;
      within = omega arith;
      alive = here;
      launch = launch;
      first = λ j below alive. elim (cases_eq j i) [
        | inl same ↦ let e = ap (λ k. get_or launches k 0) same ∙ launch in omega (arith, e)
        | inr differs ↦ omega (arith, has.first j (omega (arith, below, differs)) alive, most)
      ];
    })
  ]

  -- the first launches of each class, up to a state
  abbrev pub AreFirsts : ℕ → ℕ → List (Option ℕ) → Type 0
  AreFirsts kinds i firsts = (c : ℕ) → c < kinds → IsFirstIn states launches live i c (get_or firsts c None)

  pub AreFirsts-dead : (kinds i : ℕ) (firsts : List (Option ℕ)) → get_or live i false ≡ false → AreFirsts kinds i firsts → AreFirsts kinds (i + 1) firsts
  AreFirsts-dead kinds i firsts dead are = λ c below. IsFirstIn-skip i c (get_or firsts c None) (λ alive. both_ways (get_or live i false) dead alive.live_is) (are c below)

  pub AreFirsts-live : (kinds i : ℕ) (firsts : List (Option ℕ)) → get_or live i false ≡ true → (state_at states i).kind < length firsts → AreFirsts kinds i firsts
      → AreFirsts kinds (i + 1) (set firsts (state_at states i).kind (Some (lesser (get_or firsts (state_at states i).kind None) (get_or launches i 0))))
  AreFirsts-live kinds i firsts alive within are c below = elim (cases_eq c (state_at states i).kind) [
    | inl same ↦
        subst (λ k. IsFirstIn states launches live (i + 1) k (get_or (set firsts (state_at states i).kind (Some (lesser (get_or firsts (state_at states i).kind None) (get_or launches i 0)))) k None)) (sym same)
        (subst (IsFirstIn states launches live (i + 1) (state_at states i).kind)
        (sym (get_or-set_same firsts (state_at states i).kind (Some (lesser (get_or firsts (state_at states i).kind None) (get_or launches i 0))) None within))
        (IsFirstIn-here i (state_at states i).kind (get_or firsts (state_at states i).kind None) (get_or launches i 0) (record { live_is = alive; kind_is = refl }) refl
        (subst (λ k. IsFirstIn states launches live i k (get_or firsts k None)) same (are c below))))
    | inr differs ↦
        subst (IsFirstIn states launches live (i + 1) c)
        (sym (get_or-set_other firsts (state_at states i).kind c (Some (lesser (get_or firsts (state_at states i).kind None) (get_or launches i 0))) None differs))
        (IsFirstIn-skip i c (get_or firsts c None) (λ is. differs (sym is.kind_is)) (are c below))
  ]
