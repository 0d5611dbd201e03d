-- Nodes and items, placed one after another.
use Rattle.std.proofs.Common.{◌≡◌, ℕ, ◌+◌, ◌<◌, ◌≤◌, Bool, true, false, List, [], ◌∷◌, ◌++◌, length, get_or, Option, None, refl, sym, ◌∙◌, ap, subst, inl, inr, arith}
use Rattle.std.specs.Prelude.{All, Contains}
use Rattle.std.proofs.lemmas.Bool.{cases_eq, both_ways}
use Rattle.path_states.specs.Tables.{Table, state_at, to_in, from_in}
use Rattle.path_states.specs.declared.tables.State.{State}
use Rattle.bud_design.specs.declared.layers.Class.{Class}
use Rattle.state_numbers.proofs.RankSteps.{Contains-behind, Contains-last, All-behind}
use Rattle.state_numbers.specs.Ranks.{AreRanked}
use Rattle.state_numbers.specs.declared.ranks.KindKey.{KindKey}
use Rattle.state_numbers.specs.declared.placed.Placed.{Placed}
use Rattle.path_classes.specs.Placing.{rank_in, IsNodeOf, AreNodes, IsItemOf, AreItems}

module _ (t : Table) (live : List Bool) (ranks : List (Option ℕ)) where
  pub AreNodes-none : AreNodes t live ranks 0 []
  AreNodes-none = record { sound = λ k d below. absurd (omega (arith, below)); complete = λ i below. absurd (omega (arith, below)) }

  pub AreNodes-skip : (i : ℕ) (xs : List Placed) → get_or live i false ≡ false → AreNodes t live ranks i xs → AreNodes t live ranks (i + 1) xs
  AreNodes-skip i xs dead are = record {
    sound = λ k d below. let has = are.sound k d below in (has.0, omega (arith, has.1), has.2);
    complete = λ j below alive. elim (cases_eq j i) [
      | inl same ↦ absurd (both_ways (get_or live i false) dead (subst (λ k. get_or live k false ≡ true) same alive))
      | inr differs ↦ are.complete j (omega (arith, below, differs)) alive
    ];
  }

  pub AreNodes-more : (i : ℕ) (xs : List Placed) (x : Placed) → IsNodeOf t live ranks i x → AreNodes t live ranks i xs → AreNodes t live ranks (i + 1) (xs ++ x ∷ [])
  AreNodes-more i xs x is are = record {
    sound = All-behind (λ y. (j : ℕ) × (j < i + 1) × IsNodeOf t live ranks j y) xs x (λ k d below. let has = are.sound k d below in (has.0, omega (arith, has.1), has.2)) (i, omega arith, is);
    complete = λ j below alive. elim (cases_eq j i) [
      | inl same ↦ (x, (Contains-last xs x, subst (λ k. IsNodeOf t live ranks k x) (sym same) is))
      | inr differs ↦ let has = are.complete j (omega (arith, below, differs)) alive in (has.0, (Contains-behind xs x has.0 has.1.0, has.1.1))
    ];
  }

  pub AreItems-none : AreItems t live ranks 0 []
  AreItems-none = record { sound = λ k d below. absurd (omega (arith, below)); complete = λ i below. absurd (omega (arith, below)) }

  pub AreItems-skip : (e : ℕ) (xs : List Placed) → get_or live (to_in t e) false ≡ false → AreItems t live ranks e xs → AreItems t live ranks (e + 1) xs
  AreItems-skip e xs dead are = record {
    sound = λ k d below. let has = are.sound k d below in (has.0, omega (arith, has.1), has.2);
    complete = λ f below alive. elim (cases_eq f e) [
      | inl same ↦ absurd (both_ways (get_or live (to_in t e) false) dead (subst (λ k. get_or live (to_in t k) false ≡ true) same alive))
      | inr differs ↦ are.complete f (omega (arith, below, differs)) alive
    ];
  }

  pub AreItems-more : (e : ℕ) (xs : List Placed) (x : Placed) → IsItemOf t live ranks e x → AreItems t live ranks e xs → AreItems t live ranks (e + 1) (xs ++ x ∷ [])
  AreItems-more e xs x is are = record {
    sound = All-behind (λ y. (f : ℕ) × (f < e + 1) × IsItemOf t live ranks f y) xs x (λ k d below. let has = are.sound k d below in (has.0, omega (arith, has.1), has.2)) (e, omega arith, is);
    complete = λ f below alive. elim (cases_eq f e) [
      | inl same ↦ (x, (Contains-last xs x, subst (λ k. IsItemOf t live ranks k x) (sym same) is))
      | inr differs ↦ let has = are.complete f (omega (arith, below, differs)) alive in (has.0, (Contains-behind xs x has.0 has.1.0, has.1.1))
    ];
  }

-- the class of a live state has a place
pub live-ranked : (kinds : List Class) (states : List State) (launches : List ℕ) (live : List Bool) (keys : List KindKey) (ranks : List (Option ℕ)) → AreRanked kinds states launches live keys ranks
    → (i : ℕ) → i < length states → (state_at states i).kind < length kinds → get_or live i false ≡ true → get_or ranks (state_at states i).kind None ≡ None → ⊥
live-ranked kinds states launches live keys ranks ranked i below kind alive none =
    ranked.dead (state_at states i).kind (omega (arith, kind, ranked.size)) none i below (record { live_is = alive; kind_is = refl })
