-- Nodes that are marked one after another.
use Rattle.std.proofs.Common.{◌≡◌, ◌≢◌, ℕ, ℤ, pos, ◌<ℤ◌, ◌+◌, ◌<◌, ◌≤◌, ◌⊎◌, List, [], ◌∷◌, length, set, Option, Some, None, arith, ap, sym, subst, ◌∙◌, inl, inr, zero, suc, get_or-set_same, get_or-set_other}
use Rattle.std.proofs.lemmas.Bool.{cases_eq, cases_lt}
use Rattle.std.proofs.lemmas.List.{get_or_past}
use Rattle.bud_flow.specs.Sums.{number_at}
use Rattle.residual.specs.Arcs.{arc_at}
use Rattle.residual.specs.Walks.{way_at, IsMarked, rank_of, rank_at, IsWay, AreWays, HaveFlow, LeadsOn, unmarked_count, IsSpreading}
use Rattle.residual.proofs.Walking.{none-some, some_inj}
use Rattle.residual.specs.declared.arcs.Arc.{Arc}
use Rattle.residual.specs.declared.walks.Way.{Way}

-- the root and marked nodes keep their ways where another node is marked
kept_way : (ways : List (Option Way)) (root v u : ℕ) (new : Option Way) → way_at ways v ≡ None → v ≢ root → (u ≡ root) ⊎ IsMarked ways u → way_at (set ways v new) u ≡ way_at ways u
kept_way ways root v u new free inner here = elim here [
  | inl at_root ↦ get_or-set_other ways v u new None (λ e. inner (sym e ∙ at_root))
  | inr marked ↦ get_or-set_other ways v u new None (λ e. none-some (way_at ways v) marked.0 free (ap (way_at ways) (sym e) ∙ marked.1))
]

kept_on : (ways : List (Option Way)) (root v u : ℕ) (new : Option Way) → way_at ways v ≡ None → v ≢ root → (u ≡ root) ⊎ IsMarked ways u → (u ≡ root) ⊎ IsMarked (set ways v new) u
kept_on ways root v u new free inner here = elim here [
  | inl at_root ↦ inl at_root
  | inr marked ↦ inr (marked.0, kept_way ways root v u new free inner (inr marked) ∙ marked.1)
]

pub AreWays-marked : (arcs : List Arc) (flows : List ℤ) (first root : ℕ) (ways : List (Option Way)) (count j : ℕ) → AreWays arcs first root ways count → LeadsOn arcs flows root ways j
    → first ≤ j → j < length arcs → (arc_at arcs j).from.0 < length ways
    → AreWays arcs first root (set ways (arc_at arcs j).from.0 (Some (record { arc = j; place = count }))) (count + 1)
AreWays-marked arcs flows first root ways count j are leads above below there =
    let v : ℕ = (arc_at arcs j).from.0 in
    let new : Way = record { arc = j; place = count } in
    let after : List (Option Way) = set ways v (Some new) in
    let here : way_at after v ≡ Some new = get_or-set_same ways v (Some new) None there in
    let rank_to : (u : ℕ) → (u ≡ root) ⊎ IsMarked ways u → rank_at after u ≡ rank_at ways u = λ u on. ap rank_of (kept_way ways root v u (Some new) leads.free leads.inner on) in
    let low : (u : ℕ) → (u ≡ root) ⊎ IsMarked ways u → rank_at ways u < count + 1 = λ u on. elim on [
      | inl at_root ↦ omega (arith, ap rank_of (ap (way_at ways) at_root ∙ are.bare))
      | inr marked ↦ omega (arith, ap rank_of marked.1, (are.each u marked.0 marked.1).place)
    ] in
    record {
      each = λ u w is. elim (cases_eq u v) [
        | inl same ↦
            let e : w ≡ new = some_inj w new (sym is ∙ ap (way_at after) same ∙ here) in
            let P : Way → Type 0 = λ x. IsWay arcs first root after (count + 1) u x in
            subst P (sym e) (record {
              above = above;
              below = below;
              from = sym same;
              place = omega arith;
              on = kept_on ways root v (arc_at arcs j).to.0 (Some new) leads.free leads.inner leads.on;
              earlier = omega (arith, rank_to (arc_at arcs j).to.0 leads.on, low (arc_at arcs j).to.0 leads.on);
            })
        | inr other ↦
            let was = are.each u w (sym (get_or-set_other ways v u (Some new) None other) ∙ is) in
            record {
              above = was.above;
              below = was.below;
              from = was.from;
              place = omega (arith, was.place);
              on = kept_on ways root v (arc_at arcs w.arc).to.0 (Some new) leads.free leads.inner was.on;
              earlier = omega (arith, rank_to (arc_at arcs w.arc).to.0 was.on, was.earlier);
            }
      ];
      bare = get_or-set_other ways v root (Some new) None (λ e. leads.inner (sym e)) ∙ are.bare;
    }

HaveFlow-marked : (arcs : List Arc) (flows : List ℤ) (ways : List (Option Way)) (count v j : ℕ) → HaveFlow flows ways → pos 0 <ℤ number_at flows j → v < length ways
    → HaveFlow flows (set ways v (Some (record { arc = j; place = count })))
HaveFlow-marked arcs flows ways count v j have some there u w is =
    let new : Way = record { arc = j; place = count } in
    elim (cases_eq u v) [
      | inl same ↦
          let e : w ≡ new = some_inj w new (sym is ∙ ap (way_at (set ways v (Some new))) same ∙ get_or-set_same ways v (Some new) None there) in
          let P : Way → Type 0 = λ x. pos 0 <ℤ number_at flows x.arc in
          subst P (sym e) some
      | inr other ↦ have u w (sym (get_or-set_other ways v u (Some new) None other) ∙ is)
    ]

pub unmarked_count-marked : (ways : List (Option Way)) (v : ℕ) (new : Way) → v < length ways → way_at ways v ≡ None → unmarked_count (set ways v (Some new)) + 1 ≡ unmarked_count ways
unmarked_count-marked [] v new there free = absurd (omega arith)
unmarked_count-marked (None ∷ ways) zero new there free = omega arith
unmarked_count-marked (Some w ∷ ways) zero new there free = absurd (cc)
unmarked_count-marked (None ∷ ways) (suc v) new there free = omega (arith, unmarked_count-marked ways v new (omega arith) free)
unmarked_count-marked (Some w ∷ ways) (suc v) new there free = unmarked_count-marked ways v new (omega arith) free

pub IsSpreading-marked : (arcs : List Arc) (flows : List ℤ) (first root : ℕ) (ways : List (Option Way)) (before place next j : ℕ) → IsSpreading arcs flows first root ways before place next
    → LeadsOn arcs flows root ways j → first ≤ j → j < length arcs → (arc_at arcs j).from.0 < length ways
    → IsSpreading arcs flows first root (set ways (arc_at arcs j).from.0 (Some (record { arc = j; place = place }))) before (place + 1) j
IsSpreading-marked arcs flows first root ways before place next j spreading leads above below there = record {
  marks = AreWays-marked arcs flows first root ways place j spreading.marks leads above below there;
  flow = HaveFlow-marked arcs flows ways place (arc_at arcs j).from.0 j spreading.flow leads.flow there;
  grown = omega (arith, spreading.grown);
  covered = λ same k from inside. absurd (omega (arith, same, spreading.grown));
}

unmarked_count-most : (ways : List (Option Way)) → unmarked_count ways ≤ length ways
unmarked_count-most [] = omega arith
unmarked_count-most (None ∷ ways) = omega (arith, unmarked_count-most ways)
unmarked_count-most (Some w ∷ ways) = omega (arith, unmarked_count-most ways)

pub unmarked_count-few : (ways : List (Option Way)) → 0 + unmarked_count ways ≤ length ways
unmarked_count-few ways = omega (arith, unmarked_count-most ways)

-- at first nothing is marked
none_marked : (ways : List (Option Way)) → ((k : ℕ) → k < length ways → way_at ways k ≡ None) → (v : ℕ) → way_at ways v ≡ None
none_marked ways none v = elim (cases_lt v (length ways)) [ inl within ↦ none v within | inr past ↦ get_or_past ways v None past ]

pub AreWays-none : (arcs : List Arc) (first root : ℕ) (ways : List (Option Way)) → ((k : ℕ) → k < length ways → way_at ways k ≡ None) → AreWays arcs first root ways 0
AreWays-none arcs first root ways none = record {
  each = λ v w is. absurd (none-some (way_at ways v) w (none_marked ways none v) is);
  bare = none_marked ways none root;
}

pub HaveFlow-none : (flows : List ℤ) (ways : List (Option Way)) → ((k : ℕ) → k < length ways → way_at ways k ≡ None) → HaveFlow flows ways
HaveFlow-none flows ways none v w is = absurd (none-some (way_at ways v) w (none_marked ways none v) is)
