-- Walks to the root, their least flow, and what it is to take an amount off them.
use Rattle.std.proofs.Common.{◌≡◌, ◌==◌, ◌≢◌, ℕ, ℤ, pos, ◌+ℤ◌, ◌-ℤ◌, ◌≤ℤ◌, ◌<ℤ◌, ◌+◌, ◌<◌, ◌≤◌, ◌⊎◌, List, length, set, Option, Some, None, arith, refl, ap, sym, subst, ◌∙◌, inl, inr, cond, Bool, true, false, get_or-set_same, get_or-set_other, zero, suc, negsuc, ◌-◌}
use Rattle.std.specs.Prelude.{nat_lt}
use Rattle.std.proofs.lemmas.Int.{ints}
use Rattle.std.proofs.lemmas.Bool.{cases_eq, cases_lt}
use Rattle.std.proofs.lemmas.Bool.Decides.{nat_tests}
use Rattle.std.proofs.Math.ListN.{length-set}
use Rattle.std.proofs.lemmas.List.{get_or_past}
use Rattle.bud_flow.specs.Sums.{number_at, sum_below}
use Rattle.bud_flow.proofs.SumLemmas.{sum_below-le}
use Rattle.residual.specs.Arcs.{arc_at, CarryAll}
use Rattle.residual.specs.Trims.{AreLess}
use Rattle.residual.specs.Walks.{way_at, IsMarked, rank_of, rank_at, AreWays, HaveFlow, OnWalk, stay, walk, CarryOnWalk, AreTakenOff, AreWalksTaken, IsWalkTaken, IsOpenStart, IsLower, IsTakenAnswer, flow_between, LoseAtMost, HasWalk}
use Rattle.residual.proofs.Changes.{excess_of-set}
use Rattle.residual.specs.declared.arcs.Arc.{Arc}
use Rattle.residual.specs.declared.walks.Way.{Way}

pub none-some : {A : Type 0} (o : Option A) (x : A) → o ≡ None → o ≡ Some x → ⊥
none-some o x none some = cc

pub some_inj : {A : Type 0} (x y : A) → Some x ≡ Some y → x ≡ y
some_inj x y e = cc

-- a node on the walk is its beginning, or lies on the walk from the node after
pub OnWalk-split : (arcs : List Arc) (ways : List (Option Way)) (node : ℕ) (w : Way) (v : ℕ) → way_at ways node ≡ Some w → OnWalk arcs ways node v → (v ≡ node) ⊎ OnWalk arcs ways (arc_at arcs w.arc).to.0 v
OnWalk-split arcs ways node w _ is stay = inl refl
OnWalk-split arcs ways node w _ is (walk u x on is_x) = elim (OnWalk-split arcs ways node w u is on) [
  | inl same ↦
      let e : x ≡ w = some_inj x w (sym is_x ∙ ap (way_at ways) same ∙ is) in
      let P : Way → Type 0 = λ y. OnWalk arcs ways (arc_at arcs w.arc).to.0 (arc_at arcs y.arc).to.0 in
      inr (subst P (sym e) stay)
  | inr behind ↦ inr (walk u x behind is_x)
]

-- a node without a way is the only one on its walk
pub OnWalk-end : (arcs : List Arc) (ways : List (Option Way)) (node v : ℕ) → way_at ways node ≡ None → OnWalk arcs ways node v → v ≡ node
OnWalk-end arcs ways node _ none stay = refl
OnWalk-end arcs ways node _ none (walk u x on is) = absurd (none-some (way_at ways u) x (ap (way_at ways) (OnWalk-end arcs ways node u none on) ∙ none) is)

-- a marked node has a place in the list
pub marked-within : (ways : List (Option Way)) (v : ℕ) → IsMarked ways v → v < length ways
marked-within ways v marked = elim (cases_lt v (length ways)) [
  | inl within ↦ within
  | inr past ↦ absurd (none-some (way_at ways v) marked.0 (get_or_past ways v None past) marked.1)
]

-- ---- the least flow
pub record CarryArc (flows : List ℤ) (ways : List (Option Way)) (amount : ℤ) (v : ℕ) : Type 0 where
  pub way : Way
  pub is : way_at ways v ≡ Some way
  pub carried : amount ≤ℤ number_at flows way.arc

pub record IsLeastAlong (arcs : List Arc) (flows : List ℤ) (ways : List (Option Way)) (root node : ℕ) (most least : ℤ) (at_node : ℕ) : Type 0 where
  pub on : OnWalk arcs ways node at_node
  pub open_end : (at_node ≡ root) ⊎ IsMarked ways at_node
  pub low : pos 0 ≤ℤ least
  pub positive : HaveFlow flows ways → pos 0 <ℤ least
  pub below : least ≤ℤ most
  pub carried : (v : ℕ) → OnWalk arcs ways node v → CarryArc flows ways least v ⊎ OnWalk arcs ways at_node v

pub IsLeastAlong-first : (arcs : List Arc) (flows : List ℤ) (ways : List (Option Way)) (root node : ℕ) (most least : ℤ) → IsMarked ways node → pos 0 <ℤ most → least ≡ most
    → IsLeastAlong arcs flows ways root node most least node
IsLeastAlong-first arcs flows ways root node most least marked positive is = record {
  on = stay;
  open_end = inr marked;
  low = omega (arith, ints, positive, is);
  positive = λ _. omega (arith, ints, positive, is);
  below = omega (arith, ints, is);
  carried = λ v on. inr on;
}

-- what is marked and isn't the root
pub marked_before : (ways : List (Option Way)) (root v : ℕ) → (v ≡ root) ⊎ IsMarked ways v → v ≢ root → IsMarked ways v
marked_before ways root v here differs = elim here [ inl same ↦ absurd (differs same) | inr marked ↦ marked ]

pub IsLeastAlong-more : (arcs : List Arc) (flows : List ℤ) (ways : List (Option Way)) (first root count node : ℕ) (most least less : ℤ) (v : ℕ) (w : Way) → AreWays arcs first root ways count → pos 0 ≤ℤ number_at flows w.arc
    → IsLeastAlong arcs flows ways root node most least v → way_at ways v ≡ Some w → less ≤ℤ least → less ≤ℤ number_at flows w.arc → (less ≡ least) ⊎ (less ≡ number_at flows w.arc)
    → IsLeastAlong arcs flows ways root node most less (arc_at arcs w.arc).to.0
IsLeastAlong-more arcs flows ways first root count node most least less v w are some so_far is below carried which = record {
  on = walk v w so_far.on is;
  open_end = (are.each v w is).on;
  low = elim which [ inl e ↦ omega (arith, ints, e, so_far.low) | inr e ↦ omega (arith, ints, e, some) ];
  positive = λ have. elim which [ inl e ↦ omega (arith, ints, e, so_far.positive have) | inr e ↦ omega (arith, ints, e, have v w is) ];
  below = omega (arith, ints, below, so_far.below);
  carried = λ u on. elim (so_far.carried u on) [
    | inl arc ↦ inl (record { way = arc.way; is = arc.is; carried = omega (arith, ints, below, arc.carried) })
    | inr ahead ↦ elim (OnWalk-split arcs ways v w u is ahead) [
      | inl same ↦ inl (record { way = w; is = ap (way_at ways) same ∙ is; carried = carried })
      | inr further ↦ inr further
    ]
  ];
}

pub CarryOnWalk-all : (arcs : List Arc) (flows : List ℤ) (ways : List (Option Way)) (root node : ℕ) (most least : ℤ) (v : ℕ) → way_at ways root ≡ None → v ≡ root
    → IsLeastAlong arcs flows ways root node most least v → CarryOnWalk arcs flows ways node least
CarryOnWalk-all arcs flows ways root node most least v bare at_root along u w on is = elim (along.carried u on) [
  | inl arc ↦
      let e : arc.way ≡ w = some_inj arc.way w (sym arc.is ∙ is) in
      let P : Way → Type 0 = λ x. least ≤ℤ number_at flows x.arc in
      subst P e arc.carried
  | inr ahead ↦
      let none : way_at ways v ≡ None = ap (way_at ways) at_root ∙ bare in
      absurd (none-some (way_at ways u) w (ap (way_at ways) (OnWalk-end arcs ways v u none ahead) ∙ none) is)
]

-- ranks fall on the walk
pub rank-falls : (arcs : List Arc) (ways : List (Option Way)) (first root count v : ℕ) (w : Way) → AreWays arcs first root ways count → way_at ways v ≡ Some w
    → rank_at ways (arc_at arcs w.arc).to.0 < rank_at ways v
rank-falls arcs ways first root count v w are is = omega (arith, (are.each v w is).earlier, ap rank_of is)

-- ---- what is taken off
nat_lt-yes : (a b : ℕ) → a < b → nat_lt a b ≡ true
nat_lt-yes a b less = grind (arith, nat_tests)

nat_lt-no : (a b : ℕ) → b ≤ a → nat_lt a b ≡ false
nat_lt-no a b more = grind (arith, nat_tests)

cond-least : (b : Bool) (amount : ℤ) → pos 0 ≤ℤ amount → pos 0 ≤ℤ cond b amount (pos 0)
cond-least true amount least = least
cond-least false amount least = omega (arith, ints)

cond-most : (b : Bool) (amount : ℤ) → pos 0 ≤ℤ amount → cond b amount (pos 0) ≤ℤ amount
cond-most true amount least = omega (arith, ints)
cond-most false amount least = least

cond-less : (b : Bool) (a : ℤ) → cond b (pos 0 -ℤ a) (pos 0) ≡ pos 0 -ℤ cond b a (pos 0)
cond-less true a = refl
cond-less false a = refl

pub AreTakenOff-none : (arcs : List Arc) (root : ℕ) (flows : List ℤ) (ways : List (Option Way)) (node : ℕ) (amount : ℤ) → IsMarked ways node → pos 0 ≤ℤ amount
    → AreTakenOff arcs root flows flows ways node amount node
AreTakenOff-none arcs root flows ways node amount marked least = record {
  less = record { size = refl; less = λ j. omega (arith, ints); least = λ j here. here };
  kept = λ j no. refl;
  rest = λ j. omega (arith, ints, cond-least (nat_lt (rank_at ways node) (rank_at ways (arc_at arcs j).from.0)) amount least);
  excess = λ v. omega (arith, ints);
  on = stay;
  open_end = inr marked;
}

-- the next arc of the walk still carries the amount
pub carried-next : (arcs : List Arc) (root : ℕ) (old mid : List ℤ) (ways : List (Option Way)) (first count node : ℕ) (amount : ℤ) (v : ℕ) (w : Way) → AreWays arcs first root ways count
    → CarryOnWalk arcs old ways node amount → AreTakenOff arcs root old mid ways node amount v → way_at ways v ≡ Some w → amount ≤ℤ number_at mid w.arc
carried-next arcs root old mid ways first count node amount v w are carried taken is =
    let one = are.each v w is in
    let same_rank : rank_at ways (arc_at arcs w.arc).from.0 ≡ rank_at ways v = ap (rank_at ways) one.from in
    let nothing : cond (nat_lt (rank_at ways v) (rank_at ways (arc_at arcs w.arc).from.0)) amount (pos 0) ≡ pos 0 = ap (λ b. cond b amount (pos 0)) (nat_lt-no _ _ (omega (arith, same_rank))) in
    omega (arith, ints, carried v w taken.on is, taken.rest w.arc, nothing)

pub AreTakenOff-more : (arcs : List Arc) (root : ℕ) (old mid new : List ℤ) (ways : List (Option Way)) (first count node : ℕ) (amount told : ℤ) (v : ℕ) (w : Way) → AreWays arcs first root ways count
    → length old ≡ length arcs → pos 0 ≤ℤ amount → CarryOnWalk arcs old ways node amount → AreTakenOff arcs root old mid ways node amount v → way_at ways v ≡ Some w → told ≡ pos 0 -ℤ amount
    → new ≡ set mid w.arc (number_at mid w.arc +ℤ told) → AreTakenOff arcs root old new ways node amount (arc_at arcs w.arc).to.0
AreTakenOff-more arcs root old mid new ways first count node amount told v w are sizes least carried taken is is_told is_new =
    let one = are.each v w is in
    let j0 : ℕ = w.arc in
    let u : ℕ = (arc_at arcs j0).to.0 in
    let there : j0 < length mid = omega (arith, one.below, sizes, taken.less.size) in
    let after : List ℤ = set mid j0 (number_at mid j0 +ℤ told) in
    let here_is : number_at after j0 ≡ number_at mid j0 +ℤ told = get_or-set_same mid j0 (number_at mid j0 +ℤ told) (pos 0) there in
    let other_is : (j : ℕ) → j ≢ j0 → number_at after j ≡ number_at mid j = λ j differs. get_or-set_other mid j0 j (number_at mid j0 +ℤ told) (pos 0) differs in
    let enough = carried-next arcs root old mid ways first count node amount v w are carried taken is in
    let falls = rank-falls arcs ways first root count v w are is in
    let same_rank : rank_at ways (arc_at arcs j0).from.0 ≡ rank_at ways v = ap (rank_at ways) one.from in
    let whole : AreTakenOff arcs root old after ways node amount u = record {
      less = record {
        size = length-set mid j0 _ ∙ taken.less.size;
        less = λ j. elim (cases_eq j j0) [
          | inl same ↦ rw same (omega (arith, ints, here_is, is_told, least, taken.less.less j0))
          | inr differs ↦ omega (arith, ints, other_is j differs, taken.less.less j)
        ];
        least = λ j was. elim (cases_eq j j0) [
          | inl same ↦ rw same (omega (arith, ints, here_is, is_told, enough))
          | inr differs ↦ omega (arith, ints, other_is j differs, taken.less.least j was)
        ];
      };
      kept = λ j no. other_is j (λ e. no v w is (sym e)) ∙ taken.kept j no;
      rest = λ j. elim (cases_eq j j0) [
        | inl same ↦
            let rank_j : rank_at ways (arc_at arcs j).from.0 ≡ rank_at ways v = ap (λ k. rank_at ways (arc_at arcs k).from.0) same ∙ same_rank in
            let before : cond (nat_lt (rank_at ways v) (rank_at ways (arc_at arcs j).from.0)) amount (pos 0) ≡ pos 0 = ap (λ b. cond b amount (pos 0)) (nat_lt-no _ _ (omega (arith, rank_j))) in
            let now : cond (nat_lt (rank_at ways u) (rank_at ways (arc_at arcs j).from.0)) amount (pos 0) ≡ amount = ap (λ b. cond b amount (pos 0)) (nat_lt-yes _ _ (omega (arith, rank_j, falls))) in
            omega (arith, ints, taken.rest j, before, now, ap (number_at after) same, ap (number_at mid) same, here_is, is_told)
        | inr differs ↦ elim (cases_lt (rank_at ways v) (rank_at ways (arc_at arcs j).from.0)) [
          | inl behind ↦
              let before : cond (nat_lt (rank_at ways v) (rank_at ways (arc_at arcs j).from.0)) amount (pos 0) ≡ amount = ap (λ b. cond b amount (pos 0)) (nat_lt-yes _ _ behind) in
              let now : cond (nat_lt (rank_at ways u) (rank_at ways (arc_at arcs j).from.0)) amount (pos 0) ≡ amount = ap (λ b. cond b amount (pos 0)) (nat_lt-yes _ _ (omega (arith, behind, falls))) in
              omega (arith, ints, taken.rest j, before, now, other_is j differs)
          | inr ahead ↦
              let before : cond (nat_lt (rank_at ways v) (rank_at ways (arc_at arcs j).from.0)) amount (pos 0) ≡ pos 0 = ap (λ b. cond b amount (pos 0)) (nat_lt-no _ _ ahead) in
              omega (arith, ints, taken.rest j, before, cond-least (nat_lt (rank_at ways u) (rank_at ways (arc_at arcs j).from.0)) amount least, other_is j differs)
        ]
      ];
      excess = λ x.
          let step = excess_of-set arcs mid j0 told x one.below (taken.less.size ∙ sizes) in
          let from_is : cond ((arc_at arcs j0).from.0 == x) told (pos 0) ≡ pos 0 -ℤ cond (v == x) amount (pos 0)
          = ap (λ t. cond (t == x) told (pos 0)) one.from ∙ ap (λ a. cond (v == x) a (pos 0)) is_told ∙ cond-less (v == x) amount in
          let to_is : cond (u == x) told (pos 0) ≡ pos 0 -ℤ cond (u == x) amount (pos 0) = ap (λ a. cond (u == x) a (pos 0)) is_told ∙ cond-less (u == x) amount in
          omega (arith, ints, step, from_is, to_is, taken.excess x);
      on = walk v w taken.on is;
      open_end = one.on;
    } in
    let P : List ℤ → Type 0 = λ fs. AreTakenOff arcs root old fs ways node amount u in
    subst P (sym is_new) whole

-- a walk and its start's arc, taken off together, leave all excess as it was
pub IsWalkTaken-whole : (arcs : List Arc) (root first start : ℕ) (old mid new : List ℤ) (ways : List (Option Way)) (count : ℕ) (amount told : ℤ) → AreWays arcs first root ways count
    → length old ≡ length arcs → start < length arcs → first ≤ start → (arc_at arcs start).from.0 ≡ root → pos 0 ≤ℤ amount → (HaveFlow old ways → pos 0 <ℤ amount) → amount ≤ℤ number_at old start
    → AreTakenOff arcs root old mid ways (arc_at arcs start).to.0 amount root → told ≡ pos 0 -ℤ amount → new ≡ set mid start (number_at mid start +ℤ told) → IsWalkTaken arcs first start ways old new
IsWalkTaken-whole arcs root first start old mid new ways count amount told are sizes within above from least positive most taken is_told is_new =
    let there : start < length mid = omega (arith, within, sizes, taken.less.size) in
    let after : List ℤ = set mid start (number_at mid start +ℤ told) in
    let no_way : (v : ℕ) (w : Way) → way_at ways v ≡ Some w → w.arc ≢ start = λ v w is e.
    let at_root : v ≡ root = sym (are.each v w is).from ∙ ap (λ j. (arc_at arcs j).from.0) e ∙ from in
    none-some (way_at ways root) w are.bare (ap (way_at ways) (sym at_root) ∙ is) in
    let start_kept : number_at mid start ≡ number_at old start = taken.kept start no_way in
    let here_is : number_at after start ≡ number_at mid start +ℤ told = get_or-set_same mid start (number_at mid start +ℤ told) (pos 0) there in
    let other_is : (j : ℕ) → j ≢ start → number_at after j ≡ number_at mid j = λ j differs. get_or-set_other mid start j (number_at mid start +ℤ told) (pos 0) differs in
    let whole : IsWalkTaken arcs first start ways old after = record {
      taken = record {
        less = record {
          size = length-set mid start _ ∙ taken.less.size;
          less = λ j. elim (cases_eq j start) [
            | inl same ↦ rw same (omega (arith, ints, here_is, is_told, least, start_kept))
            | inr differs ↦ omega (arith, ints, other_is j differs, taken.less.less j)
          ];
          least = λ j was. elim (cases_eq j start) [
            | inl same ↦ rw same (omega (arith, ints, here_is, is_told, most, start_kept))
            | inr differs ↦ omega (arith, ints, other_is j differs, taken.less.least j was)
          ];
        };
        kept = λ j below. other_is j (λ e. omega (arith, e, below, above)) ∙ taken.kept j (λ v w is e. omega (arith, e, below, (are.each v w is).above));
        excess = λ x.
            let step = excess_of-set arcs mid start told x within (taken.less.size ∙ sizes) in
            let from_is : cond ((arc_at arcs start).from.0 == x) told (pos 0) ≡ pos 0 -ℤ cond (root == x) amount (pos 0)
            = ap (λ t. cond (t == x) told (pos 0)) from ∙ ap (λ a. cond (root == x) a (pos 0)) is_told ∙ cond-less (root == x) amount in
            let to_is : cond ((arc_at arcs start).to.0 == x) told (pos 0) ≡ pos 0 -ℤ cond ((arc_at arcs start).to.0 == x) amount (pos 0)
            = ap (λ a. cond ((arc_at arcs start).to.0 == x) a (pos 0)) is_told ∙ cond-less ((arc_at arcs start).to.0 == x) amount in
            omega (arith, ints, step, from_is, to_is, taken.excess x);
      };
      once = λ j. elim (cases_eq j start) [
        | inl same ↦ rw same (omega (arith, ints))
        | inr differs ↦
            omega (
              arith,
              ints,
              here_is,
              is_told,
              start_kept,
              other_is j differs,
              taken.rest j,
              cond-most (nat_lt (rank_at ways root) (rank_at ways (arc_at arcs j).from.0)) amount least,
            )
      ];
      lower = λ have. omega (arith, ints, here_is, is_told, positive have, start_kept);
    } in
    let P : List ℤ → Type 0 = λ fs. IsWalkTaken arcs first start ways old fs in
    subst P (sym is_new) whole

-- ---- several walks
pub AreLess-same : (flows : List ℤ) → AreLess flows flows
AreLess-same flows = record { size = refl; less = λ j. omega (arith, ints); least = λ j here. here }

pub AreLess-more : (old mid new : List ℤ) → AreLess old mid → AreLess mid new → AreLess old new
AreLess-more old mid new one two = record {
  size = two.size ∙ one.size;
  less = λ j. omega (arith, ints, one.less j, two.less j);
  least = λ j here. two.least j (one.least j here);
}

pub AreWalksTaken-same : (arcs : List Arc) (first : ℕ) (flows : List ℤ) → AreWalksTaken arcs first flows flows
AreWalksTaken-same arcs first flows = record { less = AreLess-same flows; kept = λ j below. refl; excess = λ v. refl }

pub AreWalksTaken-more : (arcs : List Arc) (first : ℕ) (old mid new : List ℤ) → AreWalksTaken arcs first old mid → AreWalksTaken arcs first mid new → AreWalksTaken arcs first old new
AreWalksTaken-more arcs first old mid new one two = record {
  less = AreLess-more old mid new one.less two.less;
  kept = λ j below. two.kept j below ∙ one.kept j below;
  excess = λ v. two.excess v ∙ one.excess v;
}

pub CarryAll-less : (arcs : List Arc) (old new : List ℤ) → CarryAll arcs old → AreLess old new → CarryAll arcs new
CarryAll-less arcs old new carried less j below =
    let was = carried j below in
    record { least = less.least j was.least; most = omega (arith, ints, less.less j, was.most); limit = was.limit; cost = was.cost }

pub IsTakenAnswer-none : (arcs : List Arc) (ways : List (Option Way)) (from : ℕ) (flows : List ℤ) → IsTakenAnswer arcs ways from from flows flows false
IsTakenAnswer-none arcs ways from flows = (refl, λ j above below some. absurd (omega (arith, above, below)))

pub IsTakenAnswer-skip : (arcs : List Arc) (ways : List (Option Way)) (from start : ℕ) (old new : List ℤ) (b : Bool) → IsTakenAnswer arcs ways from start old new b
    → (pos 0 <ℤ number_at new start → way_at ways (arc_at arcs start).to.0 ≡ None) → IsTakenAnswer arcs ways from (start + 1) old new b
IsTakenAnswer-skip arcs ways from start old new true answer none = record { start = answer.start; above = answer.above; below = omega (arith, answer.below); was_open = answer.was_open; lower = answer.lower }
IsTakenAnswer-skip arcs ways from start old new false answer none = (
  answer.0,
  λ j above below some. elim (cases_lt j start) [
    | inl before ↦ answer.1 j above before some
    | inr past ↦
        let e : j ≡ start = omega (arith, below, past) in
        let P : ℕ → Type 0 = λ k. pos 0 <ℤ number_at new k → way_at ways (arc_at arcs k).to.0 ≡ None in
        subst P (sym e) none some
  ],
)

pub IsTakenAnswer-take : (arcs : List Arc) (first : ℕ) (ways : List (Option Way)) (from start : ℕ) (old mid new : List ℤ) (b : Bool) → HaveFlow old ways → from ≤ start → AreWalksTaken arcs first old mid
    → IsTakenAnswer arcs ways from start old mid b → IsOpenStart arcs mid ways start → IsWalkTaken arcs first start ways mid new → IsTakenAnswer arcs ways from (start + 1) old new true
IsTakenAnswer-take arcs first ways from start old mid new true have above so_far answer is_open walked =
    record { start = answer.start; above = answer.above; below = omega (arith, answer.below); was_open = answer.was_open; lower = omega (arith, ints, answer.lower, walked.taken.less.less answer.start) }
IsTakenAnswer-take arcs first ways from start old mid new false have above so_far answer is_open walked =
    let P : List ℤ → Type 0 = λ fs. HaveFlow fs ways in
    let Q : List ℤ → Type 0 = λ fs. IsOpenStart arcs fs ways start in
    let lower = walked.lower (subst P (sym answer.0) have) in
    record { start = start; above = above; below = omega arith; was_open = subst Q answer.0 is_open; lower = omega (arith, ints, lower, so_far.less.less start) }

-- ---- the flows of starts together fall
pub sum_below-least : (n : ℕ) (f : ℕ → ℤ) → ((j : ℕ) → j < n → pos 0 ≤ℤ f j) → pos 0 ≤ℤ sum_below n f
sum_below-least zero f least = omega (arith, ints)
sum_below-least (suc n) f least = omega (arith, ints, sum_below-least n f (λ j below. least j (omega (arith, below))), least n (omega arith))

sum_below-lower : (n k : ℕ) (f g : ℕ → ℤ) → ((j : ℕ) → j < n → g j ≤ℤ f j) → k < n → g k <ℤ f k → sum_below n g <ℤ sum_below n f
sum_below-lower zero k f g less within lower = absurd (omega arith)
sum_below-lower (suc n) k f g less within lower = elim (cases_lt k n) [
  | inl before ↦ omega (arith, ints, sum_below-lower n k f g (λ j below. less j (omega (arith, below))) before lower, less n (omega arith))
  | inr last ↦
      let e : k ≡ n = omega (arith, within, last) in
      let P : ℕ → Type 0 = λ m. g m <ℤ f m in
      omega (arith, ints, sum_below-le n g f (λ j below. less j (omega (arith, below))), subst P e lower)
]

-- a number that isn't below 0
abbrev pub size_of : ℤ → ℕ
size_of (pos n) = n
size_of (negsuc n) = 0

size_of-lower : (a b : ℤ) → pos 0 ≤ℤ a → a <ℤ b → size_of a < size_of b
size_of-lower (pos a) (pos b) least lower = omega (arith, ints, lower)
size_of-lower (pos a) (negsuc b) least lower = absurd (omega (arith, ints, lower))
size_of-lower (negsuc a) b least lower = absurd (omega (arith, ints, least))

pub IsLower-smaller : (arcs : List Arc) (ways : List (Option Way)) (from to : ℕ) (old new : List ℤ) → CarryAll arcs new → to ≤ length arcs → from ≤ to → AreLess old new → IsLower arcs ways from to old new
    → size_of (flow_between from to new) < size_of (flow_between from to old)
IsLower-smaller arcs ways from to old new carried inside order less lower =
    let e : from + (lower.start - from) ≡ lower.start = omega (arith, lower.above) in
    let P : ℕ → Type 0 = λ k. number_at new k <ℤ number_at old k in
    size_of-lower _ _ (sum_below-least (to - from) _ (λ k below. (carried (from + k) (omega (arith, below, inside, order))).least))
    (sum_below-lower (to - from) (lower.start - from) (λ k. number_at old (from + k)) (λ k. number_at new (from + k)) (λ k below. less.less (from + k)) (omega (arith, lower.above, lower.below)) (subst P (sym e) lower.lower))

-- flows are as they were, or there was a walk
pub kept-more : (arcs : List Arc) (first root from to count : ℕ) (ways : List (Option Way)) (old mid new : List ℤ) → (mid ≡ old) ⊎ HasWalk arcs old first root from to → AreWays arcs first root ways count
    → HaveFlow mid ways → IsLower arcs ways from to mid new → (new ≡ old) ⊎ HasWalk arcs old first root from to
kept-more arcs first root from to count ways old mid new so_far marks have lower = elim so_far [
  | inr before ↦ inr before
  | inl same ↦
      let P : List ℤ → Type 0 = λ fs. HaveFlow fs ways in
      let Q : List ℤ → Type 0 = λ fs. IsOpenStart arcs fs ways lower.start in
      inr (record { ways = ways; count = count; marks = marks; flow = subst P same have; start = lower.start; above = lower.above; below = lower.below; open_start = subst Q same lower.was_open })
]

-- ---- what arcs have lost
sum_below-fallen : (n k : ℕ) (d : ℤ) (f g : ℕ → ℤ) → ((j : ℕ) → j < n → g j ≤ℤ f j) → k < n → (g k +ℤ d) ≤ℤ f k → (sum_below n g +ℤ d) ≤ℤ sum_below n f
sum_below-fallen zero k d f g less within fallen = absurd (omega arith)
sum_below-fallen (suc n) k d f g less within fallen = elim (cases_lt k n) [
  | inl before ↦ omega (arith, ints, sum_below-fallen n k d f g (λ j below. less j (omega (arith, below))) before fallen, less n (omega arith))
  | inr last ↦
      let e : k ≡ n = omega (arith, within, last) in
      let P : ℕ → Type 0 = λ m. (g m +ℤ d) ≤ℤ f m in
      omega (arith, ints, sum_below-le n g f (λ j below. less j (omega (arith, below))), subst P e fallen)
]

pub LoseAtMost-none : (from to : ℕ) (flows : List ℤ) → LoseAtMost from to flows flows
LoseAtMost-none from to flows j = omega (arith, ints)

pub LoseAtMost-more : (from to : ℕ) (old mid new : List ℤ) → LoseAtMost from to old mid → LoseAtMost from to mid new → LoseAtMost from to old new
LoseAtMost-more from to old mid new one two j = omega (arith, ints, one j, two j)

pub LoseAtMost-walk : (arcs : List Arc) (first start from to : ℕ) (ways : List (Option Way)) (old new : List ℤ) → from ≤ start → start < to → IsWalkTaken arcs first start ways old new
    → LoseAtMost from to old new
LoseAtMost-walk arcs first start from to ways old new above below walked j =
    let e : from + (start - from) ≡ start = omega (arith, above) in
    let P : ℕ → Type 0 = λ k. (number_at new k +ℤ (number_at old start -ℤ number_at new start)) ≤ℤ number_at old k in
    let at_start : P start = omega (arith, ints) in
    let fallen : (flow_between from to new +ℤ (number_at old start -ℤ number_at new start)) ≤ℤ flow_between from to old =
    sum_below-fallen (to - from) (start - from) (number_at old start -ℤ number_at new start) (λ k. number_at old (from + k)) (λ k. number_at new (from + k)) (λ k _. walked.taken.less.less (from + k))
    (omega (arith, above, below)) (subst P (sym e) at_start) in
    omega (arith, ints, fallen, walked.once j)
