-- One pin more on a way up, and the ways at whose end it stops.
use Rattle.std.specs.Prelude.{zero, suc}
use Rattle.std.specs.List.{Contains, AllPairs, All, IsDistinct, list_any}
use Rattle.std.proofs.Common.{◌≡◌, ◌≢◌, ℕ, ◌+◌, ◌-◌, ◌<◌, ◌≤◌, ◌⊎◌, Bool, true, false, cond, eqb, List, [], ◌∷◌, ◌++◌, Option, Some, None, refl, sym, ap, subst, ◌∙◌, inl, inr, arith, length, map, get_or, set, get_or-set_same, get_or-set_other, count_by}
use Rattle.std.proofs.lemmas.Bool.{cases_eq, cases_lt, cond-true, cond-false, ne_eqb}
use Rattle.std.proofs.lemmas.List.{length-set, length_push, get_or_append_left, get_or_push, length-map}
use Rattle.std.proofs.lemmas.List.Elements.{All-map, All-contains, All-push, recursion_from_All}
use Rattle.std.proofs.lemmas.List.Quantifiers.{all_pairs_push}
use Rattle.net_delays.proofs.ForestLemmas.{settled_leads, within_from_settled}
use Rattle.std.proofs.lemmas.List.Sums.{sum_by-set}
use Rattle.std.proofs.lemmas.Bool.Decides.{Decides-eqb}
use Rattle.std.proofs.lemmas.Map.Steps.{length-le_from_distinct_below}
use Rattle.std.proofs.lemmas.Map.Views.{Contains-from_any, exact_unsigned_eq}
use Rattle.bud_base.specs.declared.ids.PinId.{PinId}
use Rattle.net_delays.specs.Drives.{back, Leads}
use Rattle.net_delays.specs.Forests.{mark_at, is_new, IsSettled, spot_at, IsApart, AreSettled}
use Rattle.net_delays.specs.Climbs.{pin_on, AreAlike, IsPath, IsTop, IsClimbed, AreClosed}
use Rattle.net_delays.specs.declared.forests.Mark.{Mark}
use Rattle.net_delays.specs.declared.forests.Mark.TheVariants.{New, Open, Settled}

-- a new pin that is marked leaves one new pin less
pub count_new-less : (marks : List Mark) (v : ℕ) (mark : Mark) → v < length marks → mark_at marks v ≡ New → is_new mark ≡ false → count_by is_new marks ≡ count_by is_new (set marks v mark) + 1
count_new-less marks v mark within new marked =
    let before : cond {A = ℕ} (is_new (mark_at marks v)) 1 0 ≡ 1 = cond-true (is_new (mark_at marks v)) 1 0 (ap is_new new) in
    let after : cond {A = ℕ} (is_new mark) 1 0 ≡ 0 = cond-false (is_new mark) 1 0 marked in
    let counted : count_by is_new (set marks v mark) + cond (is_new (mark_at marks v)) 1 0 ≡ count_by is_new marks + cond (is_new mark) 1 0
    = sum_by-set (λ m. cond (is_new m) 1 0) marks v mark New within in
    omega arith

-- how far a climb has come: the pin is the next one
pub record IsClimbing (drive : ℕ → Option ℕ) (before marks : List Mark) (path : List PinId) (start pin : ℕ) : Type 0 where
  pub size : length marks ≡ length before
  pub alike : AreAlike before marks
  pub path_is : IsPath drive (length before) marks path (length path)
  pub new : mark_at marks pin ≡ New
  pub within : pin < length marks
  pub last : (k : ℕ) → k + 1 ≡ length path → drive (pin_on path k) ≡ Some pin
  pub first : 0 < length path → pin_on path 0 ≡ start
  pub begun : length path ≡ 0 → pin ≡ start
  pub count : length path + count_by is_new marks ≤ length marks

pin_on-before : (path : List PinId) (pin : PinId) (k : ℕ) → k < length path → pin_on (path ++ pin ∷ []) k ≡ pin_on path k
pin_on-before path pin k below = ap (λ (u : PinId). u.0) (get_or_append_left path (pin ∷ []) (record { 0 = 0 }) k below)

pin_on-last : (path : List PinId) (pin : PinId) (k : ℕ) → length path ≡ k → pin_on (path ++ pin ∷ []) k ≡ pin.0
pin_on-last path pin k is = ap (λ (u : PinId). u.0) (get_or_push path pin (record { 0 = 0 }) k is)

new_is_unsettled : (mark : Mark) → mark ≡ New → IsSettled mark → ⊥
new_is_unsettled mark new settled = subst IsSettled new settled

-- what a climb has behind the pin that was marked
pub record IsMarked (drive : ℕ → Option ℕ) (before marks : List Mark) (path : List PinId) (start last : ℕ) : Type 0 where
  pub size : length marks ≡ length before
  pub alike : AreAlike before marks
  pub path_is : IsPath drive (length before) marks path (length path)
  pub first : pin_on path 0 ≡ start
  pub last_is : length path ≡ last + 1
  pub count : length path + count_by is_new marks ≤ length marks

-- the next pin is marked
pub IsMarked-more : (drive : ℕ → Option ℕ) (before marks : List Mark) (path : List PinId) (start : ℕ) (pin : PinId)
    → IsClimbing drive before marks path start pin.0 → IsMarked drive before (set marks pin.0 (Open (length path))) (path ++ pin ∷ []) start (length path)
IsMarked-more drive before marks path start pin so_far =
    let here : mark_at (set marks pin.0 (Open (length path))) pin.0 ≡ Open (length path) = get_or-set_same marks pin.0 (Open (length path)) New so_far.within in
    let other : (w : ℕ) → w ≢ pin.0 → mark_at (set marks pin.0 (Open (length path))) w ≡ mark_at marks w
    = λ w differs. get_or-set_other marks pin.0 w (Open (length path)) New differs in
    let fewer = count_new-less marks pin.0 (Open (length path)) so_far.within so_far.new refl in
    record {
      size = length-set marks pin.0 (Open (length path)) ∙ so_far.size;
      alike = record {
        kept = λ w settled.
            other w (λ same. new_is_unsettled (mark_at marks w) (ap (mark_at marks) same ∙ so_far.new) (subst IsSettled (sym (so_far.alike.kept w settled)) settled))
            ∙ so_far.alike.kept w settled;
        none = λ w settled. elim (cases_eq w pin.0) [
          | inl same ↦ absurd (subst IsSettled (ap (mark_at (set marks pin.0 (Open (length path)))) same ∙ here) settled)
          | inr differs ↦ other w differs ∙ so_far.alike.none w (subst IsSettled (other w differs) settled)
        ];
      };
      path_is = record {
        marked = λ k below. elim (cases_eq k (length path)) [
          | inl same ↦ ap (mark_at (set marks pin.0 (Open (length path)))) (pin_on-last path pin k (sym same)) ∙ (here ∙ ap (λ n. Open n) (sym same))
          | inr differs ↦
              let less : k < length path = (let size = length_push path pin in omega arith) in
              ap (mark_at (set marks pin.0 (Open (length path)))) (pin_on-before path pin k less)
              ∙ (other (pin_on path k) (λ same.
              let clash : Open k ≡ New = sym (so_far.path_is.marked k less) ∙ (ap (mark_at marks) same ∙ so_far.new) in
              cc)
              ∙ so_far.path_is.marked k less)
        ];
        on = λ w k is_open. elim (cases_eq w pin.0) [
          | inl same ↦
              let number : Open (length path) ≡ Open k = sym here ∙ (sym (ap (mark_at (set marks pin.0 (Open (length path)))) same) ∙ is_open) in
              let place : length path ≡ k = cc in
              (let size = length_push path pin in omega arith, pin_on-last path pin k place ∙ sym same)
          | inr differs ↦
              let found = so_far.path_is.on w k (sym (other w differs) ∙ is_open) in
              (let size = length_push path pin in omega (arith, found.0), pin_on-before path pin k found.0 ∙ found.1)
        ];
        chain = λ k below.
            let size = length_push path pin in
            let first : pin_on (path ++ pin ∷ []) k ≡ pin_on path k = pin_on-before path pin k (omega arith) in
            elim (cases_eq (k + 1) (length path)) [
              | inl same ↦ ap drive first ∙ (so_far.last k same ∙ ap (λ u. Some u) (sym (pin_on-last path pin (k + 1) (sym same))))
              | inr differs ↦
                  let less : k + 1 < length path = omega arith in
                  ap drive first ∙ (so_far.path_is.chain k less ∙ ap (λ u. Some u) (sym (pin_on-before path pin (k + 1) less)))
            ];
        within = λ k below. elim (cases_eq k (length path)) [
          | inl same ↦ rw (pin_on-last path pin k (sym same)) (omega (arith, so_far.within, so_far.size))
          | inr differs ↦
              let size = length_push path pin in
              let less : k < length path = omega arith in
              rw (pin_on-before path pin k less) (so_far.path_is.within k less)
        ];
      };
      first = elim (cases_eq (length path) 0) [
        | inl none ↦ pin_on-last path pin 0 none ∙ so_far.begun none
        | inr some ↦ pin_on-before path pin 0 (omega arith) ∙ so_far.first (omega arith)
      ];
      last_is = length_push path pin;
      count = (let size = length_push path pin in let sizes = length-set marks pin.0 (Open (length path)) in omega (arith, so_far.count, fewer));
    }

-- the climb goes on at the driver of the pin that was marked
pub IsClimbing-more : (drive : ℕ → Option ℕ) (before marks : List Mark) (path : List PinId) (start last pin next : ℕ) → pin_on path last ≡ pin → drive pin ≡ Some next → next < length marks → mark_at marks next ≡ New
    → IsMarked drive before marks path start last → IsClimbing drive before marks path start next
IsClimbing-more drive before marks path start last pin next is driven within new so_far = record {
  size = so_far.size;
  alike = so_far.alike;
  path_is = so_far.path_is;
  new = new;
  within = within;
  last = λ k ends. (let same : k ≡ last = omega (arith, so_far.last_is) in ap drive (ap (pin_on path) same ∙ is) ∙ driven);
  first = λ some. so_far.first;
  begun = λ none. absurd (omega (arith, so_far.last_is));
  count = so_far.count;
}

pub IsClimbed-end : (drive : ℕ → Option ℕ) (before marks : List Mark) (path : List PinId) (start last pin place : ℕ) → pin_on path last ≡ pin → IsTop drive marks path last place (drive pin)
    → IsMarked drive before marks path start last → IsClimbed drive before marks path start place
IsClimbed-end drive before marks path start last pin place is top so_far = record {
  size = so_far.size;
  alike = so_far.alike;
  path_is = so_far.path_is;
  some = omega (arith, so_far.last_is);
  first = so_far.first;
  last = last;
  last_is = so_far.last_is;
  top = subst (λ v. IsTop drive marks path last place (drive v)) (sym is) top;
}

-- the climb begins
pub IsClimbing-none : (drive : ℕ → Option ℕ) (marks : List Mark) (start : ℕ) → start < length marks → mark_at marks start ≡ New → AreClosed marks → count_by is_new marks ≤ length marks
    → IsClimbing drive marks marks [] start start
IsClimbing-none drive marks start within new closed count = record {
  size = refl;
  alike = record { kept = λ v settled. refl; none = λ v settled. refl };
  path_is = record {
    marked = λ k below. absurd (omega (arith, below));
    on = λ v k is_open. absurd (closed v k is_open);
    chain = λ k below. absurd (omega (arith, below));
    within = λ k below. absurd (omega (arith, below));
  };
  new = new;
  within = within;
  last = λ k ends. absurd (omega (arith, ends));
  first = λ some. absurd (omega (arith, some));
  begun = λ none. refl;
  count = omega (arith, count);
}

-- the same by what a push leaves
pub IsMarked-push : (drive : ℕ → Option ℕ) (before marks : List Mark) (path items : List PinId) (start place : ℕ) (pin : PinId) → items ≡ path ++ pin ∷ [] → place ≡ length path
    → IsClimbing drive before marks path start pin.0 → IsMarked drive before (set marks pin.0 (Open place)) items start place
IsMarked-push drive before marks path items start place pin pushed number so_far = rw (pushed, number) (IsMarked-more drive before marks path start pin so_far)

pub pin_on-push : (path items : List PinId) (place : ℕ) (pin : PinId) → items ≡ path ++ pin ∷ [] → place ≡ length path → pin_on items place ≡ pin.0
pin_on-push path items place pin pushed number = rw pushed (pin_on-last path pin place (sym number))

-- pins that are apart are no more than there are
distinct : (order : List PinId) → AllPairs (λ (u v : PinId). u.0 ≡ v.0 → ⊥) order → IsDistinct eqb (map (λ (u : PinId). u.0) order)
unfolding IsDistinct
distinct [] apart = tt
distinct (u ∷ us) apart = (
  recursion_from_All (λ y. eqb u.0 y ≡ false) (map (λ (w : PinId). w.0) us)
      (All-map (λ y. eqb u.0 y ≡ false) (λ (w : PinId). w.0) us (λ k d below. ne_eqb u.0 (get_or us k d).0 (apart 0 (suc k) d (omega arith) (omega (arith, below))))),
  distinct us (λ i j d less below. apart (suc i) (suc j) d (omega (arith, less)) (omega (arith, below))),
)

pub length-le_from_apart : (drive : ℕ → Option ℕ) (order : List PinId) (n : ℕ) → AllPairs (IsApart drive) order → All (λ (v : PinId). v.0 < n) order → length order ≤ n
length-le_from_apart drive order n apart within =
    let pins : List ℕ = map (λ (u : PinId). u.0) order in
    let few = length-le_from_distinct_below pins n (distinct order (λ i j d less below. (apart i j d less below).other))
    (λ q any. All-contains (λ x. x < n) pins q (All-map (λ x. x < n) (λ (u : PinId). u.0) order within) (Contains-from_any exact_unsigned_eq q pins any)) in
    omega (arith, length-map order (λ (u : PinId). u.0))

-- a pin that isn't settled leaves room below the number of pins
pub few_below : (drive : ℕ → Option ℕ) (marks : List Mark) (order : List PinId) (v : ℕ) → v < length marks → (IsSettled (mark_at marks v) → ⊥) → AreSettled drive marks order → length order + 1 ≤ length marks
few_below drive marks order v within new so_far =
    let size = length_push order (record { 0 = v }) in
    let few = length-le_from_apart drive (order ++ record { 0 = v } ∷ []) (length marks)
    (all_pairs_push (IsApart drive) order (record { 0 = v }) so_far.listed.apart (λ k d below. record {
      other = λ same. new (subst (λ x. IsSettled (mark_at marks x)) same (so_far.listed.low k d below).settled);
      free = λ way. new (settled_leads drive marks so_far.placed (get_or order k d).0 v way (so_far.listed.low k d below).settled);
    }))
    (All-push (λ (u : PinId). u.0 < length marks) order (record { 0 = v })
    (λ k d below. within_from_settled marks (get_or order k d).0 (so_far.listed.low k d below).settled) within) in
    omega arith
