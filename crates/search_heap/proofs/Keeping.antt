-- The fields of a search after each call.
use Rattle.std.proofs.Common.{◌≡◌, ℕ, ℤ, ◌+◌, ◌-◌, ◌<◌, ◌≤◌, List, length, set, take, Option, Some, None, arith, ap, sym, subst, ◌∙◌, inl, inr}
use Rattle.std.proofs.lemmas.Bool.{cases_lt}
use Rattle.std.proofs.lemmas.List.{get_or_past, length-take-le, take_more_set}
use Rattle.std.proofs.Math.ListN.{length-set}
use Rattle.bud_base.specs.declared.ids.NodeId.{NodeId}
use Rattle.search_heap.specs.Entries.{entry_at, free_count, reached_by}
use Rattle.search_heap.specs.Heaps.{near_at}
use Rattle.search_heap.specs.Offers.{IsHeaped, IsTakenAt}
use Rattle.search_heap.specs.Clearing.{AreCleared, AreBlank}
use Rattle.search_heap.specs.Searches.{node_at, AreInOrder}
use Rattle.search_heap.specs.Insides.{AreKept}
use Rattle.search_heap.specs.declared.entries.Entry.{Entry}
use Rattle.search_heap.specs.declared.entries.Near.{Near}
use Rattle.search_heap.proofs.Offering.{IsHeaped-none, entry-within}
use Rattle.search_heap.proofs.Ordering.{free_count-none, AreInOrder-none, AreInOrder-reached, AreInOrder-at, free_count-taken, none-cleared}

pub AreBlank-cleared : (entries cleared : List (Option Entry)) (nodes : ℕ) → entries ≡ cleared → length cleared ≡ nodes → ((v : ℕ) → v < length cleared → entry_at cleared v ≡ None) → AreBlank entries nodes
AreBlank-cleared entries cleared nodes is size none =
    let P : List (Option Entry) → Type 0 = λ l. AreBlank l nodes in
    subst P (sym is) (record {
      size = size;
      none = λ v. elim (cases_lt v (length cleared)) [ inl inside ↦ none v inside | inr past ↦ get_or_past cleared v None past ];
    })

pub AreKept-none : (entries : List (Option Entry)) (offers : List Near) (places : List ℕ) (order : List NodeId) (nodes : ℕ) → AreBlank entries nodes → length offers ≡ nodes → length places ≡ nodes → length order ≡ nodes
    → AreKept entries offers places order 0 0
AreKept-none entries offers places order nodes blank offer_size place_size order_size = record {
  heaped = IsHeaped-none entries offers places blank.none (omega (arith, blank.size)) (omega (arith, blank.size));
  ordered = AreInOrder-none entries blank.none;
  few = omega (arith, free_count-none entries blank.none);
  order_size = omega (arith, blank.size);
}

-- a node was reached: what was lent is what there was, and what there is now is what came back
pub AreKept-reached : (entries lent back now : List (Option Entry)) (offers offers_back offers_now : List Near) (places places_back places_now : List ℕ) (order : List NodeId) (waiting taken result v : ℕ) (distance : ℤ) (by : Option ℕ)
    → lent ≡ entries → now ≡ back → offers_now ≡ offers_back → places_now ≡ places_back → v < length entries
    → back ≡ set lent v (Some (reached_by (entry_at lent v) distance by)) → IsHeaped back offers_back places_back result → result + free_count back ≡ waiting + free_count lent
    → AreKept entries offers places order waiting taken → AreKept now offers_now places_now order result taken
AreKept-reached entries lent back now offers offers_back offers_now places places_back places_now order waiting taken result v distance by is_lent is_now is_offers is_places there reached heaped few kept =
    let L : List (Option Entry) → Type 0 = λ l. back ≡ set l v (Some (reached_by (entry_at l v) distance by)) in
    let made : back ≡ set entries v (Some (reached_by (entry_at entries v) distance by)) = subst L is_lent reached in
    let size : length back ≡ length entries = ap length made ∙ length-set entries v (Some (reached_by (entry_at entries v) distance by)) in
    let E : List (Option Entry) → Type 0 = λ l. AreKept l offers_now places_now order result taken in
    let O : List Near → Type 0 = λ l. AreKept back l places_now order result taken in
    let P : List ℕ → Type 0 = λ l. AreKept back offers_back l order result taken in
    let S : List (Option Entry) → Type 0 = λ l. AreInOrder l (take taken order) in
    subst E (sym is_now) (subst O (sym is_offers) (subst P (sym is_places) (record {
      heaped = heaped;
      ordered = subst S (sym made) (AreInOrder-reached entries (take taken order) v distance by there kept.ordered);
      few = omega (arith, few, ap free_count is_lent, kept.few, size);
      order_size = omega (arith, kept.order_size, size);
    })))

-- the nearest was taken
pub AreKept-nearest : (entries lent back now : List (Option Entry)) (offers offers_back offers_now : List Near) (places places_back places_now : List ℕ) (order order_now : List NodeId) (waiting taken : ℕ) (near : Near)
    → lent ≡ entries → now ≡ back → offers_now ≡ offers_back → places_now ≡ places_back → order_now ≡ set order taken near.node → 0 < waiting
    → IsTakenAt lent back taken near → IsHeaped back offers_back places_back (waiting - 1)
    → AreKept entries offers places order waiting taken → AreKept now offers_now places_now order_now (waiting - 1) (taken + 1)
AreKept-nearest entries lent back now offers offers_back offers_now places places_back places_now order order_now waiting taken near is_lent is_now is_offers is_places is_order some at_near heaped kept =
    let T : List (Option Entry) → Type 0 = λ l. IsTakenAt l back taken near in
    let here : IsTakenAt entries back taken near = subst T is_lent at_near in
    let room : taken < length order = omega (arith, kept.few, kept.order_size) in
    let before : length (take taken order) ≡ taken = length-take-le taken order (omega arith) in
    let size : length back ≡ length entries = ap length here.taken ∙ length-set entries near.node.0 _ in
    let A : ℕ → Type 0 = λ k. IsTakenAt entries back k near in
    let order_size : length order_now ≡ length order = ap length is_order ∙ length-set order taken near.node in
    let E : List (Option Entry) → Type 0 = λ l. AreKept l offers_now places_now order_now (waiting - 1) (taken + 1) in
    let O : List Near → Type 0 = λ l. AreKept back l places_now order_now (waiting - 1) (taken + 1) in
    let P : List ℕ → Type 0 = λ l. AreKept back offers_back l order_now (waiting - 1) (taken + 1) in
    let S : List NodeId → Type 0 = λ l. AreInOrder back l in
    subst E (sym is_now) (subst O (sym is_offers) (subst P (sym is_places) (record {
      heaped = heaped;
      ordered = subst S (sym (ap (take (taken + 1)) is_order ∙ take_more_set order taken near.node room))
          (AreInOrder-at entries back (take taken order) near (subst A (sym before) here) (entry-within entries near.node.0 here.entry here.is) kept.ordered);
      few = omega (arith, free_count-taken entries back taken near here, kept.few, size);
      order_size = omega (arith, order_size, kept.order_size, size);
    })))

-- all entries were taken away
pub AreBlank-restarted : (entries lent first mid last now : List (Option Entry)) (offers offers_lent : List Near) (places : List ℕ) (order order_lent : List NodeId) (waiting taken : ℕ)
    → lent ≡ entries → mid ≡ first → now ≡ last → offers_lent ≡ offers → order_lent ≡ order → length first ≡ length lent → length last ≡ length mid
    → AreCleared lent first (λ k. (near_at offers_lent k).node.0) waiting → AreCleared mid last (node_at order_lent) taken → AreKept entries offers places order waiting taken → AreBlank now (length entries)
AreBlank-restarted entries lent first mid last now offers offers_lent places order order_lent waiting taken is_lent is_mid is_now is_offers is_order first_size last_size one two kept =
    let L : List (Option Entry) → Type 0 = λ l. AreCleared l first (λ k. (near_at offers_lent k).node.0) waiting in
    let O : List Near → Type 0 = λ l. AreCleared entries first (λ k. (near_at l k).node.0) waiting in
    let M : List (Option Entry) → Type 0 = λ l. AreCleared l last (node_at order_lent) taken in
    let N : List NodeId → Type 0 = λ l. AreCleared first last (node_at l) taken in
    let few : taken ≤ length order = omega (arith, kept.few, kept.order_size) in
    let E : List (Option Entry) → Type 0 = λ l. AreBlank l (length entries) in
    subst E (sym is_now) (record {
      size = omega (arith, last_size, ap length is_mid, first_size, ap length is_lent);
      none = none-cleared entries first last offers places order waiting taken kept.heaped.offered kept.ordered few (subst O is_offers (subst L is_lent one)) (subst N is_order (subst M is_mid two));
    })
