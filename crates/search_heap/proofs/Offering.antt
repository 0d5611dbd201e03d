-- Offers and entries while they change together.
use Rattle.std.proofs.Common.{◌≡◌, ◌≢◌, ℕ, ℤ, ◌+◌, ◌<◌, ◌≤◌, ◌≤ℤ◌, List, length, get_or, set, Option, Some, None, arith, refl, ap, sym, subst, ◌∙◌, inl, inr, get_or-set_same, get_or-set_other}
use Rattle.std.specs.List.{SwappedAt}
use Rattle.std.proofs.lemmas.Int.{ints}
use Rattle.std.proofs.lemmas.Bool.{cases_eq, cases_lt}
use Rattle.std.proofs.lemmas.List.{get_or_past}
use Rattle.std.proofs.Math.ListN.{length-set}
use Rattle.search_heap.specs.Entries.{entry_at, fresh}
use Rattle.search_heap.specs.Heaps.{near_at, far, ArePlaced}
use Rattle.search_heap.specs.Offers.{IsOffered, HasOffer, AreOffered, IsHeaped, IsFarther, IsTakenAt}
use Rattle.search_heap.specs.declared.entries.Entry.{Entry}
use Rattle.search_heap.specs.declared.entries.Near.{Near}
use Rattle.search_heap.proofs.HeapOrder.{AreExchanged, IsHeap-top}

none_some : {A : Type 0} (o : Option A) (x : A) → o ≡ None → o ≡ Some x → ⊥
none_some o x none some = cc

some_inj : {A : Type 0} (x y : A) → Some x ≡ Some y → x ≡ y
some_inj x y e = cc

abbrev pub node_of : List Near → ℕ → ℕ
node_of offers k = (near_at offers k).node.0

abbrev pub place_of : List ℕ → ℕ → ℕ
place_of places v = get_or places v 0

-- an entry's node is within
pub entry-within : (entries : List (Option Entry)) (v : ℕ) (e : Entry) → entry_at entries v ≡ Some e → v < length entries
entry-within entries v e is = elim (cases_lt v (length entries)) [ inl inside ↦ inside | inr past ↦ absurd (none_some (entry_at entries v) e (get_or_past entries v None past) is) ]

pub ArePlaced-offered : (entries : List (Option Entry)) (offers : List Near) (places : List ℕ) (count : ℕ) → length places ≡ length entries → AreOffered entries offers places count → ArePlaced offers places count
ArePlaced-offered entries offers places count size offered k inside =
    let one = offered.each k inside in
    (omega (arith, size, entry-within entries (node_of offers k) one.entry one.is), one.place)

-- ---- an exchange
pub AreExchanged-swapped : (old new : List Near) (p q : ℕ) → SwappedAt old new p q → AreExchanged (far old) (far new) p q
AreExchanged-swapped old new p q swapped = record {
  one = ap (λ (n : Near). n.distance) (swapped.0 _);
  other = ap (λ (n : Near). n.distance) (swapped.1 _);
  rest = λ k not_p not_q. ap (λ (n : Near). n.distance) (swapped.2 k _ not_p not_q);
}

-- places of nodes, with those of the nodes at two places exchanged
record ArePlacesExchanged (offers : List Near) (places after : List ℕ) (p q : ℕ) : Type 0 where
  pub one : place_of after (node_of offers q) ≡ p
  pub other : place_of after (node_of offers p) ≡ q
  pub rest : (v : ℕ) → v ≢ node_of offers p → v ≢ node_of offers q → place_of after v ≡ place_of places v
  pub size : length after ≡ length places

places_exchanged : (offers : List Near) (places after : List ℕ) (count p q : ℕ) → p < count → q < count → ArePlaced offers places count
    → after ≡ set (set places (node_of offers p) q) (node_of offers q) p → ArePlacesExchanged offers places after p q
places_exchanged offers places after count p q p_in q_in placed is =
    let first : List ℕ = set places (node_of offers p) q in
    let size : length first ≡ length places = length-set places (node_of offers p) q in
    let P : List ℕ → Type 0 = λ l. ArePlacesExchanged offers places l p q in
    let here : place_of (set first (node_of offers q) p) (node_of offers q) ≡ p = get_or-set_same first (node_of offers q) p 0 (omega (arith, size, (placed q q_in).0)) in
    subst P (sym is) (record {
      one = here;
      other = elim (cases_eq (node_of offers p) (node_of offers q)) [
        | inl same ↦ ap (place_of (set first (node_of offers q) p)) same ∙ here ∙ omega (arith, (placed p p_in).1, (placed q q_in).1, ap (place_of places) same)
        | inr other ↦ get_or-set_other first (node_of offers q) (node_of offers p) p 0 other ∙ get_or-set_same places (node_of offers p) q 0 (placed p p_in).0
      ];
      rest = λ v not_p not_q. get_or-set_other first (node_of offers q) v p 0 not_q ∙ get_or-set_other places (node_of offers p) v q 0 not_p;
      size = length-set first (node_of offers q) p ∙ size;
    })

-- different places have different nodes
node_differs : (offers : List Near) (places : List ℕ) (count i j : ℕ) → ArePlaced offers places count → i < count → j < count → i ≢ j → node_of offers i ≢ node_of offers j
node_differs offers places count i j placed i_in j_in other same = other (omega (arith, (placed i i_in).1, (placed j j_in).1, ap (place_of places) same))

pub ArePlaced-exchanged : (old new : List Near) (places after : List ℕ) (count p q : ℕ) → p < count → q < count → ArePlaced old places count → SwappedAt old new p q
    → after ≡ set (set places (node_of old p) q) (node_of old q) p → ArePlaced new after count
ArePlaced-exchanged old new places after count p q p_in q_in placed swapped is k inside =
    let moved = places_exchanged old places after count p q p_in q_in placed is in
    let P : Near → Type 0 = λ n. (n.node.0 < length after) × (get_or after n.node.0 0 ≡ k) in
    elim (cases_eq k p) [
      | inl same ↦
          let Q : ℕ → Type 0 = λ x. near_at new x ≡ near_at old q in
          subst P (sym (subst Q (sym same) (swapped.0 _))) (omega (arith, moved.size, (placed q q_in).0), moved.one ∙ sym same)
      | inr not_p ↦ elim (cases_eq k q) [
        | inl same ↦
            let Q : ℕ → Type 0 = λ x. near_at new x ≡ near_at old p in
            subst P (sym (subst Q (sym same) (swapped.1 _))) (omega (arith, moved.size, (placed p p_in).0), moved.other ∙ sym same)
        | inr not_q ↦
            subst P (sym (swapped.2 k _ not_p not_q)) (
              omega (arith, moved.size, (placed k inside).0),
              moved.rest (node_of old k) (node_differs old places count k p placed inside p_in not_p) (node_differs old places count k q placed inside q_in not_q) ∙ (placed k inside).1,
            )
      ]
    ]

-- an offer at another place
offered_at : (entries : List (Option Entry)) (places after : List ℕ) (i k : ℕ) (near new : Near) → new ≡ near → place_of after near.node.0 ≡ k → IsOffered entries places i near → IsOffered entries after k new
offered_at entries places after i k near new same place one =
    let P : Near → Type 0 = λ n. IsOffered entries after k n in
    subst P (sym same) (record { entry = one.entry; is = one.is; waiting = one.waiting; distance = one.distance; place = place })

has_at : (old new : List Near) (after : List ℕ) (count i k v : ℕ) → k < count → place_of after v ≡ k → near_at new k ≡ near_at old i → node_of old i ≡ v → HasOffer new after count v
has_at old new after count i k v inside place same node =
    let P : ℕ → Type 0 = λ x. (near_at new x).node.0 ≡ v in
    record { below = omega (arith, place); node = subst P (sym place) (ap (λ (n : Near). n.node.0) same ∙ node) }

pub AreOffered-exchanged : (entries : List (Option Entry)) (old new : List Near) (places after : List ℕ) (count p q : ℕ) → p < count → q < count → ArePlaced old places count → SwappedAt old new p q
    → after ≡ set (set places (node_of old p) q) (node_of old q) p → AreOffered entries old places count → AreOffered entries new after count
AreOffered-exchanged entries old new places after count p q p_in q_in placed swapped is offered =
    let moved = places_exchanged old places after count p q p_in q_in placed is in
    record {
      each = λ k inside. elim (cases_eq k p) [
        | inl same ↦
            let Q : ℕ → Type 0 = λ x. near_at new x ≡ near_at old q in
            offered_at entries places after q k (near_at old q) (near_at new k) (subst Q (sym same) (swapped.0 _)) (moved.one ∙ sym same) (offered.each q q_in)
        | inr not_p ↦ elim (cases_eq k q) [
          | inl same ↦
              let Q : ℕ → Type 0 = λ x. near_at new x ≡ near_at old p in
              offered_at entries places after p k (near_at old p) (near_at new k) (subst Q (sym same) (swapped.1 _)) (moved.other ∙ sym same) (offered.each p p_in)
          | inr not_q ↦
              offered_at entries places after k k (near_at old k) (near_at new k) (swapped.2 k _ not_p not_q)
              (moved.rest (node_of old k) (node_differs old places count k p placed inside p_in not_p) (node_differs old places count k q placed inside q_in not_q) ∙ (placed k inside).1)
              (offered.each k inside)
        ]
      ];
      nodes = λ v e at_v waiting.
          let was = offered.nodes v e at_v waiting in
          let b : ℕ = place_of places v in
          elim (cases_eq b p) [
            | inl same ↦
                let node : node_of old p ≡ v = ap (node_of old) (sym same) ∙ was.node in
                has_at old new after count p q v q_in (ap (place_of after) (sym node) ∙ moved.other) (swapped.1 _) node
            | inr not_p ↦ elim (cases_eq b q) [
              | inl same ↦
                  let node : node_of old q ≡ v = ap (node_of old) (sym same) ∙ was.node in
                  has_at old new after count q p v p_in (ap (place_of after) (sym node) ∙ moved.one) (swapped.0 _) node
              | inr not_q ↦
                  has_at old new after count b b v was.below
                  (moved.rest v (λ e_p. not_p (ap (place_of places) e_p ∙ (placed p p_in).1)) (λ e_q. not_q (ap (place_of places) e_q ∙ (placed q q_in).1)))
                  (swapped.2 b _ not_p not_q) was.node
            ]
          ];
    }

-- ---- an offer more
pub AreOffered-first : (entries : List (Option Entry)) (offers : List Near) (places : List ℕ) (count : ℕ) (near : Near) (by : Option ℕ) (new : Entry) → near.node.0 < length entries → length places ≡ length entries
    → count < length offers → entry_at entries near.node.0 ≡ None → new ≡ fresh near.distance by → AreOffered entries offers places count
    → AreOffered (set entries near.node.0 (Some new)) (set offers count near) (set places near.node.0 count) (count + 1)
AreOffered-first entries offers places count near by new there size room free is_new offered =
    let v : ℕ = near.node.0 in
    let here : near_at (set offers count near) count ≡ near = get_or-set_same offers count near _ room in
    let entry_here : entry_at (set entries v (Some new)) v ≡ Some new = get_or-set_same entries v (Some new) None there in
    let place_here : place_of (set places v count) v ≡ count = get_or-set_same places v count 0 (omega (arith, size)) in
    record {
      each = λ k inside. elim (cases_eq k count) [
        | inl same ↦
            let P : ℕ → Type 0 = λ x. IsOffered (set entries v (Some new)) (set places v count) x (near_at (set offers count near) x) in
            let Q : Near → Type 0 = λ n. IsOffered (set entries v (Some new)) (set places v count) count n in
            subst P (sym same) (subst Q (sym here) (record {
              entry = new;
              is = entry_here;
              waiting = ap (λ (e : Entry). e.place) is_new;
              distance = ap (λ (e : Entry). e.distance) is_new;
              place = place_here;
            }))
        | inr other ↦
            let one = offered.each k (omega arith) in
            let differs : node_of offers k ≢ v = λ e. none_some (entry_at entries v) one.entry free (ap (entry_at entries) (sym e) ∙ one.is) in
            let Q : Near → Type 0 = λ n. IsOffered (set entries v (Some new)) (set places v count) k n in
            subst Q (sym (get_or-set_other offers count k near _ other)) (record {
              entry = one.entry;
              is = get_or-set_other entries v (node_of offers k) (Some new) None differs ∙ one.is;
              waiting = one.waiting;
              distance = one.distance;
              place = get_or-set_other places v (node_of offers k) count 0 differs ∙ one.place;
            })
      ];
      nodes = λ w e is waiting. elim (cases_eq w v) [
        | inl same ↦ has_at (set offers count near) (set offers count near) (set places v count) (count + 1) count count w (omega arith) (ap (place_of (set places v count)) same ∙ place_here) refl
            (ap (λ (n : Near). n.node.0) here ∙ sym same)
        | inr other ↦
            let was = offered.nodes w e (sym (get_or-set_other entries v w (Some new) None other) ∙ is) waiting in
            let below : place_of places w < count = was.below in
            has_at offers (set offers count near) (set places v count) (count + 1) (place_of places w) (place_of places w) w (omega arith) (get_or-set_other places v w count 0 other)
            (get_or-set_other offers count (place_of places w) near _ (λ x. omega arith)) was.node
      ];
    }

-- ---- a nearer offer
pub AreOffered-nearer : (entries : List (Option Entry)) (offers : List Near) (places : List ℕ) (count p : ℕ) (near : Near) (by : Option ℕ) (new : Entry) → near.node.0 < length entries → count ≤ length offers
    → p ≡ place_of places near.node.0 → HasOffer offers places count near.node.0 → new ≡ fresh near.distance by → AreOffered entries offers places count
    → AreOffered (set entries near.node.0 (Some new)) (set offers p near) places count
AreOffered-nearer entries offers places count p near by new there room is_p has is_new offered =
    let v : ℕ = near.node.0 in
    let p_in : p < count = omega (arith, has.below) in
    let here : near_at (set offers p near) p ≡ near = get_or-set_same offers p near _ (omega arith) in
    let entry_here : entry_at (set entries v (Some new)) v ≡ Some new = get_or-set_same entries v (Some new) None there in
    let node_p : node_of offers p ≡ v = ap (node_of offers) is_p ∙ has.node in
    record {
      each = λ k inside. elim (cases_eq k p) [
        | inl same ↦
            let P : ℕ → Type 0 = λ x. IsOffered (set entries v (Some new)) places x (near_at (set offers p near) x) in
            let Q : Near → Type 0 = λ n. IsOffered (set entries v (Some new)) places p n in
            subst P (sym same) (subst Q (sym here) (record {
              entry = new;
              is = entry_here;
              waiting = ap (λ (e : Entry). e.place) is_new;
              distance = ap (λ (e : Entry). e.distance) is_new;
              place = sym is_p;
            }))
        | inr other ↦
            let one = offered.each k inside in
            let differs : node_of offers k ≢ v = λ e. other (sym one.place ∙ ap (place_of places) e ∙ sym is_p) in
            let Q : Near → Type 0 = λ n. IsOffered (set entries v (Some new)) places k n in
            subst Q (sym (get_or-set_other offers p k near _ other)) (record {
              entry = one.entry;
              is = get_or-set_other entries v (node_of offers k) (Some new) None differs ∙ one.is;
              waiting = one.waiting;
              distance = one.distance;
              place = one.place;
            })
      ];
      nodes = λ w e is waiting. elim (cases_eq w v) [
        | inl same ↦ has_at (set offers p near) (set offers p near) places count p p w p_in (ap (place_of places) same ∙ sym is_p) refl (ap (λ (n : Near). n.node.0) here ∙ sym same)
        | inr other ↦
            let was = offered.nodes w e (sym (get_or-set_other entries v w (Some new) None other) ∙ is) waiting in
            let not_p : place_of places w ≢ p = λ x. other (sym was.node ∙ ap (node_of offers) x ∙ node_p) in
            has_at offers (set offers p near) places count (place_of places w) (place_of places w) w was.below refl (get_or-set_other offers p (place_of places w) near _ not_p) was.node
      ];
    }

-- ---- an offer less
pub AreOffered-removed : (entries : List (Option Entry)) (offers : List Near) (places : List ℕ) (count last v place : ℕ) (new : Entry) → count ≡ last + 1 → v < length entries → length places ≡ length entries
    → node_of offers last ≡ v → new.place ≡ Some place → AreOffered entries offers places count → AreOffered (set entries v (Some new)) offers places last
AreOffered-removed entries offers places count last v place new is_count there size node is_new offered =
    let placed = ArePlaced-offered entries offers places count size offered in
    record {
      each = λ k inside.
          let one = offered.each k (omega arith) in
          let differs : node_of offers k ≢ v = λ e. node_differs offers places count k last placed (omega arith) (omega arith) (λ x. omega arith) (e ∙ sym node) in
          record {
            entry = one.entry;
            is = get_or-set_other entries v (node_of offers k) (Some new) None differs ∙ one.is;
            waiting = one.waiting;
            distance = one.distance;
            place = one.place;
          };
      nodes = λ w e is waiting. elim (cases_eq w v) [
        | inl same ↦
            let entry_here : entry_at (set entries v (Some new)) w ≡ Some new = ap (entry_at (set entries v (Some new))) same ∙ get_or-set_same entries v (Some new) None there in
            let e_new : e ≡ new = some_inj e new (sym is ∙ entry_here) in
            absurd (none_some e.place place waiting (ap (λ (x : Entry). x.place) e_new ∙ is_new))
        | inr other ↦
            let was = offered.nodes w e (sym (get_or-set_other entries v w (Some new) None other) ∙ is) waiting in
            let not_last : place_of places w ≢ last = λ x. other (sym was.node ∙ ap (node_of offers) x ∙ node) in
            record { below = omega (arith, was.below); node = was.node }
      ];
    }

-- the offer at the top is nearest
pub nearest-top : (entries : List (Option Entry)) (offers : List Near) (places : List ℕ) (count v : ℕ) (e : Entry) → IsHeaped entries offers places count → entry_at entries v ≡ Some e → e.place ≡ None
    → far offers 0 ≤ℤ e.distance
nearest-top entries offers places count v e heaped is waiting =
    let has = heaped.offered.nodes v e is waiting in
    let p : ℕ = place_of places v in
    let one = heaped.offered.each p has.below in
    let same : e ≡ one.entry = some_inj e one.entry (sym is ∙ ap (entry_at entries) (sym has.node) ∙ one.is) in
    omega (arith, ints, IsHeap-top count (far offers) p heaped.heap has.below, ap (λ (x : Entry). x.distance) same, one.distance)

-- ---- distances where one offer changes
pub far-set : (offers : List Near) (p : ℕ) (near : Near) (k : ℕ) → k ≢ p → far (set offers p near) k ≡ far offers k
far-set offers p near k other = ap (λ (n : Near). n.distance) (get_or-set_other offers p k near _ other)

pub offer-of_farther : (entries : List (Option Entry)) (offers : List Near) (places : List ℕ) (count v : ℕ) (distance : ℤ) → AreOffered entries offers places count → IsFarther entries v distance → HasOffer offers places count v
offer-of_farther entries offers places count v distance offered farther = offered.nodes v farther.entry farther.is farther.waiting

pub far-replaced : (entries : List (Option Entry)) (offers : List Near) (places : List ℕ) (count : ℕ) (near : Near) → count ≤ length offers → AreOffered entries offers places count
    → IsFarther entries near.node.0 near.distance → far (set offers (place_of places near.node.0) near) (place_of places near.node.0) ≤ℤ far offers (place_of places near.node.0)
far-replaced entries offers places count near room offered farther =
    let p : ℕ = place_of places near.node.0 in
    let has = offer-of_farther entries offers places count near.node.0 near.distance offered farther in
    let one = offered.each p has.below in
    let below : p < count = has.below in
    let here : near_at (set offers p near) p ≡ near = get_or-set_same offers p near _ (omega arith) in
    let same : farther.entry ≡ one.entry = some_inj farther.entry one.entry (sym farther.is ∙ ap (entry_at entries) (sym has.node) ∙ one.is) in
    omega (arith, ints, ap (λ (n : Near). n.distance) here, farther.farther, ap (λ (x : Entry). x.distance) same, one.distance)

-- ---- no offers
pub IsHeaped-none : (entries : List (Option Entry)) (offers : List Near) (places : List ℕ) → ((v : ℕ) → entry_at entries v ≡ None) → length offers ≡ length entries → length places ≡ length entries
    → IsHeaped entries offers places 0
IsHeaped-none entries offers places none offer_size place_size = record {
  offered = record { each = λ k inside. absurd (omega arith); nodes = λ v e is waiting. absurd (none_some (entry_at entries v) e (none v) is) };
  heap = record { each = λ k j under inside. absurd (omega arith) };
  offer_size = offer_size;
  place_size = place_size;
}

-- ---- the offer at the top is taken
pub IsTakenAt-top : (entries after : List (Option Entry)) (offers : List Near) (places : List ℕ) (count place : ℕ) (taken : Option Entry) → IsHeaped entries offers places count → 0 < count
    → ((e : Entry) → entry_at entries (node_of offers 0) ≡ Some e → taken ≡ Some (record { distance = e.distance; by = e.by; place = Some place }))
    → after ≡ set entries (node_of offers 0) taken → IsTakenAt entries after place (near_at offers 0)
IsTakenAt-top entries after offers places count place taken heaped some is_taken is =
    let one = heaped.offered.each 0 some in
    record {
      entry = one.entry;
      is = one.is;
      waiting = one.waiting;
      distance = one.distance;
      nearest = λ v e at_v waiting. nearest-top entries offers places count v e heaped at_v waiting;
      taken = is ∙ ap (set entries (node_of offers 0)) (is_taken one.entry one.is);
    }

-- the last offer goes to its place
pub AreOffered-top : (entries : List (Option Entry)) (old new : List Near) (places after : List ℕ) (count last place : ℕ) (taken : Option Entry) → IsHeaped entries old places count → count ≡ last + 1
    → ((e : Entry) → entry_at entries (node_of old 0) ≡ Some e → taken ≡ Some (record { distance = e.distance; by = e.by; place = Some place }))
    → SwappedAt old new 0 last → after ≡ set (set places (node_of old 0) last) (node_of old last) 0 → AreOffered (set entries (node_of old 0) taken) new after last
AreOffered-top entries old new places after count last place taken heaped is_count is_taken swapped is =
    let placed = ArePlaced-offered entries old places count heaped.place_size heaped.offered in
    let one = heaped.offered.each 0 (omega arith) in
    let P : Option Entry → Type 0 = λ t. AreOffered (set entries (node_of old 0) t) new after last in
    let size : length after ≡ length entries =
    omega (arith, ap length is, length-set (set places (node_of old 0) last) (node_of old last) 0, length-set places (node_of old 0) last, heaped.place_size) in
    subst P (sym (is_taken one.entry one.is))
    (AreOffered-removed entries new after count last (node_of old 0) place (record { distance = one.entry.distance; by = one.entry.by; place = Some place }) is_count
    (entry-within entries (node_of old 0) one.entry one.is) size (ap (λ (n : Near). n.node.0) (swapped.1 _)) refl
    (AreOffered-exchanged entries old new places after count 0 last (omega arith) (omega arith) placed swapped is heaped.offered))

pub ArePlaced-top : (entries : List (Option Entry)) (old new : List Near) (places after : List ℕ) (count last : ℕ) → IsHeaped entries old places count → count ≡ last + 1
    → SwappedAt old new 0 last → after ≡ set (set places (node_of old 0) last) (node_of old last) 0 → ArePlaced new after last
ArePlaced-top entries old new places after count last heaped is_count swapped is k inside =
    ArePlaced-exchanged old new places after count 0 last (omega arith) (omega arith) (ArePlaced-offered entries old places count heaped.place_size heaped.offered) swapped is k (omega arith)
