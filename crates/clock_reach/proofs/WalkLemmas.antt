-- A walk along wires: how marks spread from one pin, and what the marks say once the walk has gone on from each pin of its queue.
use Rattle.std.proofs.Common.{◌≡◌, ℕ, zero, suc, ◌+◌, ◌-◌, ◌<◌, ◌≤◌, ◌⊎◌, cond, List, [], ◌∷◌, ◌++◌, map, length, get_or, set, Option, Some, None, refl, sym, ◌∙◌, ap, subst, inl, inr, arith, get_or-set_same, get_or-set_other, count_by, append_assoc, replicate}
use Rattle.std.specs.List.{All, Contains}
use Rattle.std.proofs.lemmas.Bool.{cases_eq, cases_lt, cond-true}
use Rattle.std.proofs.lemmas.List.{append-nil, length-set, length-append, length-map, get_or-map, get_or_past, get_or_append_left, get_or_default}
use Rattle.std.proofs.lemmas.List.Sums.{sum_by-set}
use Rattle.std.proofs.lemmas.List.Elements.{All-nil, All-push, All-append, All-weaker, All-map, All-contains, Contains-get_or, Contains-append_left, Contains-append_right, Contains-push}
use Rattle.bud_base.specs.declared.ids.PinId.{PinId}
use Rattle.bud_design.specs.declared.designs.Wire.{Wire}
use Rattle.bud_design.specs.declared.clocks.Clock.{Clock}
use Rattle.clock_reach.specs.declared.walks.Front.{Front}
use Rattle.bud_design.specs.Clocks.{clock_at}
use Rattle.clock_reach.specs.Leaving.{wire_at, leaving_from}
use Rattle.clock_reach.specs.Walks.{mark_at, front_at, is_free, NoneMarked, IsMarked, HasWire, Joined, HasSource, IsLed, IsEntered, Spreads, IsWalked, AreMarks, HasSourcesBelow, fronts_from, front_of}
use Rattle.clock_reach.proofs.LeavingLemmas.{leaving_from-some, leaving_from-none}

-- how many wires are left from the next one on
abbrev pub rest_of : List Wire → Option ℕ → ℕ
rest_of wires None = 0
rest_of wires (Some i) = length wires - i

-- the marks have spread along the wires of a pin up to the next one
pub record IsSpreading (wires : List Wire) (next : Option ℕ) (x : Front) (marks : List (Option ℕ)) (queue : List Front) (marked : List (Option ℕ)) (queued : List Front) : Type 0 where
  pub low : ℕ
  pub within : low ≤ length wires
  pub from_low : next ≡ leaving_from wires x.pin.0 low
  pub spreads : Spreads wires low x marks queue marked queued

-- ---- marks
IsMarked-within : (marks : List (Option ℕ)) (v c : ℕ) → mark_at marks v ≡ Some c → v < length marks
IsMarked-within marks v c marked = elim (cases_lt v (length marks)) [
  | inl below ↦ below
  | inr past ↦ (let none : mark_at marks v ≡ None = get_or_past marks v None past in let wrong : None ≡ Some c = sym none ∙ marked in cc)
]

count_free-less : (marks : List (Option ℕ)) (v c : ℕ) → v < length marks → mark_at marks v ≡ None → count_by is_free marks ≡ count_by is_free (set marks v (Some c)) + 1
count_free-less marks v c within free =
    let before : cond {A = ℕ} (is_free (mark_at marks v)) 1 0 ≡ 1 = cond-true (is_free (mark_at marks v)) 1 0 (ap is_free free) in
    let counted : count_by is_free (set marks v (Some c)) + cond (is_free (mark_at marks v)) 1 0 ≡ count_by is_free marks + cond (is_free (Some c)) 1 0
    = sum_by-set (λ m. cond (is_free m) 1 0) marks v (Some c) None within in
    omega arith

-- a mark that stood stands when a free pin gets one
mark-kept : (marks : List (Option ℕ)) (h b v c : ℕ) → mark_at marks h ≡ None → mark_at marks v ≡ Some c → mark_at (set marks h (Some b)) v ≡ Some c
mark-kept marks h b v c free marked = elim (cases_eq v h) [
  | inl same ↦ (let none : mark_at marks v ≡ None = rw same free in let wrong : None ≡ Some c = sym none ∙ marked in cc)
  | inr differs ↦ get_or-set_other marks h v (Some b) None differs ∙ marked
]

IsMarked-kept : (marks : List (Option ℕ)) (h b v : ℕ) → mark_at marks h ≡ None → IsMarked marks v → IsMarked (set marks h (Some b)) v
IsMarked-kept marks h b v free marked = (marked.0, mark-kept marks h b v marked.0 free marked.1)

some-same : (a b : ℕ) → Some a ≡ Some b → a ≡ b
some-same a b e = cc

-- ---- one pin's wires
Spreads-first : (wires : List Wire) (x : Front) (marks : List (Option ℕ)) (queue : List Front) → Spreads wires 0 x marks queue marks queue
Spreads-first wires x marks queue = record {
  size = refl;
  kept = λ v c marked. marked;
  heads = λ i below. absurd (omega arith);
  only = λ v c marked. inl marked;
  more = [];
  queue_is = sym (append-nil queue);
  added = All-nil (λ (y : Front). mark_at marks y.pin.0 ≡ Some y.clock);
  count = refl;
}

pub IsSpreading-first : (wires : List Wire) (next : Option ℕ) (x : Front) (marks : List (Option ℕ)) (queue : List Front) → next ≡ leaving_from wires x.pin.0 0
    → IsSpreading wires next x marks queue marks queue
IsSpreading-first wires next x marks queue is = record { low = 0; within = omega arith; from_low = is; spreads = Spreads-first wires x marks queue }

-- the pin behind wire `i` has its mark; none of the wires between is one of the front's pin
module _ (wires : List Wire) (low i : ℕ) (x : Front) (marks : List (Option ℕ)) (queue : List Front) (marked : List (Option ℕ)) (queued : List Front)
    (so_far : Spreads wires low x marks queue marked queued)
    (here : i < length wires) (leaves : (wire_at wires i).from.0 ≡ x.pin.0)
    (between : (j : ℕ) → low ≤ j → j < i → (wire_at wires j).from.0 ≡ x.pin.0 → ⊥)
    (head : (wire_at wires i).to.0 < length marked) where
  heads-before : (j : ℕ) → j < i + 1 → (j ≡ i → ⊥) → j < length wires → (wire_at wires j).from.0 ≡ x.pin.0 → IsMarked marked (wire_at wires j).to.0
  heads-before j below differs within leave = elim (cases_lt j low) [
    | inl before ↦ so_far.heads j before within leave
    | inr after ↦ absurd (between j after (omega arith) leave)
  ]

  Spreads-marked : (c : ℕ) → mark_at marked (wire_at wires i).to.0 ≡ Some c → Spreads wires (i + 1) x marks queue marked queued
  Spreads-marked c is = record {
    size = so_far.size;
    kept = so_far.kept;
    heads = λ j below within leave. elim (cases_eq j i) [
      | inl same ↦ (c, ap (λ k. mark_at marked (wire_at wires k).to.0) same ∙ is)
      | inr differs ↦ heads-before j below differs within leave
    ];
    only = so_far.only;
    more = so_far.more;
    queue_is = so_far.queue_is;
    added = so_far.added;
    count = so_far.count;
  }

  Spreads-free : mark_at marked (wire_at wires i).to.0 ≡ None
      → Spreads wires (i + 1) x marks queue (set marked (wire_at wires i).to.0 (Some x.clock)) (queued ++ record { pin = (wire_at wires i).to; clock = x.clock } ∷ [])
  Spreads-free free =
      let h : ℕ = (wire_at wires i).to.0 in
      let y : Front = record { pin = (wire_at wires i).to; clock = x.clock } in
      let on : mark_at (set marked h (Some x.clock)) h ≡ Some x.clock = get_or-set_same marked h (Some x.clock) None head in
      record {
        size = length-set marked h (Some x.clock) ∙ so_far.size;
        kept = λ v c was. mark-kept marked h x.clock v c free (so_far.kept v c was);
        heads = λ j below within leave. elim (cases_eq j i) [
          | inl same ↦ (x.clock, ap (λ k. mark_at (set marked h (Some x.clock)) (wire_at wires k).to.0) same ∙ on)
          | inr differs ↦ IsMarked-kept marked h x.clock (wire_at wires j).to.0 free (heads-before j below differs within leave)
        ];
        only = λ v c now. elim (cases_eq v h) [
          | inl same ↦
              let clock : c ≡ x.clock = some-same c x.clock (sym now ∙ (ap (mark_at (set marked h (Some x.clock))) same ∙ on)) in
              let is : y ≡ record { pin = record { 0 = v }; clock = c } = rw (same, clock) refl in
              inr (clock, (i, here, leaves, sym same), subst (Contains (queued ++ y ∷ [])) is (Contains-push queued y))
          | inr differs ↦ elim (so_far.only v c (sym (get_or-set_other marked h v (Some x.clock) None differs) ∙ now)) [
            | inl was ↦ inl was
            | inr by ↦ inr (by.0, by.1, Contains-append_left queued (y ∷ []) _ by.2)
          ]
        ];
        more = so_far.more ++ y ∷ [];
        queue_is = ap (λ q. q ++ y ∷ []) so_far.queue_is ∙ append_assoc queue so_far.more (y ∷ []);
        added = All-push (λ (z : Front). mark_at (set marked h (Some x.clock)) z.pin.0 ≡ Some z.clock) so_far.more y
            (All-weaker (λ (z : Front). mark_at marked z.pin.0 ≡ Some z.clock) (λ (z : Front). mark_at (set marked h (Some x.clock)) z.pin.0 ≡ Some z.clock)
            (λ z was. mark-kept marked h x.clock z.pin.0 z.clock free was) so_far.more so_far.added) on;
        count = omega (arith, so_far.count, count_free-less marked h x.clock head free, length-append queued (y ∷ []));
      }

  Spreads-more : (o : Option ℕ) (marks' : List (Option ℕ)) (queue' : List Front) → mark_at marked (wire_at wires i).to.0 ≡ o
      → IsEntered o (record { pin = (wire_at wires i).to; clock = x.clock }) marked queued marks' queue' → Spreads wires (i + 1) x marks queue marks' queue'
  Spreads-more None marks' queue' is entered =
      subst (λ m. Spreads wires (i + 1) x marks queue m queue') (sym entered.0)
      (subst (λ q. Spreads wires (i + 1) x marks queue (set marked (wire_at wires i).to.0 (Some x.clock)) q) (sym entered.1) (Spreads-free is))
  Spreads-more (Some c) marks' queue' is entered =
      subst (λ m. Spreads wires (i + 1) x marks queue m queue') (sym entered.0)
      (subst (λ q. Spreads wires (i + 1) x marks queue marked q) (sym entered.1) (Spreads-marked c is))

pub IsSpreading-more : (wires : List Wire) (next : Option ℕ) (i : ℕ) (after : Option ℕ) (x : Front) (marks : List (Option ℕ)) (queue : List Front) (marked : List (Option ℕ)) (queued : List Front)
    (marks' : List (Option ℕ)) (queue' : List Front) → next ≡ Some i → (wire_at wires i).to.0 < length marked → after ≡ leaving_from wires (wire_at wires i).from.0 (i + 1)
    → IsEntered (mark_at marked (wire_at wires i).to.0) (record { pin = (wire_at wires i).to; clock = x.clock }) marked queued marks' queue'
    → IsSpreading wires next x marks queue marked queued → IsSpreading wires after x marks queue marks' queue'
IsSpreading-more wires next i after x marks queue marked queued marks' queue' is head follows entered so_far =
    let first = leaving_from-some wires x.pin.0 so_far.low i (sym so_far.from_low ∙ is) in
    record {
      low = i + 1;
      within = omega (arith, first.within);
      from_low = follows ∙ ap (λ v. leaving_from wires v (i + 1)) first.leaves;
      spreads = Spreads-more wires so_far.low i x marks queue marked queued so_far.spreads first.within first.leaves first.between head
          (mark_at marked (wire_at wires i).to.0) marks' queue' refl entered;
    }

pub Spreads-all : (wires : List Wire) (next : Option ℕ) (x : Front) (marks : List (Option ℕ)) (queue : List Front) (marked : List (Option ℕ)) (queued : List Front)
    → next ≡ None → IsSpreading wires next x marks queue marked queued → Spreads wires (length wires) x marks queue marked queued
Spreads-all wires next x marks queue marked queued none so_far =
    let s = so_far.spreads in
    record {
      size = s.size;
      kept = s.kept;
      heads = λ j below within leave. elim (cases_lt j so_far.low) [
        | inl before ↦ s.heads j before within leave
        | inr after ↦ absurd (leaving_from-none wires x.pin.0 so_far.low (sym so_far.from_low ∙ none) j after within leave)
      ];
      only = s.only;
      more = s.more;
      queue_is = s.queue_is;
      added = s.added;
      count = s.count;
    }

-- ---- the whole walk
Joined-on : (wires : List Wire) (vs : List ℕ) (a u v : ℕ) → Joined wires a vs u → HasWire wires u v → Joined wires a (vs ++ v ∷ []) v
Joined-on wires [] a u v same wire = (subst (λ (z : ℕ). HasWire wires z v) (sym same) wire, refl)
Joined-on wires (w ∷ vs) a u v joined wire = (joined.0, Joined-on wires vs w u v joined.1 wire)

IsLed-on : (wires : List Wire) (clocks : List Clock) (c u v : ℕ) → IsLed wires clocks c u → HasWire wires u v → IsLed wires clocks c v
IsLed-on wires clocks c u v led wire = record {
  source = led.source;
  is_source = led.is_source;
  first = led.first;
  others = led.others ++ v ∷ [];
  wired = (led.wired.0, Joined-on wires led.others led.first u v led.wired.1 wire);
}

IsLed-front : (wires : List Wire) (clocks : List Clock) (marks : List (Option ℕ)) (x : Front) (v : ℕ) → ((u c : ℕ) → mark_at marks u ≡ Some c → IsLed wires clocks c u)
    → HasSource clocks x.clock x.pin.0 ⊎ (mark_at marks x.pin.0 ≡ Some x.clock) → HasWire wires x.pin.0 v → IsLed wires clocks x.clock v
IsLed-front wires clocks marks x v led (inl source) wire = record { source = x.pin.0; is_source = source; first = v; others = []; wired = (wire, refl) }
IsLed-front wires clocks marks x v led (inr marked) wire = IsLed-on wires clocks x.clock x.pin.0 v (led x.pin.0 x.clock marked) wire

front_is : (x : Front) (v c : ℕ) → x ≡ record { pin = record { 0 = v }; clock = c } → (x.pin.0 ≡ v) × (x.clock ≡ c)
front_is x v c is = (ap (λ (y : Front). y.pin.0) is, ap (λ (y : Front). y.clock) is)

module _ (wires : List Wire) (clocks : List Clock) (pins : ℕ) (marks : List (Option ℕ)) (queue : List Front) (done : ℕ) (marked : List (Option ℕ)) (queued : List Front)
    (so_far : IsWalked wires clocks pins marks queue done) (here : done < length queue) (x : Front) (is : x ≡ front_at queue done)
    (s : Spreads wires (length wires) x marks queue marked queued) where
  front-old : HasSource clocks x.clock x.pin.0 ⊎ (mark_at marks x.pin.0 ≡ Some x.clock)
  front-old = subst (λ (y : Front). HasSource clocks y.clock y.pin.0 ⊎ (mark_at marks y.pin.0 ≡ Some y.clock)) (sym is) (so_far.fronts done _ here)

  front-kept : (y : Front) → HasSource clocks y.clock y.pin.0 ⊎ (mark_at marks y.pin.0 ≡ Some y.clock) → HasSource clocks y.clock y.pin.0 ⊎ (mark_at marked y.pin.0 ≡ Some y.clock)
  front-kept y (inl source) = inl source
  front-kept y (inr was) = inr (s.kept y.pin.0 y.clock was)

  led-now : (v c : ℕ) → mark_at marked v ≡ Some c → IsLed wires clocks c v
  led-now v c now = elim (s.only v c now) [
    | inl was ↦ so_far.led v c was
    | inr by ↦ subst (λ (b : ℕ). IsLed wires clocks b v) (sym by.0) (IsLed-front wires clocks marks x v so_far.led front-old by.1)
  ]

  kept-in : (v c : ℕ) → Contains queue (record { pin = record { 0 = v }; clock = c }) → Contains queued (record { pin = record { 0 = v }; clock = c })
  kept-in v c has = subst (λ (q : List Front). Contains q (record { pin = record { 0 = v }; clock = c })) (sym s.queue_is) (Contains-append_left queue s.more _ has)

  front-same : (k : ℕ) → k < length queue → front_at queued k ≡ front_at queue k
  front-same k below = ap (λ (q : List Front). front_at q k) s.queue_is ∙ get_or_append_left queue s.more _ k below

  heads-now : (k i : ℕ) → k < done + 1 → i < length wires → (wire_at wires i).from.0 ≡ (front_at queued k).pin.0 → IsMarked marked (wire_at wires i).to.0
  heads-now k i below within leaves =
      let in' : k < length queue = omega arith in
      let leaves' : (wire_at wires i).from.0 ≡ (front_at queue k).pin.0 = leaves ∙ ap (λ (y : Front). y.pin.0) (front-same k in') in
      elim (cases_lt k done) [
        | inl before ↦ (let was = so_far.heads k i before in' within leaves' in (was.0, s.kept (wire_at wires i).to.0 was.0 was.1))
        | inr last ↦
            let same : k ≡ done = omega arith in
            s.heads i within within (leaves' ∙ (ap (λ (j : ℕ). (front_at queue j).pin.0) same ∙ sym (ap (λ (y : Front). y.pin.0) is)))
      ]

  pub IsWalked-more : IsWalked wires clocks pins marked queued (done + 1)
  IsWalked-more = record {
    size = s.size ∙ so_far.size;
    within = subst (All (λ (y : Front). y.pin.0 < pins)) (sym s.queue_is)
        (All-append (λ (y : Front). y.pin.0 < pins) queue s.more so_far.within
        (All-weaker (λ (y : Front). mark_at marked y.pin.0 ≡ Some y.clock) (λ (y : Front). y.pin.0 < pins)
        (λ y on. (let below = IsMarked-within marked y.pin.0 y.clock on in omega (arith, below, s.size, so_far.size))) s.more s.added));
    led = led-now;
    fronts = subst (All (λ (y : Front). HasSource clocks y.clock y.pin.0 ⊎ (mark_at marked y.pin.0 ≡ Some y.clock))) (sym s.queue_is)
        (All-append (λ (y : Front). HasSource clocks y.clock y.pin.0 ⊎ (mark_at marked y.pin.0 ≡ Some y.clock)) queue s.more
        (All-weaker (λ (y : Front). HasSource clocks y.clock y.pin.0 ⊎ (mark_at marks y.pin.0 ≡ Some y.clock)) (λ (y : Front). HasSource clocks y.clock y.pin.0 ⊎ (mark_at marked y.pin.0 ≡ Some y.clock))
        front-kept queue so_far.fronts)
        (All-weaker (λ (y : Front). mark_at marked y.pin.0 ≡ Some y.clock) (λ (y : Front). HasSource clocks y.clock y.pin.0 ⊎ (mark_at marked y.pin.0 ≡ Some y.clock))
        (λ y on. inr on) s.more s.added));
    queued = λ v c now. elim (s.only v c now) [ inl was ↦ kept-in v c (so_far.queued v c was) | inr by ↦ by.2 ];
    sources = λ v c source. kept-in v c (so_far.sources v c source);
    heads = λ k i below inside within leaves. heads-now k i below within leaves;
  }

-- ---- the end
module _ (wires : List Wire) (clocks : List Clock) (pins : ℕ) (marks : List (Option ℕ)) (queue : List Front) (done : ℕ) (past : length queue ≤ done) (walked : IsWalked wires clocks pins marks queue done) where
  marked-behind : (u c v : ℕ) → Contains queue (record { pin = record { 0 = u }; clock = c }) → HasWire wires u v → IsMarked marks v
  marked-behind u c v has wire =
      let at_place : front_at queue has.0 ≡ record { pin = record { 0 = u }; clock = c } = get_or_default queue has.0 (record { pin = record { 0 = 0 }; clock = 0 }) (record { pin = record { 0 = u }; clock = c }) has.1 ∙ has.2 in
      subst (IsMarked marks) wire.3 (walked.heads has.0 wire.0 (omega (arith, has.1, past)) has.1 wire.1 (wire.2 ∙ sym (ap (λ (y : Front). y.pin.0) at_place)))

  marked-along : (vs : List ℕ) (u c z : ℕ) → Contains queue (record { pin = record { 0 = u }; clock = c }) → (v : ℕ) → HasWire wires u v → Joined wires v vs z → IsMarked marks z
  marked-along [] u c z has v wire same = subst (IsMarked marks) same (marked-behind u c v has wire)
  marked-along (w ∷ vs) u c z has v wire joined =
      let on = marked-behind u c v has wire in
      marked-along vs v on.0 z (walked.queued v on.0 on.1) w joined.0 joined.1

  pub AreMarks-from_walk : AreMarks wires clocks pins marks
  AreMarks-from_walk = record {
    size = walked.size;
    only = walked.led;
    all = λ v c led. marked-along led.others led.source c v (walked.sources led.source c led.is_source) led.first led.wired.0 led.wired.1;
  }

-- ---- the start
Contains-map : {X Y : Type 0} (f : X → Y) (xs : List X) (x : X) → Contains xs x → Contains (map f xs) (f x)
Contains-map f xs x has = (has.0, omega (arith, has.1, length-map xs f), get_or-map f xs has.0 x (f x) has.1 ∙ ap f has.2)

HasSource-tail : (k : Clock) (ks : List Clock) (c v : ℕ) → HasSource ks c v → HasSource (k ∷ ks) (suc c) v
HasSource-tail k ks c v source = (omega (arith, source.0), source.1)

abbrev FrontFrom : ℕ → List Clock → Front → Type 0
FrontFrom n clocks x = (n ≤ x.clock) × HasSource clocks (x.clock - n) x.pin.0

FrontFrom-head : (n : ℕ) (k : Clock) (ks : List Clock) (s : PinId) → Contains k.sources s → FrontFrom n (k ∷ ks) (front_of n s)
FrontFrom-head n k ks s has =
    let none : n - n ≡ 0 = omega arith in
    (omega arith, subst (λ (c : ℕ). HasSource (k ∷ ks) c s.0) (sym none) (omega arith, has))

FrontFrom-tail : (n : ℕ) (k : Clock) (ks : List Clock) (x : Front) → FrontFrom (n + 1) ks x → FrontFrom n (k ∷ ks) x
FrontFrom-tail n k ks x is =
    let more : x.clock - n ≡ suc (x.clock - (n + 1)) = omega (arith, is.0) in
    (omega (arith, is.0), subst (λ (c : ℕ). HasSource (k ∷ ks) c x.pin.0) (sym more) (HasSource-tail k ks (x.clock - (n + 1)) x.pin.0 is.1))

fronts_from-sound : (n : ℕ) (clocks : List Clock) → All (FrontFrom n clocks) (fronts_from n clocks)
fronts_from-sound n [] = All-nil (FrontFrom n [])
fronts_from-sound n (k ∷ ks) =
    All-append (FrontFrom n (k ∷ ks)) (map (front_of n) k.sources) (fronts_from (n + 1) ks)
    (All-map (FrontFrom n (k ∷ ks)) (front_of n) k.sources (λ i d below. FrontFrom-head n k ks (get_or k.sources i d) (Contains-get_or k.sources i d below)))
    (All-weaker (FrontFrom (n + 1) ks) (FrontFrom n (k ∷ ks)) (FrontFrom-tail n k ks) (fronts_from (n + 1) ks) (fronts_from-sound (n + 1) ks))

fronts_from-complete : (n : ℕ) (clocks : List Clock) (c v : ℕ) → HasSource clocks c v → Contains (fronts_from n clocks) (front_of (n + c) (record { 0 = v }))
fronts_from-complete n [] c v source = absurd (omega (arith, source.0))
fronts_from-complete n (k ∷ ks) zero v source =
    let same : n + 0 ≡ n = omega arith in
    subst (λ (c : ℕ). Contains (fronts_from n (k ∷ ks)) (front_of c (record { 0 = v }))) (sym same)
    (Contains-append_left (map (front_of n) k.sources) (fronts_from (n + 1) ks) _ (Contains-map (front_of n) k.sources (record { 0 = v }) source.1))
fronts_from-complete n (k ∷ ks) (suc c) v source =
    let same : n + suc c ≡ n + 1 + c = omega arith in
    subst (λ (j : ℕ). Contains (fronts_from n (k ∷ ks)) (front_of j (record { 0 = v }))) (sym same)
    (Contains-append_right (map (front_of n) k.sources) (fronts_from (n + 1) ks) _ (fronts_from-complete (n + 1) ks c v (omega (arith, source.0), source.1)))

HasSource-all : (clocks : List Clock) (x : Front) → FrontFrom 0 clocks x → HasSource clocks x.clock x.pin.0
HasSource-all clocks x from = let same : x.clock - 0 ≡ x.clock = omega arith in subst (λ (c : ℕ). HasSource clocks c x.pin.0) same from.1

pub IsWalked-first : (wires : List Wire) (clocks : List Clock) (pins : ℕ) (marks : List (Option ℕ)) (queue : List Front) → length marks ≡ pins → NoneMarked marks
    → All (HasSourcesBelow pins) clocks → queue ≡ fronts_from 0 clocks → IsWalked wires clocks pins marks queue 0
IsWalked-first wires clocks pins marks queue size none below is =
    subst (λ (q : List Front). IsWalked wires clocks pins marks q 0) (sym is) (record {
      size = size;
      within = All-weaker (FrontFrom 0 clocks) (λ (x : Front). x.pin.0 < pins)
          (λ x from. (let source = HasSource-all clocks x from in All-contains (λ (s : PinId). s.0 < pins) (clock_at clocks x.clock).sources x.pin (below x.clock _ source.0) source.1))
          (fronts_from 0 clocks) (fronts_from-sound 0 clocks);
      led = λ v c marked. no_mark v c marked;
      fronts = All-weaker (FrontFrom 0 clocks) (λ (x : Front). HasSource clocks x.clock x.pin.0 ⊎ (mark_at marks x.pin.0 ≡ Some x.clock))
          (λ x from. inl (HasSource-all clocks x from)) (fronts_from 0 clocks) (fronts_from-sound 0 clocks);
      queued = λ v c marked. no_mark v c marked;
      sources = λ v c source. (let same : 0 + c ≡ c = omega arith in subst (λ (k : ℕ). Contains (fronts_from 0 clocks) (front_of k (record { 0 = v }))) same (fronts_from-complete 0 clocks c v source));
      heads = λ k i over. absurd (omega arith);
    })
  where
    no_mark : {P : Type 0} (v c : ℕ) → mark_at marks v ≡ Some c → P
    no_mark v c marked = let wrong : None ≡ Some c = sym (none v) ∙ marked in cc

pub NoneMarked-new : (marks : List (Option ℕ)) (n : ℕ) → marks ≡ replicate n None → NoneMarked marks
NoneMarked-new marks n is v = ap (λ (m : List (Option ℕ)). mark_at m v) is ∙ none_at n v
  where
    none_at : (n v : ℕ) → mark_at (replicate n None) v ≡ None
    none_at zero v = refl
    none_at (suc n) zero = refl
    none_at (suc n) (suc v) = none_at n v

-- the wire after this one has fewer behind it
pub rest_of-next : (wires : List Wire) (i : ℕ) (next : Option ℕ) → i < length wires → next ≡ leaving_from wires (wire_at wires i).from.0 (i + 1) → rest_of wires next < rest_of wires (Some i)
rest_of-next wires i None within is = omega arith
rest_of-next wires i (Some j) within is =
    let after = leaving_from-some wires (wire_at wires i).from.0 (i + 1) j (sym is) in
    omega (arith, after.above, after.within)
