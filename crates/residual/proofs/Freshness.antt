-- The first state of a network: its potentials suit, and its flows are the first.
use Rattle.std.proofs.Common.{get_or, [], inl, inr, ◌≡◌, ℕ, ℤ, pos, ◌-ℤ◌, ◌≤ℤ◌, ◌+◌, ◌*◌, ◌/◌, ◌<◌, ◌^◌, List, ◌++◌, map, length, arith, refl, ap, sym, subst, ◌∙◌, cond, Bool, true, false, length-append}
use Rattle.std.specs.Prelude.{int_lt}
use Rattle.std.proofs.lemmas.Int.{ints}
use Rattle.std.proofs.lemmas.Bool.{cases_lt}
use Rattle.std.proofs.lemmas.List.{get_or-map, length-map}
use Rattle.bud_base.specs.Paths.{item_at, start_at, end_at, least_of}
use Rattle.bud_base.specs.Soundness.{IsSound, IsSoundItem}
use Rattle.bud_base.specs.declared.problems.Item.{Item}
use Rattle.bud_base.specs.declared.problems.Start.{Start}
use Rattle.bud_base.specs.declared.problems.End.{End}
use Rattle.bud_base.specs.declared.problems.Problem.{Problem}
use Rattle.bud_flow.specs.Sums.{number_at}
use Rattle.bud_flow.specs.Arrivals.{Suit}
use Rattle.residual.specs.Bounds.{IsSmall, AllWithin}
use Rattle.residual.specs.Arcs.{arc_at, full, limited_arc, open_arc, start_arc, end_arc, CanCarry, first_flow, HoldsReduced}
use Rattle.residual.specs.Networks.{Network, HasShape, IsLawful, Fits, IsFresh}
use Rattle.first_times.specs.FirstTimes.{AreFirstTimes}
use Rattle.residual.proofs.Blocks.{get_or-first, get_or-second, get_or-third, get_or-fourth, by_block}
use Rattle.residual.proofs.Pairs.{HoldsPair, gap, HoldsReduced-from_pair}
use Rattle.residual.proofs.Theory.{IsWithin-from_suit}
use Rattle.residual.proofs.Sweeping.{sound_item, sound_start, sound_end}
use Rattle.residual.specs.declared.arcs.Arc.{Arc}

-- the arcs of a problem, in their blocks
abbrev pub arcs_from : Problem → List Arc
arcs_from p = map limited_arc p.items ++ map open_arc p.items ++ map (start_arc p.nodes) p.starts ++ map (end_arc p.nodes) p.ends

abbrev pub flows_from : Problem → List ℤ → List ℤ
flows_from p potentials = map (first_flow potentials) p.items ++ map (λ _. pos 0) p.items ++ map (λ _. pos 0) p.starts ++ map (λ _. pos 0) p.ends

pub length-blocks : {A : Type 0} (p : Problem) (f g : Item → A) (h : Start → A) (k : End → A)
    → length (map f p.items ++ map g p.items ++ map h p.starts ++ map k p.ends) ≡ length p.items + length p.items + length p.starts + length p.ends
length-blocks p f g h k =
    omega (
      arith,
      length-append (map f p.items ++ map g p.items ++ map h p.starts) (map k p.ends),
      length-append (map f p.items ++ map g p.items) (map h p.starts),
      length-append (map f p.items) (map g p.items),
      length-map p.items f,
      length-map p.items g,
      length-map p.starts h,
      length-map p.ends k,
    )

-- what stands in each block
pub record HasBlocks {A : Type 0} (p : Problem) (f g : Item → A) (h : Start → A) (k : End → A) (at_place : ℕ → A) : Type 0 where
  pub first : (i : ℕ) → i < length p.items → at_place i ≡ f (item_at p.items i)
  pub second : (i : ℕ) → i < length p.items → at_place (length p.items + i) ≡ g (item_at p.items i)
  pub third : (s : ℕ) → s < length p.starts → at_place (length p.items + length p.items + s) ≡ h (start_at p.starts s)
  pub fourth : (e : ℕ) → e < length p.ends → at_place (length p.items + length p.items + length p.starts + e) ≡ k (end_at p.ends e)

pub HasBlocks-from_lists : {A : Type 0} (p : Problem) (f g : Item → A) (h : Start → A) (k : End → A) (xs : List A) (d : A)
    → xs ≡ map f p.items ++ map g p.items ++ map h p.starts ++ map k p.ends → HasBlocks p f g h k (λ j. get_or xs j d)
HasBlocks-from_lists {A} p f g h k xs d is =
    let size_f : length (map f p.items) ≡ length p.items = length-map p.items f in
    let size_g : length (map g p.items) ≡ length p.items = length-map p.items g in
    let size_h : length (map h p.starts) ≡ length p.starts = length-map p.starts h in
    let size_k : length (map k p.ends) ≡ length p.ends = length-map p.ends k in
    record {
      first = λ i within. ap (λ (l : List A). get_or l i d) is
          ∙ get_or-first (map f p.items) (map g p.items) (map h p.starts) (map k p.ends) i d (omega (arith, size_f)) ∙ get_or-map f p.items i _ d within;
      second = λ i within. ap (λ (l : List A). get_or l (length p.items + i) d) is
          ∙ get_or-second (map f p.items) (map g p.items) (map h p.starts) (map k p.ends) (length p.items) i d size_f (omega (arith, size_g)) ∙ get_or-map g p.items i _ d within;
      third = λ s within. ap (λ (l : List A). get_or l (length p.items + length p.items + s) d) is
          ∙ get_or-third (map f p.items) (map g p.items) (map h p.starts) (map k p.ends) (length p.items) (length p.items) s d size_f size_g (omega (arith, size_h)) ∙ get_or-map h p.starts s _ d within;
      fourth = λ e within. ap (λ (l : List A). get_or l (length p.items + length p.items + length p.starts + e) d) is
          ∙ get_or-fourth (map f p.items) (map g p.items) (map h p.starts) (map k p.ends) (length p.items) (length p.items) (length p.starts) e d size_f size_g size_h ∙ get_or-map k p.ends e _ d within;
    }

-- an arc whose flow and potentials are as the law asks
pub record IsGood (nodes : ℕ) (potentials : List ℤ) (a : Arc) (flow : ℤ) : Type 0 where
  pub carries : CanCarry a flow
  pub holds : HoldsPair a flow potentials
  pub from : a.from.0 < nodes + 1
  pub to : a.to.0 < nodes + 1

IsGood-limited : (nodes : ℕ) (potentials : List ℤ) (x : Item) → IsSoundItem nodes x → IsGood nodes potentials (limited_arc x) (first_flow potentials x)
IsGood-limited nodes potentials x sound = by_test (int_lt (number_at potentials x.to.0 -ℤ number_at potentials x.from.0) x.greatest) refl
  where
    by_test : (b : Bool) → int_lt (number_at potentials x.to.0 -ℤ number_at potentials x.from.0) x.greatest ≡ b → IsGood nodes potentials (limited_arc x) (cond b (pos x.weight) (pos 0))
    by_test true e = record {
      carries = record { least = omega (arith, ints); most = omega (arith, ints); limit = omega (arith, ints, sound.weight); cost = record { low = omega (arith, ints, sound.high); high = omega (arith, ints, sound.low, sound.between) } };
      holds = record { ahead = λ less. absurd (omega (arith, ints, less)); back = λ some. grind (arith, ints) };
      from = omega (arith, sound.from);
      to = omega (arith, sound.to);
    }
    by_test false e = record {
      carries = record { least = omega (arith, ints); most = omega (arith, ints); limit = omega (arith, ints, sound.weight); cost = record { low = omega (arith, ints, sound.high); high = omega (arith, ints, sound.low, sound.between) } };
      holds = record { ahead = λ less. grind (arith, ints); back = λ some. absurd (omega (arith, ints, some)) };
      from = omega (arith, sound.from);
      to = omega (arith, sound.to);
    }

-- an arc without flow that has a reduced cost of at least 0
IsGood-empty : (nodes : ℕ) (potentials : List ℤ) (a : Arc) → pos 0 ≤ℤ a.limit → a.limit ≤ℤ full → IsSmall a.cost → pos 0 ≤ℤ gap a potentials → a.from.0 < nodes + 1 → a.to.0 < nodes + 1
    → IsGood nodes potentials a (pos 0)
IsGood-empty nodes potentials a limit most cost ahead from to = record {
  carries = record { least = omega (arith, ints); most = limit; limit = most; cost = cost };
  holds = record { ahead = λ less. ahead; back = λ some. absurd (omega (arith, ints, some)) };
  from = from;
  to = to;
}

-- all arcs are good
pub AreGood : (p : Problem) (arcs : List Arc) (flows potentials : List ℤ) → IsSound p → Suit p (least_of p) (number_at potentials) → number_at potentials p.nodes ≡ pos 0
    → HasBlocks p limited_arc open_arc (start_arc p.nodes) (end_arc p.nodes) (arc_at arcs)
    → HasBlocks p (first_flow potentials) (λ _. pos 0) (λ _. pos 0) (λ _. pos 0) (number_at flows)
    → (j : ℕ) → j < length p.items + length p.items + length p.starts + length p.ends → IsGood p.nodes potentials (arc_at arcs j) (number_at flows j)
AreGood p arcs flows potentials sound suit root has_arcs has_flows j below =
    by_block (length p.items) (length p.items) (length p.starts) (length p.ends) j (λ j. IsGood p.nodes potentials (arc_at arcs j) (number_at flows j))
    (λ i within. rw (has_arcs.first i within, has_flows.first i within) (IsGood-limited p.nodes potentials (item_at p.items i) (sound_item p i sound within)))
    (λ i within. let x = sound_item p i sound within in
    rw (has_arcs.second i within, has_flows.second i within)
    (IsGood-empty p.nodes potentials (open_arc (item_at p.items i)) (omega (arith, ints)) (omega (arith, ints))
    (record { low = omega (arith, ints, x.between, x.high); high = omega (arith, ints, x.low) }) (omega (arith, ints, suit.items i within)) (omega (arith, x.from)) (omega (arith, x.to))))
    (λ s within. let x = sound_start p s sound within in
    rw (has_arcs.third s within, has_flows.third s within)
    (IsGood-empty p.nodes potentials (start_arc p.nodes (start_at p.starts s)) (omega (arith, ints)) (omega (arith, ints))
    (record { low = omega (arith, ints, x.time.high); high = omega (arith, ints, x.time.low) }) (omega (arith, ints, suit.starts s within, root)) (omega arith) (omega (arith, x.node))))
    (λ e within. let x = sound_end p e sound within in
    rw (has_arcs.fourth e within, has_flows.fourth e within)
    (IsGood-empty p.nodes potentials (end_arc p.nodes (end_at p.ends e)) (omega (arith, ints)) (omega (arith, ints))
    (record { low = omega (arith, ints, x.time.low); high = omega (arith, ints, x.time.high) }) (omega (arith, ints, suit.ends e within, root)) (omega (arith, x.node)) (omega arith)))
    below

-- the network of these lists
abbrev pub fresh_network : Problem → List Arc → List ℤ → List ℤ → List ℤ → Network
fresh_network p arcs flows kept potentials = record {
  nodes = p.nodes;
  items = length p.items;
  starts = length p.starts;
  ends = length p.ends;
  arcs = arcs;
  flows = flows;
  kept = kept;
  potentials = potentials;
  is_open = false;
}

-- what is known of the lists of a fresh network
pub record AreFreshLists (p : Problem) (arcs : List Arc) (flows kept potentials : List ℤ) : Type 0 where
  pub arcs_are : arcs ≡ arcs_from p
  pub flows_are : flows ≡ flows_from p potentials
  pub kept_are : kept ≡ potentials
  pub first : AreFirstTimes p potentials

arc_blocks : (p : Problem) (arcs : List Arc) (flows kept potentials : List ℤ) → AreFreshLists p arcs flows kept potentials
    → HasBlocks p limited_arc open_arc (start_arc p.nodes) (end_arc p.nodes) (arc_at arcs)
arc_blocks p arcs flows kept potentials fresh = HasBlocks-from_lists p limited_arc open_arc (start_arc p.nodes) (end_arc p.nodes) arcs (arc_at [] 0) fresh.arcs_are

flow_blocks : (p : Problem) (arcs : List Arc) (flows kept potentials : List ℤ) → AreFreshLists p arcs flows kept potentials
    → HasBlocks p (first_flow potentials) (λ _. pos 0) (λ _. pos 0) (λ _. pos 0) (number_at flows)
flow_blocks p arcs flows kept potentials fresh = HasBlocks-from_lists p (first_flow potentials) (λ _. pos 0) (λ _. pos 0) (λ _. pos 0) flows (pos 0) fresh.flows_are

pub AllWithin-first : (p : Problem) (potentials : List ℤ) → IsSound p → AreFirstTimes p potentials → AllWithin (pos (2 ^ 60)) potentials
AllWithin-first p potentials sound first v below = elim (cases_lt v p.nodes) [
  | inl is_node ↦
      let one = IsWithin-from_suit p (number_at potentials) v sound first.suit is_node in
      record { low = omega (arith, ints, one.low); high = omega (arith, ints, one.high) }
  | inr past ↦
      let is_root : v ≡ p.nodes = omega (arith, first.size, below, past) in
      let zero_there : number_at potentials v ≡ pos 0 = ap (number_at potentials) is_root ∙ first.root in
      record { low = omega (arith, ints, zero_there); high = omega (arith, ints, zero_there) }
]

HasShape-fresh : (p : Problem) (arcs : List Arc) → IsSound p → HasBlocks p limited_arc open_arc (start_arc p.nodes) (end_arc p.nodes) (arc_at arcs)
    → HasShape p.nodes (length p.items) (length p.starts) (length p.ends) arcs
HasShape-fresh p arcs sound blocks = record {
  limited_from = λ i within. rw (blocks.first i within) (sound_item p i sound within).from;
  limited_to = λ i within. rw (blocks.first i within) (sound_item p i sound within).to;
  open_from = λ i within. rw (blocks.second i within) (sound_item p i sound within).from;
  open_to = λ i within. rw (blocks.second i within) (sound_item p i sound within).to;
  open_limit = λ i within. rw (blocks.second i within) refl;
  start_from = λ s within. rw (blocks.third s within) refl;
  start_to = λ s within. rw (blocks.third s within) (sound_start p s sound within).node;
  start_limit = λ s within. rw (blocks.third s within) refl;
  end_from = λ e within. rw (blocks.fourth e within) (sound_end p e sound within).node;
  end_to = λ e within. rw (blocks.fourth e within) refl;
  end_limit = λ e within. rw (blocks.fourth e within) refl;
}

pub IsLawful-fresh : (p : Problem) (arcs : List Arc) (flows kept potentials : List ℤ) → IsSound p → AreFreshLists p arcs flows kept potentials
    → IsLawful (fresh_network p arcs flows kept potentials)
IsLawful-fresh p arcs flows kept potentials sound fresh =
    let size : length arcs ≡ length p.items + length p.items + length p.starts + length p.ends = ap length fresh.arcs_are ∙ length-blocks p limited_arc open_arc (start_arc p.nodes) (end_arc p.nodes) in
    let good : (j : ℕ) → j < length arcs → IsGood p.nodes potentials (arc_at arcs j) (number_at flows j)
    = λ j below. AreGood p arcs flows potentials sound fresh.first.suit fresh.first.root (arc_blocks p arcs flows kept potentials fresh) (flow_blocks p arcs flows kept potentials fresh) j (omega (arith, below, size)) in
    let reduced : (key : ℕ) → key < 2 * length arcs → HoldsReduced arcs flows potentials key
    = λ key below. HoldsReduced-from_pair arcs flows potentials key (good (key / 2) (omega (arith, below))).holds in
    let P : List ℤ → Type 0 = λ ps. (key : ℕ) → key < 2 * length arcs → HoldsReduced arcs flows ps key in
    record {
      sizes = record {
        arcs = size;
        flows = ap length fresh.flows_are ∙ length-blocks p (first_flow potentials) (λ _. pos 0) (λ _. pos 0) (λ _. pos 0) ∙ sym size;
        kept = ap length fresh.kept_are ∙ fresh.first.size;
        potentials = fresh.first.size;
        joins = record { from = λ j below. (good j below).from; to = λ j below. (good j below).to };
        shape = HasShape-fresh p arcs sound (arc_blocks p arcs flows kept potentials fresh);
        count = omega (arith, size, sound.limits.items, sound.limits.starts, sound.limits.ends);
      };
      flows = λ j below. (good j below).carries;
      reduced = subst P (sym fresh.kept_are) reduced;
      small = AllWithin-first p potentials sound fresh.first;
      root = fresh.first.root;
      kept_root = ap (λ ps. number_at ps p.nodes) fresh.kept_are ∙ fresh.first.root;
      closed = λ _. sym fresh.kept_are;
    }

pub Fits-fresh : (p : Problem) (arcs : List Arc) (flows kept potentials : List ℤ) → AreFreshLists p arcs flows kept potentials → Fits (fresh_network p arcs flows kept potentials) p
Fits-fresh p arcs flows kept potentials fresh =
    let blocks = arc_blocks p arcs flows kept potentials fresh in
    record {
      nodes = refl;
      items = refl;
      starts = refl;
      ends = refl;
      limited_arcs = blocks.first;
      open_arcs = blocks.second;
      start_arcs = blocks.third;
      end_arcs = blocks.fourth;
    }

pub IsFresh-fresh : (p : Problem) (arcs : List Arc) (flows kept potentials : List ℤ) → AreFreshLists p arcs flows kept potentials → IsFresh p (fresh_network p arcs flows kept potentials)
IsFresh-fresh p arcs flows kept potentials fresh =
    let blocks = flow_blocks p arcs flows kept potentials fresh in
    record {
      items = λ i within. omega (arith, ints, blocks.first i within, blocks.second i within);
      starts = λ s within. blocks.third s within;
      ends = λ e within. blocks.fourth e within;
      closed = refl;
    }
