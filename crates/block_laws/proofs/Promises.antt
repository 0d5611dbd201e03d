-- Files that keep the piece law compose, and the budgets meet each of them.
use Rattle.std.specs.Prelude.{◌≡◌, ℕ, suc, ◌<◌, ◌==◌, ℤ, ◌≤ℤ◌, Bool, true, false, List, [], ◌∷◌, map, filter, length, All, Contains, Option, None, unwrap_or, slice_index_or}
use Rattle.std.specs.List.{range_with_len}
use Rattle.std.proofs.Common.{refl, sym, ◌∙◌, ap, subst, arith, inl, inr, eq-eqb}
use Rattle.std.proofs.lemmas.List.{length-map, get_or-map}
use Rattle.std.proofs.lemmas.List.FromFn.{length-range_with_len, get_or-range_with_len, length-map-range_with_len, get_or-map-range_with_len}
use Rattle.bud_base.specs.declared.ids.ArcId.{ArcId}
use Rattle.bud_base.specs.declared.ids.ItemId.{ItemId}
use Rattle.bud_design.specs.declared.clocks.Constraints.{Constraints}
use Rattle.bud_design.specs.declared.layers.LayerItem.{LayerItem}
use Rattle.bud_design.specs.declared.layers.Layered.{Layered}
use Rattle.bud_design.specs.declared.policies.NumberedCommand.{NumberedCommand}
use Rattle.bud_design.specs.declared.policies.Policy.{Policy}
use Rattle.bud_design.specs.declared.timings.Check.{Check}
use Rattle.bud_design.specs.declared.timings.Timing.{Timing}
use Rattle.bud_design.specs.Arcs.{Arc, arc_at}
use Rattle.bud_design.specs.Correspondences.{arc_of_item}
use Rattle.bud_design.specs.Designs.{Design}
use Rattle.bud_design.specs.Layers.{class_number}
use Rattle.bud_design.specs.Lists.{least}
use Rattle.bud_design.specs.TimingPaths.{View, MeetsUnder, sum_over}
use Rattle.bud_design.proofs.NodeLaws as nodes
use Rattle.bud_flow.specs.Sums.{number_at}
use Rattle.bud_plans.specs.Budgets.{SuitBudgets}
use Rattle.requirements.specs.Constraining.{AreConstraints}
use Rattle.requirements.proofs.Members.{contains-cases, contains-map}
use Rattle.block_theory.specs.BlockPorts.{Context}
use Rattle.block_theory.specs.Blocks.{IsBlock, AreBlocks, through_inside}
use Rattle.block_theory.specs.Composition.{BlockFile, places_of, Compose, budgets_of, least_budget, budget_numbers}
use Rattle.block_theory.specs.Meeting.{Numbers, AreNumbers, delay_in, with_amounts, subject_with, MeetsCommands}
use Rattle.block_theory.specs.Pieces.{ArePieces, block_view}
use Rattle.block_theory.proofs.Groups.{through-each}
use Rattle.block_laws.specs.LayeredDesigns.{IsLayeredDesign, FilesKeepPieces}
use Rattle.block_laws.specs.Meeting.{with_captures, PiecesMeet}
use Rattle.block_laws.specs.Standing.{block_context}
use Rattle.block_laws.proofs.Budgets.{pieces-within}
use Rattle.block_laws.proofs.Composing.{paths-meet}
use Rattle.block_laws.proofs.Leasts.{IsLeastOf-cons}
use Rattle.block_laws.proofs.Readings.{PathsStand-given, top-same, AskAlike-given}
use Rattle.block_laws.proofs.Standing.{block_at}

-- ---- members of filtered lists
filter-has : {X : Type 0} (p : X → Bool) (xs : List X) (x : X) → Contains xs x → p x ≡ true → Contains (filter p xs) x
filter-has p [] x has passes = absurd (omega (arith, has.1))
filter-has {X} p (y ∷ ys) x has passes = elim (contains-cases y ys x has) [
  | inl here ↦ (let same : filter p (y ∷ ys) ≡ y ∷ filter p ys = rw (ap p here ∙ passes) refl in subst (λ (zs : List X). Contains zs x) (sym same) (0, omega arith, here))
  | inr later ↦ more (p y) refl (filter-has p ys x later passes)
]
  where
    more : (b : Bool) → p y ≡ b → Contains (filter p ys) x → Contains (filter p (y ∷ ys)) x
    more true e rest = (let same : filter p (y ∷ ys) ≡ y ∷ filter p ys = rw e refl in subst (λ (zs : List X). Contains zs x) (sym same) (suc rest.0, omega (arith, rest.1), rest.2))
    more false e rest = (let same : filter p (y ∷ ys) ≡ filter p ys = rw e refl in subst (λ (zs : List X). Contains zs x) (sym same) rest)

least-most : (zs : List ℤ) (z other : ℤ) → Contains zs z → unwrap_or (least zs) other ≤ℤ z
least-most [] z other has = absurd (omega (arith, has.1))
least-most (y ∷ ys) z other has =
    let one = IsLeastOf-cons y ys in
    subst (λ m. m ≤ℤ z) (sym (ap (λ o. unwrap_or o z) one.1.is)) (one.1.most z has)

-- checks at their own amounts are the checks
pub amounts-own : (xs : List Check) → with_amounts xs (map (λ x. x.amount) xs) ≡ xs
amounts-own [] = refl
amounts-own (x ∷ xs) = ap (λ ys. x ∷ ys) (amounts-own xs)

-- where a block meets its file, its pieces meet their rooms
pieces-meet : (x : Context) (arcs : List Arc) (arrivals : List ℤ) (top block : Constraints) (delay : ArcId → ℤ) → ArePieces x arcs arrivals top block → MeetsUnder (block_view x arcs block) delay
    → PiecesMeet x arcs arrivals top delay
pieces-meet x arcs arrivals top block delay are meets = λ u k cs piece.
    let there = are.complete u k cs piece in
    record {
      room = there.1.0;
      has_room = there.1.1.1;
      within = subst (λ ys. sum_over delay ys ≤ℤ there.1.0) there.1.1.2 (meets there.0 there.1.0 there.1.1.0.constrained);
    }

module _ (d : Design) (t : Timing) (arcs : List Arc) (commands : List NumberedCommand) (all : Constraints) (policy : Policy) (layered : Layered) (budgets arrivals : List ℤ) (reached : List (Option ℕ))
    (files : List BlockFile) (given : IsLayeredDesign d t arcs commands all policy layered) (suit : SuitBudgets layered.problem budgets arrivals)
    (are : AreBlocks d (places_of files)) (through : through_inside d (places_of files) all.exceptions ≡ None)
    (keep : FilesKeepPieces d t arcs commands all layered reached arrivals files) where
  abbrev read : View
  read = record { design = d; root = 0; arcs = arcs; all = all }

  abbrev no_file : BlockFile
  no_file = record { place = 0; commands = [] }

  abbrev file_at : ℕ → BlockFile
  file_at i = slice_index_or files i no_file

  count-same : length (places_of files) ≡ length files
  count-same = length-map files (λ f. f.place)

  place-at : (i : ℕ) → i < length files → block_at (places_of files) i ≡ (file_at i).place
  place-at i below = get_or-map (λ f. f.place) files i no_file 0 below

  through-at : (i : ℕ) → i < length (places_of files) → through_inside d (block_at (places_of files) i ∷ []) all.exceptions ≡ None
  through-at i below = through-each d (places_of files) all.exceptions through i 0 below

  -- ---- composition
  module _ (n : Numbers) (numbers : AreNumbers arcs t n) (top : Constraints) (holds : AreConstraints (subject_with d 0 t n) commands top)
      (meets : All (λ f. MeetsCommands d f.place t arcs f.commands n) files) where
    file-meets : (i : ℕ) → i < length files → PiecesMeet (block_context d t all layered reached (file_at i).place) arcs arrivals top (delay_in n)
    file-meets i below =
        let law = keep i no_file below in
        let accepted = law.accepted n numbers in
        let resolved = subst (λ (cs : List NumberedCommand). AreConstraints (subject_with d (file_at i).place t n) cs accepted.0) law.commands_are accepted.1 in
        pieces-meet (block_context d t all layered reached (file_at i).place) arcs arrivals top accepted.0 (delay_in n) (law.pieces n top accepted.0 numbers holds resolved)
        (meets i no_file below accepted.0 accepted.1)

    block-meets : (i : ℕ) → i < length (places_of files) → PiecesMeet (block_context d t all layered reached (block_at (places_of files) i)) arcs arrivals (with_captures all top.captures) (delay_in n)
    block-meets i below =
        let within : i < length files = omega (arith, below, count-same) in
        subst (λ b. PiecesMeet (block_context d t all layered reached b) arcs arrivals (with_captures all top.captures) (delay_in n)) (sym (place-at i within))
        (subst (λ (c : Constraints). PiecesMeet (block_context d t all layered reached (file_at i).place) arcs arrivals c (delay_in n))
        (top-same d t arcs commands all policy layered given n numbers.amounts top holds) (file-meets i within))

  pub Compose-files : Compose d t arcs commands layered budgets files
  Compose-files = λ n numbers meets glue kept top holds.
      subst (λ (c : Constraints). MeetsUnder (record { design = d; root = 0; arcs = arcs; all = c }) (delay_in n))
      (sym (top-same d t arcs commands all policy layered given n numbers.amounts top holds))
      (paths-meet d t arcs all layered arrivals top.captures (places_of files) (length d.pins) given.design given.homes given.sound
      (PathsStand-given d t arcs commands all policy layered given) are (AskAlike-given d t arcs commands all policy layered given n numbers.amounts top holds (places_of files) kept)
      policy budgets given.layering suit reached (delay_in n) through-at (block-meets n numbers top holds meets) glue)

  -- ---- the budgets
  abbrev least_numbers : Numbers
  least_numbers = budget_numbers t arcs layered budgets

  item-budgeted : (j : ItemId) → j.0 < length layered.items → delay_in least_numbers (arc_of_item layered.items j) ≤ℤ number_at budgets j.0
  item-budgeted j below =
      let none : LayerItem = record { arc = record { 0 = 0 }; «class» = record { 0 = 0 } } in
      let x : LayerItem = slice_index_or layered.items j.0 none in
      let item = given.layering.items.sound j.0 none below in
      let arc_below = (nodes.IsItemSplit-from_item read given.sound.numbers (λ n. Unit {0}) x.arc (class_number layered.classes x.«class».0) item.item tt).below in
      let value : delay_in least_numbers x.arc ≡ least_budget arcs layered budgets x.arc.0
      = get_or-map-range_with_len (least_budget arcs layered budgets) 0 (length arcs) x.arc.0 x.arc.0 _ arc_below (omega arith) in
      let there : Contains (range_with_len 0 (length layered.items)) j.0
      = (j.0, omega (arith, below, length-range_with_len 0 (length layered.items)), get_or-range_with_len 0 (length layered.items) j.0 j.0 below ∙ omega arith) in
      let kept = filter-has (λ i. (arc_of_item layered.items (record { 0 = i })).0 == x.arc.0) (range_with_len 0 (length layered.items)) j.0 there (eq-eqb x.arc.0 x.arc.0 refl) in
      let member = contains-map (number_at budgets) (filter (λ i. (arc_of_item layered.items (record { 0 = i })).0 == x.arc.0) (range_with_len 0 (length layered.items))) j.0 kept in
      rw value (least-most (budgets_of layered budgets x.arc.0) (number_at budgets j.0) (arc_at arcs x.arc.0).least member)

  numbers-are : AreNumbers arcs t least_numbers
  numbers-are = record {
    delays = length-map-range_with_len (least_budget arcs layered budgets) 0 (length arcs);
    amounts = length-map t.checks (λ x. x.amount);
  }

  whole-held : AreConstraints (subject_with d 0 t least_numbers) commands all
  whole-held =
      subst (λ (cs : List Check). AreConstraints (record { design = d; root = 0; timing = record { wires = t.wires; pairs = t.pairs; checks = cs; edges = t.edges; left_out = t.left_out } }) commands all)
      (sym (amounts-own t.checks)) given.constraints

  pub budgets-meet : All (λ f. MeetsCommands d f.place t arcs f.commands (budget_numbers t arcs layered budgets)) files
  budgets-meet i e below = λ block holds path room constrained.
      let law = keep i e below in
      let f = slice_index_or files i e in
      let within : i < length (places_of files) = omega (arith, below, count-same) in
      let resolved = subst (λ (cs : List NumberedCommand). AreConstraints (subject_with d f.place t least_numbers) cs block) law.commands_are holds in
      let pieces = law.pieces least_numbers all block numbers-are whole-held resolved in
      let is = pieces.sound path room constrained in
      let place = get_or-map (λ f. f.place) files i e 0 below in
      pieces-within d t arcs all policy layered budgets arrivals (length d.pins) given.design given.homes given.sound (PathsStand-given d t arcs commands all policy layered given) given.layering suit
      (delay_in least_numbers) item-budgeted reached f.place (subst (λ b. IsBlock d b) place (are.each i 0 within)) (subst (λ b. through_inside d (b ∷ []) all.exceptions ≡ None) place (through-at i within))
      _ is.0 path.arcs room is.1.1
