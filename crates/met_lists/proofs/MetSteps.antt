-- One exception after another is listed.
use Rattle.std.proofs.Common.{◌≡◌, ℕ, ◌+◌, ◌<◌, ◌≤◌, ◌==◌, ◌&&◌, not, Bool, true, false, List, [], ◌∷◌, ◌++◌, length, map, filter, take, get_or, arith, refl, sym, ◌∙◌, ap, if◌then◌else◌}
use Rattle.std.proofs.lemmas.Bool.{ne_eqb}
use Rattle.std.proofs.lemmas.List.{take_more, take_all, append-nil, map-append, length-map, get_or-map, ext_get_or}
use Rattle.std.proofs.lemmas.List.Elements.{filter-append}
use Rattle.bud_base.specs.declared.ids.PinId.{PinId}
use Rattle.bud_design.specs.declared.clocks.Constraints.{Constraints}
use Rattle.bud_design.specs.declared.clocks.Exception.{Exception}
use Rattle.bud_design.specs.declared.clocks.Launch.{Launch}
use Rattle.bud_design.specs.declared.layers.Class.{Class}
use Rattle.bud_design.specs.declared.layers.Met.{Met}
use Rattle.bud_design.specs.Exceptions.{has_pin, group_after, steps, names, meets_from, class_of}
use Rattle.bud_design.specs.Layers.{class_number}
use Rattle.bud_design.specs.TimingPaths.{launch_at}
use Rattle.name_tables.specs.Chained.{key_at}
use Rattle.met_lists.specs.declared.launches.LaunchTable.{LaunchTable}
use Rattle.met_lists.specs.declared.lists.MetLists.{MetLists}
use Rattle.met_lists.specs.declared.turns.Turn.{Turn}
use Rattle.met_lists.specs.Launches.{IsLaunchTable}
use Rattle.met_lists.specs.Lists.{turn_at, with_met, Notes}
use Rattle.met_lists.specs.Turns.{met_by, IsTurn}
use Rattle.met_lists.specs.Classes.{class_by, AreMet}

steps-one : (v : ℕ) (groups : List (List PinId)) → steps (v ∷ []) groups ≡ (if has_pin (group_after 0 groups) v then 1 else 0)
steps-one v [] = refl
steps-one v (g ∷ gs) = refl

abbrev met_of : Launch → Exception → Met
met_of l e = record { number = e.number; steps = steps (l.pin.0 ∷ []) e.groups }

more-met : (p : Exception → Bool) (l : Launch) (e : Exception) (es : List Exception) → map (met_of l) (filter p (es ++ e ∷ [])) ≡ map (met_of l) (filter p es) ++ (if p e then met_of l e ∷ [] else [])
more-met p l e es = ap (map (met_of l)) (filter-append p es (e ∷ [])) ∙ (map-append (met_of l) (filter p es) (filter p (e ∷ [])) ∙ ap (λ ms. map (met_of l) (filter p es) ++ ms) (one (p e) refl))
  where
    one : (b : Bool) → p e ≡ b → map (met_of l) (filter p (e ∷ [])) ≡ (if p e then met_of l e ∷ [] else [])
    one true is = rw is refl
    one false is = rw is refl

-- the class by one exception more
class-listed : (l : Launch) (b : Bool) (k : Class) (m : Met) (ms : List Met) → k ≡ record { clock = l.clock; edge = l.edge; exceptions = ms }
    → record { clock = l.clock; edge = l.edge; exceptions = ms ++ (if b then m ∷ [] else []) } ≡ (if b then with_met k m else k)
class-listed l true k m ms is = rw is refl
class-listed l false k m ms is = rw (is, append-nil ms) refl

class-more : (l : Launch) (e d : Exception) (es : List Exception) (i : ℕ) → i < length es → e ≡ get_or es i d
    → class_by (take (i + 1) es) l ≡ (if meets_from e l then with_met (class_by (take i es) l) (met_of l e) else class_by (take i es) l)
class-more l e d es i below is =
    ap (λ xs. class_by xs l) (take_more es i d below ∙ ap (λ x. take i es ++ x ∷ []) (sym is))
    ∙ (ap (λ (ms : List Met). record { clock = l.clock; edge = l.edge; exceptions = ms }) (more-met (λ x. meets_from x l) l e (take i es))
    ∙ class-listed l (meets_from e l) (class_by (take i es) l) (met_of l e) (map (met_of l) (filter (λ x. meets_from x l) (take i es))) refl)

-- what launches have met, by the keys of a table
sized-pins : (launches : List Launch) (table : LaunchTable) → IsLaunchTable launches table → length table.pins.keys.items ≡ length launches
sized-pins launches table tabled = ap length tabled.pins ∙ length-map launches (λ (l : Launch). l.pin.0)

pin_of : (launches : List Launch) (table : LaunchTable) (v : ℕ) → IsLaunchTable launches table → v < length launches → key_at table.pins.keys.items v ≡ (launch_at launches v).pin.0
pin_of launches table v tabled below = ap (λ ks. key_at ks v) tabled.pins ∙ get_or-map (λ (l : Launch). l.pin.0) launches v (launch_at [] 0) 0 below

clock_of : (launches : List Launch) (table : LaunchTable) (v : ℕ) → IsLaunchTable launches table → v < length launches → key_at table.clocks.keys.items v ≡ (launch_at launches v).clock
clock_of launches table v tabled below = ap (λ ks. key_at ks v) tabled.clocks ∙ get_or-map (λ (l : Launch). l.clock) launches v (launch_at [] 0) 0 below

met-is : (l : Launch) (e : Exception) (t : Turn) (turn : ℕ) → IsTurn turn e t → met_by t l.pin.0 ≡ met_of l e
met-is l e t turn is =
    ap (λ (b : Bool). record { number = t.number; steps = if b then 1 else 0 }) (is.pins l.pin.0)
    ∙ (ap (λ (n : ℕ). record { number = n; steps = if has_pin (group_after 0 e.groups) l.pin.0 then 1 else 0 }) is.number
    ∙ ap (λ (s : ℕ). record { number = e.number; steps = s }) (sym (steps-one l.pin.0 e.groups)))

late-turn : (b : Bool) (turn old new count : ℕ) → turn ≡ count + 1 → old ≤ count → new ≡ (if b then turn else old) → new ≤ count + 1
late-turn true turn old new count is before noted = let same : new ≡ turn = noted in omega (arith, is, same)
late-turn false turn old new count is before noted = let same : new ≡ old = noted in omega (arith, before, same)

given : (b : Bool) (turn old_turn count : ℕ) (m : Met) (old new : Class) → turn ≡ count + 1 → old_turn ≤ count → new ≡ (if b && not (old_turn == turn) then with_met old m else old) → new ≡ (if b then with_met old m else old)
given false turn old_turn count m old new is before noted = noted
given true turn old_turn count m old new is before noted = let fresh : (old_turn == turn) ≡ false = ne_eqb old_turn turn (λ e. omega (arith, is, before, e)) in rw fresh at noted

-- the launches meet the next exception
pub AreMet-next : (launches : List Launch) (es : List Exception) (i : ℕ) (e d : Exception) (table : LaunchTable) (t : Turn) (x y : MetLists) → i < length es → e ≡ get_or es i d
    → IsLaunchTable launches table → IsTurn (i + 1) e t → AreMet launches es i x
    → Notes t table.pins.keys.items (λ v. names e.from (key_at table.pins.keys.items v) (key_at table.clocks.keys.items v)) x y → AreMet launches es (i + 1) y
AreMet-next launches es i e d table t x y below is tabled turn so_far notes =
    let size = sized-pins launches table tabled in
    record {
      sizes = record { classes = notes.sizes.classes ∙ size; turns = notes.sizes.turns ∙ size };
      turns = λ v within.
          late-turn (names e.from (key_at table.pins.keys.items v) (key_at table.clocks.keys.items v)) t.turn (turn_at x.turns.items v) (turn_at y.turns.items v) i turn.turn_is (so_far.turns v within)
          (notes.turns v (omega (arith, within, size)));
      classes = λ v within.
          let l = launch_at launches v in
          let pin = pin_of launches table v tabled within in
          let clock = clock_of launches table v tabled within in
          let new =
          given (names e.from (key_at table.pins.keys.items v) (key_at table.clocks.keys.items v)) t.turn (turn_at x.turns.items v) i (met_by t (key_at table.pins.keys.items v))
          (class_number x.classes.items v) (class_number y.classes.items v) turn.turn_is (so_far.turns v within) (notes.classes v (omega (arith, within, size)))
          in
          let old = class_number x.classes.items v in
          new
          ∙ (ap (λ p. if names e.from p (key_at table.clocks.keys.items v) then with_met old (met_by t p) else old) pin
          ∙ (ap (λ k. if names e.from l.pin.0 k then with_met old (met_by t l.pin.0) else old) clock
          ∙ (ap (λ m. if names e.from l.pin.0 l.clock then with_met (class_number x.classes.items v) m else class_number x.classes.items v) (met-is l e t (i + 1) turn)
          ∙ (ap (λ k. if names e.from l.pin.0 l.clock then with_met k (met_of l e) else k) (so_far.classes v within) ∙ sym (class-more l e d es i below is)))));
    }

-- the launches have met all exceptions
pub AreMet-all : (all : Constraints) (x : MetLists) → AreMet all.launches all.exceptions (length all.exceptions) x → x.classes.items ≡ map (λ l. class_of all l (l.pin.0 ∷ [])) all.launches
AreMet-all all x are =
    ext_get_or (class_number [] 0) x.classes.items (map (λ l. class_of all l (l.pin.0 ∷ [])) all.launches) (are.sizes.classes ∙ sym (length-map all.launches (λ l. class_of all l (l.pin.0 ∷ []))))
    (λ v below.
    let within : v < length all.launches = omega (arith, below, are.sizes.classes) in
    are.classes v within
    ∙ (ap (λ es. class_by es (launch_at all.launches v)) (take_all (length all.exceptions) all.exceptions (omega arith))
    ∙ sym (get_or-map (λ l. class_of all l (l.pin.0 ∷ [])) all.launches v (launch_at [] 0) (class_number [] 0) within)))
