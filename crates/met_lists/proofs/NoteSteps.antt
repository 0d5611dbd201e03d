-- Exceptions are listed at one launch after another.
use Rattle.std.proofs.Common.{◌≡◌, ℕ, ◌<◌, ◌==◌, ◌&&◌, ◌||◌, not, Bool, true, false, List, [], length, set, arith, refl, sym, ◌∙◌, ap, inl, inr, eq-eqb, get_or-set_same, get_or-set_other, if◌then◌else◌}
use Rattle.std.proofs.Math.ListN.{length-set}
use Rattle.std.proofs.lemmas.Bool.{cases_eq, ne_eqb}
use Rattle.bud_design.specs.declared.layers.Class.{Class}
use Rattle.bud_design.specs.declared.layers.Met.{Met}
use Rattle.bud_design.specs.Layers.{class_number}
use Rattle.name_tables.specs.Chained.{key_at}
use Rattle.met_lists.specs.declared.lists.MetLists.{MetLists}
use Rattle.met_lists.specs.declared.turns.Turn.{Turn}
use Rattle.met_lists.specs.Turns.{met_by}
use Rattle.met_lists.specs.Lists.{turn_at, with_met, AreSized, Notes}

pub Notes-none : (t : Turn) (pins : List ℕ) (p : ℕ → Bool) (x : MetLists) → AreSized (length pins) x → ((v : ℕ) → v < length pins → p v ≡ false) → Notes t pins p x x
Notes-none t pins p x sizes none = record {
  sizes = sizes;
  turns = λ v below. rw (none v below) refl;
  classes = λ v below. rw (none v below) refl;
}

turns-join : (p q r : Bool) (turn old middle new : ℕ) → r ≡ (p || q) → middle ≡ (if p then turn else old) → new ≡ (if q then turn else middle) → new ≡ (if r then turn else old)
turns-join true true r turn old middle new is first second = rw is second
turns-join true false r turn old middle new is first second = rw is (second ∙ first)
turns-join false true r turn old middle new is first second = rw is second
turns-join false false r turn old middle new is first second = rw is (second ∙ first)

classes-join : (p q r : Bool) (turn old_turn middle_turn : ℕ) (m : Met) (old middle new : Class) → r ≡ (p || q) → middle_turn ≡ (if p then turn else old_turn)
    → middle ≡ (if p && not (old_turn == turn) then with_met old m else old) → new ≡ (if q && not (middle_turn == turn) then with_met middle m else middle)
    → new ≡ (if r && not (old_turn == turn) then with_met old m else old)
classes-join true true r turn old_turn middle_turn m old middle new is turns first second =
    let done : (middle_turn == turn) ≡ true = eq-eqb middle_turn turn turns in
    let stays : new ≡ middle = rw done at second in
    rw is (stays ∙ first)
classes-join true false r turn old_turn middle_turn m old middle new is turns first second = rw is (second ∙ first)
classes-join false true r turn old_turn middle_turn m old middle new is turns first second = rw is (rw (turns, first) at second)
classes-join false false r turn old_turn middle_turn m old middle new is turns first second = rw is (second ∙ first)

-- those that pass one test, and then those that pass another
pub Notes-join : (t : Turn) (pins : List ℕ) (p q r : ℕ → Bool) (x y z : MetLists) → ((v : ℕ) → v < length pins → r v ≡ (p v || q v)) → Notes t pins p x y → Notes t pins q y z → Notes t pins r x z
Notes-join t pins p q r x y z both first second = record {
  sizes = second.sizes;
  turns = λ v below. turns-join (p v) (q v) (r v) t.turn (turn_at x.turns.items v) (turn_at y.turns.items v) (turn_at z.turns.items v) (both v below) (first.turns v below) (second.turns v below);
  classes = λ v below.
      classes-join (p v) (q v) (r v) t.turn (turn_at x.turns.items v) (turn_at y.turns.items v) (met_by t (key_at pins v)) (class_number x.classes.items v) (class_number y.classes.items v)
      (class_number z.classes.items v) (both v below) (first.turns v below) (first.classes v below) (second.classes v below);
}

-- tests that agree on the launches
pub Notes-same : (t : Turn) (pins : List ℕ) (p q : ℕ → Bool) (x y : MetLists) → ((v : ℕ) → v < length pins → q v ≡ p v) → Notes t pins p x y → Notes t pins q x y
Notes-same t pins p q x y same notes = record {
  sizes = notes.sizes;
  turns = λ v below. rw (same v below) (notes.turns v below);
  classes = λ v below. rw (same v below) (notes.classes v below);
}

-- a launch that has met the exception in this turn stays
pub Notes-met : (t : Turn) (pins : List ℕ) (number : ℕ) (x : MetLists) → AreSized (length pins) x → turn_at x.turns.items number ≡ t.turn → Notes t pins (λ v. number == v) x x
Notes-met t pins number x sizes done = record {
  sizes = sizes;
  turns = λ v below. elim (cases_eq number v) [
    | inl same ↦ let is : (number == v) ≡ true = eq-eqb number v same in rw is (ap (turn_at x.turns.items) (sym same) ∙ done)
    | inr other ↦ let is : (number == v) ≡ false = ne_eqb number v other in rw is refl
  ];
  classes = λ v below. elim (cases_eq number v) [
    | inl same ↦
        let is : (turn_at x.turns.items v == t.turn) ≡ true = eq-eqb (turn_at x.turns.items v) t.turn (ap (turn_at x.turns.items) (sym same) ∙ done) in
        let one : (number == v) ≡ true = eq-eqb number v same in
        rw (one, is) refl
    | inr other ↦ let is : (number == v) ≡ false = ne_eqb number v other in rw is refl
  ];
}

-- another one is given the exception
pub Notes-new : (t : Turn) (pins : List ℕ) (number : ℕ) (k : Class) (x y : MetLists) → AreSized (length pins) x → number < length pins → (turn_at x.turns.items number == t.turn) ≡ false
    → y.turns.items ≡ set x.turns.items number t.turn → y.classes.items ≡ set x.classes.items number k → k ≡ with_met (class_number x.classes.items number) (met_by t (key_at pins number))
    → Notes t pins (λ v. number == v) x y
Notes-new t pins number k x y sizes below fresh turns classes given = record {
  sizes = record {
    classes = ap length classes ∙ (length-set x.classes.items number k ∙ sizes.classes);
    turns = ap length turns ∙ (length-set x.turns.items number t.turn ∙ sizes.turns);
  };
  turns = λ v within. elim (cases_eq number v) [
    | inl same ↦
        let is : (number == v) ≡ true = eq-eqb number v same in
        rw is (ap (λ xs. turn_at xs v) turns ∙ (ap (turn_at (set x.turns.items number t.turn)) (sym same) ∙ get_or-set_same x.turns.items number t.turn 0 (omega (arith, below, sizes.turns))))
    | inr other ↦
        let is : (number == v) ≡ false = ne_eqb number v other in
        rw is (ap (λ xs. turn_at xs v) turns ∙ get_or-set_other x.turns.items number v t.turn 0 (λ e. other (sym e)))
  ];
  classes = λ v within. elim (cases_eq number v) [
    | inl same ↦
        let one : (number == v) ≡ true = eq-eqb number v same in
        let is : (turn_at x.turns.items v == t.turn) ≡ false = ap (λ n. turn_at x.turns.items n == t.turn) (sym same) ∙ fresh in
        rw (one, is)
        (ap (λ ks. class_number ks v) classes
        ∙ (ap (class_number (set x.classes.items number k)) (sym same)
        ∙ (get_or-set_same x.classes.items number k (class_number [] 0) (omega (arith, below, sizes.classes))
        ∙ (given ∙ ap (λ n. with_met (class_number x.classes.items n) (met_by t (key_at pins n))) same))))
    | inr other ↦
        let is : (number == v) ≡ false = ne_eqb number v other in
        rw is (ap (λ ks. class_number ks v) classes ∙ get_or-set_other x.classes.items number v k (class_number [] 0) (λ e. other (sym e)))
  ];
}
