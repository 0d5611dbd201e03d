-- A block is made gate by gate.
use Rattle.std.proofs.Common.{◌≡◌, ◌∙◌, ◌≤◌, ◌<◌, ◌+◌, ◌-◌, ◌++◌, ◌∷◌, [], ◌==◌, ◌%◌, ℕ, Bool, List, length, map, arith, ap, sym, subst}
use Rattle.std.specs.Prelude.{All}
use Rattle.std.specs.List.{range_with_len}
use Rattle.std.proofs.lemmas.List.{length_push}
use Rattle.std.proofs.lemmas.List.Elements.{All-nil, All-cons, All-append}
use Rattle.std.proofs.lemmas.List.FromFn.{map-range_with_len_more}
use Rattle.bud_gen.specs.declared.signals.Signal.{Signal}
use Rattle.bud_gen.specs.declared.gates.Gate.{Gate}
use Rattle.bud_gen.specs.declared.gates.GateInput.{GateInput}
use Rattle.bud_gen.specs.declared.gates.Block.{Block}
use Rattle.bud_gen.specs.Draws.{behind, draw}
use Rattle.bud_gen.specs.Signals.{inputs}
use Rattle.bud_gen.specs.Gates.{IsBlockBefore, IsSized, block, input, state, given, is_registered, gate, gate_from, signals}
use Rattle.bud_gen.proofs.DrawLemmas.{state_next}

list_more : {X : Type 0} (f : ℕ → X) (low g : ℕ) → low ≤ g
    → map f (range_with_len low (g + 1 - low)) ≡ map f (range_with_len low (g - low)) ++ f g ∷ []
list_more f low g from =
    let e : g + 1 - low ≡ (g - low) + 1 = omega (arith, from) in
    ap (λ n. map f (range_with_len low n)) e ∙ map-range_with_len_more f low (g - low) g (omega (arith, from))

-- the gate by what stands before it
gate_is : (number low g x : ℕ) (made : List Gate) (before : List Signal) → IsBlockBefore number low g x made before
    → gate_from x before g ≡ gate number low g
gate_is number low g x made before is = ap (λ y. gate_from y before g) is.state ∙ ap (λ s. gate_from (state number g) s g) is.signals

given_is : (number low g x : ℕ) (made : List Gate) (before : List Signal) → IsBlockBefore number low g x made before
    → given (gate_from x before g).is_registered g ≡ given (is_registered (state number g)) g
given_is number low g x made before is = ap (λ y. given (is_registered y) g) is.state

-- the next gate
pub block_next : (number low g x y : ℕ) (made made-next : List Gate) (before before-next : List Signal) (new : Gate) (signal : Signal)
    → IsBlockBefore number low g x made before → new ≡ gate_from x before g → signal ≡ given new.is_registered g → y ≡ behind x 7 → y < 2147483648
    → made-next ≡ made ++ new ∷ [] → before-next ≡ before ++ signal ∷ [] → IsBlockBefore number low (g + 1) y made-next before-next
block_next number low g x y made made-next before before-next new signal is new_is signal_is y_is range made-is before-is = record {
  from = omega (arith, is.from);
  gates = made-is ∙ ap (λ ns. ns ++ new ∷ []) is.gates
      ∙ ap (λ n. map (gate number low) (range_with_len low (g - low)) ++ n ∷ []) (new_is ∙ gate_is number low g x made before is)
      ∙ sym (list_more (gate number low) low g is.from);
  signals = before-is ∙ ap (λ ns. ns ++ signal ∷ []) is.signals
      ∙ ap (λ s. signals number low (g - low) ++ s ∷ []) (signal_is ∙ ap (λ (n : Gate). given n.is_registered g) new_is ∙ given_is number low g x made before is)
      ∙ ap (λ ns. inputs ++ ns) (sym (list_more (λ g. given (is_registered (state number g)) g) low g is.from));
  state = y_is ∙ state_next number g x is.state;
  range = range;
  inputs = omega (arith, is.inputs, ap (λ (ns : List Signal). length ns) before-is, length_push before signal);
  few = omega (arith, is.few, ap (λ (ns : List Gate). length ns) made-is, length_push made new);
}

-- the next block
pub blocks_next : (gates number k : ℕ) (made made-next : List Block) (new : Block) → made ≡ map (block gates number) (range_with_len 0 k) → new ≡ block gates number k
    → made-next ≡ made ++ new ∷ [] → made-next ≡ map (block gates number) (range_with_len 0 (k + 1))
blocks_next gates number k made made-next new made_is new_is next_is =
    next_is ∙ ap (λ ns. ns ++ new ∷ []) made_is ∙ ap (λ n. map (block gates number) (range_with_len 0 k) ++ n ∷ []) new_is
    ∙ sym (map-range_with_len_more (block gates number) 0 k k (omega arith))

pub sizes_next : (made made-next : List Block) (new : Block) → All IsSized made → IsSized new → made-next ≡ made ++ new ∷ [] → All IsSized made-next
sizes_next made made-next new sizes size next_is =
    subst (λ ns. All IsSized ns) (sym next_is) (All-append IsSized made (new ∷ []) sizes (All-cons IsSized new [] size (All-nil IsSized)))

abbrev gate_with : ℕ → GateInput → GateInput → Bool → Gate
gate_with g a b registered = record { number = g; a = a; b = b; is_registered = registered }

input_by : (before : List Signal) (d e h x y z : ℕ) → d ≡ x → e ≡ y → h ≡ z → input before d e h ≡ input before x y z
input_by before d e h x y z f k l = ap (λ v. input before v e h) f ∙ ap (λ v. input before x v h) k ∙ ap (λ v. input before x y v) l

-- the gate of seven draws
pub gate_of_draws : (x g d1 d2 d3 d4 d5 d6 d7 : ℕ) (before : List Signal) (a b : GateInput)
    → d1 ≡ draw x 1 → d2 ≡ draw x 2 → d3 ≡ draw x 3 → d4 ≡ draw x 4 → d5 ≡ draw x 5 → d6 ≡ draw x 6 → d7 ≡ draw x 7
    → a ≡ input before d1 d3 d6 → b ≡ input before d2 d4 d7
    → ◌≡◌ {A = Gate} (record { number = g; a = a; b = b; is_registered = d5 % 8 == 0 }) (gate_from x before g)
gate_of_draws x g d1 d2 d3 d4 d5 d6 d7 before a b e1 e2 e3 e4 e5 e6 e7 a_is b_is =
    ap (λ i. gate_with g i b (d5 % 8 == 0)) (a_is ∙ input_by before d1 d3 d6 (draw x 1) (draw x 3) (draw x 6) e1 e3 e6)
    ∙ ap (λ i. gate_with g (input before (draw x 1) (draw x 3) (draw x 6)) i (d5 % 8 == 0)) (b_is ∙ input_by before d2 d4 d7 (draw x 2) (draw x 4) (draw x 7) e2 e4 e7)
    ∙ ap (λ d. gate_with g (input before (draw x 1) (draw x 3) (draw x 6)) (input before (draw x 2) (draw x 4) (draw x 7)) (d % 8 == 0)) e5
