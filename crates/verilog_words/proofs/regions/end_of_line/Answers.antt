use Rattle.std.proofs.Common.{◌≡◌, ℕ, ◌+◌, ◌-◌, ◌≤◌, ◌<◌, true, false, take, drop, length, length-drop, get_or, List, refl, sym, ap, ◌∙◌, arith}
use Rattle.std.specs.List.{prefix_len}
use Rattle.std.proofs.lemmas.List.{take_rest}
use Rattle.std.proofs.lemmas.List.Sums.{prefix_len_is}
use Rattle.verilog_lex.specs.Fronts.{is_of_line}
use Rattle.verilog_words.proofs.regions.end_of_line.Goals as goal

-- the bytes from an offset on, up to a line feed, or up to the end
line_end : (text : List ℕ) (at n : ℕ) → n ≤ length (take (length text - at) (drop at text)) →
    ((k : ℕ) → k < n → is_of_line (get_or (take (length text - at) (drop at text)) k 0) ≡ true) →
    (n < length (take (length text - at) (drop at text)) → is_of_line (get_or (take (length text - at) (drop at text)) n 0) ≡ false) →
    at + n ≡ at + prefix_len is_of_line (drop at text)
line_end text at n within passed stops =
    ap (λ k. at + k) (sym (prefix_len_is is_of_line (take (length text - at) (drop at text)) n 0 within passed stops) ∙ ap (prefix_len is_of_line) (take_rest text at))

is_feed : (b : ℕ) → b ≡ 10 → is_of_line b ≡ false
is_feed b is = rw is refl

pub returns-then-byte-eq10 : goal.returns-then-byte-eq10
returns-then-byte-eq10 c = line_end c.args.text.now c.args.at c.loop-i.i (omega arith) c.loop-i.invariant (λ _. is_feed _ c.if-byte-eq10.true)

pub returns : goal.returns
returns c =
    let long : length (take (length c.args.text.now - c.args.at) (drop c.args.at c.args.text.now)) ≡ length c.args.text.now - c.args.at =
    ap length (take_rest c.args.text.now c.args.at) ∙ length-drop c.args.at c.args.text.now in
    let sum : length c.args.text.now ≡ c.args.at + (length c.args.text.now - c.args.at) = omega arith in
    sum
    ∙ line_end c.args.text.now c.args.at (length c.args.text.now - c.args.at) (omega arith) (λ k h. c.loop-i.invariant k (omega arith)) (λ h. absurd (omega arith))
