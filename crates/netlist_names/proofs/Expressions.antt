-- Expressions, ranges and lists leave tokens that are spelled as their kinds.
use Rattle.std.proofs.Common.{◌≡◌, ℕ, ◌+◌, ◌==◌, ◌&&◌, nat_lt, Bool, true, Option, Some, None, List, [], ◌∷◌, length, drop, subst}
use Rattle.std.specs.Str.{byte}
use Rattle.std.specs.List.{list_all, AllByRecursion}
use Rattle.std.proofs.lemmas.Option.{same_Some}
use Rattle.text_scan.specs.Repeat.{Runs, repeat}
use Rattle.text_scan.specs.Repeat.Runs.{over, turn as further}
use Rattle.text_scan.proofs.Binds.{step, by_test}
use Rattle.text_scan.proofs.RepeatLaws.{repeat_sound}
use Rattle.verilog_lex.specs.Kinds.{bytes_of}
use Rattle.verilog_lex.specs.declared.kinds.Token.{Token}
use Rattle.verilog_reader.specs.Left.{Left, Production, Word, size, next, begins}
use Rattle.verilog_reader.specs.Words.{sign, is_sign}
use Rattle.verilog_reader.specs.Names.{id}
use Rattle.verilog_reader.specs.Numbers.{number, num, range, maybe_range, value_up_to}
use Rattle.verilog_reader.specs.Constants.{constant, spelled, digits, digits_from, behind_digits, is_digit_of, radix_in, is_width}
use Rattle.verilog_reader.specs.Pieces.{piece, net, select, select_end, is_number}
use Rattle.verilog_reader.specs.Joining.{Joint, is_done, turn, wanted_turn, behind_turn, expr}
use Rattle.verilog_reader.specs.Lists.{separated, behind_comma, has_no_comma}
use Rattle.verilog_reader.specs.Links.{ends_link, maybe_expr}
use Rattle.bud_syntax.specs.declared.modules.Piece.{Piece}
use Rattle.bud_syntax.specs.declared.modules.Range.{Range}
use Rattle.netlist_names.proofs.Spelled.{AreSpelled, Kept, tested, next-kept, sign-kept, id-kept, word-kept, num-kept, breach-kept}

-- ---- constants
digits-behind : (radix : ℕ) (text : List ℕ) (end : ℕ) (ts : List Token) → AreSpelled text ts → AreSpelled text (behind_digits radix text end ts)
digits-behind radix text end [] kept = tt
digits-behind radix text end (t ∷ ts) kept = by_test (t.at == end && list_all (is_digit_of radix) (bytes_of text t))
    (λ are. rw are (digits-behind radix text (t.at + length (bytes_of text t)) ts kept.1))
    (λ none. rw none kept)

from-kept : (radix skipped : ℕ) (word : Word) (s t : Left) → digits_from radix skipped word s ≡ Some t → Kept s → Kept t
from-kept radix skipped word s t read kept =
    subst Kept (tested (list_all (is_digit_of radix) (drop skipped word.bytes)) _ t read).1 (digits-behind radix s.text (word.at + length word.bytes) s.tokens kept)

digits-kept : (radix : ℕ) (word : Word) (s t : Left) → digits radix word s ≡ Some t → Kept s → Kept t
unfolding digits
digits-kept radix word s t read kept = by_test (nat_lt 1 (length word.bytes))
    (λ in_word. from-kept radix 1 word s t (rw in_word at read) kept)
    (λ behind_word. step (next s) _ t (rw behind_word at read) (λ q is_next behind. from-kept radix 0 q.0 q.1 t behind (next-kept s q is_next kept).1))

spelled-kept : (s t : Left) → spelled s ≡ Some t → Kept s → Kept t
unfolding spelled
spelled-kept s t read kept = step (next s) _ t read (λ q is_next behind.
    step (radix_in q.0) _ t behind (λ radix is_radix others. digits-kept radix q.0 q.1 t others (next-kept s q is_next kept).1))

-- ---- what a production leaves
abbrev pub Keeps : {X : Type 0} → Production X → Type 0
Keeps {X} production = (s : Left) (r : X × Left) → production s ≡ Some r → Kept s → Kept r.1

abbrev After : {X : Type 0} → X × Left → Type 0
After r = Kept r.1

constant-kept : Keeps constant
unfolding constant
constant-kept s r read kept = step (number s) _ r read (λ q is_number behind.
    step (sign (byte "'") q.1) _ r behind (λ t is_tick others.
    step (spelled t) _ r others (λ u is_spelled whole.
    subst (After {X = Piece}) (same_Some _ r whole)
    (breach-kept (is_width (value_up_to q.0.bytes)) q.0.at u (spelled-kept t u is_spelled (sign-kept (byte "'") q.1 t is_tick (word-kept s q is_number kept)))))))

end-kept : (name : List ℕ) (first : ℕ) → Keeps (select_end name first)
unfolding select_end
end-kept name first s r read kept = by_test (begins (is_sign (byte ":")) s)
    (λ colon. step (sign (byte ":") s) _ r (rw colon at read) (λ t is_colon behind.
    step (num t) _ r behind (λ q is_num others.
    step (sign (byte "]") q.1) _ r others (λ u is_end whole.
    subst (After {X = Piece}) (same_Some _ r whole) (sign-kept (byte "]") q.1 u is_end (num-kept t q is_num (sign-kept (byte ":") s t is_colon kept)))))))
    (λ bare. step (sign (byte "]") s) _ r (rw bare at read) (λ u is_end whole. subst (After {X = Piece}) (same_Some _ r whole) (sign-kept (byte "]") s u is_end kept)))

select-kept : (name : List ℕ) → Keeps (select name)
unfolding select
select-kept name s r read kept = step (sign (byte "[") s) _ r read (λ t is_open behind.
    step (num t) _ r behind (λ q is_num others. end-kept name q.0 q.1 r others (num-kept t q is_num (sign-kept (byte "[") s t is_open kept))))

net-kept : Keeps net
unfolding net
net-kept s r read kept = step (id s) _ r read (λ q is_id behind.
    let found = (id-kept s q is_id kept).0 in
    by_test (begins (is_sign (byte "[")) q.1)
    (λ selects. select-kept q.0.name q.1 r (rw selects at behind) found)
    (λ bare. subst (After {X = Piece}) (same_Some _ r (rw bare at behind)) found))

piece-kept : Keeps piece
unfolding piece
piece-kept s r read kept = by_test (begins is_number s)
    (λ counts. constant-kept s r (rw counts at read) kept)
    (λ bare. net-kept s r (rw bare at read) kept)

-- ---- expressions
abbrev Turned : Option Piece × Joint → Type 0
Turned r = Kept r.1.rest

wanted-kept : (depth : ℕ) (s : Left) (r : Option Piece × Joint) → wanted_turn depth s ≡ Some r → Kept s → Kept r.1.rest
unfolding wanted_turn
wanted-kept depth s r read kept = by_test (begins (is_sign (byte "{")) s)
    (λ opens. step (sign (byte "{") s) _ r (rw opens at read) (λ t is_open whole. subst Turned (same_Some _ r whole) (sign-kept (byte "{") s t is_open kept)))
    (λ bare. step (piece s) _ r (rw bare at read) (λ q is_piece whole. subst Turned (same_Some _ r whole) (piece-kept s q is_piece kept)))

behind-kept : (depth : ℕ) (s : Left) (r : Option Piece × Joint) → behind_turn depth s ≡ Some r → Kept s → Kept r.1.rest
unfolding behind_turn
behind-kept depth s r read kept = by_test (begins (is_sign (byte ",")) s)
    (λ comma. step (sign (byte ",") s) _ r (rw comma at read) (λ t is_comma whole. subst Turned (same_Some _ r whole) (sign-kept (byte ",") s t is_comma kept)))
    (λ closes. step (sign (byte "}") s) _ r (rw closes at read) (λ t is_close whole. subst Turned (same_Some _ r whole) (sign-kept (byte "}") s t is_close kept)))

turn-kept : (j : Joint) (r : Option Piece × Joint) → turn j ≡ Some r → Kept j.rest → Kept r.1.rest
turn-kept j r read kept = by_test j.wanted
    (λ wanted. wanted-kept j.depth j.rest r (rw wanted at read) kept)
    (λ behind. behind-kept j.depth j.rest r (rw behind at read) kept)

turns-kept : (j k : Joint) (xs : List (Option Piece)) → Runs is_done turn j xs k → Kept j.rest → Kept k.rest
turns-kept _ _ _ (over j done) kept = kept
turns-kept _ _ _ (further j k end x xs goes read runs) kept = turns-kept k end xs runs (turn-kept j (x, k) read kept)

pub expr-kept : Keeps expr
unfolding expr
expr-kept s r read kept =
    let j : Joint = record { depth = 0; wanted = true; rest = s } in
    step (repeat is_done turn (size s) j) _ r read (λ q is_read behind.
    subst (After {X = List Piece}) (same_Some _ r behind) (turns-kept j q.1 q.0 (repeat_sound is_done turn (size s) j q.0 q.1 is_read) kept))

pub maybe_expr-kept : Keeps maybe_expr
unfolding maybe_expr
maybe_expr-kept s r read kept = by_test (begins ends_link s)
    (λ ends. subst (After {X = List Piece}) (same_Some ([], s) r (rw ends at read)) kept)
    (λ bare. expr-kept s r (rw bare at read) kept)

-- ---- ranges
range-kept : Keeps range
unfolding range
range-kept s r read kept = step (sign (byte "[") s) _ r read (λ a is_open b1.
    step (num a) _ r b1 (λ b is_first b2.
    step (sign (byte ":") b.1) _ r b2 (λ c is_colon b3.
    step (num c) _ r b3 (λ d is_last b4.
    step (sign (byte "]") d.1) _ r b4 (λ e is_end whole.
    subst (After {X = Range}) (same_Some _ r whole)
    (sign-kept (byte "]") d.1 e is_end (num-kept c d is_last (sign-kept (byte ":") b.1 c is_colon (num-kept a b is_first (sign-kept (byte "[") s a is_open kept))))))))))

pub maybe_range-kept : Keeps maybe_range
unfolding maybe_range
maybe_range-kept s r read kept = by_test (begins (is_sign (byte "[")) s)
    (λ opens. step (range s) _ r (rw opens at read) (λ q is_range whole. subst (After {X = Option Range}) (same_Some _ r whole) (range-kept s q is_range kept)))
    (λ bare. subst (After {X = Option Range}) (same_Some (None, s) r (rw bare at read)) kept)

-- ---- lists with commas: what is left, and this of each element
abbrev pub Gives : {X : Type 0} → (X → Type 0) → Production X → Type 0
Gives {X} P production = (s : Left) (r : X × Left) → production s ≡ Some r → Kept s → Kept r.1 × P r.0

comma-gives : {X : Type 0} (P : X → Type 0) (production : Production X) → Gives P production → Gives P (behind_comma production)
unfolding behind_comma
comma-gives P production gives s r read kept = step (sign (byte ",") s) _ r read (λ t is_comma behind. gives t r behind (sign-kept (byte ",") s t is_comma kept))

pub runs-give : {X : Type 0} (P : X → Type 0) (stops : Left → Bool) (production : Production X) → Gives P production →
    (s u : Left) (xs : List X) → Runs stops production s xs u → Kept s → Kept u × AllByRecursion P xs
runs-give P stops production gives _ _ _ (over s ends) kept = (kept, tt)
runs-give P stops production gives _ _ _ (further s t u x xs goes read runs) kept =
    let given = gives s (x, t) read kept in
    let others = runs-give P stops production gives t u xs runs given.0 in
    (others.0, (given.1, others.1))

pub separated-gives : {X : Type 0} (P : X → Type 0) (production : Production X) → Gives P production → Gives (AllByRecursion P) (separated production)
unfolding separated
separated-gives {X} P production gives s r read kept = step (production s) _ r read (λ q is_first behind.
    step (repeat has_no_comma (behind_comma production) (size q.1) q.1) _ r behind (λ u are_others whole.
    let Q : List X × Left → Type 0 = λ v. Kept v.1 × AllByRecursion P v.0 in
    let given = gives s q is_first kept in
    let others = runs-give P has_no_comma (behind_comma production) (comma-gives P production gives) q.1 u.1 u.0
    (repeat_sound has_no_comma (behind_comma production) (size q.1) q.1 u.0 u.1 are_others) given.0 in
    subst Q (same_Some _ r whole) (others.0, (given.1, others.1))))
