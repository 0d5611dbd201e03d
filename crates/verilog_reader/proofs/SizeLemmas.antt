-- What is read leaves fewer words.
use Rattle.std.proofs.Common.{◌≡◌, ℕ, ◌+◌, ◌<◌, ◌≤◌, ◌==◌, ◌&&◌, nat_lt, nat_le, Bool, true, false, Some, None, List, [], ◌∷◌, length, drop, refl, subst, arith, if◌then◌else◌}
use Rattle.std.specs.Str.{byte}
use Rattle.std.specs.List.{list_all}
use Rattle.std.proofs.lemmas.Option.{same_Some}
use Rattle.text_scan.proofs.Binds.{step, by_test}
use Rattle.verilog_lex.specs.Kinds.{numbers, bytes_of}
use Rattle.verilog_lex.specs.declared.kinds.Token.{Token}
use Rattle.verilog_reader.specs.Left.{Left, Word, size, word_of, with_tokens, next, next_in, begins, breached}
use Rattle.verilog_reader.specs.Words.{sign, is_sign}
use Rattle.verilog_reader.specs.Names.{id, is_identifier}
use Rattle.verilog_reader.specs.Numbers.{number, num, value_up_to}
use Rattle.verilog_reader.specs.Constants.{constant, spelled, digits, digits_from, behind_digits, is_digit_of, radix_in, is_width}
use Rattle.verilog_reader.specs.Pieces.{piece, net, select, select_end, is_number}
use Rattle.verilog_reader.specs.declared.trees.Named.{Named}
use Rattle.bud_syntax.specs.declared.modules.Piece.{Piece}

in_less : (ts : List Token) (s : Left) (r : Word × Left) → next_in ts s ≡ Some r → size r.1 < length ts
in_less [] s r read = absurd (cc)
in_less (t ∷ ts) s r read =
    let P : Word × Left → Type 0 = λ r. size r.1 < length (t ∷ ts) in
    let less : length ts < length (t ∷ ts) = omega arith in
    subst P (same_Some (word_of s.text t, with_tokens s ts) r read) less

pub next_less : (s : Left) (r : Word × Left) → next s ≡ Some r → size r.1 < size s
next_less s r read = in_less s.tokens s r read

-- a value under a test
pub tested : {A : Type 0} (test : Bool) (x y : A) → (if test then Some x else None) ≡ Some y → x ≡ y
tested true x y read = same_Some x y read
tested false x y read = absurd (cc)

pub sign_less : (expected : ℕ) (s t : Left) → sign expected s ≡ Some t → size t < size s
unfolding sign
sign_less expected s t read = step (next s) _ t read (λ r is_next behind.
    let P : Left → Type 0 = λ u. size u < size s in
    subst P (tested (is_sign expected r.0) r.1 t behind) (next_less s r is_next))

pub id_less : (s : Left) (r : Named × Left) → id s ≡ Some r → size r.1 < size s
unfolding id
id_less s r read = step (next s) _ r read (λ q is_next behind.
    let P : Named × Left → Type 0 = λ u. size u.1 < size s in
    subst P (tested (is_identifier q.0) _ r behind) (next_less s q is_next))

number_less : (s : Left) (r : Word × Left) → number s ≡ Some r → size r.1 < size s
unfolding number
number_less s r read = step (next s) _ r read (λ q is_next behind.
    let P : Word × Left → Type 0 = λ u. size u.1 < size s in
    subst P (tested (numbers q.0.kind) _ r behind) (next_less s q is_next))

-- a breach takes no words
breach_size : (test : Bool) (at : ℕ) (s : Left) → size (if test then s else breached at s) ≡ size s
breach_size true at s = refl
breach_size false at s = refl

pub num_less : (s : Left) (r : ℕ × Left) → num s ≡ Some r → size r.1 < size s
unfolding num
num_less s r read = step (number s) _ r read (λ q is_number behind.
    let P : ℕ × Left → Type 0 = λ u. size u.1 < size s in
    let less = number_less s q is_number in
    let same = breach_size (nat_le (value_up_to q.0.bytes) 1000000) q.0.at q.1 in
    subst P (same_Some _ r behind) (omega arith))

digits_no_more : (radix : ℕ) (text : List ℕ) (end : ℕ) (ts : List Token) → length (behind_digits radix text end ts) ≤ length ts
digits_no_more radix text end [] = omega arith
digits_no_more radix text end (t ∷ ts) =
    by_test (t.at == end && list_all (is_digit_of radix) (bytes_of text t))
    (λ are. let less = digits_no_more radix text (t.at + length (bytes_of text t)) ts in rw are (omega arith))
    (λ none. rw none (omega arith))

from_no_more : (radix skipped : ℕ) (word : Word) (s t : Left) → digits_from radix skipped word s ≡ Some t → size t ≤ size s
from_no_more radix skipped word s t read =
    let P : Left → Type 0 = λ u. size u ≤ size s in
    subst P (tested (list_all (is_digit_of radix) (drop skipped word.bytes)) _ t read) (digits_no_more radix s.text (word.at + length word.bytes) s.tokens)

digits_no_longer : (radix : ℕ) (word : Word) (s t : Left) → digits radix word s ≡ Some t → size t ≤ size s
unfolding digits
digits_no_longer radix word s t read = by_test (nat_lt 1 (length word.bytes))
    (λ in_word. from_no_more radix 1 word s t (rw in_word at read))
    (λ behind_word. step (next s) _ t (rw behind_word at read) (λ q is_next behind.
    let less = next_less s q is_next in
    let more = from_no_more radix 0 q.0 q.1 t behind in
    omega arith))

spelled_less : (s t : Left) → spelled s ≡ Some t → size t < size s
unfolding spelled
spelled_less s t read = step (next s) _ t read (λ q is_next behind.
    step (radix_in q.0) _ t behind (λ radix is_radix others.
    let less = next_less s q is_next in
    let more = digits_no_longer radix q.0 q.1 t others in
    omega arith))

constant_less : (s : Left) (r : Piece × Left) → constant s ≡ Some r → size r.1 < size s
unfolding constant
constant_less s r read = step (number s) _ r read (λ q is_number behind.
    step (sign (byte "'") q.1) _ r behind (λ t is_tick others.
    step (spelled t) _ r others (λ u is_spelled whole.
    let P : Piece × Left → Type 0 = λ u. size u.1 < size s in
    let one = number_less s q is_number in
    let two = sign_less (byte "'") q.1 t is_tick in
    let three = spelled_less t u is_spelled in
    let same = breach_size (is_width (value_up_to q.0.bytes)) q.0.at u in
    subst P (same_Some _ r whole) (omega arith))))

end_less : (name : List ℕ) (first : ℕ) (s : Left) (r : Piece × Left) → select_end name first s ≡ Some r → size r.1 < size s
unfolding select_end
end_less name first s r read =
    let P : Piece × Left → Type 0 = λ u. size u.1 < size s in
    by_test (begins (is_sign (byte ":")) s)
    (λ colon. step (sign (byte ":") s) _ r (rw colon at read) (λ t is_colon behind.
    step (num t) _ r behind (λ q is_num others.
    step (sign (byte "]") q.1) _ r others (λ u is_end whole.
    let one = sign_less (byte ":") s t is_colon in
    let two = num_less t q is_num in
    let three = sign_less (byte "]") q.1 u is_end in
    subst P (same_Some _ r whole) (omega arith)))))
    (λ bare. step (sign (byte "]") s) _ r (rw bare at read) (λ u is_end whole.
    let one = sign_less (byte "]") s u is_end in
    subst P (same_Some _ r whole) (omega arith)))

select_less : (name : List ℕ) (s : Left) (r : Piece × Left) → select name s ≡ Some r → size r.1 < size s
unfolding select
select_less name s r read = step (sign (byte "[") s) _ r read (λ t is_open behind.
    step (num t) _ r behind (λ q is_num others.
    let one = sign_less (byte "[") s t is_open in
    let two = num_less t q is_num in
    let three = end_less name q.0 q.1 r others in
    omega arith))

net_less : (s : Left) (r : Piece × Left) → net s ≡ Some r → size r.1 < size s
unfolding net
net_less s r read = step (id s) _ r read (λ q is_id behind.
    let one = id_less s q is_id in
    by_test (begins (is_sign (byte "[")) q.1)
    (λ selects. let two = select_less q.0.name q.1 r (rw selects at behind) in omega arith)
    (λ bare. let P : Piece × Left → Type 0 = λ u. size u.1 < size s in subst P (same_Some _ r (rw bare at behind)) (omega arith)))

pub piece_less : (s : Left) (r : Piece × Left) → piece s ≡ Some r → size r.1 < size s
unfolding piece
piece_less s r read = by_test (begins is_number s)
    (λ counts. constant_less s r (rw counts at read))
    (λ bare. net_less s r (rw bare at read))
