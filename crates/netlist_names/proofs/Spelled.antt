-- Identifiers are of graphic characters, and each production leaves tokens that are spelled as their kinds.
use Rattle.std.proofs.Common.{◌≡◌, ℕ, ◌+◌, ◌&&◌, ◌||◌, not, nat_lt, nat_le, Bool, true, false, Some, None, List, [], ◌∷◌, length, drop, zero, suc, refl, sym, subst, arith, true≢false, if◌then◌else◌}
use Rattle.std.specs.Char.{is_ascii_graphic}
use Rattle.std.specs.List.{list_all, AllByRecursion}
use Rattle.std.proofs.lemmas.Option.{same_Some}
use Rattle.text_scan.proofs.Binds.{step}
use Rattle.verilog_lex.specs.Fronts.{begins_name, is_of_name}
use Rattle.verilog_lex.specs.Kinds.{names, escapes, numbers, bytes_of}
use Rattle.verilog_lex.specs.Spelling.{IsSpelled, StandIn}
use Rattle.verilog_lex.specs.Spelling.IsSpelled.{name, escaped, number, quoted, sign as one_sign}
use Rattle.verilog_lex.specs.Spelling.StandIn.{over, next as further}
use Rattle.verilog_lex.specs.declared.kinds.Kind.{Kind}
use Rattle.verilog_lex.specs.declared.kinds.Token.{Token}
use Rattle.verilog_words.specs.Reserved.{is_reserved}
use Rattle.verilog_reader.specs.Left.{Left, Word, word_of, with_tokens, next, next_in, breached}
use Rattle.verilog_reader.specs.Words.{sign, is_sign, title, is_word}
use Rattle.verilog_reader.specs.Names.{id, is_identifier as names_something}
use Rattle.verilog_reader.specs.Numbers.{number as number_word, num, value_up_to}
use Rattle.verilog_reader.specs.declared.trees.Named.{Named}
use Rattle.bud_design.specs.DesignRules.{is_identifier}

-- ---- the bytes of identifiers
or-cases : {P : Type 0} (a b : Bool) → a || b ≡ true → (a ≡ true → P) → (b ≡ true → P) → P
or-cases true b is left right = left refl
or-cases false b is left right = right is

and-both : (a b : Bool) → a && b ≡ true → (a ≡ true) × (b ≡ true)
and-both true b is = (refl, is)
and-both false b is = absurd (true≢false (sym is))

begins-graphic : (b : ℕ) → begins_name b ≡ true → is_ascii_graphic b ≡ true
begins-graphic b is = grind (arith, is)

of_name-graphic : (b : ℕ) → is_of_name b ≡ true → is_ascii_graphic b ≡ true
of_name-graphic b is = grind (arith, is)

all-graphic : (bs : List ℕ) → list_all is_of_name bs ≡ true → list_all is_ascii_graphic bs ≡ true
all-graphic [] all = refl
all-graphic (b ∷ bs) all = (let both = and-both (is_of_name b) (list_all is_of_name bs) all in rw (of_name-graphic b both.0, all-graphic bs both.1) refl)

some : (b : ℕ) (bs : List ℕ) → nat_lt 0 (length (b ∷ bs)) ≡ true
some b bs = grind (arith)

such : (b : ℕ) (bs : List ℕ) → is_ascii_graphic b ≡ true → list_all is_ascii_graphic bs ≡ true → is_identifier (b ∷ bs) ≡ true
such b bs one others = rw (some b bs, one, others) refl

-- the name of an identifier that is spelled as its kind
spelled-graphic : (k : Kind) (bs : List ℕ) (reserved : Bool) → IsSpelled k bs → escapes k || (names k && not reserved) ≡ true → is_identifier (if escapes k then drop 1 bs else bs) ≡ true
spelled-graphic _ _ reserved (name b bs first all) is = such b bs (begins-graphic b first) (all-graphic bs all)
spelled-graphic _ _ reserved (escaped b bs all) is = (let both = and-both (is_ascii_graphic b) (list_all is_ascii_graphic bs) all in such b bs both.0 both.1)
spelled-graphic _ _ reserved (number b bs all) is = absurd (true≢false (sym is))
spelled-graphic _ _ reserved (quoted bs all) is = absurd (true≢false (sym is))
spelled-graphic _ _ reserved (one_sign b graphic) is = absurd (true≢false (sym is))

-- ---- tokens that are spelled as their kinds
abbrev pub AreSpelled : List ℕ → List Token → Type 0
AreSpelled text ts = AllByRecursion (λ t. IsSpelled t.kind (bytes_of text t)) ts

abbrev pub Kept : Left → Type 0
Kept s = AreSpelled s.text s.tokens

pub stand-spelled : (text : List ℕ) (at : ℕ) (ts : List Token) → StandIn text at ts → AreSpelled text ts
stand-spelled text _ _ (over at passed) = tt
stand-spelled text _ _ (further at t ts order passed spelled rest) = (spelled, stand-spelled text (t.at + t.len) ts rest)

pub dropped : (text : List ℕ) (n : ℕ) (ts : List Token) → AreSpelled text ts → AreSpelled text (drop n ts)
dropped text zero ts kept = kept
dropped text (suc n) [] kept = tt
dropped text (suc n) (t ∷ ts) kept = dropped text n ts kept.1

-- ---- single words
in-kept : (ts : List Token) (s : Left) (r : Word × Left) → next_in ts s ≡ Some r → AreSpelled s.text ts → IsSpelled r.0.kind r.0.bytes × Kept r.1
in-kept [] s r read kept = absurd (cc)
in-kept (t ∷ ts) s r read kept =
    let P : Word × Left → Type 0 = λ r. IsSpelled r.0.kind r.0.bytes × Kept r.1 in
    subst P (same_Some (word_of s.text t, with_tokens s ts) r read) (kept.0, kept.1)

pub next-kept : (s : Left) (r : Word × Left) → next s ≡ Some r → Kept s → IsSpelled r.0.kind r.0.bytes × Kept r.1
next-kept s r read kept = in-kept s.tokens s r read kept

-- a value under a test, and the test
pub tested : {A : Type 0} (test : Bool) (x y : A) → (if test then Some x else None) ≡ Some y → (test ≡ true) × (x ≡ y)
tested true x y read = (refl, same_Some x y read)
tested false x y read = absurd (cc)

pub sign-kept : (expected : ℕ) (s t : Left) → sign expected s ≡ Some t → Kept s → Kept t
unfolding sign
sign-kept expected s t read kept = step (next s) _ t read (λ r is_next behind. subst Kept (tested (is_sign expected r.0) r.1 t behind).1 (next-kept s r is_next kept).1)

pub title-kept : (expected : List ℕ) (s t : Left) → title expected s ≡ Some t → Kept s → Kept t
unfolding title
title-kept expected s t read kept = step (next s) _ t read (λ r is_next behind. subst Kept (tested (is_word expected r.0) r.1 t behind).1 (next-kept s r is_next kept).1)

pub id-kept : (s : Left) (r : Named × Left) → id s ≡ Some r → Kept s → Kept r.1 × (is_identifier r.0.name ≡ true)
unfolding id
id-kept s r read kept = step (next s) _ r read (λ q is_next behind.
    let P : Named × Left → Type 0 = λ u. Kept u.1 × (is_identifier u.0.name ≡ true) in
    let found = next-kept s q is_next kept in
    let both = tested (names_something q.0) _ r behind in
    subst P both.1 (found.1, spelled-graphic q.0.kind q.0.bytes (is_reserved q.0.bytes) found.0 both.0))

number-kept : (s : Left) (r : Word × Left) → number_word s ≡ Some r → Kept s → Kept r.1
unfolding number_word
number-kept s r read kept = step (next s) _ r read (λ q is_next behind.
    let P : Word × Left → Type 0 = λ u. Kept u.1 in
    subst P (tested (numbers q.0.kind) _ r behind).1 (next-kept s q is_next kept).1)

-- a breach takes no words
pub breach-kept : (test : Bool) (at : ℕ) (s : Left) → Kept s → Kept (if test then s else breached at s)
breach-kept true at s kept = kept
breach-kept false at s kept = kept

pub num-kept : (s : Left) (r : ℕ × Left) → num s ≡ Some r → Kept s → Kept r.1
unfolding num
num-kept s r read kept = step (number_word s) _ r read (λ q is_number behind.
    let P : ℕ × Left → Type 0 = λ u. Kept u.1 in
    subst P (same_Some _ r behind) (breach-kept (nat_le (value_up_to q.0.bytes) 1000000) q.0.at q.1 (number-kept s q is_number kept)))

pub word-kept : (s : Left) (r : Word × Left) → number_word s ≡ Some r → Kept s → Kept r.1
word-kept = number-kept
