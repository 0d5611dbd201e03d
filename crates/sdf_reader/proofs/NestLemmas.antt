-- Nested lists, token by token.
use Rattle.std.proofs.Common.{◌≡◌, ℕ, zero, suc, ◌==◌, true, false, if◌then◌else◌, Option, Some, None, List, [], ◌∷◌, refl, ◌∙◌, arith, ◌&&◌}
use Rattle.std.proofs.lemmas.Bool.{and_parts, eqb-true}
use Rattle.text_scan.specs.Left.{Left, ◌>>=◌}
use Rattle.text_scan.specs.Nesting.{closed, onto}
use Rattle.text_scan.proofs.Binds.{by_test}
use Rattle.sdf_lex.specs.Tokens.{Token}
use Rattle.sdf_lex.specs.declared.lexemes.Kind.{Kind}
use Rattle.sdf_lex.specs.declared.lexemes.Kind.TheVariants.{Open, Close, Quoted, Word, Sign, Stray}
use Rattle.sdf_reader.specs.Marks.{is_open, is_close, is_stray, opens, closes}
use Rattle.sdf_reader.specs.Nests.{are_tokens, behind_list, balanced, depth_behind, ends_list}

abbrev told : Option (List Token × List Token) → Option (List Token)
told read = read >>= λ r. if are_tokens r.0 then Some r.1 else None

told_onto : (t : Token) (read : Option (List Token × List Token)) → is_stray t.kind ≡ false → told (onto t read) ≡ told read
told_onto t None fine = refl
told_onto t (Some r) fine = rw fine refl

told_stray : (t : Token) (read : Option (List Token × List Token)) → is_stray t.kind ≡ true → told (onto t read) ≡ None
told_stray t None stray = refl
told_stray t (Some r) stray = rw stray refl

-- no list ends behind the last token
pub list_none : (depth : ℕ) (all : List Token) → all ≡ [] → behind_list depth all ≡ None
unfolding closed
list_none zero all is = rw is refl
list_none (suc depth) all is = rw is refl

pub open_apart : (kind : Kind) → is_close kind ≡ true → is_open kind ≡ false
open_apart Open h = absurd (cc)
open_apart Close h = refl
open_apart Quoted h = absurd (cc)
open_apart Word h = absurd (cc)
open_apart Sign h = absurd (cc)
open_apart Stray h = absurd (cc)

stray_apart : (kind : Kind) → is_stray kind ≡ true → (is_open kind ≡ false) × (is_close kind ≡ false)
stray_apart Open h = absurd (cc)
stray_apart Close h = absurd (cc)
stray_apart Quoted h = absurd (cc)
stray_apart Word h = absurd (cc)
stray_apart Sign h = absurd (cc)
stray_apart Stray h = (refl, refl)

-- the ")" that closes the list
pub list_closes : (depth : ℕ) (t : Token) (all ts : List Token) → all ≡ t ∷ ts → ends_list depth t.kind ≡ true → behind_list depth all ≡ Some ts
unfolding closed
list_closes zero t all ts is ends =
    let close_is = (and_parts (is_close t.kind) (0 == 0) ends).0 in
    rw (is, open_apart t.kind close_is, close_is) refl
list_closes (suc depth) t all ts is ends = absurd (let never = eqb-true (suc depth) 0 (and_parts (is_close t.kind) (suc depth == 0) ends).1 in omega arith)

-- any other token
pub list_turn : (depth deeper : ℕ) (t : Token) (all ts : List Token) → all ≡ t ∷ ts → is_stray t.kind ≡ false → ends_list depth t.kind ≡ false → deeper ≡ depth_behind depth t.kind →
    behind_list depth all ≡ behind_list deeper ts
unfolding closed
list_turn zero deeper t all ts is fine inside deeper_is = by_test (is_open t.kind)
    (λ open_is. rw (is, deeper_is, open_is) (told_onto t (closed opens closes 1 ts) fine))
    (λ bare. by_test (is_close t.kind)
    (λ close_is. absurd (let both : (is_close t.kind && 0 == 0) ≡ true = rw close_is refl in cc))
    (λ plain_is. rw (is, deeper_is, bare, plain_is) (told_onto t (closed opens closes 0 ts) fine)))
list_turn (suc depth) deeper t all ts is fine inside deeper_is = by_test (is_open t.kind)
    (λ open_is.
    let more : deeper ≡ suc (suc depth) = deeper_is ∙ rw open_is (omega arith) in
    rw (is, more, open_is) (told_onto t (closed opens closes (suc (suc depth)) ts) fine))
    (λ bare. by_test (is_close t.kind)
    (λ close_is.
    let less : deeper ≡ depth = deeper_is ∙ rw (bare, close_is) (omega arith) in
    rw (is, less, bare, close_is) (told_onto t (closed opens closes depth ts) fine))
    (λ plain_is. rw (is, deeper_is, bare, plain_is) (told_onto t (closed opens closes (suc depth) ts) fine)))

-- a byte that no token has
pub list_stray : (depth : ℕ) (t : Token) (all ts : List Token) → all ≡ t ∷ ts → is_stray t.kind ≡ true → behind_list depth all ≡ None
unfolding closed
list_stray zero t all ts is stray = (let apart = stray_apart t.kind stray in rw (is, apart.0, apart.1) (told_stray t (closed opens closes 0 ts) stray))
list_stray (suc depth) t all ts is stray = (let apart = stray_apart t.kind stray in rw (is, apart.0, apart.1) (told_stray t (closed opens closes (suc depth) ts) stray))

pub balanced_found : (left : Left Token) (rest : List Token) → behind_list 0 left.0 ≡ Some rest → balanced left ≡ Some (rest, left.1)
unfolding balanced
balanced_found left rest found = rw found refl

pub balanced_fails : (left : Left Token) → behind_list 0 left.0 ≡ None → balanced left ≡ None
unfolding balanced
balanced_fails left fails = rw fails refl
