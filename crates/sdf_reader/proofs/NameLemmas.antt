-- Names, byte by byte.
use Rattle.std.proofs.Common.{◌≡◌, ℕ, ◌+◌, ◌<◌, ◌≤◌, Bool, true, false, Some, None, List, [], ◌∷◌, ◌++◌, length, drop, get_or, refl, sym, ap, ◌∙◌, append_assoc, Result, IfOk}
use Rattle.std.proofs.lemmas.Result.{IfOk-weaker}
use Rattle.std.proofs.lemmas.List.{drop_more, drop_all, append-nil}
use Rattle.std.proofs.lemmas.Bool.{ne_eqb, eq-eqb}
use Rattle.sdf_reader.specs.Names.{behind_byte, is_outside, ends_name, escaped, printed_from}
use Rattle.sdf_reader.specs.declared.names.Place.{Place}

pub name_turn : (d : ℕ) (place next : Place) (bytes : List ℕ) (i : ℕ) (total : Bool) → i < length bytes → behind_byte d place (get_or bytes i 0) ≡ Some next →
    ends_name d (Some place) (drop i bytes) ≡ total → ends_name d (Some next) (drop (i + 1) bytes) ≡ total
unfolding ends_name
name_turn d place next bytes i total within is same =
    let here : ends_name d (Some place) (drop i bytes) ≡ ends_name d (Some next) (drop (i + 1) bytes) =
    ap (ends_name d (Some place)) (drop_more bytes i 0 within) ∙ ap (λ n. ends_name d n (drop (i + 1) bytes)) is in
    sym here ∙ same

pub name_fails : (d : ℕ) (place : Place) (bytes : List ℕ) (i : ℕ) (total : Bool) → i < length bytes → behind_byte d place (get_or bytes i 0) ≡ None →
    ends_name d (Some place) (drop i bytes) ≡ total → false ≡ total
unfolding ends_name
name_fails d place bytes i total within is same =
    let here : ends_name d (Some place) (drop i bytes) ≡ ends_name d None (drop (i + 1) bytes) =
    ap (ends_name d (Some place)) (drop_more bytes i 0 within) ∙ ap (λ n. ends_name d n (drop (i + 1) bytes)) is in
    let none : ends_name d None (drop (i + 1) bytes) ≡ false = refl in
    sym none ∙ sym here ∙ same

pub name_ends : (d : ℕ) (place : Place) (bytes : List ℕ) (i : ℕ) (total : Bool) → length bytes ≤ i → ends_name d (Some place) (drop i bytes) ≡ total → is_outside place ≡ total
unfolding ends_name
name_ends d place bytes i total end same =
    let here : ends_name d (Some place) (drop i bytes) ≡ is_outside place = rw (drop_all i bytes end) refl in
    sym here ∙ same

-- one byte more in printed form
pub put_escape : (d b : ℕ) (out all : List ℕ) → all ≡ out ++ escaped b → (rest : List ℕ) → all ++ printed_from d false rest ≡ out ++ printed_from d true (b ∷ rest)
unfolding printed_from
put_escape d b out all is rest = rw is (append_assoc out (escaped b) (printed_from d false rest))

pub put_escaped_behind : {E : Type 0} (d b : ℕ) (out all : List ℕ) (r : Result Bool E) → IfOk r (λ behind. (behind ≡ false) × (all ≡ out ++ escaped b)) →
    IfOk r (λ behind. (rest : List ℕ) → all ++ printed_from d behind rest ≡ out ++ printed_from d true (b ∷ rest))
put_escaped_behind d b out all r given = IfOk-weaker r (λ behind. (behind ≡ false) × (all ≡ out ++ escaped b)) (λ behind. (rest : List ℕ) → all ++ printed_from d behind rest ≡ out ++ printed_from d true (b ∷ rest)) (λ behind is. rw is.0 (put_escape d b out all is.1)) given

pub put_backslash : (d b : ℕ) (out : List ℕ) → b ≡ 92 → (rest : List ℕ) → out ++ printed_from d true rest ≡ out ++ printed_from d false (b ∷ rest)
unfolding printed_from
put_backslash d b out is rest = rw is refl

pub put_divider : (d b : ℕ) (out all : List ℕ) → (b ≡ 92 → ⊥) → b ≡ d → all ≡ out ++ 47 ∷ [] → (rest : List ℕ) → all ++ printed_from d false rest ≡ out ++ printed_from d false (b ∷ rest)
unfolding printed_from
put_divider d b out all other is all_is rest = rw (all_is, ne_eqb b 92 other, eq-eqb b d is) (append_assoc out (47 ∷ []) (printed_from d false rest))

pub put_other : (d b : ℕ) (out all : List ℕ) → (b ≡ 92 → ⊥) → (b ≡ d → ⊥) → all ≡ out ++ b ∷ [] → (rest : List ℕ) → all ++ printed_from d false rest ≡ out ++ printed_from d false (b ∷ rest)
unfolding printed_from
put_other d b out all other apart all_is rest = rw (all_is, ne_eqb b 92 other, ne_eqb b d apart) (append_assoc out (b ∷ []) (printed_from d false rest))

pub printed_turn : (d : ℕ) (bytes : List ℕ) (i : ℕ) (escape behind : Bool) (out all total : List ℕ) → i < length bytes →
    ((rest : List ℕ) → all ++ printed_from d behind rest ≡ out ++ printed_from d escape (get_or bytes i 0 ∷ rest)) →
    out ++ printed_from d escape (drop i bytes) ≡ total → all ++ printed_from d behind (drop (i + 1) bytes) ≡ total
printed_turn d bytes i escape behind out all total within put same =
    put (drop (i + 1) bytes) ∙ ap (λ rest. out ++ printed_from d escape rest) (sym (drop_more bytes i 0 within)) ∙ same

pub printed_ends : (d : ℕ) (bytes : List ℕ) (i : ℕ) (escape : Bool) (out total : List ℕ) → length bytes ≤ i → out ++ printed_from d escape (drop i bytes) ≡ total → out ≡ total
unfolding printed_from
printed_ends d bytes i true out total end same = sym (append-nil out) ∙ ap (λ rest. out ++ printed_from d true rest) (sym (drop_all i bytes end)) ∙ same
printed_ends d bytes i false out total end same = sym (append-nil out) ∙ ap (λ rest. out ++ printed_from d false rest) (sym (drop_all i bytes end)) ∙ same
