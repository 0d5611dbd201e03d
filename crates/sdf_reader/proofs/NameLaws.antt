-- Names are of their form.
use Rattle.std.proofs.Common.{◌≡◌, ℕ, zero, suc, ◌<◌, ◌≤◌, ◌==◌, ◌||◌, Bool, true, false, Option, Some, None, List, [], ◌∷◌, ◌++◌, length, refl, sym, ap, ◌∙◌, subst, arith}
use Rattle.std.proofs.lemmas.Bool.{ne_eqb, eqb-true, eq-eqb}
use Rattle.std.proofs.lemmas.List.{length-append}
use Rattle.std.specs.Char.{is_ascii_digit, is_ascii_graphic}
use Rattle.std.specs.Str.{all_ascii_digits}
use Rattle.text_scan.proofs.Binds.{by_test}
use Rattle.sdf_lex.specs.Words.{is_plain}
use Rattle.sdf_reader.specs.Names.{behind_byte, is_outside, ends_name, escaped, printed_from}
use Rattle.sdf_reader.specs.NameForms.{IsName}
use Rattle.sdf_reader.specs.NameForms.IsName.{none, plain, split, bit, escape}
use Rattle.sdf_reader.specs.declared.names.Place.{Place}
use Rattle.sdf_reader.specs.declared.names.Place.TheVariants.{Outside, Escape, Bracket, Index}

-- a divider is none of the other bytes that names have
pub record IsApart (d : ℕ) : Type 0 where
  pub plain_not : is_plain d ≡ false
  pub digit_not : is_ascii_digit d ≡ false
  pub backslash_not : d ≡ 92 → ⊥
  pub closing_not : d ≡ 93 → ⊥
  pub opening_not : d ≡ 91 → ⊥

or_left : (a b : Bool) → (a || b) ≡ true → b ≡ false → a ≡ true
or_left true b either other = refl
or_left false b either other = absurd (cc)

apart_from : (p : ℕ → Bool) (b d : ℕ) → p b ≡ true → p d ≡ false → (b ≡ d → ⊥)
apart_from p b d holds fails same = (let both : p d ≡ true = subst (λ x. p x ≡ true) same holds in cc)

-- a byte that stands as it is
shown_plain : (d b : ℕ) (bs : List ℕ) → (b ≡ 92 → ⊥) → (b ≡ d → ⊥) → printed_from d false (b ∷ bs) ≡ b ∷ printed_from d false bs
unfolding printed_from
shown_plain d b bs other apart = rw (ne_eqb b 92 other, ne_eqb b d apart) refl

shown_split : (d b : ℕ) (bs : List ℕ) → (b ≡ 92 → ⊥) → b ≡ d → printed_from d false (b ∷ bs) ≡ 47 ∷ printed_from d false bs
unfolding printed_from
shown_split d b bs other same = rw (ne_eqb b 92 other, eq-eqb b d same) refl

shown_escape : (d b c : ℕ) (bs : List ℕ) → b ≡ 92 → printed_from d false (b ∷ c ∷ bs) ≡ escaped c ++ printed_from d false bs
unfolding printed_from
shown_escape d b c bs is = rw is refl

-- one byte further on in a name
goes : (d b : ℕ) (bs : List ℕ) (place : Place) (next : Option Place) → behind_byte d place b ≡ next → ends_name d (Some place) (b ∷ bs) ≡ true → ends_name d next bs ≡ true
unfolding ends_name
goes d b bs place next is read = sym (ap (λ p. ends_name d p bs) is) ∙ read

nowhere : {P : Type 0} (d b : ℕ) (bs : List ℕ) (place : Place) → behind_byte d place b ≡ None → ends_name d (Some place) (b ∷ bs) ≡ true → P
unfolding ends_name
nowhere d b bs place is read = absurd (let never : false ≡ true = goes d b bs place None is read in cc)

-- a name doesn't end behind a backslash or a bracket
unfinished : {P : Type 0} (d b : ℕ) (place : Place) (next : Place) → behind_byte d place b ≡ Some next → is_outside next ≡ false → ends_name d (Some place) (b ∷ []) ≡ true → P
unfolding ends_name
unfinished d b place next is inside read = absurd (let ends : is_outside next ≡ true = goes d b [] place (Some next) is read in cc)

-- digits and the closing bracket at the front, and a name behind them
record IsBitEnd (d : ℕ) (bs : List ℕ) : Type 0 where
  digits : List ℕ
  rest : List ℕ
  whole : bs ≡ digits ++ 93 ∷ rest
  are_digits : all_ascii_digits digits ≡ true
  named : ends_name d (Some Outside) rest ≡ true
  shown : printed_from d false bs ≡ digits ++ 93 ∷ printed_from d false rest

digit_apart : (d b : ℕ) → IsApart d → is_ascii_digit b ≡ true → (b ≡ 92 → ⊥) × (b ≡ d → ⊥)
digit_apart d b apart digit = (apart_from is_ascii_digit b 92 digit refl, apart_from is_ascii_digit b d digit apart.digit_not)

bit_end : (d : ℕ) (bs : List ℕ) → IsApart d → ends_name d (Some Index) bs ≡ true → IsBitEnd d bs
unfolding ends_name
bit_end d [] apart read = absurd (cc)
bit_end d (b ∷ bs) apart read = by_test (is_ascii_digit b)
    (λ digit.
    let more = bit_end d bs apart (goes d b bs Index (Some Index) (rw digit refl) read) in
    let other = digit_apart d b apart digit in
    record {
      digits = b ∷ more.digits;
      rest = more.rest;
      whole = ap (λ xs. b ∷ xs) more.whole;
      are_digits = rw (digit, more.are_digits) refl;
      named = more.named;
      shown = shown_plain d b bs other.0 other.1 ∙ ap (λ xs. b ∷ xs) more.shown;
    })
    (λ other. by_test (b == 93)
    (λ ends.
    let is = eqb-true b 93 ends in
    record {
      digits = [];
      rest = bs;
      whole = ap (λ x. x ∷ bs) is;
      are_digits = refl;
      named = goes d b bs Index (Some Outside) (rw (other, ends) refl) read;
      shown = shown_plain d b bs (λ same. omega (arith, is, same)) (λ same. apart.closing_not (sym same ∙ is)) ∙ ap (λ x. x ∷ printed_from d false bs) is;
    })
    (λ no_end. nowhere d b bs Index (rw (other, no_end) refl) read))

nothing : (d : ℕ) → IsName d [] (printed_from d false [])
unfolding printed_from
nothing d = none

standing : (d b : ℕ) (bs : List ℕ) → IsApart d → (is_plain b || b == d) ≡ true → IsName d bs (printed_from d false bs) → IsName d (b ∷ bs) (printed_from d false (b ∷ bs))
standing d b bs apart stands named = by_test (b == d)
    (λ same.
    let is = eqb-true b d same in
    let Q : ℕ → Type 0 = λ x. IsName d (x ∷ bs) (47 ∷ printed_from d false bs) in
    rw (shown_split d b bs (λ slash. apart.backslash_not (sym is ∙ slash)) is) (subst Q (sym is) (split bs (printed_from d false bs) named)))
    (λ other.
    let is_plain_byte : is_plain b ≡ true = or_left (is_plain b) (b == d) stands other in
    rw (shown_plain d b bs (apart_from is_plain b 92 is_plain_byte refl) (apart_from is_plain b d is_plain_byte apart.plain_not)) (plain b bs (printed_from d false bs) is_plain_byte named))

escaping : (d b c : ℕ) (bs : List ℕ) → b ≡ 92 → is_ascii_graphic c ≡ true → IsName d bs (printed_from d false bs) → IsName d (b ∷ c ∷ bs) (printed_from d false (b ∷ c ∷ bs))
escaping d b c bs is graphic named =
    let Q : ℕ → Type 0 = λ x. IsName d (x ∷ c ∷ bs) (escaped c ++ printed_from d false bs) in
    rw (shown_escape d b c bs is) (subst Q (sym is) (escape c bs (printed_from d false bs) graphic named))

indexed : (d b c : ℕ) (bs : List ℕ) → IsApart d → b ≡ 91 → is_ascii_digit c ≡ true → (more : IsBitEnd d bs) → IsName d more.rest (printed_from d false more.rest) → IsName d (b ∷ c ∷ bs) (printed_from d false (b ∷ c ∷ bs))
indexed d b c bs apart is digit more named =
    let Q : List ℕ → List ℕ → Type 0 = λ xs ps. IsName d xs ps in
    let other = digit_apart d c apart digit in
    let bytes : b ∷ c ∷ bs ≡ 91 ∷ ((c ∷ more.digits) ++ 93 ∷ more.rest) = ap (λ x. x ∷ c ∷ bs) is ∙ ap (λ xs. 91 ∷ c ∷ xs) more.whole in
    let shown : printed_from d false (b ∷ c ∷ bs) ≡ 91 ∷ ((c ∷ more.digits) ++ 93 ∷ printed_from d false more.rest) =
    shown_plain d b (c ∷ bs) (λ same. omega (arith, is, same)) (λ same. apart.opening_not (sym same ∙ is))
    ∙ ap (λ x. x ∷ printed_from d false (c ∷ bs)) is
    ∙ ap (λ xs. 91 ∷ xs) (shown_plain d c bs other.0 other.1 ∙ ap (λ xs. c ∷ xs) more.shown) in
    subst (λ xs. Q xs (printed_from d false (b ∷ c ∷ bs))) (sym bytes) (subst (λ ps. Q (91 ∷ ((c ∷ more.digits) ++ 93 ∷ more.rest)) ps) (sym shown)
    (bit (c ∷ more.digits) more.rest (printed_from d false more.rest) (rw (digit, more.are_digits) refl) (omega arith) named))

-- what reads as a name is one, and its printed form is that of its parts
pub name_sound : (n d : ℕ) (bs : List ℕ) → IsApart d → length bs ≤ n → ends_name d (Some Outside) bs ≡ true → IsName d bs (printed_from d false bs)
unfolding ends_name
name_sound n d [] apart room read = nothing d
name_sound zero d (b ∷ bs) apart room read = absurd (omega arith)
name_sound (suc n) d (b ∷ []) apart room read = by_test (is_plain b || b == d)
    (λ stands. standing d b [] apart stands (nothing d))
    (λ other. by_test (b == 92)
    (λ is. unfinished d b Outside Escape (rw (other, is) refl) refl read)
    (λ bare. by_test (b == 91)
    (λ is. unfinished d b Outside Bracket (rw (other, bare, is) refl) refl read)
    (λ no_bit. nowhere d b [] Outside (rw (other, bare, no_bit) refl) read)))
name_sound (suc n) d (b ∷ c ∷ bs) apart room read = by_test (is_plain b || b == d)
    (λ stands. standing d b (c ∷ bs) apart stands (name_sound n d (c ∷ bs) apart (omega arith) (goes d b (c ∷ bs) Outside (Some Outside) (rw stands refl) read)))
    (λ other. by_test (b == 92)
    (λ is.
    let behind = goes d b (c ∷ bs) Outside (Some Escape) (rw (other, is) refl) read in
    by_test (is_ascii_graphic c)
    (λ graphic. escaping d b c bs (eqb-true b 92 is) graphic (name_sound n d bs apart (omega arith) (goes d c bs Escape (Some Outside) (rw graphic refl) behind)))
    (λ not_graphic. nowhere d c bs Escape (rw not_graphic refl) behind))
    (λ bare. by_test (b == 91)
    (λ is.
    let behind = goes d b (c ∷ bs) Outside (Some Bracket) (rw (other, bare, is) refl) read in
    by_test (is_ascii_digit c)
    (λ digit.
    let more = bit_end d bs apart (goes d c bs Bracket (Some Index) (rw digit refl) behind) in
    let sum = length-append more.digits (93 ∷ more.rest) in
    let same = ap length more.whole in
    indexed d b c bs apart (eqb-true b 91 is) digit more (name_sound n d more.rest apart (omega arith) more.named))
    (λ not_digit. nowhere d c bs Bracket (rw not_digit refl) behind))
    (λ no_bit. nowhere d b (c ∷ bs) Outside (rw (other, bare, no_bit) refl) read)))

-- one byte further on, backwards
stays : (d b : ℕ) (bs : List ℕ) (place : Place) (next : Option Place) → behind_byte d place b ≡ next → ends_name d next bs ≡ true → ends_name d (Some place) (b ∷ bs) ≡ true
unfolding ends_name
stays d b bs place next is read = ap (λ p. ends_name d p bs) is ∙ read

pub record IsRead (d : ℕ) (bs ps : List ℕ) : Type 0 where
  pub named : ends_name d (Some Outside) bs ≡ true
  pub shown : printed_from d false bs ≡ ps

record IsBitRead (d : ℕ) (digits bs ps : List ℕ) : Type 0 where
  named : ends_name d (Some Index) (digits ++ 93 ∷ bs) ≡ true
  shown : printed_from d false (digits ++ 93 ∷ bs) ≡ digits ++ 93 ∷ ps

bit_complete : (d : ℕ) (digits bs ps : List ℕ) → IsApart d → all_ascii_digits digits ≡ true → IsRead d bs ps → IsBitRead d digits bs ps
bit_complete d [] bs ps apart are given = record {
  named = stays d 93 bs Index (Some Outside) refl given.named;
  shown = shown_plain d 93 bs (λ same. omega (arith, same)) (λ same. apart.closing_not (sym same)) ∙ ap (λ xs. 93 ∷ xs) given.shown;
}
bit_complete d (c ∷ cs) bs ps apart are given = by_test (is_ascii_digit c)
    (λ digit.
    let others : all_ascii_digits cs ≡ true = rw digit at are in
    let more = bit_complete d cs bs ps apart others given in
    let other = digit_apart d c apart digit in
    record {
      named = stays d c (cs ++ 93 ∷ bs) Index (Some Index) (rw digit refl) more.named;
      shown = shown_plain d c (cs ++ 93 ∷ bs) other.0 other.1 ∙ ap (λ xs. c ∷ xs) more.shown;
    })
    (λ other. absurd (let never : false ≡ true = rw other at are in cc))

index_read : (d : ℕ) (digits bs ps : List ℕ) → IsApart d → all_ascii_digits digits ≡ true → 0 < length digits → IsRead d bs ps → IsRead d (91 ∷ (digits ++ 93 ∷ bs)) (91 ∷ (digits ++ 93 ∷ ps))
index_read d [] bs ps apart are some given = absurd (omega arith)
index_read d (c ∷ cs) bs ps apart are some given = by_test (is_ascii_digit c)
    (λ digit.
    let others : all_ascii_digits cs ≡ true = rw digit at are in
    let more = bit_complete d cs bs ps apart others given in
    let other = digit_apart d c apart digit in
    let opening_other : (91 == d) ≡ false = ne_eqb 91 d (λ same. apart.opening_not (sym same)) in
    record {
      named = stays d 91 (c ∷ (cs ++ 93 ∷ bs)) Outside (Some Bracket) (rw opening_other refl) (stays d c (cs ++ 93 ∷ bs) Bracket (Some Index) (rw digit refl) more.named);
      shown =
          shown_plain d 91 (c ∷ (cs ++ 93 ∷ bs)) (λ same. omega (arith, same)) (λ same. apart.opening_not (sym same))
          ∙ ap (λ xs. 91 ∷ xs) (shown_plain d c (cs ++ 93 ∷ bs) other.0 other.1 ∙ ap (λ xs. c ∷ xs) more.shown);
    })
    (λ other. absurd (let never : false ≡ true = rw other at are in cc))

none_read : (d : ℕ) → IsRead d [] []
unfolding ends_name printed_from
none_read d = record { named = refl; shown = refl }

-- and each name is read, in its printed form
pub name_complete : (d : ℕ) (bs ps : List ℕ) → IsApart d → IsName d bs ps → IsRead d bs ps
name_complete d _ _ apart none = none_read d
name_complete d _ _ apart (plain b bs ps is given) =
    let more = name_complete d bs ps apart given in
    record {
      named = stays d b bs Outside (Some Outside) (rw is refl) more.named;
      shown = shown_plain d b bs (apart_from is_plain b 92 is refl) (apart_from is_plain b d is apart.plain_not) ∙ ap (λ xs. b ∷ xs) more.shown;
    }
name_complete d _ _ apart (split bs ps given) =
    let more = name_complete d bs ps apart given in
    record {
      named = stays d d bs Outside (Some Outside) (rw (apart.plain_not, eq-eqb d d refl) refl) more.named;
      shown = shown_split d d bs apart.backslash_not refl ∙ ap (λ xs. 47 ∷ xs) more.shown;
    }
name_complete d _ _ apart (bit digits bs ps are some given) = index_read d digits bs ps apart are some (name_complete d bs ps apart given)
name_complete d _ _ apart (escape b bs ps graphic given) =
    let more = name_complete d bs ps apart given in
    let backslash_other : (92 == d) ≡ false = ne_eqb 92 d (λ same. apart.backslash_not (sym same)) in
    record {
      named = stays d 92 (b ∷ bs) Outside (Some Escape) (rw backslash_other refl) (stays d b bs Escape (Some Outside) (rw graphic refl) more.named);
      shown = shown_escape d 92 b bs refl ∙ ap (λ xs. escaped b ++ xs) more.shown;
    }
