-- What characters are spelled by, and what tests of a character exclude.
use Rattle.std.proofs.Common.{◌≡◌, ℕ, ◌+◌, ◌-◌, ◌≤◌, ◌==◌, ◌||◌, not, Bool, true, false, List, [], ◌∷◌, ◌++◌, length, take, drop, refl, sym, ap, ◌∙◌, arith, append_assoc, length-append, length-drop}
use Rattle.std.proofs.lemmas.Bool.{eqb-true, and_parts}
use Rattle.std.proofs.lemmas.Bool.Decides.{nat_tests}
use Rattle.std.proofs.Math.Seq.{take-append_seam}
use Rattle.text_scan.proofs.Binds.{by_test}
use Rattle.tcl_words.specs.Characters.{characters, spelled, spelling, size, is_byte, is_gap, is_end, is_ascii, is_special, is_ordinary}
use Rattle.tcl_words.specs.Scanning.{left, is_behind}
use Rattle.tcl_words.specs.declared.characters.Character.{Character}
use Rattle.tcl_words.specs.declared.characters.Character.TheVariants.{Plain, Escaped}
use Rattle.tcl_words.specs.declared.characters.Scope.{Scope}
use Rattle.tcl_words.specs.declared.characters.Scope.TheVariants.{Line, Brackets}

-- a text is the spelling of its characters
pub spelling_characters : (bs : List ℕ) → spelling (characters bs) ≡ bs
unfolding characters
spelling_characters [] = refl
spelling_characters (b ∷ []) = refl
spelling_characters (b ∷ c ∷ bs) =
    by_test (b == 92)
    (λ slash. let e : 92 ≡ b = sym (eqb-true b 92 slash) in rw slash (ap (λ n. n ∷ (c ∷ spelling (characters bs))) e ∙ ap (λ cs. b ∷ (c ∷ cs)) (spelling_characters bs)))
    (λ other. rw other (ap (λ cs. b ∷ cs) (spelling_characters (c ∷ bs))))

pub spelling-append : (xs ys : List Character) → spelling (xs ++ ys) ≡ spelling xs ++ spelling ys
spelling-append [] ys = refl
spelling-append (x ∷ xs) ys = ap (λ bs. spelled x ++ bs) (spelling-append xs ys) ∙ sym (append_assoc (spelled x) (spelling xs) (spelling ys))

pub size-append : (xs ys : List Character) → size (xs ++ ys) ≡ size xs + size ys
size-append xs ys = ap length (spelling-append xs ys) ∙ length-append (spelling xs) (spelling ys)

same_tail : {A : Type 0} (x y : A) (xs ys : List A) → x ∷ xs ≡ y ∷ ys → xs ≡ ys
same_tail x y xs ys e = cc

-- the characters at the front of a text are those of their spelling
pub front_characters : (cs rest : List Character) → characters (spelling (cs ++ rest)) ≡ cs ++ rest → characters (spelling cs) ≡ cs
unfolding characters
front_characters [] rest whole = refl
front_characters (Escaped b ∷ cs) rest whole = ap (λ xs. Escaped b ∷ xs) (front_characters cs rest (same_tail _ _ _ _ whole))
front_characters (Plain b ∷ []) rest whole = refl
front_characters (Plain b ∷ (Plain d ∷ cs)) rest whole =
    by_test (b == 92)
    (λ slash. absurd (let wrong = rw slash at whole in cc))
    (λ other. rw other (ap (λ xs. Plain b ∷ xs) (front_characters (Plain d ∷ cs) rest (same_tail _ _ _ _ (rw other at whole)))))
front_characters (Plain b ∷ (Escaped d ∷ cs)) rest whole =
    by_test (b == 92)
    (λ slash. absurd (let wrong = rw slash at whole in cc))
    (λ other. rw other (ap (λ xs. Plain b ∷ xs) (front_characters (Escaped d ∷ cs) rest (same_tail _ _ _ _ (rw other at whole)))))

-- and so are those behind the first
pub behind_characters : (c : Character) (cs : List Character) → characters (spelling (c ∷ cs)) ≡ c ∷ cs → characters (spelling cs) ≡ cs
unfolding characters
behind_characters (Escaped b) cs whole = same_tail _ _ _ _ whole
behind_characters (Plain b) [] whole = refl
behind_characters (Plain b) (Plain d ∷ cs) whole =
    by_test (b == 92)
    (λ slash. absurd (let wrong = rw slash at whole in cc))
    (λ other. same_tail _ _ _ _ (rw other at whole))
behind_characters (Plain b) (Escaped d ∷ cs) whole =
    by_test (b == 92)
    (λ slash. absurd (let wrong = rw slash at whole in cc))
    (λ other. same_tail _ _ _ _ (rw other at whole))

-- characters of a text up to an offset: how they are spelled, and where that is
pub record IsStretch (text : List ℕ) (at end : ℕ) (source : List Character) : Type 0 where
  pub place : end ≡ at + size source
  pub bytes : take (end - at) (drop at text) ≡ spelling source
  pub own : characters (spelling source) ≡ source

pub stretch_is : (text : List ℕ) (at end : ℕ) (source : List Character) → left text at ≡ source ++ left text end → at ≤ length text → end ≤ length text → IsStretch text at end source
unfolding left
stretch_is text at end source split from within =
    let bytes : drop at text ≡ spelling source ++ drop end text =
    sym (spelling_characters (drop at text)) ∙ ap spelling split ∙ spelling-append source (characters (drop end text)) ∙ ap (λ bs. spelling source ++ bs) (spelling_characters (drop end text)) in
    let lengths : length text - at ≡ size source + (length text - end) =
    sym (length-drop at text) ∙ ap length bytes ∙ length-append (spelling source) (drop end text) ∙ ap (λ n. size source + n) (length-drop end text) in
    let place : end ≡ at + size source = omega arith in
    let count : end - at ≡ length (spelling source) = omega arith in
    let own : characters (spelling (source ++ characters (drop end text))) ≡ source ++ characters (drop end text) =
    ap (λ cs. characters (spelling cs)) (sym split) ∙ ap characters (spelling_characters (drop at text)) ∙ split in
    record {
      place = place;
      bytes = rw (count, bytes) (take-append_seam (spelling source) (drop end text));
      own = front_characters source (characters (drop end text)) own;
    }

pub byte_is : (b : ℕ) (c : Character) → is_byte b c ≡ true → c ≡ Plain b
byte_is b (Plain d) is = ap (λ n. Plain n) (eqb-true d b is)
byte_is b (Escaped d) is = absurd (cc)

-- an end is no white space
pub end_no_gap : (scope : Scope) (c : Character) → is_end scope c ≡ true → is_gap scope c ≡ false
end_no_gap Line (Plain b) is = grind (arith, nat_tests)
end_no_gap Brackets (Plain b) is = grind (arith, nat_tests)
end_no_gap Line (Escaped b) is = absurd (cc)
end_no_gap Brackets (Escaped b) is = absurd (cc)

-- no white space, and no end
pub record IsInner (scope : Scope) (c : Character) : Type 0 where
  pub no_gap : is_gap scope c ≡ false
  pub no_end : is_end scope c ≡ false
  pub not_behind : is_behind scope c ≡ false

pub inner_is : (scope : Scope) (c : Character) → is_gap scope c ≡ false → is_end scope c ≡ false → IsInner scope c
inner_is scope c no_gap no_end = record { no_gap = no_gap; no_end = no_end; not_behind = rw (no_gap, no_end) refl }

pub quote_inner : (scope : Scope) → IsInner scope (Plain 34)
quote_inner Line = inner_is _ _ refl refl
quote_inner Brackets = inner_is _ _ refl refl

pub brace_inner : (scope : Scope) → IsInner scope (Plain 123)
brace_inner Line = inner_is _ _ refl refl
brace_inner Brackets = inner_is _ _ refl refl

pub bracket_inner : (scope : Scope) → IsInner scope (Plain 91)
bracket_inner Line = inner_is _ _ refl refl
bracket_inner Brackets = inner_is _ _ refl refl

not_true : (b : Bool) → not b ≡ true → b ≡ false
not_true true e = absurd (cc)
not_true false e = refl

-- an ordinary character
pub record IsOrdinary (scope : Scope) (c : Character) : Type 0 where
  pub inner : IsInner scope c
  pub no_bracket : is_byte 91 c ≡ false

or_false : (x y : Bool) → (x || y) ≡ false → (x ≡ false) × (y ≡ false)
or_false true y e = absurd (cc)
or_false false y e = (refl, e)

pub ordinary_is : (scope : Scope) (c : Character) → is_ordinary scope c ≡ true → IsOrdinary scope c
ordinary_is scope c is =
    let first = and_parts (is_ascii c) _ is in
    let second = and_parts (not (is_gap scope c)) _ first.1 in
    let third = and_parts (not (is_end scope c)) _ second.1 in
    let special = or_false (is_byte 36 c) _ (not_true (is_special c) third.1) in
    record {
      inner = inner_is scope c (not_true (is_gap scope c) second.0) (not_true (is_end scope c) third.0);
      no_bracket = (or_false (is_byte 91 c) (is_byte 92 c) special.1).0;
    }
