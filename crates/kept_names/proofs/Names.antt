-- Printed identifiers, and what is made of them, stand for themselves in braces.
use Rattle.std.proofs.Common.{◌≡◌, ℕ, ◌==◌, ◌&&◌, not, nat_lt, Bool, true, false, Option, Some, None, List, [], ◌∷◌, ◌++◌, length, decimal, refl, sym, subst, arith, if◌then◌else◌}
use Rattle.std.proofs.lemmas.Bool.{and_parts}
use Rattle.std.proofs.lemmas.Bool.Decides.{nat_tests}
use Rattle.std.specs.List.{list_all, join_with_byte, AllByRecursion}
use Rattle.bud_design.specs.Names.{is_ordinary, printed, bit_name}
use Rattle.bud_design.specs.DesignRules.{is_identifier, IsPrinted}
use Rattle.bud_design.proofs.NameLaws.{IsShort}
use Rattle.sdc_writer.specs.Printable.{has_some, is_visible, is_brace, is_kept}
use Rattle.sdc_writer.proofs.PlainWords.{is_plain}
use Rattle.sdc_writer.proofs.Numbers.{natural_word}

abbrev pub Kept : List ℕ → Type 0
Kept name = is_kept false name ≡ true

pub kept_both : (escaped : Bool) (a b : List ℕ) → is_kept escaped a ≡ true → is_kept false b ≡ true → is_kept escaped (a ++ b) ≡ true
kept_both true [] b first second = absurd (cc)
kept_both false [] b first second = second
kept_both true (x ∷ a) b first second =
    let parts = and_parts (is_visible x) (is_kept false a) first in
    rw (parts.0, kept_both false a b parts.1 second) refl
kept_both false (x ∷ a) b first second =
    let parts = and_parts (is_visible x) (not (is_brace x) && is_kept (x == 92) a) first in
    let others = and_parts (not (is_brace x)) (is_kept (x == 92) a) parts.1 in
    rw (parts.0, others.0, kept_both (x == 92) a b others.1 second) refl

-- ---- identifiers
ordinary_visible : (b : ℕ) → is_ordinary b ≡ true → is_visible b ≡ true
ordinary_visible b is = grind (arith, nat_tests)

ordinary_no_brace : (b : ℕ) → is_ordinary b ≡ true → not (is_brace b) ≡ true
ordinary_no_brace b is = grind (arith, nat_tests)

ordinary_no_slash : (b : ℕ) → is_ordinary b ≡ true → (b == 92) ≡ false
ordinary_no_slash b is = grind (arith, nat_tests)

printed_kept : (xs : List ℕ) → list_all is_visible xs ≡ true → Kept (printed xs)
printed_kept [] all = refl
printed_kept (b ∷ bs) all =
    let parts = and_parts (is_visible b) (list_all is_visible bs) all in
    by_kind (is_ordinary b) refl parts.0 (printed_kept bs parts.1)
  where
    by_kind : (o : Bool) → is_ordinary b ≡ o → is_visible b ≡ true → Kept (printed bs) → Kept (if o then b ∷ printed bs else 92 ∷ b ∷ printed bs)
    by_kind true ordinary visible rest = rw (visible, ordinary_no_brace b ordinary, ordinary_no_slash b ordinary, rest) refl
    by_kind false special visible rest = rw (visible, rest) refl

printed_some : (xs : List ℕ) → has_some xs ≡ true → has_some (printed xs) ≡ true
printed_some [] some = some
printed_some (b ∷ bs) some = by_kind (is_ordinary b)
  where
    by_kind : (o : Bool) → has_some (if o then b ∷ printed bs else 92 ∷ b ∷ printed bs) ≡ true
    by_kind true = refl
    by_kind false = refl

-- a name with a byte that stands for itself
pub record IsKept (name : List ℕ) : Type 0 where
  pub some : has_some name ≡ true
  pub kept : Kept name

identifier_kept : (xs : List ℕ) → is_identifier xs ≡ true → IsKept (printed xs)
identifier_kept [] is = absurd (cc)
identifier_kept (b ∷ bs) is = record {
  some = printed_some (b ∷ bs) refl;
  kept = printed_kept (b ∷ bs) (and_parts (nat_lt 0 (length (b ∷ bs))) (list_all is_visible (b ∷ bs)) is).1;
}

pub name_kept : (name : List ℕ) → IsPrinted name → IsKept name
name_kept name is = subst IsKept (sym is.name_is) (identifier_kept is.identifier is.is_such)

-- ---- numbers of bits
plain_visible : (b : ℕ) → is_plain b ≡ true → is_visible b ≡ true
plain_visible b is = grind (arith, nat_tests)

plain_no_brace : (b : ℕ) → is_plain b ≡ true → not (is_brace b) ≡ true
plain_no_brace b is = grind (arith, nat_tests)

plain_no_slash : (b : ℕ) → is_plain b ≡ true → (b == 92) ≡ false
plain_no_slash b is = grind (arith, nat_tests)

plain_kept : (xs : List ℕ) → list_all is_plain xs ≡ true → Kept xs
plain_kept [] all = refl
plain_kept (b ∷ bs) all =
    let parts = and_parts (is_plain b) (list_all is_plain bs) all in
    rw (plain_visible b parts.0, plain_no_brace b parts.0, plain_no_slash b parts.0, plain_kept bs parts.1) refl

some_front : (a b : List ℕ) → has_some a ≡ true → has_some (a ++ b) ≡ true
some_front [] b some = absurd (cc)
some_front (x ∷ a) b some = refl

pub bit_kept : (name : List ℕ) (bit : Option ℕ) → IsShort bit → IsKept name → IsKept (bit_name name bit)
bit_kept name None short is = is
bit_kept name (Some n) short is =
    let digits = plain_kept (decimal n) (and_parts (has_some (decimal n)) (list_all is_plain (decimal n)) (natural_word n short).plain).1 in
    let brackets : Kept (91 ∷ (decimal n ++ 93 ∷ [])) = kept_both false (decimal n) (93 ∷ []) digits refl in
    record {
      some = some_front name (91 ∷ (decimal n ++ 93 ∷ [])) is.some;
      kept = kept_both false name (91 ∷ (decimal n ++ 93 ∷ [])) is.kept brackets;
    }

-- ---- names joined by `/`
pub join_kept : (xs : List (List ℕ)) (last : List ℕ) → AllByRecursion Kept xs → IsKept last → IsKept (join_with_byte 47 (xs ++ last ∷ []))
join_kept [] last all is = is
join_kept (x ∷ []) last all is = record { some = behind_slash x last; kept = kept_both false x (47 ∷ last) all.0 is.kept }
  where
    behind_slash : (a b : List ℕ) → has_some (a ++ 47 ∷ b) ≡ true
    behind_slash [] b = refl
    behind_slash (x ∷ a) b = refl
join_kept (x ∷ (y ∷ xs)) last all is =
    let rest = join_kept (y ∷ xs) last all.1 is in
    record { some = behind_slash x (join_with_byte 47 ((y ∷ xs) ++ last ∷ [])); kept = kept_both false x (47 ∷ join_with_byte 47 ((y ∷ xs) ++ last ∷ [])) all.0 rest.kept }
  where
    behind_slash : (a b : List ℕ) → has_some (a ++ 47 ∷ b) ≡ true
    behind_slash [] b = refl
    behind_slash (x ∷ a) b = refl
