-- Brackets that close, part by part.
use Rattle.std.proofs.Common.{◌≡◌, ℕ, suc, ◌+◌, ◌-◌, ◌<◌, true, Option, Some, List, sym, ap, ◌∙◌, subst, add-one, arith}
use Rattle.std.proofs.lemmas.Option.{same_Some}
use Rattle.tcl_words.specs.Scanning.{AreClosed, next_part, is_behind, ends_by}
use Rattle.tcl_words.specs.Scanning.AreClosed.{last, closes, opens, passes}
use Rattle.tcl_words.specs.declared.characters.Character.{Character}
use Rattle.tcl_words.specs.declared.characters.Scope.TheVariants.{Brackets}
use Rattle.tcl_words.specs.declared.brackets.Part.{Part}
use Rattle.tcl_words.specs.declared.brackets.Part.TheVariants.{Opens, Closes, Whole}

same_part : (o : Option (Part × List Character)) (a b : Part) (x y : List Character) → o ≡ Some (a, x) → o ≡ Some (b, y) → (a ≡ b) × (x ≡ y)
same_part o a b x y first second = (let e = same_Some _ _ (sym first ∙ second) in (ap (λ p. p.0) e, ap (λ p. p.1) e))

-- what is left of brackets that close behind their first part
pub opened : (depth : ℕ) (cs next rest : List Character) → next_part cs ≡ Some (Opens, next) → AreClosed depth cs rest → AreClosed (suc depth) next rest
opened _ _ next _ is (last cs rest e) = absurd (let wrong : Opens ≡ Closes = (same_part _ _ _ _ _ is e).0 in cc)
opened _ _ next _ is (closes depth cs other rest e ends closed) = absurd (let wrong : Opens ≡ Closes = (same_part _ _ _ _ _ is e).0 in cc)
opened _ _ next _ is (opens depth cs other rest e closed) = subst (λ (xs : List Character). AreClosed (suc depth) xs rest) (sym (same_part _ _ _ _ _ is e).1) closed
opened _ _ next _ is (passes depth cs other rest e closed) = absurd (let wrong : Opens ≡ Whole = (same_part _ _ _ _ _ is e).0 in cc)

pub passed : (depth : ℕ) (cs next rest : List Character) → next_part cs ≡ Some (Whole, next) → AreClosed depth cs rest → AreClosed depth next rest
passed _ _ next _ is (last cs rest e) = absurd (let wrong : Whole ≡ Closes = (same_part _ _ _ _ _ is e).0 in cc)
passed _ _ next _ is (closes depth cs other rest e ends closed) = absurd (let wrong : Whole ≡ Closes = (same_part _ _ _ _ _ is e).0 in cc)
passed _ _ next _ is (opens depth cs other rest e closed) = absurd (let wrong : Whole ≡ Opens = (same_part _ _ _ _ _ is e).0 in cc)
passed _ _ next _ is (passes depth cs other rest e closed) = subst (λ (xs : List Character). AreClosed depth xs rest) (sym (same_part _ _ _ _ _ is e).1) closed

pub closed_one : (depth : ℕ) (cs next rest : List Character) → next_part cs ≡ Some (Closes, next) → AreClosed (suc depth) cs rest → (ends_by (is_behind Brackets) next ≡ true) × AreClosed depth next rest
closed_one _ _ next _ is (closes depth cs other rest e ends closed) =
    let same = (same_part _ _ _ _ _ is e).1 in
    let P : List Character → Type 0 = λ xs. (ends_by (is_behind Brackets) xs ≡ true) × AreClosed depth xs rest in
    subst P (sym same) (ends, closed)
closed_one _ _ next _ is (opens depth cs other rest e closed) = absurd (let wrong : Closes ≡ Opens = (same_part _ _ _ _ _ is e).0 in cc)
closed_one _ _ next _ is (passes depth cs other rest e closed) = absurd (let wrong : Closes ≡ Whole = (same_part _ _ _ _ _ is e).0 in cc)

pub closed_last : (cs next rest : List Character) → next_part cs ≡ Some (Closes, next) → AreClosed 0 cs rest → next ≡ rest
closed_last _ next _ is (last cs rest e) = (same_part _ _ _ _ _ is e).1
closed_last _ next _ is (opens depth cs other rest e closed) = absurd (let wrong : Closes ≡ Opens = (same_part _ _ _ _ _ is e).0 in cc)
closed_last _ next _ is (passes depth cs other rest e closed) = absurd (let wrong : Closes ≡ Whole = (same_part _ _ _ _ _ is e).0 in cc)

-- brackets close in one place
pub closed_once : (depth : ℕ) (cs first second : List Character) → AreClosed depth cs first → AreClosed depth cs second → first ≡ second
closed_once _ _ _ second (last cs rest e) other = closed_last cs rest second e other
closed_once _ _ _ second (closes depth cs next rest e ends closed) other = closed_once depth next rest second closed (closed_one depth cs next second e other).1
closed_once _ _ _ second (opens depth cs next rest e closed) other = closed_once (suc depth) next rest second closed (opened depth cs next second e other)
closed_once _ _ _ second (passes depth cs next rest e closed) other = closed_once depth next rest second closed (passed depth cs next second e other)

-- a turn of the loop: what closes from here on closes from there on, and the other way round
pub record IsTurned (depth deeper : ℕ) (cs next : List Character) : Type 0 where
  pub enough : (rest : List Character) → AreClosed deeper next rest → AreClosed depth cs rest
  pub needed : (rest : List Character) → AreClosed depth cs rest → AreClosed deeper next rest

pub turn_opens : (depth : ℕ) (cs next : List Character) (part : Part) → next_part cs ≡ Some (part, next) → part ≡ Opens → IsTurned depth (depth + 1) cs next
turn_opens depth cs next part found is =
    let e : next_part cs ≡ Some (Opens, next) = found ∙ ap (λ p. Some (p, next)) is in
    rw add-one (record { enough = λ rest closed. opens depth cs next rest e closed; needed = λ rest closed. opened depth cs next rest e closed })

pub turn_passes : (depth : ℕ) (cs next : List Character) (part : Part) → next_part cs ≡ Some (part, next) → part ≡ Whole → IsTurned depth depth cs next
turn_passes depth cs next part found is =
    let e : next_part cs ≡ Some (Whole, next) = found ∙ ap (λ p. Some (p, next)) is in
    record { enough = λ rest closed. passes depth cs next rest e closed; needed = λ rest closed. passed depth cs next rest e closed }

turn_closed : (depth : ℕ) (cs next : List Character) → next_part cs ≡ Some (Closes, next) → ends_by (is_behind Brackets) next ≡ true → IsTurned (suc depth) depth cs next
turn_closed depth cs next e ends =
    record { enough = λ rest closed. closes depth cs next rest e ends closed; needed = λ rest closed. (closed_one depth cs next rest e closed).1 }

pub turn_closes : (depth : ℕ) (cs next : List Character) (part : Part) → next_part cs ≡ Some (part, next) → part ≡ Closes → 0 < depth → ends_by (is_behind Brackets) next ≡ true → IsTurned depth (depth - 1) cs next
turn_closes depth cs next part found is some ends =
    let e : next_part cs ≡ Some (Closes, next) = found ∙ ap (λ p. Some (p, next)) is in
    let whole : suc (depth - 1) ≡ depth = omega arith in
    subst (λ (n : ℕ). IsTurned n (depth - 1) cs next) whole (turn_closed (depth - 1) cs next e ends)

pub turn_last : (depth : ℕ) (cs next : List Character) (part : Part) → next_part cs ≡ Some (part, next) → part ≡ Closes → depth ≡ 0 → AreClosed depth cs next
turn_last depth cs next part found is none =
    let e : next_part cs ≡ Some (Closes, next) = found ∙ ap (λ p. Some (p, next)) is in
    subst (λ (n : ℕ). AreClosed n cs next) (sym none) (last cs next e)
