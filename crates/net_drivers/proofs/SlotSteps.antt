-- One step of what is driven.
use Rattle.std.proofs.Common.{◌≡◌, ℕ, suc, ◌+◌, ◌-◌, ◌<◌, ◌≤◌, List, [], ◌∷◌, ◌++◌, length, drop, min, get_or, Option, Some, None, true, refl, sym, ◌∙◌, ap, arith, ⊎_elim, add-one, drop-cons}
use Rattle.std.proofs.lemmas.Bool.{cases_lt}
use Rattle.std.proofs.lemmas.List.{drop_all, at_drop_more}
use Rattle.bud_syntax.specs.declared.modules.NetDecl.{NetDecl}
use Rattle.module_nets.specs.Numbers.{range_width}
use Rattle.std.proofs.lemmas.Grind.{common_steps}
use Rattle.net_drivers.specs.Covers.{covered}
use Rattle.net_drivers.specs.declared.covers.Ends.{Ends}
use Rattle.net_drivers.specs.declared.slots.Slot.{Slot}
use Rattle.net_drivers.specs.declared.slots.Slot.TheVariants.{Constant, Assigned}
use Rattle.net_drivers.specs.Slots.{Put, put, filled, counted, constant_bits, net_puts, constant_puts, assigned_puts, put_if, widths}

pub filled-append : (xs ys : List Put) (slots : List Slot) → filled (xs ++ ys) slots ≡ filled ys (filled xs slots)
filled-append [] ys slots = refl
filled-append (x ∷ xs) ys slots = filled-append xs ys (put x.bit x.slot slots)

pub counted-append : (xs ys : List Put) (rows : List Ends) → counted (xs ++ ys) rows ≡ counted ys (counted xs rows)
counted-append [] ys rows = refl
counted-append (x ∷ xs) ys rows = counted-append xs ys (covered x.bit (x.bit + 1) rows)

pub filled-constant : (bit end : ℕ) (slots : List Slot) → bit < end → filled (constant_bits bit (end - bit)) slots ≡ filled (constant_bits (bit + 1) (end - (bit + 1))) (put bit Constant slots)
filled-constant bit end slots less = let e : end - bit ≡ suc (end - (bit + 1)) = omega arith in rw e refl

pub counted-constant : (bit end : ℕ) (rows : List Ends) → bit < end → counted (constant_bits bit (end - bit)) rows ≡ counted (constant_bits (bit + 1) (end - (bit + 1))) (covered bit (bit + 1) rows)
counted-constant bit end rows less = let e : end - bit ≡ suc (end - (bit + 1)) = omega arith in rw e refl

assigned_puts-none : (lefts : List (Option ℕ)) → assigned_puts lefts [] ≡ []
assigned_puts-none [] = refl
assigned_puts-none (l ∷ ls) = refl

pub assigned_puts-end : (k : ℕ) (lefts rights : List (Option ℕ)) → min (length lefts) (length rights) ≤ k → assigned_puts (drop k lefts) (drop k rights) ≡ []
assigned_puts-end k lefts rights past =
    ⊎_elim
    (λ less. let r : drop k rights ≡ [] = drop_all k rights (omega arith) in rw r (assigned_puts-none (drop k lefts)))
    (λ more. let l : drop k lefts ≡ [] = drop_all k lefts more in rw l refl)
    (cases_lt k (length lefts))

pub assigned_puts-next : (k : ℕ) (lefts rights : List (Option ℕ)) → k < length lefts → k < length rights
    → assigned_puts (drop k lefts) (drop k rights) ≡ put_if true (get_or lefts k None) (Assigned (get_or rights k None)) ++ assigned_puts (drop (k + 1) lefts) (drop (k + 1) rights)
assigned_puts-next k lefts rights l r = rw (drop-cons lefts k None l, drop-cons rights k None r, add-one) refl

item-drop : {X Y : Type 0} (F : List X → Y) (xs : List X) (i : ℕ) (x : X) → i < length xs → x ≡ get_or xs i x → F (drop i xs) ≡ F (x ∷ drop (i + 1) xs)
item-drop F xs i x less is = at_drop_more F xs i x less ∙ ap (λ y. F (y ∷ drop (i + 1) xs)) (sym is)

pub widths-next : (nets : List NetDecl) (i : ℕ) (n : NetDecl) → i < length nets → n ≡ get_or nets i n → widths (drop i nets) ≡ range_width n.range + widths (drop (i + 1) nets)
widths-next nets i n less is = item-drop widths nets i n less is

pub filled-nets : (nets : List NetDecl) (i first next : ℕ) (n : NetDecl) (slots after : List Slot) → i < length nets → n ≡ get_or nets i n → next ≡ first + range_width n.range → after ≡ filled (net_puts first n) slots
    → filled (constant_puts next (drop (i + 1) nets)) after ≡ filled (constant_puts first (drop i nets)) slots
filled-nets nets i first next n slots after less is on put' =
    rw (on, put') (sym (item-drop (λ ns. filled (constant_puts first ns) slots) nets i n less is ∙ filled-append (net_puts first n) (constant_puts (first + range_width n.range) (drop (i + 1) nets)) slots))

pub counted-nets : (nets : List NetDecl) (i first next : ℕ) (n : NetDecl) (rows after : List Ends) → i < length nets → n ≡ get_or nets i n → next ≡ first + range_width n.range → after ≡ counted (net_puts first n) rows
    → counted (constant_puts next (drop (i + 1) nets)) after ≡ counted (constant_puts first (drop i nets)) rows
counted-nets nets i first next n rows after less is on put' =
    rw (on, put') (sym (item-drop (λ ns. counted (constant_puts first ns) rows) nets i n less is ∙ counted-append (net_puts first n) (constant_puts (first + range_width n.range) (drop (i + 1) nets)) rows))
