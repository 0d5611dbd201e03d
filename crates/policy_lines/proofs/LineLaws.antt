-- The refusals of lines one by one, and the last share that counts.
use Rattle.std.proofs.Common.{◌≡◌, ℕ, ◌<◌, ◌+◌, true, false, List, [], ◌∷◌, ◌++◌, length, get_or, map, drop, take, Option, Some, None, refl, sym, ◌∙◌, ap, subst, true≢false}
use Rattle.std.specs.Prelude.{find, filter_map, reverse}
use Rattle.std.specs.List.{AllZip, cons_option}
use Rattle.std.specs.Option.{option_or}
use Rattle.std.proofs.lemmas.List.{drop_more, take_more, reverse-append}
use Rattle.std.proofs.lemmas.List.Elements.{filter_map-append}
use Rattle.bud_design.specs.Arcs.{Arc}
use Rattle.bud_design.specs.Designs.{Design}
use Rattle.bud_design.specs.Policies.{Block, Share, block_of, blocks_of, are_nested, first_share}
use Rattle.bud_design.specs.declared.clocks.Clock.{Clock}
use Rattle.bud_design.specs.declared.policies.PolicyLine.{PolicyLine}
use Rattle.layer_theory.specs.PolicyRefusals.{line_fault, lines_fault}
use Rattle.layer_theory.specs.declared.refusals.LayerFault.{LayerFault}
use Rattle.layer_theory.specs.declared.refusals.LayerFault.TheVariants.{UnknownArc, UnknownInstance, NestedBlocks, UnknownClock, TooManyStates, TooManyItems, NoMemory}
use Rattle.policy_lines.specs.Refusals.{IsFaultOf, is_nested_block, nests}

-- the first block that is nested with a place
abbrev pub nested_block : Design → ℕ → List PolicyLine → Option Block
nested_block d p xs = find (λ b. are_nested d b.place p) (blocks_of d xs)

nested_block-at : (d : Design) (p : ℕ) (o : Option Block) (bs : List Block) → is_nested_block d p o ≡ true → find (λ b. are_nested d b.place p) (cons_option o bs) ≡ o
nested_block-at d p None bs is = absurd (true≢false (sym is))
nested_block-at d p (Some b) bs is = rw is refl

nested_block-past : (d : Design) (p : ℕ) (o : Option Block) (bs : List Block) → is_nested_block d p o ≡ false → find (λ b. are_nested d b.place p) (cons_option o bs) ≡ find (λ b. are_nested d b.place p) bs
nested_block-past d p None bs is = refl
nested_block-past d p (Some b) bs is = rw is refl

pub nested_block-here : (d : Design) (p : ℕ) (x : PolicyLine) (xs : List PolicyLine) → nests d p x ≡ true → nested_block d p (x ∷ xs) ≡ block_of d x
nested_block-here d p x xs is = nested_block-at d p (block_of d x) (blocks_of d xs) is

pub nested_block-later : (d : Design) (p : ℕ) (x : PolicyLine) (xs : List PolicyLine) → nests d p x ≡ false → nested_block d p (x ∷ xs) ≡ nested_block d p xs
nested_block-later d p x xs is = nested_block-past d p (block_of d x) (blocks_of d xs) is

-- the fault of a list of lines is that of its first line, or that of the others
pub lines_fault-here : (d : Design) (arcs : List Arc) (clocks : List Clock) (before : List PolicyLine) (x : PolicyLine) (xs : List PolicyLine) (fault : LayerFault)
    → IsFaultOf (line_fault d arcs clocks before x) fault → IsFaultOf (lines_fault d arcs clocks before (x ∷ xs)) fault
lines_fault-here d arcs clocks before x xs fault is = first (line_fault d arcs clocks before x) (lines_fault d arcs clocks (before ++ x ∷ []) xs) fault is
  where
    first : (o rest : Option LayerFault) (f : LayerFault) → IsFaultOf o f → IsFaultOf (option_or o rest) f
    first o rest (UnknownArc from to) is = rw is refl
    first o rest (UnknownInstance name) is = rw is refl
    first o rest (NestedBlocks a b) is = rw is refl
    first o rest (UnknownClock name) is = rw is refl
    first o rest (TooManyStates count) is = is
    first o rest (TooManyItems count) is = is
    first o rest NoMemory is = tt

pub lines_fault-next : (d : Design) (arcs : List Arc) (clocks : List Clock) (lines : List PolicyLine) (i : ℕ) (x : PolicyLine) → i < length lines → get_or lines i x ≡ x
    → line_fault d arcs clocks (take i lines) x ≡ None → lines_fault d arcs clocks (take i lines) (drop i lines) ≡ lines_fault d arcs clocks (take (i + 1) lines) (drop (i + 1) lines)
lines_fault-next d arcs clocks lines i x below here none =
    let rest : drop i lines ≡ x ∷ drop (i + 1) lines = drop_more lines i x below ∙ ap (λ y. y ∷ drop (i + 1) lines) here in
    let front : take (i + 1) lines ≡ take i lines ++ x ∷ [] = take_more lines i x below ∙ ap (λ y. take i lines ++ y ∷ []) here in
    ap (λ ys. lines_fault d arcs clocks (take i lines) ys) rest
    ∙ (ap (λ o. option_or o (lines_fault d arcs clocks (take i lines ++ x ∷ []) (drop (i + 1) lines))) none ∙ ap (λ ys. lines_fault d arcs clocks ys (drop (i + 1) lines)) (sym front))

pub lines_fault-refused : (d : Design) (arcs : List Arc) (clocks : List Clock) (lines : List PolicyLine) (i : ℕ) (x : PolicyLine) (fault : LayerFault) → i < length lines → get_or lines i x ≡ x
    → lines_fault d arcs clocks [] lines ≡ lines_fault d arcs clocks (take i lines) (drop i lines) → IsFaultOf (line_fault d arcs clocks (take i lines) x) fault
    → IsFaultOf (lines_fault d arcs clocks [] lines) fault
lines_fault-refused d arcs clocks lines i x fault below here so_far is =
    let rest : drop i lines ≡ x ∷ drop (i + 1) lines = drop_more lines i x below ∙ ap (λ y. y ∷ drop (i + 1) lines) here in
    subst (λ o. IsFaultOf o fault) (sym (so_far ∙ ap (λ ys. lines_fault d arcs clocks (take i lines) ys) rest))
    (lines_fault-here d arcs clocks (take i lines) x (drop (i + 1) lines) fault is)

pub AllZip-push : {X Y : Type 0} (R : X → Y → Type 0) (xs : List X) (ys : List Y) (x : X) (y : Y) → AllZip R xs ys → R x y → AllZip R (xs ++ x ∷ []) (ys ++ y ∷ [])
AllZip-push R [] [] x y zip is = (is, tt)
AllZip-push R [] (z ∷ zs) x y zip is = absurd zip
AllZip-push R (z ∷ zs) [] x y zip is = absurd zip
AllZip-push R (z ∷ zs) (u ∷ us) x y zip is = (zip.0, AllZip-push R zs us x y zip.1 is)

pub numbers-more : {X Y : Type 0} (f : X → Y) (xs front : List X) (ys new : List Y) (x : X) (y : Y) → ys ≡ map f xs → y ≡ f x → front ≡ xs ++ x ∷ [] → new ≡ ys ++ y ∷ [] → new ≡ map f front
numbers-more {X} {Y} f xs front ys new x y so_far is front_is new_is =
    new_is ∙ (ap (λ zs. zs ++ y ∷ []) so_far ∙ (ap (λ z. map f xs ++ z ∷ []) is ∙ (behind xs ∙ ap (map f) (sym front_is))))
  where
    behind : (us : List X) → map f us ++ f x ∷ [] ≡ map f (us ++ x ∷ [])
    behind [] = refl
    behind (u ∷ us) = ap (λ zs. f u ∷ zs) (behind us)

-- ---- the last share that counts
abbrev pub last_of : {X : Type 0} → (X → Option Share) → List X → Share
last_of f xs = first_share (reverse (filter_map f xs))

last_of-behind : {X : Type 0} (f : X → Option Share) (xs : List X) (x : X) (o : Option Share) → f x ≡ o → last_of f (xs ++ x ∷ []) ≡ first_share (cons_option o (reverse (filter_map f xs)))
last_of-behind {X} f xs x o is =
    ap (λ ys. first_share (reverse ys)) (filter_map-append f xs (x ∷ []))
    ∙ (ap (λ p. first_share (reverse (filter_map f xs ++ cons_option p []))) is ∙ turned o)
  where
    turned : (p : Option Share) → first_share (reverse (filter_map f xs ++ cons_option p [])) ≡ first_share (cons_option p (reverse (filter_map f xs)))
    turned None = ap first_share (reverse-append (filter_map f xs) [])
    turned (Some y) = ap first_share (reverse-append (filter_map f xs) (y ∷ []))

pub last_of-here : {X : Type 0} (f : X → Option Share) (xs : List X) (i : ℕ) (x : X) (y : Share) → i < length xs → get_or xs i x ≡ x → f x ≡ Some y → last_of f (take (i + 1) xs) ≡ y
last_of-here f xs i x y below here is =
    ap (last_of f) (take_more xs i x below ∙ ap (λ z. take i xs ++ z ∷ []) here) ∙ last_of-behind f (take i xs) x (Some y) is

pub last_of-before : {X : Type 0} (f : X → Option Share) (xs : List X) (i : ℕ) (x : X) → i < length xs → get_or xs i x ≡ x → f x ≡ None → last_of f (take (i + 1) xs) ≡ last_of f (take i xs)
last_of-before f xs i x below here is =
    ap (last_of f) (take_more xs i x below ∙ ap (λ z. take i xs ++ z ∷ []) here) ∙ last_of-behind f (take i xs) x None is
