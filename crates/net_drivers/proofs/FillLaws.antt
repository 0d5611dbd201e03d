-- What assigns drive, step by step, and how often.
use Rattle.std.proofs.Common.{◌≡◌, ℕ, zero, suc, ◌+◌, ◌<◌, ◌≤◌, ◌⊎◌, Bool, true, false, List, [], ◌∷◌, ◌++◌, get_or, length, map, take, replicate, min, max, Option, Some, None, All, refl, sym, ap, ◌∙◌, subst, arith, ⊎_elim, inl, inr}
use Rattle.std.specs.List.{flat_map}
use Rattle.std.proofs.lemmas.List.{append-nil, map-append}
use Rattle.std.proofs.lemmas.List.Concat.{flat_map-append}
use Rattle.std.proofs.lemmas.List.Elements.{All-nil, All-cons, All-head, All-tail, All-append}
use Rattle.bud_syntax.specs.declared.modules.Assign.{Assign}
use Rattle.bud_syntax.specs.declared.modules.Module.{Module}
use Rattle.bud_syntax.specs.declared.modules.Piece.{Piece}
use Rattle.module_nets.specs.Nets.{NetBit, all_bits, expression_bits, piece_bits, piece_net, numbers_between}
use Rattle.module_nets.specs.NetTables.{IsSpan}
use Rattle.module_nets.specs.declared.nets.Span.{Span}
use Rattle.module_nets.proofs.ListSteps.{take_one}
use Rattle.net_drivers.specs.declared.covers.Ends.{Ends}
use Rattle.net_drivers.specs.declared.slots.Slot.{Slot}
use Rattle.net_drivers.specs.declared.slots.Slot.TheVariants.{Assigned}
use Rattle.net_drivers.specs.Appending.{Appends, AreNumbers, constant_width, named_bits}
use Rattle.net_drivers.specs.Covers.{covered, passing, times, AreOrdered, Adds}
use Rattle.net_drivers.specs.Drivers.{Drive, pair_drives, assign_drives}
use Rattle.net_drivers.specs.Numbering.{bit_at, named, AreApart, IsPut}
use Rattle.net_drivers.specs.Phases.{IsFilled, IsPaired, Counts, Stands, driving, standing, is_bit}
use Rattle.net_drivers.specs.Slots.{Put, put_if, assigned_puts, IsBelow, filled}
use Rattle.net_drivers.proofs.AppendLaws.{numbers_below, constant_bits_are}
use Rattle.net_drivers.proofs.CountLaws.{Adds-span, standing-append, standing-none, standing-numbers, driving-pairs}
use Rattle.net_drivers.proofs.CoverLemmas.{Adds-none}
use Rattle.net_drivers.proofs.JointLaws.{pair_drives-numbered}
use Rattle.net_drivers.proofs.SlotSteps.{filled-append}

pub IsFilled-none : (bits : List NetBit) (slots : List Slot) → IsFilled bits [] slots slots
IsFilled-none bits slots = record { puts = []; named = refl; valid = All-nil (IsPut (length bits)); slots = refl }

pub IsFilled-both : {bits : List NetBit} {ds es : List Drive} {s t u : List Slot} → IsFilled bits ds s t → IsFilled bits es t u → IsFilled bits (ds ++ es) s u
IsFilled-both {bits} {ds} {es} {s} {t} {u} first second = record {
  puts = first.puts ++ second.puts;
  named = map-append (named bits) first.puts second.puts ∙ (ap (λ xs. xs ++ map (named bits) second.puts) first.named ∙ ap (λ xs. ds ++ xs) second.named);
  valid = All-append (IsPut (length bits)) first.puts second.puts first.valid second.valid;
  slots = second.slots ∙ (ap (filled second.puts) first.slots ∙ sym (filled-append first.puts second.puts s));
}

pub IsFilled-same : {bits : List NetBit} {ds es : List Drive} {s t : List Slot} → ds ≡ es → IsFilled bits ds s t → IsFilled bits es s t
IsFilled-same {bits} {ds} {es} {s} {t} same filled' = subst (λ xs. IsFilled bits xs s t) same filled'

assigned_if-valid : (count : ℕ) (l r : Option ℕ) → IsBelow count l → IsBelow count r → All (IsPut count) (put_if true l (Assigned r))
assigned_if-valid count None r l' r' = All-nil (IsPut count)
assigned_if-valid count (Some n) r l' r' = All-cons (IsPut count) (record { bit = n; slot = Assigned r }) [] (record { bit = l'; taken = tt; slot = r' }) (All-nil (IsPut count))

assigned_puts-valid : (count : ℕ) (ls rs : List (Option ℕ)) → All (IsBelow count) ls → All (IsBelow count) rs → All (IsPut count) (assigned_puts ls rs)
assigned_puts-valid count [] rs l' r' = All-nil (IsPut count)
assigned_puts-valid count (l ∷ ls) [] l' r' = All-nil (IsPut count)
assigned_puts-valid count (l ∷ ls) (r ∷ rs) l' r' =
    All-append (IsPut count) (put_if true l (Assigned r)) (assigned_puts ls rs)
    (assigned_if-valid count l r (All-head (IsBelow count) l ls l') (All-head (IsBelow count) r rs r'))
    (assigned_puts-valid count ls rs (All-tail (IsBelow count) l ls l') (All-tail (IsBelow count) r rs r'))

pub IsFilled-assign : (m : Module) (a : Assign) (lefts rights : List (Option ℕ)) {s t : List Slot} → AreNumbers m (expression_bits m a.left) lefts → AreNumbers m (expression_bits m a.right) rights
    → t ≡ filled (assigned_puts lefts rights) s → IsFilled (all_bits m) (assign_drives m a) s t
IsFilled-assign m a lefts rights {s} {t} left right slots = record {
  puts = assigned_puts lefts rights;
  named = pair_drives-numbered (all_bits m) lefts rights ∙ (ap (λ ls. pair_drives ls (named_bits (all_bits m) rights)) left.named ∙ ap (pair_drives (expression_bits m a.left)) right.named);
  valid = assigned_puts-valid (length (all_bits m)) lefts rights left.below right.below;
  slots = slots;
}

-- a list made of pieces, one piece further
pub flat-next : {X Y : Type 0} (f : X → List Y) (xs : List X) (i : ℕ) (x : X) → i < length xs → x ≡ get_or xs i x → flat_map f (take i xs) ++ f x ≡ flat_map f (take (i + 1) xs)
flat-next f xs i x within is = sym (ap (flat_map f) (take_one xs i x within is) ∙ (flat_map-append f (take i xs) (x ∷ []) ∙ ap (λ ys. flat_map f (take i xs) ++ ys) (append-nil (f x))))

min-adds : (new middle old x y xy : ℕ) → new ≡ min 2 (middle + y) → middle ≡ min 2 (old + x) → xy ≡ x + y → new ≡ min 2 (old + xy)
min-adds new middle old x y xy p q r = omega arith

pub Stands-both : {bits : List NetBit} {xs ys : List (Option NetBit)} {old middle new : List Ends} → Stands bits xs old middle → Stands bits ys middle new → Stands bits (xs ++ ys) old new
Stands-both {bits} {xs} {ys} {old} {middle} {new} first second = record {
  size = second.size ∙ first.size;
  ordered = λ ordered. second.ordered (first.ordered ordered);
  counts = λ ordered k within. min-adds _ _ _ _ _ _ (second.counts (first.ordered ordered) k within) (first.counts ordered k within) (standing-append (bit_at bits k) xs ys);
}

pub Stands-same : {bits : List NetBit} {xs ys : List (Option NetBit)} {old new : List Ends} → xs ≡ ys → Stands bits xs old new → Stands bits ys old new
Stands-same {bits} {xs} {ys} {old} {new} same stands = subst (λ ns. Stands bits ns old new) same stands

pub Stands-constants : (bits : List NetBit) (width : ℕ) (rows : List Ends) → length rows ≡ length bits → Stands bits (replicate width None) rows rows
Stands-constants bits width rows size =
    let none = Adds-none rows in
    record {
      size = refl;
      ordered = λ ordered. ordered;
      counts = λ ordered k within. none.counts ordered k (omega arith) ∙ ap (λ t. min 2 (passing rows k + t)) (sym (standing-none (bit_at bits k) width));
    }

pub Stands-span : (m : Module) (piece : Piece) (span : Span) (low end : ℕ) (old new : List Ends) → AreApart (all_bits m) → IsSpan m (piece_bits m piece) span → length old ≡ length (all_bits m)
    → low ≡ min span.first span.last → end ≡ max span.first span.last + 1 → new ≡ covered low end old → Stands (all_bits m) (piece_bits m piece) old new
Stands-span m piece span low end old new apart is size l e put' =
    let numbers = numbers_between span.first span.last in
    let below = numbers_below (length (all_bits m)) span.first span.last is.first is.last in
    let adds = Adds-span old span.first span.last (omega (arith, is.first, is.last)) in
    let same : covered (min span.first span.last) (max span.first span.last + 1) old ≡ new = ap (λ x. covered x (max span.first span.last + 1) old) (sym l) ∙ (ap (λ x. covered low x old) (sym e) ∙ sym put') in
    let adds' = subst (λ rows. Adds numbers old rows) same adds in
    record {
      size = adds'.size;
      ordered = adds'.ordered;
      counts = λ ordered k within.
          adds'.counts ordered k (omega arith)
          ∙ ap (λ t. min 2 (passing old k + t)) (sym (ap (standing (bit_at (all_bits m) k)) is.numbered ∙ standing-numbers (all_bits m) numbers k apart below within));
    }

pub Stands-piece_none : (m : Module) (piece : Piece) (rows : List Ends) → length rows ≡ length (all_bits m) → piece_net piece ≡ None → Stands (all_bits m) (piece_bits m piece) rows rows
Stands-piece_none m piece rows size none = Stands-same (sym (constant_bits_are m piece none)) (Stands-constants (all_bits m) (constant_width piece) rows size)

-- a side with no net
abbrev pub AreNone : List (Option NetBit) → Type 0
AreNone ns = All (λ n. n ≡ None) ns

none_replicated : (width : ℕ) → AreNone (replicate width None)
none_replicated zero = All-nil (λ n. n ≡ None)
none_replicated (suc width) = All-cons (λ n. n ≡ None) None (replicate width None) refl (none_replicated width)

no_nets : (m : Module) (pieces : List Piece) → All (λ x. piece_net x ≡ None) pieces → AreNone (expression_bits m pieces)
no_nets m [] none = All-nil (λ n. n ≡ None)
no_nets m (x ∷ xs) none =
    All-append (λ n. n ≡ None) (piece_bits m x) (expression_bits m xs)
    (subst AreNone (sym (constant_bits_are m x (All-head (λ y. piece_net y ≡ None) x xs none))) (none_replicated (constant_width x)))
    (no_nets m xs (All-tail (λ y. piece_net y ≡ None) x xs none))

none_standing : (b : NetBit) (ns : List (Option NetBit)) → AreNone ns → standing b ns ≡ 0
none_standing b [] none = refl
none_standing b (n ∷ ns) none = let here = All-head (λ x. x ≡ None) n ns none in rw here (omega (arith, none_standing b ns (All-tail (λ x. x ≡ None) n ns none)))

none_paired : (ls rs : List (Option NetBit)) → AreNone ls → pair_drives ls rs ≡ []
none_paired [] rs none = refl
none_paired (l ∷ ls) [] none = refl
none_paired (l ∷ ls) (r ∷ rs) none = let here = All-head (λ x. x ≡ None) l ls none in rw here (none_paired ls rs (All-tail (λ x. x ≡ None) l ls none))

driving-assign : (m : Module) (a : Assign) (b : NetBit) → IsPaired m a → driving b (assign_drives m a) ≡ standing b (expression_bits m a.left)
driving-assign m a b (inl less) = driving-pairs b (expression_bits m a.left) (expression_bits m a.right) less
driving-assign m a b (inr none) =
    ap (driving b) (none_paired (expression_bits m a.left) (expression_bits m a.right) (no_nets m a.left none)) ∙ sym (none_standing b (expression_bits m a.left) (no_nets m a.left none))

pub Counts-assign : (m : Module) (a : Assign) {old new : List Ends} → IsPaired m a → Stands (all_bits m) (expression_bits m a.left) old new → Counts (all_bits m) (assign_drives m a) old new
Counts-assign m a {old} {new} paired stands = record {
  size = stands.size;
  ordered = stands.ordered;
  counts = λ ordered k within. stands.counts ordered k within ∙ ap (λ t. min 2 (passing old k + t)) (sym (driving-assign m a (bit_at (all_bits m) k) paired));
}

pub Counts-none : (bits : List NetBit) (rows : List Ends) → length rows ≡ length bits → Counts bits [] rows rows
Counts-none bits rows size = record { size = refl; ordered = λ ordered. ordered; counts = λ ordered k within. (Adds-none rows).counts ordered k (omega arith) }

pub Counts-same : {bits : List NetBit} {ds es : List Drive} {old new : List Ends} → ds ≡ es → Counts bits ds old new → Counts bits es old new
Counts-same {bits} {ds} {es} {old} {new} same counts = subst (λ xs. Counts bits xs old new) same counts
