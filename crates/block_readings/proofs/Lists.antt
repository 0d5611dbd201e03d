-- What stands ahead of an element, and lists of numbers that are apart.
use Rattle.std.specs.Prelude.{◌≡◌, ℕ, ◌<◌, List, [], ◌∷◌, ◌++◌, flat_map, All, AllPairs}
use Rattle.std.proofs.Common.{refl, sym, ◌∙◌, ap, subst, arith}
use Rattle.std.proofs.lemmas.List.Concat.{flat_map-cons}
use Rattle.std.proofs.lemmas.List.Elements.{All-nil, All-cons, All-head, All-tail, All-append, All-contains, All-weaker, Contains-append_right}
use Rattle.std.proofs.lemmas.List.Kept.{AllPairs-cons}
use Rattle.bud_design.proofs.ClassLaws.{pairs-head, pairs-tail}

-- what each element ahead of one is to it
pub before-all : {X : Type 0} (R : X → X → Type 0) (ps : List X) (c : X) (cs : List X) → AllPairs R (ps ++ c ∷ cs) → All (λ p. R p c) ps
before-all R [] c cs pairs = All-nil (λ p. R p c)
before-all R (p ∷ ps) c cs pairs =
    All-cons (λ p. R p c) p ps (All-contains (R p) (ps ++ c ∷ cs) c (pairs-head R p (ps ++ c ∷ cs) pairs) (Contains-append_right ps (c ∷ cs) c (0, omega arith, refl)))
    (before-all R ps c cs (pairs-tail R p (ps ++ c ∷ cs) pairs))

pairs-append : {X : Type 0} (R : X → X → Type 0) (xs ys : List X) → AllPairs R xs → AllPairs R ys → All (λ x. All (R x) ys) xs → AllPairs R (xs ++ ys)
pairs-append R [] ys first second between = second
pairs-append R (x ∷ xs) ys first second between =
    AllPairs-cons R x (xs ++ ys) (All-append (R x) xs ys (pairs-head R x xs first) (All-head (λ x. All (R x) ys) x xs between))
    (pairs-append R xs ys (pairs-tail R x xs first) second (All-tail (λ x. All (R x) ys) x xs between))

-- no number stands twice
abbrev pub Apart : List ℕ → Type 0
Apart ns = AllPairs (λ m n. m ≡ n → ⊥) ns

pub rise-apart : (ns : List ℕ) → AllPairs (λ m n. m < n) ns → Apart ns
rise-apart ns rise i j d less below same = omega (arith, rise i j d less below, same)

-- lists of numbers, each with a key of its own
module _ (g : ℕ → List ℕ) (key : ℕ → ℕ) (keyed : (v : ℕ) → All (λ n. key n ≡ v) (g v)) where
  keys-all : (P : ℕ → Type 0) (vs : List ℕ) → All P vs → All (λ n. P (key n)) (flat_map g vs)
  keys-all P [] all = All-nil (λ n. P (key n))
  keys-all P (v ∷ vs) all =
      subst (All (λ n. P (key n))) (sym (flat_map-cons g v vs))
      (All-append (λ n. P (key n)) (g v) (flat_map g vs) (All-weaker (λ n. key n ≡ v) (λ n. P (key n)) (λ n is. subst P (sym is) (All-head P v vs all)) (g v) (keyed v)) (keys-all P vs (All-tail P v vs all)))

  -- where the keys are apart and each list is, all are
  pub concat-apart : (vs : List ℕ) → Apart vs → ((v : ℕ) → Apart (g v)) → Apart (flat_map g vs)
  concat-apart [] apart each = λ i j d less below. absurd (omega (arith, below))
  concat-apart (v ∷ vs) apart each =
      let others = keys-all (λ u. v ≡ u → ⊥) vs (pairs-head (λ m n. m ≡ n → ⊥) v vs apart) in
      subst Apart (sym (flat_map-cons g v vs))
      (pairs-append (λ m n. m ≡ n → ⊥) (g v) (flat_map g vs) (each v) (concat-apart vs (pairs-tail (λ m n. m ≡ n → ⊥) v vs apart) each)
      (All-weaker (λ m. key m ≡ v) (λ m. All (λ n. m ≡ n → ⊥) (flat_map g vs))
      (λ m is. All-weaker (λ n. v ≡ key n → ⊥) (λ n. m ≡ n → ⊥) (λ n other same. other (sym is ∙ ap key same)) (flat_map g vs) others) (g v) (keyed v)))
