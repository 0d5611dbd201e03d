-- Pairs of elements of a mapped list.
use Rattle.std.specs.Prelude.{◌≡◌, ℕ, ◌<◌, List, [], ◌∷◌, map, length, slice_index_or, All, AllPairs}
use Rattle.std.proofs.Common.{refl, sym, ◌∙◌, subst, arith}
use Rattle.std.proofs.lemmas.List.{length-map, get_or-map}
use Rattle.std.proofs.lemmas.List.Elements.{All-map}
use Rattle.std.proofs.lemmas.List.Kept.{AllPairs-cons}
use Rattle.bud_design.proofs.ClassLaws.{pairs-head, pairs-tail}

module _ {X Y : Type 0} (f : X → Y) where
  pub AllPairs-map : (R : Y → Y → Type 0) (xs : List X) → AllPairs (λ x y. R (f x) (f y)) xs → AllPairs R (map f xs)
  AllPairs-map R [] pairs = λ i j d less within. absurd (omega (arith, within))
  AllPairs-map R (x ∷ xs) pairs =
      AllPairs-cons R (f x) (map f xs) (All-map (R (f x)) f xs (pairs-head (λ a b. R (f a) (f b)) x xs pairs)) (AllPairs-map R xs (pairs-tail (λ a b. R (f a) (f b)) x xs pairs))

  pub AllPairs-unmap : (R : Y → Y → Type 0) (xs : List X) → AllPairs R (map f xs) → AllPairs (λ x y. R (f x) (f y)) xs
  AllPairs-unmap R xs pairs i j d less within =
      let here = pairs i j (f d) less (omega (arith, within, length-map xs f)) in
      subst (λ z. R (f (slice_index_or xs i d)) z) (get_or-map f xs j d (f d) within)
      (subst (λ z. R z (slice_index_or (map f xs) j (f d))) (get_or-map f xs i d (f d) (omega (arith, less, within))) here)

  pub All-unmap : (P : Y → Type 0) (xs : List X) → All P (map f xs) → All (λ x. P (f x)) xs
  All-unmap P xs all k d below = subst P (get_or-map f xs k d (f d) below) (all k (f d) (omega (arith, below, length-map xs f)))
