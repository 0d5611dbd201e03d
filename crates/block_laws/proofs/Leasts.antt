-- The least of some numbers depends on which there are, and what is asked at a pin on which captures stand there.
use Rattle.std.specs.Prelude.{◌≡◌, ℕ, suc, ◌==◌, ℤ, ◌-ℤ◌, ◌≤ℤ◌, int_le, Bool, true, false, List, [], ◌∷◌, filter_map, Contains, Option, Some, None, if◌then◌else◌}
use Rattle.std.specs.Option.{option_map}
use Rattle.std.proofs.Common.{refl, sym, ◌∙◌, ap, arith, inl, inr, eq-eqb}
use Rattle.std.proofs.lemmas.Bool.Decides.{Decides-eqb}
use Rattle.std.proofs.lemmas.Int.{ints}
use Rattle.std.proofs.lemmas.Option.{none-some}
use Rattle.bud_design.specs.declared.clocks.Capture.{Capture}
use Rattle.bud_design.specs.Lists.{least}
use Rattle.bud_design.specs.TimingPaths.{asked, least_asked}
use Rattle.requirements.proofs.Members.{some-same, contains-cases, filter_map-from, filter_map-has}

pub record IsLeastOf (zs : List ℤ) (m : ℤ) : Type 0 where
  pub is : least zs ≡ Some m
  pub member : Contains zs m
  pub most : (z : ℤ) → Contains zs z → m ≤ℤ z

here-in : (z : ℤ) (zs : List ℤ) → Contains (z ∷ zs) z
here-in z zs = (0, omega arith, refl)

later-in : (z : ℤ) (zs : List ℤ) (y : ℤ) → Contains zs y → Contains (z ∷ zs) y
later-in z zs y has = (suc has.0, omega (arith, has.1), has.2)

IsLeastOf-more : (z m : ℤ) (zs : List ℤ) → IsLeastOf zs m → (n : ℤ) × IsLeastOf (z ∷ zs) n
IsLeastOf-more z m zs rest = by_test (int_le z m) refl
  where
    by_test : (b : Bool) → int_le z m ≡ b → (n : ℤ) × IsLeastOf (z ∷ zs) n
    by_test true less = (
      z,
      record {
        is = rw (rest.is, less) refl;
        member = here-in z zs;
        most = λ y has. elim (contains-cases z zs y has) [
          | inl same ↦ omega (arith, ints, same)
          | inr later ↦ omega (arith, ints, less, rest.most y later)
        ];
      },
    )
    by_test false more = (
      m,
      record {
        is = rw (rest.is, more) refl;
        member = later-in z zs m rest.member;
        most = λ y has. elim (contains-cases z zs y has) [
          | inl same ↦ omega (arith, ints, same, more)
          | inr later ↦ rest.most y later
        ];
      },
    )

pub IsLeastOf-cons : (z : ℤ) (zs : List ℤ) → (m : ℤ) × IsLeastOf (z ∷ zs) m
IsLeastOf-cons z [] = (
  z,
  record {
    is = refl;
    member = here-in z [];
    most = λ y has. elim (contains-cases z [] y has) [
      | inl same ↦ omega (arith, ints, same)
      | inr later ↦ absurd (omega (arith, later.1))
    ];
  },
)
IsLeastOf-cons z (y ∷ ys) =
    let rest = IsLeastOf-cons y ys in
    IsLeastOf-more z rest.0 (y ∷ ys) rest.1

nothing-in : (z : ℤ) {P : Type 0} → Contains [] z → P
nothing-in z has = absurd (omega (arith, has.1))

pub least-by_members : (zs ys : List ℤ) → ((z : ℤ) → Contains zs z → Contains ys z) → ((z : ℤ) → Contains ys z → Contains zs z) → least zs ≡ least ys
least-by_members [] [] to from = refl
least-by_members [] (y ∷ ys) to from = nothing-in y (from y (here-in y ys))
least-by_members (z ∷ zs) [] to from = nothing-in z (to z (here-in z zs))
least-by_members (z ∷ zs) (y ∷ ys) to from =
    let one = IsLeastOf-cons z zs in
    let other = IsLeastOf-cons y ys in
    let same : one.0 ≡ other.0 = omega (arith, ints, other.1.most one.0 (to one.0 one.1.member), one.1.most other.0 (from other.0 other.1.member)) in
    one.1.is ∙ (ap (λ m. Some m) same ∙ sym other.1.is)

least-member : (zs : List ℤ) (r : ℤ) → least zs ≡ Some r → (z : ℤ) × Contains zs z
least-member [] r is = absurd (none-some r is)
least-member (z ∷ zs) r is = (z, here-in z zs)

least-some : (zs : List ℤ) (z : ℤ) → Contains zs z → (m : ℤ) × (least zs ≡ Some m)
least-some [] z has = nothing-in z has
least-some (y ∷ ys) z has = (let one = IsLeastOf-cons y ys in (one.0, one.1.is))

-- ---- what a capture asks
pub record IsAsked (v : ℕ) (f : Capture → Option ℤ) (x : Capture) (z : ℤ) : Type 0 where
  pub pin : x.pin.0 ≡ v
  pub required : ℤ
  pub requires : f x ≡ Some required
  pub is : z ≡ required -ℤ x.amount

pub IsAsked-from : (v : ℕ) (f : Capture → Option ℤ) (x : Capture) (z : ℤ) → asked v f x ≡ Some z → IsAsked v f x z
IsAsked-from v f x z e = by_test (x.pin.0 == v) refl e
  where
    by_value : x.pin.0 ≡ v → (o : Option ℤ) → f x ≡ o → option_map (λ r. r -ℤ x.amount) o ≡ Some z → IsAsked v f x z
    by_value pin None is same = absurd (none-some z same)
    by_value pin (Some q) is same = record { pin = pin; required = q; requires = is; is = sym (some-same (q -ℤ x.amount) z same) }

    by_test : (b : Bool) → (x.pin.0 == v) ≡ b → (if b then option_map (λ r. r -ℤ x.amount) (f x) else None) ≡ Some z → IsAsked v f x z
    by_test true here same = by_value ((Decides-eqb x.pin.0 v).0 here) (f x) refl same
    by_test false other same = absurd (none-some z same)

pub asked-has : (v : ℕ) (f : Capture → Option ℤ) (x : Capture) (z : ℤ) → IsAsked v f x z → asked v f x ≡ Some z
asked-has v f x z is = rw (eq-eqb x.pin.0 v is.pin, is.requires) (ap (λ y. Some y) (sym is.is))

-- something is asked at a pin exactly where a capture there requires something
pub record HasAsking (xs : List Capture) (v : ℕ) (f : Capture → Option ℤ) : Type 0 where
  pub capture : Capture
  pub member : Contains xs capture
  pub asks : ℤ
  pub asked : IsAsked v f capture asks

pub HasAsking-from : (xs : List Capture) (v : ℕ) (f : Capture → Option ℤ) (r : ℤ) → least_asked xs v f ≡ Some r → HasAsking xs v f
HasAsking-from xs v f r is =
    let one = least-member (filter_map (asked v f) xs) r is in
    let found = filter_map-from (asked v f) xs one.0 one.1 in
    record { capture = found.from; member = found.member; asks = one.0; asked = IsAsked-from v f found.from one.0 found.gives }

pub HasAsking-asks : (xs : List Capture) (v : ℕ) (f : Capture → Option ℤ) → HasAsking xs v f → (r : ℤ) × (least_asked xs v f ≡ Some r)
HasAsking-asks xs v f has =
    least-some (filter_map (asked v f) xs) has.asks (filter_map-has (asked v f) xs has.capture has.asks has.member (asked-has v f has.capture has.asks has.asked))
