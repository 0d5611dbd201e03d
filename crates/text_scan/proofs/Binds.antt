-- Productions taken apart, step by step.
use Rattle.std.proofs.Common.{◌≡◌, Bool, true, false, if◌then◌else◌, Option, Some, None, refl}
use Rattle.text_scan.specs.Left.{◌>>=◌}

-- where a chain of steps gives a value, its first step gives one, and the others give the value from there
pub step : {A B P : Type 0} (first : Option A) (others : A → Option B) (y : B) → (first >>= others) ≡ Some y →
    ((x : A) → first ≡ Some x → others x ≡ Some y → P) → P
step None others y read goes_on = absurd (cc)
step (Some x) others y read goes_on = goes_on x refl read

-- two values of one reading are one
pub same_value : {A : Type 0} (o : Option A) (x y : A) → o ≡ Some x → o ≡ Some y → x ≡ y
same_value o x y first second = cc

-- what holds whichever way a test goes
pub by_test : {P : Type 0} (test : Bool) → (test ≡ true → P) → (test ≡ false → P) → P
by_test true holds fails = holds refl
by_test false holds fails = fails refl

-- where a guarded step gives a value, its guard holds
pub guard_true : {A B : Type 0} (test : Bool) (x : A) (f : A → Option B) (y : B) → ((if test then Some x else None) >>= f) ≡ Some y → test ≡ true
guard_true true x f y h = refl
guard_true false x f y h = absurd (cc)

-- what holds whether or not there is a value
pub by_option : {A P : Type 0} (o : Option A) → (o ≡ None → P) → ((x : A) → o ≡ Some x → P) → P
by_option None missing found = missing refl
by_option (Some x) missing found = found x refl
