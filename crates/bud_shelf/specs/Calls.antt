-- The calls of a shelf or a sink in memory, some of which are to fail.
use Rattle.std.specs.Prelude.{ℕ, ◌+◌, ◌-◌, ◌^◌, min, Bool, ◌==◌, if◌then◌else◌, List, [], ◌∷◌, ◌++◌, refl}
use Rattle.std.specs.List.{list_any}
use Rattle.std.specs.Coded.{Coded, code_by, coded×, coded_list, coded_ℕ}

-- how many calls there were, at most 2^64 - 1; the numbers of those that are to fail, counted from 1; and how many failed, at most 2^64 - 1
pub record Calls : Type 0 where
  pub made : ℕ
  pub failing : List ℕ
  pub faults : ℕ

abbrev pub calls_code : Coded Calls
calls_code =
    code_by (ℕ × (List ℕ × ℕ)) (coded× coded_ℕ (coded× (coded_list coded_ℕ) coded_ℕ)) (λ c. (c.made, (c.failing, c.faults))) (λ p. record { made = p.0; failing = p.1.0; faults = p.1.1 }) (λ _. refl)

abbrev pub no_calls : Calls
no_calls = record { made = 0; failing = []; faults = 0 }

-- one more, up to 2^64 - 1
abbrev pub one_more : ℕ → ℕ
one_more n = min (n + 1) (2 ^ 64 - 1)

-- whether the number of the next call is among those that are to fail
abbrev pub fails_next : Calls → Bool
fails_next c = list_any (λ number. number == (c.made + 1)) c.failing

-- after one more call
abbrev pub after_call : Calls → Calls
after_call c = record { made = one_more c.made; failing = c.failing; faults = if fails_next c then one_more c.faults else c.faults }

-- with one more number of a call that is to fail
abbrev pub with_failing : Calls → ℕ → Calls
with_failing c call = record { made = c.made; failing = c.failing ++ call ∷ []; faults = c.faults }
