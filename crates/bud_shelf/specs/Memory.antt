-- What a shelf and a sink in memory hold, beside their calls.
use Rattle.std.specs.Prelude.{ℕ, List, refl}
use Rattle.std.specs.Coded.{Coded, code_by, coded×, coded_list, coded_ℕ}
use Rattle.bud_shelf.specs.Stored.{Stored, stored_code}
use Rattle.bud_shelf.specs.Calls.{Calls, calls_code}

pub record ShelfState : Type 0 where
  pub stored : Stored
  pub calls : Calls

abbrev pub shelf_code : Coded ShelfState
shelf_code =
    code_by (Stored × Calls) (coded× stored_code calls_code) (λ s. (s.stored, s.calls)) (λ p. record { stored = p.0; calls = p.1 }) (λ _. refl)

pub record SinkState : Type 0 where
  pub taken : List ℕ
  pub calls : Calls

abbrev pub sink_code : Coded SinkState
sink_code =
    code_by (List ℕ × Calls) (coded× (coded_list coded_ℕ) calls_code) (λ s. (s.taken, s.calls)) (λ p. record { taken = p.0; calls = p.1 }) (λ _. refl)
