-- The delays of wires, and the refusal of one by the name of its last pin.
use Rattle.std.specs.List.{All}
use Rattle.std.proofs.Common.{◌≡◌, ℕ, ◌<◌, List, [], length, Option, Some, None, ℤ, sym, ap, subst, ◌∙◌}
use Rattle.std.proofs.lemmas.List.Elements.{All-weaker}
use Rattle.bud_base.specs.declared.ids.PinId.{PinId}
use Rattle.bud_design.specs.declared.designs.Wire.{Wire}
use Rattle.bud_design.specs.Designs.{Design, driver_of, pin_name}
use Rattle.bud_design.specs.DesignRules.{IsDesign, IsWireIn}
use Rattle.net_delays.specs.Alongs.{along_at, sum_of, IsSoundAlong, AreSums}
use Rattle.net_delays.specs.Rests.{IsWireWithin, AreSteps, IsLeastNegative}
use Rattle.net_delays.specs.declared.alongs.Along.{Along}
use Rattle.net_delays.proofs.NetAnswers.{AreWireDelays-made, HaveRoom-made, IsFirstNegative-made}
use Rattle.delay_bind.specs.Bindings.{IsNegativeWire}
use Rattle.delay_bind.specs.Binding.{AreWires}
use Rattle.delay_bind.specs.Leaves.{IsSoundNet}
use Rattle.delay_bind.proofs.RowLaws.{off_net}

-- the ends of wires are pins
pub ends-within : (d : Design) (design : IsDesign d) (pins : ℕ) → pins ≡ length d.pins → All (IsWireWithin pins) d.wires
ends-within d design pins size = All-weaker (IsWireIn d) (IsWireWithin pins) (λ (w : Wire) is. record { from = subst (λ n. w.from.0 < n) (sym size) is.from; to = subst (λ n. w.to.0 < n) (sym size) is.to }) d.wires design.wires

module _ (d : Design) (design : IsDesign d) (drive : ℕ → Option ℕ) (same : (v : ℕ) → drive v ≡ driver_of d.wires v) (pins : ℕ) (size : pins ≡ length d.pins) (alongs : List Along) (sound : All (IsSoundNet d) alongs) where
  pub sound-alongs : All (IsSoundAlong drive pins) alongs
  sound-alongs = All-weaker (IsSoundNet d) (IsSoundAlong drive pins) (λ (x : Along) one. record {
    from = subst (λ n. x.from.0 < n) (sym size) one.within.from;
    to = subst (λ n. x.to.0 < n) (sym size) one.within.to;
    joined = off_net d design drive same x.from.0 x.to.0 one.net;
    time = one.time;
  }) alongs sound

  -- the pin of a negative rest is the design's
  pub negative-within : (sums : List ℤ) (v : PinId) → IsLeastNegative drive (sum_of sums) alongs (length alongs) (Some v) → v.0 < length d.pins
  negative-within sums v least =
      let below = (sound least.0.place (along_at [] 0) least.0.before).within.to in
      subst (λ u. u < length d.pins) least.0.ends below

  module _ (sums numbers : List ℤ) (added : AreSums drive pins alongs sums) (steps : AreSteps (sum_of sums) d.wires numbers) where
    pub AreWires-made : IsLeastNegative drive (sum_of sums) alongs (length alongs) None → AreWires d alongs numbers
    AreWires-made none = record {
      delays = AreWireDelays-made d design drive same pins alongs sums numbers sound-alongs added steps;
      rests = HaveRoom-made d design drive same pins alongs sums numbers sound-alongs added steps none;
    }

    pub IsNegativeWire-made : (v : PinId) (name : List ℕ) → IsLeastNegative drive (sum_of sums) alongs (length alongs) (Some v) → name ≡ pin_name d 0 v.0 → IsNegativeWire d alongs name
    IsNegativeWire-made v name least named =
        let first = IsFirstNegative-made d design drive same pins alongs sums numbers sound-alongs added steps v least in
        record {
          numbers = numbers;
          are_delays = AreWireDelays-made d design drive same pins alongs sums numbers sound-alongs added steps;
          before = first.before;
          wire = first.wire;
          behind = first.behind;
          stands = first.stands;
          first = first.first;
          negative = first.negative;
          to_is = named ∙ ap (pin_name d 0) (sym first.pin);
        }
