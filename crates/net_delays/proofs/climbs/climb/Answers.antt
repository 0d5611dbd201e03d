use Rattle.std.proofs.Common.{◌≡◌, ◌+◌, ◌≤◌, ◌<◌, ℕ, List, ◌∷◌, ◌++◌, [], Option, Some, None, ap, sym, subst, refl, ◌∙◌, arith, inl, inr, length}
use Rattle.std.specs.Option.{option_map}
use Rattle.bud_base.specs.declared.ids.PinId.{PinId}
use Rattle.net_delays.specs.Drives.{drive_of}
use Rattle.net_delays.specs.Forests.{mark_at, IsSettled}
use Rattle.net_delays.specs.Climbs.{IsTop}
use Rattle.net_delays.specs.declared.forests.Mark.TheVariants.{Settled}
use Rattle.net_delays.proofs.Climbing.{IsMarked, IsMarked-push, pin_on-push, IsClimbing-more, IsClimbed-end}
use Rattle.std.proofs.lemmas.List.{length-set}
use Rattle.net_delays.proofs.climbs.climb.Goals as goal

pub returns-in_default : goal.returns-in_default
returns-in_default c =
    let place : c.len-place.result ≡ length c.climb.path.items = omega (arith, c.len-place.ensures, c.climb.path.ok) in
    IsClimbed-end _ _ _ _ _ _ c.climb.pin.0 _ (pin_on-push _ _ _ _ c.in_ok-push.ensures.items place)
    (rw (ap (option_map (λ (u : PinId). u.0)) c.in_default.is) refl)
    (IsMarked-push _ _ _ _ _ _ _ _ c.in_ok-push.ensures.items place c.climb.invariant)

pub bounds-in-climb : goal.bounds-in-climb
bounds-in-climb c =
    let below = c.requires.drivers c.climb.pin.0 c.in-Some.driver.0 (ap (option_map (λ (u : PinId). u.0)) c.in-Some.is) in
    rw length-set (omega (arith, below, c.climb.invariant.size, c.requires.sizes))

pub climb-preserved : goal.climb-preserved
climb-preserved c =
    let place : c.len-place.result ≡ length c.climb.path.items = omega (arith, c.len-place.ensures, c.climb.path.ok) in
    let below = c.requires.drivers c.climb.pin.0 c.in-Some.driver.0 (ap (option_map (λ (u : PinId). u.0)) c.in-Some.is) in
    IsClimbing-more _ _ _ _ _ _ _ _ (pin_on-push _ _ _ _ c.in_ok-push.ensures.items place) (ap (option_map (λ (u : PinId). u.0)) c.in-Some.is)
    (rw length-set (omega (arith, below, c.climb.invariant.size, c.requires.sizes))) c.in-New.is
    (IsMarked-push _ _ _ _ _ _ _ _ c.in_ok-push.ensures.items place c.climb.invariant)

pub returns-in-Open : goal.returns-in-Open
returns-in-Open c =
    let place : c.len-place.result ≡ length c.climb.path.items = omega (arith, c.len-place.ensures, c.climb.path.ok) in
    let marked = IsMarked-push _ _ _ _ _ _ _ _ c.in_ok-push.ensures.items place c.climb.invariant in
    let found = marked.path_is.on c.in-Some.driver.0 c.in-Open.top c.in-Open.is in
    IsClimbed-end _ _ _ _ _ _ c.climb.pin.0 _ (pin_on-push _ _ _ _ c.in_ok-push.ensures.items place)
    (rw (ap (option_map (λ (u : PinId). u.0)) c.in-Some.is) (inl (omega (arith, found.0, marked.last_is), found.1))) marked

pub returns-in-Settled : goal.returns-in-Settled
returns-in-Settled c =
    let place : c.len-place.result ≡ length c.climb.path.items = omega (arith, c.len-place.ensures, c.climb.path.ok) in
    IsClimbed-end _ _ _ _ _ _ c.climb.pin.0 _ (pin_on-push _ _ _ _ c.in_ok-push.ensures.items place)
    (rw (ap (option_map (λ (u : PinId). u.0)) c.in-Some.is) (inr (refl, subst IsSettled (sym c.in-Settled.is) tt)))
    (IsMarked-push _ _ _ _ _ _ _ _ c.in_ok-push.ensures.items place c.climb.invariant)
