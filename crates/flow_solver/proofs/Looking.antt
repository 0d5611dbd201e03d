-- A look along one arc, and the looks of a scan.
use Rattle.std.proofs.Common.{◌≡◌, ℕ, ℤ, pos, ◌+ℤ◌, ◌<ℤ◌, ◌≤ℤ◌, ◌+◌, ◌*◌, ◌<◌, List, length, get_or, set, Option, Some, arith, refl, ap, sym, subst, ◌∙◌, Bool, true, false}
use Rattle.std.specs.Prelude.{int_lt}
use Rattle.std.proofs.lemmas.Int.{ints}
use Rattle.std.proofs.Math.ListN.{length-set}
use Rattle.residual.specs.Arcs.{reduced_cost}
use Rattle.residual.specs.Leaving.{leaving}
use Rattle.residual.specs.Networks.{Network, IsKey, residual, AreReduced, IsLawful}
use Rattle.residual.proofs.Ends.{HasEnds-residual}
use Rattle.residual.proofs.Leaving.{leaving-is}
use Rattle.residual.specs.declared.arcs.Look.{Look}
use Rattle.search_heap.specs.Entries.{reached_by}
use Rattle.search_heap.specs.Searches.{Searched}
use Rattle.search_heap.specs.declared.entries.Entry.{Entry as Found}
use Rattle.search_heap.specs.declared.entries.Near.{Near}
use Rattle.flow_solver.specs.Spreading.{found_at, IsScanning, looked_along}
use Rattle.flow_solver.proofs.Spreading.{looked_by, IsScanning-more}
use Rattle.flow_solver.specs.declared.entries.Entry.{Entry}

-- where the arc has no room nothing is found
pub looked-none : (net : Network) (distance : ℤ) (key : ℕ) (found : List (Option Found)) (look : Look) → look ≡ residual net key → look.room ≤ℤ pos 0 → looked_along net distance key found ≡ found
looked-none net distance key found look is none =
    let R : Look → Type 0 = λ r. r.room ≤ℤ pos 0 in
    let test : int_lt (pos 0) (residual net key).room ≡ false = no_room (subst R is none) in
    ap (looked_by net distance key found (distance +ℤ reduced_cost net.potentials (residual net key))) test
  where
    no_room : (residual net key).room ≤ℤ pos 0 → int_lt (pos 0) (residual net key).room ≡ false
    no_room less = grind (arith, ints)

looked-room : (net : Network) (distance far : ℤ) (key : ℕ) (found : List (Option Found)) → pos 0 <ℤ (residual net key).room → far ≡ distance +ℤ reduced_cost net.potentials (residual net key)
    → set found (residual net key).to.0 (Some (reached_by (found_at found (residual net key).to.0) far (Some key))) ≡ looked_along net distance key found
looked-room net distance far key found some is =
    let test : int_lt (pos 0) (residual net key).room ≡ true = grind (arith, ints) in
    ap (λ x. looked_by net distance key found x true) is ∙ sym (ap (looked_by net distance key found (distance +ℤ reduced_cost net.potentials (residual net key))) test)

-- where it has room the node that it leads to is reached
pub looked-some : (net : Network) (distance far : ℤ) (key : ℕ) (found : List (Option Found)) (look : Look) → look ≡ residual net key → pos 0 <ℤ look.room → far ≡ distance +ℤ reduced_cost net.potentials look
    → set found look.to.0 (Some (reached_by (found_at found look.to.0) far (Some key))) ≡ looked_along net distance key found
looked-some net distance far key found look is some is_far =
    let P : Look → Type 0 = λ r. pos 0 <ℤ r.room → far ≡ distance +ℤ reduced_cost net.potentials r → set found r.to.0 (Some (reached_by (found_at found r.to.0) far (Some key))) ≡ looked_along net distance key found in
    subst P (sym is) (looked-room net distance far key found) some is_far

pub length-looked : (net : Network) (distance : ℤ) (key : ℕ) (found : List (Option Found)) → length (looked_along net distance key found) ≡ length found
length-looked net distance key found = by_room (int_lt (pos 0) (residual net key).room)
  where
    by_room : (b : Bool) → length (looked_by net distance key found (distance +ℤ reduced_cost net.potentials (residual net key)) b) ≡ length found
    by_room true = length-set found (residual net key).to.0 _
    by_room false = refl

-- so many arcs of the node taken last were looked at
pub record AreLookedAlong (net : Network) (near : Near) (old new : Searched) (place : ℕ) : Type 0 where
  pub scanned : (entries : List (Option Entry)) (count : ℕ) → IsScanning net entries old.entries near count 0 → IsScanning net entries new.entries near count place
  pub taken : new.taken ≡ old.taken
  pub size : length new.entries ≡ length old.entries

pub AreLookedAlong-none : (net : Network) (near : Near) (front : Searched) → AreLookedAlong net near front front 0
AreLookedAlong-none net near front = record { scanned = λ entries count scanning. scanning; taken = refl; size = refl }

pub IsKey-leaving : (net : Network) (v place key : ℕ) → place < length (leaving net v) → key ≡ get_or (leaving net v) place 0 → IsKey net key
IsKey-leaving net v place key inside is =
    let K : ℕ → Type 0 = λ k. IsKey net k in
    subst K (sym is) (leaving-is net.arcs (2 * length net.arcs) v place inside).below

pub AreLookedAlong-more : (net : Network) (near : Near) (old mid new : Searched) (place key : ℕ) → IsLawful net → AreReduced net net.potentials → place < length (leaving net near.node.0) → key ≡ get_or (leaving net near.node.0) place 0
    → new ≡ record mid { entries = looked_along net near.distance key mid.entries } → AreLookedAlong net near old mid place → AreLookedAlong net near old new (place + 1)
AreLookedAlong-more net near old mid new place key lawful reduced inside is_key is so_far =
    let to_in = (HasEnds-residual net key lawful (IsKey-leaving net near.node.0 place key inside is_key)).to in
    let P : Searched → Type 0 = λ s. AreLookedAlong net near old s (place + 1) in
    subst P (sym is) (record {
      scanned = λ entries count scanning. IsScanning-more net entries mid.entries near count place key reduced inside is_key to_in (so_far.scanned entries count scanning);
      taken = so_far.taken;
      size = length-looked net near.distance key mid.entries ∙ so_far.size;
    })
