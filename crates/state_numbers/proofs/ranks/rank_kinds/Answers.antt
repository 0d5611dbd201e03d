use Rattle.std.proofs.Common.{◌≡◌, ◌<◌, List, length, get_or, sym, ap, ◌∙◌, subst, arith, rules, true}
use Rattle.std.specs.Prelude.{All}
use Rattle.std.proofs.lemmas.List.Sorted.{All-permutation, length_permutation}
use Rattle.bud_design.specs.declared.layers.Class.{Class}
use Rattle.state_numbers.specs.Ranks.{IsKey, AreKeys, AreRanks}
use Rattle.state_numbers.specs.declared.ranks.KindKey.{KindKey}
use Rattle.state_numbers.proofs.RankSteps.{AreRanked-from}
use Rattle.state_numbers.proofs.ranks.rank_kinds.Goals as goal

pub are_rising-requires : goal.are_rising-requires
are_rising-requires c =
    let keys = All-permutation (IsKey c.as_slice-3.result.now (length c.as_slice-3.result.now)) c.in_ok-keys.keys.items c.sort_keys.new.keys.items c.sort_keys.ensures c.in_ok-keys.ensures.sound in
    let same = c.as_slice-6.ensures.value in
    λ k d below.
    subst (λ xs. (get_or xs k d).kind < length c.as_slice-5.result.now) (sym same)
    (omega (arith, (keys k d (subst (λ (xs : List KindKey). k < length xs) same below)).0, c.as_slice-3.ensures.len, c.in_ok-firsts.ensures.size, ap (λ (xs : List Class). length xs) c.as_slice-5.ensures))

pub places-requires-clause-within : goal.places-requires-clause-within
places-requires-clause-within c =
    let keys = All-permutation (IsKey c.as_slice-3.result.now (length c.as_slice-3.result.now)) c.in_ok-keys.keys.items c.sort_keys.new.keys.items c.sort_keys.ensures c.in_ok-keys.ensures.sound in
    let same = c.as_slice-7.ensures.value in
    λ k d below.
    subst (λ xs. (get_or xs k d).kind < c.len-kinds.result) (sym same)
    (omega (arith, (keys k d (subst (λ (xs : List KindKey). k < length xs) same below)).0, c.as_slice-3.ensures.len, c.in_ok-firsts.ensures.size))

pub places-requires-clause-few : goal.places-requires-clause-few
places-requires-clause-few c =
    omega (arith, c.as_slice-7.ensures.len, length_permutation c.in_ok-keys.keys.items c.sort_keys.new.keys.items c.sort_keys.ensures, c.in_ok-keys.ensures.few, c.as_slice-3.ensures.len, c.in_ok-firsts.ensures.size)

pub returns : goal.returns
returns c =
    let size : length c.in_ok-firsts.firsts.items ≡ length c.args.table.now.kinds = omega (arith, c.in_ok-firsts.ensures.size) in
    let firsts = rw (c.as_slice.ensures.keys, c.as_slice-2.ensures.value) at c.in_ok-firsts.ensures.firsts in
    let found = subst (λ fs. AreKeys fs (length fs) c.in_ok-keys.keys.items) c.as_slice-3.ensures.value c.in_ok-keys.ensures in
    let is : c.are_rising.result ≡ true = search rules in
    let rising = rw (c.as_slice-5.ensures, c.as_slice-6.ensures.value) at (c.are_rising.ensures is) in
    let ranks = subst (λ ks. AreRanks ks (length ks) c.in_ok-ranks.ranks.items) c.as_slice-7.ensures.value c.in_ok-ranks.ensures.ranks in
    AreRanked-from c.args.table.now.kinds c.args.table.now.states.keys c.args.table.now.launches.items c.args.live.now c.in_ok-firsts.firsts.items c.in_ok-keys.keys.items
    c.sort_keys.new.keys.items c.in_ok-ranks.ranks.items size (λ k below. firsts k (omega arith)) found c.sort_keys.ensures rising (omega (arith, c.in_ok-ranks.ensures.size)) ranks
