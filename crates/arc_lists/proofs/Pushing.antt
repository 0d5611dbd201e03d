-- A list of keys after a push.
use Rattle.std.proofs.Common.{◌≡◌, ℕ, ◌<◌, ◌++◌, List, [], ◌∷◌, map, length, get_or, set, arith, ap, sym, ◌∙◌}
use Rattle.std.proofs.lemmas.List.{map-set, get_or-map, length-map}
use Rattle.smallvec.specs.SmallVec.{SmallVec}
use Rattle.arc_lists.specs.KeyLists.{keys_at}
use Rattle.arc_lists.specs.Insides.{items_of}

-- the keys of a node, as they stand behind its small vector
keys_of : (lists : List (SmallVec ℕ)) (v : ℕ) (old : SmallVec ℕ) → v < length lists → old ≡ get_or lists v old → keys_at (map items_of lists) v ≡ old.items
keys_of lists v old there is =
    get_or-map items_of lists v old [] there ∙ ap items_of (sym is)

pub lists-pushed : (lists : List (SmallVec ℕ)) (now : List (List ℕ)) (v key : ℕ) (old new : SmallVec ℕ) → map items_of lists ≡ now → v < length now → old ≡ get_or lists v old → new.items ≡ old.items ++ key ∷ []
    → map items_of (set lists v new) ≡ set now v (keys_at now v ++ key ∷ [])
lists-pushed lists now v key old new same there is pushed =
    let within : v < length lists = omega (arith, ap length same, length-map lists items_of) in
    let keys : keys_at now v ≡ old.items = ap (λ l. keys_at l v) (sym same) ∙ keys_of lists v old within is in
    map-set items_of lists v new ∙ ap (λ l. set l v new.items) same ∙ ap (set now v) (pushed ∙ ap (λ ks. ks ++ key ∷ []) (sym keys))
