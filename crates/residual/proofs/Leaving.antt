-- Lists of the residual arcs that leave each node.
use Rattle.std.proofs.Common.{◌≡◌, ◌≢◌, ℕ, ◌+◌, ◌*◌, ◌<◌, ◌++◌, cond, List, [], ◌∷◌, length, get_or, set, replicate, zero, suc, arith, refl, ap, sym, subst, ◌∙◌, inl, inr, eq-eqb, get_or-set_same, get_or-set_other}
use Rattle.std.proofs.lemmas.Bool.{cases_eq, ne_eqb}
use Rattle.std.proofs.lemmas.List.{get_or_append_left, get_or_push, length_push, append-nil}
use Rattle.std.proofs.Math.ListN.{length-set}
use Rattle.arc_lists.specs.KeyLists.{keys_at}
use Rattle.residual.specs.Arcs.{arc_at}
use Rattle.residual.specs.Leaving.{tail_of, leaving_below, AreListed}
use Rattle.residual.proofs.Pairs.{residual_at-arc, residual_at-reverse}
use Rattle.residual.specs.declared.arcs.Arc.{Arc}
use Rattle.residual.specs.declared.arcs.Look.{Look}

pub tail_of-arc : (arcs : List Arc) (j : ℕ) → tail_of arcs (2 * j) ≡ (arc_at arcs j).from.0
tail_of-arc arcs j = ap (λ (r : Look). r.from.0) (residual_at-arc arcs [] j)

pub tail_of-reverse : (arcs : List Arc) (j : ℕ) → tail_of arcs (2 * j + 1) ≡ (arc_at arcs j).to.0
tail_of-reverse arcs j = ap (λ (r : Look). r.from.0) (residual_at-reverse arcs [] j)

keys_at-empty : (nodes v : ℕ) → keys_at (replicate nodes []) v ≡ []
keys_at-empty zero v = refl
keys_at-empty (suc n) zero = refl
keys_at-empty (suc n) (suc v) = keys_at-empty n v

abbrev no_keys : List ℕ
no_keys = []

length-empty : (nodes : ℕ) → length (replicate nodes no_keys) ≡ nodes
length-empty zero = refl
length-empty (suc n) = omega (arith, length-empty n)

pub AreListed-none : (arcs : List Arc) (lists : List (List ℕ)) (nodes : ℕ) → lists ≡ replicate nodes [] → AreListed arcs lists nodes 0
AreListed-none arcs lists nodes is =
    let P : List (List ℕ) → Type 0 = λ l. AreListed arcs l nodes 0 in
    subst P (sym is) (record { size = length-empty nodes; each = λ v below. keys_at-empty nodes v })

-- one key more, for its node and for any other
leaving-here : (arcs : List Arc) (key v : ℕ) → tail_of arcs key ≡ v → leaving_below arcs (suc key) v ≡ leaving_below arcs key v ++ key ∷ []
leaving-here arcs key v is = ap (λ b. leaving_below arcs key v ++ cond b (key ∷ []) []) (eq-eqb (tail_of arcs key) v is)

leaving-elsewhere : (arcs : List Arc) (key v : ℕ) → tail_of arcs key ≢ v → leaving_below arcs (suc key) v ≡ leaving_below arcs key v
leaving-elsewhere arcs key v differs = ap (λ b. leaving_below arcs key v ++ cond b (key ∷ []) []) (ne_eqb (tail_of arcs key) v differs) ∙ append-nil (leaving_below arcs key v)

pub AreListed-more : (arcs : List Arc) (lists after : List (List ℕ)) (nodes key next w : ℕ) → w < nodes → tail_of arcs key ≡ w → next ≡ suc key → after ≡ set lists w (keys_at lists w ++ key ∷ []) → AreListed arcs lists nodes key
    → AreListed arcs after nodes next
AreListed-more arcs lists after nodes key next w there leaves is_next is listed =
    let P : List (List ℕ) → Type 0 = λ l. AreListed arcs l nodes next in
    let new : List ℕ = keys_at lists w ++ key ∷ [] in
    subst P (sym is) (record {
      size = length-set lists w new ∙ listed.size;
      each = λ v below. elim (cases_eq v w) [
        | inl same ↦
            ap (keys_at (set lists w new)) same ∙ get_or-set_same lists w new [] (omega (arith, listed.size)) ∙ ap (λ ks. ks ++ key ∷ []) (listed.each w there) ∙ sym (leaving-here arcs key w leaves)
            ∙ ap (leaving_below arcs (suc key)) (sym same) ∙ ap (λ n. leaving_below arcs n v) (sym is_next)
        | inr other ↦
            get_or-set_other lists w v new [] other ∙ listed.each v below ∙ sym (leaving-elsewhere arcs key v (λ e. other (sym e ∙ leaves))) ∙ ap (λ n. leaving_below arcs n v) (sym is_next)
      ];
    })

-- ---- what the lists hold
-- a key of the list is below the count, and its residual arc leaves the node
pub record IsLeaving (arcs : List Arc) (count v key : ℕ) : Type 0 where
  pub below : key < count
  pub tail : tail_of arcs key ≡ v

pub leaving-is : (arcs : List Arc) (count v place : ℕ) → place < length (leaving_below arcs count v) → IsLeaving arcs count v (get_or (leaving_below arcs count v) place 0)
leaving-is arcs zero v place inside = absurd (omega arith)
leaving-is arcs (suc key) v place inside = elim (cases_eq (tail_of arcs key) v) [
  | inl same ↦
      let keys : List ℕ = leaving_below arcs key v in
      let is : leaving_below arcs (suc key) v ≡ keys ++ key ∷ [] = leaving-here arcs key v same in
      let size : length (leaving_below arcs (suc key) v) ≡ length keys + 1 = ap length is ∙ length_push keys key in
      let P : List ℕ → Type 0 = λ ks. IsLeaving arcs (suc key) v (get_or ks place 0) in
      let Q : ℕ → Type 0 = λ k. IsLeaving arcs (suc key) v k in
      subst P (sym is) (elim (cases_eq place (length keys)) [
        | inl last ↦
            let here : get_or (keys ++ key ∷ []) place 0 ≡ key = ap (λ x. get_or (keys ++ key ∷ []) x 0) last ∙ get_or_push keys key 0 (length keys) refl in
            subst Q (sym here) (record { below = omega arith; tail = same })
        | inr before ↦
            let old : place < length keys = omega (arith, size) in
            let one = leaving-is arcs key v place old in
            subst Q (sym (get_or_append_left keys (key ∷ []) 0 place old)) (record { below = omega (arith, one.below); tail = one.tail })
      ])
  | inr other ↦
      let is : leaving_below arcs (suc key) v ≡ leaving_below arcs key v = leaving-elsewhere arcs key v other in
      let P : List ℕ → Type 0 = λ ks. IsLeaving arcs (suc key) v (get_or ks place 0) in
      let one = leaving-is arcs key v place (omega (arith, ap length is)) in
      subst P (sym is) (record { below = omega (arith, one.below); tail = one.tail })
]

-- and each such key stands there
pub record StandsAt (keys : List ℕ) (key : ℕ) : Type 0 where
  pub place : ℕ
  pub below : place < length keys
  pub is : get_or keys place 0 ≡ key

pub leaving-each : (arcs : List Arc) (count v key : ℕ) → key < count → tail_of arcs key ≡ v → StandsAt (leaving_below arcs count v) key
leaving-each arcs zero v key below leaves = absurd (omega arith)
leaving-each arcs (suc last) v key below leaves = elim (cases_eq key last) [
  | inl same ↦
      let keys : List ℕ = leaving_below arcs last v in
      let is : leaving_below arcs (suc last) v ≡ keys ++ last ∷ [] = leaving-here arcs last v (ap (tail_of arcs) (sym same) ∙ leaves) in
      record {
        place = length keys;
        below = omega (arith, ap length is, length_push keys last);
        is = ap (λ (ks : List ℕ). get_or ks (length keys) 0) is ∙ get_or_push keys last 0 (length keys) refl ∙ sym same;
      }
  | inr other ↦
      let keys : List ℕ = leaving_below arcs last v in
      let one = leaving-each arcs last v key (omega arith) leaves in
      elim (cases_eq (tail_of arcs last) v) [
        | inl here ↦
            let is : leaving_below arcs (suc last) v ≡ keys ++ last ∷ [] = leaving-here arcs last v here in
            record {
              place = one.place;
              below = omega (arith, ap length is, length_push keys last, one.below);
              is = ap (λ (ks : List ℕ). get_or ks one.place 0) is ∙ get_or_append_left keys (last ∷ []) 0 one.place one.below ∙ one.is;
            }
        | inr elsewhere ↦
            let is : leaving_below arcs (suc last) v ≡ keys = leaving-elsewhere arcs last v elsewhere in
            record { place = one.place; below = omega (arith, ap length is, one.below); is = ap (λ (ks : List ℕ). get_or ks one.place 0) is ∙ one.is }
      ]
]
