-- Words, one after the other.
use Rattle.std.proofs.Common.{◌≡◌, ℕ, ◌+◌, ◌<◌, Bool, true, false, List, [], ◌∷◌, length, drop, get_or, Ok, refl, sym, ap, ◌∙◌}
use Rattle.std.proofs.lemmas.List.{drop_more}
use Rattle.sdc_reader.specs.declared.faults.SdcFault.{SdcFault}
use Rattle.sdc_reader.specs.declared.given.Setting.{Setting}
use Rattle.sdc_reader.specs.declared.given.Collected.{Collected}
use Rattle.sdc_reader.specs.declared.opened.Opened.{Opened}
use Rattle.sdc_reader.specs.declared.options.CommandKind.{CommandKind}
use Rattle.sdc_reader.specs.Answers.{Fails}
use Rattle.sdc_reader.specs.Collecting.{collected, collected_all, is_name_option, owns_next, is_named}
use Rattle.sdc_reader.proofs.AnswerLemmas.{fails_behind}

-- a list from a place on, with the element that was read there
pub from_item : {X : Type 0} (xs : List X) (i : ℕ) (x : X) → i < length xs → x ≡ get_or xs i x → drop i xs ≡ x ∷ drop (i + 1) xs
from_item xs i x within is = drop_more xs i x within ∙ ap (λ y. y ∷ drop (i + 1) xs) (sym is)

pub collected_turn : (s : Setting) (before after : Collected) (o : Opened) (all rest : List Opened) → all ≡ o ∷ rest → collected s before o ≡ Ok after → collected_all s after rest ≡ collected_all s before all
unfolding collected_all
collected_turn s before after o all rest is read = rw (is, read) refl

pub collected_fails : (s : Setting) (before : Collected) (o : Opened) (all rest : List Opened) (fault : SdcFault) → all ≡ o ∷ rest → Fails fault (collected s before o) → Fails fault (collected_all s before all)
unfolding collected_all
collected_fails s before o all rest fault is fails = rw is (fails_behind fault (collected s before o) (λ more. collected_all s more rest) fails)

pub collected_end : (s : Setting) (before : Collected) (all : List Opened) → all ≡ [] → collected_all s before all ≡ Ok before
unfolding collected_all
collected_end s before all is = rw is refl

pub named_found : (kind : CommandKind) (owned : Bool) (o : Opened) (all rest : List Opened) → all ≡ o ∷ rest → is_name_option owned o ≡ true → is_named kind owned all ≡ true
unfolding is_named
named_found kind owned o all rest is name = rw (is, name) refl

pub named_on : (kind : CommandKind) (owned : Bool) (o : Opened) (all rest : List Opened) → all ≡ o ∷ rest → is_name_option owned o ≡ false → is_named kind owned all ≡ is_named kind (owns_next kind owned o) rest
unfolding is_named
named_on kind owned o all rest is other = rw (is, other) refl

pub named_end : (kind : CommandKind) (owned : Bool) (all : List Opened) → all ≡ [] → is_named kind owned all ≡ false
unfolding is_named
named_end kind owned all is = rw is refl
