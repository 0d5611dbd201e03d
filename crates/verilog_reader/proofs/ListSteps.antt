-- The turns of the loop that reads a list with commas.
use Rattle.std.proofs.Common.{◌≡◌, ◌<◌, true, false, Some, None, List, [], ◌∷◌, ◌++◌, refl, ap, ◌∙◌}
use Rattle.std.specs.Str.{byte}
use Rattle.text_scan.specs.Repeat.{repeat}
use Rattle.verilog_reader.specs.Left.{Left, Production, size, begins}
use Rattle.verilog_reader.specs.Words.{is_sign}
use Rattle.verilog_reader.specs.Lists.{behind_comma, has_no_comma, separated}
use Rattle.verilog_reader.specs.Repeats.{GoesOn}
use Rattle.verilog_reader.specs.Answers.{Fails}
use Rattle.verilog_reader.specs.declared.readings.Stop.{Stop}
use Rattle.verilog_reader.specs.declared.readings.Stop.TheVariants.{Syntax, NoMemory}
use Rattle.verilog_reader.proofs.RepeatSteps.{begun, turned, turn_missed, ended}

-- the parts so far and those of what is left are all of the list
pub record IsListing {X : Type 0} (production : Production X) (s : Left) (values : List X) (rest : Left) : Type 0 where
  pub first : X
  pub behind : Left
  pub found : List X
  pub begins : production s ≡ Some (first, behind)
  pub are : values ≡ first ∷ found
  pub goes_on : GoesOn has_no_comma (behind_comma production) size found rest (repeat has_no_comma (behind_comma production) (size behind) behind)

pub listing_begins : {X : Type 0} (production : Production X) (s rest : Left) (first : X) → production s ≡ Some (first, rest) → IsListing production s (first ∷ []) rest
listing_begins production s rest first read = record {
  first = first;
  behind = rest;
  found = [];
  begins = read;
  are = refl;
  goes_on = begun has_no_comma (behind_comma production) size rest;
}

goes_with_comma : (rest : Left) → begins (is_sign (byte ",")) rest ≡ true → has_no_comma rest ≡ false
goes_with_comma rest comma = rw comma refl

ends_without : (rest : Left) → begins (is_sign (byte ",")) rest ≡ false → has_no_comma rest ≡ true
ends_without rest none = rw none refl

pub listing_turns : {X : Type 0} (production : Production X) (s : Left) (values more : List X) (rest behind : Left) (value : X) → IsListing production s values rest →
    begins (is_sign (byte ",")) rest ≡ true → behind_comma production rest ≡ Some (value, behind) → size behind < size rest → more ≡ values ++ value ∷ [] → IsListing production s more behind
listing_turns production s values more rest behind value given comma read less is = record {
  first = given.first;
  behind = given.behind;
  found = given.found ++ value ∷ [];
  begins = given.begins;
  are = is ∙ ap (λ xs. xs ++ value ∷ []) given.are;
  goes_on = turned has_no_comma (behind_comma production) size given.found rest behind value _ given.goes_on (goes_with_comma rest comma) read less;
}

listing_misses : {X : Type 0} (production : Production X) (s : Left) (values : List X) (rest : Left) → IsListing production s values rest →
    begins (is_sign (byte ",")) rest ≡ true → behind_comma production rest ≡ None → separated production s ≡ None
unfolding separated
listing_misses production s values rest given comma missed =
    rw (given.begins, turn_missed has_no_comma (behind_comma production) size given.found rest _ given.goes_on (goes_with_comma rest comma) missed) refl

pub listing_stops : {X : Type 0} (production : Production X) (s : Left) (values : List X) (rest : Left) (stop : Stop) → IsListing production s values rest →
    begins (is_sign (byte ",")) rest ≡ true → Fails stop (behind_comma production rest) → Fails stop (separated production s)
listing_stops production s values rest (Syntax at) given comma missed = listing_misses production s values rest given comma missed
listing_stops production s values rest NoMemory given comma missed = tt

-- the first part can't be read
first_misses : {X : Type 0} (production : Production X) (s : Left) → production s ≡ None → separated production s ≡ None
unfolding separated
first_misses production s missed = rw missed refl

pub first_stops : {X : Type 0} (production : Production X) (s : Left) (stop : Stop) → Fails stop (production s) → Fails stop (separated production s)
first_stops production s (Syntax at) missed = first_misses production s missed
first_stops production s NoMemory missed = tt

pub listing_ends : {X : Type 0} (production : Production X) (s : Left) (values : List X) (rest : Left) → IsListing production s values rest →
    begins (is_sign (byte ",")) rest ≡ false → separated production s ≡ Some (values, rest)
unfolding separated
listing_ends production s values rest given none =
    rw (given.begins, ended has_no_comma (behind_comma production) size given.found rest _ given.goes_on (ends_without rest none), given.are) refl
