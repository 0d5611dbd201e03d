-- Lines of a text, one after the other.
use Rattle.std.proofs.Common.{◌≡◌, ℕ, ◌+◌, true, false, [], ◌∷◌, refl}
use Rattle.line_text.specs.Parts.{Part, IsCutOff, is_feed, is_row}
use Rattle.line_text.specs.Parts.IsCutOff.{cut, whole}
use Rattle.line_text.proofs.PartsLemmas.{fields_none}
use Rattle.edit_reader.specs.Numbered.{lines_from}

-- an empty part has no line that is kept
pub lines_none : (n : ℕ) (part : Part) → part.bytes ≡ [] → lines_from n part ≡ []
unfolding lines_from
lines_none n part none = rw (none, fields_none (record { at = part.at; bytes = [] }) refl) refl

pub lines_kept : (n : ℕ) (part first behind : Part) → IsCutOff is_feed part first behind → is_row first ≡ true →
    lines_from n part ≡ record { number = n; part = first } ∷ lines_from (n + 1) behind
unfolding lines_from
lines_kept n part first behind given kept = elim given [ cut e ↦ rw (e, kept) refl | whole e none ↦ rw (e, kept, lines_none (n + 1) behind none) refl ]

pub lines_passed : (n : ℕ) (part first behind : Part) → IsCutOff is_feed part first behind → is_row first ≡ false → lines_from n part ≡ lines_from (n + 1) behind
unfolding lines_from
lines_passed n part first behind given passed = elim given [ cut e ↦ rw (e, passed) refl | whole e none ↦ rw (e, passed, lines_none (n + 1) behind none) refl ]
