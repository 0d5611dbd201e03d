-- The entries of the rows that are read so far, and the refusal of a row behind accepted ones.
use Rattle.std.specs.List.{All, filter_map}
use Rattle.std.specs.Result.{OnOk, is_err}
use Rattle.std.proofs.Common.{◌≡◌, ℕ, ◌+◌, ◌<◌, ◌≤◌, List, [], ◌∷◌, ◌++◌, length, take, drop, get_or, Option, Some, None, Result, Ok, Err, false, true≢false, refl, sym, ap, subst, ◌∙◌, append_assoc}
use Rattle.std.proofs.lemmas.List.{take_more, take_all, take-append-drop, append-nil}
use Rattle.std.proofs.lemmas.List.Elements.{All-nil, All-more, filter_map-append}
use Rattle.bud_syntax.specs.declared.delays.SdfRow.{SdfRow}
use Rattle.bud_design.specs.Designs.{Design}
use Rattle.net_delays.specs.declared.alongs.Along.{Along}
use Rattle.registers.specs.declared.entries.Through.{Through}
use Rattle.registers.specs.declared.entries.Setup.{Setup}
use Rattle.delay_bind.specs.Rows.{IsAcceptedRow, IsFirstRefused}
use Rattle.delay_bind.specs.Entries.{through_of, setup_of, along_of, Entries, entries_of}
use Rattle.delay_bind.specs.RowAnswers.{IsEntryOf, IsRowAnswer}
use Rattle.delay_bind.specs.Bindings.{IsRefusal}
use Rattle.delay_bind.specs.Binding.{with_entry, AreReadTo, AreRead}
use Rattle.delay_bind.specs.declared.faults.BindFault.{BindFault}
use Rattle.delay_bind.specs.declared.faults.BindFault.TheVariants.{UnknownInstance, WrongCell, NotALeaf, UnknownPin, NotOneNet, MixedEdge, Latch, NegativeDelay, NegativeRest, NoMemory}
use Rattle.delay_bind.specs.declared.rows.Entry.{Entry}
use Rattle.delay_bind.specs.declared.rows.Entry.TheVariants.{Nothing, Leaf, Checked, Net}

-- what holds after success holds where there was no error
pub after-ok : {T E : Type 0} (r : Result T E) (P : Type 0) → is_err r ≡ false → OnOk r P → P
after-ok (Ok x) P none holds = holds
after-ok (Err e) P none holds = absurd (true≢false none)

module _ {X Y : Type 0} (h : X → Option Y) (xs : List X) (x : X) where
  none-pushed : h x ≡ None → filter_map h (xs ++ x ∷ []) ≡ filter_map h xs
  none-pushed is = filter_map-append h xs (x ∷ []) ∙ rw is (append-nil (filter_map h xs))

  some-pushed : (y : Y) → h x ≡ Some y → filter_map h (xs ++ x ∷ []) ≡ filter_map h xs ++ y ∷ []
  some-pushed y is = filter_map-append h xs (x ∷ []) ∙ rw is refl

abbrev parts : List Through → List Setup → List Along → Entries
parts ts ss xs = record { throughs = ts; setups = ss; alongs = xs }

parts-same : (ts us : List Through) (ss rs : List Setup) (xs ys : List Along) → ts ≡ us → ss ≡ rs → xs ≡ ys → parts ts ss xs ≡ parts us rs ys
parts-same ts us ss rs xs ys first second third = ap (λ l. parts l ss xs) first ∙ (ap (λ l. parts us l xs) second ∙ ap (λ l. parts us rs l) third)

entries-pushed : (d : Design) (xs : List SdfRow) (row : SdfRow) (entry : Entry) → IsEntryOf d row entry → entries_of d (xs ++ row ∷ []) ≡ with_entry (entries_of d xs) entry
entries-pushed d xs row Nothing is =
    parts-same _ _ _ _ _ _ (none-pushed (λ (r : SdfRow). through_of d r r.kind) xs row is.0.through_is) (none-pushed (λ (r : SdfRow). setup_of d r r.kind) xs row is.0.setup_is) (none-pushed (λ (r : SdfRow). along_of d r r.kind) xs row is.0.along_is)
entries-pushed d xs row (Leaf t) is =
    parts-same _ _ _ _ _ _ (some-pushed (λ (r : SdfRow). through_of d r r.kind) xs row t is.0.through_is) (none-pushed (λ (r : SdfRow). setup_of d r r.kind) xs row is.0.setup_is) (none-pushed (λ (r : SdfRow). along_of d r r.kind) xs row is.0.along_is)
entries-pushed d xs row (Checked s) is =
    parts-same _ _ _ _ _ _ (none-pushed (λ (r : SdfRow). through_of d r r.kind) xs row is.0.through_is) (some-pushed (λ (r : SdfRow). setup_of d r r.kind) xs row s is.0.setup_is) (none-pushed (λ (r : SdfRow). along_of d r r.kind) xs row is.0.along_is)
entries-pushed d xs row (Net x) is =
    parts-same _ _ _ _ _ _ (none-pushed (λ (r : SdfRow). through_of d r r.kind) xs row is.0.through_is) (none-pushed (λ (r : SdfRow). setup_of d r r.kind) xs row is.0.setup_is) (some-pushed (λ (r : SdfRow). along_of d r r.kind) xs row x is.0.along_is)

pub AreReadTo-none : (d : Design) (rows : List SdfRow) → AreReadTo d rows 0 (record { throughs = []; setups = []; alongs = [] })
AreReadTo-none d rows = record { accepted = All-nil (IsAcceptedRow d); entries = refl }

pub AreRead-all : (d : Design) (rows : List SdfRow) (count : ℕ) (e : Entries) → AreReadTo d rows count e → length rows ≤ count → AreRead d rows e
AreRead-all d rows count e read all =
    let whole = take_all count rows all in
    record { accepted = subst (All (IsAcceptedRow d)) whole read.accepted; entries = subst (λ xs. entries_of d xs ≡ e) whole read.entries }

module _ (d : Design) (rows : List SdfRow) (i : ℕ) (row : SdfRow) (below : i < length rows) (is : row ≡ get_or rows i row) where
  pub AreReadTo-more : (entry : Entry) (old new : Entries) → AreReadTo d rows i old → IsAcceptedRow d row → IsEntryOf d row entry → new ≡ with_entry old entry → AreReadTo d rows (i + 1) new
  AreReadTo-more entry old new read accepted one added = record {
    accepted = All-more (IsAcceptedRow d) rows i row below read.accepted (subst (IsAcceptedRow d) is accepted);
    entries =
        ap (entries_of d) (take_more rows i row below)
        ∙ (ap (λ r. entries_of d (take i rows ++ r ∷ [])) (sym is)
        ∙ (entries-pushed d (take i rows) row entry one ∙ (ap (λ e. with_entry e entry) read.entries ∙ sym added)));
  }

  stands : rows ≡ take i rows ++ row ∷ drop (i + 1) rows
  stands = sym (take-append-drop (i + 1) rows) ∙ (ap (λ xs. xs ++ drop (i + 1) rows) (take_more rows i row below) ∙ (append_assoc (take i rows) (get_or rows i row ∷ []) (drop (i + 1) rows) ∙ ap (λ r. take i rows ++ r ∷ drop (i + 1) rows) (sym is)))

  module _ (accepted : All (IsAcceptedRow d) (take i rows)) where
    first_refused : IsFirstRefused d rows row
    first_refused = record { before = take i rows; behind = drop (i + 1) rows; stands = stands; accepted = accepted }

    -- the refusal of the row is that of the file
    pub IsRefusal-row : (fault : BindFault) → IsRowAnswer d row (Err fault) → IsRefusal d rows fault
    IsRefusal-row (UnknownInstance name) refused = record { row = row; first = first_refused; refused = refused }
    IsRefusal-row (WrongCell name) refused = record { row = row; first = first_refused; refused = refused }
    IsRefusal-row (NotALeaf name) refused = record { row = row; first = first_refused; refused = refused }
    IsRefusal-row (UnknownPin name) refused = record { row = row; first = first_refused; refused = refused }
    IsRefusal-row (NotOneNet from to) refused = record {
      row = row;
      first = first_refused;
      from_name = refused.from_name;
      to_name = refused.to_name;
      apart = refused.apart;
      from_is = refused.from_is;
      to_is = refused.to_is;
    }
    IsRefusal-row (MixedEdge name) refused = absurd refused
    IsRefusal-row (Latch name) refused = absurd refused
    IsRefusal-row (NegativeDelay from to) refused = absurd refused
    IsRefusal-row (NegativeRest to) refused = absurd refused
    IsRefusal-row NoMemory refused = tt
