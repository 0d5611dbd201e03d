-- What a list of names and contents stands for, at a place and at its end.
use Rattle.std.proofs.Common.{◌≡◌, ℕ, zero, suc, ◌+◌, ◌≤◌, Bool, true, false, cond, List, [], ◌∷◌, ◌++◌, get_or, None, Some, refl, ap, sym, subst, ◌∙◌, string_bytes, arith}
use Rattle.std.specs.List.{position_from}
use Rattle.std.proofs.Math.ListN.{set}
use Rattle.std.specs.Str.{bytes_eq}
use Rattle.std.proofs.lemmas.Cmp.{nat_list_eq_equiv}
use Rattle.std.proofs.lemmas.Slice.Eq.{bytes_eq-Decides}
use Rattle.std.specs.Ordering.{nat_cmp}
use Rattle.std.specs.Cmp.Lexicographic.{slice_cmp}
use Rattle.std.specs.FinMap as map
use Rattle.std.specs.FinSet as names
use Rattle.bud_shelf.specs.declared.stored.Kept.{Kept}
use Rattle.bud_shelf.specs.declared.stored.Content.{Content}
use Rattle.bud_shelf.specs.Stored.{no_files, with_content, content_bytes, is_long, IsContent}
use Rattle.bud_shelf.specs.Kept.{stored_of, has_name}
use Rattle.bud_shelf.proofs.Names.{get-with_content, contains-with_content, with_content_again, with_content_swap}

-- a place that is found is not before the one where the search began
pub position_from-low : {A : Type 0} (p : A → Bool) (xs : List A) (j i : ℕ) → position_from p j xs ≡ Some i → j ≤ i
position_from-low p [] j i e = cc
position_from-low p (x ∷ xs) j i e =
    elim (p x) as (λ b. cond b (Some j) (position_from p (j + 1) xs) ≡ Some i → j ≤ i) [
      | true ↦ λ e. let same : j ≡ i = cc in omega arith
      | false ↦ λ e. omega (arith, position_from-low p xs (j + 1) i e)
    ] e

-- a first place that is found is the first element's, where that passes
here : {A : Type 0} (b : Bool) (p : A → Bool) (xs : List A) (j i : ℕ) → j + 0 ≡ i → cond b (Some j) (position_from p (j + 1) xs) ≡ Some i → b ≡ true
here true p xs j i at_i found = refl
here false p xs j i at_i found = let low : j + 1 ≤ i = position_from-low p xs (j + 1) i found in absurd (omega arith)

there : {A : Type 0} (b : Bool) (p : A → Bool) (xs : List A) (j k i : ℕ) → j + suc k ≡ i → cond b (Some j) (position_from p (j + 1) xs) ≡ Some i → (b ≡ false) × (position_from p (j + 1) xs ≡ Some i)
there true p xs j k i at_i found = let same : j ≡ i = cc in absurd (omega arith)
there false p xs j k i at_i found = (refl, found)

equal_names : (name : List ℕ) (file : Kept) → has_name name file ≡ true → name ≡ string_bytes file.name
equal_names name file is = (bytes_eq-Decides name (string_bytes file.name)).0 is

other_names : (name : List ℕ) (file : Kept) → has_name name file ≡ false → bytes_eq (string_bytes file.name) name ≡ false
other_names name file differs = sym (nat_list_eq_equiv.symm name (string_bytes file.name)) ∙ differs

-- a content that is written at the place of its name is put in place of the one before
pub stored_of-set : (name : List ℕ) (content : Content) (files : List Kept) (j k i : ℕ) (d : Kept) → j + k ≡ i → position_from (has_name name) j files ≡ Some i → stored_of (set files k (record { name = (get_or files k d).name; content = content })) ≡ with_content (stored_of files) name content
stored_of-set name content [] j k i d at_i found = cc
stored_of-set name content (file ∷ files) j zero i d at_i found =
    let is : has_name name file ≡ true = here (has_name name file) (has_name name) files j i at_i found in
    let same : name ≡ string_bytes file.name = equal_names name file is in
    subst (λ n. with_content (stored_of files) (string_bytes file.name) content ≡ with_content (with_content (stored_of files) (string_bytes file.name) file.content) n content) (sym same) (sym (with_content_again (stored_of files) (string_bytes file.name) file.content content))
stored_of-set name content (file ∷ files) j (suc k) i d at_i found =
    let later : (has_name name file ≡ false) × (position_from (has_name name) (j + 1) files ≡ Some i) = there (has_name name file) (has_name name) files j k i at_i found in
    ap (λ s. with_content s (string_bytes file.name) file.content) (stored_of-set name content files (j + 1) k i d (omega arith) later.1)
    ∙ sym (with_content_swap (stored_of files) (string_bytes file.name) name file.content content (other_names name file later.0))

absent : {A : Type 0} (b : Bool) (p : A → Bool) (xs : List A) (j : ℕ) → cond b (Some j) (position_from p (j + 1) xs) ≡ None → (b ≡ false) × (position_from p (j + 1) xs ≡ None)
absent true p xs j none = cc
absent false p xs j none = (refl, none)

-- a content under a new name, at the end, is put among the others
pub stored_of-push : (name : List ℕ) (files : List Kept) (j : ℕ) (last : Kept) → string_bytes last.name ≡ name → position_from (has_name name) j files ≡ None → stored_of (files ++ last ∷ []) ≡ with_content (stored_of files) name last.content
stored_of-push name [] j last named none = ap (λ n. with_content no_files n last.content) named
stored_of-push name (file ∷ files) j last named none =
    let later : (has_name name file ≡ false) × (position_from (has_name name) (j + 1) files ≡ None) = absent (has_name name file) (has_name name) files j none in
    ap (λ s. with_content s (string_bytes file.name) file.content) (stored_of-push name files (j + 1) last named later.1)
    ∙ sym (with_content_swap (stored_of files) (string_bytes file.name) name file.content last.content (other_names name file later.0))

-- where no place has the name, nothing stands under it
pub IsContent-none : (name : List ℕ) (files : List Kept) (j : ℕ) → position_from (has_name name) j files ≡ None → IsContent (stored_of files) name None
IsContent-none name [] j none = (map.get-empty (slice_cmp nat_cmp) name, names.contains-empty (slice_cmp nat_cmp) name)
IsContent-none name (file ∷ files) j none =
    let later : (has_name name file ≡ false) × (position_from (has_name name) (j + 1) files ≡ None) = absent (has_name name file) (has_name name) files j none in
    let rest : IsContent (stored_of files) name None = IsContent-none name files (j + 1) later.1 in (
      get-with_content (stored_of files) (string_bytes file.name) file.content name ∙ ap (λ b. cond b (Some (content_bytes file.content)) (map.get (stored_of files).files name)) later.0 ∙ rest.0,
      contains-with_content (stored_of files) (string_bytes file.name) file.content name ∙ ap (λ b. cond b (is_long file.content) (names.contains (stored_of files).long name)) later.0 ∙ rest.1,
    )

-- what is kept at the first place that has the name stands under it
pub IsContent-some : (name : List ℕ) (files : List Kept) (j k i : ℕ) (d : Kept) → j + k ≡ i → position_from (has_name name) j files ≡ Some i → IsContent (stored_of files) name (Some (get_or files k d).content)
IsContent-some name [] j k i d at_i found = cc
IsContent-some name (file ∷ files) j zero i d at_i found =
    let is : has_name name file ≡ true = here (has_name name file) (has_name name) files j i at_i found in (
      get-with_content (stored_of files) (string_bytes file.name) file.content name ∙ ap (λ b. cond b (Some (content_bytes file.content)) (map.get (stored_of files).files name)) is,
      contains-with_content (stored_of files) (string_bytes file.name) file.content name ∙ ap (λ b. cond b (is_long file.content) (names.contains (stored_of files).long name)) is,
    )
IsContent-some name (file ∷ files) j (suc k) i d at_i found =
    let later : (has_name name file ≡ false) × (position_from (has_name name) (j + 1) files ≡ Some i) = there (has_name name file) (has_name name) files j k i at_i found in
    let rest : IsContent (stored_of files) name (Some (get_or files k d).content) = IsContent-some name files (j + 1) k i d (omega arith) later.1 in (
      get-with_content (stored_of files) (string_bytes file.name) file.content name ∙ ap (λ b. cond b (Some (content_bytes file.content)) (map.get (stored_of files).files name)) later.0 ∙ rest.0,
      contains-with_content (stored_of files) (string_bytes file.name) file.content name ∙ ap (λ b. cond b (is_long file.content) (names.contains (stored_of files).long name)) later.0 ∙ rest.1,
    )
