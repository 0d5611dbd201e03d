-- What files put by name hold at any name.
use Rattle.std.proofs.Common.{◌≡◌, ℕ, Bool, true, false, cond, if◌then◌else◌, List, Some, None, Result, Ok, Err, OnOk, OnErr, refl, ap, sym, ◌∙◌, arith}
use Rattle.std.specs.Str.{bytes_eq}
use Rattle.std.specs.Cmp.Lexicographic.{slice_cmp, texts_ties}
use Rattle.std.specs.Ordering.{nat_cmp}
use Rattle.std.specs.FinMap as map
use Rattle.std.specs.FinSet as set
use Rattle.std.proofs.lemmas.Cmp.{nat_list_cmp_total}
use Rattle.std.proofs.lemmas.Slice.Eq.{bytes_eq-Decides}
use Rattle.std.proofs.lemmas.Grind.{common_steps}
use Rattle.bud_shelf.specs.Outside.{Files}
use Rattle.bud_shelf.specs.declared.stored.Content.{Content}
use Rattle.bud_shelf.specs.declared.stored.Content.TheVariants.{Bytes, Zeros}
use Rattle.bud_shelf.specs.Stored.{Stored, no_files, with_file, with_content, content_bytes, is_long, file_in}

pub get-insert_name : (m : Files) (name bytes q : List ℕ) → map.get (map.insert m name bytes) q ≡ cond (bytes_eq q name) (Some bytes) (map.get m q)
get-insert_name m name bytes q =
    map.get-insert nat_list_cmp_total m name bytes q ∙ ap (λ b. cond b (Some bytes) (map.get m q)) (sym (texts_ties q name))

pub get-with_content : (s : Stored) (name : List ℕ) (content : Content) (q : List ℕ) → map.get (with_content s name content).files q ≡ cond (bytes_eq q name) (Some (content_bytes content)) (map.get s.files q)
get-with_content s name (Bytes v) q = get-insert_name s.files name _ q
get-with_content s name (Zeros len) q = get-insert_name s.files name _ q

pub contains-with_content : (s : Stored) (name : List ℕ) (content : Content) (q : List ℕ) → set.contains (with_content s name content).long q ≡ cond (bytes_eq q name) (is_long content) (set.contains s.long q)
contains-with_content s name (Bytes v) q = grind (arith, common_steps, set.contains-remove nat_list_cmp_total s.long name q, texts_ties q name)
contains-with_content s name (Zeros len) q = grind (arith, common_steps, set.contains-insert nat_list_cmp_total s.long name q, texts_ties q name)

-- files are the same where each name stands for the same
pub same_stored : (s t : Stored) → ((q : List ℕ) → map.get s.files q ≡ map.get t.files q) → ((q : List ℕ) → set.contains s.long q ≡ set.contains t.long q) → s ≡ t
same_stored s t files long =
    let same = map.slice_cmp-IsAntisymmetric map.nat_cmp-IsAntisymmetric in
    let same_files : s.files ≡ t.files = map.same_map nat_list_cmp_total same s.files t.files files in
    let same_long : s.long ≡ t.long = set.same_set nat_list_cmp_total same s.long t.long long in
    λ i. record { files = same_files i; long = same_long i }

cond_again : {A : Type 0} (b : Bool) (x y z : A) → cond b x (cond b y z) ≡ cond b x z
cond_again true x y z = refl
cond_again false x y z = refl

-- of two contents under one name the second stays
pub with_content_again : (s : Stored) (name : List ℕ) (first second : Content) → with_content (with_content s name first) name second ≡ with_content s name second
with_content_again s name first second =
    same_stored _ _
    (λ q. grind (arith, get-with_content (with_content s name first) name second q, get-with_content s name first q, get-with_content s name second q, cond_again (bytes_eq q name) (Some (content_bytes second)) (Some (content_bytes first)) (map.get s.files q)))
    (λ q. grind (arith, contains-with_content (with_content s name first) name second q, contains-with_content s name first q, contains-with_content s name second q, cond_again (bytes_eq q name) (is_long second) (is_long first) (set.contains s.long q)))

cond_swap : {A : Type 0} (a b : Bool) (x y z : A) → (a ≡ true → b ≡ true → ⊥) → cond a x (cond b y z) ≡ cond b y (cond a x z)
cond_swap true true x y z apart = absurd (apart refl refl)
cond_swap true false x y z apart = refl
cond_swap false b x y z apart = refl

apart : (m n q : List ℕ) → bytes_eq m n ≡ false → bytes_eq q n ≡ true → bytes_eq q m ≡ true → ⊥
apart m n q differ is_n is_m =
    let same_n : q ≡ n = (bytes_eq-Decides q n).0 is_n in
    let same_m : q ≡ m = (bytes_eq-Decides q m).0 is_m in
    cc

-- contents under two names may be put in either order
pub with_content_swap : (s : Stored) (m n : List ℕ) (first second : Content) → bytes_eq m n ≡ false → with_content (with_content s m first) n second ≡ with_content (with_content s n second) m first
with_content_swap s m n first second differ =
    same_stored _ _
    (λ q. grind (arith, get-with_content (with_content s m first) n second q, get-with_content s m first q, get-with_content (with_content s n second) m first q, get-with_content s n second q, cond_swap (bytes_eq q n) (bytes_eq q m) (Some (content_bytes second)) (Some (content_bytes first)) (map.get s.files q) (apart m n q differ)))
    (λ q. grind (arith, contains-with_content (with_content s m first) n second q, contains-with_content s m first q, contains-with_content (with_content s n second) m first q, contains-with_content s n second q, cond_swap (bytes_eq q n) (bytes_eq q m) (is_long second) (is_long first) (set.contains s.long q) (apart m n q differ)))

no_long-remove : (name : List ℕ) → set.remove no_files.long name ≡ no_files.long
no_long-remove name =
    set.same_set nat_list_cmp_total (map.slice_cmp-IsAntisymmetric map.nat_cmp-IsAntisymmetric) _ _
    (λ q. grind (arith, common_steps, set.contains-remove nat_list_cmp_total no_files.long name q, set.contains-empty (slice_cmp nat_cmp) q))

-- where no file was long, none is after a file is put whole, or is not put
pub no_long-put : {E : Type 0} (r : Result (Unit {0}) E) (old new : Stored) (name bytes : List ℕ) → old.long ≡ no_files.long → OnOk r (new ≡ with_file old name bytes) → OnErr r (new ≡ old) → new.long ≡ no_files.long
no_long-put (Ok u) old new name bytes none ok err = ap (λ s. s.long) ok ∙ ap (λ l. set.remove l name) none ∙ no_long-remove name
no_long-put (Err e) old new name bytes none ok err = ap (λ s. s.long) err ∙ none

-- where no file is long, each is kept whole
pub file_in-no_long : (s : Stored) (name : List ℕ) → s.long ≡ no_files.long → file_in s name ≡ map.get s.files name
file_in-no_long s name none =
    ap (λ l. if set.contains l name then None else map.get s.files name) none
    ∙ ap (λ b. if b then None else map.get s.files name) (set.contains-empty (slice_cmp nat_cmp) name)
