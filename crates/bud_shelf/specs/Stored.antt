-- What a shelf in memory holds: its files, and which of them are long, that is, kept as their length alone.
use Rattle.std.specs.Prelude.{◌≡◌, ℕ, Bool, true, false, if◌then◌else◌, List, replicate, Option, None, Some, refl}
use Rattle.std.specs.Coded.{Coded, code_by, coded×, coded_list, coded_ℕ}
use Rattle.std.specs.Ordering.{nat_cmp}
use Rattle.std.specs.Cmp.Lexicographic.{slice_cmp}
use Rattle.std.specs.FinMap as map
use Rattle.std.specs.FinSet as set
use Rattle.bud_shelf.specs.Outside.{Files}
use Rattle.bud_shelf.specs.declared.stored.Content.{Content}
use Rattle.bud_shelf.specs.declared.stored.Content.TheVariants.{Bytes, Zeros}

-- a set of names, each as its bytes
abbrev pub Names : Type 0
Names = set.FinSet (slice_cmp nat_cmp)

pub record Stored : Type 0 where
  pub files : Files
  pub long : Names

abbrev pub files_code : Coded Files
files_code = map.code (coded_list coded_ℕ) (coded_list coded_ℕ)

abbrev pub names_code : Coded Names
names_code = set.code (coded_list coded_ℕ)

abbrev pub stored_code : Coded Stored
stored_code =
    code_by (Files × Names) (coded× files_code names_code) (λ s. (s.files, s.long)) (λ p. record { files = p.0; long = p.1 }) (λ _. refl)

abbrev pub no_files : Stored
no_files = record { files = map.empty; long = set.empty }

-- a file of these bytes in place of what its name stood for
abbrev pub with_file : Stored → List ℕ → List ℕ → Stored
with_file s name bytes = record { files = map.insert s.files name bytes; long = set.remove s.long name }

-- a long file of so many zero bytes in place of what its name stood for
abbrev pub with_long : Stored → List ℕ → ℕ → Stored
with_long s name len = record { files = map.insert s.files name (replicate len 0); long = set.insert s.long name }

abbrev pub with_content : Stored → List ℕ → Content → Stored
with_content s name (Bytes v) = with_file s name v.items
with_content s name (Zeros len) = with_long s name len

-- the bytes of a file that is not long
abbrev pub file_in : Stored → List ℕ → Option (List ℕ)
file_in s name = if set.contains s.long name then None else map.get s.files name

abbrev pub content_bytes : Content → List ℕ
content_bytes (Bytes v) = v.items
content_bytes (Zeros len) = replicate len 0

abbrev pub is_long : Content → Bool
is_long (Bytes v) = false
is_long (Zeros len) = true

-- what stands under a name
abbrev pub IsContent : Stored → List ℕ → Option Content → Type 0
IsContent s name None = (map.get s.files name ≡ None) × (set.contains s.long name ≡ false)
IsContent s name (Some content) = (map.get s.files name ≡ Some (content_bytes content)) × (set.contains s.long name ≡ is_long content)
