-- How often bits that have numbers are driven, from where what drives them begins and ends.
use Rattle.std.specs.Prelude.{◌≡◌, ℕ, zero, suc, ◌+◌, ◌<◌, ◌≤◌, ◌==◌, nat_lt, Bool, true, false, List, [], ◌∷◌, length, min, slice_index_or, slice_set, Option, Some, None, if◌then◌else◌}
use Rattle.net_drivers.specs.declared.covers.Ends.{Ends}

-- the two greatest of two ends and one more
abbrev pub with_end : Ends → ℕ → Ends
with_end ends end =
    if nat_lt ends.last end then record { last = end; second = ends.last }
    else (if nat_lt ends.second end then record { last = ends.last; second = end } else ends)

abbrev pub one_if : Bool → ℕ
one_if false = 0
one_if true = 1

-- how many of the two ends lie behind the bit
abbrev pub ends_behind : Ends → ℕ → ℕ
ends_behind ends b = one_if (nat_lt b ends.last) + one_if (nat_lt b ends.second)

abbrev pub ends_at : List Ends → ℕ → Ends
ends_at rows k = slice_index_or rows k (record { last = 0; second = 0 })

-- something drives the bits from one number to in front of another
abbrev pub covered : ℕ → ℕ → List Ends → List Ends
covered low end rows = slice_set rows low (with_end (ends_at rows low) end)

-- how many ends of what begins at the first bits lie behind the bit
abbrev pub behind_in : ℕ → List Ends → ℕ → ℕ
behind_in zero rows b = 0
behind_in (suc n) rows b = behind_in n rows b + ends_behind (ends_at rows n) b

-- how often the bit is driven, 2 standing for more
unfoldable pub passing : List Ends → ℕ → ℕ
passing rows b = min 2 (behind_in (suc b) rows b)

-- the greater end stands first
pub record AreOrdered (rows : List Ends) : Type 0 where
  pub each : (k : ℕ) → (ends_at rows k).second ≤ (ends_at rows k).last

-- how often a number stands in a list
abbrev pub times : ℕ → List ℕ → ℕ
times b [] = 0
times b (n ∷ ns) = one_if (n == b) + times b ns

-- these bits are driven once more
pub record Adds (bits : List ℕ) (old new : List Ends) : Type 0 where
  pub size : length new ≡ length old
  pub ordered : AreOrdered old → AreOrdered new
  pub counts : AreOrdered old → (b : ℕ) → b < length old → passing new b ≡ min 2 (passing old b + times b bits)

-- the first number below a bound that passes a test
abbrev pub IsFirstOf : (ℕ → Bool) → ℕ → Option ℕ → Type 0
IsFirstOf test bound None = (b : ℕ) → b < bound → test b ≡ false
IsFirstOf test bound (Some n) = (n < bound) × (test n ≡ true) × ((b : ℕ) → b < n → test b ≡ false)
