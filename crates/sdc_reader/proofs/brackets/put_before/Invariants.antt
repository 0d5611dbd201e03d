use Rattle.std.proofs.Common.{◌≡◌, ◌++◌, reverse, vec_len}
use Rattle.sdc_reader.proofs.brackets.put_before.Given as goal

-- the words that are left go behind those that are pending
abbrev pub invariant-loop-word : goal.invariant-loop-word
invariant-loop-word l = l.pending.items ++ reverse l.words.items ≡ l.fn.pending.items ++ reverse l.fn.words.items

abbrev pub decreases-loop-word : goal.decreases-loop-word
decreases-loop-word l = vec_len l.words
