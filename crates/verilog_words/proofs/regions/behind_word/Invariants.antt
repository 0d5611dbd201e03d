use Rattle.std.proofs.Common.{◌≡◌, drop}
use Rattle.verilog_words.specs.Outside.{behind_word}
use Rattle.verilog_words.proofs.regions.behind_word.Given as goal

abbrev pub invariant-loop-i : goal.invariant-loop-i
invariant-loop-i l = behind_word l.text l.word l.tokens ≡ behind_word l.text l.word (drop l.i l.tokens)
