use Rattle.std.proofs.Common.{length}
use Rattle.verilog_words.proofs.regions.at_directive.Goals as goal

pub returns-then-is_skipped-clause-within : goal.returns-then-is_skipped-clause-within
returns-then-is_skipped-clause-within c = (c.from_offset.ensures.within (length c.args.text.now) c.requires.behind, c.from_offset.ensures.shorter)
