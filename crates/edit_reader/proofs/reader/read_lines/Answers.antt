use Rattle.std.proofs.Common.{◌≤◌, arith, rules}
use Rattle.line_text.specs.Spans.{stop}
use Rattle.edit_reader.proofs.ScriptLaws.{line_read, lines_end, lesser_within, kept_length}
use Rattle.edit_reader.proofs.reader.read_lines.Goals as goal

pub loop-line-preserved : goal.loop-line-preserved
loop-line-preserved c =
    let inside : stop c.in-Some.line.part ≤ stop c.args.text.rest = search rules in
    let longer = kept_length c.loop-line.script c.in-Ok.read.0 in
    let shorter = c.in-Some.ensures.shorter in
    let size = c.loop-line.invariant.size in
    record {
      so_far =
          rw (c.in-Ok-keep.ensures.kept, c.lesser_of-breach.ensures)
          (line_read _ _ _ _ _ _ _ _ _ c.loop-line.invariant.so_far c.in-Some.ensures.lines c.in-Ok.ensures.answer);
      within = rw c.lesser_of-breach.ensures (lesser_within _ _ c.loop-line.breach c.in-Ok.read.1 c.loop-line.invariant.within c.in-Ok.ensures.within inside);
      stop_stays = search rules;
      size = rw c.in-Ok-keep.ensures.kept (omega (arith, longer, shorter, size));
    }

pub returns-clause-answer : goal.returns-clause-answer
returns-clause-answer c = lines_end _ _ _ _ _ c.loop-line.invariant.so_far c.in_default.ensures.lines
