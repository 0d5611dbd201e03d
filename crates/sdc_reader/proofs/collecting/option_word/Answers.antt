use Rattle.std.proofs.Common.{◌≡◌}
use Rattle.std.proofs.lemmas.Result.{err_from_is_err_and}
use Rattle.sdc_reader.proofs.OptionWords.{IsFree, free_refused}
use Rattle.sdc_reader.proofs.collecting.option_word.Goals as goal

pub returns-in_err-any-in_default : goal.returns-in_err-any-in_default
returns-in_err-any-in_default c =
    let p = err_from_is_err_and c.from_residual-in_err-any-in_default.result c.from_residual-in_err-any-in_default.ensures.1 in
    rw (p.1, p.2) (free_refused c.args.setting c.args.given c.args.option c.args.opened.now c.in_err-any-in_default.field-0.0 (record {
      time = c.in_default.not-Time;
      period = c.in_default.not-Period;
      name = c.in_default.not-Name;
      waveform = c.in_default.not-Waveform;
      clock = c.in_default.not-Clock;
      from = c.in_default.not-From;
      through = c.in_default.not-Through;
      to = c.in_default.not-To;
    }) c.in_err-any-in_default.ensures)
