-- The options whose word may be anything.
use Rattle.std.proofs.Common.{◌≡◌, Ok, refl}
use Rattle.sdc_reader.specs.declared.faults.SdcFault.{SdcFault}
use Rattle.sdc_reader.specs.declared.given.Given.{Given}
use Rattle.sdc_reader.specs.declared.given.Setting.{Setting}
use Rattle.sdc_reader.specs.declared.opened.Opened.{Opened}
use Rattle.sdc_reader.specs.declared.options.SdcOption.{SdcOption}
use Rattle.sdc_reader.specs.declared.options.SdcOption.TheVariants.{Time, Resistance, Capacitance, Current, Voltage, Power, Period, Name, Waveform, Comment, Clock, ClockFall, Max, Min, AddDelay, Setup, Hold, Start, End, From, Through, To}
use Rattle.sdc_reader.specs.Answers.{Fails, ◌>>=◌}
use Rattle.sdc_reader.specs.Collecting.{option_word}
use Rattle.sdc_reader.specs.Values.{any}
use Rattle.sdc_reader.proofs.AnswerLemmas.{fails_behind}

-- none of the options whose word has a value
pub record IsFree (option : SdcOption) : Type 0 where
  pub time : option ≡ Time → ⊥
  pub period : option ≡ Period → ⊥
  pub name : option ≡ Name → ⊥
  pub waveform : option ≡ Waveform → ⊥
  pub clock : option ≡ Clock → ⊥
  pub from : option ≡ From → ⊥
  pub through : option ≡ Through → ⊥
  pub to : option ≡ To → ⊥

free_word : (s : Setting) (given : Given) (option : SdcOption) (o : Opened) → IsFree option → option_word s given option o ≡ (any o >>= λ done. Ok given)
unfolding option_word
free_word s given Time o free = absurd (free.time refl)
free_word s given Period o free = absurd (free.period refl)
free_word s given Name o free = absurd (free.name refl)
free_word s given Waveform o free = absurd (free.waveform refl)
free_word s given Clock o free = absurd (free.clock refl)
free_word s given From o free = absurd (free.from refl)
free_word s given Through o free = absurd (free.through refl)
free_word s given To o free = absurd (free.to refl)
free_word s given Resistance o free = refl
free_word s given Capacitance o free = refl
free_word s given Current o free = refl
free_word s given Voltage o free = refl
free_word s given Power o free = refl
free_word s given Comment o free = refl
free_word s given ClockFall o free = refl
free_word s given Max o free = refl
free_word s given Min o free = refl
free_word s given AddDelay o free = refl
free_word s given Setup o free = refl
free_word s given Hold o free = refl
free_word s given Start o free = refl
free_word s given End o free = refl

pub free_refused : (s : Setting) (given : Given) (option : SdcOption) (o : Opened) (fault : SdcFault) → IsFree option → Fails fault (any o) → Fails fault (option_word s given option o)
free_refused s given option o fault free fails = rw (free_word s given option o free) (fails_behind fault (any o) (λ done. Ok given) fails)
