-- Refusals, passed on.
use Rattle.std.proofs.Common.{refl}
use Rattle.sdc_reader.specs.declared.faults.SdcFault.{SdcFault}
use Rattle.sdc_reader.specs.declared.faults.SdcFault.TheVariants.{Syntax, UnknownCommand, UnknownOption, Value, NoMemory}
use Rattle.sdc_reader.specs.Answers.{Answer, Fails, ◌>>=◌}

-- what is refused is refused with all that comes behind it
pub fails_behind : {A B : Type 0} (fault : SdcFault) (read : Answer A) (f : A → Answer B) → Fails fault read → Fails fault (read >>= f)
fails_behind (Syntax at) read f fails = rw fails refl
fails_behind (UnknownCommand name at) read f fails = rw fails refl
fails_behind (UnknownOption name at) read f fails = rw fails refl
fails_behind (Value at) read f fails = rw fails refl
fails_behind NoMemory read f fails = tt
