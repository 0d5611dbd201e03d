use Rattle.block_readings.proofs.Writable.{writable-files, files-read}
use Rattle.block_readings.proofs.laws.writable_files_hold.Goals as goal

pub returns-clause-promises : goal.returns-clause-promises
returns-clause-promises c = writable-files

pub returns-clause-ranges : goal.returns-clause-ranges
returns-clause-ranges c = files-read
