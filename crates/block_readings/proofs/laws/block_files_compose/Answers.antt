use Rattle.block_readings.proofs.Written.{are-files}
use Rattle.block_readings.proofs.laws.block_files_compose.Goals as goal

pub returns : goal.returns
returns c = are-files
