use Rattle.block_laws.proofs.Promises.{Compose-files}
use Rattle.block_laws.proofs.laws.files_compose.Goals as goal

pub returns : goal.returns
returns c = Compose-files
