use Rattle.block_laws.proofs.AmountsAlike.{AskAlike-amounts}
use Rattle.block_laws.proofs.laws.captures_ask_alike.Goals as goal

pub returns : goal.returns
returns c = λ d t n blocks scope all captures size kept are_read are_held. AskAlike-amounts d t n size blocks kept scope all captures are_read are_held
