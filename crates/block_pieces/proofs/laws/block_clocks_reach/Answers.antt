use Rattle.block_pieces.proofs.BlockReaching.{reaches-inside, reaches-whole}
use Rattle.block_pieces.proofs.laws.block_clocks_reach.Goals as goal

pub returns-clause-inside : goal.returns-clause-inside
returns-clause-inside c = λ x k v design block reached sources. reaches-inside x design block reached sources k v

pub returns-clause-only : goal.returns-clause-only
returns-clause-only c = λ x k v design block reached sources. reaches-whole x design block reached sources k v
