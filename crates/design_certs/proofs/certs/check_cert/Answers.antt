use Rattle.design_certs.proofs.Naming.{named}
use Rattle.design_certs.proofs.certs.check_cert.Goals as goal

pub check_named-requires-clause-named : goal.check_named-requires-clause-named
check_named-requires-clause-named c = named c.args.layered.now c.args.flat.now c.requires.layered
