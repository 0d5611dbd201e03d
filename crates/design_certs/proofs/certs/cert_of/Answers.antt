use Rattle.design_certs.proofs.Naming.{named, text_names}
use Rattle.design_certs.proofs.certs.cert_of.Goals as goal

pub cert_named-requires-clause-named : goal.cert_named-requires-clause-named
cert_named-requires-clause-named c = named c.args.layered.now c.args.flat.now c.requires.layered

pub returns-clause-ranges : goal.returns-clause-ranges
returns-clause-ranges c = λ text numbers.
    c.cert_named.ensures.ranges c.requires.layered.1.problem (text_names c.args.layered.now c.args.flat.now c.requires.layered c.args.all.now c.requires.classes text) numbers
