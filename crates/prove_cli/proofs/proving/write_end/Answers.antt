use Rattle.prove_cli.proofs.proving.write_end.Goals as goal

pub returns-in-ReadFault-clause-cut : goal.returns-in-ReadFault-clause-cut
returns-in-ReadFault-clause-cut g c = rw c.in-ReadFault.is c.write_text.ensures.cut
