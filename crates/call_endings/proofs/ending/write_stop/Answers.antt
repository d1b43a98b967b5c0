use Rattle.call_endings.proofs.ending.write_stop.Goals as goal

pub returns-in-ReadFault-clause-cut : goal.returns-in-ReadFault-clause-cut
returns-in-ReadFault-clause-cut g c = rw c.in-ReadFault.is c.write_text.ensures.cut

pub returns-in-DiskFault-clause-wrote : goal.returns-in-DiskFault-clause-wrote
returns-in-DiskFault-clause-wrote g c = rw c.in-DiskFault.is c.write_text-in-DiskFault.ensures.wrote

pub returns-in-DiskFault-clause-cut : goal.returns-in-DiskFault-clause-cut
returns-in-DiskFault-clause-cut g c = rw c.in-DiskFault.is c.write_text-in-DiskFault.ensures.cut

pub returns-in-NoMemory-clause-wrote : goal.returns-in-NoMemory-clause-wrote
returns-in-NoMemory-clause-wrote g c = rw c.in-NoMemory.is c.write_text-in-NoMemory.ensures.wrote

pub returns-in-NoMemory-clause-cut : goal.returns-in-NoMemory-clause-cut
returns-in-NoMemory-clause-cut g c = rw c.in-NoMemory.is c.write_text-in-NoMemory.ensures.cut
