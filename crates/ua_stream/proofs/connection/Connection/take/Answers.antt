use Rattle.ua_stream.proofs.connection.Connection.take.Goals as goal

pub returns-in-Forth-clause-taken : goal.returns-in-Forth-clause-taken
returns-in-Forth-clause-taken c = rw c.in-Forth.is c.add_segment.ensures

pub returns-in-Back-clause-taken : goal.returns-in-Back-clause-taken
returns-in-Back-clause-taken c = rw c.in-Back.is c.add_segment-in-Back.ensures
