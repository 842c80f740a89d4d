use Rattle.ua_stream.proofs.connection.add_segment.Goals as goal

pub returns : goal.returns
returns c = rw (c.begin.ensures, c.payload.ensures, c.first_of-sequence.ensures) at c.add.ensures.stream
