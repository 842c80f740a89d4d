use Rattle.std.proofs.Common.{None}
use Rattle.ua_frame.specs.Streams.{cuts_within, rest_within}
use Rattle.ua_conn.specs.Past.{known}
use Rattle.ua_conn.specs.server.Held.{held}
use Rattle.ua_conn.specs.server.Ranges.{running_of}
use Rattle.ua_conn.proofs.server.connection.Connection.new.Goals as goal

pub returns : goal.returns
unfolding held known cuts_within rest_within
returns c = λ i. running_of c.args.settings.now c.args.channel_id None (c.start.ensures i) (c.in_ok-half.ensures.made i).half (c.starting_at.ensures i)
