use Rattle.std.proofs.Common.{None, Some}
use Rattle.ua_conn.specs.client.Past.{client_known}
use Rattle.ua_conn.specs.client.Ranges.{client_running_of}
use Rattle.ua_conn.proofs.client.connection.Connection.new.Goals as goal

pub returns : goal.returns
unfolding client_known
returns c = λ i. client_running_of c.args.config c.args.reverse None (c.start.ensures i) (c.in_ok-half.ensures.made i).half (c.new.ensures i) (Some 1) (c.starting_at.ensures i)
