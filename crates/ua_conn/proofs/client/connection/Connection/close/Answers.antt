use Rattle.ua_conn.proofs.ClientEnd.QuestionLemmas.{close_short}
use Rattle.ua_conn.proofs.client.connection.Connection.close.Goals as goal

pub write_close-requires : goal.write_close-requires
write_close-requires c = close_short c.args.now c.args.id c.close_asked_body-body.result c.close_asked_body-body.ensures
