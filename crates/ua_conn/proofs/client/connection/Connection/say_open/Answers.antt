use Rattle.ua_conn.specs.client.Telling.{request_type_of}
use Rattle.ua_conn.proofs.ClientEnd.QuestionLemmas.{open_short}
use Rattle.ua_conn.proofs.client.connection.Connection.say_open.Goals as goal

pub write_open-requires : goal.write_open-requires
write_open-requires c = open_short c.args.now c.args.id (request_type_of c.args.asks) c.self.inside.config.lifetime c.open_asked_body-body.result c.open_asked_body-body.ensures
