use Rattle.std.proofs.Common.{[], Bool, List, take}
use Rattle.ua_frame.specs.Streams.{pieces_of}
use Rattle.ua_service.specs.declared.request.Request.{Request}
use Rattle.ua_conn.specs.server.Site.{Site}
use Rattle.ua_conn.specs.server.Feeding.{Answering}
use Rattle.ua_conn.proofs.server.conversation.answer_pieces.Given as goal

abbrev pub invariant-pieces : goal.invariant-pieces
invariant-pieces g l = (reverse : Bool) (site : Site) (before : List Request) → g.T.Requests.keeps l.fn.handed before → Answering reverse site [] l.fn.reply.items before l.fn.server →
    (asked : List Request) × g.T.Requests.keeps l.handed asked × Answering reverse site (pieces_of (take l.now-index l.pieces)) l.reply.items asked l.server
