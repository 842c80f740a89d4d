-- What whole lists of pieces bring.
use Rattle.std.specs.Prelude.{◌≡◌, Bool, List, ◌++◌, Some}
use Rattle.ua_frame.specs.Streams.{Piece, timed}
use Rattle.ua_conn.specs.server.Site.{Site}
use Rattle.ua_conn.specs.server.Replies.{end_of, reply_bytes, handed}
use Rattle.ua_conn.specs.server.Held.{stop}
use Rattle.ua_conn.specs.declared.outcome.End.{End}

-- once a stream has a fault or a CLO, what comes later changes nothing
abbrev pub StaysStopped : Type 0
StaysStopped = (reverse : Bool) (site : Site) (ps qs : List Piece) (ending : End) → stop (end_of site (timed ps)) ≡ Some ending →
    (reply_bytes reverse site (timed (ps ++ qs)) ≡ reply_bytes reverse site (timed ps))
    × (handed site (timed (ps ++ qs)) ≡ handed site (timed ps))
    × (end_of site (timed (ps ++ qs)) ≡ end_of site (timed ps))

-- what is answered depends on the timed stream alone
abbrev pub SameForAnyCut : Type 0
SameForAnyCut = (reverse : Bool) (site : Site) (ps qs : List Piece) → timed ps ≡ timed qs →
    (reply_bytes reverse site (timed ps) ≡ reply_bytes reverse site (timed qs))
    × (handed site (timed ps) ≡ handed site (timed qs))
    × (end_of site (timed ps) ≡ end_of site (timed qs))
