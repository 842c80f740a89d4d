-- What the connections of a capture show.
use Rattle.std.specs.Prelude.{List}
use Rattle.ua_stream.specs.declared.connection.Connection.{Connection}
use Rattle.ua_stream.specs.declared.streams.Streams.{Streams}

abbrev pub connections_of : Streams → List Connection
connections_of s = s
