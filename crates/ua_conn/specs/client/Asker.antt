-- A client: its configuration, the url that it names, the first of its sequence numbers, and which end opens the connection.
use Rattle.std.specs.Prelude.{ℕ, Bool, List, Option}
use Rattle.ua_frame.specs.declared.hello.Hello.{Hello}
use Rattle.ua_conn.specs.declared.client.config.ClientConfig.{ClientConfig}

pub record Asker : Type 0 where
  pub config : ClientConfig
  pub url : Option (List ℕ)
  pub first_sequence : ℕ
  -- The server opens it, and says which url is to be named; the one above counts no more. OPC 10000-6, 7.1.2.6.
  pub reverse : Bool

-- One buffer is named for both directions; the limits are those on answers. OPC 10000-6, 7.1.2.3.
abbrev pub hello_to : ClientConfig → Option (List ℕ) → Hello
hello_to config url = record {
  version = 0;
  receive = config.buffer;
  send = config.buffer;
  max_message = config.max_message;
  max_chunks = config.max_chunks;
  url = url;
}

abbrev pub hello_by : Asker → Hello
hello_by a = hello_to a.config a.url
