-- How a server begins that opened the connection itself: one ReverseHello. OPC 10000-6, 7.1.2.6.
use Rattle.std.specs.Prelude.{Bool, true, false, nat_lt, List, ℕ, [], length, Option, Some, None, if◌then◌else◌}
use Rattle.ua_frame.specs.Hello.{reverse_hello_frame}
use Rattle.ua_frame.specs.declared.reverse_hello.ReverseHello.{ReverseHello}
use Rattle.ua_disco.specs.Configuration.{Configuration}
use Rattle.ua_disco.specs.Settings.{first_uri_of, first_url_of}
use Rattle.ua_conn.specs.FirstFrame.{greatest_first_frame}
use Rattle.ua_conn.specs.declared.server.greeting.ReverseFault.{ReverseFault}
use Rattle.ua_conn.specs.declared.server.greeting.ReverseFault.TheVariants.{NoEndpoint, TooLarge}

-- the URI of the first application, and the url of an endpoint
abbrev pub reverse_hello_by : Configuration → Option (List ℕ) → ReverseHello
reverse_hello_by settings url = record { server_uri = first_uri_of settings.applications; endpoint_url = url }

abbrev pub reverse_fault_at : Configuration → Option (Option (List ℕ)) → Option ReverseFault
reverse_fault_at settings None = Some NoEndpoint
reverse_fault_at settings (Some url) = if nat_lt greatest_first_frame (length (reverse_hello_frame (reverse_hello_by settings url))) then Some TooLarge else None

-- Why a server with these settings can't begin so: it has no endpoint, or the frame is longer than any end takes before an Acknowledge.
abbrev pub reverse_fault : Configuration → Option ReverseFault
reverse_fault settings = reverse_fault_at settings (first_url_of settings.endpoints)

abbrev pub greeting_at : Configuration → Option (Option (List ℕ)) → List ℕ
greeting_at settings None = []
greeting_at settings (Some url) = reverse_hello_frame (reverse_hello_by settings url)

-- what a server says before it hears anything: where it opened the connection, the frame with the url of its first endpoint
abbrev pub greeting : Bool → Configuration → List ℕ
greeting false settings = []
greeting true settings = greeting_at settings (first_url_of settings.endpoints)
