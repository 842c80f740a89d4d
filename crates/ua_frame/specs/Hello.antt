-- The frames before a secure channel: HEL, ACK, ERR and RHE. OPC 10000-6, 7.1.2.3 to 7.1.2.6.
use Rattle.std.specs.Prelude.{ℕ, Bool, true, false, ◌&&◌, ◌||◌, nat_lt, nat_le, min, List, [], ◌∷◌, length, Option, Some, None, Result, Ok, Err, refl}
use Rattle.std.specs.Int.{w32}
use Rattle.ua_value.specs.Format.{Format, IsLawful}
use Rattle.ua_value.specs.Sequence.{by, pair}
use Rattle.ua_value.specs.SequenceLaws.{lawful_by, lawful_pair}
use Rattle.ua_value.specs.Number.{unsigned}
use Rattle.ua_value.specs.NumberLaws.{lawful_unsigned, wide_32}
use Rattle.ua_value.specs.Text.{string}
use Rattle.ua_value.specs.TextLaws.{lawful_string}
use Rattle.ua_value.specs.Whole.{only}
use Rattle.ua_frame.specs.declared.hello.Hello.{Hello}
use Rattle.ua_frame.specs.declared.acknowledge.Ack.{Ack}
use Rattle.ua_frame.specs.declared.error_frame.ErrorFrame.{ErrorFrame}
use Rattle.ua_frame.specs.declared.reverse_hello.ReverseHello.{ReverseHello}
use Rattle.ua_frame.specs.declared.limits.Limits.{Limits}
use Rattle.ua_frame.specs.declared.kind.Kind.TheVariants as kinds
use Rattle.ua_frame.specs.Layout.{frame_bytes}
use Rattle.ua_frame.specs.Sizes.{least_buffer}
use Rattle.ua_frame.specs.Rows.{Row, first_row}

-- ---- the fields of each, in order

abbrev pub HelloFields : Type 0
HelloFields = ℕ × (ℕ × (ℕ × (ℕ × (ℕ × Option (List ℕ)))))

abbrev pub show_hello : Hello → HelloFields
show_hello h = (h.version, (h.receive, (h.send, (h.max_message, (h.max_chunks, h.url)))))

abbrev pub make_hello : HelloFields → Hello
make_hello p = record { version = p.0; receive = p.1.0; send = p.1.1.0; max_message = p.1.1.1.0; max_chunks = p.1.1.1.1.0; url = p.1.1.1.1.1 }

abbrev pub hello_fields : Format HelloFields
hello_fields = pair (unsigned w32) (pair (unsigned w32) (pair (unsigned w32) (pair (unsigned w32) (pair (unsigned w32) string))))

unfoldable pub hello_layout : Format Hello
hello_layout = by show_hello make_hello hello_fields

abbrev pub AcknowledgeFields : Type 0
AcknowledgeFields = ℕ × (ℕ × (ℕ × (ℕ × ℕ)))

abbrev pub show_acknowledge : Ack → AcknowledgeFields
show_acknowledge a = (a.version, (a.receive, (a.send, (a.max_message, a.max_chunks))))

abbrev pub make_acknowledge : AcknowledgeFields → Ack
make_acknowledge p = record { version = p.0; receive = p.1.0; send = p.1.1.0; max_message = p.1.1.1.0; max_chunks = p.1.1.1.1 }

abbrev pub acknowledge_fields : Format AcknowledgeFields
acknowledge_fields = pair (unsigned w32) (pair (unsigned w32) (pair (unsigned w32) (pair (unsigned w32) (unsigned w32))))

unfoldable pub acknowledge_layout : Format Ack
acknowledge_layout = by show_acknowledge make_acknowledge acknowledge_fields

abbrev pub ErrorFields : Type 0
ErrorFields = ℕ × Option (List ℕ)

abbrev pub show_error : ErrorFrame → ErrorFields
show_error e = (e.status, e.reason)

abbrev pub make_error : ErrorFields → ErrorFrame
make_error p = record { status = p.0; reason = p.1 }

abbrev pub error_fields : Format ErrorFields
error_fields = pair (unsigned w32) string

unfoldable pub error_layout : Format ErrorFrame
error_layout = by show_error make_error error_fields

abbrev pub ReverseHelloFields : Type 0
ReverseHelloFields = Option (List ℕ) × Option (List ℕ)

abbrev pub show_reverse_hello : ReverseHello → ReverseHelloFields
show_reverse_hello r = (r.server_uri, r.endpoint_url)

abbrev pub make_reverse_hello : ReverseHelloFields → ReverseHello
make_reverse_hello p = record { server_uri = p.0; endpoint_url = p.1 }

abbrev pub reverse_hello_fields : Format ReverseHelloFields
reverse_hello_fields = pair string string

unfoldable pub reverse_hello_layout : Format ReverseHello
reverse_hello_layout = by show_reverse_hello make_reverse_hello reverse_hello_fields

-- the bytes of a text itself, of which a null one has none
abbrev pub text_bytes : Option (List ℕ) → ℕ
text_bytes None = 0
text_bytes (Some text) = length text

number_then : {V : Type 0} (f : Format V) → IsLawful f → IsLawful (pair (unsigned w32) f)
number_then f law = lawful_pair _ _ (lawful_unsigned w32 wide_32) law

pub lawful_hello : IsLawful hello_layout
unfolding hello_layout
lawful_hello = lawful_by _ _ _ (λ h. refl) (λ p. refl) (number_then _ (number_then _ (number_then _ (number_then _ (number_then _ lawful_string)))))

pub lawful_acknowledge : IsLawful acknowledge_layout
unfolding acknowledge_layout
lawful_acknowledge = lawful_by _ _ _ (λ a. refl) (λ p. refl) (number_then _ (number_then _ (number_then _ (number_then _ (lawful_unsigned w32 wide_32)))))

pub lawful_error : IsLawful error_layout
unfolding error_layout
lawful_error = lawful_by _ _ _ (λ e. refl) (λ p. refl) (number_then _ lawful_string)

pub lawful_reverse_hello : IsLawful reverse_hello_layout
unfolding reverse_hello_layout
lawful_reverse_hello = lawful_by _ _ _ (λ r. refl) (λ p. refl) (lawful_pair _ _ lawful_string lawful_string)

-- what the whole fields of a frame spell, if anything
abbrev pub hello_of : List ℕ → Option Hello
hello_of fields = only hello_layout.grammar fields

abbrev pub acknowledge_of : List ℕ → Option Ack
acknowledge_of fields = only acknowledge_layout.grammar fields

abbrev pub error_of : List ℕ → Option ErrorFrame
error_of fields = only error_layout.grammar fields

abbrev pub reverse_hello_of : List ℕ → Option ReverseHello
reverse_hello_of fields = only reverse_hello_layout.grammar fields

-- the whole frames, whose flag is F
abbrev pub hello_frame : Hello → List ℕ
hello_frame h = frame_bytes (record { kind = kinds.Hello; flag = 70; fields = hello_layout.canon h })

abbrev pub acknowledge_frame : Ack → List ℕ
acknowledge_frame a = frame_bytes (record { kind = kinds.Acknowledge; flag = 70; fields = acknowledge_layout.canon a })

abbrev pub error_frame : ErrorFrame → List ℕ
error_frame e = frame_bytes (record { kind = kinds.Error; flag = 70; fields = error_layout.canon e })

abbrev pub reverse_hello_frame : ReverseHello → List ℕ
reverse_hello_frame r = frame_bytes (record { kind = kinds.ReverseHello; flag = 70; fields = reverse_hello_layout.canon r })

-- ---- negotiation

-- a url of more than 4095 bytes; a null one is accepted
abbrev pub is_long : Option (List ℕ) → Bool
is_long None = false
is_long (Some url) = nat_lt 4095 (length url)

-- a buffer of the client is smaller than the least one
abbrev pub is_small : Hello → Bool
is_small h = nat_lt h.receive least_buffer || nat_lt h.send least_buffer

-- the refusals of a Hello: its layout, its url, its buffers
abbrev pub hello_rows : Option Hello → List Row
hello_rows None = (true, 0x80070000) ∷ []
hello_rows (Some h) = (is_long h.url, 0x80830000) ∷ (is_small h, 0x80810000) ∷ []

-- Each direction has the lesser of what its two ends take; the limits on messages are the server's. Any version is accepted.
abbrev pub negotiated : Limits → Hello → Ack
negotiated limits h = record {
  version = 0;
  receive = min limits.receive h.send;
  send = min limits.send h.receive;
  max_message = limits.max_message;
  max_chunks = limits.max_chunks;
}

-- the answer to a Hello: what is negotiated, or the status of the first row that refuses it
abbrev pub answered : Option ℕ → Ack → Result Ack ℕ
answered None a = Ok a
answered (Some status) a = Err status

abbrev pub hello_answer : Limits → Hello → Result Ack ℕ
hello_answer limits h = answered (first_row (hello_rows (Some h))) (negotiated limits h)

-- A client takes an Acknowledge with two sizes that are at least the least buffer, and at most those of its Hello. OPC 10000-6, 7.1.2.4.
abbrev pub is_size : ℕ → ℕ → Bool
is_size most n = nat_le least_buffer n && nat_le n most

abbrev pub is_acceptable : Hello → Ack → Bool
is_acceptable h ack = is_size h.send ack.receive && is_size h.receive ack.send
