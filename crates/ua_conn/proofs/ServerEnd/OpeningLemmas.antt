-- A HEL and an open request that every server takes, whatever its limits.
use Rattle.std.proofs.Common.{◌≡◌, ℕ, zero, suc, ◌<◌, Bool, true, cond, ◌&&◌, nat_lt, List, [], ◌∷◌, Some, None, refl, sym, ap, subst, arith, lit≤, lit<}
use Rattle.std.specs.Prelude.{pos, option_map}
use Rattle.std.specs.Str.{is_utf8, chars}
use Rattle.std.proofs.lemmas.Bool.{ltb-true, and_parts}
use lib.Utf8.{encode}
use Rattle.ua_value.specs.Format.{IsBytes}
use Rattle.ua_value.specs.Number.{unsigned, signed}
use Rattle.ua_value.specs.Text.{bytes_of}
use Rattle.ua_value.specs.Node.{node_id, two_byte}
use Rattle.ua_value.specs.Date.{date_time}
use Rattle.ua_variant.specs.Extension.{extension_object, extension_body}
use Rattle.ua_frame.specs.Streams.{size_of}
use Rattle.ua_frame.specs.Layout.{Frame, kind_of, flag_of}
use Rattle.ua_frame.specs.Hello.{hello_layout}
use Rattle.ua_frame.specs.declared.kind.Kind.TheVariants as kinds
use Rattle.ua_frame.specs.declared.hello.Hello.{Hello}
use Rattle.ua_chunk.specs.Layout.{OpenChunk, open_header, open_chunk_of, policy_none}
use Rattle.ua_service.specs.declared.channel.OpenRequest.{OpenRequest}
use Rattle.ua_service.specs.Message.{message}
use Rattle.ua_service.specs.Headers.{request_header, no_object}
use Rattle.ua_service.specs.Channel.{open_request}
use Rattle.ua_service.specs.ChannelMessages.{open_of}
use Rattle.ua_channel.specs.Token.{newest_id, two_newest}
use Rattle.ua_channel.specs.Admission.{follows_last, is_text}
use Rattle.ua_conn.specs.server.Site.{Site}
use Rattle.ua_conn.specs.Past.{known, has_number, is_open, number_of, hello_in, open_in, tokens_by}
use Rattle.ua_conn.specs.server.Legal.{IsWhole, HasRoom, IsHello, IsOpening, Opens}
use Rattle.ua_conn.proofs.Vectors.{hello, open_first, open_body}
use Rattle.ua_conn.proofs.ServerEnd.LegalLemmas.{room_second}

-- ---- lists of bytes, by a test

all_bytes : List ℕ → Bool
all_bytes [] = true
all_bytes (b ∷ bytes) = nat_lt b 256 && all_bytes bytes

bytes_by : (bytes : List ℕ) → all_bytes bytes ≡ true → IsBytes bytes
unfolding all_bytes
bytes_by [] h i = omega arith
bytes_by (b ∷ bytes) h zero = ltb-true b 256 (and_parts _ _ h).0
bytes_by (b ∷ bytes) h (suc i) = bytes_by bytes (and_parts (nat_lt b 256) (all_bytes bytes) h).1 i

-- ---- the two frames

first : Frame
first = record { bytes = hello; moment = 0 }

first_whole : IsWhole first
unfolding first size_of all_bytes
first_whole = record { frame = record { header = lit≤ tt; whole = refl }; bytes = bytes_by hello refl }

said : Hello
said = record { version = 0; receive = 65535; send = 65535; max_message = 0; max_chunks = 0; url = Some (111 ∷ 112 ∷ 99 ∷ 46 ∷ 116 ∷ 99 ∷ 112 ∷ 58 ∷ 47 ∷ 47 ∷ 108 ∷ 111 ∷ 99 ∷ 97 ∷ 108 ∷ 104 ∷ 111 ∷ 115 ∷ 116 ∷ 58 ∷ 52 ∷ 56 ∷ 52 ∷ 48 ∷ []) }

first_read : hello_in first ≡ Some said
unfolding first said hello_layout unsigned bytes_of is_utf8 chars encode
first_read = refl

first_kind : kind_of first.bytes ≡ Some kinds.Hello
unfolding first kind_of
first_kind = refl

first_size : size_of first.bytes ≡ 56
unfolding first size_of
first_size = refl

first_flag : flag_of first.bytes ≡ 70
unfolding first
first_flag = refl

first_hello : (site : Site) → IsHello site first
unfolding known said
first_hello site = record {
  kind = first_kind;
  flag = first_flag;
  size = record { whole = first_whole; least = omega (arith, first_size) };
  hello = said;
  layout = first_read;
  url = refl;
  receive = lit≤ tt;
  send = lit≤ tt;
}

second : Frame
second = record { bytes = open_first; moment = 0 }

second_whole : IsWhole second
unfolding second size_of all_bytes
second_whole = record { frame = record { header = lit≤ tt; whole = refl }; bytes = bytes_by open_first refl }

second_size : size_of second.bytes ≡ 132
unfolding second size_of
second_size = refl

second_kind : kind_of second.bytes ≡ Some kinds.Open
unfolding second kind_of
second_kind = refl

second_flag : flag_of second.bytes ≡ 70
unfolding second
second_flag = refl

asked : OpenRequest
asked = record {
  header = record { authentication_token = two_byte 0; timestamp = record { 0 = pos 0 }; request_handle = 1; return_diagnostics = 0; audit_entry_id = None; timeout_hint = 0; additional_header = no_object };
  client_protocol_version = 0;
  request_type = pos 0;
  security_mode = pos 1;
  client_nonce = None;
  requested_lifetime = 0;
}

asked_read : open_of (open_body 1 0 1 0) ≡ Some asked
unfolding asked message open_request request_header node_id date_time extension_object extension_body unsigned signed bytes_of is_utf8 chars encode
asked_read = refl

opening : OpenChunk
opening = record { channel = 0; policy = Some policy_none; sequence = 1; request_id = 1; body = open_body 1 0 1 0 }

second_read : open_in second ≡ Some opening
unfolding second opening open_chunk_of open_header unsigned bytes_of is_utf8 chars encode
second_read = refl

-- ---- behind a HEL nothing was numbered, and no token issued

last_none : (site : Site) (h : Frame) → IsHello site h → (known site (h ∷ [])).last ≡ None
unfolding known
last_none site h i = ap (λ κ. option_map number_of (cond (has_number κ) (Some h) None)) i.kind

tokens_none : (site : Site) (h : Frame) → IsHello site h → (known site (h ∷ [])).tokens ≡ []
unfolding known
tokens_none site h i = ap (λ κ. two_newest (tokens_by (cond (is_open κ) (h ∷ []) []))) i.kind

second_opens : (site : Site) → HasRoom site → (h : Frame) → IsHello site h → IsOpening site (h ∷ []) 0 0 second
unfolding opening asked
second_opens site room h i =
    let large = room_second site h room i in
    record {
      kind = second_kind;
      flag = second_flag;
      size = record { whole = second_whole; least = omega (arith, second_size, large) };
      opening = opening;
      layout = second_read;
      channel_id = refl;
      policy = policy_same;
      number = ap (λ last. follows_last last 1) (last_none site h i);
      request = asked;
      body = asked_read;
      request_type = refl;
      mode = refl;
      unspent = subst (λ tokens. newest_id tokens < 4294967295) (sym (tokens_none site h i)) (lit< tt);
    }
  where
    policy_same : is_text policy_none (Some policy_none) ≡ true
    policy_same = refl

pub opens : (site : Site) → HasRoom site → Opens site
opens site room = record { hello = (first, first_hello site); opening = λ h i. (second, second_opens site room h i) }
