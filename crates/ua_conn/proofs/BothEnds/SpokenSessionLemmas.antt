-- What a server makes of the opening that our client sends, with bodies as they are written.
use Rattle.std.proofs.Common.{◌≡◌, ℕ, ◌<◌, ◌≤◌, ◌^◌, false, List, [], ◌∷◌, Option, Some, None, refl, sym, subst, arith, lit<}
use Rattle.ua_value.specs.Number.{unsigned}
use Rattle.ua_value.specs.Text.{string}
use Rattle.ua_frame.specs.Layout.{Frame}
use Rattle.ua_frame.specs.Hello.{hello_layout, is_long}
use Rattle.ua_frame.specs.declared.hello.Hello.{Hello}
use Rattle.ua_chunk.specs.Numbers.{number_after}
use Rattle.ua_chunk.specs.FrameLaws.{number_fits}
use Rattle.ua_channel.specs.Token.{next_token}
use Rattle.ua_service.specs.ChannelMessages.{open_message, close_message}
use Rattle.ua_service.specs.Channel.{open_request_at, close_request_at}
use Rattle.ua_service.specs.ValueLaws.{open_request_read, open_request_length}
use Rattle.ua_disco.specs.Bounds.{IsLimits}
use Rattle.ua_conn.specs.server.Site.{Site}
use Rattle.ua_conn.specs.server.Answers.{opened_body}
use Rattle.ua_conn.specs.Past.{Agreed, Known, agreed, known}
use Rattle.ua_conn.specs.server.Replies.{Acknowledge, Opened}
use Rattle.ua_conn.proofs.BothEnds.SpokenLemmas.{Greets, Opens, spell}
use Rattle.ua_conn.proofs.BothEnds.SpokenRequestLemmas.{Taken, taken_more, at}
use Rattle.ua_conn.proofs.BothEnds.SpokenTurnLemmas.{nothing, nothing_known, hello_taken, open_taken}

-- ---- what a client is set up with

-- One buffer for both directions, limits on answers, and a url that is a text of at most 4095 bytes.
pub record IsClient (buffer max_message max_chunks lifetime first : ℕ) (url : Option (List ℕ)) : Type 0 where
  pub least : 8192 ≤ buffer
  pub most : buffer ≤ 1048576
  pub message_least : 1 ≤ max_message
  pub message_most : max_message < 2 ^ 32
  pub chunks_least : 1 ≤ max_chunks
  pub chunks_most : max_chunks < 2 ^ 32
  pub lifetime_fits : lifetime < 2 ^ 32
  pub first_some : 1 ≤ first
  pub url_short : is_long url ≡ false
  pub url_text : string.IsValue url

abbrev pub hello_with : ℕ → ℕ → ℕ → Option (List ℕ) → Hello
hello_with buffer max_message max_chunks url = record { version = 0; receive = buffer; send = buffer; max_message = max_message; max_chunks = max_chunks; url = url }

pub hello_value : (buffer max_message max_chunks lifetime first : ℕ) (url : Option (List ℕ)) → IsClient buffer max_message max_chunks lifetime first url → hello_layout.IsValue (hello_with buffer max_message max_chunks url)
unfolding hello_layout unsigned
hello_value buffer max_message max_chunks lifetime first url h =
    (lit< tt, (omega (arith, h.most), (omega (arith, h.most), (h.message_most, (h.chunks_most, h.url_text)))))

-- what is agreed holds a header, and fits the size field
pub record IsAgreed (a : Agreed) : Type 0 where
  pub receive_least : 8192 ≤ a.ack.receive
  pub receive_most : a.ack.receive ≤ 1048576
  pub send_least : 8192 ≤ a.ack.send
  pub send_most : a.ack.send ≤ 1048576

pub is_agreed : (site : Site) (buffer max_message max_chunks lifetime first : ℕ) (url : Option (List ℕ)) → IsLimits site.settings.limits → IsClient buffer max_message max_chunks lifetime first url
    → IsAgreed (agreed site (hello_with buffer max_message max_chunks url))
is_agreed site buffer max_message max_chunks lifetime first url l h = record {
  receive_least = omega (arith, l.receive_least, h.least);
  receive_most = omega (arith, l.receive_most, h.most);
  send_least = omega (arith, l.send_least, h.least);
  send_most = omega (arith, l.send_most, h.most);
}

-- ---- the opening

abbrev pub open_body : ℕ → ℕ → ℕ → ℕ → List ℕ
open_body now handle type lifetime = open_message.canon (open_request_at now handle type lifetime)

-- The Hello and the first open request: the channel is open with one token, and both are answered.
pub opening_taken : (site : Site) (buffer max_message max_chunks lifetime first now : ℕ) (url : Option (List ℕ)) (f g : Frame)
    → IsLimits site.settings.limits → IsClient buffer max_message max_chunks lifetime first url → now < 2 ^ 63
    → f.bytes ≡ spell (Greets (hello_with buffer max_message max_chunks url)) → g.bytes ≡ spell (Opens 0 (number_after first 0) 1 (open_body now 1 0 lifetime))
    → (let a = agreed site (hello_with buffer max_message max_chunks url) in let token = next_token [] g.moment lifetime in
    Taken site (known site []) (at a (token ∷ []) (Some (number_after first 0)) None None) (f ∷ g ∷ []) (Acknowledge a.ack ∷ Opened 1 (opened_body 1 g.moment site.channel token) ∷ []) [])
opening_taken site buffer max_message max_chunks lifetime first now url f g limits h clock e d =
    let hello = hello_with buffer max_message max_chunks url in
    let a = agreed site hello in
    let token = next_token [] g.moment lifetime in
    let is = is_agreed site buffer max_message max_chunks lifetime first url limits h in
    let one = hello_taken site hello f e (hello_value buffer max_message max_chunks lifetime first url h) h.url_short h.least h.least in
    let two = open_taken site a [] None None 0 (number_after first 0) 1 (open_body now 1 0 lifetime) (open_request_at now 1 0 lifetime) g d refl (omega (arith, open_request_length now 1 0 lifetime)) is.receive_least
    (lit< tt) (number_fits first 0) (lit< tt) refl (lit< tt) (open_request_read now 1 0 lifetime clock (lit< tt) (lit< tt) h.lifetime_fits) refl refl in
    subst (λ (k : Known). Taken site k (at a (token ∷ []) (Some (number_after first 0)) None None) (f ∷ g ∷ []) (Acknowledge a.ack ∷ Opened 1 (opened_body 1 g.moment site.channel token) ∷ []) []) (sym (nothing_known site))
    (taken_more site nothing (at a [] None None None) (at a (token ∷ []) (Some (number_after first 0)) None None) f (g ∷ []) (Acknowledge a.ack ∷ []) (Opened 1 (opened_body 1 g.moment site.channel token) ∷ []) [] [] one two)

-- ---- a close

abbrev pub close_body : ℕ → ℕ → List ℕ
close_body now handle = close_message.canon (close_request_at now handle)
