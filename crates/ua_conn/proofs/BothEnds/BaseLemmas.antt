-- Where both ends begin, before the first open request: what the Hello and its Acknowledge come to at each end.
use Rattle.std.proofs.Common.{◌≡◌, ℕ, Bool, false, List, [], ◌∷◌, ◌++◌, map, Option, Some, None, refl, sym, ap, subst, ◌∙◌, arith}
use Rattle.std.specs.List.{AllByRecursion}
use Rattle.ua_frame.specs.Layout.{Frame, kind_of, flag_of}
use Rattle.ua_frame.specs.HeaderRows.{header_fault}
use Rattle.ua_frame.specs.Rows.{or_else, first_row}
use Rattle.ua_frame.specs.Hello.{negotiated}
use Rattle.ua_frame.specs.declared.kind.Kind.{Kind}
use Rattle.ua_frame.specs.declared.kind.Kind.TheVariants as kinds
use Rattle.ua_channel.specs.Token.{is_known}
use Rattle.ua_conn.specs.server.Site.{Site}
use Rattle.ua_conn.specs.Past.{Past, Known, known, agreed, has_token, carried}
use Rattle.ua_conn.specs.server.Faults.{greatest_frame, frame_rows_by, fault_by, names_usable}
use Rattle.ua_conn.specs.server.Replies.{Acknowledge, replies, handed_at}
use Rattle.ua_conn.specs.server.Held.{newest_first}
use Rattle.ua_conn.specs.server.Machine.{known_after}
use Rattle.ua_conn.specs.client.Asker.{hello_by}
use Rattle.ua_conn.specs.client.Commands.{Commands}
use Rattle.ua_conn.specs.client.Pending.{ended_ids, opened_ids}
use Rattle.ua_conn.specs.client.Past.{client_known}
use Rattle.ua_conn.specs.client.Reading.{answers}
use Rattle.ua_conn.specs.Story.{Setup}
use Rattle.ua_conn.specs.BothEnds.{AllAfter, served_by}
use Rattle.ua_conn.proofs.ServerEnd.KnownLemmas.{known_step}
use Rattle.ua_conn.proofs.BothEnds.ServerWalkLemmas.{fault_is}
use Rattle.ua_conn.proofs.BothEnds.OnTheWayLemmas.{Sound, Accepts}
use Rattle.ua_conn.proofs.BothEnds.SpokenLemmas.{Acknowledges, Greets, spell, is_read}
use Rattle.ua_conn.proofs.BothEnds.SpokenAnswerLemmas.{agreed_value}
use Rattle.ua_conn.proofs.BothEnds.SpokenRequestLemmas.{Goes, asks_all, says_all, at, replies_go}
use Rattle.ua_conn.proofs.BothEnds.SpokenTurnLemmas.{nothing_known, hello_taken}
use Rattle.ua_conn.proofs.BothEnds.SpokenSessionLemmas.{hello_value}
use Rattle.ua_conn.proofs.BothEnds.SpokenTableLemmas.{hears}
use Rattle.ua_conn.proofs.BothEnds.ClientWalkLemmas.{Got}
use Rattle.ua_conn.proofs.BothEnds.OpeningKeepLemmas.{client_of}
use Rattle.ua_conn.proofs.BothEnds.OpeningWalkLemmas.{acknowledge_got}
use Rattle.ua_conn.proofs.BothEnds.PlainForms.{IsPlain}

-- ---- frames that carry no token

rows_untokened : (site : Site) (k : Known) (f : Frame) (b c : Bool) (flag : ℕ) (kind : Option Kind) → has_token kind ≡ false → frame_rows_by site k f b kind flag ≡ frame_rows_by site k f c kind flag
rows_untokened site k f b c flag None h = refl
rows_untokened site k f b c flag (Some kinds.Hello) h = refl
rows_untokened site k f b c flag (Some kinds.Acknowledge) h = refl
rows_untokened site k f b c flag (Some kinds.Error) h = refl
rows_untokened site k f b c flag (Some kinds.ReverseHello) h = refl
rows_untokened site k f b c flag (Some kinds.Open) h = refl
rows_untokened site k f b c flag (Some kinds.Message) h = absurd (cc h)
rows_untokened site k f b c flag (Some kinds.Close) h = absurd (cc h)

pub untokened : (site : Site) (k : Known) (f : Frame) (b c : Bool) → has_token (kind_of f.bytes) ≡ false → fault_by site k f b ≡ fault_by site k f c
unfolding fault_by
untokened site k f b c h = ap (λ rows. or_else (header_fault (greatest_frame k.limits) f.bytes) (first_row rows)) (rows_untokened site k f b c (flag_of f.bytes) (kind_of f.bytes) h)

-- where the table holds with the age of tokens, it holds without
pub sound_goes : (site : Site) (past : Past) (fs : List Frame) → AllByRecursion (λ (f : Frame). has_token (kind_of f.bytes) ≡ false) fs → Goes site (known site past) fs → AllAfter (Sound site) past fs
sound_goes site past [] h g = tt
sound_goes site past (f ∷ fs) h g = (
  untokened site (known site past) f (is_known (known site past).tokens (carried f).token) (names_usable (known site past) f) h.0 ∙ sym (fault_is site (known site past) f) ∙ g.0,
  sound_goes site (f ∷ past) fs h.1 (subst (λ (k : Known). Goes site k fs) (sym (known_step site f past)) g.2),
)

-- ---- what is handed on

no_front : {A : Type 0} (xs ys : List A) → xs ++ ys ≡ [] → xs ≡ []
no_front [] ys e = refl
no_front (x ∷ xs) ys e = absurd (cc e)

no_back : {A : Type 0} (xs ys : List A) → xs ++ ys ≡ [] → ys ≡ []
no_back [] ys e = e
no_back (x ∷ xs) ys e = absurd (cc e)

pub served_none : (site : Site) (past : Past) (fs : List Frame) → asks_all site (known site past) fs ≡ [] → served_by site past ≡ [] → served_by site (newest_first fs past) ≡ []
served_none site past [] e h = h
served_none site past (f ∷ fs) e h =
    let here = no_front (handed_at (known site past) f) (asks_all site (known_after site (known site past) f) fs) e in
    let rest = no_back (handed_at (known site past) f) (asks_all site (known_after site (known site past) f) fs) e in
    served_none site (f ∷ past) fs (ap (λ (k : Known). asks_all site k fs) (known_step site f past) ∙ rest)
    (λ i. h i ++ map (λ r. record { request = r; moment = f.moment }) (here i))

-- ---- behind the Hello

-- The server takes the Hello, and the client its Acknowledge, whatever it is told; nothing is served or answered.
pub record Greeted (s : Setup) (p r : Frame) : Type 0 where
  pub sound : Sound s.site [] p
  pub knows : known s.site (p ∷ []) ≡ at (agreed s.site (hello_by s.asker)) [] None None None
  pub says : replies s.site (p ∷ []) ≡ Acknowledge (negotiated s.site.settings.limits (hello_by s.asker)) ∷ []
  pub served : served_by s.site (p ∷ []) ≡ []
  pub accepts : (cmds : Commands) → Accepts s.asker cmds [] r
  pub heard : client_known (r ∷ []) ≡ hears (negotiated s.site.settings.limits (hello_by s.asker)) 0 [] None None
  pub ended : ended_ids (r ∷ []) ≡ []
  pub opened : opened_ids (r ∷ []) ≡ []
  pub answered : (cmds : Commands) → answers cmds (r ∷ []) ≡ []

pub greeted : (s : Setup) → IsPlain s → (p r : Frame) → p.bytes ≡ spell (Greets (hello_by s.asker)) → r.bytes ≡ spell (Acknowledges (negotiated s.site.settings.limits (hello_by s.asker))) → Greeted s p r
greeted s h p r e d =
    let hello = hello_by s.asker in
    let limits = s.site.settings.limits in
    let ack = negotiated limits hello in
    let b = h.site.settings.bounds.limits in
    let c = h.asker.config in
    let value = hello_value s.asker.config.buffer s.asker.config.max_message s.asker.config.max_chunks s.asker.config.lifetime s.asker.first_sequence s.asker.url (client_of s.asker h.asker h.plain) in
    let took = hello_taken s.site hello p e value (h.asker.url h.plain) c.buffer_least c.buffer_least in
    let kind = (is_read p (Greets hello) e (h.asker.url h.plain) value).kind in
    let start = nothing_known s.site in
    let goes : Goes s.site (known s.site []) (p ∷ []) = subst (λ (k : Known). Goes s.site k (p ∷ [])) (sym start) took.goes in
    let got : (cmds : Commands) → Got s.asker cmds [] (r ∷ []) (hears ack 0 [] None None) [] [] [] [] = λ cmds. acknowledge_got s.asker cmds ack r d (agreed_value limits hello b) (omega (arith, b.receive_least, c.buffer_least)) (omega arith) (omega (arith, b.send_least, c.buffer_least)) (omega arith) in
    record {
      sound = (sound_goes s.site [] (p ∷ []) (ap has_token kind, tt) goes).0;
      knows = known_step s.site p [] ∙ ap (λ (k : Known). known_after s.site k p) start ∙ took.known;
      says = replies_go s.site [] (p ∷ []) ∙ ap (λ (k : Known). says_all s.site k (p ∷ [])) start ∙ took.says;
      served = served_none s.site [] (p ∷ []) (ap (λ (k : Known). asks_all s.site k (p ∷ [])) start ∙ took.asks) refl;
      accepts = λ cmds. (got cmds).taken.0;
      heard = (got []).stands.known;
      ended = (got []).stands.ended;
      opened = (got []).stands.opened;
      answered = λ cmds. (got cmds).answered;
    }
