-- Bytes come to the server, from what both ends show to what the world says then.
use Rattle.std.proofs.Common.{◌≡◌, ℕ, ℤ, ◌+◌, ◌<◌, ◌≤◌, max, min, true, false, List, [], ◌∷◌, ◌++◌, map, take, drop, length, Option, Some, None, refl, sym, ap, subst, ◌∙◌, true≢false, arith}
use Rattle.std.proofs.lemmas.List.{length-append, length-map, length-take, length-drop}
use Rattle.ua_frame.specs.Streams.{Piece, TimedByte, at, timed, latest, moment_of}
use Rattle.ua_frame.specs.StreamLaws.{timed_more, latest_more}
use Rattle.ua_service.specs.declared.request.Request.{Request}
use Rattle.ua_conn.specs.server.Replies.{Reading, replies, requests, failing, spelled_all, reply_bytes, handed, end_of}
use Rattle.ua_conn.specs.server.Greeting.{greeting}
use Rattle.ua_conn.specs.server.Held.{stop}
use Rattle.ua_conn.specs.server.Feeding.{Shown, FeedsAll, Feeds}
use Rattle.ua_conn.specs.client.Commands.{asked}
use Rattle.ua_conn.specs.Story.{Setup, World, delivered, client_stream}
use Rattle.ua_conn.specs.Between.{Served, Fed, Over, Run, Serving, ServerAt, Serves, Stopped, Between}
use Rattle.ua_conn.specs.declared.outcome.End.{End}
use Rattle.ua_conn.proofs.ServerEnd.StopLemmas.{reading_stays}

-- at most n bytes behind the first from
abbrev pub next_of : ℕ → ℕ → List ℕ → List ℕ
next_of from n bytes = take n (drop from bytes)

pub next_length : (from n : ℕ) (bytes : List ℕ) → from ≤ length bytes → from + length (next_of from n bytes) ≤ length bytes
next_length from n bytes le = omega (arith, le, length-take n (drop from bytes), length-drop from bytes)

pub delivered_length : (clock : ℤ) (before : List TimedByte) (n : ℕ) (bytes : List ℕ) → length (delivered clock before n bytes) ≡ length before + length (next_of (length before) n bytes)
delivered_length clock before n bytes = length-append before (map (at (moment_of clock)) (next_of (length before) n bytes)) ∙ ap (λ k. length before + k) (length-map (next_of (length before) n bytes) (at (moment_of clock)))

-- the piece that they are, at the clock's moment
abbrev pub next_piece : ℤ → ℕ → ℕ → List ℕ → Piece
next_piece clock from n bytes = record { moment = moment_of clock; bytes = next_of from n bytes }

-- a piece as the code cuts it, and where it ends
pub piece_is : (from n to : ℕ) (clock z : ℤ) (stream bytes piece : List ℕ) → from ≤ length stream → z ≡ clock → bytes ≡ stream → length bytes < 18446744073709551616 → piece ≡ next_of from n bytes →
    to ≡ min (from + length piece) 18446744073709551615 → (record { moment = moment_of z; bytes = piece } ≡ next_piece clock from n stream) × (to ≡ from + length (next_of from n stream))
piece_is from n to clock z stream bytes piece within same all small is more =
    let next : piece ≡ next_of from n stream = is ∙ ap (next_of from n) all in (
      λ i. record { moment = moment_of (same i); bytes = next i },
      omega (arith, more, ap length next, next_length from n stream within, ap length all, small),
    )

abbrev pub served_run : Run → Shown → ℕ → List Request → List ℕ → Option End → Run
served_run r server up_to handed down end = record r { server = server; up_to = up_to; handed = handed; down = down; server_end = end }

pub served_between : (s : Setup) (w : World) (r : Run) (n up_to : ℕ) (server : Shown) (down' : List ℕ) (handed' : List Request) (end' : Option End) → Between s w r →
    up_to ≡ r.up_to + length (next_of r.up_to n r.up) →
    Served r.server server (next_piece r.clock r.up_to n r.up) r.down down' r.handed handed' r.server_end end' →
    Between s (record w { up = delivered w.clock w.up n (client_stream s w) }) (served_run r server up_to handed' down' end')
served_between s w r n up_to server down' handed' end' b more served = by served
  where
    now : ℕ
    now = moment_of w.clock

    y : Piece
    y = next_piece w.clock (length w.up) n (client_stream s w)

    same : next_piece r.clock r.up_to n r.up ≡ y
    same = λ i. next_piece (b.clock i) (b.up_to i) n (b.up_is i)

    up : List TimedByte
    up = delivered w.clock w.up n (client_stream s w)

    -- what the server shows and what came of it, as the new world says
    full : (reply : down' ≡ reply_bytes s.asker.reverse s.site up) → handed' ≡ handed s.site up → length r.down ≤ length down' → ServerAt s.site now up server end' →
        Between s (record w { up = up }) (served_run r server up_to handed' down' end')
    full reply hands grows at_end = record {
      clock = b.clock;
      client = b.client;
      server = at_end;
      asked_are = b.asked_are;
      handed_are = hands;
      answers_are = b.answers_are;
      up_is = b.up_is;
      down_is = reply;
      all_sent = b.all_sent;
      up_to = more ∙ (λ i. b.up_to i + length (next_of (b.up_to i) n (b.up_is i))) ∙ sym (delivered_length w.clock w.up n (client_stream s w));
      up_within = omega (arith, more, next_length r.up_to n r.up b.up_within);
      down_to = b.down_to;
      down_within = omega (arith, b.down_within, grows);
    }

    at_end : (ps : List Piece) (asked : List Request) → Feeds s.site ps y r.down down' asked end' server → Serving s.site now w.up r.server ps → (came : Option End) → end' ≡ came → end' ≡ stop (end_of s.site up) → timed (ps ++ y ∷ []) ≡ up →
        ServerAt s.site now up server end'
    at_end ps asked f g None e ending stream = Serves (ps ++ y ∷ [])
        (record {
          stream = stream;
          before = omega (arith, latest_more 0 ps y, g.before);
          goes_on = ap (λ v. stop (end_of s.site v)) stream ∙ sym ending ∙ e;
          shows = f.shows e;
        }) e
    at_end ps asked f g (Some last) e ending stream = Stopped last (f.fails last e) (sym ending ∙ e) e

    when_fed : (asked : List Request) → r.server.failed ≡ false → FeedsAll r.server y r.down down' asked end' server → handed' ≡ r.handed ++ asked → ServerAt s.site now w.up r.server r.server_end →
        Between s (record w { up = up }) (served_run r server up_to handed' down' end')
    when_fed asked alive feeds hands (Serves ps g e) =
        let f : Feeds s.site ps y r.down down' asked end' server = subst (λ (v : Shown). FeedsAll v y r.down down' asked end' server) g.shows feeds ps g.goes_on refl in
        let moment : max (latest ps) now ≡ now = omega (arith, g.before) in
        let stream : timed (ps ++ y ∷ []) ≡ up = timed_more 0 ps y ∙ (λ i. g.stream i ++ map (at (moment i)) y.bytes) in
        let ending : end' ≡ stop (end_of s.site up) = f.came_is ∙ ap (λ v. stop (end_of s.site v)) stream in
        full (f.out_is ∙ (λ i. (b.down_is ∙ ap (reply_bytes s.asker.reverse s.site) (sym g.stream)) i ++ f.added) ∙ sym (f.replied s.asker.reverse) ∙ ap (reply_bytes s.asker.reverse s.site) stream)
        (hands ∙ (λ i. (b.handed_are ∙ ap (handed s.site) (sym g.stream)) i ++ asked) ∙ sym f.hands ∙ ap (handed s.site) stream)
        (omega (arith, ap length f.out_is, length-append r.down f.added))
        (at_end ps asked f g end' refl ending stream)
    when_fed asked alive feeds hands (Stopped e failed is shows) = absurd (true≢false (sym failed ∙ alive))

    when_over : r.server.failed ≡ true → server ≡ r.server → down' ≡ r.down → handed' ≡ r.handed → end' ≡ r.server_end → ServerAt s.site now w.up r.server r.server_end →
        Between s (record w { up = up }) (served_run r server up_to handed' down' end')
    when_over failed server_is down_is handed_is end_is (Serves ps g e) = absurd (true≢false (sym failed ∙ ap (λ (v : Shown). v.failed) g.shows))
    when_over failed server_is down_is handed_is end_is (Stopped e f is shows) =
        let stays = reading_stays s.site w.up (map (at now) y.bytes) e is in
        full (down_is ∙ b.down_is ∙ (λ i. greeting s.asker.reverse s.site.settings ++ spelled_all s.site 0 (replies s.site (sym stays i).past ++ failing (sym stays i).ending)))
        (handed_is ∙ b.handed_are ∙ (λ i. requests s.site (sym stays i).past))
        (omega (arith, ap length down_is))
        (Stopped e (ap (λ (v : Shown). v.failed) server_is ∙ f) (ap (λ (R : Reading). stop R.ending) stays ∙ is) (end_is ∙ shows))

    by : Served r.server server (next_piece r.clock r.up_to n r.up) r.down down' r.handed handed' r.server_end end' → Between s (record w { up = up }) (served_run r server up_to handed' down' end')
    by (Fed asked alive feeds hands) = when_fed asked alive (subst (λ p. FeedsAll r.server p r.down down' asked end' server) same feeds) hands b.server
    by (Over failed server_is down_is handed_is end_is) = when_over failed server_is down_is handed_is end_is b.server

pub served_step : (r : Run) (n up_to : ℕ) (z : ℤ) (bytes piece : List ℕ) (server : Shown) (down' : List ℕ) (handed' : List Request) (end' : Option End) → z ≡ r.clock →
    bytes ≡ r.up → length bytes < 18446744073709551616 → piece ≡ next_of r.up_to n bytes → up_to ≡ min (r.up_to + length piece) 18446744073709551615 →
    Served r.server server (record { moment = moment_of z; bytes = piece }) r.down down' r.handed handed' r.server_end end' →
    (s : Setup) (w : World) → Between s w r → Between s (record w { up = delivered w.clock w.up n (client_stream s w) }) (served_run r server up_to handed' down' end')
served_step r n up_to z bytes piece server down' handed' end' same all small is more served s w b =
    let cut = piece_is r.up_to n up_to r.clock z r.up bytes piece b.up_within same all small is more in
    served_between s w r n up_to server down' handed' end' b cut.1 (subst (λ (p : Piece). Served r.server server p r.down down' r.handed handed' r.server_end end') cut.0 served)
