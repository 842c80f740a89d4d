-- Time passes between a client and a server.
use Rattle.std.proofs.Common.{w64, suc, pos, negsuc, ◌-◌, ◌^◌, cond, nat_lt, ◌≡◌, ℕ, ℤ, ◌<◌, ◌≤◌, Bool, true, false, List, Option, refl, sym, ap, subst, ◌∙◌, arith}
use Rattle.std.specs.Prelude.{◌+ℤ◌}
use Rattle.std.specs.Int.{saturate_signed}
use Rattle.std.specs.Prelude.{FitsSigned}
use Rattle.std.proofs.lemmas.Int.{ints}
use Rattle.ua_frame.specs.Streams.{TimedByte, moment_of}
use Rattle.ua_conn.specs.server.Site.{Site}
use Rattle.ua_conn.specs.server.Feeding.{Shown}
use Rattle.ua_conn.specs.client.Asker.{Asker}
use Rattle.ua_conn.specs.client.Commands.{Commands}
use Rattle.ua_conn.specs.client.Feeding.{ClientShown}
use Rattle.ua_conn.specs.Story.{Setup, World, ticked}
use Rattle.ua_conn.specs.Between.{Run, ServerAt, Serves, Stopped, ClientAt, Lives, Failed, Between}
use Rattle.ua_conn.specs.declared.outcome.End.{End}
use Rattle.ua_conn.specs.declared.client.fault.ClientFault.{ClientFault}

-- a sum of two signs stays within the clock's numbers on the side below
ticked_below : (m n : ℕ) → m < 2 ^ 63 → (b : Bool) → saturate_signed w64 (cond b (negsuc (suc m - suc n)) (pos (n - suc m))) ≡ ticked (cond b (negsuc (suc m - suc n)) (pos (n - suc m)))
ticked_below m n h true = ap negsuc (omega (arith, h))
ticked_below m n h false = refl

pub ticked_is : (z : ℤ) (n : ℕ) → FitsSigned w64 z → saturate_signed w64 (z +ℤ pos n) ≡ ticked (z +ℤ pos n)
ticked_is (pos m) n h = refl
ticked_is (negsuc m) n h = ticked_below m n (omega (arith, ints, h)) (nat_lt n (suc m))

pub ticked_later : (z : ℤ) (n : ℕ) → FitsSigned w64 z → moment_of z ≤ moment_of (ticked (z +ℤ pos n))
ticked_later (pos m) n h = let l : m < 2 ^ 63 = omega (arith, ints, h) in omega (arith, l)
ticked_later (negsuc m) n h = omega arith

server_later : (site : Site) (n m : ℕ) (up : List TimedByte) (server : Shown) (end : Option End) → n ≤ m → ServerAt site n up server end → ServerAt site m up server end
server_later site n m up server end le (Serves ps g e) = Serves ps (record { stream = g.stream; before = omega (arith, le, g.before); goes_on = g.goes_on; shows = g.shows }) e
server_later site n m up server end le (Stopped e failed is shows) = Stopped e failed is shows

client_later : (a : Asker) (n m : ℕ) (cmds : Commands) (down settled : List TimedByte) (client : ClientShown) (fault : Option ClientFault) → n ≤ m →
    ClientAt a n cmds down settled client fault → ClientAt a m cmds down settled client fault
client_later a n m cmds down settled client fault le (Lives log l e) =
    Lives log (record { lived = l.lived; alive = l.alive; commands = l.commands; stream = l.stream; settled_is = l.settled_is; before = omega (arith, le, l.before) }) e
client_later a n m cmds down settled client fault le (Failed f failed is shows) = Failed f failed is shows

pub ticks_between : (s : Setup) (w : World) (r : Run) (clock : ℤ) → Between s w r → moment_of w.clock ≤ moment_of clock → Between s (record w { clock = clock }) (record r { clock = clock })
ticks_between s w r clock b le = record {
  clock = refl;
  client = client_later s.asker (moment_of w.clock) (moment_of clock) w.cmds w.down w.settled r.client r.client_fault le b.client;
  server = server_later s.site (moment_of w.clock) (moment_of clock) w.up r.server r.server_end le b.server;
  asked_are = b.asked_are;
  handed_are = b.handed_are;
  answers_are = b.answers_are;
  up_is = b.up_is;
  down_is = b.down_is;
  all_sent = b.all_sent;
  up_to = b.up_to;
  up_within = b.up_within;
  down_to = b.down_to;
  down_within = b.down_within;
}

pub ticked_on : (s : Setup) (w : World) (r : Run) (n : ℕ) (z clock : ℤ) → FitsSigned w64 r.clock → z ≡ saturate_signed w64 (r.clock +ℤ pos n) → clock ≡ z →
    Between s w r → Between s (record w { clock = ticked (w.clock +ℤ pos n) }) (record r { clock = clock })
ticked_on s w r n z clock fits is shown b =
    let now : clock ≡ ticked (w.clock +ℤ pos n) = shown ∙ is ∙ ticked_is r.clock n fits ∙ (λ i. ticked (b.clock i +ℤ pos n)) in
    let le : moment_of w.clock ≤ moment_of (ticked (w.clock +ℤ pos n)) = subst (λ (t : ℤ). moment_of t ≤ moment_of (ticked (t +ℤ pos n))) b.clock (ticked_later r.clock n fits) in
    subst (λ (t : ℤ). Between s (record w { clock = ticked (w.clock +ℤ pos n) }) (record r { clock = t })) (sym now) (ticks_between s w r (ticked (w.clock +ℤ pos n)) b le)
