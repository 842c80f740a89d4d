use Rattle.std.proofs.Common.{◌≡◌, true}
use Rattle.ua_socket.proofs.timed_link.send_in_time.Given as goal

-- nothing came or went yet, and a time that was over is over
abbrev pub invariant-tries : goal.invariant-tries
invariant-tries g l = record {
  input : g.S.Stream.input l.stream ≡ g.S.Stream.input l.initial.stream;
  output : g.S.Stream.output l.stream ≡ g.S.Stream.output l.initial.stream;
  stays : g.T.Timer.is_over l.initial.timer ≡ true → g.T.Timer.is_over l.timer ≡ true;
}
