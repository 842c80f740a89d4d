-- What a whole frame does to a client, from the effect of its type.
use Rattle.std.proofs.Common.{◌≡◌, ℕ, Bool, true, false, List, ◌∷◌, ◌++◌, Some, None, Result, Ok, Err, refl, sym, ap, subst, ◌∙◌}
use Rattle.std.specs.Prelude.{not}
use Rattle.ua_frame.specs.Rows.{first_row}
use Rattle.ua_frame.specs.HeaderRows.{header_fault}
use Rattle.ua_frame.specs.Layout.{Frame, kind_of, flag_of}
use Rattle.ua_frame.specs.declared.kind.Kind.{Kind}
use Rattle.ua_frame.specs.declared.kind.Kind.TheVariants as kinds
use Rattle.ua_conn.specs.client.Faults.{FaultRow, greatest_answer, is_awaited}
use Rattle.ua_conn.specs.client.Machine.{Awaiting, awaiting_fault, sent_next, next_sent}
use Rattle.ua_conn.specs.client.Taking.{ClientRunning}
use Rattle.ua_conn.specs.client.Effects.{asker_with, ClientEffect, Given, FaultIs, Does, Takes}
use Rattle.ua_conn.specs.declared.client.config.ClientConfig.{ClientConfig}
use Rattle.ua_conn.specs.declared.client.fault.ClientFault.{ClientFault}
use Rattle.ua_conn.specs.declared.client.fault.ClientFault.TheVariants.{Broken}
use Rattle.ua_conn.proofs.ClientEnd.TypeLemmas.{IsEffect, rows_at, type_rows_at, by_rows}

of_type : (config : ClientConfig) (w : Awaiting) (f : Frame) (e : ClientEffect) → header_fault (greatest_answer w.known.ack) f.bytes ≡ None → IsEffect e config w f →
    awaiting_fault (asker_with config) w f ≡ first_row e.rows
of_type config w f e h is = by_rows config w f h ∙ is.rows

-- a type out of turn
refuses : (b : Bool) (rows : List FaultRow) → b ≡ false → first_row ((not b, Broken 0x807E0000) ∷ rows) ≡ Some (Broken 0x807E0000)
refuses false rows h = refl
refuses true rows h = absurd (cc)

turned_away : (config : ClientConfig) (w : Awaiting) (f : Frame) (flag : ℕ) (kind : Kind) → (kind ≡ kinds.Error → ⊥) → is_awaited w.reverse w.known w.due (Some kind) ≡ false →
    first_row (rows_at config w f flag (Some kind)) ≡ Some (Broken 0x807E0000)
turned_away config w f flag kinds.Hello other h = refuses _ (type_rows_at config w f flag (Some kinds.Hello)) h
turned_away config w f flag kinds.Acknowledge other h = refuses _ (type_rows_at config w f flag (Some kinds.Acknowledge)) h
turned_away config w f flag kinds.Error other h = absurd (other refl)
turned_away config w f flag kinds.ReverseHello other h = refuses _ (type_rows_at config w f flag (Some kinds.ReverseHello)) h
turned_away config w f flag kinds.Open other h = refuses _ (type_rows_at config w f flag (Some kinds.Open)) h
turned_away config w f flag kinds.Message other h = refuses _ (type_rows_at config w f flag (Some kinds.Message)) h
turned_away config w f flag kinds.Close other h = refuses _ (type_rows_at config w f flag (Some kinds.Close)) h

pub out_of_turn : (old new : ClientRunning) (f : Frame) (kind : Kind) (had : Given) → header_fault (greatest_answer old.waits.known.ack) f.bytes ≡ None → kind_of f.bytes ≡ Some kind → (kind ≡ kinds.Error → ⊥) →
    is_awaited old.waits.reverse old.waits.known old.waits.due (Some kind) ≡ false → Takes old new f had had (Err (Broken 0x807E0000))
out_of_turn old new f kind had h e other turn =
    (by_rows old.config old.waits f h ∙ ap (λ κ. first_row (rows_at old.config old.waits f (flag_of f.bytes) κ)) e ∙ turned_away old.config old.waits f (flag_of f.bytes) kind other turn, refl)

-- whatever came of a frame in turn
pub taken : (done : Result (Unit {0}) ClientFault) (old new : ClientRunning) (f : Frame) (e : ClientEffect) (had has : Given) → header_fault (greatest_answer old.waits.known.ack) f.bytes ≡ None →
    IsEffect e old.config old.waits f → Does e old new had has done → Takes old new f had has done
taken (Ok u) old new f e had has h is acts = record {
  fine = of_type old.config old.waits f e h is ∙ acts.fine;
  config = acts.config;
  waits = acts.waits ∙ sym is.waits;
  number = acts.number ∙ ap (next_sent old.next) (sym is.says);
  said = acts.said ∙ ap (λ xs. had.bytes ++ sent_next old.next xs) (sym is.says);
  given = acts.given ∙ ap (λ xs. had.answers ++ xs) (sym is.gives);
}
taken (Err fault) old new f e had has h is does = (subst (λ o. FaultIs o fault) (sym (of_type old.config old.waits f e h is)) does.0, does.1)
