-- What one call of an end did, from what it ensures.
use Rattle.std.proofs.Common.{◌≡◌, Bool, true, false, List, ◌++◌, Option, Some, Result, Ok, Err, refl, sym, ap, subst}
use Rattle.std.specs.Prelude.{◌↔◌, ℕ, if◌then◌else◌, is_ok, IsErrOf, OnOk}
use Rattle.ua_frame.specs.Streams.{Piece}
use Rattle.ua_service.specs.declared.request.Request.{Request}
use Rattle.ua_conn.specs.server.Feeding.{Shown, FeedsAll}
use Rattle.ua_conn.specs.client.Feeding.{ClientShown, HandsAll, FailsAll}
use Rattle.ua_conn.specs.Between.{is_said, Meets, Served, Fed, Heard, Answered, Refused}
use Rattle.ua_conn.specs.declared.outcome.End.{End}
use Rattle.ua_conn.specs.declared.client.answer.Answer.{Answer}
use Rattle.ua_conn.specs.declared.client.fault.ClientFault.{ClientFault}
use Rattle.ua_conn.specs.declared.client.fault.ClientFault.TheVariants as faults

-- what holds where a call succeeds
pub on_ok_both : {T E P Q R : Type 0} (r : Result T E) → (P → Q → R) → OnOk r P → OnOk r Q → OnOk r R
on_ok_both (Ok x) f p q = f p q
on_ok_both (Err e) f p q = tt

pub on_ok_one : {T E P R : Type 0} (r : Result T E) → (P → R) → OnOk r P → OnOk r R
on_ok_one (Ok x) f p = f p
on_ok_one (Err e) f p = tt

alive : {T E : Type 0} (x : T) (e : E) (failed : Bool) → (IsErrOf {T = T} {E = E} (Ok x) e ↔ (failed ≡ true)) → failed ≡ false
alive x e true h = absurd (cc (h.1 refl))
alive x e false h = refl

-- a server's answer to a piece, with its requests put behind the earlier ones
pub serves_piece : {T E F : Type 0} (fed : T) (ended : E) (r : Result (Unit {0}) F) (old new : Shown) (x : Piece) (down down' : List ℕ) (given had has : List Request) (end end' : Option End) →
    FeedsAll old x down down' given end' new → (IsErrOf {T = T} {E = E} (Ok fed) ended ↔ (old.failed ≡ true)) → has ≡ (if is_ok r then had ++ given else had) →
    OnOk r (Served old new x down down' had has end end')
serves_piece fed ended (Ok u) old new x down down' given had has end end' feeds e more = Fed given (alive fed ended old.failed e) feeds more
serves_piece fed ended (Err f) old new x down down' given had has end end' feeds e more = tt

-- a client's answers to a piece, put behind the earlier ones
pub hears_piece : {T E F : Type 0} (fed : T) (ended : E) (r : Result (Unit {0}) F) (old new : ClientShown) (x : Piece) (given had has : List Answer) (fault : Option ClientFault) →
    HandsAll old x new given → (IsErrOf {T = T} {E = E} (Ok fed) ended ↔ (old.failed ≡ true)) → has ≡ (if is_ok r then had ++ given else had) →
    OnOk r (Heard old new x had has fault fault)
hears_piece fed ended (Ok u) old new x given had has fault hands e more = Answered given (alive fed ended old.failed e) hands more refl
hears_piece fed ended (Err f) old new x given had has fault hands e more = tt

-- a fault that the client newly met, and one that it had met before
pub hears_fault : {T : Type 0} (f g : ClientFault) (old new : ClientShown) (x : Piece) (has : List Answer) (fault : Option ClientFault) → Meets f (Some g) →
    (old.failed ≡ false → FailsAll old x new f) → (IsErrOf {T = T} (Err f) faults.Ended ↔ (old.failed ≡ true)) →
    Heard old new x has has fault (Some g)
hears_fault {T} f g old new x has fault met fails e = subst (λ (k : ClientFault). Heard old new x has has fault (Some k)) (sym met.0) (by old.failed refl)
  where
    inj : IsErrOf {T = T} (Err f) faults.Ended → f ≡ faults.Ended
    inj same = cc same

    not_ended : IsErrOf {T = T} (Err f) faults.Ended → is_said f ≡ false
    not_ended same = ap is_said (inj same)

    by : (b : Bool) → old.failed ≡ b → Heard old new x has has fault (Some f)
    by true is = absurd (cc (not_ended (e.1 is), met.1))
    by false is = Refused f is met.1 (fails is) refl refl
