-- How a stream ends of which a server still goes on.
use Rattle.std.proofs.Common.{◌≡◌, ℕ, List, [], Option, Some, None, refl, sym, ap, ◌∙◌}
use Rattle.ua_frame.specs.Streams.{Piece, timed, cuts_within, rest_within, rest_of, plain}
use Rattle.ua_frame.specs.Layout.{Frame, frames_of}
use Rattle.ua_conn.specs.Past.{Past}
use Rattle.ua_conn.specs.server.Site.{Site}
use Rattle.ua_conn.specs.server.Faults.{fault_in_rest}
use Rattle.ua_conn.specs.server.Replies.{Reading, end_of, ended}
use Rattle.ua_conn.specs.server.Held.{held, stop, GoesOn}
use Rattle.ua_conn.specs.server.FirstFault.{Stops, at_fault, at_close, at_rest}
use Rattle.ua_conn.proofs.ServerEnd.FirstFaultLemmas.{first}

pub nothing_yet : (site : Site) → GoesOn site []
unfolding fault_in_rest cuts_within rest_within
nothing_yet site = refl

quiet_end : (o : Option ℕ) (rest : List ℕ) → stop (ended o rest) ≡ None → ended None rest ≡ ended o rest
quiet_end None rest h = refl
quiet_end (Some status) rest h = absurd (cc)

ends_at_rest : {site : Site} {past : Past} {rest : List ℕ} {R : Reading} {fs : List Frame} → Stops site past rest R fs → stop R.ending ≡ None → ended None rest ≡ R.ending
ends_at_rest (at_fault f more status fault is) h = absurd (let r = sym (ap (λ (r : Reading). stop r.ending) is) ∙ h in cc)
ends_at_rest (at_close f more fault close is) h = absurd (let r = sym (ap (λ (r : Reading). stop r.ending) is) ∙ h in cc)
ends_at_rest {rest = rest} (at_rest is) h =
    let e = ap (λ (r : Reading). r.ending) is in
    quiet_end _ rest (sym (ap stop e) ∙ h) ∙ sym e

-- Where neither a fault nor a CLO came, the rest alone says how the stream ends.
pub input_ends : (site : Site) (ps : List Piece) → GoesOn site ps → ended None (held site ps).rest ≡ end_of site (timed ps)
unfolding held
input_ends site ps h = ends_at_rest (first site [] (frames_of (timed ps)) (plain (rest_of (timed ps)))).stops h
