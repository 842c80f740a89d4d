use Rattle.std.proofs.Common.{◌≡◌, ◌<◌, Some, sym, ap, ◌∙◌, length, arith}
use Rattle.std.proofs.lemmas.Result.{IfOk-weaker}
use Rattle.ua_chunk.specs.Layout.{chunk_of, chunk_in}
use Rattle.ua_conn.proofs.ServerEnd.ContentLemmas.{chunk_carried, flagged_some, chunk_short}
use Rattle.ua_conn.proofs.content.chunk_of.Goals as goal

pub returns-clause-short : goal.returns-clause-short
returns-clause-short c =
    let p = c.args.frame.now in
    let fields = c.fields.result.now in
    IfOk-weaker c.message_chunk.result (λ x. chunk_in p ≡ Some x) (λ x. length x.chunk.body < 4294967296)
    (λ x h.
    let e : chunk_of fields ≡ Some x.chunk = ap chunk_of c.fields.ensures.fields ∙ flagged_some p.kind p.flag (chunk_of p.fields) x (sym (chunk_carried p.kind p.flag p.fields c.requires) ∙ h) in
    omega (arith, chunk_short fields x.chunk c.are_bytes.ensures e, c.fields.ensures.short))
    c.message_chunk.ensures.found
