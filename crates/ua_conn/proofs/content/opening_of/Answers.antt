use Rattle.std.proofs.Common.{◌≡◌, ◌<◌, Some, sym, ap, ◌∙◌, length, arith}
use Rattle.std.proofs.lemmas.Result.{IfOk-weaker}
use Rattle.ua_chunk.specs.Layout.{open_chunk_of, open_chunk_in}
use Rattle.ua_conn.proofs.ServerEnd.ContentLemmas.{open_carried, open_short}
use Rattle.ua_conn.proofs.content.opening_of.Goals as goal

pub returns-clause-short : goal.returns-clause-short
returns-clause-short c =
    let p = c.args.frame.now in
    let fields = c.fields.result.now in
    IfOk-weaker c.open_chunk.result (λ x. open_chunk_in p ≡ Some x) (λ x. length x.body < 4294967296)
    (λ x h.
    let e : open_chunk_of fields ≡ Some x = ap open_chunk_of c.fields.ensures.fields ∙ sym (open_carried p.kind p.fields c.requires) ∙ h in
    omega (arith, open_short fields x c.are_bytes.ensures e, c.fields.ensures.short))
    c.open_chunk.ensures.found
