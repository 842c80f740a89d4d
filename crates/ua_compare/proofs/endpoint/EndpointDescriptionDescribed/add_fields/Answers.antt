use Rattle.std.proofs.Common.{sym, subst, string_bytes}
use Rattle.std.specs.Prelude.{◌==◌}
use Rattle.std.specs.Ordering.{int_eq}
use Rattle.std.proofs.lemmas.Result.{on_ok_weaker}
use Rattle.ua_compare.specs.Said.{Says}
use Rattle.ua_compare.specs.Same.{same_text, same_application, same_bytes, same_tokens}
use Rattle.ua_compare.proofs.SaidLemmas.{other_fields_decide}
use Rattle.ua_compare.proofs.endpoint.EndpointDescriptionDescribed.add_fields.Goals as goal

pub returns : goal.returns
returns c =
    let a = c.args.self.now in
    let b = c.args.found.now in
    let fields = other_fields_decide (same_text a.endpoint_url b.endpoint_url) (same_application a.server b.server) (same_bytes a.server_certificate b.server_certificate) (int_eq a.security_mode b.security_mode) (same_text a.security_policy_uri b.security_policy_uri) (same_tokens a.user_identity_tokens b.user_identity_tokens) (same_text a.transport_profile_uri b.transport_profile_uri) (a.security_level == b.security_level) c.requires in
    on_ok_weaker c.add_but_key.result (λ said. subst (λ same. Says same (string_bytes c.args.text.now) (string_bytes c.add_but_key.new.text)) (sym fields) said) c.add_but_key.ensures
