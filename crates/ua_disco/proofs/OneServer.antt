-- What settings of one application answer.
use Rattle.std.proofs.Common.{◌≡◌, refl, Bool, true, false, cond, [], ◌∷◌, map}
use Rattle.ua_service.specs.declared.discovery.FindServersRequest.{FindServersRequest}
use Rattle.ua_service.specs.declared.request.Request.TheVariants as requests
use Rattle.ua_disco.specs.declared.application.Application.{Application}
use Rattle.ua_choice.specs.Choosing.{is_asked}
use Rattle.ua_disco.specs.Answers.{application_for, servers_among, servers_found, endpoints_found, answer_of}
use Rattle.ua_disco.specs.OneApplication.{OneApplication, one_found}

kept : {V W : Type 0} (g : V → W) (b : Bool) (v : V) → map g (cond b (v ∷ []) []) ≡ cond b (g v ∷ []) []
kept g true v = refl
kept g false v = refl

one_server : (a : Application) (m : FindServersRequest) → servers_among m.locale_ids m.server_uris (a ∷ []) ≡ one_found a m
one_server a m = kept (application_for m.locale_ids) (is_asked m.server_uris a.uri) a

pub one_application : OneApplication
unfolding answer_of servers_found endpoints_found
one_application c a one (requests.FindServers m) now = rw (one, one_server a m) refl
one_application c a one (requests.GetEndpoints m) now = rw one refl
one_application c a one (requests.Other m) now = refl
