-- The settings `default`, and readers of settings.
use Rattle.std.specs.Prelude.{ℕ, pos, List, [], ◌∷◌, Option, Some, None, codes}
use Rattle.ua_disco.specs.declared.application.Application.{Application}
use Rattle.ua_disco.specs.declared.endpoint.Endpoint.{Endpoint}

-- An application of which nothing is said. No settings have it: they have an application at least.
abbrev pub no_application : Application
no_application = record { uri = None; product_uri = None; kind = pos 0; names = []; gateway_uri = None; profile_uri = None; discovery_urls = None }

-- the first application, which is the server of each endpoint
abbrev pub first_application : List Application → Application
first_application [] = no_application
first_application (a ∷ others) = a

-- the URI of the first application
abbrev pub first_uri_of : List Application → Option (List ℕ)
first_uri_of listed = (first_application listed).uri

-- the url of the first endpoint
abbrev pub first_url_of : List Endpoint → Option (Option (List ℕ))
first_url_of [] = None
first_url_of (e ∷ es) = Some e.url

-- the text of the settings `default`
abbrev pub default_text : List ℕ
default_text = codes "version = 1\n[application]\nuri = \"urn:a\"\nproduct_uri = \"urn:p\"\ndiscovery_urls = [\"opc.tcp://localhost:4840\"]\n[[application.names]]\nlocale = \"en\"\ntext = \"Press\"\n[[endpoint]]\nurl = \"opc.tcp://localhost:4840\"\n[[endpoint.tokens]]\nid = \"0\"\n"
