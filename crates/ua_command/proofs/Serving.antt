-- How the command `serve` is done or stopped, from its settings and from what was served by them.
use Rattle.std.proofs.Common.{◌≡◌, ◌∙◌, ◌⊎◌, ap, inl, inr, ℕ, Bool, false, true≢false, Result, Ok, Err, IfOk, IfErr, subst, sym}
use Rattle.ua_disco.specs.Configuration.{Configuration}
use Rattle.ua_command.specs.Serve.{IsServeStatus, IsServingStop, IsServedStatus, IsServeStop, IsUnbound, Serves}
use Rattle.ua_command.specs.Settings.{IsSettings}
use Rattle.ua_command.specs.Stop.{status_of}
use Rattle.ua_words.specs.declared.source.Source.{Source}
use Rattle.ua_command.specs.declared.stop.Stop.{Stop}
use Rattle.ua_command.specs.declared.stop.Stop.TheVariants.{Words, Settings, Line, Reverse, File, Link, NoMemory}

-- ---- the status

pub stopped_so : (reverse : Bool) (settings : Configuration) (stop : Stop) (status : ℕ) → IsServingStop reverse settings stop → status ≡ status_of stop → IsServedStatus reverse settings status
stopped_so reverse settings (Words text) status h e = absurd h
stopped_so reverse settings (Settings fault) status h e = absurd h
stopped_so reverse settings (Line number) status h e = absurd h
stopped_so reverse settings (Reverse fault) status h e = inr (e, (fault, h))
stopped_so reverse settings File status h e = inl (inr (inl e))
stopped_so reverse settings Link status h e = inl (inr (inl e))
stopped_so reverse settings NoMemory status h e = absurd h

-- of several connections at once
pub stopped_many : (stop : Stop) (status : ℕ) → (stop ≡ File) ⊎ (stop ≡ Link) → status ≡ status_of stop → IsServeStatus status
stopped_many stop status (inl file) e = inr (inl (e ∙ ap status_of file))
stopped_many stop status (inr link) e = inr (inl (e ∙ ap status_of link))

-- of connections that this end does not open
pub accepted_so : (settings : Configuration) (status : ℕ) → IsServedStatus false settings status → IsServeStatus status
accepted_so settings status (inl h) = h
accepted_so settings status (inr h) = absurd (true≢false (sym h.1.1.0))

pub served_so : (reverse : Bool) (settings : Configuration) (r : Result ℕ Stop) → IfOk r IsServeStatus → IfOk r (IsServedStatus reverse settings)
served_so reverse settings (Ok status) h = inl h
served_so reverse settings (Err stop) h = h

-- ---- the command

pub served_by : (reverse : Bool) (source : Source) (settings : Configuration) (r : Result ℕ Stop) → IsSettings source settings → IfOk r (IsServedStatus reverse settings) → IfOk r (Serves reverse source)
served_by reverse source settings (Ok status) s h = (settings, s, h)
served_by reverse source settings (Err stop) s h = h

pub unlinked : (source : Source) (r : Result ℕ Stop) → IfErr r (λ stop. stop ≡ Link) → IfErr r (IsServeStop source)
unlinked source (Ok status) h = h
unlinked source (Err stop) h = subst (IsServeStop source) (sym h) tt

pub unbound : (source : Source) (r : Result ℕ Stop) → IfErr r IsUnbound → IfErr r (IsServeStop source)
unbound source (Ok status) h = h
unbound source (Err stop) (inl e) = subst (IsServeStop source) (sym e) tt
unbound source (Err stop) (inr e) = subst (IsServeStop source) (sym e) tt
