use Rattle.ua_capture.proofs.options.+option_in.Given as goal

abbrev pub decreases-option_in : goal.decreases-option_in
decreases-option_in l = l.most
