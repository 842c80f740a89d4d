use Rattle.ua_capture.proofs.ip.+behind_headers.Given as goal

abbrev pub decreases-behind_headers : goal.decreases-behind_headers
decreases-behind_headers l = l.most
