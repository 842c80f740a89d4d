use Rattle.ua_capture.proofs.link.+behind_tags.Given as goal

abbrev pub decreases-behind_tags : goal.decreases-behind_tags
decreases-behind_tags l = l.most
