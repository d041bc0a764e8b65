use Rattle.valid.proofs.valid.+reads_to.Given as goal

abbrev pub decreases-reads_to : goal.decreases-reads_to
decreases-reads_to l = l.place.end
