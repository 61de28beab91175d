use Rattle.lie_poly.proofs.derivative.+repeat.Given as goal

abbrev pub decreases-repeat : goal.decreases-repeat
decreases-repeat g l = l.times
