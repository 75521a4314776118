use Rattle.trees.proofs.read.+code_below.Given as goal

abbrev pub decreases-code_below : goal.decreases-code_below
decreases-code_below l = l.left
