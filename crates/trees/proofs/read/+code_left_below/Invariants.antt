use Rattle.trees.proofs.read.+code_left_below.Given as goal

abbrev pub decreases-code_left_below : goal.decreases-code_left_below
decreases-code_left_below l = l.left
