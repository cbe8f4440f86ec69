-- SPDX-License-Identifier: MIT
use Rattle.rrc_marks.proofs.marks.Marks.split.Given as goal

abbrev pub ghosts-cut : goal.ghosts-cut
ghosts-cut a = record { turns = a.turns }
