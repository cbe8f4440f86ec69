-- SPDX-License-Identifier: MIT
use Rattle.rrc_text.proofs.SearchLemmas.{found_place}
use Rattle.rrc_text.proofs.read.lf.first_lf.Goals as goal

pub returns-clause-place : goal.returns-clause-place
returns-clause-place c = found_place 10 c.args.octets.now c.memchr.result c.memchr.ensures
