-- SPDX-License-Identifier: MIT
use Rattle.rrc_text.proofs.SearchLemmas.{found_place}
use Rattle.rrc_text.proofs.read.number.first_slash.Goals as goal

pub returns-clause-place : goal.returns-clause-place
returns-clause-place c = found_place 47 c.args.field.now c.memchr.result c.memchr.ensures
