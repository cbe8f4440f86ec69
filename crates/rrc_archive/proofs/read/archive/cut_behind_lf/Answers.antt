-- SPDX-License-Identifier: MIT
use Rattle.std.proofs.Common.{sym, ◌∙◌}
use Rattle.rrc_text.proofs.CutLemmas.{uncut}
use Rattle.rrc_archive.proofs.LfLemmas.{cut_behind}
use Rattle.rrc_archive.proofs.read.archive.cut_behind_lf.Goals as goal

pub returns-in_err-end : goal.returns-in_err-end
returns-in_err-end c = rw c.from_residual.ensures (uncut c.args.octets.now (sym c.first_lf.ensures.place ∙ c.in_err-end.was))

pub returns : goal.returns
returns c =
    rw (c.split_at.ensures.front, c.split_at.ensures.back)
    (cut_behind c.args.octets.now c.in_ok-end.end (sym c.first_lf.ensures.place ∙ c.in_ok-end.was))
