-- SPDX-License-Identifier: MIT
use Rattle.std.proofs.Common.{◌≡◌, true, false, sym, ◌∙◌}
use Rattle.std.proofs.lemmas.Result.{err_from_is_err_and}
use Rattle.rrc_archive.proofs.ReadLines.{unsaid, other_line, only_memory}
use Rattle.rrc_archive.proofs.read.archive.add_line.Goals as goal

pub returns-in_err-said-clause-refused : goal.returns-in_err-said-clause-refused
returns-in_err-said-clause-refused c =
    let p = err_from_is_err_and c.from_residual.result c.from_residual.ensures.1 in
    rw (p.1, p.2)
    (unsaid c.args.chapters.now c.args.line.now c.without_lf.result.now c.without_lf.ensures c.in_err-said.field-0.0 c.in_err-said.ensures.exact)

pub returns-in_err-is_written_as-clause-refused : goal.returns-in_err-is_written_as-clause-refused
returns-in_err-is_written_as-clause-refused c =
    let p = err_from_is_err_and c.from_residual-in_err-is_written_as.result c.from_residual-in_err-is_written_as.ensures.1 in
    rw (p.1, p.2) (only_memory c.args.chapters.now c.args.line.now c.in_err-is_written_as.field-0.0 c.in_err-is_written_as.ensures.memory)

pub returns-then-not-branch-clause-refused : goal.returns-then-not-branch-clause-refused
returns-then-not-branch-clause-refused c =
    other_line c.args.chapters.now c.args.line.now c.without_lf.result.now c.without_lf.ensures c.in_ok-said.said c.in_ok-said.ensures.exact
    (λ is. let never : true ≡ false = sym (c.in_ok-is_written_as.ensures.spelled.1 is) ∙ c.if-not-branch.true in absurd cc)
