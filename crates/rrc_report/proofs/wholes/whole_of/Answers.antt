-- SPDX-License-Identifier: MIT
use Rattle.rrc_report.proofs.WholeParts.{shut_chained, shut_kept}
use Rattle.rrc_report.proofs.wholes.whole_of.Goals as goal

pub join_chained-requires : goal.join_chained-requires
join_chained-requires c =
    shut_chained c.args.shelf c.shut.new.shelf c.take_chapters.result.items c.in_ok-shut.ensures.ok c.take_chapters.ensures.chapters c.take_chapters.ensures.before

pub returns-clause-whole : goal.returns-clause-whole
returns-clause-whole c =
    let joined = c.in_ok-join_chained.ensures in
    shut_kept c.args.shelf c.shut.new.shelf c.take_chapters.result.items c.in_ok-join_chained.field-0 c.in_ok-shut.ensures.ok c.take_chapters.ensures.chapters
    joined.whole joined.leads joined.laws
