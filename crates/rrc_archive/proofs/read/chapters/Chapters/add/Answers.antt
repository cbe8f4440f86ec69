-- SPDX-License-Identifier: MIT
use Rattle.rrc_archive.proofs.HeldLemmas.{all_put}
use Rattle.rrc_archive.proofs.read.chapters.Chapters.add.Goals as goal

pub returns-in_ok-add_entry-in-Some-clause-held : goal.returns-in_ok-add_entry-in-Some-clause-held
returns-in_ok-add_entry-in-Some-clause-held c =
    all_put c.self.inside.before.items c.self.inside.last c.args.self.now c.in-Some.chapter c.add_entry.new.chapter c.self.view_is c.in-Some.is
    c.requires.chapters c.in_ok-add_entry-in-Some.ensures.held

pub returns-in_ok-add_event-in-Some-last-clause-held : goal.returns-in_ok-add_event-in-Some-last-clause-held
returns-in_ok-add_event-in-Some-last-clause-held c =
    all_put c.self-in-Event.inside.before.items c.self-in-Event.inside.last c.args.self.now c.in-Some-last.chapter c.add_event.new.chapter c.self-in-Event.view_is
    c.in-Some-last.is c.requires.chapters c.in_ok-add_event-in-Some-last.ensures.held
