-- SPDX-License-Identifier: MIT
use Rattle.std.proofs.Common.{◌≡◌, map, ap, ◌∙◌}
use Rattle.rrc_history.specs.Images.{image_of_event, image_of_snapshot}
use Rattle.rrc_history.specs.classless.Chapters.{ChapterOf}
use Rattle.rrc_history.specs.lemmas.ImagesWhole.{chapter-image, image_answers, image_holds_one_class}
use Rattle.rrc_history.proofs.images.from_classless.Goals as goal

pub invariant_of-result : goal.invariant_of-result
invariant_of-result c =
    let snapshot : c.in_ok-new.field-0 ≡ image_of_snapshot c.chapter.inside.snapshot = c.in_ok-new.ensures.ok ∙ c.in_ok-snapshot_from_classless.ensures in
    let closing : c.in_ok-new-2.field-0 ≡ image_of_snapshot c.chapter.inside.closing = c.in_ok-new-2.ensures.ok ∙ c.in_ok-snapshot_from_classless-2.ensures in
    let events : c.from_vec.result ≡ map image_of_event c.chapter.inside.events =
    c.from_vec.ensures ∙ (c.in_ok-events_from_classless.ensures ∙ ap (map image_of_event) c.as_slice.ensures) in
    let before : ChapterOf = record {
      number = c.chapter.inside.number;
      snapshot = c.chapter.inside.snapshot;
      events = c.chapter.inside.events;
      closing = c.chapter.inside.closing;
    } in
    rw (snapshot, closing, events) (chapter-image before c.chapter.invariant)

pub returns-clause-leads : goal.returns-clause-leads
returns-clause-leads c =
    let snapshot : c.in_ok-new.field-0 ≡ image_of_snapshot c.chapter.inside.snapshot = c.in_ok-new.ensures.ok ∙ c.in_ok-snapshot_from_classless.ensures in
    let closing : c.in_ok-new-2.field-0 ≡ image_of_snapshot c.chapter.inside.closing = c.in_ok-new-2.ensures.ok ∙ c.in_ok-snapshot_from_classless-2.ensures in
    let events : c.from_vec.result ≡ map image_of_event c.chapter.inside.events =
    c.from_vec.ensures ∙ (c.in_ok-events_from_classless.ensures ∙ ap (map image_of_event) c.as_slice.ensures) in
    let before : ChapterOf = record {
      number = c.chapter.inside.number;
      snapshot = c.chapter.inside.snapshot;
      events = c.chapter.inside.events;
      closing = c.chapter.inside.closing;
    } in
    rw (snapshot, closing, events) ((chapter-image before c.chapter.invariant).leads)

pub returns-clause-answers : goal.returns-clause-answers
returns-clause-answers c =
    let snapshot : c.in_ok-new.field-0 ≡ image_of_snapshot c.chapter.inside.snapshot = c.in_ok-new.ensures.ok ∙ c.in_ok-snapshot_from_classless.ensures in
    let closing : c.in_ok-new-2.field-0 ≡ image_of_snapshot c.chapter.inside.closing = c.in_ok-new-2.ensures.ok ∙ c.in_ok-snapshot_from_classless-2.ensures in
    let events : c.from_vec.result ≡ map image_of_event c.chapter.inside.events =
    c.from_vec.ensures ∙ (c.in_ok-events_from_classless.ensures ∙ ap (map image_of_event) c.as_slice.ensures) in
    let before : ChapterOf = record {
      number = c.chapter.inside.number;
      snapshot = c.chapter.inside.snapshot;
      events = c.chapter.inside.events;
      closing = c.chapter.inside.closing;
    } in
    rw (snapshot, events, ← c.chapter.view_is) (image_answers before)

pub returns-clause-one_class : goal.returns-clause-one_class
returns-clause-one_class c =
    let snapshot : c.in_ok-new.field-0 ≡ image_of_snapshot c.chapter.inside.snapshot = c.in_ok-new.ensures.ok ∙ c.in_ok-snapshot_from_classless.ensures in
    let closing : c.in_ok-new-2.field-0 ≡ image_of_snapshot c.chapter.inside.closing = c.in_ok-new-2.ensures.ok ∙ c.in_ok-snapshot_from_classless-2.ensures in
    let events : c.from_vec.result ≡ map image_of_event c.chapter.inside.events =
    c.from_vec.ensures ∙ (c.in_ok-events_from_classless.ensures ∙ ap (map image_of_event) c.as_slice.ensures) in
    let before : ChapterOf = record {
      number = c.chapter.inside.number;
      snapshot = c.chapter.inside.snapshot;
      events = c.chapter.inside.events;
      closing = c.chapter.inside.closing;
    } in
    rw (snapshot, events) (image_holds_one_class before)
