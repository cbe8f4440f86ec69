-- SPDX-License-Identifier: MIT
-- What holds between histories made before keys had a class and their images.
use Rattle.std.specs.Prelude.{◌≡◌, ◌↔◌, List, false, ◌==◌, None, map, reverse}
use Rattle.rrc_history.specs.declared.classless.Event.{Event}
use Rattle.rrc_history.specs.declared.classless.Snapshot.{Snapshot}
use Rattle.rrc_history.specs.Past.{reply_to}
use Rattle.rrc_history.specs.Right.{IsRight, IsLegal}
use Rattle.rrc_history.specs.Images.{image_of_event, image_of_snapshot, image_of_ask, ask_without_class}
use Rattle.rrc_history.specs.Asked.{AskOf as Ask}
use Rattle.rrc_history.specs.Chapters.{ChapterOf as Chapter}
use Rattle.rrc_history.specs.classless.Chapters.{ChapterOf as ClasslessChapter}
use Rattle.rrc_history.specs.declared.event.Reply.TheVariants.{Miss}
use Rattle.rrc_name.specs.Images.{IN}
use Rattle.rrc_history.specs.classless.Asked.{AskOf}
use Rattle.rrc_history.specs.classless.Past as former
use Rattle.rrc_history.specs.classless.Right as former_right

-- an event is right after others exactly where its image is right after theirs; the newest of them comes first
abbrev pub RightWhereImageIs : Type 0
RightWhereImageIs = (snapshot : Snapshot) (past : List Event) (event : Event)
    → former_right.IsRight snapshot past event ↔ IsRight (image_of_snapshot snapshot) (map image_of_event past) (image_of_event event)

-- events are legal from a snapshot exactly where their images are legal from its image
abbrev pub LegalWhereImageIs : Type 0
LegalWhereImageIs = (snapshot : Snapshot) (past : List Event)
    → former_right.IsLegal snapshot past ↔ IsLegal (image_of_snapshot snapshot) (map image_of_event past)

-- an ask in class IN is answered after the images as the ask was before it had a class
abbrev pub ImageAnswersAlike : Type 0
ImageAnswersAlike = (snapshot : Snapshot) (past : List Event) (ask : AskOf)
    → reply_to (image_of_snapshot snapshot) (map image_of_event past) (image_of_ask ask) ≡ former.reply_to snapshot past ask

-- after the events of a chapter each ask in class IN is answered as it was after those of a chapter made before asks had a class
abbrev pub AnswersAsBefore : ClasslessChapter → Chapter → Type 0
AnswersAsBefore before chapter = (ask : Ask) → ask.class ≡ IN
    → reply_to chapter.snapshot (reverse chapter.events) ask ≡ former.reply_to before.snapshot (reverse before.events) (ask_without_class ask)

-- after the events of a chapter each ask in another class than IN is answered by nothing
abbrev pub HoldsOneClass : Chapter → Type 0
HoldsOneClass chapter = (ask : Ask) → (ask.class == IN) ≡ false → reply_to chapter.snapshot (reverse chapter.events) ask ≡ Miss None
