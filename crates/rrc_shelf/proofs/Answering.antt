-- SPDX-License-Identifier: MIT
-- What a shelf answers is the reply that it had.
use Rattle.std.proofs.Common.{◌≡◌, Bool, true, false, ap, subst, ◌∙◌, inl, inr}
use Rattle.rrc_history.specs.Asked.{AskOf}
use Rattle.rrc_history.specs.Past.{reply_to}
use Rattle.rrc_history.specs.declared.event.Reply.{Reply}
use Rattle.rrc_history.specs.declared.event.Tag.{Tag}
use Rattle.rrc_cache.specs.Part.{past_of}
use Rattle.rrc_share.specs.CacheShelf.{CacheShelfOf, TakesAsk}
use Rattle.rrc_share.specs.Shelf.{ShelfOf, HasMadeRoom, AppendsAsk}
use Rattle.rrc_shelf.specs.Asks.{reply_of}
use Rattle.rrc_shelf.specs.Shelves.{MakesAsk}

abbrev reply_in : ShelfOf → AskOf → Reply
reply_in shelf ask = reply_to shelf.part.snapshot (past_of shelf.part) ask

-- a chapter that is closed changes no reply
same_in_room : (old middle : ShelfOf) → HasMadeRoom old middle → (ask : AskOf) → reply_in middle ask ≡ reply_in old ask
same_in_room old middle (inl (full, shuts)) ask = shuts.same.replies ask
same_in_room old middle (inr (wide, kept)) ask = ap (λ shelf. reply_in shelf ask) kept

takes_what_it_had : (records : Bool) (old new : ShelfOf) (tag : Tag) (ask : AskOf) (reply : Reply) → TakesAsk records old new tag ask reply → TakesAsk records old new tag ask (reply_in old ask)
takes_what_it_had true old new tag ask reply appended =
    let same : reply ≡ reply_in old ask = appended.adds.right.right.answered ∙ same_in_room old appended.middle appended.room ask in
    subst (λ answer. AppendsAsk old new tag ask answer) same appended
takes_what_it_had false old new tag ask reply adds =
    let same : reply ≡ reply_in old ask = adds.right.right.answered in
    subst (λ answer. TakesAsk false old new tag ask answer) same adds

pub answers_what_it_had : (old new : CacheShelfOf) (tag : Tag) (ask : AskOf) (reply : Reply) → new.records ≡ old.records → TakesAsk old.records old.shelf new.shelf tag ask reply → MakesAsk old new tag ask (reply_of old ask)
answers_what_it_had old new tag ask reply records takes =
    record { records = records; takes = takes_what_it_had old.records old.shelf new.shelf tag ask reply takes }
