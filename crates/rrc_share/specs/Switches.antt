-- SPDX-License-Identifier: MIT
-- Between two calls a shelf begins to record its history, or stops.
use Rattle.std.specs.Prelude.{◌≡◌, List, [], Bool, true, false, OnErr, Result, Ok, Err}
use Rattle.rrc_history.specs.Chapters.{ChapterOf}
use Rattle.rrc_cache.specs.Part.{PartOf, IsCloseDue}
use Rattle.rrc_cache.specs.Recording.{BeginsRecorded}
use Rattle.rrc_cache.specs.declared.refusal.Refusal.{Refusal}
use Rattle.rrc_share.specs.Shelf.{ShelfOf, AreBefore, ShelvesChapter}
use Rattle.rrc_share.specs.declared.cache_shelf.NotSwitched.{NotSwitched}

-- the part records from here on, with no chapter closed; where it did before, nothing is done
abbrev pub Starts : Bool → ShelfOf → ShelfOf → Type 0
Starts true old new = new ≡ old
Starts false old new = (new.closed ≡ []) × BeginsRecorded old.part new.part

-- the chapters that were closed were handed out, that which was open last; they chain, the part goes
-- on from them, and every reply stays
pub record HandsOut (old new : ShelfOf) (chapters : List ChapterOf) : Type 0 where
  pub shuts : ShelvesChapter old (record { closed = chapters; part = new.part })
  pub before : AreBefore chapters new.part

-- the part records nothing from here on; where it did not before, nothing is done
abbrev pub Stops : Bool → ShelfOf → ShelfOf → List ChapterOf → Type 0
Stops true old new chapters = HandsOut old new chapters
Stops false old new chapters = (new ≡ old) × (chapters ≡ [])

-- why a shelf was not switched, without that shelf
abbrev pub refused_by : {A : Type 0} → Result A NotSwitched → Result A Refusal
refused_by (Ok answer) = Ok answer
refused_by (Err refused) = Err refused.refusal

-- when a chapter is closed, or a shelf switched whose chapter has to be closed for it, and when that
-- is refused with what; where nothing is to be done nothing is refused
abbrev pub IsSwitchDue : {A : Type 0} → Bool → PartOf → Result A Refusal → Type 0
IsSwitchDue true part result = IsCloseDue part result
IsSwitchDue false part result = OnErr result ⊥
