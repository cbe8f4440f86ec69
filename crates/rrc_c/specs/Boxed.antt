-- SPDX-License-Identifier: MIT
-- What becomes of a handle, or a `Boxed`, whose value is lent to be changed, and handles as `Boxed`.
use Rattle.std.specs.Prelude.{Option, Some, true, refl}
use Rattle.std.specs.Borrow.{Lends, LendsIf, MutBor, Fml, RattleType}
use Rattle.rrc_c.specs.declared.boxed.Content.{Content}
use Rattle.rrc_c.specs.declared.boxed.Boxed.{Boxed}
use Rattle.rrc_c.specs.declared.handle.Handle.{Handle}
use Rattle.rrc_c.specs.declared.offers.Offers.{Offers}
use Rattle.rrc_c.specs.declared.chapters.Chapters.{Chapters}
use Rattle.rrc_c.specs.contracts.boxed.Content as Content
use Rattle.rrc_c.specs.contracts.boxed.Boxed as Boxed
use Rattle.rrc_share.specs.contracts.cache_shelf.CacheShelf as Shelf
use Rattle.rrc_c.specs.contracts.handle.Handle as Handle
use Rattle.rrc_shelf.specs.contracts.reading.Reading as Reading
use Rattle.rrc_c.specs.contracts.offers.Offers as Offers
use Rattle.rrc_shelf.specs.contracts.taken.Taken as Taken
use Rattle.rrc_c.specs.contracts.chapters.Chapters as Chapters

module _ (T : RattleType) where
  abbrev pub with_value : Content T.Denot → T.Denot → Content T.Denot
  with_value content value = record content { held = Some value }

  abbrev pub LendsContent : MutBor (Content T.Denot) → MutBor T.Denot → Fml
  LendsContent s r = Lends (Content.the_row T) T s r (with_value s.now)

  -- the same with this value in its box
  abbrev pub holding : Boxed T.Denot → T.Denot → Boxed T.Denot
  holding boxed value = record { content = with_value boxed.content value; is_live = true; live = refl }

  abbrev pub LendsBoxed : MutBor (Boxed T.Denot) → Option (MutBor T.Denot) → Fml
  LendsBoxed s r = LendsIf (Boxed.the_row T) T s r (holding s.now) s.now

  -- the same of a handle that lies in memory as one
  module _ (H : RattleType) (to : H.Denot → Boxed T.Denot) (from : Boxed T.Denot → H.Denot) where
    abbrev pub IsBoxed : MutBor H.Denot → MutBor (Boxed T.Denot) → Fml
    IsBoxed s r = Lends H (Boxed.the_row T) s r from

    abbrev pub LendsHeld : MutBor H.Denot → Option (MutBor T.Denot) → Fml
    LendsHeld s r = LendsIf H T s r (λ value. from (holding (to s.now) value)) s.now

-- ---- a handle of a shelf

abbrev pub boxed_shelf : Handle → Boxed Shelf.the_row.Denot
boxed_shelf h = record { content = record { at = h.seal.at; alloc = h.seal.alloc; held = h.seal.shelf }; is_live = h.is_live; live = h.live }

abbrev pub shelf_of_boxed : Boxed Shelf.the_row.Denot → Handle
shelf_of_boxed s = record { seal = record { at = s.content.at; alloc = s.content.alloc; shelf = s.content.held }; is_live = s.is_live; live = s.live }

abbrev pub IsBoxedShelf : MutBor Handle → MutBor (Boxed Shelf.the_row.Denot) → Fml
IsBoxedShelf = IsBoxed Shelf.the_row Handle.the_row boxed_shelf shelf_of_boxed

abbrev pub LendsShelf : MutBor Handle → Option (MutBor Shelf.the_row.Denot) → Fml
LendsShelf = LendsHeld Shelf.the_row Handle.the_row boxed_shelf shelf_of_boxed

-- ---- a handle of offers

abbrev pub boxed_offers : Offers → Boxed Reading.the_row.Denot
boxed_offers h = record { content = record { at = h.seal.at; alloc = h.seal.alloc; held = h.seal.reading }; is_live = h.is_live; live = h.live }

abbrev pub offers_of_boxed : Boxed Reading.the_row.Denot → Offers
offers_of_boxed s = record { seal = record { at = s.content.at; alloc = s.content.alloc; reading = s.content.held }; is_live = s.is_live; live = s.live }

abbrev pub IsBoxedOffers : MutBor Offers → MutBor (Boxed Reading.the_row.Denot) → Fml
IsBoxedOffers = IsBoxed Reading.the_row Offers.the_row boxed_offers offers_of_boxed

abbrev pub LendsOffers : MutBor Offers → Option (MutBor Reading.the_row.Denot) → Fml
LendsOffers = LendsHeld Reading.the_row Offers.the_row boxed_offers offers_of_boxed

-- ---- a handle of chapters

abbrev pub boxed_chapters : Chapters → Boxed Taken.the_row.Denot
boxed_chapters h = record { content = record { at = h.seal.at; alloc = h.seal.alloc; held = h.seal.chapters }; is_live = h.is_live; live = h.live }

abbrev pub chapters_of_boxed : Boxed Taken.the_row.Denot → Chapters
chapters_of_boxed s = record { seal = record { at = s.content.at; alloc = s.content.alloc; chapters = s.content.held }; is_live = s.is_live; live = s.live }

abbrev pub IsBoxedChapters : MutBor Chapters → MutBor (Boxed Taken.the_row.Denot) → Fml
IsBoxedChapters = IsBoxed Taken.the_row Chapters.the_row boxed_chapters chapters_of_boxed

abbrev pub LendsChapters : MutBor Chapters → Option (MutBor Taken.the_row.Denot) → Fml
LendsChapters = LendsHeld Taken.the_row Chapters.the_row boxed_chapters chapters_of_boxed
