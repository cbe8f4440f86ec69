-- SPDX-License-Identifier: MIT
-- The whole history of one shelf. The clauses of private functions alone cite this word.
use Rattle.std.specs.Prelude.{reverse}
use Rattle.rrc_history.specs.Chains.{WholeOf}
use Rattle.rrc_history.specs.Chapters.{LeadTo}
use Rattle.rrc_history.specs.WholeLaws.{AllKeepLaws}
use Rattle.rrc_share.specs.Shelf.{ShelfOf}
use Rattle.rrc_report.specs.Reports.{IsOfShelf}

-- the history is that of the shelf, legal, ends in its closing, and keeps the laws of trust and of life
pub record IsKeptBy (shelf : ShelfOf) (whole : WholeOf) : Type 0 where
  pub of_shelf : IsOfShelf shelf whole
  pub leads : LeadTo whole.snapshot whole.events whole.closing
  pub laws : AllKeepLaws whole.snapshot (reverse whole.events)
