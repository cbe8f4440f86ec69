-- SPDX-License-Identifier: MIT
-- What the parts of a new cache hold.
use Rattle.std.specs.Prelude.{true, false}
use Rattle.rrc_history.specs.declared.rules.Rules.{Rules}
use Rattle.rrc_cache.specs.Lean.{first_chapter}
use Rattle.rrc_share.specs.CacheShelf.{CacheShelfOf, lean_shelf}
use Rattle.rrc_share.specs.declared.recording.Recording.{Recording}
use Rattle.rrc_share.specs.declared.recording.Recording.TheVariants.{On, Off}

-- a part in its first chapter, with no events, which records its history or does not
abbrev pub empty_part : Recording → Rules → CacheShelfOf
empty_part On rules = record { records = true; shelf = lean_shelf (first_chapter rules) }
empty_part Off rules = record { records = false; shelf = lean_shelf (first_chapter rules) }
