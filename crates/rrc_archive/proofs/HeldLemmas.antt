-- SPDX-License-Identifier: MIT
-- Chapters that Rust holds.
use Rattle.std.proofs.Common.{◌≡◌, ℕ, List, [], ◌∷◌, ◌++◌, Option, Some, sym, subst, ◌∙◌}
use Rattle.std.specs.Option.{option_to_list}
use Rattle.std.specs.List.{AllByRecursion}
use Rattle.rrc_archive.specs.Archive.{WrittenOf, archive_text}
use Rattle.rrc_archive.specs.ArchiveLaw.{HoldsChapter, IsOnlyArchive}
use Rattle.rrc_archive.proofs.CancelChapters.{one_archive}

-- the last one is replaced
pub all_last : (chapters : List WrittenOf) (last other : WrittenOf) → AllByRecursion HoldsChapter (chapters ++ last ∷ []) → HoldsChapter other
    → AllByRecursion HoldsChapter (chapters ++ other ∷ [])
all_last [] last other all held = (held, tt)
all_last (chapter ∷ chapters) last other all held = (all.0, all_last chapters last other all.1 held)

pub only_archive : (octets : List ℕ) (chapters : List WrittenOf) → AllByRecursion HoldsChapter chapters → octets ≡ archive_text chapters → IsOnlyArchive octets chapters
only_archive octets chapters all whole = λ others held is. one_archive others chapters held all (sym is ∙ whole)

-- the last one, if there is one, is replaced
pub all_put : (before : List WrittenOf) (last : Option WrittenOf) (all : List WrittenOf) (old new : WrittenOf) → before ++ option_to_list last ≡ all → last ≡ Some old
    → AllByRecursion HoldsChapter all → HoldsChapter new → AllByRecursion HoldsChapter (before ++ new ∷ [])
all_put before last all old new view some held one =
    all_last before old new (subst (λ (l : Option WrittenOf). AllByRecursion HoldsChapter (before ++ option_to_list l)) some (subst (AllByRecursion HoldsChapter) (sym view) held)) one
