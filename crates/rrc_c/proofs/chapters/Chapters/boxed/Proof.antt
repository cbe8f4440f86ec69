-- SPDX-License-Identifier: MIT
-- A handle lies in memory as a `Boxed`, and owns the same.
use base.Logic.{id⊢}
use contract.Running.{tables, tables_of}
use denote.Memory.{part_of}
use denote.Triple.Spec.{triple_of}
use denote.Triple.Table.{entered}
use Rattle.rrc_c.specs.Boxed.{boxed_chapters, chapters_of_boxed}
use Rattle.rrc_shelf.specs.contracts.taken.Taken.{the_row as T}
use Rattle.rrc_c.specs.contracts.chapters.Chapters as Chapters
use Rattle.rrc_c.specs.contracts.boxed.Boxed as Boxed
use Rattle.rrc_c.specs.contracts.chapters.Chapters.boxed as F
use Rattle.rrc_c.specs.contracts.chapters.Chapters.boxed.Key.{name as #self}
use Rattle.rrc_c.proofs.SameMemory.{meets}
use Rattle.rrc_c.proofs.chapters.Chapters.boxed.Statement.{statement}
use Rattle.rrc_c.proofs.chapters.Chapters.boxed.Code as code

pub boxed_spec : {M : Type 1} → statement M
unfolding tables_of part_of
boxed_spec 𝓤 𝓛 𝓜 𝓡 wired =
    let 𝓣 = tables_of 𝓤 𝓛.H 𝓜 (tables 𝓤 𝓛.H 𝓜 𝓡 𝓡.env) in
    entered 𝓤 𝓛.H (triple_of 𝓛 F.signature (F.spec 𝓛 𝓜.mem 𝓡.returns)) 𝓣.C 𝓣.Λ #self code.function (code.unfolded 𝓤 𝓛.H 𝓜 𝓡 wired)
    (meets Chapters.the_row (Boxed.the_row T) tt tt boxed_chapters chapters_of_boxed 𝓛 𝓣 _ _ _ _ (λ h b o. id⊢ 𝓤 _) (λ w b o. id⊢ 𝓤 _))
