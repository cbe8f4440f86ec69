-- SPDX-License-Identifier: MIT
-- Where octets are no archive: at the first line with which none goes on.
use Rattle.std.specs.Prelude.{◌≡◌, ◌≤◌, ℕ, List, [], ◌++◌, length, true}
use Rattle.rrc_archive.specs.Archive.{WrittenOf, archive_text}
use Rattle.rrc_archive.specs.ArchiveFits.{IsNoArchive}
use Rattle.rrc_archive.specs.ArchiveLines.{line_count}
use Rattle.rrc_text.specs.Cuts.{IsUnended, IsCut}
use Rattle.rrc_archive.specs.declared.archive.ArchiveFault.{ArchiveFault}
use Rattle.rrc_archive.specs.declared.archive.ArchiveFault.TheVariants.{BadLine, Memory}

-- what may stand behind a line: anything behind its LF, and nothing where it has none
pub data MayEnd : List ℕ → List ℕ → Type 0 where
  with_lf : {line behind : List ℕ} → IsCut true line → MayEnd line behind
  without_lf : {line : List ℕ} → IsUnended line → MayEnd line []

-- behind an archive of so many lines stands a line with which none goes on, whatever is behind it
pub record StopsAt (octets : List ℕ) (number : ℕ) : Type 0 where
  pub before : List WrittenOf
  pub line : List ℕ
  pub behind : List ℕ
  pub whole : octets ≡ archive_text before ++ (line ++ behind)
  pub numbered : line_count (archive_text before) ≡ number
  pub some : 1 ≤ length line
  pub cut : MayEnd line behind
  pub none : (other : List ℕ) → MayEnd line other → IsNoArchive (archive_text before ++ (line ++ other))

-- a bad line is told of octets alone that are no archive
abbrev pub TellsNoArchive : List ℕ → ArchiveFault → Type 0
TellsNoArchive octets (BadLine number) = IsNoArchive octets
TellsNoArchive octets Memory = Unit {0}

-- and it is the first line at which they are none
abbrev pub TellsFirstLine : List ℕ → ArchiveFault → Type 0
TellsFirstLine octets (BadLine number) = StopsAt octets number
TellsFirstLine octets Memory = Unit {0}
