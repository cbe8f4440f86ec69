-- SPDX-License-Identifier: MIT
-- How an archive is read, line by line: which line is told where octets are none, and what private
-- contracts say.
use Rattle.std.specs.Prelude.{◌≡◌, ◌==◌, ◌≤◌, ℕ, Bool, true, List, ◌++◌, length}
use Rattle.std.specs.List.{count_by}
use Rattle.rrc_archive.specs.Archive.{WrittenOf, archive_text, head_text, entry_text, event_text}
use Rattle.rrc_archive.specs.ArchiveLaw.{IsNumber, HoldsEntry, HoldsEvent}
use Rattle.rrc_text.specs.Cuts.{IsCut}
use Rattle.rrc_archive.specs.declared.archive.ArchiveFault.{ArchiveFault}
use Rattle.rrc_archive.specs.declared.archive.ArchiveFault.TheVariants.{BadLine, Memory}
use Rattle.rrc_archive.specs.declared.read.said.Said.{Said}
use Rattle.rrc_archive.specs.declared.read.said.Said.TheVariants as said

abbrev pub is_lf : ℕ → Bool
is_lf octet = octet == 10

-- how many lines end in octets
abbrev pub line_count : List ℕ → ℕ
line_count octets = count_by is_lf octets

-- octets are an archive of so many lines, and more behind it
pub record HasLinesBefore (octets : List ℕ) (number : ℕ) : Type 0 where
  pub chapters : List WrittenOf
  pub behind : List ℕ
  pub whole : octets ≡ archive_text chapters ++ behind
  pub numbered : line_count (archive_text chapters) ≡ number
  pub more : 1 ≤ length behind

-- the lines before a bad line are an archive
abbrev pub IsFaultOfArchive : List ℕ → ArchiveFault → Type 0
IsFaultOfArchive octets (BadLine number) = HasLinesBefore octets number
IsFaultOfArchive octets Memory = Unit {0}

-- a line, without the LF at its end
abbrev pub said_text : Said → List ℕ
said_text (said.Chapter number first rules) = head_text number first rules
said_text (said.Entry entry) = entry_text entry
said_text (said.Event event) = event_text event

-- what Rust holds of a line
abbrev pub HoldsSaid : Said → Type 0
HoldsSaid (said.Chapter number first rules) = IsNumber number × IsNumber first
HoldsSaid (said.Entry entry) = HoldsEntry entry
HoldsSaid (said.Event event) = HoldsEvent event

-- the first line of octets, with its LF, and the octets behind it
pub record IsCutBehindLf (octets line behind : List ℕ) : Type 0 where
  pub whole : octets ≡ line ++ behind
  pub cut : IsCut true line
  pub one : line_count line ≡ 1
  pub some : 1 ≤ length line
