-- SPDX-License-Identifier: MIT
-- How far the places of a reply are trusted (RFC 2181 5.4.1).
use Rattle.std.specs.Prelude.{Bool, true, false}
use Rattle.rrc_history.specs.declared.body.Trust.{Trust}
use Rattle.rrc_history.specs.declared.body.Trust.TheVariants as ranks
use Rattle.rrc_sets.specs.declared.rank.Section.{Section}
use Rattle.rrc_sets.specs.declared.rank.Section.TheVariants as sections

-- the rank of a set by its section, whether the reply is authoritative, and whether its owner was asked for
abbrev pub section_rank : Section → Bool → Bool → Trust
section_rank sections.Answer true true = ranks.AuthoritativeAnswer
section_rank sections.Answer true false = ranks.NonAuthoritativeAnswer
section_rank sections.Answer false asked = ranks.NonAuthoritativeAnswer
section_rank sections.Authority true asked = ranks.Authority
section_rank sections.Authority false asked = ranks.Additional
section_rank sections.Additional aa asked = ranks.Additional
