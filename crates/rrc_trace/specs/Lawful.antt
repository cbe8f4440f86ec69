-- SPDX-License-Identifier: MIT
-- What holds of every line of a trace.
use Rattle.std.specs.Prelude.{◌≡◌, ℕ, ◌≤◌, List, length, true}
use Rattle.std.specs.List.{All, IsDistinct}
use Rattle.rrc_history.specs.Fits.{has_items}
use Rattle.rrc_history.specs.Lives.{LAST_MOMENT}
use Rattle.rrc_wire.specs.Layout.{is_kept}
use Rattle.rrc_wire.specs.Plain.{IsPlain}
use Rattle.rrc_wire.specs.SameRdata.{same_rdata}
use Rattle.rrc_trace.specs.declared.line.Line.{Line}
use Rattle.rrc_trace.specs.declared.line.Line.TheVariants.{Put, Ask, Fail, Response, Fetch, Sweep, Checkpoint}
use Rattle.rrc_trace.specs.declared.line.Put.{Put as PutLine}
use Rattle.rrc_trace.specs.Trace.{MOST_LINES, HaveFewQuestions}

-- a question is about a type that is kept in its class, at a moment that a part takes
pub record IsTimelyQuestion (moment rtype class : ℕ) : Type 0 where
  pub timely : moment ≤ LAST_MOMENT
  pub kept : is_kept rtype class ≡ true

-- a put has 1 to 256 items, each of them plain data of its type, and no two of them the same (RFC 2181 5)
pub record IsLawfulPut (put : PutLine) : Type 0 where
  pub question : IsTimelyQuestion put.moment put.rtype put.class
  pub some : has_items put.items ≡ true
  pub few : length put.items ≤ 256
  pub plain : All (IsPlain put.rtype) put.items
  pub distinct : IsDistinct (same_rdata put.rtype) put.items

abbrev pub IsLawful : Line → Type 0
IsLawful (Put put) = IsLawfulPut put
IsLawful (Ask ask) = IsTimelyQuestion ask.moment ask.rtype ask.class
IsLawful (Fail failed) = IsTimelyQuestion failed.moment failed.rtype failed.class
IsLawful (Response response) = response.moment ≤ LAST_MOMENT
IsLawful (Fetch fetch) = IsTimelyQuestion fetch.moment fetch.rtype fetch.class
IsLawful (Sweep moment) = moment ≤ LAST_MOMENT
IsLawful Checkpoint = Unit {0}

-- a trace has a million lines at most, which fetch 4,096 questions at most
pub record AreLawful (lines : List Line) : Type 0 where
  pub few : length lines ≤ MOST_LINES
  pub questions : HaveFewQuestions lines
  pub each : All IsLawful lines
