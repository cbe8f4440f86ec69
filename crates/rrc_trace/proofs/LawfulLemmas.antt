-- SPDX-License-Identifier: MIT
-- A line by the grammar is lawful.
use Rattle.std.proofs.Common.{◌≡◌, ℕ, List, Some}
use Rattle.rrc_trace.specs.declared.line.Line.{Line}
use Rattle.rrc_trace.specs.Lines.{line_of_piece}
use Rattle.rrc_trace.specs.Grammar.{IsMoment, IsRtype, FieldsOf, put, ask, response, fail, fetch, sweep, checkpoint}
use Rattle.rrc_trace.specs.Lawful.{IsLawful, IsTimelyQuestion}
use Rattle.rrc_trace.proofs.LawfulItems.{items-taken}
use Rattle.rrc_trace.proofs.LineLemmas.{is_line}

-- a question is about a type that is kept in its class, at a moment that a part takes
timely : (moment_field rtype_field : List ℕ) (moment rtype class : ℕ) → IsMoment moment_field moment → IsRtype rtype_field rtype class
    → IsTimelyQuestion moment rtype class
timely moment_field rtype_field moment rtype class is_moment is_rtype = record { timely = is_moment.few; kept = is_rtype.kept }

fields-lawful : (fields : List (List ℕ)) (line : Line) → FieldsOf fields line → IsLawful line
fields-lawful fields line (put {moment = moment} {rtype = rtype} {items = items} {line = offer} is_moment spells is_rtype is_trust is_ttl are_items) =
    let taken = items-taken offer.rtype items offer.items are_items in
    record {
      question = timely moment rtype offer.moment offer.rtype offer.class is_moment is_rtype;
      some = taken.some;
      few = taken.unlike.few;
      plain = taken.unlike.plain;
      distinct = taken.unlike.distinct;
    }
fields-lawful fields line (ask {moment = moment} {rtype = rtype} {line = asked} is_moment spells is_folded is_rtype) =
    timely moment rtype asked.moment asked.rtype asked.class is_moment is_rtype
fields-lawful fields line (response is_moment spells is_sent) = is_moment.few
fields-lawful fields line (fail {moment = moment} {rtype = rtype} {line = failed} is_moment spells is_rtype) =
    timely moment rtype failed.moment failed.rtype failed.class is_moment is_rtype
fields-lawful fields line (fetch {moment = moment} {rtype = rtype} {line = fetched} is_moment spells is_rtype spells_zone is_sent) =
    timely moment rtype fetched.moment fetched.rtype fetched.class is_moment is_rtype
fields-lawful fields line (sweep is_moment) = is_moment.few
fields-lawful fields line checkpoint = tt

-- the line of a piece is lawful
pub says_lawful : (piece : List ℕ) (line : Line) → line_of_piece piece ≡ Some line → IsLawful line
says_lawful piece line is = let has = (is_line piece line).0 is in fields-lawful has.fields line has.says
