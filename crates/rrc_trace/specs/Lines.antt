-- SPDX-License-Identifier: MIT
-- How a line is read, field after field: what private contracts say. What a line is stands in Grammar.
use Rattle.std.specs.Prelude.{ℕ, ◌-◌, List, length, take, slice_index, Option, Some, None, unwrap_or, ◌==◌, nat_le, if◌then◌else◌}
use Rattle.rrc_name.specs.Wire.{folded}
use Rattle.rrc_history.specs.declared.ask.Mode.{Mode}
use Rattle.rrc_history.specs.declared.ask.Purpose.{Purpose}
use Rattle.rrc_history.specs.declared.body.Trust.{Trust}
use Rattle.rrc_trace.specs.declared.line.Line.{Line}
use Rattle.rrc_trace.specs.declared.line.Line.TheVariants as lines
use Rattle.rrc_text.specs.declared.kind.Kind.{Kind}
use Rattle.rrc_trace.specs.declared.read.form.Form.{Form}
use Rattle.rrc_trace.specs.declared.read.form.Form.TheVariants as forms
use Rattle.rrc_text.specs.Gives.{◌>>=◌}
use Rattle.rrc_text.specs.Fields.{said_at, has_field}
use Rattle.rrc_trace.specs.Numbers.{moment_of, rtype_of}
use Rattle.rrc_text.specs.Numbers.{trust_of, ttl_of}
use Rattle.rrc_text.specs.Names.{name_of}
use Rattle.rrc_trace.specs.Items.{items_of}
use Rattle.rrc_trace.specs.Messages.{message_of, fetched_of}
use Rattle.rrc_trace.specs.Forms.{form_of}
use Rattle.rrc_text.specs.Words.{purpose_of, mode_of}

-- what is said by fields behind the last of which no other stands
abbrev pub ended : {X : Type 0} → List ℕ → X → Option X
ended octets said = if has_field octets then None else Some said

-- the moment, the name, and the type and class of a question, and the octets behind them
unfoldable pub question_at : List ℕ → Option (ℕ × List ℕ × Kind × List ℕ)
question_at octets = do
  moment ← said_at moment_of octets
  name ← said_at name_of moment.1
  rtype ← said_at rtype_of name.1
  Some (moment.0, name.0, rtype.0, rtype.1)

-- the fields of a put behind its type: its trust, time to live and data
unfoldable pub kept_of : ℕ → List ℕ → Option (Trust × ℕ × List (List ℕ))
kept_of rtype octets = do
  trust ← said_at trust_of octets
  ttl ← said_at ttl_of trust.1
  items ← said_at (items_of rtype) ttl.1
  ended items.1 (trust.0, ttl.0, items.0)

-- the fields of a put: its moment, name, type with its class, trust, time to live and data
unfoldable pub put_of : List ℕ → Option Line
put_of octets = do
  question ← question_at octets
  kept ← kept_of question.2.rtype question.3
  Some (lines.Put (record {
    moment = question.0;
    name = question.1;
    class = question.2.class;
    rtype = question.2.rtype;
    trust = kept.0;
    ttl = kept.1;
    items = kept.2;
  }))

-- the fields of an ask behind its type: its purpose and mode
unfoldable pub manner_of : List ℕ → Option (Purpose × Mode)
manner_of octets = do
  purpose ← said_at purpose_of octets
  mode ← said_at mode_of purpose.1
  ended mode.1 (purpose.0, mode.0)

-- the fields of an ask: its moment, name, type with its class, purpose and mode
unfoldable pub ask_of : List ℕ → Option Line
ask_of octets = do
  question ← question_at octets
  manner ← manner_of question.3
  Some (lines.Ask (record {
    name = folded question.1;
    class = question.2.class;
    rtype = question.2.rtype;
    moment = question.0;
    purpose = manner.0;
    mode = manner.1;
  }))

-- the fields of a failure: its moment, name and type with its class
unfoldable pub fail_of : List ℕ → Option Line
fail_of octets = do
  question ← question_at octets
  ended question.3 (lines.Fail (record { moment = question.0; name = question.1; class = question.2.class; rtype = question.2.rtype }))

-- the fields of a response: its moment, zone and message
unfoldable pub response_of : List ℕ → Option Line
response_of octets = do
  moment ← said_at moment_of octets
  zone ← said_at name_of moment.1
  message ← said_at message_of zone.1
  ended message.1 (lines.Response (record { moment = moment.0; zone = zone.0; octets = message.0 }))

-- the fields of a fetch behind its type: its zone and message
unfoldable pub sent_of : List ℕ → Option (List ℕ × Option (List ℕ))
sent_of octets = do
  zone ← said_at name_of octets
  message ← said_at fetched_of zone.1
  ended message.1 (zone.0, message.0)

-- the fields of a fetch: its moment, name, type with its class, zone and message
unfoldable pub fetch_of : List ℕ → Option Line
fetch_of octets = do
  question ← question_at octets
  sent ← sent_of question.3
  Some (lines.Fetch (record {
    moment = question.0;
    name = question.1;
    class = question.2.class;
    rtype = question.2.rtype;
    zone = sent.0;
    octets = sent.1;
  }))

-- the field of a sweep: its moment
unfoldable pub sweep_of : List ℕ → Option Line
sweep_of octets = do
  moment ← said_at moment_of octets
  ended moment.1 (lines.Sweep moment.0)

-- what the fields behind the word of a form say
abbrev pub said_as : Form → List ℕ → Option Line
said_as forms.Put octets = put_of octets
said_as forms.Ask octets = ask_of octets
said_as forms.Fail octets = fail_of octets
said_as forms.Response octets = response_of octets
said_as forms.Fetch octets = fetch_of octets
said_as forms.Sweep octets = sweep_of octets
said_as forms.Checkpoint octets = ended octets lines.Checkpoint

-- the fields of a line, the first of which says its form
abbrev pub line_of : List ℕ → Option Line
line_of octets = said_at form_of octets >>= λ form. said_as form.0 form.1

-- the octets before the last one, where that is this one
abbrev pub before_last : List ℕ → ℕ → Option (List ℕ)
before_last octets last =
    if length octets == 0 then None
    else if slice_index octets (length octets - 1) == last then Some (take (length octets - 1) octets)
    else None

abbrev pub without_cr : List ℕ → List ℕ
without_cr octets = unwrap_or (before_last octets 13) octets

-- at most 140,000 octets
abbrev pub bounded : List ℕ → Option (List ℕ)
bounded octets = if nat_le (length octets) 140000 then Some octets else None

-- the line of a piece, by the octets before its LF where it has one: before an LF a CR is dropped
abbrev pub line_ended : List ℕ → Option (List ℕ) → Option Line
line_ended piece (Some octets) = bounded octets >>= λ octets. line_of (without_cr octets)
line_ended piece None = bounded piece >>= line_of

-- a piece of a trace ends with its LF or with the trace
abbrev pub line_of_piece : List ℕ → Option Line
line_of_piece piece = line_ended piece (before_last piece 10)
