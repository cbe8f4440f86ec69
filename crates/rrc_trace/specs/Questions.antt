-- SPDX-License-Identifier: MIT
-- The questions that the lines of a trace fetch.
use Rattle.std.specs.BTreeMap as map
use Rattle.std.specs.Prelude.{◌≡◌, ℕ, List, [], ◌∷◌, ◌++◌, position, Option, Some, None, if◌then◌else◌}
use Rattle.std.specs.List.{list_any}
use Rattle.rrc_name.specs.Wire.{folded}
use Rattle.rrc_name.specs.Key.{KeyOf, key_eq, key_order}
use Rattle.rrc_name.specs.declared.slot.Slot.TheVariants as slots
use Rattle.rrc_trace.specs.declared.line.Fetch.{Fetch as FetchLine}
use Rattle.rrc_trace.specs.declared.line.Line.{Line}
use Rattle.rrc_trace.specs.declared.line.Line.TheVariants.{Put, Ask, Fail, Response, Fetch, Sweep, Checkpoint}

-- the question of a fetch: its name, folded, its class and its type
abbrev pub question_of : FetchLine → KeyOf
question_of fetch = record { name = folded fetch.name; class = fetch.class; slot = slots.Set fetch.rtype }

-- the question that a line fetches, if it fetches one
abbrev pub fetched_by : Line → Option KeyOf
fetched_by (Put put) = None
fetched_by (Ask ask) = None
fetched_by (Fail failed) = None
fetched_by (Response response) = None
fetched_by (Fetch fetch) = Some (question_of fetch)
fetched_by (Sweep moment) = None
fetched_by Checkpoint = None

-- questions and one more, where it is not one of them
abbrev pub with_question : List KeyOf → Option KeyOf → List KeyOf
with_question questions None = questions
with_question questions (Some question) = if list_any (key_eq question) questions then questions else questions ++ question ∷ []

-- questions, and those that lines fetch beside them, each where it stands first
abbrev pub questions_behind : List KeyOf → List Line → List KeyOf
questions_behind questions [] = questions
questions_behind questions (line ∷ lines) = questions_behind (with_question questions (fetched_by line)) lines

-- the questions that lines fetch, each once, in the order in which they stand first
abbrev pub questions_of : List Line → List KeyOf
questions_of lines = questions_behind [] lines

-- the number of a question: its place among those of the lines
abbrev pub number_among : List KeyOf → KeyOf → Option ℕ
number_among questions question = position (key_eq question) questions

-- the map has the number of each question, and nothing else
abbrev pub FindsNumbers : map.BTreeMap KeyOf ℕ → List KeyOf → Type 0
FindsNumbers numbers questions = (question : KeyOf) → map.get key_order numbers question ≡ number_among questions question
