-- SPDX-License-Identifier: MIT
-- The text of a report: one line for each line of the trace.
use Rattle.std.specs.Prelude.{ℕ, ◌+◌, List, [], ◌∷◌, ◌++◌, length, Option, Some, None, codes}
use Rattle.std.specs.Fmt.{decimal}
use Rattle.rrc_name.specs.Text.{text_of}
use Rattle.rrc_history.specs.declared.event.Outcome.{Outcome}
use Rattle.rrc_name.specs.Key.{KeyOf}
use Rattle.rrc_trace.specs.declared.answer.Told.{Told}
use Rattle.rrc_trace.specs.declared.answer.Answer.{Answer}
use Rattle.rrc_trace.specs.declared.answer.Answer.TheVariants as answers
use Rattle.rrc_text.specs.Replies.{slot_text, class_text, outcome_text, reply_text}

-- a key: its name, its slot, and its class
abbrev pub key_text : KeyOf → List ℕ
key_text key = text_of key.name ++ (47 ∷ (slot_text key.slot ++ class_text key.class))

-- what became of an offer, and the key that it evicted
abbrev pub told_of : Outcome → Option KeyOf → List ℕ
told_of outcome None = outcome_text outcome
told_of outcome (Some key) = outcome_text outcome ++ (codes "-out:" ++ key_text key)

abbrev pub told_text : Told → List ℕ
told_text told = told_of told.outcome told.evicted

-- what became of offers, each behind a space
abbrev pub outcomes_text : List Told → List ℕ
outcomes_text [] = []
outcomes_text (told ∷ others) = 32 ∷ (told_text told ++ outcomes_text others)

-- how many offers there were, and what became of each
abbrev pub offers_text : List Told → List ℕ
offers_text offers = decimal (length offers) ++ outcomes_text offers

-- how many keys each part lost, each behind a space
abbrev pub counts_text : List ℕ → List ℕ
counts_text [] = []
counts_text (count ∷ counts) = 32 ∷ (decimal count ++ counts_text counts)

abbrev pub answer_text : Answer → List ℕ
answer_text (answers.Put told) = codes "put " ++ told_text told
answer_text (answers.Ask reply) = codes "ask " ++ reply_text reply
answer_text (answers.Fail told) = codes "fail " ++ told_text told
answer_text (answers.Response offers) = codes "response " ++ offers_text offers
answer_text (answers.Refused number) = codes "response refused " ++ decimal number
answer_text (answers.Hit reply) = codes "fetch hit " ++ reply_text reply
answer_text (answers.Held moment) = codes "fetch held " ++ decimal moment
answer_text answers.Joined = codes "fetch joined"
answer_text (answers.Fetched offers reply) = codes "fetch fetched " ++ (offers_text offers ++ (32 ∷ reply_text reply))
answer_text (answers.Swept removed) = codes "sweep" ++ counts_text removed
answer_text answers.Closed = codes "checkpoint"

-- the number of a line, and what it got
abbrev pub line_text : ℕ → Answer → List ℕ
line_text number answer = decimal number ++ (32 ∷ (answer_text answer ++ (10 ∷ [])))

-- the lines of answers, the first of which has this number
abbrev pub lines_text : ℕ → List Answer → List ℕ
lines_text number [] = []
lines_text number (answer ∷ answers) = line_text number answer ++ lines_text (number + 1) answers

abbrev pub report_text : List Answer → List ℕ
report_text answers = lines_text 0 answers
