-- SPDX-License-Identifier: MIT
-- The script of a line is the same whatever keys were evicted.
use Rattle.std.proofs.Common.{List}
use Rattle.rrc_name.specs.Key.{KeyOf}
use Rattle.rrc_trace.specs.declared.line.Line.{Line}
use Rattle.rrc_trace.specs.declared.line.Line.TheVariants as lines
use Rattle.rrc_trace.specs.declared.answer.Answer.{Answer}
use Rattle.rrc_trace.specs.declared.answer.Answer.TheVariants as answers
use Rattle.rrc_script.specs.declared.config.Config.{Config}
use Rattle.rrc_script.specs.declared.script.Script.{Script}
use Rattle.rrc_script.specs.Scripts.{HasScript}
use Rattle.rrc_report.specs.Answers.{without_keys}

-- a script for an answer is one for the answer without its evicted keys
pub script_without_keys : (config : Config) (questions : List KeyOf) (line : Line) (answer : Answer) (script : Script) → HasScript config questions line answer script
    → HasScript config questions line (without_keys answer) script
script_without_keys config questions (lines.Put put) (answers.Put told) script is = is
script_without_keys config questions line (answers.Put told) script is = absurd is
script_without_keys config questions (lines.Fail failed) (answers.Fail told) script is = is
script_without_keys config questions line (answers.Fail told) script is = absurd is
script_without_keys config questions (lines.Response response) (answers.Response told) script is = is
script_without_keys config questions line (answers.Response told) script is = absurd is
script_without_keys config questions (lines.Fetch fetch) (answers.Fetched told reply) script is = is
script_without_keys config questions line (answers.Fetched told reply) script is = absurd is
script_without_keys config questions line (answers.Ask reply) script is = is
script_without_keys config questions line (answers.Refused number) script is = is
script_without_keys config questions line (answers.Hit reply) script is = is
script_without_keys config questions line (answers.Held moment) script is = is
script_without_keys config questions line answers.Joined script is = is
script_without_keys config questions line (answers.Swept counts) script is = is
script_without_keys config questions line answers.Closed script is = is

-- a script for an answer without its evicted keys is one for the answer
pub script_with_keys : (config : Config) (questions : List KeyOf) (line : Line) (answer : Answer) (script : Script)
    → HasScript config questions line (without_keys answer) script → HasScript config questions line answer script
script_with_keys config questions (lines.Put put) (answers.Put told) script is = is
script_with_keys config questions line (answers.Put told) script is = absurd is
script_with_keys config questions (lines.Fail failed) (answers.Fail told) script is = is
script_with_keys config questions line (answers.Fail told) script is = absurd is
script_with_keys config questions (lines.Response response) (answers.Response told) script is = is
script_with_keys config questions line (answers.Response told) script is = absurd is
script_with_keys config questions (lines.Fetch fetch) (answers.Fetched told reply) script is = is
script_with_keys config questions line (answers.Fetched told reply) script is = absurd is
script_with_keys config questions line (answers.Ask reply) script is = is
script_with_keys config questions line (answers.Refused number) script is = is
script_with_keys config questions line (answers.Hit reply) script is = is
script_with_keys config questions line (answers.Held moment) script is = is
script_with_keys config questions line answers.Joined script is = is
script_with_keys config questions line (answers.Swept counts) script is = is
script_with_keys config questions line answers.Closed script is = is
