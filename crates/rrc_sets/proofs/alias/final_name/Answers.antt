-- SPDX-License-Identifier: MIT
use Rattle.std.proofs.Common.{◌≡◌, Some, None, ap, ◌∙◌, rules}
use Rattle.rrc_sets.specs.Aliases.{target_of}
use Rattle.rrc_sets.proofs.Unaliased.{unaliased}
use Rattle.rrc_sets.proofs.alias.final_name.Goals as goal

pub returns-then-is_none : goal.returns-then-is_none
returns-then-is_none c =
    let none : target_of c.args.message.now.answer c.args.message.now.question.name ≡ None = search rules in
    let same : c.in_ok-clone-2.field-0 ≡ c.args.message.now.question.name = search rules in
    ap Some same ∙ unaliased c.args.message.now none
