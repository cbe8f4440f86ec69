-- SPDX-License-Identifier: MIT
use Rattle.std.proofs.Common.{◌≡◌, ◌+◌, ◌++◌, drop, arith}
use Rattle.std.proofs.lemmas.Grind.{common_steps}
use Rattle.std.specs.List.{flat_map}
use Rattle.rrc_name.specs.Text.{spelling_of}
use Rattle.rrc_text.proofs.OutputLemmas.{less_left}
use Rattle.rrc_text.proofs.write.pieces.put_each.Goals as goal

pub loop-octet-preserved : goal.loop-octet-preserved
loop-octet-preserved g c =
    let i = c.loop-octet.octet-index in
    let label = c.args.label.now in
    let split : flat_map spelling_of (drop i label) ≡ c.as_str.result.now ++ flat_map spelling_of (drop (i + 1) label) = grind (arith, common_steps) in
    less_left c.loop-octet.invariant split c.put_word.ensures
