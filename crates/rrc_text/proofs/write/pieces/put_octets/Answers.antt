-- SPDX-License-Identifier: MIT
use Rattle.std.proofs.Common.{◌≡◌, [], ◌++◌, ap, ◌∙◌, arith}
use Rattle.std.proofs.lemmas.Grind.{common_steps}
use Rattle.hex.specs.Hex.{encode_lower, lower_digits}
use Rattle.rrc_text.proofs.OutputLemmas.{encode_with-append, encode_with-nil, less_left, none_left}
use Rattle.rrc_text.proofs.write.pieces.put_octets.Goals as goal

pub loop-rest-preserved : goal.loop-rest-preserved
loop-rest-preserved g c =
    let rest = c.loop-rest.rest.now in
    let few = c.split_at.result.0.now in
    let behind = c.split_at.result.1.now in
    let parts : rest ≡ few ++ behind = grind (arith, common_steps) in
    let split : encode_lower rest ≡ encode_lower few ++ encode_lower behind = ap encode_lower parts ∙ encode_with-append lower_digits few behind in
    less_left c.loop-rest.invariant split c.put_few.ensures

pub returns : goal.returns
returns g c =
    let none : c.loop-rest.rest.now ≡ [] = grind (arith, common_steps) in
    none_left c.loop-rest.invariant (ap encode_lower none ∙ encode_with-nil lower_digits)
