-- SPDX-License-Identifier: MIT
use Rattle.std.proofs.Common.{ℕ, ◌≤◌, List, length, sym, subst, arith}
use Rattle.rrc_name.specs.Key.{IsFolded}
use Rattle.rrc_name.specs.NameRef.{name_in}
use Rattle.rrc_name.specs.Wire.{IsWireForm}
use Rattle.rrc_name.specs.lemmas.Folding.{folded-folded}
use Rattle.rrc_name.proofs.WireForms.{folded-IsWireForm}
use Rattle.rrc_shelf.proofs.Telling.{some_octet}
use Rattle.rrc_shelf.proofs.names.write_hashed.Goals as goal

pub invariant_of-made-2 : goal.invariant_of-made-2
invariant_of-made-2 c =
    let wire = c.as_slice-wire.result.now in
    let name : IsWireForm wire = subst IsWireForm (sym c.as_slice-wire.ensures.value) c.as_slice-wire.ensures.name in
    let same = c.write_folded.ensures.octets in
    record {
      made = λ some. record {
        wire_form = subst IsWireForm (sym same) (folded-IsWireForm wire name);
        low = subst IsFolded (sym same) (folded-folded wire);
        hashed = c.keyed_hash-hash.ensures;
      };
    }

pub returns-clause-made : goal.returns-clause-made
returns-clause-made c =
    let some = subst (λ (octets : List ℕ). 1 ≤ length octets) (sym c.as_slice-wire.ensures.value) (some_octet (name_in c.args.name) c.as_slice-wire.ensures.name) in
    omega (arith, some)
