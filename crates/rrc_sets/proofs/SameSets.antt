-- SPDX-License-Identifier: MIT
-- The comparison of records is an equivalence.
use Rattle.std.specs.Cmp.{IsEquivalence, nat_eq_equiv, on_equiv}
use Rattle.std.specs.Cmp.Lexicographic.{lists_equiv}
use Rattle.std.proofs.lemmas.Cmp.{and_equiv}
use Rattle.rrc_name.specs.Wire.{folded}
use Rattle.rrc_wire.specs.declared.record.Rr.{Rr}
use Rattle.rrc_sets.specs.Sets.{same_set}

pub same_set-laws : IsEquivalence same_set
same_set-laws = and_equiv (on_equiv (λ (rr : Rr). rr.rtype) nat_eq_equiv) (on_equiv (λ (rr : Rr). folded rr.owner) (lists_equiv nat_eq_equiv))
