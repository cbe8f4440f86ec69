-- SPDX-License-Identifier: MIT
-- Sameness of data is an equivalence: two data are the same where what they are lowered to is the same.
use Rattle.std.specs.Prelude.{ℕ, List}
use Rattle.std.specs.Cmp.{IsEquivalence, on_equiv, nat_eq_equiv}
use Rattle.std.specs.Cmp.Lexicographic.{lists_equiv, bytes_decides}
use Rattle.std.specs.Bool.{Decides}
use Rattle.rrc_wire.specs.SameRdata.{lowered_rdata, same_rdata, IsSameRdata}

-- the test tells whether data are the same
pub same_rdata-Decides : (rtype : ℕ) (a b : List ℕ) → Decides (same_rdata rtype a b) (IsSameRdata rtype a b)
unfolding same_rdata
same_rdata-Decides rtype a b = bytes_decides (lowered_rdata rtype a) (lowered_rdata rtype b)

pub same_rdata-equiv : (rtype : ℕ) → IsEquivalence (same_rdata rtype)
unfolding same_rdata
same_rdata-equiv rtype = on_equiv (lowered_rdata rtype) (lists_equiv nat_eq_equiv)
