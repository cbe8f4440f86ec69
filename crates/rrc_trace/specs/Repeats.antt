-- SPDX-License-Identifier: MIT
-- An ordered tree in which an item is found that is the same as another.
use Rattle.std.specs.Prelude.{◌≡◌, ℕ, List, Bool, nat_eq, Option, IfSome}
use Rattle.std.specs.declared.cmp.Ordering.{Ordering}
use Rattle.std.specs.Global.{Vec}
use Rattle.std.specs.List.{list_any}
use Rattle.std.specs.Ordering.{nat_cmp}
use Rattle.std.specs.Cmp.Lexicographic.{pointwise, slice_cmp}
use Rattle.std.specs.BTreeSet as set
use Rattle.rrc_wire.specs.SameRdata.{lowered_rdata}

-- whether some items of a type have one that is lowered to these octets
abbrev pub has_lowered : ℕ → List (List ℕ) → List ℕ → Bool
has_lowered rtype items low = list_any (λ item. pointwise nat_eq low (lowered_rdata rtype item)) items

abbrev pub octets_order : Vec ℕ → Vec ℕ → Ordering
octets_order a b = slice_cmp nat_cmp a.items b.items

-- a tree, where there is one, has the items of a type, lowered, and nothing else
abbrev pub FindsRepeats : ℕ → Option (set.BTreeSet (Vec ℕ)) → List (List ℕ) → Type 0
FindsRepeats rtype tree items =
    IfSome tree (λ seen. (low : Vec ℕ) → set.contains octets_order seen low ≡ has_lowered rtype items low.items)
