-- SPDX-License-Identifier: MIT
-- What an entry repeats of those before it, and ordered trees in which that is found.
use Rattle.std.specs.Prelude.{◌≡◌, ℕ, List}
use Rattle.std.specs.BTreeSet as set
use Rattle.std.specs.Ordering.{nat_cmp}
use Rattle.rrc_name.specs.Key.{KeyOf, key_order}
use Rattle.rrc_history.specs.declared.repeats.Repeats.{Repeats}
use Rattle.rrc_history.specs.declared.repeats.Trees.{Trees}
use Rattle.rrc_history.specs.declared.snapshot.Entry.{Entry}
use Rattle.rrc_history.specs.Snapshots.{has_key, has_number}

-- whether one of the entries before it has its key, and whether one has its number
abbrev pub repeats_of : List Entry → Entry → Repeats
repeats_of before entry = record { key = has_key entry.key before; number = has_number entry.number before }

-- the trees have the keys and the numbers of the entries, and nothing else
pub record Finds (trees : Trees) (entries : List Entry) : Type 0 where
  pub keys : (key : KeyOf) → set.contains key_order trees.keys key ≡ has_key key entries
  pub numbers : (number : ℕ) → set.contains nat_cmp trees.numbers number ≡ has_number number entries
