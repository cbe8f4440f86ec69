-- SPDX-License-Identifier: MIT
-- A name that begins with a pointer is the name at the pointer's target.
use Rattle.std.proofs.Common.{◌≡◌, ℕ, zero, suc, ◌+◌, ◌-◌, ◌≤◌, List, [], ◌++◌, length, Option, Some, None, Result, Ok, Err, refl, ◌∙◌, arith, length-append, unwrap_or}
use Rattle.std.specs.Prelude.{slice_range}
use Rattle.rrc_wire.specs.declared.fault.WireFault.{WireFault}
use Rattle.rrc_wire.specs.Reading.{◌>>=◌}
use Rattle.rrc_wire.specs.Item.{ItemOf, End, Label, Pointer, RunOf, item_at, to_end}
use Rattle.rrc_wire.specs.Name.{name_from, name_at, standing_at, IsNameAt}
use Rattle.rrc_wire.specs.Chain.{PointsTo}
use Rattle.rrc_wire.proofs.Items.{item_at-Label, item_at-Pointer, length-slice_range}
use Rattle.rrc_wire.proofs.NameLoop.{name_from-Pointer}
use Rattle.rrc_wire.proofs.Chains.{points-item}

-- the same name, with another place behind it
abbrev pub ends_at : ℕ → Result (List ℕ × ℕ) WireFault → Result (List ℕ × ℕ) WireFault
ends_at next read = read >>= λ name. Ok (name.0, next)

-- once a pointer was met, the rest of a name is what it is without it; and more items than are enough change nothing
abbrev Alike : ℕ → Type 0
Alike items = (more : ℕ) (message : List ℕ) (run : RunOf) (before : List ℕ) (other : Option ℕ) (place next : ℕ) → run.end ≤ length message → length before ≤ 254
    → run.start + 256 ≤ items + length before → run.start + 256 ≤ more + length before
    → name_from items message run before (Some next) place ≡ ends_at next (name_from more message run before other place)

after_item : (items : ℕ) → Alike items → (more : ℕ) (message : List ℕ) (run : RunOf) (before : List ℕ) (other : Option ℕ) (place next : ℕ) → run.end ≤ length message → length before ≤ 254
    → run.start + 256 ≤ suc items + length before → run.start + 256 ≤ suc more + length before → (item : Result ItemOf WireFault) → item_at message run (length before) place ≡ item
    → name_from (suc items) message run before (Some next) place ≡ ends_at next (name_from (suc more) message run before other place)
after_item items rest more message run before other place next within room enough others (Err fault) is = rw (name_from, is) refl
after_item items rest more message run before other place next within room enough others (Ok End) is = rw (name_from, is) refl
after_item items rest more message run before other place next within room enough others (Ok (Label octets)) is =
    let stands = item_at-Label message run (length before) place octets is in
    let part = slice_range message place (place + 1 + octets) in
    let size : length (before ++ part) ≡ length before + (1 + octets) =
    omega (arith, length-append before part, length-slice_range message place (place + 1 + octets) (omega arith) (omega (arith, stands.within))) in
    rw (name_from, is) (rest more message run (before ++ part) other (place + 1 + octets) next within (omega (arith, size, stands.room)) (omega (arith, size)) (omega (arith, size)))
after_item items rest more message run before other place next within room enough others (Ok (Pointer target)) is =
    let stands = item_at-Pointer message run (length before) place target is in
    rw (name_from, is) (rest more message (to_end message target) before (Some (unwrap_or other (place + 2))) target next (omega arith) room (omega (arith, stands.lower)) (omega (arith, stands.lower)))

alike : (items : ℕ) → Alike items
alike zero more message run before other place next within room enough others = absurd (omega arith)
alike (suc items) zero message run before other place next within room enough others = absurd (omega arith)
alike (suc items) (suc more) message run before other place next within room enough others =
    after_item items (alike items) more message run before other place next within room enough others (item_at message run (length before) place) refl

pub pointed : (message : List ℕ) (place target : ℕ) → PointsTo message place target → name_at message (to_end message place) ≡ ends_at (place + 2) (name_at message (to_end message target))
pointed message place target to =
    name_from-Pointer (place + 256) message (to_end message place) [] None place target (omega arith) (points-item message 0 place target to)
    ∙ alike (place + 256 - 1) (target + 256) message (to_end message target) [] None target (place + 2) (omega arith) (omega arith) (omega (arith, to.lower)) (omega arith)

-- what stands at a pointer's target is read at the pointer
named : (next : ℕ) (read : Result (List ℕ × ℕ) WireFault) (name : List ℕ) → (read >>= λ found. Ok found.0) ≡ Ok name → ends_at next read ≡ Ok (name, next)
named next (Ok found) name is = cc
named next (Err fault) name is = absurd cc

refused : (next : ℕ) (read : Result (List ℕ × ℕ) WireFault) (fault : WireFault) → (read >>= λ found. Ok found.0) ≡ Err fault → ends_at next read ≡ Err fault
refused next (Ok found) fault is = absurd cc
refused next (Err other) fault is = cc

pub pointed-Ok : (message : List ℕ) (place target : ℕ) (name : List ℕ) → PointsTo message place target → IsNameAt message target name → name_at message (to_end message place) ≡ Ok (name, place + 2)
pointed-Ok message place target name to is = pointed message place target to ∙ named (place + 2) (name_at message (to_end message target)) name is

pub pointed-Err : (message : List ℕ) (place target : ℕ) (fault : WireFault) → PointsTo message place target → standing_at message target ≡ Err fault → name_at message (to_end message place) ≡ Err fault
pointed-Err message place target fault to is = pointed message place target to ∙ refused (place + 2) (name_at message (to_end message target)) fault is
