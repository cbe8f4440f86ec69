-- SPDX-License-Identifier: MIT
-- What the items of a name say of the message.
use Rattle.std.proofs.Common.{◌≡◌, ℕ, suc, ◌+◌, ◌-◌, ◌<◌, ◌≤◌, List, ◌∷◌, length, drop, slice_index, get_or, Ok, refl, arith, length-drop, length-take}
use Rattle.std.specs.Prelude.{slice_range}
use Rattle.std.specs.List.{AllByRecursion}
use Rattle.std.proofs.lemmas.Bool.Decides.{nat_tests}
use Rattle.std.proofs.lemmas.List.{drop_more}
use Rattle.std.proofs.lemmas.List.Elements.{All-from_get_or, All-take, All-drop, recursion_from_All}
use Rattle.rrc_wire.specs.Item.{End, Label, Pointer, RunOf, item_at, target_at}

-- the zero octet that ends a name stands at a place
pub record EndStands (message : List ℕ) (run : RunOf) (place : ℕ) : Type 0 where
  pub zero_octet : slice_index message place ≡ 0
  pub within : place < run.end

-- a label stands at a place, and leaves room for the octet that ends its name
pub record LabelStands (message : List ℕ) (run : RunOf) (size place octets : ℕ) : Type 0 where
  pub length_octet : slice_index message place ≡ octets
  pub some : 1 ≤ octets
  pub few : octets ≤ 63
  pub room : size + octets + 2 ≤ 255
  pub within : place + 1 + octets ≤ run.end

-- a pointer stands at a place
pub record PointerStands (message : List ℕ) (run : RunOf) (place target : ℕ) : Type 0 where
  pub top_bits : 192 ≤ slice_index message place
  pub target_is : target ≡ target_at message place
  pub lower : target < run.start
  pub within : place + 2 ≤ run.end

pub item_at-End : (message : List ℕ) (run : RunOf) (size place : ℕ) → item_at message run size place ≡ Ok End → EndStands message run place
item_at-End message run size place h =
    record { zero_octet = grind (arith, nat_tests); within = grind (arith, nat_tests) }

pub item_at-Label : (message : List ℕ) (run : RunOf) (size place octets : ℕ) → item_at message run size place ≡ Ok (Label octets) → LabelStands message run size place octets
item_at-Label message run size place octets h =
    record {
      length_octet = grind (arith, nat_tests);
      some = grind (arith, nat_tests);
      few = grind (arith, nat_tests);
      room = grind (arith, nat_tests);
      within = grind (arith, nat_tests);
    }

pub item_at-Pointer : (message : List ℕ) (run : RunOf) (size place target : ℕ) → item_at message run size place ≡ Ok (Pointer target) → PointerStands message run place target
item_at-Pointer message run size place target h =
    record {
      top_bits = grind (arith, nat_tests);
      target_is = grind (arith, nat_tests);
      lower = grind (arith, nat_tests);
      within = grind (arith, nat_tests);
    }

-- a label behind its length octet
pub slice_range-label : (message : List ℕ) (place octets : ℕ) → slice_index message place ≡ octets → place + 1 + octets ≤ length message
    → slice_range message place (place + 1 + octets) ≡ octets ∷ slice_range message (place + 1) (place + 1 + octets)
slice_range-label message place octets is within =
    let size : place + 1 + octets - place ≡ suc octets = omega arith in
    let less : place + 1 + octets - (place + 1) ≡ octets = omega arith in
    let more : drop place message ≡ get_or message place 0 ∷ drop (place + 1) message = drop_more message place 0 (omega arith) in
    rw (size, less, more, is) refl

pub length-slice_range : (message : List ℕ) (from end : ℕ) → from ≤ end → end ≤ length message → length (slice_range message from end) ≡ end - from
length-slice_range message from end le within = omega (arith, length-take (end - from) (drop from message), length-drop from message)

-- the octets of a part of the message
pub octets-slice_range : (message : List ℕ) (from end : ℕ) → ((i : ℕ) → slice_index message i < 256) → AllByRecursion (λ octet. octet < 256) (slice_range message from end)
octets-slice_range message from end octets =
    let P : ℕ → Type 0 = λ octet. octet < 256 in
    recursion_from_All P (slice_range message from end) (All-take P (end - from) (drop from message) (All-drop P from message (All-from_get_or P message 0 (λ i _. octets i))))
