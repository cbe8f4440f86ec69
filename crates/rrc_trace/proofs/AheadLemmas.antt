-- SPDX-License-Identifier: MIT
-- Octets ahead of those that were taken.
use Rattle.std.proofs.Common.{◌≡◌, ℕ, ◌+◌, ◌-◌, ◌≤◌, List, length, take, drop, slice_range, arith, sym, ap, ◌∙◌, length-take, length-drop, drop-drop}
use Rattle.std.proofs.lemmas.List.{drop-take}

pub length-slice_range : (octets : List ℕ) (start end : ℕ) → end ≤ length octets → length (slice_range octets start end) ≡ end - start
length-slice_range octets start end within = omega (arith, length-take (end - start) (drop start octets), length-drop start octets)

-- the range behind the first octets of a range
pub slice_range-behind : (octets : List ℕ) (start end count : ℕ) → end ≤ length octets → count ≤ length (slice_range octets start end)
    → slice_range octets (start + count) end ≡ drop count (slice_range octets start end)
slice_range-behind octets start end count within few =
    let size = length-slice_range octets start end within in
    let left : count + (end - (start + count)) ≡ end - start = omega (arith, size, few) in
    ap (take (end - (start + count))) (sym (drop-drop count start octets))
    ∙ sym (drop-take count (end - (start + count)) (drop start octets))
    ∙ ap (λ n. drop count (take n (drop start octets))) left
