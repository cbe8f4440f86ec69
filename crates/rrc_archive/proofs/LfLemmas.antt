-- SPDX-License-Identifier: MIT
-- The first line of octets, with its LF, and the octets behind it.
use Rattle.std.proofs.Common.{◌≡◌, ℕ, suc, zero, ◌+◌, ◌<◌, ◌≤◌, false, List, length, take, drop, get_or, position, Some, refl, ap, ◌∙◌, arith, add-one}
use Rattle.std.proofs.lemmas.Grind.{common_steps}
use Rattle.std.proofs.lemmas.List.Sums.{count_by_more_no, count_by_more_yes, count_by-le-length}
use Rattle.std.proofs.lemmas.List.Quantifiers.{position-Some}
use Rattle.rrc_text.proofs.CutLemmas.{cut_at}
use Rattle.rrc_archive.specs.ArchiveLines.{is_lf, line_count, IsCutBehindLf}

-- no LF stands before a place
none-before : (octets : List ℕ) (place : ℕ) → place ≤ length octets → ((k : ℕ) → k < place → is_lf (get_or octets k 0) ≡ false) → line_count (take place octets) ≡ 0
none-before octets zero inside none = refl
none-before octets (suc place) inside none =
    let before = none-before octets place (omega arith) (λ k below. none k (omega arith)) in
    let next : line_count (take (place + 1) octets) ≡ line_count (take place octets) =
    count_by_more_no is_lf octets place 0 (omega arith) (none place (omega arith)) in
    rw (add-one place) at next ∙ before

pub cut_behind : (octets : List ℕ) (place : ℕ) → position is_lf octets ≡ Some place → IsCutBehindLf octets (take (place + 1) octets) (drop (place + 1) octets)
cut_behind octets place found =
    let first = position-Some is_lf octets place 0 found in
    let before : line_count (take place octets) ≡ 0 = none-before octets place (omega (arith, first.0)) first.2 in
    let one : line_count (take (place + 1) octets) ≡ 1 = count_by_more_yes is_lf octets place 0 first.0 first.1 ∙ ap (λ n. n + 1) before in
    record { whole = grind (arith, common_steps); cut = cut_at octets place found; one = one; some = omega (arith, one, count_by-le-length is_lf (take (place + 1) octets)) }
