-- SPDX-License-Identifier: MIT
use Rattle.std.proofs.Common.{◌≡◌, ℕ, ◌-◌, ◌+◌, List, ◌++◌, length, take, ap, sym, ◌∙◌, arith}
use Rattle.std.proofs.Math.Seq.{take-append_seam}
use Rattle.std.proofs.lemmas.List.{length-append}
use Rattle.std.proofs.lemmas.Result.{IfOk-weaker}
use Rattle.rrc_history.specs.declared.snapshot.Entry.{Entry}
use Rattle.rrc_cache.specs.OpeningTail.{left_of}
use Rattle.rrc_cache.specs.Pairs.{EntriesOf}
use Rattle.rrc_cache.proofs.Tails.{front_of}
use Rattle.rrc_cache.proofs.chapter_entries.ChapterEntries.entries.Goals as goal

-- those in front are as many as the others are not
front_length : (all front left : List Entry) → all ≡ front ++ left → length all ≡ length front + length left
front_length all front left is = ap length is ∙ length-append front left

first_of : (all front left : List Entry) (count : ℕ) → all ≡ front ++ left → count ≡ length all - length left → take count all ≡ front
first_of all front left count is long =
    let lengths : length all ≡ length front + length left = front_length all front left is in
    let as_many : count ≡ length front = omega (arith, lengths, long) in
    ap (λ n. take n all) as_many ∙ (ap (take (length front)) is ∙ take-append_seam front left)

pub overflow_sub-len : goal.overflow_sub-len
overflow_sub-len c =
    let entries : List Entry = c.self.inside.map.entries in
    let front = front_of c.self.inside.tail entries c.self.invariant in
    let lengths : length entries ≡ length front.0 + length (left_of c.self.inside.tail) = front_length entries front.0 (left_of c.self.inside.tail) front.1 in
    let left : c.len-2.result ≡ length (left_of c.self.inside.tail) = c.len-2.ensures ∙ ap length c.in_ok-left.ensures in
    omega (arith, lengths, left, c.len.ensures.value)

pub returns : goal.returns
returns c =
    let entries : List Entry = c.self.inside.map.entries in
    let left : List Entry = left_of c.self.inside.tail in
    let front = front_of c.self.inside.tail entries c.self.invariant in
    let length_left : c.len-2.result ≡ length left = c.len-2.ensures ∙ ap length c.in_ok-left.ensures in
    let first : c.in_ok-front.front.items ≡ front.0 =
    c.in_ok-front.ensures ∙ (ap (take (c.len.result - c.len-2.result)) c.held.ensures ∙ first_of entries front.0 left (c.len.result - c.len-2.result) front.1 (omega (arith, length_left, c.len.ensures.value))) in
    IfOk-weaker c.led_by.result (λ list. list ≡ c.in_ok-front.front.items ++ c.in_ok-left.left) (λ list. list ≡ c.args.self.now.entries)
    (λ list is. is
    ∙ (ap (λ es. es ++ c.in_ok-left.left) first
    ∙ (ap (λ es. front.0 ++ es) c.in_ok-left.ensures ∙ (sym front.1 ∙ ap (λ (map : EntriesOf). map.entries) c.self.view_is)))) c.led_by.ensures
