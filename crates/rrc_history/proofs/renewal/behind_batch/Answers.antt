-- SPDX-License-Identifier: MIT
use Rattle.std.proofs.Common.{◌≡◌, ◌++◌, ◌∷◌, [], List, length, slice_index_or, ap, subst, ◌∙◌, arith}
use Rattle.rrc_history.specs.declared.snapshot.Entry.{Entry}
use Rattle.rrc_history.specs.EntryLists.{entries_at, AreFilled}
use Rattle.rrc_history.proofs.Renewed.{behind_entries, behind_filled}
use Rattle.rrc_history.proofs.renewal.behind_batch.Goals as goal

pub invariant_of-result : goal.invariant_of-result
invariant_of-result c =
    let before : List (List Entry) = c.args.batched.batches.items in
    let all : List (List Entry) = c.push.new.self.items in
    let grown : all ≡ before ++ c.args.front.items ∷ [] =
    c.in_ok-push.ensures.items ∙ ap (λ (entries : List Entry). before ++ entries ∷ []) (c.in_ok-new.ensures.ok ∙ c.from_vec.ensures) in
    let named : AreFilled all c.in_ok-places.places.items =
    subst (λ (batches : List (List Entry)). AreFilled batches c.in_ok-places.places.items) c.as_slice.ensures.value c.in_ok-places.ensures.filled in
    let none : length c.new-2.result.items ≡ 0 = ap length c.new-2.ensures.items in (
      behind_filled before all c.args.front.items c.in_ok-places.places.items c.args.batched.places.items c.append.new.self.items c.requires grown c.in_ok-append.ensures.items named,
      omega (arith, none),
    )

pub returns : goal.returns
returns c =
    let before : List (List Entry) = c.args.batched.batches.items in
    let all : List (List Entry) = c.push.new.self.items in
    let batch : c.len-batch.result ≡ length before = omega arith in
    let grown : all ≡ before ++ c.args.front.items ∷ [] =
    c.in_ok-push.ensures.items ∙ ap (λ (entries : List Entry). before ++ entries ∷ []) (c.in_ok-new.ensures.ok ∙ c.from_vec.ensures) in
    let named : entries_at all c.in_ok-places.places.items ≡ slice_index_or all c.len-batch.result [] =
    subst (λ (batches : List (List Entry)). entries_at batches c.in_ok-places.places.items ≡ slice_index_or batches c.len-batch.result []) c.as_slice.ensures.value c.in_ok-places.ensures.entries in
    ap (λ (own : List Entry). own ++ entries_at all c.append.new.self.items) c.new-2.ensures.items
    ∙ behind_entries before all c.args.front.items c.len-batch.result c.in_ok-places.places.items c.args.batched.places.items c.append.new.self.items
    c.requires grown batch c.in_ok-append.ensures.items named
