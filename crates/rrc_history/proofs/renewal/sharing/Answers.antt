-- SPDX-License-Identifier: MIT
use Rattle.std.proofs.Common.{◌≡◌, ◌++◌, List, length, sym, ap, subst, ◌∙◌, arith}
use Rattle.rrc_history.specs.declared.snapshot.Entry.{Entry}
use Rattle.rrc_history.specs.EntryLists.{entries_at, AreFilled}
use Rattle.rrc_history.proofs.Renewed.{staying_entries, staying_filled}
use Rattle.rrc_history.proofs.renewal.sharing.Goals as goal

pub invariant_of-result : goal.invariant_of-result
invariant_of-result c =
    let none : length c.new.result.items ≡ 0 = ap length c.new.ensures.items in (
      subst (λ (batches : List (List Entry)). AreFilled batches c.in_ok-places_staying.field-0.items) (sym c.in_ok-batches_of.ensures)
          (subst (AreFilled c.args.batched.now.batches.items) (sym c.in_ok-places_staying.ensures)
          (staying_filled c.args.gone.now.keys c.args.batched.now.batches.items c.args.batched.now.places.items)),
      omega (arith, none),
    )

pub returns : goal.returns
returns c =
    ap (λ (own : List Entry). own ++ entries_at c.in_ok-batches_of.field-0.items c.in_ok-places_staying.field-0.items) c.new.ensures.items
    ∙ (ap (λ (batches : List (List Entry)). entries_at batches c.in_ok-places_staying.field-0.items) c.in_ok-batches_of.ensures
    ∙ (ap (entries_at c.args.batched.now.batches.items) c.in_ok-places_staying.ensures
    ∙ staying_entries c.args.gone.now.keys c.args.batched.now.batches.items c.args.batched.now.places.items))
