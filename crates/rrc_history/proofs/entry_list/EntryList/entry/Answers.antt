-- SPDX-License-Identifier: MIT
use Rattle.std.proofs.Common.{◌≡◌, ap, ◌∙◌, ◌-◌, length, get_or, arith}
use Rattle.rrc_history.specs.EntryLists.{entries_at}
use Rattle.rrc_history.proofs.Places.{length_of, entry_behind}
use Rattle.rrc_history.proofs.entry_list.EntryList.entry.Goals as goal

pub entry_at-requires-clause-place : goal.entry_at-requires-clause-place
entry_at-requires-clause-place c =
    let whole = length_of c.self.inside.own.items c.self.inside.batched.batches.items c.self.inside.batched.places.items c.args.self.now c.self.view_is c.self.invariant.0 in
    omega (arith, whole, c.requires, c.len.ensures, c.len-2.ensures, c.if-place-len.false)

pub returns : goal.returns
returns c =
    let named = entries_at c.self.inside.batched.batches.items c.self.inside.batched.places.items in
    let own : c.len-2.result ≡ length c.self.inside.own.items = omega arith in
    entry_behind c.self.inside.own.items named c.args.self.now c.args.place c.entry_at.result.now c.self.view_is (omega (arith, c.len.ensures, c.if-place-len.false))
    (c.entry_at.ensures ∙ ap (λ n. get_or named (c.args.place - n) c.entry_at.result.now) own)
