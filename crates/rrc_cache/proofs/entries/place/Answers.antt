-- SPDX-License-Identifier: MIT
use Rattle.std.proofs.Common.{◌≡◌, ◌<◌, ◌≤◌, ◌-◌, ◌∷◌, List, Option, None, length, take, ap, sym, subst, ◌∙◌, arith}
use Rattle.rrc_name.specs.Key.{KeyOf}
use Rattle.rrc_history.specs.declared.snapshot.Entry.{Entry}
use Rattle.rrc_history.specs.Past.{last_key}
use Rattle.rrc_history.specs.Entries.{goes, staying}
use Rattle.rrc_cache.specs.Pairs.{StoreOf}
use Rattle.rrc_cache.specs.Taken.{IsPlaced}
use Rattle.rrc_cache.proofs.Placing.{placed_within, placed_beyond}
use Rattle.rrc_cache.proofs.entries.place.Goals as goal

pub returns-then-len-capacity-clause-ok : goal.returns-then-len-capacity-clause-ok
returns-then-len-capacity-clause-ok c =
    let before : List Entry = c.args.store.now.entries in
    let put : List Entry = c.args.entry ∷ staying (goes c.args.entry.key None) before in
    let written : c.put.new.self.entries ≡ put = ap (λ (store : StoreOf). store.entries) c.in_ok-put.ensures.ok in
    let many : c.args.capacity < length put = omega (arith, c.if-len-capacity.true, c.len.ensures.value, ap length written) in
    let evicted : c.remove_last.result ≡ last_key put = c.remove_last.ensures.value ∙ ap last_key written in
    let left : c.remove_last.new.self.entries ≡ take (length put - 1) put =
    ap (λ (store : StoreOf). store.entries) c.remove_last.ensures.entries ∙ ap (λ (es : List Entry). take (length es - 1) es) written in
    let P : Option KeyOf → Type 0 = λ key. IsPlaced c.args.capacity c.args.entry before key c.remove_last.new.self.entries in
    let Q : List Entry → Type 0 = λ es. IsPlaced c.args.capacity c.args.entry before (last_key put) es in
    subst P (sym evicted)
    (subst Q (sym left)
    (placed_beyond c.args.capacity c.args.entry before c.requires.some c.requires.room c.has_distinct_keys.ensures many))

pub returns-else-len-capacity-clause-ok : goal.returns-else-len-capacity-clause-ok
returns-else-len-capacity-clause-ok c =
    let before : List Entry = c.args.store.now.entries in
    let put : List Entry = c.args.entry ∷ staying (goes c.args.entry.key None) before in
    let written : c.put.new.self.entries ≡ put = ap (λ (store : StoreOf). store.entries) c.in_ok-put.ensures.ok in
    let few : length put ≤ c.args.capacity = omega (arith, c.if-len-capacity.false, c.len.ensures.value, ap length written) in
    let Q : List Entry → Type 0 = λ es. IsPlaced c.args.capacity c.args.entry before None es in
    subst Q (sym written) (placed_within c.args.capacity c.args.entry before few)
