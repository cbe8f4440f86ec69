-- SPDX-License-Identifier: MIT
use Rattle.std.proofs.Common.{◌≡◌, ◌++◌, ◌∷◌, [], ◌+◌, List, None, take, ap, sym, ◌∙◌, rules}
use Rattle.std.proofs.lemmas.List.{take_more}
use Rattle.rrc_name.specs.Key.{KeyOf}
use Rattle.rrc_history.specs.declared.snapshot.Entry.{Entry}
use Rattle.rrc_history.specs.Past.{is_among}
use Rattle.rrc_history.specs.Entries.{goes, staying}
use Rattle.rrc_history.specs.lemmas.ContentsLaws.{staying-all}
use Rattle.rrc_cache.specs.Pairs.{StoreOf}
use Rattle.rrc_cache.proofs.Paired.{seen}
use Rattle.rrc_cache.proofs.Sweeping.{staying_more}
use Rattle.rrc_cache.proofs.sweep.remove.Goals as goal

pub loop-key-init : goal.loop-key-init
loop-key-init c = ap (seen c.args.store.now.seeded c.args.store.now.stale) (sym (staying-all c.args.store.now.entries))

pub loop-key-preserved : goal.loop-key-preserved
loop-key-preserved c =
    let keys : List KeyOf = c.args.keys.now in
    let more : take (c.loop-key.key-index + 1) keys ≡ take c.loop-key.key-index keys ++ c.key-item.result ∷ [] =
    search (rules, take_more) in
    let gone : List KeyOf → List Entry = λ ks. staying (λ key. is_among key ks) c.args.store.now.entries in
    c.remove.ensures
    ∙ (ap (λ key. seen c.loop-key.store.seeded c.loop-key.store.stale (staying (goes key None) c.loop-key.store.entries)) c.of-key.ensures.value
    ∙ (ap (λ (store : StoreOf). seen store.seeded store.stale (staying (goes c.key-item.result None) store.entries)) c.loop-key.invariant
    ∙ ap (seen c.args.store.now.seeded c.args.store.now.stale) (staying_more (take c.loop-key.key-index keys) c.key-item.result c.args.store.now.entries ∙ ap gone (sym more))))
