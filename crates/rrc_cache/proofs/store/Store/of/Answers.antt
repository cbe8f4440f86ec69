-- SPDX-License-Identifier: MIT
use Rattle.std.proofs.Common.{◌≡◌, ℕ, ◌+◌, ◌-◌, ◌<◌, List, ◌∷◌, ◌++◌, None, length, take, drop, get_or, sym, ap, subst, ◌∙◌, arith}
use Rattle.std.proofs.lemmas.List.{drop_more}
use Rattle.rrc_history.specs.declared.snapshot.Entry.{Entry}
use Rattle.rrc_history.specs.declared.snapshot.Snapshot.{Snapshot}
use Rattle.rrc_history.specs.Entries.{AreApart, goes, staying}
use Rattle.rrc_history.specs.lemmas.Apart.{apart_behind, staying-lacks}
use Rattle.rrc_cache.specs.Pairs.{StoreOf}
use Rattle.rrc_cache.proofs.Paired.{seen}
use Rattle.rrc_cache.proofs.Turned.{split_at}
use Rattle.rrc_cache.proofs.store.Store.of.Goals as goal

-- an entry comes in front of those behind it, of which none has its key
put_next : (entries : List Entry) (i : ℕ) (entry : Entry) → i < length entries → entry ≡ get_or entries i entry → AreApart entries
    → entry ∷ staying (goes entry.key None) (drop (i + 1) entries) ≡ drop i entries
put_next entries i entry less is apart =
    let behind : List Entry = drop (i + 1) entries in
    let split : entries ≡ take i entries ++ entry ∷ behind = split_at entries i entry less ∙ ap (λ e. take i entries ++ e ∷ behind) (sym is) in
    ap (λ es. entry ∷ es) (staying-lacks entry.key behind (apart_behind (take i entries) entry behind (subst AreApart split apart)))
    ∙ (ap (λ e. e ∷ behind) is ∙ sym (drop_more entries i entry less))

pub loop-place-preserved : goal.loop-place-preserved
loop-place-preserved c =
    let entries : List Entry = c.snapshot.inside.entries in
    let entry : Entry = c.entry.result.now in
    let place : ℕ = c.loop-place.place in
    let one : c.in_ok-entry.entry ≡ entry = c.in_ok-entry.ensures.cases in
    let before : (place - 1) + 1 ≡ place = omega (arith, c.loop-place-test.true) in
    let all : c.args.snapshot.now.entries ≡ entries = sym (ap (λ (s : Snapshot). s.entries) c.snapshot.view_is) in
    let apart : AreApart entries = subst AreApart all c.rules-rules.ensures.sound.apart in
    c.in_ok-put.ensures.ok
    ∙ (ap (λ (e : Entry). seen c.loop-place.store.seeded c.loop-place.store.stale (e ∷ staying (goes e.key None) c.loop-place.store.entries)) one
    ∙ (ap (λ (s : StoreOf). seen s.seeded s.stale (entry ∷ staying (goes entry.key None) s.entries)) c.loop-place.invariant
    ∙ (ap (λ (n : ℕ). seen c.args.seeded c.args.snapshot.now.rules.stale (entry ∷ staying (goes entry.key None) (drop n entries))) (sym before)
    ∙ ap (seen c.args.seeded c.args.snapshot.now.rules.stale)
    (put_next entries (place - 1) entry (omega (arith, c.loop-place-test.true, c.loop-place.auto.place)) c.entry.ensures apart))))
