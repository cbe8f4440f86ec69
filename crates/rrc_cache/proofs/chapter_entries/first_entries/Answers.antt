-- SPDX-License-Identifier: MIT
use Rattle.std.proofs.Common.{◌≡◌, ℕ, ◌+◌, ◌≤◌, List, [], ◌∷◌, ◌++◌, length, take, ap, sym, ◌∙◌, append_assoc, arith}
use Rattle.std.proofs.Math.Seq.{take-append_seam}
use Rattle.std.proofs.lemmas.List.{append-nil, length-append}
use Rattle.rrc_history.specs.declared.snapshot.Entry.{Entry}
use Rattle.rrc_cache.specs.declared.clocked.Stamped.{Stamped}
use Rattle.rrc_cache.specs.declared.hashed.HashedKey.{HashedKey}
use Rattle.rrc_cache.specs.Keyed.{hashed_entries}
use Rattle.rrc_cache.proofs.Paired.{all_taken}
use Rattle.rrc_cache.proofs.chapter_entries.first_entries.Goals as goal

-- as many are kept as are wanted
enough : (all first behind : List Entry) (count : ℕ) → all ≡ first ++ behind → length first ≡ count → first ≡ take count all
enough all first behind count is long = sym (ap (take count) is ∙ (ap (λ n. take n (first ++ behind)) (sym long) ∙ take-append_seam first behind))

-- all are kept
every : (all first : List Entry) (count : ℕ) → all ≡ first → length first ≤ count → first ≡ take count all
every all first count is few =
    let long : length all ≡ length first = ap length is in
    sym (all_taken count all (omega (arith, few, long)) ∙ is)

pub returns-then-len-count : goal.returns-then-len-count
returns-then-len-count c =
    enough (hashed_entries c.args.cache.now.entries) c.loop-stamped.first.items (hashed_entries c.loop-stamped.stamped-iterator) c.args.count c.loop-stamped.invariant.0
    (omega (arith, c.loop-stamped.invariant.1, c.if-len-count.true, c.len.ensures))

pub loop-stamped-preserved : goal.loop-stamped-preserved
loop-stamped-preserved c =
    let entry : Entry = c.in-Some.stamped.now.entry in
    let rest : List (HashedKey × Stamped) = c.next.new.self in
    let new : c.push.new.self.items ≡ c.loop-stamped.first.items ++ entry ∷ [] =
    c.in_ok-push.ensures.items ∙ ap (λ (e : Entry). c.loop-stamped.first.items ++ e ∷ []) c.in_ok-clone.ensures.cases in
    let longer : length c.push.new.self.items ≡ length c.loop-stamped.first.items + 1 = ap length new ∙ length-append c.loop-stamped.first.items (entry ∷ []) in (
      c.loop-stamped.invariant.0
          ∙ (ap (λ (ps : List (HashedKey × Stamped)). c.loop-stamped.first.items ++ hashed_entries ps) c.in-Some.ensures.steps
          ∙ (sym (append_assoc c.loop-stamped.first.items (entry ∷ []) (hashed_entries rest)) ∙ ap (λ es. es ++ hashed_entries rest) (sym new))),
      omega (arith, longer, c.if-len-count.false, c.len.ensures),
    )

pub returns : goal.returns
returns c =
    every (hashed_entries c.args.cache.now.entries) c.loop-stamped.first.items c.args.count
    (c.loop-stamped.invariant.0
    ∙ (ap (λ (ps : List (HashedKey × Stamped)). c.loop-stamped.first.items ++ hashed_entries ps) c.in-None.ensures.steps.0 ∙ append-nil c.loop-stamped.first.items)) c.loop-stamped.invariant.1
