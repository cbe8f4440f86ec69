-- SPDX-License-Identifier: MIT
use Rattle.std.proofs.Common.{◌≡◌, ◌+◌, ◌++◌, ◌∷◌, [], take, ap, sym, ◌∙◌}
use Rattle.std.proofs.lemmas.List.{take_more}
use Rattle.rrc_collate.specs.Fetches.{fetch_by, listed, picked}
use Rattle.rrc_collate.proofs.Fetched.{picked_more}
use Rattle.rrc_collate.proofs.fetches.fetches_in.Goals as goal

pub loop-task-preserved : goal.loop-task-preserved
loop-task-preserved c =
    let tasks = c.args.tasks.now in
    let i = c.loop-task.task-index in
    let task = c.task-item.result in
    let more : take (i + 1) tasks ≡ take i tasks ++ task ∷ [] = take_more tasks i task c.loop-task-test.true ∙ ap (λ t. take i tasks ++ t ∷ []) (sym c.task-item.is) in
    c.in_ok-put.ensures
    ∙ (ap (λ l. l ++ listed c.fetch_of.result) c.loop-task.invariant
    ∙ (ap (λ o. picked fetch_by (take i tasks) ++ listed o) c.fetch_of.ensures
    ∙ (sym (picked_more fetch_by (take i tasks) task) ∙ ap (picked fetch_by) (sym more))))
