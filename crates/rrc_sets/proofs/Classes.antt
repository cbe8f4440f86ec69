-- SPDX-License-Identifier: MIT
-- A message all of whose records are of its question's class is left as it is by dropping the others.
use Rattle.std.proofs.Common.{◌≡◌, Bool, true, cond, List, [], ◌∷◌, refl, ap, ◌∙◌}
use Rattle.std.specs.Prelude.{◌&&◌, filter}
use Rattle.std.specs.List.{list_all}
use Rattle.std.proofs.lemmas.Bool.{and_parts}
use Rattle.rrc_wire.specs.declared.record.Rr.{Rr}
use Rattle.rrc_wire.specs.declared.message.Message.{Message}
use Rattle.rrc_sets.specs.Classes.{is_of_class, in_own_class, has_one_class}

-- where all pass a test, a filter by it keeps them all
all_kept : {A : Type 0} (test : A → Bool) (xs : List A) → list_all test xs ≡ true → filter test xs ≡ xs
all_kept test [] all = refl
all_kept test (x ∷ xs) all =
    let parts = and_parts (test x) (list_all test xs) all in
    ap (λ b. cond b (x ∷ filter test xs) (filter test xs)) parts.0 ∙ ap (λ others. x ∷ others) (all_kept test xs parts.1)

pub own_is_whole : (message : Message) → has_one_class message ≡ true → in_own_class message ≡ message
own_is_whole message one =
    let own : Rr → Bool = is_of_class message.question.qclass in
    let first = and_parts (list_all own message.answer) (list_all own message.authority && list_all own message.additional) one in
    let others = and_parts (list_all own message.authority) (list_all own message.additional) first.1 in
    let answers : filter own message.answer ≡ message.answer = all_kept own message.answer first.0 in
    let authorities : filter own message.authority ≡ message.authority = all_kept own message.authority others.0 in
    let additionals : filter own message.additional ≡ message.additional = all_kept own message.additional others.1 in
    λ i. record message { answer = answers i; authority = authorities i; additional = additionals i }
