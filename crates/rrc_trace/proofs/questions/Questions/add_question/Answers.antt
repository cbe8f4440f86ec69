-- SPDX-License-Identifier: MIT
use Rattle.std.proofs.Common.{◌≡◌, ℕ, ◌∙◌, ◌++◌, ◌∷◌, [], List, Some, sym, ap, subst, cond, length, arith}
use Rattle.std.specs.Ordering.{is_eq}
use Rattle.std.specs.BTreeMap as map
use Rattle.rrc_name.specs.Key.{KeyOf, key_order}
use Rattle.rrc_trace.specs.Questions.{with_question, FindsNumbers}
use Rattle.rrc_trace.proofs.QuestionLemmas.{question-old, question-new, numbers-push}
use Rattle.rrc_trace.proofs.questions.Questions.add_question.Goals as goal

pub returns-then-contains_key-clause-ok : goal.returns-then-contains_key-clause-ok
returns-then-contains_key-clause-ok c =
    let old = c.self.inside in let question = c.args.question in
    subst (λ (questions : List KeyOf). questions ≡ with_question questions (Some question)) c.self.view_is
    (sym (question-old old.numbers old.keys.items question c.self.invariant (sym c.contains_key.ensures ∙ c.if-contains_key.true)))

pub invariant_of-self-2 : goal.invariant_of-self-2
invariant_of-self-2 c =
    let old = c.self.inside in let question = c.args.question in
    let is_new = sym c.contains_key.ensures ∙ c.if-contains_key.false in
    let count : c.len.result ≡ length old.keys.items = omega (arith, c.len.ensures, c.reserve.ensures.len, old.keys.ok) in
    let updates : (other : KeyOf) → map.get key_order c.insert.new.self other ≡ cond (is_eq (key_order question other)) (Some (length old.keys.items)) (map.get key_order old.numbers other) =
    λ other. c.in_ok-insert.ensures.updates.0 other
    ∙ (ap (λ (key : KeyOf). cond (is_eq (key_order key other)) (Some c.len.result) (map.get key_order old.numbers other)) c.in_ok-clone.ensures.cases
    ∙ ap (λ (number : ℕ). cond (is_eq (key_order question other)) (Some number) (map.get key_order old.numbers other)) count) in
    let whole : c.push_reserved.new.self.items ≡ old.keys.items ++ question ∷ [] = c.push_reserved.ensures.items ∙ ap (λ (questions : List KeyOf). questions ++ question ∷ []) c.reserve.ensures.items in
    subst (FindsNumbers c.insert.new.self) (sym whole) (numbers-push old.numbers c.insert.new.self old.keys.items question c.self.invariant is_new updates)

pub returns-clause-ok : goal.returns-clause-ok
returns-clause-ok c =
    let old = c.self.inside in let question = c.args.question in
    let is_new = sym c.contains_key.ensures ∙ c.if-contains_key.false in
    c.push_reserved.ensures.items ∙ (ap (λ (questions : List KeyOf). questions ++ question ∷ []) c.reserve.ensures.items
    ∙ subst (λ (questions : List KeyOf). old.keys.items ++ question ∷ [] ≡ with_question questions (Some question)) c.self.view_is
    (sym (question-new old.numbers old.keys.items question c.self.invariant is_new)))
