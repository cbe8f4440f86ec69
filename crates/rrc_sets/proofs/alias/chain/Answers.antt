-- SPDX-License-Identifier: MIT
use Rattle.std.proofs.Common.{◌≡◌, ◌-◌, ◌+◌, ◌++◌, [], ◌∷◌, List, ℕ, Some, None, rules, sym, ap, ◌∙◌, arith, append_assoc}
use Rattle.std.specs.Option.{option_map}
use Rattle.rrc_sets.specs.Aliases.{target_of, chain}
use Rattle.rrc_sets.proofs.Links.{chain-None, chain-Some, chain-past}
use Rattle.rrc_sets.proofs.alias.chain.Goals as goal

pub loop-alias-preserved : goal.loop-alias-preserved
loop-alias-preserved c =
    let answer = c.args.answer.now in let names = c.loop-alias.names.items in let name = c.loop-alias.name in let next = c.in_ok-next.next in
    let named : c.as_slice.result.now ≡ name = search rules in
    let some : target_of answer name ≡ Some next =
    ap (target_of answer) (sym named) ∙ (sym c.in-Some.ensures.value ∙ ap Some (sym c.in_ok-next.ensures)) in
    let rest = chain (c.args.aliases - (c.loop-alias._alias + 1)) answer next in
    ap (λ (ns : List (List ℕ)). ns ++ rest) c.in_ok-push-2.ensures.items
    ∙ (append_assoc names (name ∷ []) rest
    ∙ (ap (λ (ns : List (List ℕ)). names ++ ns) (sym (chain-Some answer c.args.aliases c.loop-alias._alias name (omega arith) next some))
    ∙ c.loop-alias.invariant))

pub returns-in_default : goal.returns-in_default
returns-in_default c =
    let answer = c.args.answer.now in let names = c.loop-alias.names.items in let name = c.loop-alias.name in
    let named : c.as_slice.result.now ≡ name = search rules in
    let none : target_of answer name ≡ None =
    ap (target_of answer) (sym named) ∙ (sym c.target_of.ensures.value ∙ ap (option_map _) c.in_default.is) in
    c.in_ok-push.ensures.items
    ∙ (ap (λ (ns : List (List ℕ)). names ++ ns) (sym (chain-None answer c.args.aliases c.loop-alias._alias name (omega arith) none))
    ∙ c.loop-alias.invariant)

pub returns : goal.returns
returns c =
    let names = c.loop-alias.names.items in
    c.in_ok-push-3.ensures.items
    ∙ (ap (λ (ns : List (List ℕ)). names ++ ns) (sym (chain-past c.args.answer.now c.args.aliases c.loop-alias._alias c.loop-alias.name (omega arith)))
    ∙ c.loop-alias.invariant)
