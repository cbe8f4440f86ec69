-- SPDX-License-Identifier: MIT
use Rattle.std.proofs.Common.{◌≡◌, ◌++◌, ◌+◌, ◌∷◌, [], ℕ, List, take, drop, map, rules, ap, sym, ◌∙◌, append_assoc}
use Rattle.std.proofs.lemmas.List.{map-append, take_more}
use Rattle.rrc_name.specs.Wire.{same_name}
use Rattle.rrc_sets.proofs.Hosts.{same_name-laws, are-firsts, further}
use Rattle.rrc_sets.proofs.host.add_hosts.Goals as goal

pub add_host-requires : goal.add_host-requires
add_host-requires c =
    let before : List (List ℕ) = c.args.hosts.now.items ++ map (drop c.args.place) (take c.loop-item.item-index c.args.items.now) in
    are-firsts same_name same_name-laws c.args.most before c.loop-item.hosts.items c.loop-item.invariant

pub loop-item-preserved : goal.loop-item-preserved
loop-item-preserved c =
    let i = c.loop-item.item-index in let items : List (List ℕ) = c.args.items.now in let first : List (List ℕ) = c.args.hosts.now.items in
    let item : List ℕ = c.item-item.result in let host : List ℕ = c.behind.result.now in
    let named : List (List ℕ) → List (List ℕ) = map (drop c.args.place) in
    let is : host ≡ drop c.args.place item = search rules in
    let next : take (i + 1) items ≡ take i items ++ item ∷ [] = search (rules, take_more) in
    let joined : (first ++ named (take i items)) ++ host ∷ [] ≡ first ++ named (take (i + 1) items) =
    append_assoc first (named (take i items)) (host ∷ [])
    ∙ ap (λ hs. first ++ hs) (ap (λ h. named (take i items) ++ h ∷ []) is
    ∙ (sym (map-append (drop c.args.place) (take i items) (item ∷ [])) ∙ ap named (sym next))) in
    further same_name same_name-laws c.args.most (first ++ named (take i items)) c.loop-item.hosts.items (host ∷ []) c.add_host.new.hosts.items
    (first ++ named (take (i + 1) items)) c.loop-item.invariant c.in_ok-add_host.ensures joined
