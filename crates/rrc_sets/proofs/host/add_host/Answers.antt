-- SPDX-License-Identifier: MIT
use Rattle.std.proofs.Common.{ℕ, List, ◌≡◌, ◌++◌, ◌<◌, ◌∷◌, [], length, true, false, rules, arith, ◌∙◌}
use Rattle.std.specs.List.{list_any}
use Rattle.rrc_name.specs.Wire.{same_name}
use Rattle.rrc_sets.proofs.Hosts.{same_name-laws, more, known, full}
use Rattle.rrc_sets.proofs.host.add_host.Goals as goal
use Rattle.rrc_sets.proofs.host.add_host.Goals.{then-len-most-via-then-len-most, then-len-most-via-else-len-most+then-has_host}

pub returns-then-len-most : goal.returns-then-len-most
returns-then-len-most c =
    let now : List (List ℕ) = c.args.hosts.now.items in let host : List ℕ = c.args.host.now in
    elim c.then-len-most.branch [
      | then-len-most-via-then-len-most w ↦ full same_name same_name-laws c.args.most now host c.requires (omega (arith, w.if-len-most.true, c.len.ensures))
      | then-len-most-via-else-len-most+then-has_host w ↦
          let is : list_any (λ other. same_name other host) now ≡ true = search rules in
          known same_name same_name-laws c.args.most now host c.requires is
    ]

pub returns : goal.returns
returns c =
    let now : List (List ℕ) = c.args.hosts.now.items in let host : List ℕ = c.args.host.now in
    let new : list_any (λ other. same_name other host) now ≡ false = search rules in
    let room : length now < c.args.most = omega (arith, c.if-len-most.false, c.len.ensures) in
    let pushed : c.push.new.self.items ≡ now ++ host ∷ [] = search rules in
    pushed ∙ more same_name same_name-laws c.args.most now host c.requires new room
