-- SPDX-License-Identifier: MIT
-- Octets that go out one part after another.
use Rattle.std.proofs.Common.{◌≡◌, ℕ, ◌+◌, ◌-◌, List, ◌++◌, length, take, drop, Option, Some, None, sym, ap, ◌∙◌, arith, append_assoc, length-drop}
use Rattle.std.proofs.Math.Seq.{take-add}
use Rattle.std.proofs.lemmas.List.{take_all}
use Rattle.std.specs.Io.KnownBytes.{Appends}

-- the first written octets went out, and then the next taken ones
pub Appends-more : (old middle new : Option (List ℕ)) (octets : List ℕ) (written taken : ℕ) → Appends old middle (take written octets)
    → Appends middle new (take taken (take (length octets - written) (drop written octets))) → Appends old new (take (written + taken) octets)
Appends-more None middle new octets written taken before then = tt
Appends-more (Some xs) None new octets written taken before then = absurd before
Appends-more (Some xs) (Some ys) None octets written taken before then = absurd then
Appends-more (Some xs) (Some ys) (Some zs) octets written taken before then =
    let rest : take (length octets - written) (drop written octets) ≡ drop written octets =
    take_all (length octets - written) (drop written octets) (omega (arith, length-drop written octets)) in
    let parts : take (written + taken) octets ≡ take written octets ++ take taken (drop written octets) = take-add written taken octets in
    then ∙ ap (λ front. front ++ take taken (take (length octets - written) (drop written octets))) before
    ∙ append_assoc xs (take written octets) (take taken (take (length octets - written) (drop written octets)))
    ∙ ap (λ o. xs ++ (take written octets ++ take taken o)) rest ∙ sym (ap (λ o. xs ++ o) parts)
