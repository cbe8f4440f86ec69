-- SPDX-License-Identifier: MIT
-- Whether a call wrote just the event that is told, by its parts.
use Rattle.std.specs.Bool.{Decides}
use Rattle.std.specs.Prelude.{◌≡◌, ℕ, ◌&&◌, List, Bool, true, Option, Some, None}
use Rattle.std.specs.Cmp.Lexicographic.{pointwise}
use Rattle.std.proofs.Common.{refl, sym, ap, ◌∙◌}
use Rattle.std.proofs.lemmas.Bool.{and_from, and_parts}
use Rattle.std.proofs.lemmas.Slice.Eq.{slice_eq-Decides}
use Rattle.rrc_name.specs.Key.{KeyOf, key_eq}
use Rattle.rrc_name.specs.lemmas.KeyLaws.{key_eq-laws, key_eq-same}
use Rattle.rrc_history.specs.declared.event.Event.TheVariants.{Offered, Asked, Swept}
use Rattle.rrc_history.specs.declared.event.Outcome.{Outcome}
use Rattle.rrc_history.specs.declared.event.Reply.{Reply}
use Rattle.rrc_history.specs.declared.event.Tag.{Tag}
use Rattle.rrc_history.specs.Asked.{AskOf}
use Rattle.rrc_history.specs.Auditing.{outcome_eq, reply_eq}
use Rattle.rrc_history.specs.Fits.{OfferOf}
use Rattle.rrc_history.specs.lemmas.ReplyLaws.{decides_by, outcome_eq-Decides, reply_eq-Decides}
use Rattle.rrc_cache.specs.Calls.{evicted_eq}

key_eq-Decides : (key other : KeyOf) → Decides (key_eq key other) (key ≡ other)
key_eq-Decides = decides_by key_eq key_eq-laws.refl key_eq-same

evicted_eq-Decides : (evicted other : Option KeyOf) → Decides (evicted_eq evicted other) (evicted ≡ other)
evicted_eq-Decides = decides_by evicted_eq itself same
  where
    itself : (evicted : Option KeyOf) → evicted_eq evicted evicted ≡ true
    itself None = refl
    itself (Some key) = key_eq-laws.refl key

    same : (evicted other : Option KeyOf) → evicted_eq evicted other ≡ true → evicted ≡ other
    same None None h = refl
    same (Some key) (Some other) h = ap Some (key_eq-same key other h)
    same None (Some other) h = absurd cc
    same (Some key) None h = absurd cc

pub offer_told : (tag : Tag) (offer : OfferOf) (became outcome : Outcome) (went evicted : Option KeyOf) (same : Bool) → same ≡ (outcome_eq became outcome && evicted_eq went evicted)
    → Decides same (Offered became tag offer went ≡ Offered outcome tag offer evicted)
offer_told tag offer became outcome went evicted same is = (to, from)
  where
    to : same ≡ true → Offered became tag offer went ≡ Offered outcome tag offer evicted
    to h =
        let both = and_parts (outcome_eq became outcome) (evicted_eq went evicted) (sym is ∙ h) in
        λ i. Offered ((outcome_eq-Decides became outcome).0 both.0 i) tag offer ((evicted_eq-Decides went evicted).0 both.1 i)

    from : Offered became tag offer went ≡ Offered outcome tag offer evicted → same ≡ true
    from e =
        let became_it : became ≡ outcome = cc in
        let went_it : went ≡ evicted = cc in
        is
        ∙ and_from (outcome_eq became outcome) (evicted_eq went evicted) ((outcome_eq-Decides became outcome).1 became_it) ((evicted_eq-Decides went evicted).1 went_it)

pub ask_told : (tag : Tag) (ask : AskOf) (answer reply : Reply) (same : Bool) → same ≡ reply_eq answer reply → Decides same (Asked tag ask answer ≡ Asked tag ask reply)
ask_told tag ask answer reply same is = (
  λ h. ap (Asked tag ask) ((reply_eq-Decides answer reply).0 (sym is ∙ h)),
  λ e. let one : answer ≡ reply = cc in is ∙ (reply_eq-Decides answer reply).1 one,
)

pub sweep_told : (tag : Tag) (moment : ℕ) (dead gone : List KeyOf) (same : Bool) → same ≡ pointwise key_eq dead gone
    → Decides same (Swept tag moment dead ≡ Swept tag moment gone)
sweep_told tag moment dead gone same is =
    let decides = slice_eq-Decides key_eq-Decides dead gone same is in
    (λ h. ap (Swept tag moment) (decides.0 h), λ e. let one : dead ≡ gone = cc in decides.1 one)
