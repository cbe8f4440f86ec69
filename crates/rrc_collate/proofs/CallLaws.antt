-- SPDX-License-Identifier: MIT
-- calls that are the same are one
use Rattle.std.proofs.Common.{◌≡◌, Bool, true, ◌&&◌, refl, sym, ap, subst}
use Rattle.std.specs.Prelude.{◌==◌, nat_eq}
use Rattle.std.specs.Bool.{Decides}
use Rattle.std.specs.Cmp.Lexicographic.{pointwise, bytes_decides}
use Rattle.std.proofs.lemmas.Bool.{and_parts, and_from}
use Rattle.std.proofs.lemmas.Bool.Decides.{Decides-eqb}
use Rattle.rrc_name.specs.Key.{key_eq}
use Rattle.rrc_name.specs.lemmas.KeyLaws.{key_eq-laws, key_eq-same}
use Rattle.rrc_history.specs.declared.ask.Purpose.{Purpose}
use Rattle.rrc_history.specs.declared.ask.Purpose.TheVariants.{Any, Answer}
use Rattle.rrc_history.specs.declared.ask.Mode.{Mode}
use Rattle.rrc_history.specs.declared.ask.Mode.TheVariants.{NoStale, Failed, Now}
use Rattle.rrc_history.specs.Asked.{AskOf}
use Rattle.rrc_history.specs.Fits.{OfferOf}
use Rattle.rrc_history.specs.Equality.{body_eq}
use Rattle.rrc_history.specs.lemmas.EqualityLaws.{body_eq-Decides}
use Rattle.rrc_collate.specs.declared.script.Call.{Call}
use Rattle.rrc_collate.specs.declared.script.Call.TheVariants.{Offer, Ask, Sweep}
use Rattle.rrc_collate.specs.SameCalls.{purpose_eq, mode_eq, offer_eq, ask_eq, call_eq}

purpose_eq-itself : (purpose : Purpose) → purpose_eq purpose purpose ≡ true
purpose_eq-itself Any = refl
purpose_eq-itself Answer = refl

purpose_eq-same : (purpose other : Purpose) → purpose_eq purpose other ≡ true → purpose ≡ other
purpose_eq-same Any Any h = refl
purpose_eq-same Any Answer h = absurd cc
purpose_eq-same Answer Any h = absurd cc
purpose_eq-same Answer Answer h = refl

mode_eq-itself : (mode : Mode) → mode_eq mode mode ≡ true
mode_eq-itself NoStale = refl
mode_eq-itself Failed = refl
mode_eq-itself Now = refl

mode_eq-same : (mode other : Mode) → mode_eq mode other ≡ true → mode ≡ other
mode_eq-same NoStale NoStale h = refl
mode_eq-same NoStale Failed h = absurd cc
mode_eq-same NoStale Now h = absurd cc
mode_eq-same Failed NoStale h = absurd cc
mode_eq-same Failed Failed h = refl
mode_eq-same Failed Now h = absurd cc
mode_eq-same Now NoStale h = absurd cc
mode_eq-same Now Failed h = absurd cc
mode_eq-same Now Now h = refl

offer_eq-itself : (offer : OfferOf) → offer_eq offer offer ≡ true
offer_eq-itself o =
    and_from (o.moment == o.moment) (key_eq o.key o.key && body_eq o.body o.body) ((Decides-eqb o.moment o.moment).1 refl)
    (and_from (key_eq o.key o.key) (body_eq o.body o.body) (key_eq-laws.refl o.key) ((body_eq-Decides o.body o.body).1 refl))

offer_eq-same : (offer other : OfferOf) → offer_eq offer other ≡ true → offer ≡ other
offer_eq-same o p h =
    let a = and_parts (o.moment == p.moment) (key_eq o.key p.key && body_eq o.body p.body) h in
    let b = and_parts (key_eq o.key p.key) (body_eq o.body p.body) a.1 in
    λ i. record {
      key = key_eq-same o.key p.key b.0 i;
      body = (body_eq-Decides o.body p.body).0 b.1 i;
      moment = (Decides-eqb o.moment p.moment).0 a.0 i;
    }

ask_eq-itself : (ask : AskOf) → ask_eq ask ask ≡ true
ask_eq-itself a =
    let behind = a.rtype == a.rtype && (purpose_eq a.purpose a.purpose && (mode_eq a.mode a.mode && pointwise nat_eq a.name a.name)) in
    and_from (a.moment == a.moment) (a.class == a.class && behind) ((Decides-eqb a.moment a.moment).1 refl)
    (and_from (a.class == a.class) behind ((Decides-eqb a.class a.class).1 refl)
    (and_from (a.rtype == a.rtype) (purpose_eq a.purpose a.purpose && (mode_eq a.mode a.mode && pointwise nat_eq a.name a.name)) ((Decides-eqb a.rtype a.rtype).1 refl)
    (and_from (purpose_eq a.purpose a.purpose) (mode_eq a.mode a.mode && pointwise nat_eq a.name a.name) (purpose_eq-itself a.purpose)
    (and_from (mode_eq a.mode a.mode) (pointwise nat_eq a.name a.name) (mode_eq-itself a.mode) ((bytes_decides a.name a.name).1 refl)))))

ask_eq-same : (ask other : AskOf) → ask_eq ask other ≡ true → ask ≡ other
ask_eq-same a b h =
    let behind = a.rtype == b.rtype && (purpose_eq a.purpose b.purpose && (mode_eq a.mode b.mode && pointwise nat_eq a.name b.name)) in
    let p = and_parts (a.moment == b.moment) (a.class == b.class && behind) h in
    let c = and_parts (a.class == b.class) behind p.1 in
    let q = and_parts (a.rtype == b.rtype) (purpose_eq a.purpose b.purpose && (mode_eq a.mode b.mode && pointwise nat_eq a.name b.name)) c.1 in
    let r = and_parts (purpose_eq a.purpose b.purpose) (mode_eq a.mode b.mode && pointwise nat_eq a.name b.name) q.1 in
    let s = and_parts (mode_eq a.mode b.mode) (pointwise nat_eq a.name b.name) r.1 in
    λ i. record {
      name = (bytes_decides a.name b.name).0 s.1 i;
      class = (Decides-eqb a.class b.class).0 c.0 i;
      rtype = (Decides-eqb a.rtype b.rtype).0 q.0 i;
      moment = (Decides-eqb a.moment b.moment).0 p.0 i;
      purpose = purpose_eq-same a.purpose b.purpose r.0 i;
      mode = mode_eq-same a.mode b.mode s.0 i;
    }

call_eq-itself : (call : Call) → call_eq call call ≡ true
call_eq-itself (Offer offer) = offer_eq-itself offer
call_eq-itself (Ask ask) = ask_eq-itself ask
call_eq-itself (Sweep moment) = (Decides-eqb moment moment).1 refl

call_eq-same : (call other : Call) → call_eq call other ≡ true → call ≡ other
call_eq-same (Offer offer) (Offer other) h = ap Offer (offer_eq-same offer other h)
call_eq-same (Offer offer) (Ask other) h = absurd cc
call_eq-same (Offer offer) (Sweep other) h = absurd cc
call_eq-same (Ask ask) (Offer other) h = absurd cc
call_eq-same (Ask ask) (Ask other) h = ap Ask (ask_eq-same ask other h)
call_eq-same (Ask ask) (Sweep other) h = absurd cc
call_eq-same (Sweep moment) (Offer other) h = absurd cc
call_eq-same (Sweep moment) (Ask other) h = absurd cc
call_eq-same (Sweep moment) (Sweep other) h = ap Sweep ((Decides-eqb moment other).0 h)

-- a test whose answer is that of `call_eq` decides whether two calls are one
pub call_eq-Decides : (call other : Call) (answer : Bool) → answer ≡ call_eq call other → Decides answer (call ≡ other)
call_eq-Decides call other answer same = (
  λ holds. call_eq-same call other (subst (λ b. b ≡ true) same holds),
  λ e. subst (λ b. b ≡ true) (sym same) (subst (λ c. call_eq call c ≡ true) e (call_eq-itself call)),
)
