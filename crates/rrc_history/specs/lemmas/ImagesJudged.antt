-- SPDX-License-Identifier: MIT
-- Offers and asks made before they had a class are judged as their images are.
use Rattle.std.specs.Prelude.{◌≡◌, ℕ, List, Bool, true, false, ◌&&◌, nat_lt, if◌then◌else◌, Option, Some, None, map}
use Rattle.std.specs.Option.{option_map}
use Rattle.std.proofs.Common.{refl, ap, ◌∙◌}
use Rattle.rrc_name.specs.declared.slot.Slot.TheVariants.{Set, Nx, Failed}
use Rattle.rrc_name.specs.Images.{image_of as image_of_key}
use Rattle.rrc_history.specs.declared.ask.Mode.{Mode}
use Rattle.rrc_history.specs.declared.ask.Mode.TheVariants.{NoStale, Failed as AfterFailure, Now}
use Rattle.rrc_history.specs.declared.body.Body.{Body}
use Rattle.rrc_history.specs.declared.body.Body.TheVariants.{Positive, Negative, Failure}
use Rattle.rrc_history.specs.declared.event.Reply.{Reply}
use Rattle.rrc_history.specs.declared.event.Reply.TheVariants.{Miss}
use Rattle.rrc_history.specs.declared.classless.Event.{Event as Classless}
use Rattle.rrc_history.specs.declared.classless.Entry.{Entry as ClasslessEntry}
use Rattle.rrc_history.specs.declared.classless.Snapshot.{Snapshot}
use Rattle.rrc_history.specs.Judged.{verdict, verdict_by, later_governs, governing, is_before, recent_failure, retry_from, may_be_stale, may_serve, reply_of_living_set, reply_of_body, reply_of, or_miss, reply_by, is_miss, key_in, answering}
use Rattle.rrc_history.specs.Past.{held, found}
use Rattle.rrc_history.specs.Images.{image_of_event, image_of_snapshot, image_of_entry, image_of_offer, image_of_ask, image_of_found}
use Rattle.rrc_history.specs.ImageLaws.{ImageAnswersAlike}
use Rattle.rrc_history.specs.classless.Asked.{AskOf}
use Rattle.rrc_history.specs.classless.Fits.{OfferOf}
use Rattle.rrc_history.specs.classless.Lives.{age, is_unexpired}
use Rattle.rrc_history.specs.classless.Judged as judged
use Rattle.rrc_history.specs.classless.Past as former
use Rattle.rrc_history.specs.lemmas.ImagesFound.{image-held}

-- ---- offers

image-verdict_by : (held : Option ClasslessEntry) (offer : OfferOf) (body : Body)
    → verdict_by (option_map image_of_entry held) (image_of_offer offer) body ≡ judged.verdict_by held offer body
image-verdict_by None offer (Positive trust ttl owner items) = refl
image-verdict_by None offer (Negative trust ttl owner soa) = refl
image-verdict_by None offer (Failure ttl) = refl
image-verdict_by (Some entry) offer (Positive trust ttl owner items) = refl
image-verdict_by (Some entry) offer (Negative trust ttl owner soa) = refl
image-verdict_by (Some entry) offer (Failure ttl) = refl

pub image-verdict : (held : Option ClasslessEntry) (offer : OfferOf) → verdict (option_map image_of_entry held) (image_of_offer offer) ≡ judged.verdict held offer
image-verdict held offer = image-verdict_by held offer offer.body

-- ---- asks

image-later_governs : (later earlier : ClasslessEntry) (moment : ℕ)
    → later_governs (image_of_entry later) (image_of_entry earlier) moment ≡ image_of_entry (judged.later_governs later earlier moment)
image-later_governs later earlier moment = by (judged.outranks earlier moment later.body) refl
  where
    by : (higher : Bool) → judged.outranks earlier moment later.body ≡ higher
        → later_governs (image_of_entry later) (image_of_entry earlier) moment ≡ image_of_entry (judged.later_governs later earlier moment)
    by true is = rw is refl
    by false is = rw is refl

image-governing : (set nx : Option ClasslessEntry) (moment : ℕ)
    → governing (option_map image_of_entry set) (option_map image_of_entry nx) moment ≡ option_map image_of_entry (judged.governing set nx moment)
image-governing None nx moment = refl
image-governing (Some set) None moment = refl
image-governing (Some set) (Some nx) moment = by (nat_lt set.number nx.number) refl
  where
    by : (after : Bool) → nat_lt set.number nx.number ≡ after
        → governing (Some (image_of_entry set)) (Some (image_of_entry nx)) moment ≡ option_map image_of_entry (judged.governing (Some set) (Some nx) moment)
    by true is = rw is (ap Some (image-later_governs nx set moment))
    by false is = rw is (ap Some (image-later_governs set nx moment))

image-is_before : (held : Option ClasslessEntry) (entry : ClasslessEntry) → is_before (option_map image_of_entry held) (image_of_entry entry) ≡ judged.is_before held entry
image-is_before None entry = refl
image-is_before (Some other) entry = refl

image-recent_failure : (set nx failed : Option ClasslessEntry) (moment : ℕ)
    → recent_failure (image_of_found (record { set = set; nx = nx; failed = failed })) moment
    ≡ option_map image_of_entry (judged.recent_failure (record { set = set; nx = nx; failed = failed }) moment)
image-recent_failure set nx None moment = refl
image-recent_failure set nx (Some failure) moment =
    let before_set = image-is_before set failure in
    let before_nx = image-is_before nx failure in
    rw (before_set, before_nx) (by (is_recent) refl)
  where
    is_recent : Bool
    is_recent = is_unexpired failure moment && (judged.is_before set failure && judged.is_before nx failure)

    by : (recent : Bool) → is_recent ≡ recent
        → (if is_recent then Some (image_of_entry failure) else None) ≡ option_map image_of_entry (if is_recent then Some failure else None)
    by true is = rw is refl
    by false is = rw is refl

image-retry_from : (failure : Option ClasslessEntry) → retry_from (option_map image_of_entry failure) ≡ judged.retry_from failure
image-retry_from None = refl
image-retry_from (Some failure) = refl

image-may_be_stale : (mode : Mode) (failure : Option ClasslessEntry) → may_be_stale mode (option_map image_of_entry failure) ≡ judged.may_be_stale mode failure
image-may_be_stale NoStale failure = refl
image-may_be_stale Now failure = refl
image-may_be_stale AfterFailure None = refl
image-may_be_stale AfterFailure (Some failure) = refl

image-reply_of_body : (stale : ℕ) (entry : ClasslessEntry) (body : Body) (ask : AskOf) (failure : Option ClasslessEntry)
    → reply_of_body stale (image_of_entry entry) body (image_of_ask ask) (option_map image_of_entry failure) ≡ judged.reply_of_body stale entry body ask failure
image-reply_of_body stale entry (Positive trust ttl owner items) ask failure =
    ap (λ may. reply_of_living_set stale (record { owner = owner; items = items }) ttl (age entry ask.moment) may) (image-may_be_stale ask.mode failure)
image-reply_of_body stale entry (Negative trust ttl owner soa) ask failure = refl
image-reply_of_body stale entry (Failure ttl) ask failure = refl

image-reply_of : (stale : ℕ) (held failure : Option ClasslessEntry) (ask : AskOf)
    → reply_of stale (option_map image_of_entry held) (option_map image_of_entry failure) (image_of_ask ask) ≡ judged.reply_of stale held failure ask
image-reply_of stale None failure ask = refl
image-reply_of stale (Some entry) failure ask =
    ap (λ reply. if may_serve ask.purpose entry.body then reply else None) (image-reply_of_body stale entry entry.body ask failure)

image-or_miss : (reply : Option Reply) (failure : Option ClasslessEntry) → or_miss reply (option_map image_of_entry failure) ≡ judged.or_miss reply failure
image-or_miss None failure = ap Miss (image-retry_from failure)
image-or_miss (Some reply) failure = refl

pub image-reply_by : (stale : ℕ) (found : judged.Found) (ask : AskOf) → reply_by stale (image_of_found found) (image_of_ask ask) ≡ judged.reply_by stale found ask
image-reply_by stale found ask =
    let governs = image-governing found.set found.nx ask.moment in
    let failed = image-recent_failure found.set found.nx found.failed ask.moment in
    let failure = judged.recent_failure found ask.moment in
    let held = judged.governing found.set found.nx ask.moment in
    ap (λ f. or_miss (reply_of stale (governing (option_map image_of_entry found.set) (option_map image_of_entry found.nx) ask.moment) f (image_of_ask ask)) f) failed
    ∙ (ap (λ g. or_miss (reply_of stale g (option_map image_of_entry failure) (image_of_ask ask)) (option_map image_of_entry failure)) governs
    ∙ (ap (λ r. or_miss r (option_map image_of_entry failure)) (image-reply_of stale held failure ask)
    ∙ image-or_miss (judged.reply_of stale held failure ask) failure))

pub image-found : (snapshot : Snapshot) (past : List Classless) (ask : AskOf)
    → found (image_of_snapshot snapshot) (map image_of_event past) (image_of_ask ask) ≡ image_of_found (former.found snapshot past ask)
image-found snapshot past ask = λ i. record {
  set = image-held snapshot past (former.key_at ask (Set ask.rtype)) i;
  nx = image-held snapshot past (former.key_at ask Nx) i;
  failed = image-held snapshot past (former.key_at ask (Failed ask.rtype)) i;
}

-- an ask of class IN is answered after an image as it was before it had a class
pub image-reply_to : ImageAnswersAlike
image-reply_to snapshot past ask =
    ap (λ f. reply_by snapshot.rules.stale f (image_of_ask ask)) (image-found snapshot past ask) ∙ image-reply_by snapshot.rules.stale (former.found snapshot past ask) ask

-- ---- what gave an answer

pub image-key_in : (entry : Option ClasslessEntry) → key_in (option_map image_of_entry entry) ≡ option_map image_of_key (judged.key_in entry)
image-key_in None = refl
image-key_in (Some entry) = refl

pub image-answering : (found : judged.Found) (ask : AskOf) (reply : Reply)
    → answering (image_of_found found) (image_of_ask ask) reply ≡ option_map image_of_entry (judged.answering found ask reply)
image-answering found ask reply = by (is_miss reply) refl
  where
    by : (miss : Bool) → is_miss reply ≡ miss → answering (image_of_found found) (image_of_ask ask) reply ≡ option_map image_of_entry (judged.answering found ask reply)
    by true is = rw is refl
    by false is = rw is (image-governing found.set found.nx ask.moment)
