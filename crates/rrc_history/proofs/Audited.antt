-- SPDX-License-Identifier: MIT
-- An audit's test of an event decides whether it is right, and its count of keys goes on.
use Rattle.std.specs.Prelude.{◌≡◌, ℕ, ◌+◌, ◌-◌, ◌<◌, ◌≤◌, ◌^◌, List, [], ◌∷◌, ◌++◌, length, reverse, Bool, true, false, ◌&&◌, nat_lt, nat_le, Option}
use Rattle.std.specs.Bool.{Decides}
use Rattle.std.proofs.Common.{refl, sym, ap, subst, ◌∙◌, arith, take, drop, get_or}
use Rattle.std.proofs.lemmas.Bool.{and_from, and_parts}
use Rattle.std.proofs.lemmas.Bool.Decides.{nat_tests}
use Rattle.std.proofs.lemmas.List.{length-take-le}
use Rattle.rrc_name.specs.Key.{KeyOf}
use Rattle.rrc_history.specs.declared.event.Event.{Event}
use Rattle.rrc_history.specs.declared.event.Event.TheVariants.{Offered, Asked, Swept}
use Rattle.rrc_history.specs.declared.event.Outcome.{Outcome}
use Rattle.rrc_history.specs.declared.event.Reply.{Reply}
use Rattle.rrc_history.specs.declared.event.Tag.{Tag}
use Rattle.rrc_history.specs.declared.snapshot.Entry.{Entry}
use Rattle.rrc_history.specs.declared.snapshot.Snapshot.{Snapshot}
use Rattle.rrc_history.specs.Asked.{AskOf}
use Rattle.rrc_history.specs.Fits.{OfferOf}
use Rattle.rrc_history.specs.Judged.{verdict, answering, key_in}
use Rattle.rrc_history.specs.Lives.{LAST_MOMENT}
use Rattle.rrc_history.specs.Past.{held, entry_at, is_among, number_after, reply_to}
use Rattle.rrc_history.specs.Right.{evicted_by, is_swept, IsRightOffer, IsRightAsk, IsRightSweep, IsRightThen, IsRight, IsLegal}
use Rattle.rrc_history.specs.Entries.{AreApart, kept_after, found_among, answered_from, living}
use Rattle.rrc_history.specs.Sound.{AreSound}
use Rattle.rrc_history.specs.Auditing.{is_there, is_rightly_evicted, are_fully_expired, are_in_order, outcome_eq, reply_eq, is_right_offer, is_right_ask, is_right_sweep, is_right_then, is_right, present_after_offer, present_after, AreHeld}
use Rattle.rrc_history.specs.Audits.{IsFirstBad}
use Rattle.rrc_history.specs.lemmas.Apart.{falls_apart}
use Rattle.rrc_history.specs.lemmas.OneHistory.{one_contents}
use Rattle.rrc_history.specs.lemmas.OfferLaws.{offer_contents, length-kept_after}
use Rattle.rrc_history.specs.lemmas.AskLaws.{ask_contents}
use Rattle.rrc_history.specs.lemmas.SweepLaws.{sweep_contents}
use Rattle.rrc_history.specs.lemmas.Openings.{opening}
use Rattle.rrc_history.specs.lemmas.ReplyLaws.{outcome_eq-Decides, reply_eq-Decides}
use Rattle.rrc_history.proofs.Evicting.{evicts_Decides}
use Rattle.rrc_history.proofs.Removing.{in_order_Decides, expired_Decides}
use Rattle.rrc_history.proofs.Walking.{reverse_more, split_at}
use Rattle.rrc_history.proofs.Counting.{count-offer, count-answered, count-swept}

-- ---- numbers

le_by : (a b : ℕ) → nat_le a b ≡ true → a ≤ b
le_by a b h = grind (arith, nat_tests)

by_le : (a b : ℕ) → a ≤ b → nat_le a b ≡ true
by_le a b h = grind (arith, nat_tests)

lt_by : (a b : ℕ) → nat_lt a b ≡ true → a < b
lt_by a b h = grind (arith, nat_tests)

by_lt : (a b : ℕ) → a < b → nat_lt a b ≡ true
by_lt a b h = grind (arith, nat_tests)

-- ---- one event

offer_Decides : (snapshot : Snapshot) (events : List Event) (present : ℕ) (offer : OfferOf) (outcome : Outcome) (evicted : Option KeyOf) → AreHeld snapshot (reverse events) present
    → Decides (is_right_offer snapshot (reverse events) events present offer outcome evicted) (IsRightOffer snapshot (reverse events) offer outcome evicted)
offer_Decides snapshot events present offer outcome evicted are = (to, from)
  where
    before : Option Entry
    before = held snapshot (reverse events) offer.key

    judged : Bool
    judged = outcome_eq outcome (verdict before offer)

    went : Bool
    went = is_rightly_evicted snapshot (reverse events) events present outcome (is_there before) evicted

    decides : Decides went (evicted ≡ evicted_by snapshot.rules.capacity are.entries before outcome)
    decides =
        let P : ℕ → Type 0 = λ n.
        Decides (is_rightly_evicted snapshot (reverse events) events n outcome (is_there before) evicted) (evicted ≡ evicted_by snapshot.rules.capacity are.entries before outcome) in
        subst P are.count (evicts_Decides snapshot events are.entries are.contents before outcome evicted)

    to : is_right_offer snapshot (reverse events) events present offer outcome evicted ≡ true → IsRightOffer snapshot (reverse events) offer outcome evicted
    to h =
        let a = and_parts (nat_le offer.moment LAST_MOMENT) (judged && went) h in
        let b = and_parts judged went a.1 in
        record {
          timely = le_by offer.moment LAST_MOMENT a.0;
          judged = (outcome_eq-Decides outcome (verdict before offer)).0 b.0;
          entries = are.entries;
          contents = are.contents;
          evicts = decides.0 b.1;
        }

    from : IsRightOffer snapshot (reverse events) offer outcome evicted → is_right_offer snapshot (reverse events) events present offer outcome evicted ≡ true
    from right =
        let one : right.entries ≡ are.entries = one_contents snapshot (reverse events) right.entries are.entries right.contents are.contents in
        let evicts : evicted ≡ evicted_by snapshot.rules.capacity are.entries before outcome =
        right.evicts ∙ ap (λ (es : List Entry). evicted_by snapshot.rules.capacity es before outcome) one in
        and_from (nat_le offer.moment LAST_MOMENT) (judged && went) (by_le offer.moment LAST_MOMENT right.timely)
        (and_from judged went ((outcome_eq-Decides outcome (verdict before offer)).1 right.judged) (decides.1 evicts))

ask_Decides : (snapshot : Snapshot) (past : List Event) (ask : AskOf) (reply : Reply) → Decides (is_right_ask snapshot past ask reply) (IsRightAsk snapshot past ask reply)
ask_Decides snapshot past ask reply = (to, from)
  where
    to : is_right_ask snapshot past ask reply ≡ true → IsRightAsk snapshot past ask reply
    to h =
        let a = and_parts (nat_le ask.moment LAST_MOMENT) (reply_eq (reply_to snapshot past ask) reply) h in
        record { timely = le_by ask.moment LAST_MOMENT a.0; answered = sym ((reply_eq-Decides (reply_to snapshot past ask) reply).0 a.1) }

    from : IsRightAsk snapshot past ask reply → is_right_ask snapshot past ask reply ≡ true
    from right =
        and_from (nat_le ask.moment LAST_MOMENT) (reply_eq (reply_to snapshot past ask) reply) (by_le ask.moment LAST_MOMENT right.timely)
        ((reply_eq-Decides (reply_to snapshot past ask) reply).1 (sym right.answered))

sweep_Decides : (snapshot : Snapshot) (events : List Event) (moment : ℕ) (gone : List KeyOf)
    → Decides (is_right_sweep snapshot (reverse events) events moment gone) (IsRightSweep snapshot (reverse events) moment gone)
sweep_Decides snapshot events moment gone = (to, from)
  where
    dead : Bool
    dead = are_fully_expired snapshot (reverse events) events moment gone

    to : is_right_sweep snapshot (reverse events) events moment gone ≡ true → IsRightSweep snapshot (reverse events) moment gone
    to h =
        let a = and_parts (nat_le moment LAST_MOMENT) (are_in_order gone && dead) h in
        let b = and_parts (are_in_order gone) dead a.1 in
        record { timely = le_by moment LAST_MOMENT a.0; sorted = (in_order_Decides gone).0 b.0; expired = (expired_Decides snapshot events moment gone).0 b.1 }

    from : IsRightSweep snapshot (reverse events) moment gone → is_right_sweep snapshot (reverse events) events moment gone ≡ true
    from right =
        and_from (nat_le moment LAST_MOMENT) (are_in_order gone && dead) (by_le moment LAST_MOMENT right.timely)
        (and_from (are_in_order gone) dead ((in_order_Decides gone).1 right.sorted) ((expired_Decides snapshot events moment gone).1 right.expired))

then_Decides : (snapshot : Snapshot) (events : List Event) (present : ℕ) (event : Event) → AreHeld snapshot (reverse events) present
    → Decides (is_right_then snapshot (reverse events) events present event) (IsRightThen snapshot (reverse events) event)
then_Decides snapshot events present (Offered outcome tag offer evicted) are = offer_Decides snapshot events present offer outcome evicted are
then_Decides snapshot events present (Asked tag ask reply) are = ask_Decides snapshot (reverse events) ask reply
then_Decides snapshot events present (Swept tag moment gone) are = sweep_Decides snapshot events moment gone

pub right_Decides : (snapshot : Snapshot) (events : List Event) (present : ℕ) (event : Event) → AreHeld snapshot (reverse events) present
    → Decides (is_right snapshot (reverse events) events present event) (IsRight snapshot (reverse events) event)
right_Decides snapshot events present event are = (to, from)
  where
    number : ℕ
    number = number_after snapshot (reverse events)

    right : Bool
    right = is_right_then snapshot (reverse events) events present event

    to : is_right snapshot (reverse events) events present event ≡ true → IsRight snapshot (reverse events) event
    to h =
        let a = and_parts (nat_lt number (2 ^ 62)) right h in
        record { numbered = lt_by number (2 ^ 62) a.0; right = (then_Decides snapshot events present event are).0 a.1 }

    from : IsRight snapshot (reverse events) event → is_right snapshot (reverse events) events present event ≡ true
    from is = and_from (nat_lt number (2 ^ 62)) right (by_lt number (2 ^ 62) is.numbered) ((then_Decides snapshot events present event are).1 is.right)

-- ---- the count of keys

-- a snapshot's keys are held before the first event
pub held_first : (snapshot : Snapshot) → AreSound snapshot.rules.capacity snapshot.first snapshot.entries → AreHeld snapshot [] (length snapshot.entries)
held_first snapshot sound = record { entries = snapshot.entries; contents = (opening snapshot sound).contents; count = refl; few = sound.few }

offer_held : (snapshot : Snapshot) (past : List Event) (present : ℕ) (tag : Tag) (offer : OfferOf) (outcome : Outcome) (evicted : Option KeyOf) → AreHeld snapshot past present
    → IsRightOffer snapshot past offer outcome evicted
    → AreHeld snapshot (Offered outcome tag offer evicted ∷ past) (present_after snapshot past (Offered outcome tag offer evicted) present)
offer_held snapshot past present tag offer outcome evicted are right = record {
  entries = left;
  contents = offer_contents snapshot past tag offer outcome evicted are.entries are.contents;
  count = subst (λ (n : ℕ). length left ≡ present_after_offer outcome (is_there (held snapshot past offer.key)) (is_there evicted) n) are.count
      (count-offer snapshot.rules.capacity (number_after snapshot past) offer outcome (held snapshot past offer.key) evicted are.entries apart (are.contents.agree offer.key) evicts);
  few = subst (λ (e : Option KeyOf). length (kept_after outcome offer (number_after snapshot past) e are.entries) ≤ snapshot.rules.capacity) (sym evicts)
      (length-kept_after snapshot.rules.capacity (held snapshot past offer.key) outcome offer (number_after snapshot past) are.entries snapshot.rules.some_capacity are.few
      (are.contents.agree offer.key));
}
  where
    left : List Entry
    left = kept_after outcome offer (number_after snapshot past) evicted are.entries

    apart : AreApart are.entries
    apart = falls_apart snapshot past (number_after snapshot past) are.entries are.contents.falling

    evicts : evicted ≡ evicted_by snapshot.rules.capacity are.entries (held snapshot past offer.key) outcome
    evicts =
        let one : right.entries ≡ are.entries = one_contents snapshot past right.entries are.entries right.contents are.contents in
        right.evicts ∙ ap (λ (es : List Entry). evicted_by snapshot.rules.capacity es (held snapshot past offer.key) outcome) one

ask_held : (snapshot : Snapshot) (past : List Event) (present : ℕ) (tag : Tag) (ask : AskOf) (reply : Reply) → AreHeld snapshot past present
    → AreHeld snapshot (Asked tag ask reply ∷ past) present
ask_held snapshot past present tag ask reply are =
    let key : Option KeyOf = key_in (answering (found_among are.entries ask) ask reply) in
    let same : length (answered_from key are.entries) ≡ length are.entries =
    count-answered key are.entries (falls_apart snapshot past (number_after snapshot past) are.entries are.contents.falling) in
    record {
      entries = answered_from key are.entries;
      contents = ask_contents snapshot past tag ask reply are.entries are.contents;
      count = same ∙ are.count;
      few = subst (λ (n : ℕ). n ≤ snapshot.rules.capacity) (sym same) are.few;
    }

fewer : (a b c d : ℕ) → a ≡ b - c → b ≤ d → a ≤ d
fewer a b c d is le = omega (arith, is, le)

sweep_held : (snapshot : Snapshot) (past : List Event) (present : ℕ) (tag : Tag) (moment : ℕ) (gone : List KeyOf) → AreHeld snapshot past present → IsRightSweep snapshot past moment gone
    → AreHeld snapshot (Swept tag moment gone ∷ past) (present_after snapshot past (Swept tag moment gone) present)
sweep_held snapshot past present tag moment gone are right = record {
  entries = living snapshot.rules.stale moment are.entries;
  contents = sweep_contents snapshot past tag moment gone are.entries are.contents apart dead;
  count = count ∙ ap (λ (n : ℕ). n - length gone) are.count;
  few = fewer (length (living snapshot.rules.stale moment are.entries)) (length are.entries) (length gone) snapshot.rules.capacity count are.few;
}
  where
    apart : AreApart are.entries
    apart = falls_apart snapshot past (number_after snapshot past) are.entries are.contents.falling

    dead : (key : KeyOf) → is_among key gone ≡ is_swept snapshot.rules.stale (entry_at key are.entries) moment
    dead key = right.expired key ∙ ap (λ (before : Option Entry). is_swept snapshot.rules.stale before moment) (sym (are.contents.agree key))

    count : length (living snapshot.rules.stale moment are.entries) ≡ length are.entries - length gone
    count = count-swept snapshot.rules.stale moment gone are.entries apart right.sorted dead

pub held_next : (snapshot : Snapshot) (past : List Event) (present : ℕ) (event : Event) → AreHeld snapshot past present → IsRight snapshot past event
    → AreHeld snapshot (event ∷ past) (present_after snapshot past event present)
held_next snapshot past present (Offered outcome tag offer evicted) are is = offer_held snapshot past present tag offer outcome evicted are is.right
held_next snapshot past present (Asked tag ask reply) are is = ask_held snapshot past present tag ask reply are
held_next snapshot past present (Swept tag moment gone) are is = sweep_held snapshot past present tag moment gone are is.right

-- ---- the events one by one

-- the events before a place are legal, and leave so many keys held
pub record IsAudited (snapshot : Snapshot) (past : List Event) (present : ℕ) : Type 0 where
  pub legal : IsLegal snapshot past
  pub are : AreHeld snapshot past present

pub audited_first : (snapshot : Snapshot) (entries : List Entry) (present : ℕ) → AreSound snapshot.rules.capacity snapshot.first snapshot.entries → entries ≡ snapshot.entries
    → present ≡ length entries → IsAudited snapshot [] present
audited_first snapshot entries present sound same is =
    record { legal = tt; are = subst (λ (n : ℕ). AreHeld snapshot [] n) (sym (is ∙ ap length same)) (held_first snapshot sound) }

pub audited_more : (snapshot : Snapshot) (events : List Event) (i : ℕ) (event : Event) (present next : ℕ) → i < length events → event ≡ get_or events i event
    → IsAudited snapshot (reverse (take i events)) present → is_right snapshot (reverse (take i events)) (take i events) present event ≡ true
    → next ≡ present_after snapshot (reverse (take i events)) event present → IsAudited snapshot (reverse (take (i + 1) events)) next
audited_more snapshot events i event present next less is audited passes now =
    let past : List Event = reverse (take i events) in
    let right : IsRight snapshot past event = (right_Decides snapshot (take i events) present event audited.are).0 passes in
    let more : event ∷ past ≡ reverse (take (i + 1) events) = ap (λ e. e ∷ past) is ∙ sym (reverse_more events i event less) in
    let there : AreHeld snapshot (event ∷ past) next = subst (λ (n : ℕ). AreHeld snapshot (event ∷ past) n) (sym now) (held_next snapshot past present event audited.are right) in
    subst (λ (es : List Event). IsAudited snapshot es next) more (record { legal = (right, audited.legal); are = there })

pub first_bad : (snapshot : Snapshot) (events : List Event) (i : ℕ) (event : Event) (present : ℕ) → i < length events → event ≡ get_or events i event
    → IsAudited snapshot (reverse (take i events)) present → is_right snapshot (reverse (take i events)) (take i events) present event ≡ false → IsFirstBad snapshot events i
first_bad snapshot events i event present less is audited fails = record {
  before = take i events;
  event = event;
  behind = drop (i + 1) events;
  are = split_at events i event less ∙ ap (λ e. take i events ++ e ∷ drop (i + 1) events) (sym is);
  at = length-take-le i events (omega (arith, less));
  legal = audited.legal;
  bad = λ right. absurd (both (sym fails ∙ (right_Decides snapshot (take i events) present event audited.are).1 right));
}
  where
    both : false ≡ true → ⊥
    both h = cc
