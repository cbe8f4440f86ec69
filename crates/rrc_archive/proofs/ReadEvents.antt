-- SPDX-License-Identifier: MIT
-- The entries and events of an archive are read as they are written.
use Rattle.std.proofs.Common.{◌≡◌, ◌≢◌, ◌==◌, ◌<◌, ◌≤◌, ◌+◌, ◌^◌, ℕ, zero, suc, List, [], ◌∷◌, ◌++◌, length, Option, Some, None, Bool, true, false, cond, option_map, is_some, refl, sym, ap, subst, ◌∙◌, arith, inl, inr, append_assoc, append-nil, length-append, decimal, codes}
use Rattle.std.specs.List.{AllByRecursion}
use Rattle.std.proofs.lemmas.Bool.{eqb-false}
use Rattle.hex.specs.Hex.{IsBytes}
use Rattle.rrc_name.specs.Wire.{IsWireForm}
use Rattle.rrc_name.specs.Text.{text_of}
use Rattle.rrc_name.specs.Key.{KeyOf}
use Rattle.rrc_name.specs.declared.slot.Slot.TheVariants.{Set}
use Rattle.rrc_history.specs.Asked.{AskOf}
use Rattle.rrc_history.specs.Fits.{OfferOf}
use Rattle.rrc_history.specs.Lives.{rank}
use Rattle.rrc_history.specs.declared.ask.Mode.{Mode}
use Rattle.rrc_history.specs.declared.ask.Mode.TheVariants.{NoStale, Failed, Now}
use Rattle.rrc_history.specs.declared.ask.Purpose.{Purpose}
use Rattle.rrc_history.specs.declared.ask.Purpose.TheVariants.{Any, Answer}
use Rattle.rrc_history.specs.declared.body.Body.{Body}
use Rattle.rrc_history.specs.declared.body.Body.TheVariants.{Positive, Negative, Failure}
use Rattle.rrc_history.specs.declared.body.Trust.{Trust}
use Rattle.rrc_history.specs.declared.event.Event.{Event}
use Rattle.rrc_history.specs.declared.event.Event.TheVariants.{Offered, Asked, Swept}
use Rattle.rrc_history.specs.declared.event.Outcome.{Outcome}
use Rattle.rrc_history.specs.declared.event.Outcome.TheVariants.{Kept, Cleared, LessTrusted}
use Rattle.rrc_history.specs.declared.event.Reply.{Reply}
use Rattle.rrc_history.specs.declared.event.Reply.TheVariants.{Fresh, Stale, NoData, NxDomain, Miss}
use Rattle.rrc_history.specs.declared.event.RrSet.{RrSet}
use Rattle.rrc_history.specs.declared.event.Soa.{Soa}
use Rattle.rrc_history.specs.declared.event.Tag.{Tag}
use Rattle.rrc_history.specs.declared.snapshot.Entry.{Entry}
use Rattle.rrc_text.specs.declared.kind.Kind.{Kind}
use Rattle.rrc_text.specs.Gives.{◌>>=◌}
use Rattle.rrc_text.specs.Grammar.{StandsApart, purpose_word, mode_word}
use Rattle.rrc_text.specs.Fields.{field_in_front, first_unspaced, field_at, has_field, said_at}
use Rattle.rrc_text.specs.Names.{name_of}
use Rattle.rrc_text.specs.Numbers.{ttl_of, kind_of, trust_of}
use Rattle.rrc_text.specs.Octets.{octets_of}
use Rattle.rrc_text.specs.Words.{purpose_of, mode_of}
use Rattle.rrc_text.specs.Replies.{item_text, items_text, slot_text, class_text, outcome_text, set_text, soa_text, reply_text}
use Rattle.rrc_archive.specs.Archive.{key_fields, tag_fields, body_fields, keys_fields, evicted_fields}
use Rattle.rrc_archive.specs.ArchiveFields.{count_of, slot_and_class_of, key_at, data_of, source_at, positive_at, negative_at, failure_at, body_at, set_of, soa_of, miss_of, reply_as, reply_of, tag_at, outcome_of, offer_at, evicted_of, offered_of, asked_of, with_key, keys_behind, keys_of, swept_of, entry_of}
use Rattle.rrc_archive.specs.ArchiveFits.{FitsKey, FitsSet, FitsSoa, FitsBody, FitsEntry, FitsReply, FitsEvicted, FitsOffer, FitsAsk, FitsEvent}
use Rattle.rrc_archive.specs.ArchiveLaw.{IsNumber, HoldsTag}
use Rattle.rrc_text.proofs.SaidLemmas.{said_first}
use Rattle.rrc_text.proofs.FieldLemmas.{field_at-of}
use Rattle.rrc_archive.proofs.ReadFields.{Reads, counts, ttls, trusts, names, kind_text, kinds, types, soas, sets}

-- one thing is said, and what follows from it
pub then_said : {A B : Type 0} (said : Option A) (next : A → Option B) (found : A) (value : B) → said ≡ Some found → next found ≡ Some value
    → said >>= next ≡ Some value
then_said {A} said next found value is more = ap (λ (o : Option A). o >>= next) is ∙ more

module _ {X : Type 0} (at : List ℕ → Option (X × List ℕ)) (text : X → List ℕ) (Fits : X → Type 0) (reads : Reads at text Fits) where
  -- a value, and more behind a space
  pub ahead : (value : X) (rest : List ℕ) → Fits value → at (32 ∷ (text value ++ (32 ∷ rest))) ≡ Some (value, 32 ∷ rest)
  ahead value rest fit = reads.back value (32 ∷ rest) fit (inr (rest, refl))

  -- a value of several, and what stands apart behind them
  first : (value : X) (rest behind : List ℕ) → Fits value → at (32 ∷ ((text value ++ (32 ∷ rest)) ++ behind)) ≡ Some (value, 32 ∷ (rest ++ behind))
  first value rest behind fit = ap (λ (o : List ℕ). at (32 ∷ o)) (append_assoc (text value) (32 ∷ rest) behind) ∙ ahead value (rest ++ behind) fit

  -- a value at the end
  pub last : (value : X) → Fits value → at (32 ∷ text value) ≡ Some (value, [])
  last value fit = ap (λ (o : List ℕ). at (32 ∷ o)) (sym (append-nil (text value))) ∙ reads.back value [] fit (inl refl)

abbrev pub is_unspaced : List ℕ → Bool
is_unspaced [] = true
is_unspaced (octet ∷ octets) = cond (octet == 32) false (is_unspaced octets)

unspaced : (word : List ℕ) → is_unspaced word ≡ true → AllByRecursion (λ octet. octet ≢ 32) word
unspaced [] is = tt
unspaced (octet ∷ octets) is = by (unspaced octets) (octet == 32) refl is
  where
    by : (is_unspaced octets ≡ true → AllByRecursion (λ octet. octet ≢ 32) octets) → (space : Bool) → (octet == 32) ≡ space
        → cond space false (is_unspaced octets) ≡ true → AllByRecursion (λ octet. octet ≢ 32) (octet ∷ octets)
    by later true space is = absurd cc
    by later false other is = (λ e. eqb-false octet 32 other e, later is)

-- a word behind a space
pub word-found : (word rest : List ℕ) → 1 ≤ length word → is_unspaced word ≡ true → StandsApart rest → field_at (32 ∷ (word ++ rest)) ≡ Some (word, rest)
word-found word rest some is apart = field_at-of (32 ∷ []) word rest (refl, tt) (record { some = some; unspaced = unspaced word is }) apart

-- a word at the begin of a line
pub word-first : (word rest : List ℕ) → 1 ≤ length word → is_unspaced word ≡ true → StandsApart rest → field_at (word ++ rest) ≡ Some (word, rest)
word-first word rest some is apart = field_at-of [] word rest tt (record { some = some; unspaced = unspaced word is }) apart

word-said : {X : Type 0} (said : List ℕ → Option X) (word behind : List ℕ) (value : X) → 1 ≤ length word → is_unspaced word ≡ true → said word ≡ Some value
    → StandsApart behind → said_at said (32 ∷ (word ++ behind)) ≡ Some (value, behind)
word-said said word behind value some is says apart = rw (word-found word behind some is apart, says) refl

has-found : (octets : List ℕ) (found : List ℕ × List ℕ) → field_at octets ≡ Some found → has_field octets ≡ true
has-found octets found is = by (first_unspaced octets) is
  where
    by : (place : Option ℕ) → option_map (λ start. field_in_front (Rattle.std.proofs.Common.drop start octets)) place ≡ Some found → is_some place ≡ true
    by None is = absurd cc
    by (Some place) is = refl

has-said : {X : Type 0} (said : List ℕ → Option X) (octets : List ℕ) (value : X × List ℕ) → said_at said octets ≡ Some value → has_field octets ≡ true
has-said said octets value is = let found = said_first (field_at octets) _ value is in has-found octets found.0 found.1.0

key-read : (key : KeyOf) (behind : List ℕ) → FitsKey key → StandsApart behind → key_at (32 ∷ (key_fields key ++ behind)) ≡ Some (key, behind)
unfolding key_at
key-read key behind fit apart =
    let kind = kind_text key.slot key.class in
    then_said (said_at name_of (32 ∷ (key_fields key ++ behind))) _ (key.name, 32 ∷ (kind ++ behind)) (key, behind)
    (first (said_at name_of) text_of IsWireForm names key.name kind behind fit.name)
    (then_said (said_at slot_and_class_of (32 ∷ (kind ++ behind))) _ ((key.slot, key.class), behind) (key, behind)
    (kinds.back (key.slot, key.class) behind (fit.slot, fit.class) apart)
    (ap (λ (name : List ℕ). found name) fit.folded))
  where
    found : List ℕ → Option (KeyOf × List ℕ)
    found name = Some (record { name = name; class = key.class; slot = key.slot }, behind)

pub keys : Reads key_at key_fields FitsKey
keys = record { back = key-read }

has-key : (octets : List ℕ) (value : KeyOf × List ℕ) → key_at octets ≡ Some value → has_field octets ≡ true
unfolding key_at
has-key octets value is = let name = said_first (said_at name_of octets) _ value is in has-said name_of octets name.0 name.1.0

-- the trust, the time to live and the owner of data
abbrev sourced : Trust → ℕ → List ℕ → List ℕ → List ℕ
sourced trust ttl owner data_text = decimal (rank trust) ++ (32 ∷ (decimal ttl ++ (32 ∷ (text_of owner ++ (32 ∷ data_text)))))

source-read : (trust : Trust) (ttl : ℕ) (owner data_text behind : List ℕ) → ttl < 2 ^ 32 → IsWireForm owner
    → source_at (32 ∷ (sourced trust ttl owner data_text ++ behind)) ≡ Some (trust, ttl, owner, 32 ∷ (data_text ++ behind))
unfolding source_at
source-read trust ttl owner data_text behind few name =
    let owned = text_of owner ++ (32 ∷ data_text) in
    let living = decimal ttl ++ (32 ∷ owned) in
    then_said (said_at trust_of (32 ∷ (sourced trust ttl owner data_text ++ behind))) _ (trust, 32 ∷ (living ++ behind)) (trust, ttl, owner, 32 ∷ (data_text ++ behind))
    (first (said_at trust_of) (λ trust. decimal (rank trust)) (λ trust. Unit {0}) trusts trust living behind tt)
    (then_said (said_at ttl_of (32 ∷ (living ++ behind))) _ (ttl, 32 ∷ (owned ++ behind)) (trust, ttl, owner, 32 ∷ (data_text ++ behind))
    (first (said_at ttl_of) decimal (λ n. n < 2 ^ 32) ttls ttl owned behind few)
    (then_said (said_at name_of (32 ∷ (owned ++ behind))) _ (owner, 32 ∷ (data_text ++ behind)) (trust, ttl, owner, 32 ∷ (data_text ++ behind))
    (first (said_at name_of) text_of IsWireForm names owner data_text behind name) refl))

positive-read : (trust : Trust) (ttl : ℕ) (owner : List ℕ) (items : List (List ℕ)) (behind : List ℕ) → FitsSet ttl owner items → StandsApart behind
    → positive_at (32 ∷ (sourced trust ttl owner (items_text items) ++ behind)) ≡ Some (Positive trust ttl owner items, behind)
unfolding positive_at
positive-read trust ttl owner items behind fit apart =
    then_said (source_at (32 ∷ (sourced trust ttl owner (items_text items) ++ behind))) _ (trust, ttl, owner, 32 ∷ (items_text items ++ behind)) (Positive trust ttl owner items, behind)
    (source-read trust ttl owner (items_text items) behind fit.lives fit.name)
    (then_said (said_at data_of (32 ∷ (items_text items ++ behind))) _ (items, behind) (Positive trust ttl owner items, behind)
    (sets.back items behind (fit.some, fit.octets) apart) refl)

negative-read : (trust : Trust) (ttl : ℕ) (owner soa behind : List ℕ) → FitsSoa ttl owner soa → StandsApart behind
    → negative_at (32 ∷ (sourced trust ttl owner (item_text soa) ++ behind)) ≡ Some (Negative trust ttl owner soa, behind)
unfolding negative_at
negative-read trust ttl owner soa behind fit apart =
    then_said (source_at (32 ∷ (sourced trust ttl owner (item_text soa) ++ behind))) _ (trust, ttl, owner, 32 ∷ (item_text soa ++ behind)) (Negative trust ttl owner soa, behind)
    (source-read trust ttl owner (item_text soa) behind fit.lives fit.name)
    (then_said (said_at octets_of (32 ∷ (item_text soa ++ behind))) _ (soa, behind) (Negative trust ttl owner soa, behind)
    (soas.back soa behind fit.octets apart) refl)

failure-read : (ttl : ℕ) (behind : List ℕ) → ttl < 2 ^ 32 → StandsApart behind → failure_at (32 ∷ (decimal ttl ++ behind)) ≡ Some (Failure ttl, behind)
unfolding failure_at
failure-read ttl behind few apart =
    then_said (said_at ttl_of (32 ∷ (decimal ttl ++ behind))) _ (ttl, behind) (Failure ttl, behind) (ttls.back ttl behind few apart) refl

body-read : (body : Body) (behind : List ℕ) → FitsBody body → StandsApart behind → body_at (32 ∷ (body_fields body ++ behind)) ≡ Some (body, behind)
unfolding body_at
body-read (Positive trust ttl owner items) behind fit apart =
    let rest = sourced trust ttl owner (items_text items) ++ behind in
    then_said (field_at (32 ∷ (codes "set" ++ (32 ∷ rest)))) _ (codes "set", 32 ∷ rest) (Positive trust ttl owner items, behind)
    (word-found (codes "set") (32 ∷ rest) (omega arith) refl (inr (rest, refl))) (positive-read trust ttl owner items behind fit apart)
body-read (Negative trust ttl owner soa) behind fit apart =
    let rest = sourced trust ttl owner (item_text soa) ++ behind in
    then_said (field_at (32 ∷ (codes "negative" ++ (32 ∷ rest)))) _ (codes "negative", 32 ∷ rest) (Negative trust ttl owner soa, behind)
    (word-found (codes "negative") (32 ∷ rest) (omega arith) refl (inr (rest, refl))) (negative-read trust ttl owner soa behind fit apart)
body-read (Failure ttl) behind fit apart =
    let rest = decimal ttl ++ behind in
    then_said (field_at (32 ∷ (codes "failure" ++ (32 ∷ rest)))) _ (codes "failure", 32 ∷ rest) (Failure ttl, behind)
    (word-found (codes "failure") (32 ∷ rest) (omega arith) refl (inr (rest, refl))) (failure-read ttl behind fit apart)

pub bodies : Reads body_at body_fields FitsBody
bodies = record { back = body-read }

set-read : (set : RrSet) (left : ℕ) → FitsSet left set.owner set.items → set_of (32 ∷ set_text set left) ≡ Some (left, set)
unfolding set_of
set-read set left fit =
    let owned = text_of set.owner ++ (32 ∷ items_text set.items) in
    then_said (said_at ttl_of (32 ∷ set_text set left)) _ (left, 32 ∷ owned) (left, set)
    (ahead (said_at ttl_of) decimal (λ n. n < 2 ^ 32) ttls left owned fit.lives)
    (then_said (said_at name_of (32 ∷ owned)) _ (set.owner, 32 ∷ items_text set.items) (left, set)
    (ahead (said_at name_of) text_of IsWireForm names set.owner (items_text set.items) fit.name)
    (then_said (said_at data_of (32 ∷ items_text set.items)) _ (set.items, []) (left, set)
    (last (said_at data_of) items_text _ sets set.items (fit.some, fit.octets)) refl))

soa-read : (soa : Soa) (left : ℕ) → FitsSoa left soa.owner soa.octets → soa_of (32 ∷ soa_text soa left) ≡ Some (left, soa)
unfolding soa_of
soa-read soa left fit =
    let owned = text_of soa.owner ++ (32 ∷ item_text soa.octets) in
    then_said (said_at ttl_of (32 ∷ soa_text soa left)) _ (left, 32 ∷ owned) (left, soa)
    (ahead (said_at ttl_of) decimal (λ n. n < 2 ^ 32) ttls left owned fit.lives)
    (then_said (said_at name_of (32 ∷ owned)) _ (soa.owner, 32 ∷ item_text soa.octets) (left, soa)
    (ahead (said_at name_of) text_of IsWireForm names soa.owner (item_text soa.octets) fit.name)
    (then_said (said_at octets_of (32 ∷ item_text soa.octets)) _ (soa.octets, []) (left, soa)
    (last (said_at octets_of) item_text IsBytes soas soa.octets fit.octets) refl))

retry-read : (moment : ℕ) → IsNumber moment → miss_of (32 ∷ decimal moment) ≡ Some (Miss (Some moment))
unfolding miss_of
retry-read moment is =
    let found = last (said_at count_of) decimal IsNumber counts moment is in
    let has = has-said count_of (32 ∷ decimal moment) (moment, []) found in
    rw has (then_said (said_at count_of (32 ∷ decimal moment)) _ (moment, []) (Miss (Some moment)) found refl)

no-retry : miss_of [] ≡ Some (Miss None)
unfolding miss_of
no-retry = refl

pub reply-read : (reply : Reply) → FitsReply reply → reply_of (32 ∷ reply_text reply) ≡ Some reply
unfolding reply_of
reply-read (Fresh set left) fit =
    then_said (field_at (32 ∷ (codes "fresh" ++ (32 ∷ set_text set left)))) _ (codes "fresh", 32 ∷ set_text set left) (Fresh set left)
    (word-found (codes "fresh") (32 ∷ set_text set left) (omega arith) refl (inr (set_text set left, refl)))
    (then_said (set_of (32 ∷ set_text set left)) _ (left, set) (Fresh set left) (set-read set left fit) refl)
reply-read (Stale set left) fit =
    then_said (field_at (32 ∷ (codes "stale" ++ (32 ∷ set_text set left)))) _ (codes "stale", 32 ∷ set_text set left) (Stale set left)
    (word-found (codes "stale") (32 ∷ set_text set left) (omega arith) refl (inr (set_text set left, refl)))
    (then_said (set_of (32 ∷ set_text set left)) _ (left, set) (Stale set left) (set-read set left fit) refl)
reply-read (NoData soa left) fit =
    then_said (field_at (32 ∷ (codes "nodata" ++ (32 ∷ soa_text soa left)))) _ (codes "nodata", 32 ∷ soa_text soa left) (NoData soa left)
    (word-found (codes "nodata") (32 ∷ soa_text soa left) (omega arith) refl (inr (soa_text soa left, refl)))
    (then_said (soa_of (32 ∷ soa_text soa left)) _ (left, soa) (NoData soa left) (soa-read soa left fit) refl)
reply-read (NxDomain soa left) fit =
    then_said (field_at (32 ∷ (codes "nxdomain" ++ (32 ∷ soa_text soa left)))) _ (codes "nxdomain", 32 ∷ soa_text soa left) (NxDomain soa left)
    (word-found (codes "nxdomain") (32 ∷ soa_text soa left) (omega arith) refl (inr (soa_text soa left, refl)))
    (then_said (soa_of (32 ∷ soa_text soa left)) _ (left, soa) (NxDomain soa left) (soa-read soa left fit) refl)
reply-read (Miss None) fit =
    then_said (field_at (32 ∷ (codes "miss" ++ []))) (λ (found : List ℕ × List ℕ). reply_as found.0 found.1) (codes "miss", []) (Miss None) (word-found (codes "miss") [] (omega arith) refl (inl refl)) no-retry
reply-read (Miss (Some moment)) fit =
    then_said (field_at (32 ∷ (codes "miss" ++ (32 ∷ decimal moment)))) _ (codes "miss", 32 ∷ decimal moment) (Miss (Some moment))
    (word-found (codes "miss") (32 ∷ decimal moment) (omega arith) refl (inr (decimal moment, refl))) (retry-read moment fit)

tag-read : (tag : Tag) (moment : ℕ) (rest : List ℕ) → HoldsTag tag → IsNumber moment → StandsApart rest
    → tag_at (32 ∷ (tag_fields tag ++ (32 ∷ (decimal moment ++ rest)))) ≡ Some (tag, moment, rest)
unfolding tag_at
tag-read tag moment rest held is apart =
    let dated = decimal moment ++ rest in
    then_said (said_at count_of (32 ∷ (tag_fields tag ++ (32 ∷ dated)))) _ (tag.line, 32 ∷ (decimal tag.place ++ (32 ∷ dated))) (tag, moment, rest)
    (first (said_at count_of) decimal IsNumber counts tag.line (decimal tag.place) (32 ∷ dated) held.0)
    (then_said (said_at count_of (32 ∷ (decimal tag.place ++ (32 ∷ dated)))) _ (tag.place, 32 ∷ dated) (tag, moment, rest)
    (ahead (said_at count_of) decimal IsNumber counts tag.place dated held.1)
    (then_said (said_at count_of (32 ∷ dated)) _ (moment, rest) (tag, moment, rest) (counts.back moment rest is apart) refl))

offer-read : (offer : OfferOf) (rest : List ℕ) → FitsOffer offer
    → offer_at offer.moment (32 ∷ (key_fields offer.key ++ (32 ∷ (body_fields offer.body ++ (32 ∷ rest))))) ≡ Some (offer, 32 ∷ rest)
unfolding offer_at
offer-read offer rest fit =
    let behind = body_fields offer.body ++ (32 ∷ rest) in
    then_said (key_at (32 ∷ (key_fields offer.key ++ (32 ∷ behind)))) _ (offer.key, 32 ∷ behind) (offer, 32 ∷ rest)
    (ahead key_at key_fields FitsKey keys offer.key behind fit.under)
    (then_said (body_at (32 ∷ behind)) _ (offer.body, 32 ∷ rest) (offer, 32 ∷ rest)
    (ahead body_at body_fields FitsBody bodies offer.body rest fit.holds) (rw fit.fit refl))

outcome-read : (outcome : Outcome) (behind : List ℕ) → StandsApart behind → said_at outcome_of (32 ∷ (outcome_text outcome ++ behind)) ≡ Some (outcome, behind)
outcome-read Kept behind apart = word-said outcome_of (codes "kept") behind Kept (omega arith) refl refl apart
outcome-read Cleared behind apart = word-said outcome_of (codes "cleared") behind Cleared (omega arith) refl refl apart
outcome-read LessTrusted behind apart = word-said outcome_of (codes "less") behind LessTrusted (omega arith) refl refl apart

evicted-apart : (evicted : Option KeyOf) → StandsApart (evicted_fields evicted)
evicted-apart None = inl refl
evicted-apart (Some key) = inr (key_fields key, refl)

evicted-read : (evicted : Option KeyOf) → FitsEvicted evicted → evicted_of (evicted_fields evicted) ≡ Some evicted
unfolding evicted_of
evicted-read None fit = refl
evicted-read (Some key) fit =
    let found = last key_at key_fields FitsKey keys key fit in
    let has = has-key (32 ∷ key_fields key) (key, []) found in
    rw has (then_said (key_at (32 ∷ key_fields key)) _ (key, []) (Some key) found refl)

pub offered-read : (outcome : Outcome) (tag : Tag) (offer : OfferOf) (evicted : Option KeyOf) → FitsEvent (Offered outcome tag offer evicted)
    → offered_of (32 ∷ (tag_fields tag ++ (32 ∷ (decimal offer.moment
    ++ (32 ∷ (key_fields offer.key ++ (32 ∷ (body_fields offer.body ++ (32 ∷ (outcome_text outcome ++ evicted_fields evicted))))))))))
    ≡ Some (Offered outcome tag offer evicted)
unfolding offered_of
offered-read outcome tag offer evicted fit =
    let told = outcome_text outcome ++ evicted_fields evicted in
    let behind = key_fields offer.key ++ (32 ∷ (body_fields offer.body ++ (32 ∷ told))) in
    let event = Offered outcome tag offer evicted in
    then_said (tag_at (32 ∷ (tag_fields tag ++ (32 ∷ (decimal offer.moment ++ (32 ∷ behind)))))) _ (tag, offer.moment, 32 ∷ behind) event
    (tag-read tag offer.moment (32 ∷ behind) fit.0 fit.1.0.dated (inr (behind, refl)))
    (then_said (offer_at offer.moment (32 ∷ behind)) _ (offer, 32 ∷ told) event (offer-read offer told fit.1.0)
    (then_said (said_at outcome_of (32 ∷ told)) _ (outcome, evicted_fields evicted) event
    (outcome-read outcome (evicted_fields evicted) (evicted-apart evicted))
    (then_said (evicted_of (evicted_fields evicted)) _ evicted event (evicted-read evicted fit.1.1) refl)))

purpose-read : (purpose : Purpose) (rest : List ℕ) → said_at purpose_of (32 ∷ (purpose_word purpose ++ (32 ∷ rest))) ≡ Some (purpose, 32 ∷ rest)
purpose-read Any rest = word-said purpose_of (codes "any") (32 ∷ rest) Any (omega arith) refl refl (inr (rest, refl))
purpose-read Answer rest = word-said purpose_of (codes "answer") (32 ∷ rest) Answer (omega arith) refl refl (inr (rest, refl))

mode-read : (mode : Mode) (rest : List ℕ) → said_at mode_of (32 ∷ (mode_word mode ++ (32 ∷ rest))) ≡ Some (mode, 32 ∷ rest)
mode-read NoStale rest = word-said mode_of (codes "none") (32 ∷ rest) NoStale (omega arith) refl refl (inr (rest, refl))
mode-read Failed rest = word-said mode_of (codes "failed") (32 ∷ rest) Failed (omega arith) refl refl (inr (rest, refl))
mode-read Now rest = word-said mode_of (codes "now") (32 ∷ rest) Now (omega arith) refl refl (inr (rest, refl))

type-read : (rtype class : ℕ) (rest : List ℕ) → rtype < 2 ^ 16 → class < 2 ^ 16
    → said_at kind_of (32 ∷ (slot_text (Set rtype) ++ (class_text class ++ (32 ∷ rest)))) ≡ Some (record { rtype = rtype; class = class }, 32 ∷ rest)
type-read rtype class rest typed classed =
    ap (λ (o : List ℕ). said_at kind_of (32 ∷ o)) (sym (append_assoc (slot_text (Set rtype)) (class_text class) (32 ∷ rest)))
    ∙ ahead (said_at kind_of) (λ (kind : Kind). kind_text (Set kind.rtype) kind.class) _ types (record { rtype = rtype; class = class }) rest (typed, classed)

pub asked-read : (tag : Tag) (ask : AskOf) (reply : Reply) → FitsEvent (Asked tag ask reply)
    → asked_of (32 ∷ (tag_fields tag ++ (32 ∷ (decimal ask.moment
    ++ (32 ∷ (text_of ask.name ++ (32 ∷ (slot_text (Set ask.rtype) ++ (class_text ask.class
    ++ (32 ∷ (purpose_word ask.purpose ++ (32 ∷ (mode_word ask.mode ++ (32 ∷ reply_text reply)))))))))))))) ≡ Some (Asked tag ask reply)
unfolding asked_of
asked-read tag ask reply fit =
    let asks : FitsAsk ask = fit.1.0 in
    let replied = reply_text reply in
    let meant = mode_word ask.mode ++ (32 ∷ replied) in
    let wanted = purpose_word ask.purpose ++ (32 ∷ meant) in
    let typed = slot_text (Set ask.rtype) ++ (class_text ask.class ++ (32 ∷ wanted)) in
    let named = text_of ask.name ++ (32 ∷ typed) in
    let event = Asked tag ask reply in
    then_said (tag_at (32 ∷ (tag_fields tag ++ (32 ∷ (decimal ask.moment ++ (32 ∷ named)))))) _ (tag, ask.moment, 32 ∷ named) event
    (tag-read tag ask.moment (32 ∷ named) fit.0 asks.dated (inr (named, refl)))
    (then_said (said_at name_of (32 ∷ named)) _ (ask.name, 32 ∷ typed) event (ahead (said_at name_of) text_of IsWireForm names ask.name typed asks.named)
    (then_said (said_at kind_of (32 ∷ typed)) _ (record { rtype = ask.rtype; class = ask.class }, 32 ∷ wanted) event (type-read ask.rtype ask.class wanted asks.typed asks.classed)
    (then_said (said_at purpose_of (32 ∷ wanted)) _ (ask.purpose, 32 ∷ meant) event (purpose-read ask.purpose meant)
    (then_said (said_at mode_of (32 ∷ meant)) _ (ask.mode, 32 ∷ replied) event (mode-read ask.mode replied)
    (then_said (reply_of (32 ∷ replied)) _ reply event (reply-read reply fit.1.1)
    (ap (λ (name : List ℕ). told name) asks.folded))))))
  where
    told : List ℕ → Option Event
    told name = Some (Asked tag (record { name = name; class = ask.class; rtype = ask.rtype; moment = ask.moment; purpose = ask.purpose; mode = ask.mode }) reply)

keys-apart : (gone : List KeyOf) → StandsApart (keys_fields gone)
keys-apart [] = inl refl
keys-apart (key ∷ gone) = inr (key_fields key ++ keys_fields gone, refl)

some_keys : List KeyOf → Option (List KeyOf)
some_keys all = Some all

abbrev step : ℕ → List KeyOf → Bool → Option (List KeyOf × List ℕ) → Option (List KeyOf)
step most front has more = cond has (more >>= (λ more. keys_behind most more.0 more.1)) (Some front)

keys-read : (most : ℕ) (front gone : List KeyOf) → length gone ≤ most → AllByRecursion FitsKey gone → keys_behind most front (keys_fields gone) ≡ Some (front ++ gone)
unfolding some_keys
keys-read zero front [] few fit = ap some_keys (sym (append-nil front))
keys-read (suc most) front [] few fit = ap some_keys (sym (append-nil front))
keys-read zero front (key ∷ gone) few fit = absurd (omega (arith, few))
keys-read (suc most) front (key ∷ gone) few fit =
    let octets = 32 ∷ (key_fields key ++ keys_fields gone) in
    let found : key_at octets ≡ Some (key, keys_fields gone) = keys.back key (keys_fields gone) fit.0 (keys-apart gone) in
    let has = has-key octets (key, keys_fields gone) found in
    let more : with_key front octets ≡ Some (front ++ key ∷ [], keys_fields gone) = ap (option_map (λ key. (front ++ key.0 ∷ [], key.1))) found in
    ap (λ (b : Bool). step most front b (with_key front octets)) has
    ∙ (ap (λ (o : Option (List KeyOf × List ℕ)). step most front true o) more
    ∙ (keys-read most (front ++ key ∷ []) gone (omega (arith, few)) fit.1 ∙ ap some_keys (append_assoc front (key ∷ []) gone)))

keys-few : (gone : List KeyOf) → length gone ≤ length (keys_fields gone)
keys-few [] = omega arith
keys-few (key ∷ gone) = omega (arith, keys-few gone, length-append (key_fields key) (keys_fields gone))

pub swept-read : (tag : Tag) (moment : ℕ) (gone : List KeyOf) → FitsEvent (Swept tag moment gone)
    → swept_of (32 ∷ (tag_fields tag ++ (32 ∷ (decimal moment ++ keys_fields gone)))) ≡ Some (Swept tag moment gone)
unfolding swept_of
swept-read tag moment gone fit =
    then_said (tag_at (32 ∷ (tag_fields tag ++ (32 ∷ (decimal moment ++ keys_fields gone))))) _ (tag, moment, keys_fields gone) (Swept tag moment gone)
    (tag-read tag moment (keys_fields gone) fit.0 fit.1.0 (keys-apart gone))
    (then_said (keys_of (keys_fields gone)) _ gone (Swept tag moment gone)
    (keys-read (length (keys_fields gone)) [] gone (keys-few gone) fit.1.1) refl)

pub entry-read : (entry : Entry) → FitsEntry entry
    → entry_of (32 ∷ (decimal entry.number ++ (32 ∷ (decimal entry.moment ++ (32 ∷ (key_fields entry.key ++ (32 ∷ body_fields entry.body))))))) ≡ Some entry
unfolding entry_of
entry-read entry fit =
    let keyed = key_fields entry.key ++ (32 ∷ body_fields entry.body) in
    let dated = decimal entry.moment ++ (32 ∷ keyed) in
    then_said (said_at count_of (32 ∷ (decimal entry.number ++ (32 ∷ dated)))) _ (entry.number, 32 ∷ dated) entry
    (ahead (said_at count_of) decimal IsNumber counts entry.number dated fit.numbered)
    (then_said (said_at count_of (32 ∷ dated)) _ (entry.moment, 32 ∷ keyed) entry (ahead (said_at count_of) decimal IsNumber counts entry.moment keyed fit.dated)
    (then_said (key_at (32 ∷ keyed)) _ (entry.key, 32 ∷ body_fields entry.body) entry (ahead key_at key_fields FitsKey keys entry.key (body_fields entry.body) fit.under)
    (then_said (body_at (32 ∷ body_fields entry.body)) _ (entry.body, []) entry (last body_at body_fields FitsBody bodies entry.body fit.holds) refl)))
