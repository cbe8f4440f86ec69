-- SPDX-License-Identifier: MIT
-- What a legal past leaves, through one more event.
use Rattle.std.proofs.Common.{◌≡◌, ℕ, ◌+◌, ◌^◌, ◌<◌, ◌≤◌, List, [], ◌∷◌, length, Option, true, refl, sym, ap, subst, ◌∙◌, arith}
use Rattle.rrc_name.specs.Key.{KeyOf}
use Rattle.rrc_history.specs.declared.event.Event.{Event}
use Rattle.rrc_history.specs.declared.event.Event.TheVariants.{Offered}
use Rattle.rrc_history.specs.declared.event.Outcome.{Outcome}
use Rattle.rrc_history.specs.declared.event.Tag.{Tag}
use Rattle.rrc_history.specs.declared.snapshot.Entry.{Entry}
use Rattle.rrc_history.specs.declared.snapshot.Snapshot.{Snapshot}
use Rattle.rrc_history.specs.Entries.{kept_after}
use Rattle.rrc_history.specs.Fits.{OfferOf, fits}
use Rattle.rrc_history.specs.Judged.{verdict}
use Rattle.rrc_history.specs.Lives.{LAST_MOMENT}
use Rattle.rrc_history.specs.Past.{entry_at, number_after, AreContents}
use Rattle.rrc_history.specs.Right.{IsRight, IsLegal, evicted_by}
use Rattle.rrc_history.specs.Sound.{AreSound}
use Rattle.rrc_history.specs.lemmas.OfferLaws.{offer_contents, length-kept_after}
use Rattle.rrc_history.specs.lemmas.Openings.{opening}
use Rattle.rrc_cache.specs.Calls.{Leaves}
use Rattle.rrc_cache.specs.Taken.{IsTaken}
use Rattle.rrc_cache.proofs.Sound.{AreWellMade, made_of, made_kept_after, sound_of}

-- no events leave what the snapshot holds
pub snapshot_leaves : (snapshot : Snapshot) → AreSound snapshot.rules.capacity snapshot.first snapshot.entries → Leaves snapshot [] snapshot.entries
snapshot_leaves snapshot sound =
    let first : snapshot.first ≡ number_after snapshot [] = omega arith in
    record {
      legal = tt;
      contents = (opening snapshot sound).contents;
      kept = subst (λ n. AreSound snapshot.rules.capacity n snapshot.entries) first sound;
    }

-- one more right event, and what it leaves
pub right_leaves : (snapshot : Snapshot) (past : List Event) (event : Event) (entries : List Entry) → IsLegal snapshot past → IsRight snapshot past event
    → AreContents snapshot (event ∷ past) entries → length entries ≤ snapshot.rules.capacity → AreWellMade (number_after snapshot past + 1) entries
    → Leaves snapshot (event ∷ past) entries
right_leaves snapshot past event entries legal right contents few made =
    let more : number_after snapshot past + 1 ≡ number_after snapshot (event ∷ past) = omega arith in
    record {
      legal = (right, legal);
      contents = contents;
      kept = subst (λ n. AreSound snapshot.rules.capacity n entries) more
          (sound_of snapshot (event ∷ past) snapshot.rules.capacity (number_after snapshot past + 1) entries contents few made);
    }

pub offer_leaves : (snapshot : Snapshot) (past : List Event) (entries : List Entry) (tag : Tag) (offer : OfferOf) (outcome : Outcome) (evicted : Option KeyOf) (kept : List Entry)
    → Leaves snapshot past entries → number_after snapshot past < 2 ^ 62 → offer.moment ≤ LAST_MOMENT → fits offer.key offer.body ≡ true
    → IsTaken snapshot.rules.capacity (number_after snapshot past) offer entries outcome evicted kept
    → Leaves snapshot (Offered outcome tag offer evicted ∷ past) kept
offer_leaves snapshot past entries tag offer outcome evicted kept leaves below timely fit taken =
    let capacity : ℕ = snapshot.rules.capacity in
    let number : ℕ = number_after snapshot past in
    let event : Event = Offered outcome tag offer evicted in
    let same = leaves.contents.agree offer.key in
    let right : IsRight snapshot past event = record {
      numbered = below;
      right = record {
        timely = timely;
        judged = taken.judged ∙ ap (λ h. verdict h offer) same;
        entries = entries;
        contents = leaves.contents;
        evicts = taken.evicts ∙ ap (λ h. evicted_by capacity entries h outcome) same;
      };
    } in
    let few : length (kept_after outcome offer number (evicted_by capacity entries (entry_at offer.key entries) outcome) entries) ≤ capacity =
    length-kept_after capacity (entry_at offer.key entries) outcome offer number entries snapshot.rules.some_capacity leaves.kept.few refl in
    let few' : length (kept_after outcome offer number evicted entries) ≤ capacity =
    let P : Option KeyOf → Type 0 = λ e. length (kept_after outcome offer number e entries) ≤ capacity in subst P (sym taken.evicts) few in
    let P : List Entry → Type 0 = Leaves snapshot (event ∷ past) in
    subst P (sym taken.left)
    (right_leaves snapshot past event (kept_after outcome offer number evicted entries) leaves.legal right
    (offer_contents snapshot past tag offer outcome evicted entries leaves.contents) few'
    (made_kept_after outcome offer number evicted entries fit timely (made_of capacity number entries leaves.kept)))
