-- SPDX-License-Identifier: MIT
-- What a part that keeps no events keeps is what its history leaves, through every event.
use Rattle.std.proofs.Common.{◌≡◌, ℕ, zero, suc, ◌+◌, ◌-◌, ◌<◌, ◌≤◌, ◌^◌, List, [], ◌∷◌, ◌++◌, length, Option, Some, None, true, refl, sym, ap, subst, ◌∙◌, arith}
use Rattle.std.specs.Prelude.{IfSome}
use Rattle.std.specs.List.{AllByRecursion, slice_get}
use Rattle.std.specs.Option.{option_map}
use Rattle.std.proofs.lemmas.List.{length-append}
use Rattle.std.proofs.lemmas.Option.{IfSome_then}
use Rattle.rrc_name.specs.Key.{KeyOf}
use Rattle.rrc_history.specs.declared.rules.Rules.{Rules}
use Rattle.rrc_history.specs.declared.event.Event.{Event}
use Rattle.rrc_history.specs.declared.snapshot.Entry.{Entry}
use Rattle.rrc_history.specs.declared.snapshot.Snapshot.{Snapshot}
use Rattle.rrc_history.specs.Fits.{fits}
use Rattle.rrc_history.specs.Sound.{AreSound, IsFit}
use Rattle.rrc_history.specs.declared.judge.Held.{Held}
use Rattle.rrc_history.specs.lemmas.Openings.{opening}
use Rattle.rrc_name.specs.declared.slot.Slot.{Slot}
use Rattle.rrc_history.specs.declared.event.Reply.{Reply}
use Rattle.rrc_history.specs.Asked.{AskOf}
use Rattle.rrc_history.specs.Entries.{found_among}
use Rattle.rrc_history.specs.Judged.{answering, reply_by}
use Rattle.rrc_history.specs.Past.{held, number_after, found, reply_to, AreContents, moment_of}
use Rattle.rrc_history.specs.Right.{IsLegal}
use Rattle.rrc_history.specs.Views.{held_in, reply_in}
use Rattle.rrc_history.specs.lemmas.AskLaws.{found-contents}
use Rattle.rrc_history.specs.lemmas.LawsHold.{laws_hold}
use Rattle.rrc_history.specs.lemmas.OneHistory.{one_contents}
use Rattle.rrc_cache.specs.declared.lookup.Lookup.{Lookup}
use Rattle.rrc_cache.specs.Ages.{StandsWithin, ahead_of}
use Rattle.rrc_cache.specs.Calls.{Leaves, Writes}
use Rattle.rrc_cache.specs.Expiry.{swept_until}
use Rattle.rrc_cache.specs.Lasts.{last_of}
use Rattle.rrc_cache.specs.Lean.{HoldsLean, IsLeanOpen, IsPick, begun_with, first_chapter, with_event}
use Rattle.rrc_cache.specs.Lookups.{TellsLookup, TellsNoAge, TellsReply}
use Rattle.rrc_cache.specs.Pairs.{StoreOf}
use Rattle.rrc_cache.specs.Part.{PartOf, past_of, Adds}
use Rattle.rrc_cache.specs.Taken.{IsAnswered, IsMove}
use Rattle.rrc_cache.proofs.Keeping.{number-of, past-more}
use Rattle.rrc_cache.proofs.Written.{writes_leaves}

-- a part with nothing in it
pub empty_holds : (rules : Rules) (store : StoreOf) → store.entries ≡ [] → store.stale ≡ rules.stale → HoldsLean (first_chapter rules) 1 0 rules store 0
unfolding held
empty_holds rules store none stale = record {
  sound = record { legal = tt; numbered = omega arith; chapter = omega arith };
  leaves =
      let P : List Entry → Type 0 = Leaves (first_chapter rules).snapshot [] in
      subst P (sym none) (record {
        legal = tt;
        contents = record { agree = λ key. refl; falling = tt };
        kept = record { few = omega arith; apart = tt; before = tt; numbered = tt; fit = tt; timely = tt };
      });
  stale = stale;
  chapter = refl;
  following = omega arith;
  ruled = refl;
  sweeps = refl;
}

-- a part with what a snapshot holds
pub restored_holds : (snapshot : Snapshot) (store : StoreOf) → store.entries ≡ snapshot.entries → store.stale ≡ snapshot.rules.stale → snapshot.first ≤ 2 ^ 62
    → AreSound snapshot.rules.capacity snapshot.first snapshot.entries → HoldsLean (begun_with snapshot) 2 snapshot.first snapshot.rules store 0
restored_holds snapshot store is stale numbered sound = record {
  sound = record { legal = tt; numbered = omega (arith, numbered); chapter = omega arith };
  leaves =
      let P : List Entry → Type 0 = Leaves snapshot [] in
      let next : snapshot.first ≡ number_after snapshot [] = omega arith in
      subst P (sym is) (record {
        legal = tt;
        contents = (opening snapshot sound).contents;
        kept = subst (λ n. AreSound snapshot.rules.capacity n snapshot.entries) next sound;
      });
  stale = stale;
  chapter = refl;
  following = omega arith;
  ruled = refl;
  sweeps = refl;
}

-- what an event that was written says, and what the part keeps after it
pub record IsLeanDone (old new : PartOf) (number next : ℕ) (rules : Rules) (event : Event) (store : StoreOf) (swept : ℕ) : Type 0 where
  pub adds : Adds old new event
  pub holds : HoldsLean new number (next + 1) rules store swept

done : (part : PartOf) (number next : ℕ) (rules : Rules) (before after : StoreOf) (was swept : ℕ) (event : Event) → HoldsLean part number next rules before was
    → IsLeanOpen part (moment_of event) → Writes rules next before.entries event after.entries → after.stale ≡ before.stale
    → swept ≡ swept_until (event ∷ past_of part)
    → IsLeanDone part (with_event part event) number next rules event after swept
done part number next rules before after was swept event holds open' writes stale sweeps =
    let now : ℕ = number_after part.snapshot (past_of part) in
    let below : now < 2 ^ 62 = omega (arith, number-of part, open'.number) in
    let W : Rules → ℕ → Type 0 = λ r n. Writes r n before.entries event after.entries in
    let written : W part.snapshot.rules now = subst (λ r. W r now) holds.ruled (subst (W rules) (holds.following ∙ sym (number-of part)) writes) in
    let leaves : Leaves part.snapshot (event ∷ past_of part) after.entries =
    writes_leaves part.snapshot (past_of part) before.entries event after.entries holds.leaves below open'.moment written in
    let past : event ∷ past_of part ≡ past_of (with_event part event) = sym (past-more part event) in
    let more : length (part.events ++ event ∷ []) ≡ length part.events + 1 = length-append part.events (event ∷ []) in
    record {
      adds = record {
        number = refl;
        snapshot = refl;
        written = refl;
        right = leaves.legal.0;
        laws = laws_hold part.snapshot (past_of part) event leaves.legal.0;
      };
      holds = record {
        sound = record {
          legal = let P : List Event → Type 0 = IsLegal part.snapshot in subst P past leaves.legal;
          numbered = omega (arith, open'.number, more);
          chapter = holds.sound.chapter;
        };
        leaves = let P : List Event → Type 0 = λ p. Leaves part.snapshot p after.entries in subst P past leaves;
        stale = stale ∙ holds.stale;
        chapter = holds.chapter;
        following = omega (arith, holds.following, more);
        ruled = holds.ruled;
        sweeps = sweeps ∙ ap (λ (p : List Event). swept_until p) past;
      };
    }

-- where the part is seen as its history, and the history was told the event
pub lean_done : (seen part told : PartOf) (number next : ℕ) (rules : Rules) (before after : StoreOf) (was swept : ℕ) (event : Event) → part ≡ seen → told ≡ with_event part event
    → HoldsLean part number next rules before was → IsLeanOpen seen (moment_of event) → Writes rules next before.entries event after.entries → after.stale ≡ before.stale
    → swept ≡ swept_until (event ∷ past_of part)
    → IsLeanDone seen told number next rules event after swept
lean_done seen part told number next rules before after was swept event is tells holds open' writes stale sweeps =
    let D : PartOf → PartOf → Type 0 = λ old new. IsLeanDone old new number next rules event after swept in
    let O : PartOf → Type 0 = λ p. IsLeanOpen p (moment_of event) in
    subst (D seen) (sym tells)
    (subst (λ old. D old (with_event part event)) is (done part number next rules before after was swept event holds (subst O (sym is) open') writes stale sweeps))

-- ---- an ask in two halves

-- what an ask was answered, and from where, by the history
pub answered_by_history : (part : PartOf) (rules : Rules) (entries : List Entry) (ask : AskOf) (reply : Reply) (slot : Option Slot) → rules ≡ part.snapshot.rules
    → AreContents part.snapshot (past_of part) entries → IsAnswered rules.stale ask entries reply slot
    → (reply ≡ reply_to part.snapshot (past_of part) ask) × IsPick part ask slot
answered_by_history part rules entries ask reply slot ruled contents answered =
    let same : found_among entries ask ≡ found part.snapshot (past_of part) ask = found-contents part.snapshot (past_of part) ask entries contents in
    let told : reply ≡ reply_to part.snapshot (past_of part) ask =
    answered.answered ∙ (ap (λ (r : Rules). reply_by r.stale (found_among entries ask) ask) ruled ∙ ap (λ f. reply_by part.snapshot.rules.stale f ask) same) in (
      told,
      λ others are.
          let P : List Entry → Type 0 = λ es. IsMove ask es (reply_to part.snapshot (past_of part) ask) slot in
          subst P (one_contents part.snapshot (past_of part) entries others contents are) (subst (λ r. IsMove ask entries r slot) told answered.moves),
    )

-- and so the ask is answered by the entries from that one
pub pick_answers : (part : PartOf) (rules : Rules) (entries : List Entry) (ask : AskOf) (slot : Option Slot) → rules ≡ part.snapshot.rules
    → AreContents part.snapshot (past_of part) entries → IsPick part ask slot
    → IsAnswered rules.stale ask entries (reply_to part.snapshot (past_of part) ask) slot
pick_answers part rules entries ask slot ruled contents pick =
    let same : found part.snapshot (past_of part) ask ≡ found_among entries ask = sym (found-contents part.snapshot (past_of part) ask entries contents) in
    record {
      answered =
          ap (λ f. reply_by part.snapshot.rules.stale f ask) same
          ∙ ap (λ (r : Rules). reply_by r.stale (found_among entries ask) ask) (sym ruled);
      moves = pick entries contents;
    }

-- ---- what is looked up

-- what stands before a key in the entries that are kept stands before it in what the keys are said to hold
pub stands_within : (part : PartOf) (entries : List Entry) (key : KeyOf) (age : ℕ) → AreContents part.snapshot (past_of part) entries → ahead_of key entries ≤ age
    → StandsWithin part key age
stands_within part entries key age kept few contents are =
    subst (λ (es : List Entry). ahead_of key es ≤ age) (one_contents part.snapshot (past_of part) entries contents kept are) few

-- what was found of an ask in the entries that are kept is what its part tells of it
pub lookup_told : (part : PartOf) (rules : Rules) (entries : List Entry) (ask : AskOf) (lookup : Lookup) → rules ≡ part.snapshot.rules
    → AreContents part.snapshot (past_of part) entries → reply_in lookup.reply ≡ reply_by rules.stale (found_among entries ask) ask
    → option_map held_in lookup.entry ≡ answering (found_among entries ask) ask (reply_in lookup.reply)
    → IfSome lookup.entry (λ lent. ahead_of lent.key.now entries ≤ lookup.age) → TellsNoAge lookup → TellsLookup part ask lookup
lookup_told part rules entries ask lookup ruled contents answered gave few none =
    let same : found_among entries ask ≡ found part.snapshot (past_of part) ask = found-contents part.snapshot (past_of part) ask entries contents in
    let reply : TellsReply part ask lookup =
    answered ∙ (ap (λ (r : Rules). reply_by r.stale (found_among entries ask) ask) ruled ∙ ap (λ f. reply_by part.snapshot.rules.stale f ask) same) in
    record {
      reply = reply;
      entry = gave ∙ (ap (λ f. answering f ask (reply_in lookup.reply)) same ∙ ap (λ r. answering (found part.snapshot (past_of part) ask) ask r) reply);
      ahead = IfSome_then lookup.entry few (λ lent before. stands_within part entries lent.key.now lookup.age contents before);
      miss = none;
    }

-- ---- the last key

-- what holds of each entry holds of one of them
all_got : (entries : List Entry) (place : ℕ) (entry : Entry) → AllByRecursion IsFit entries → slice_get entries place ≡ Some entry → IsFit entry
all_got [] place entry all is = absurd cc
all_got (first ∷ entries) zero entry all is = let same : first ≡ entry = cc in subst IsFit same all.0
all_got (first ∷ entries) (suc place) entry all is = all_got entries place entry all.1 is

-- the body of the last entry fits its key
pub last_fits : (entries : List Entry) (last : Option Held) → AllByRecursion IsFit entries → option_map held_in last ≡ last_of entries
    → IfSome last (λ held. fits held.key.now held.body.now ≡ true)
last_fits entries None all is = tt
last_fits entries (Some held) all is = all_got entries (length entries - 1) (held_in held) all (sym is)
