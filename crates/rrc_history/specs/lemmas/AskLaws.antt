-- SPDX-License-Identifier: MIT
-- What an ask leaves of the contents.
use Rattle.std.specs.Prelude.{◌≡◌, List, ◌∷◌, Bool, true, false, ◌||◌, if◌then◌else◌, Option, Some, None}
use Rattle.std.proofs.Common.{refl, sym, ap, subst, ◌∙◌, inl, inr}
use Rattle.rrc_name.specs.Key.{KeyOf, key_eq}
use Rattle.rrc_name.specs.lemmas.KeyLaws.{key_eq-laws, key_eq-same}
use Rattle.rrc_name.specs.declared.slot.Slot.TheVariants.{Set, Nx, Failed}
use Rattle.rrc_history.specs.declared.event.Event.{Event}
use Rattle.rrc_history.specs.declared.event.Event.TheVariants.{Asked}
use Rattle.rrc_history.specs.declared.event.Reply.{Reply}
use Rattle.rrc_history.specs.declared.event.Tag.{Tag}
use Rattle.rrc_history.specs.declared.snapshot.Entry.{Entry}
use Rattle.rrc_history.specs.declared.snapshot.Snapshot.{Snapshot}
use Rattle.rrc_history.specs.Asked.{AskOf}
use Rattle.rrc_history.specs.Judged.{answering, is_miss, key_in}
use Rattle.rrc_history.specs.Past.{entry_at, held, found, key_at, is_evicted, AreContents}
use Rattle.rrc_history.specs.Entries.{staying, goes, found_among, in_front, promoted, answered_from}
use Rattle.rrc_history.specs.lemmas.EntryLaws.{entry_at-key}
use Rattle.rrc_history.specs.lemmas.OfferLaws.{stays_apart}
use Rattle.rrc_history.specs.lemmas.TrustHolds.{governing-is_held}
use Rattle.rrc_history.specs.lemmas.ContentsLaws.{contents_same, contents_touched}

pub found-contents : (snapshot : Snapshot) (past : List Event) (ask : AskOf) (entries : List Entry) → AreContents snapshot past entries → found_among entries ask ≡ found snapshot past ask
found-contents snapshot past ask entries are =
    λ i. record {
      set = are.agree (key_at ask (Set ask.rtype)) i;
      nx = are.agree (key_at ask Nx) i;
      failed = are.agree (key_at ask (Failed ask.rtype)) i;
    }

-- the entry that answers is found under its own key
pub answering-found : (entries : List Entry) (ask : AskOf) (reply : Reply) (entry : Entry) → answering (found_among entries ask) ask reply ≡ Some entry → entry_at entry.key entries ≡ Some entry
answering-found entries ask reply entry h = by (is_miss reply) refl
  where
    from : (key : KeyOf) → entry_at key entries ≡ Some entry → entry_at entry.key entries ≡ Some entry
    from key at = ap (λ k. entry_at k entries) (sym (entry_at-key key entries entry at)) ∙ at

    by : (b : Bool) → is_miss reply ≡ b → entry_at entry.key entries ≡ Some entry
    by true is = let bad : None ≡ Some entry = rw is at h in absurd cc
    by false is =
        elim (governing-is_held (entry_at (key_at ask (Set ask.rtype)) entries) (entry_at (key_at ask Nx) entries) ask.moment entry (rw is at h)) [
          | inl at ↦ from (key_at ask (Set ask.rtype)) at
          | inr at ↦ from (key_at ask Nx) at
        ]

pub ask_contents : (snapshot : Snapshot) (past : List Event) (tag : Tag) (ask : AskOf) (reply : Reply) (entries : List Entry) → AreContents snapshot past entries
    → AreContents snapshot (Asked tag ask reply ∷ past) (answered_from (key_in (answering (found_among entries ask) ask reply)) entries)
unfolding held
ask_contents snapshot past tag ask reply entries are = by (answering (found_among entries ask) ask reply) refl
  where
    same : (a : Option Entry) → answering (found_among entries ask) ask reply ≡ a → answering (found snapshot past ask) ask reply ≡ a
    same a is = ap (λ f. answering f ask reply) (sym (found-contents snapshot past ask entries are)) ∙ is

    leaves : (entry : Entry) → entry_at entry.key entries ≡ Some entry → (key : KeyOf) (own : Bool) → key_eq key entry.key ≡ own
        → held snapshot past key ≡ (if own then Some entry else if goes entry.key None key then None else held snapshot past key)
    leaves entry at key true is = sym (are.agree key) ∙ (ap (λ k. entry_at k entries) (key_eq-same key entry.key is) ∙ at)
    leaves entry at key false is =
        let stays : goes entry.key None key ≡ false = ap (λ b. b || false) (key_eq-laws.symm entry.key key ∙ is) in
        ap (λ b. if b then None else held snapshot past key) (sym stays)

    by : (a : Option Entry) → answering (found_among entries ask) ask reply ≡ a → AreContents snapshot (Asked tag ask reply ∷ past) (answered_from (key_in a) entries)
    by None is = contents_same snapshot past (Asked tag ask reply) entries are (ap key_in (same None is)) (λ key. refl)
    by (Some entry) is =
        let at = answering-found entries ask reply entry is in
        let gave = same (Some entry) is in
        let front : promoted entry.key entries ≡ entry ∷ staying (goes entry.key None) entries = ap (λ f. in_front entry.key f entries) at in
        let P : List Entry → Type 0 = AreContents snapshot (Asked tag ask reply ∷ past) in
        subst P (sym front)
        (contents_touched snapshot past (Asked tag ask reply) (goes entry.key None) entries entry are
        (ap (λ a. is_evicted entry.key (key_in a)) gave ∙ key_eq-laws.refl entry.key)
        (λ key stays. ap (λ a. is_evicted key (key_in a)) gave ∙ stays_apart entry.key None key stays)
        (λ key. leaves entry at key (key_eq key entry.key) refl))
