-- SPDX-License-Identifier: MIT
-- What a sweep leaves of the contents.
use Rattle.std.specs.Prelude.{◌≡◌, ℕ, List, [], ◌∷◌, ◌++◌, Bool, true, false, not, cond, filter}
use Rattle.std.proofs.Common.{refl, sym, ap, subst, ◌∙◌, append_assoc}
use Rattle.rrc_name.specs.Key.{KeyOf, key_eq}
use Rattle.rrc_name.specs.lemmas.KeyLaws.{key_eq-same}
use Rattle.rrc_history.specs.declared.event.Event.{Event}
use Rattle.rrc_history.specs.declared.event.Event.TheVariants.{Swept}
use Rattle.rrc_history.specs.declared.event.Tag.{Tag}
use Rattle.rrc_history.specs.declared.snapshot.Entry.{Entry}
use Rattle.rrc_history.specs.declared.snapshot.Snapshot.{Snapshot}
use Rattle.rrc_history.specs.Lives.{is_fully_expired}
use Rattle.rrc_history.specs.Past.{held, entry_at, is_among, AreContents}
use Rattle.rrc_history.specs.Right.{is_swept}
use Rattle.rrc_history.specs.Entries.{LacksKey, AreApart, staying, living, fully_expired_keys}
use Rattle.rrc_history.specs.lemmas.ContentsLaws.{contents_staying}
use Rattle.rrc_history.specs.lemmas.Apart.{entry_at-middle}

-- where no entry has a key, it is not that of a fully expired one
pub fully_expired_keys-lacks : (stale moment : ℕ) (key : KeyOf) (entries : List Entry) → LacksKey key entries → is_among key (fully_expired_keys stale moment entries) ≡ false
fully_expired_keys-lacks stale moment key [] all = refl
fully_expired_keys-lacks stale moment key (entry ∷ entries) all = by (is_fully_expired stale entry moment) refl (fully_expired_keys-lacks stale moment key entries all.1)
  where
    by : (dead : Bool) → is_fully_expired stale entry moment ≡ dead → is_among key (fully_expired_keys stale moment entries) ≡ false
        → is_among key (fully_expired_keys stale moment (entry ∷ entries)) ≡ false
    by true is rest = let other = all.0 in rw is (rw (other, rest) refl)
    by false is rest = rw is rest

-- of entries apart, a key is that of a fully expired one exactly where the entry found under it is
pub fully_expired_keys-found : (stale moment : ℕ) (key : KeyOf) (entries : List Entry) → AreApart entries
    → is_among key (fully_expired_keys stale moment entries) ≡ is_swept stale (entry_at key entries) moment
fully_expired_keys-found stale moment key [] apart = refl
fully_expired_keys-found stale moment key (entry ∷ entries) apart =
    by (is_fully_expired stale entry moment) refl (key_eq key entry.key) refl (fully_expired_keys-found stale moment key entries apart.1)
  where
    lacks : key_eq key entry.key ≡ true → is_among key (fully_expired_keys stale moment entries) ≡ false
    lacks same =
        let P : KeyOf → Type 0 = λ k. LacksKey k entries in
        fully_expired_keys-lacks stale moment key entries (subst P (sym (key_eq-same key entry.key same)) apart.0)

    by : (dead : Bool) → is_fully_expired stale entry moment ≡ dead → (same : Bool) → key_eq key entry.key ≡ same
        → is_among key (fully_expired_keys stale moment entries) ≡ is_swept stale (entry_at key entries) moment
        → is_among key (fully_expired_keys stale moment (entry ∷ entries)) ≡ is_swept stale (entry_at key (entry ∷ entries)) moment
    by true is true at rest = rw (is, filter) (rw at (sym is))
    by true is false at rest = rw (is, filter) (rw at rest)
    by false is true at rest = rw (is, filter) (rw at (lacks at ∙ sym is))
    by false is false at rest = rw (is, filter) (rw at rest)

-- where the keys that go are those whose entries are fully expired, the entries behind some stay as
-- they live
living-behind : (stale moment : ℕ) (out : KeyOf → Bool) (before behind : List Entry) → AreApart (before ++ behind)
    → ((key : KeyOf) → out key ≡ is_swept stale (entry_at key (before ++ behind)) moment) → living stale moment behind ≡ staying out behind
living-behind stale moment out before [] apart all = refl
living-behind stale moment out before (entry ∷ behind) apart all =
    let here : out entry.key ≡ is_fully_expired stale entry moment = all entry.key ∙ ap (λ found. is_swept stale found moment) (entry_at-middle before entry behind apart) in
    let more : (before ++ entry ∷ []) ++ behind ≡ before ++ entry ∷ behind = append_assoc before (entry ∷ []) behind in
    let P : List Entry → Type 0 = λ es. (key : KeyOf) → out key ≡ is_swept stale (entry_at key es) moment in
    let rest : living stale moment behind ≡ staying out behind =
    living-behind stale moment out (before ++ entry ∷ []) behind (subst AreApart (sym more) apart) (subst P (sym more) all) in
    ap (λ dead. cond (not dead) (entry ∷ living stale moment behind) (living stale moment behind)) (sym here)
    ∙ ap (λ es. cond (not (out entry.key)) (entry ∷ es) es) rest

pub living-staying : (stale moment : ℕ) (out : KeyOf → Bool) (entries : List Entry) → AreApart entries
    → ((key : KeyOf) → out key ≡ is_swept stale (entry_at key entries) moment) → living stale moment entries ≡ staying out entries
living-staying stale moment out entries apart all = living-behind stale moment out [] entries apart all

-- a sweep of the fully expired keys leaves what lives
pub sweep_contents : (snapshot : Snapshot) (past : List Event) (tag : Tag) (moment : ℕ) (gone : List KeyOf) (entries : List Entry) → AreContents snapshot past entries → AreApart entries
    → ((key : KeyOf) → is_among key gone ≡ is_swept snapshot.rules.stale (entry_at key entries) moment)
    → AreContents snapshot (Swept tag moment gone ∷ past) (living snapshot.rules.stale moment entries)
unfolding held
sweep_contents snapshot past tag moment gone entries are apart dead =
    let out : KeyOf → Bool = λ key. is_among key gone in
    let P : List Entry → Type 0 = AreContents snapshot (Swept tag moment gone ∷ past) in
    subst P (sym (living-staying snapshot.rules.stale moment out entries apart dead))
    (contents_staying snapshot past (Swept tag moment gone) out entries are (λ key stays. refl) (λ key. refl))
