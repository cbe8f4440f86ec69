-- SPDX-License-Identifier: MIT
-- What a past leaves after a sweep.
use Rattle.std.proofs.Common.{◌≡◌, ℕ, ◌^◌, ◌<◌, List, [], ◌∷◌, ◌++◌, length, ◌≤◌, ◌||◌, None, Bool, true, false, refl, sym, ap, subst, ◌∙◌, arith}
use Rattle.std.specs.Prelude.{filter}
use Rattle.std.specs.List.{dedup}
use Rattle.std.proofs.lemmas.List.Kept.{Contains-dedup, Contains-from_dedup}
use Rattle.std.proofs.lemmas.Map.Views.{Contains-from_any, list_any-from_Contains}
use Rattle.rrc_name.specs.Key.{KeyOf, key_eq}
use Rattle.rrc_name.specs.lemmas.KeyLaws.{key_eq-laws, key_eq-same}
use Rattle.rrc_history.specs.declared.event.Event.{Event}
use Rattle.rrc_history.specs.declared.event.Event.TheVariants.{Swept}
use Rattle.rrc_history.specs.declared.event.Tag.{Tag}
use Rattle.rrc_history.specs.declared.snapshot.Entry.{Entry}
use Rattle.rrc_history.specs.declared.snapshot.Snapshot.{Snapshot}
use Rattle.rrc_history.specs.Past.{entry_at, is_among, number_after, AreContents}
use Rattle.rrc_history.specs.Right.{IsRight, is_swept}
use Rattle.rrc_history.specs.Entries.{staying, goes, AreApart, living}
use Rattle.rrc_history.specs.lemmas.OfferLaws.{length-staying_le}
use Rattle.rrc_history.specs.lemmas.Apart.{falls_apart}
use Rattle.rrc_history.specs.lemmas.SweepLaws.{fully_expired_keys-found, living-staying, sweep_contents}
use Rattle.rrc_history.specs.Lives.{LAST_MOMENT}
use Rattle.rrc_cache.specs.Calls.{Leaves}
use Rattle.rrc_cache.specs.Taken.{AreExpiredKeys}
use Rattle.rrc_cache.proofs.Leaving.{right_leaves}
use Rattle.rrc_cache.proofs.Sound.{made_of, made_more, made_staying}

-- ---- the keys

-- taking out what equals its neighbour takes no key away
pub among-dedup : (key : KeyOf) (keys : List KeyOf) → is_among key (dedup key_eq keys) ≡ is_among key keys
among-dedup key keys = by (is_among key keys) refl (is_among key (dedup key_eq keys)) refl
  where
    by : (before : Bool) → is_among key keys ≡ before → (after : Bool) → is_among key (dedup key_eq keys) ≡ after → after ≡ before
    by true was true is = refl
    by true was false is =
        let stays : is_among key (dedup key_eq keys) ≡ true =
        list_any-from_Contains key_eq-laws key (dedup key_eq keys) (Contains-dedup key_eq-laws key_eq-same keys key (Contains-from_any key_eq-same key keys was)) in
        sym is ∙ stays
    by false was true is =
        let stood : is_among key keys ≡ true =
        list_any-from_Contains key_eq-laws key keys (Contains-from_dedup key_eq keys key (Contains-from_any key_eq-same key (dedup key_eq keys) is)) in
        sym stood ∙ was
    by false was false is = refl

-- ---- the entries

-- the entries that stay where one more key goes
pub staying_more : (gone : List KeyOf) (key : KeyOf) (entries : List Entry)
    → staying (goes key None) (staying (λ k. is_among k gone) entries) ≡ staying (λ k. is_among k (gone ++ key ∷ [])) entries
staying_more gone key [] = refl
staying_more gone key (entry ∷ entries) =
    by (is_among entry.key gone) refl (key_eq key entry.key) refl (more gone) (staying_more gone key entries)
  where
    more : (keys : List KeyOf) → is_among entry.key (keys ++ key ∷ []) ≡ (is_among entry.key keys || key_eq key entry.key)
    more [] = or_false (key_eq entry.key key) ∙ key_eq-laws.symm entry.key key
      where
        or_false : (b : Bool) → (b || false) ≡ b
        or_false true = refl
        or_false false = refl
    more (first ∷ keys) = ap (λ b. key_eq entry.key first || b) (more keys) ∙ or_assoc (key_eq entry.key first) (is_among entry.key keys) (key_eq key entry.key)
      where
        or_assoc : (a b c : Bool) → (a || (b || c)) ≡ ((a || b) || c)
        or_assoc true b c = refl
        or_assoc false b c = refl

    by : (was : Bool) → is_among entry.key gone ≡ was → (same : Bool) → key_eq key entry.key ≡ same
        → is_among entry.key (gone ++ key ∷ []) ≡ (is_among entry.key gone || key_eq key entry.key)
        → staying (goes key None) (staying (λ k. is_among k gone) entries) ≡ staying (λ k. is_among k (gone ++ key ∷ [])) entries
        → staying (goes key None) (staying (λ k. is_among k gone) (entry ∷ entries)) ≡ staying (λ k. is_among k (gone ++ key ∷ [])) (entry ∷ entries)
    by true is same at both rest = let now : is_among entry.key (gone ++ key ∷ []) ≡ true = both ∙ ap (λ b. b || key_eq key entry.key) is in rw (is, now) rest
    by false is true at both rest =
        let now : is_among entry.key (gone ++ key ∷ []) ≡ true = both ∙ (ap (λ b. b || key_eq key entry.key) is ∙ at) in
        rw (is, now, filter) (rw at rest)
    by false is false at both rest =
        let now : is_among entry.key (gone ++ key ∷ []) ≡ false = both ∙ (ap (λ b. b || key_eq key entry.key) is ∙ at) in
        rw (is, now, filter) (rw at (ap (λ es. entry ∷ es) rest))

-- ---- the past

pub sweep_leaves : (snapshot : Snapshot) (past : List Event) (entries : List Entry) (tag : Tag) (moment : ℕ) (gone : List KeyOf) (kept : List Entry)
    → Leaves snapshot past entries → number_after snapshot past < 2 ^ 62 → moment ≤ LAST_MOMENT → AreExpiredKeys snapshot.rules.stale moment entries gone
    → kept ≡ staying (λ key. is_among key gone) entries → Leaves snapshot (Swept tag moment gone ∷ past) kept
sweep_leaves snapshot past entries tag moment gone kept leaves below timely expired is =
    let event : Event = Swept tag moment gone in
    let stale : ℕ = snapshot.rules.stale in
    let out : KeyOf → Bool = λ key. is_among key gone in
    let apart : AreApart entries = falls_apart snapshot past (number_after snapshot past) entries leaves.contents.falling in
    let listed : (key : KeyOf) → is_among key gone ≡ is_swept stale (entry_at key entries) moment = λ key. expired.expired key ∙ fully_expired_keys-found stale moment key entries apart in
    let right : IsRight snapshot past event = record {
      numbered = below;
      right = record {
        timely = timely;
        sorted = expired.sorted;
        expired = λ key. listed key ∙ ap (λ found. is_swept stale found moment) (leaves.contents.agree key);
      };
    } in
    let lives : staying out entries ≡ living stale moment entries = sym (living-staying stale moment out entries apart listed) in
    let few : length (staying out entries) ≤ snapshot.rules.capacity = omega (arith, length-staying_le out entries, leaves.kept.few) in
    let P : List Entry → Type 0 = Leaves snapshot (event ∷ past) in
    subst P (sym is)
    (right_leaves snapshot past event (staying out entries) leaves.legal right
    (let Q : List Entry → Type 0 = AreContents snapshot (event ∷ past) in
    subst Q (sym lives) (sweep_contents snapshot past tag moment gone entries leaves.contents apart listed))
    few
    (made_more (number_after snapshot past) (staying out entries)
    (made_staying (number_after snapshot past) out entries (made_of snapshot.rules.capacity (number_after snapshot past) entries leaves.kept))))
