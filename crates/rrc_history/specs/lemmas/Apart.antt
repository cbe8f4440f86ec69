-- SPDX-License-Identifier: MIT
-- Entries of which no two have the same key.
use Rattle.std.specs.Prelude.{◌≡◌, ℕ, ◌≤◌, List, [], ◌∷◌, ◌++◌, Bool, true, false, not, ◌||◌, Some, None}
use Rattle.std.proofs.Common.{refl, ap, ◌∙◌, arith}
use Rattle.std.proofs.lemmas.List.Elements.{filter-append}
use Rattle.rrc_name.specs.Key.{KeyOf, key_eq}
use Rattle.rrc_name.specs.lemmas.KeyLaws.{key_eq-laws, key_eq-same}
use Rattle.rrc_history.specs.declared.event.Event.{Event}
use Rattle.rrc_history.specs.declared.snapshot.Entry.{Entry}
use Rattle.rrc_history.specs.declared.snapshot.Snapshot.{Snapshot}
use Rattle.rrc_history.specs.Past.{entry_at, touch, FallsBelow}
use Rattle.rrc_history.specs.Entries.{LacksKey, AreApart, staying, goes, in_front, promoted}

falls_lacks : (snapshot : Snapshot) (past : List Event) (key : KeyOf) (entries : List Entry) (number : ℕ) → FallsBelow snapshot past number entries
    → number ≤ touch snapshot past key → LacksKey key entries
falls_lacks snapshot past key [] number falls le = tt
falls_lacks snapshot past key (entry ∷ entries) number falls le =
    (by (key_eq key entry.key) refl, falls_lacks snapshot past key entries (touch snapshot past entry.key) falls.1 (omega (arith, falls.0)))
  where
    by : (same : Bool) → key_eq key entry.key ≡ same → key_eq key entry.key ≡ false
    by true is = absurd (let e : touch snapshot past key ≡ touch snapshot past entry.key = ap (touch snapshot past) (key_eq-same key entry.key is) in omega (arith, e, falls.0))
    by false is = is

-- keys that were touched at different times are not the same
pub falls_apart : (snapshot : Snapshot) (past : List Event) (number : ℕ) (entries : List Entry) → FallsBelow snapshot past number entries → AreApart entries
falls_apart snapshot past number [] falls = tt
falls_apart snapshot past number (entry ∷ entries) falls = (
  falls_lacks snapshot past entry.key entries (touch snapshot past entry.key) falls.1 (omega arith),
  falls_apart snapshot past (touch snapshot past entry.key) entries falls.1,
)

-- an entry among others is unlike those before and behind it
pub apart_before : (before : List Entry) (entry : Entry) (behind : List Entry) → AreApart (before ++ entry ∷ behind) → LacksKey entry.key before
apart_before [] entry behind apart = tt
apart_before (first ∷ before) entry behind apart = (key_eq-laws.symm entry.key first.key ∙ within before apart.0, apart_before before entry behind apart.1)
  where
    within : (es : List Entry) → LacksKey first.key (es ++ entry ∷ behind) → key_eq first.key entry.key ≡ false
    within [] all = all.0
    within (e ∷ es) all = within es all.1

pub apart_behind : (before : List Entry) (entry : Entry) (behind : List Entry) → AreApart (before ++ entry ∷ behind) → LacksKey entry.key behind
apart_behind [] entry behind apart = apart.0
apart_behind (first ∷ before) entry behind apart = apart_behind before entry behind apart.1

-- where no entry has the key, all stay
pub staying-lacks : (key : KeyOf) (entries : List Entry) → LacksKey key entries → staying (goes key None) entries ≡ entries
staying-lacks key [] all = refl
staying-lacks key (entry ∷ entries) all =
    let stays : goes key None entry.key ≡ false = ap (λ b. b || false) all.0 in
    rw stays (ap (λ es. entry ∷ es) (staying-lacks key entries all.1))

-- an entry among others goes alone
pub staying-middle : (before : List Entry) (entry : Entry) (behind : List Entry) → AreApart (before ++ entry ∷ behind)
    → staying (goes entry.key None) (before ++ entry ∷ behind) ≡ before ++ behind
staying-middle before entry behind apart =
    let gone : goes entry.key None entry.key ≡ true = ap (λ b. b || false) (key_eq-laws.refl entry.key) in
    let one : staying (goes entry.key None) (entry ∷ behind) ≡ behind = rw gone (staying-lacks entry.key behind (apart_behind before entry behind apart)) in
    filter-append (λ (e : Entry). not (goes entry.key None e.key)) before (entry ∷ behind)
    ∙ (ap (λ es. es ++ staying (goes entry.key None) (entry ∷ behind)) (staying-lacks entry.key before (apart_before before entry behind apart)) ∙ ap (λ es. before ++ es) one)

-- an entry among others is the one that is found
pub entry_at-middle : (before : List Entry) (entry : Entry) (behind : List Entry) → AreApart (before ++ entry ∷ behind) → entry_at entry.key (before ++ entry ∷ behind) ≡ Some entry
entry_at-middle before entry behind apart = by before (apart_before before entry behind apart)
  where
    by : (es : List Entry) → LacksKey entry.key es → entry_at entry.key (es ++ entry ∷ behind) ≡ Some entry
    by [] all = let same = key_eq-laws.refl entry.key in rw same refl
    by (e ∷ es) all = let not_here = all.0 in rw not_here (by es all.1)

-- an entry among others comes to the front
pub promoted-middle : (before : List Entry) (entry : Entry) (behind : List Entry) → AreApart (before ++ entry ∷ behind)
    → promoted entry.key (before ++ entry ∷ behind) ≡ entry ∷ (before ++ behind)
promoted-middle before entry behind apart =
    ap (λ found. in_front entry.key found (before ++ entry ∷ behind)) (entry_at-middle before entry behind apart) ∙ ap (λ es. entry ∷ es) (staying-middle before entry behind apart)
