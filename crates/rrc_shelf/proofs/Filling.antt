-- SPDX-License-Identifier: MIT
-- Writing into a buffer, one piece behind another.
use Rattle.std.proofs.Common.{◌≡◌, ℕ, ◌+◌, ◌≤◌, List, [], ◌∷◌, ◌++◌, length, take, drop, get_or, sym, ap, subst, ◌∙◌, append_assoc, append-nil, arith, ◌/◌, ◌%◌, ◌<◌, zero, suc, not-suc-le-zero, le_of_suc-le-suc}
use Rattle.std.proofs.lemmas.List.{take_at, take_more, length-append, drop-drop}
use Rattle.std.proofs.Math.Seq.{drop-append-add}
use Rattle.rrc_shelf.specs.Asks.{datum, data_text, AreNarrow, IsFilled, WritesOn}

-- what stands behind the next piece
behind : (before text : List ℕ) (n : ℕ) → drop (length text + n) (text ++ drop (length text) before) ≡ drop (length text + n) before
behind before text n = drop-append-add text (drop (length text) before) n ∙ drop-drop n (length text) before

-- what was written at a place stands behind what stands before it
pub writes_on : (size : ℕ) (more old new : List ℕ) → new ≡ take size old ++ more ++ drop (size + length more) old → WritesOn size more old new
writes_on size more old new is before text long filled =
    let front : take size old ≡ text = ap (take size) filled ∙ take_at text (drop (length text) before) size long in
    let back : drop (size + length more) old ≡ drop (length (text ++ more)) before =
    ap (λ n. drop (n + length more) old) (sym long) ∙ ap (drop (length text + length more)) filled ∙ behind before text (length more) ∙ ap (λ n. drop n before) (sym (length-append text more)) in
    is ∙ (λ i. front i ++ more ++ back i)

-- one piece behind another
pub writes_both : (size : ℕ) (first second old middle new : List ℕ) → WritesOn size first old middle → WritesOn (size + length first) second middle new → WritesOn size (first ++ second) old new
writes_both size first second old middle new one two before text long filled =
    let P : List ℕ → Type 0 = λ all. IsFilled before all new in
    subst P (append_assoc text first second) (two before (text ++ first) (length-append text first ∙ ap (λ n. n + length first) long) (one before text long filled))

-- data and one more behind them
pub data_more : (items : List (List ℕ)) (item : List ℕ) → data_text (items ++ item ∷ []) ≡ data_text items ++ datum item
data_more [] item = ap (λ octets. length item / 256 ∷ length item % 256 ∷ octets) (append-nil item)
data_more (first ∷ behind) item =
    ap (λ octets. length first / 256 ∷ length first % 256 ∷ octets) (ap (λ octets. first ++ octets) (data_more behind item) ∙ sym (append_assoc first (data_text behind) (datum item)))

-- a datum has its place among the data
taken : (items : List (List ℕ)) (i : ℕ) (d : List ℕ) → i < length items → length (data_text (take i items)) + length (datum (get_or items i d)) ≤ length (data_text items)
taken [] i d h = absurd (not-suc-le-zero h)
taken (first ∷ behind) zero d h = let long = length-append (datum first) (data_text behind) in omega (arith, long)
taken (first ∷ behind) (suc i) d h =
    let rest = taken behind i d (le_of_suc-le-suc h) in
    let one = length-append (datum first) (data_text (take i behind)) in
    let all = length-append (datum first) (data_text behind) in
    omega (arith, rest, one, all)

pub room_for_next : (owner : List ℕ) (items : List (List ℕ)) (i at room : ℕ) (item d : List ℕ) → i < length items → item ≡ get_or items i d
    → at ≡ length (owner ++ data_text (take i items)) → length (owner ++ data_text items) ≤ room → at + length (datum item) ≤ room
room_for_next owner items i at room item d below is here fits =
    let most = taken items i d below in
    let before = length-append owner (data_text (take i items)) in
    let all = length-append owner (data_text items) in
    let same : length item ≡ length (get_or items i d) = ap length is in
    omega (arith, most, before, all, same, here, fits)

pub narrow_next : (items : List (List ℕ)) (i : ℕ) (item d : List ℕ) → i < length items → item ≡ get_or items i d → AreNarrow items → length item ≤ 65535
narrow_next [] i item d below is narrow = absurd (not-suc-le-zero below)
narrow_next (first ∷ behind) zero item d below is narrow = subst (λ octets. length octets ≤ 65535) (sym is) narrow.0
narrow_next (first ∷ behind) (suc i) item d below is narrow = narrow_next behind i item d (le_of_suc-le-suc below) is narrow.1

-- after a datum more
pub fills_next : (owner : List ℕ) (items : List (List ℕ)) (i at : ℕ) (item d before old new : List ℕ) → i < length items → item ≡ get_or items i d
    → IsFilled before (owner ++ data_text (take i items)) old × (at ≡ length (owner ++ data_text (take i items))) → WritesOn at (datum item) old new
    → IsFilled before (owner ++ data_text (take (i + 1) items)) new × (at + (length item + 2) ≡ length (owner ++ data_text (take (i + 1) items)))
fills_next owner items i at item d before old new below is (filled, here) writes =
    let text = owner ++ data_text (take i items) in
    let more : data_text (take (i + 1) items) ≡ data_text (take i items) ++ datum item =
    ap data_text (take_more items i d below ∙ ap (λ last. take i items ++ last ∷ []) (sym is)) ∙ data_more (take i items) item in
    let next : text ++ datum item ≡ owner ++ data_text (take (i + 1) items) = append_assoc owner (data_text (take i items)) (datum item) ∙ ap (λ octets. owner ++ octets) (sym more) in
    let size = ap length (sym next) ∙ length-append text (datum item) in
    (subst (λ octets. IsFilled before octets new) next (writes before text (sym here) filled), omega (arith, here, size))

-- a datum moved from the octets that are left to the items
pub moved : (items more : List (List ℕ)) (item rest behind octets : List ℕ) → data_text items ++ rest ≡ octets → rest ≡ datum item ++ behind → more ≡ items ++ item ∷ []
    → data_text more ++ behind ≡ octets
moved items more item rest behind octets all first is =
    ap (λ xs. data_text xs ++ behind) is ∙ ap (λ xs. xs ++ behind) (data_more items item) ∙ append_assoc (data_text items) (datum item) behind
    ∙ ap (λ xs. data_text items ++ xs) (sym first) ∙ all
