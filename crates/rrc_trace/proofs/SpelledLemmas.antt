-- SPDX-License-Identifier: MIT
-- What a field says as it is read is what it says by the grammar: numbers and words.
use Rattle.std.proofs.Common.{◌≡◌, ◌≢◌, ◌⊎◌, ◌==◌, ◌≤◌, ◌^◌, ℕ, suc, ◌+◌, ◌-◌, ◌*◌, List, [], ◌∷◌, ◌++◌, Option, Some, None, Bool, true, false, cond, option_and_then, refl, sym, ap, subst, ◌∙◌, arith, inl, inr, bytes_eq, codes, if◌then◌else◌, length, take, drop, option_map, append-nil, append_assoc, eqb-true}
use Rattle.std.specs.Char.{is_ascii_digit}
use Rattle.std.specs.List.{AllByRecursion}
use Rattle.std.proofs.lemmas.Slice.Eq.{bytes_eq-Decides}
use Rattle.rrc_history.specs.Lives.{rank as rank_of_trust, LAST_MOMENT}
use Rattle.rrc_history.specs.declared.ask.Mode.{Mode}
use Rattle.rrc_history.specs.declared.ask.Mode.TheVariants.{NoStale, Failed, Now}
use Rattle.rrc_history.specs.declared.ask.Purpose.{Purpose}
use Rattle.rrc_history.specs.declared.ask.Purpose.TheVariants.{Any, Answer}
use Rattle.rrc_history.specs.declared.body.Trust.{Trust}
use Rattle.rrc_history.specs.declared.body.Trust.TheVariants.{Additional, NonAuthoritativeAnswer, Authority, AuthoritativeAnswer}
use Rattle.rrc_wire.specs.Layout.{is_kept}
use Rattle.rrc_trace.specs.declared.read.form.Form.{Form}
use Rattle.rrc_trace.specs.declared.read.form.Form.TheVariants as forms
use Rattle.rrc_text.specs.Numbers.{number_behind, number_of, at_most, ttl_of, word_of, slash_in, kind_at, kind_of, rank, trust_of}
use Rattle.rrc_trace.specs.Numbers.{moment_of, kept_kind, rtype_of}
use Rattle.rrc_trace.specs.Forms.{form_of}
use Rattle.rrc_text.specs.Words.{purpose_of, mode_of}
use Rattle.rrc_trace.specs.Grammar.{SpellsNumber, one_digit, digit_more, IsMoment, IsWord, SpellsRtype, in_alone, with_class, IsRtype, IsTrust, IsTtl}
use Rattle.rrc_text.specs.Grammar.{purpose_word, mode_word}
use Rattle.rrc_text.specs.declared.kind.Kind.{Kind}
use Rattle.rrc_text.proofs.SaidLemmas.{said_first, said_last}
use Rattle.rrc_text.proofs.NumeralLemmas.{digit-value, value-digit, at_most-says, within-is, slash_from, one_more, slash-cons, slash-behind, drop-front, take-front, slash-none, rank-small, rank-ranked}

behind-spells : (digits front : List ℕ) (number result : ℕ) → SpellsNumber front number → number_behind number digits ≡ Some result → SpellsNumber (front ++ digits) result
behind-spells [] front number result spells is =
    subst (λ (text : List ℕ). SpellsNumber text result) (sym (append-nil front)) (subst (SpellsNumber front) (said_last is) spells)
behind-spells (digit ∷ digits) front number result spells is = by (is_ascii_digit digit) refl (behind-spells digits (front ++ digit ∷ []) (10 * number + (digit - 48)) result)
  where
    by : (ascii : Bool) → is_ascii_digit digit ≡ ascii
        → (SpellsNumber (front ++ digit ∷ []) (10 * number + (digit - 48)) → number_behind (10 * number + (digit - 48)) digits ≡ Some result → SpellsNumber ((front ++ digit ∷ []) ++ digits) result)
        → SpellsNumber (front ++ digit ∷ digits) result
    by false other later = let never : None ≡ Some result = rw other at is in absurd cc
    by true ascii later =
        let value = digit-value digit ascii in
        let one : SpellsNumber (front ++ digit ∷ []) (10 * number + (digit - 48)) =
        subst (λ (octet : ℕ). SpellsNumber (front ++ octet ∷ []) (10 * number + (digit - 48))) value.same (digit_more spells value.small) in
        let rest : number_behind (10 * number + (digit - 48)) digits ≡ Some result = rw ascii at is in
        subst (λ (text : List ℕ). SpellsNumber text result) (append_assoc front (digit ∷ []) digits) (later one rest)

number-spells : (digits : List ℕ) (number : ℕ) → number_of digits ≡ Some number → SpellsNumber digits number
number-spells [] number is = absurd cc
number-spells (digit ∷ digits) number is = by (is_ascii_digit digit) refl
  where
    by : (ascii : Bool) → is_ascii_digit digit ≡ ascii → SpellsNumber (digit ∷ digits) number
    by false other = let never : None ≡ Some number = rw other at is in absurd cc
    by true ascii =
        let value = digit-value digit ascii in
        let one : SpellsNumber (digit ∷ []) (10 * 0 + (digit - 48)) =
        subst (λ (octet : ℕ). SpellsNumber (octet ∷ []) (10 * 0 + (digit - 48))) value.same
        (subst (SpellsNumber ((48 + (digit - 48)) ∷ [])) (omega arith) (one_digit value.small)) in
        let rest : number_behind (10 * 0 + (digit - 48)) digits ≡ Some number = rw ascii at is in
        behind-spells digits (digit ∷ []) (10 * 0 + (digit - 48)) number one rest

-- one more digit
behind-more : (digits : List ℕ) (front number value : ℕ) → number_behind front digits ≡ Some number → value ≤ 9
    → number_behind front (digits ++ (48 + value) ∷ []) ≡ Some (10 * number + value)
behind-more [] front number value is small =
    let same : front ≡ number = said_last is in
    rw (value-digit value small) (ap Some (omega (arith, same)))
behind-more (digit ∷ digits) front number value is small = by (is_ascii_digit digit) refl (behind-more digits (10 * front + (digit - 48)) number value)
  where
    by : (ascii : Bool) → is_ascii_digit digit ≡ ascii
        → (number_behind (10 * front + (digit - 48)) digits ≡ Some number → value ≤ 9 → number_behind (10 * front + (digit - 48)) (digits ++ (48 + value) ∷ []) ≡ Some (10 * number + value))
        → number_behind front (digit ∷ digits ++ (48 + value) ∷ []) ≡ Some (10 * number + value)
    by false other later = let never : None ≡ Some number = rw other at is in absurd cc
    by true ascii later =
        let rest : number_behind (10 * front + (digit - 48)) digits ≡ Some number = rw ascii at is in rw ascii (later rest small)

number-more : (digits : List ℕ) (number value : ℕ) → number_of digits ≡ Some number → value ≤ 9 → number_of (digits ++ (48 + value) ∷ []) ≡ Some (10 * number + value)
number-more [] number value is small = absurd cc
number-more (digit ∷ digits) number value is small = behind-more (digit ∷ digits) 0 number value is small

spelled-number : (digits : List ℕ) (number : ℕ) → SpellsNumber digits number → number_of digits ≡ Some number
spelled-number digits number (one_digit {value = value} small) = rw (value-digit value small) (ap Some (omega arith))
spelled-number digits number (digit_more {digits = front} {number = before} {value = value} spells small) =
    number-more front before value (spelled-number front before spells) small

pub moment-says : (field : List ℕ) (moment : ℕ) → moment_of field ≡ Some moment → IsMoment field moment
moment-says field moment is =
    let within = at_most-says LAST_MOMENT (number_of field) moment is in
    record { digits = number-spells field moment within.is; few = within.few }

pub says_moment : (field : List ℕ) (moment : ℕ) → IsMoment field moment → moment_of field ≡ Some moment
says_moment field moment is = within-is LAST_MOMENT (number_of field) moment (spelled-number field moment is.digits) is.few

pub ttl-says : (field : List ℕ) (ttl : ℕ) → ttl_of field ≡ Some ttl → IsTtl field ttl
ttl-says field ttl is =
    let within = at_most-says (2 ^ 32 - 1) (number_of field) ttl is in
    record { digits = number-spells field ttl within.is; few = within.few }

pub says_ttl : (field : List ℕ) (ttl : ℕ) → IsTtl field ttl → ttl_of field ≡ Some ttl
says_ttl field ttl is = within-is (2 ^ 32 - 1) (number_of field) ttl (spelled-number field ttl is.digits) is.few

word-says : (field : List ℕ) (number : ℕ) → word_of field ≡ Some number → IsWord field number
word-says field number is =
    let within = at_most-says (2 ^ 16 - 1) (number_of field) number is in
    record { digits = number-spells field number within.is; few = within.few }

says_word : (field : List ℕ) (number : ℕ) → IsWord field number → word_of field ≡ Some number
says_word field number is = within-is (2 ^ 16 - 1) (number_of field) number (spelled-number field number is.digits) is.few

-- no digit is a slash
unslashed-append : (front behind : List ℕ) → AllByRecursion (λ octet. octet ≢ 47) front → AllByRecursion (λ octet. octet ≢ 47) behind
    → AllByRecursion (λ octet. octet ≢ 47) (front ++ behind)
unslashed-append [] behind none are = are
unslashed-append (octet ∷ front) behind none are = (none.0, unslashed-append front behind none.1 are)

no_slash : (value : ℕ) → AllByRecursion (λ octet. octet ≢ 47) ((48 + value) ∷ [])
no_slash value = (λ is. absurd (omega (arith, is)), tt)

unslashed : (digits : List ℕ) (number : ℕ) → SpellsNumber digits number → AllByRecursion (λ octet. octet ≢ 47) digits
unslashed digits number (one_digit {value = value} small) = no_slash value
unslashed digits number (digit_more {digits = front} {number = before} {value = value} spells small) =
    unslashed-append front ((48 + value) ∷ []) (unslashed front before spells) (no_slash value)

slash-cut : (field : List ℕ) (place : ℕ) → slash_in field ≡ Some place → field ≡ take place field ++ 47 ∷ drop (place + 1) field
slash-cut [] place is = absurd cc
slash-cut (octet ∷ octets) place is = by (octet == 47) refl (slash_in octets) refl (slash-cut octets)
  where
    by : (slash : Bool) → (octet == 47) ≡ slash → (later : Option ℕ) → slash_in octets ≡ later
        → ((other : ℕ) → slash_in octets ≡ Some other → octets ≡ take other octets ++ 47 ∷ drop (other + 1) octets)
        → octet ∷ octets ≡ take place (octet ∷ octets) ++ 47 ∷ drop (place + 1) (octet ∷ octets)
    by true slash later at rest =
        let zero_is : 0 ≡ place = said_last (sym (ap (slash_from octet octets) slash) ∙ (sym (slash-cons octet octets) ∙ is)) in
        subst (λ (p : ℕ). octet ∷ octets ≡ take p (octet ∷ octets) ++ 47 ∷ drop (p + 1) (octet ∷ octets)) zero_is
        (ap (λ (o : ℕ). o ∷ octets) (eqb-true octet 47 slash))
    by false other None at rest =
        let never : None ≡ Some place = sym (ap (option_map suc) at) ∙ (sym (ap (slash_from octet octets) other) ∙ (sym (slash-cons octet octets) ∙ is)) in absurd cc
    by false other (Some before) at rest =
        let next : suc before ≡ place =
        said_last (sym (ap (option_map suc) at) ∙ (sym (ap (slash_from octet octets) other) ∙ (sym (slash-cons octet octets) ∙ is))) in
        subst (λ (p : ℕ). octet ∷ octets ≡ take p (octet ∷ octets) ++ 47 ∷ drop (p + 1) (octet ∷ octets)) next
        (subst (λ (n : ℕ). octet ∷ octets ≡ take (suc before) (octet ∷ octets) ++ 47 ∷ drop n (octet ∷ octets)) (one_more before)
        (ap (λ (o : List ℕ). octet ∷ o) (rest before at)))

kind_at-says : (field : List ℕ) (place : Option ℕ) (kind : Kind) → slash_in field ≡ place → kind_at field place ≡ Some kind → SpellsRtype field kind.rtype kind.class
kind_at-says field None kind at is =
    let rtype = said_first (word_of field) _ kind is in
    subst (λ (k : Kind). SpellsRtype field k.rtype k.class) (said_last rtype.1.1) (in_alone (word-says field rtype.0 rtype.1.0))
kind_at-says field (Some place) kind at is =
    let rtype = said_first (word_of (take place field)) _ kind is in
    let class = said_first (word_of (drop (place + 1) field)) _ kind rtype.1.1 in
    subst (λ (k : Kind). SpellsRtype field k.rtype k.class) (said_last class.1.1)
    (subst (λ (text : List ℕ). SpellsRtype text rtype.0 class.0) (sym (slash-cut field place at))
    (with_class (word-says (take place field) rtype.0 rtype.1.0) (word-says (drop (place + 1) field) class.0 class.1.0)))

says_kind : (field : List ℕ) (rtype class : ℕ) → SpellsRtype field rtype class → kind_of field ≡ Some (record { rtype = rtype; class = class })
says_kind field rtype class (in_alone is) =
    ap (kind_at field) (slash-none field (unslashed field rtype is.digits)) ∙ rw (says_word field rtype is) refl
says_kind field rtype class (with_class {front = front} {behind = behind} is is_class) =
    let at : slash_in (front ++ 47 ∷ behind) ≡ Some (length front) = slash-behind front behind (unslashed front rtype is.digits) in
    let first : word_of (take (length front) (front ++ 47 ∷ behind)) ≡ Some rtype = ap word_of (take-front front (47 ∷ behind)) ∙ says_word front rtype is in
    let last : word_of (drop (length front + 1) (front ++ 47 ∷ behind)) ≡ Some class = ap word_of (drop-front front behind 47) ∙ says_word behind class is_class in
    ap (kind_at (front ++ 47 ∷ behind)) at ∙ rw (first, last) refl

record IsKeptAs (number kind : Kind) : Type 0 where
  same : number ≡ kind
  kept : is_kept kind.rtype kind.class ≡ true

kept_kind-says : (number kind : Kind) → kept_kind number ≡ Some kind → IsKeptAs number kind
kept_kind-says number kind is = by (is_kept number.rtype number.class) refl
  where
    by : (kept : Bool) → is_kept number.rtype number.class ≡ kept → IsKeptAs number kind
    by true kept =
        let same : number ≡ kind = said_last (rw kept at is) in
        record { same = same; kept = subst (λ (k : Kind). is_kept k.rtype k.class ≡ true) same kept }
    by false kept = let never : None ≡ Some kind = rw kept at is in absurd cc

pub rtype-says : (field : List ℕ) (kind : Kind) → rtype_of field ≡ Some kind → IsRtype field kind.rtype kind.class
rtype-says field kind is =
    let found = said_first (kind_of field) kept_kind kind is in
    let kept = kept_kind-says found.0 kind found.1.1 in
    record { spelled = kind_at-says field (slash_in field) kind refl (found.1.0 ∙ ap Some kept.same); kept = kept.kept }

pub says_rtype : (field : List ℕ) (kind : Kind) → IsRtype field kind.rtype kind.class → rtype_of field ≡ Some kind
says_rtype field kind is = ap (option_and_then kept_kind) (says_kind field kind.rtype kind.class is.spelled) ∙ rw is.kept refl

-- the first of some choices, or one of those behind it
choice : {X : Type 0} (first : Bool) (here : X) (others : Option X) (value : X) → cond first (Some here) others ≡ Some value
    → ((first ≡ true) × (here ≡ value)) ⊎ (others ≡ Some value)
choice true here others value is = inl (refl, said_last is)
choice false here others value is = inr is

rank-says : (number : ℕ) (trust : Trust) → rank number ≡ Some trust → number ≡ rank_of_trust trust
rank-says number trust is =
    elim (choice (number == 1) Additional _ trust is) [
      | inl one ↦ eqb-true number 1 one.0 ∙ ap rank_of_trust one.1
      | inr others ↦ elim (choice (number == 2) NonAuthoritativeAnswer _ trust others) [
        | inl two ↦ eqb-true number 2 two.0 ∙ ap rank_of_trust two.1
        | inr others ↦ elim (choice (number == 3) Authority _ trust others) [
          | inl three ↦ eqb-true number 3 three.0 ∙ ap rank_of_trust three.1
          | inr others ↦ elim (choice (number == 4) AuthoritativeAnswer None trust others) [
            | inl four ↦ eqb-true number 4 four.0 ∙ ap rank_of_trust four.1
            | inr none ↦ absurd cc
          ]
        ]
      ]
    ]

pub trust-says : (field : List ℕ) (trust : Trust) → trust_of field ≡ Some trust → IsTrust field trust
trust-says field trust is =
    let number = said_first (at_most 4 (number_of field)) rank trust is in
    let within = at_most-says 4 (number_of field) number.0 number.1.0 in
    subst (SpellsNumber field) (rank-says number.0 trust number.1.1) (number-spells field number.0 within.is)

pub says_trust : (field : List ℕ) (trust : Trust) → IsTrust field trust → trust_of field ≡ Some trust
says_trust field trust is =
    ap (option_and_then rank) (within-is 4 (number_of field) (rank_of_trust trust) (spelled-number field (rank_of_trust trust) is) (rank-small trust))
    ∙ rank-ranked trust

-- a word, or another one
word : {X : Type 0} (field text : List ℕ) (here : X) (others : Option X) (value : X) → cond (bytes_eq field text) (Some here) others ≡ Some value
    → ((field ≡ text) × (here ≡ value)) ⊎ (others ≡ Some value)
word field text here others value is =
    elim (choice (bytes_eq field text) here others value is) [
      | inl this ↦ inl ((bytes_eq-Decides field text).0 this.0, this.1)
      | inr other ↦ inr other
    ]

pub purpose-says : (field : List ℕ) (purpose : Purpose) → purpose_of field ≡ Some purpose → field ≡ purpose_word purpose
purpose-says field purpose is =
    elim (word field (codes "any") Any _ purpose is) [
      | inl any ↦ any.0 ∙ ap purpose_word any.1
      | inr others ↦ elim (word field (codes "answer") Answer None purpose others) [
        | inl answer ↦ answer.0 ∙ ap purpose_word answer.1
        | inr none ↦ absurd cc
      ]
    ]

pub says_purpose : (purpose : Purpose) → purpose_of (purpose_word purpose) ≡ Some purpose
says_purpose Any = refl
says_purpose Answer = refl

pub mode-says : (field : List ℕ) (mode : Mode) → mode_of field ≡ Some mode → field ≡ mode_word mode
mode-says field mode is =
    elim (word field (codes "none") NoStale _ mode is) [
      | inl none ↦ none.0 ∙ ap mode_word none.1
      | inr others ↦ elim (word field (codes "failed") Failed _ mode others) [
        | inl failed ↦ failed.0 ∙ ap mode_word failed.1
        | inr others ↦ elim (word field (codes "now") Now None mode others) [
          | inl now ↦ now.0 ∙ ap mode_word now.1
          | inr none ↦ absurd cc
        ]
      ]
    ]

pub says_mode : (mode : Mode) → mode_of (mode_word mode) ≡ Some mode
says_mode NoStale = refl
says_mode Failed = refl
says_mode Now = refl

-- the word of a form
abbrev pub form_word : Form → List ℕ
form_word forms.Put = codes "put"
form_word forms.Ask = codes "ask"
form_word forms.Fail = codes "fail"
form_word forms.Response = codes "response"
form_word forms.Fetch = codes "fetch"
form_word forms.Sweep = codes "sweep"
form_word forms.Checkpoint = codes "checkpoint"

later_form-says : (field : List ℕ) (form : Form) → (
    if bytes_eq field (codes "response") then Some forms.Response
    else if bytes_eq field (codes "fetch") then Some forms.Fetch
    else if bytes_eq field (codes "sweep") then Some forms.Sweep
    else if bytes_eq field (codes "checkpoint") then Some forms.Checkpoint
    else None) ≡ Some form → field ≡ form_word form
later_form-says field form is =
    elim (word field (codes "response") forms.Response _ form is) [
      | inl here ↦ here.0 ∙ ap form_word here.1
      | inr others ↦ elim (word field (codes "fetch") forms.Fetch _ form others) [
        | inl here ↦ here.0 ∙ ap form_word here.1
        | inr others ↦ elim (word field (codes "sweep") forms.Sweep _ form others) [
          | inl here ↦ here.0 ∙ ap form_word here.1
          | inr others ↦ elim (word field (codes "checkpoint") forms.Checkpoint None form others) [
            | inl here ↦ here.0 ∙ ap form_word here.1
            | inr none ↦ absurd cc
          ]
        ]
      ]
    ]

pub form-says : (field : List ℕ) (form : Form) → form_of field ≡ Some form → field ≡ form_word form
form-says field form is =
    elim (word field (codes "put") forms.Put _ form is) [
      | inl here ↦ here.0 ∙ ap form_word here.1
      | inr others ↦ elim (word field (codes "ask") forms.Ask _ form others) [
        | inl here ↦ here.0 ∙ ap form_word here.1
        | inr others ↦ elim (word field (codes "fail") forms.Fail _ form others) [
          | inl here ↦ here.0 ∙ ap form_word here.1
          | inr others ↦ later_form-says field form others
        ]
      ]
    ]
