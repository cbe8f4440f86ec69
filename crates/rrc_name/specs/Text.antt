-- SPDX-License-Identifier: MIT
-- The text of a name (RFC 1035 5.1): labels with a dot between them, and escapes for octets that have no letter.
use Rattle.std.specs.Prelude.{◌≡◌, ◌≢◌, ◌<◌, ◌≤◌, ◌⊎◌, ℕ, ◌+◌, ◌*◌, ◌/◌, ◌%◌, List, [], ◌∷◌, ◌++◌, length, if◌then◌else◌, ◌==◌, ◌||◌}
use Rattle.std.specs.List.{flat_map}
use Rattle.std.specs.Char.{is_ascii_graphic}
use Rattle.rrc_name.specs.declared.fault.NameFault.{NameFault}
use Rattle.rrc_name.specs.declared.fault.NameFault.TheVariants.{EmptyLabel, LabelTooLong, NameTooLong, BadEscape}
use Rattle.rrc_name.specs.Wire.{wire_of, labels_of, MakeName, IsWireForm}

-- a graphic octet: '!' to '~'
abbrev pub IsGraphic : ℕ → Type 0
IsGraphic octet = (33 ≤ octet) × (octet ≤ 126)

-- an octet other than the digits '0' to '9'
abbrev pub IsNoDigit : ℕ → Type 0
IsNoDigit octet = (octet < 48) ⊎ (57 < octet)

-- a text spells an octet of a label
pub data SpellsOctet : List ℕ → ℕ → Type 0 where
  -- a graphic octet, but no dot and no backslash, spells itself
  itself : {octet : ℕ} → IsGraphic octet → octet ≢ 46 → octet ≢ 92 → SpellsOctet (octet ∷ []) octet
  -- a graphic octet that is no digit is spelled by a backslash and itself
  escaped : {octet : ℕ} → IsGraphic octet → IsNoDigit octet → SpellsOctet (92 ∷ octet ∷ []) octet
  -- any octet is spelled by a backslash and the three digits of its decimal number
  decimal : {hundreds tens ones octet : ℕ} → hundreds ≤ 9 → tens ≤ 9 → ones ≤ 9 → 100 * hundreds + 10 * tens + ones ≡ octet → octet ≤ 255
      → SpellsOctet (92 ∷ (48 + hundreds) ∷ (48 + tens) ∷ (48 + ones) ∷ []) octet

-- a text spells a label: the spellings of its octets, one after another
pub data SpellsLabel : List ℕ → List ℕ → Type 0 where
  no_octet : SpellsLabel [] []
  octet_more : {first behind label : List ℕ} {octet : ℕ} → SpellsOctet first octet → SpellsLabel behind label → SpellsLabel (first ++ behind) (octet ∷ label)

-- a text spells labels, each with a dot behind it
pub data SpellsLabels : List ℕ → List (List ℕ) → Type 0 where
  no_label : SpellsLabels [] []
  label_more : {first behind label : List ℕ} {labels : List (List ℕ)} → SpellsLabel first label → SpellsLabels behind labels
      → SpellsLabels (first ++ 46 ∷ behind) (label ∷ labels)

-- a text spells the name that has this wire form
pub data Spells : List ℕ → List ℕ → Type 0 where
  -- a dot alone is the root
  root : Spells (46 ∷ []) (0 ∷ [])
  -- labels, each with a dot behind it
  last_dot : {text : List ℕ} {labels : List (List ℕ)} → SpellsLabels text labels → 1 ≤ length labels → MakeName labels → Spells text (wire_of labels)
  -- the last dot may be left out
  no_last_dot : {front last label : List ℕ} {labels : List (List ℕ)} → SpellsLabels front labels → SpellsLabel last label → MakeName (labels ++ label ∷ [])
      → Spells (front ++ last) (wire_of (labels ++ label ∷ []))

-- a text begins with a dot
abbrev pub BeginsWithDot : List ℕ → Type 0
BeginsWithDot text = (behind : List ℕ) × (text ≡ 46 ∷ behind)

-- a label ends where the text does, or before a dot
abbrev pub EndsLabel : List ℕ → Type 0
EndsLabel behind = (behind ≡ []) ⊎ BeginsWithDot behind

-- a text neither ends a label nor begins with what spells an octet
pub record SpellsNothing (text : List ℕ) : Type 0 where
  pub goes_on : EndsLabel text → ⊥
  pub no_octet : (first behind : List ℕ) (octet : ℕ) → text ≡ first ++ behind → SpellsOctet first octet → ⊥

-- behind whole labels, each with its dot, a text is faulty in this way
pub data IsFaulty (labels : List (List ℕ)) : List ℕ → NameFault → Type 0 where
  -- within a label something spells nothing
  bad_escape : {first behind label : List ℕ} → SpellsLabel first label → SpellsNothing behind → IsFaulty labels (first ++ behind) BadEscape
  -- a dot stands where a label would begin
  empty_label : {behind : List ℕ} → IsFaulty labels (46 ∷ behind) EmptyLabel
  -- there is no label at all
  no_text : labels ≡ [] → IsFaulty labels [] EmptyLabel
  -- a label that ends has more than 63 octets
  label_too_long : {first behind label : List ℕ} → SpellsLabel first label → EndsLabel behind → 63 < length label
      → IsFaulty labels (first ++ behind) LabelTooLong
  -- with a label that ends the name has more than 255 octets
  name_too_long : {first behind label : List ℕ} → SpellsLabel first label → EndsLabel behind → 1 ≤ length label → length label ≤ 63
      → 255 < length (wire_of (labels ++ label ∷ [])) → IsFaulty labels (first ++ behind) NameTooLong

-- reading from the left, the first fault of a text: whole labels that make a name stand before what is faulty
pub record IsFirstFaultOf (text : List ℕ) (fault : NameFault) : Type 0 where
  pub no_root : text ≢ 46 ∷ []
  pub labels : List (List ℕ)
  pub front : List ℕ
  pub rest : List ℕ
  pub whole : text ≡ front ++ rest
  pub labels_before : SpellsLabels front labels
  pub make_name : MakeName labels
  pub faulty : IsFaulty labels rest fault

-- each text spells one name, or it has one first fault, and never both
pub record HasNameOrFault (text : List ℕ) : Type 0 where
  pub either : ((name : List ℕ) × Spells text name) ⊎ ((fault : NameFault) × IsFirstFaultOf text fault)
  pub one_name : (name other : List ℕ) → Spells text name → Spells text other → name ≡ other
  pub one_fault : (fault other : NameFault) → IsFirstFaultOf text fault → IsFirstFaultOf text other → fault ≡ other
  pub not_both : (name : List ℕ) (fault : NameFault) → Spells text name → IsFirstFaultOf text fault → ⊥

abbrev pub OneNameOrFault : Type 0
OneNameOrFault = (text : List ℕ) → HasNameOrFault text

-- an octet as three decimal digits
abbrev pub decimal_of : ℕ → List ℕ
decimal_of octet = (48 + octet / 100) ∷ (48 + octet / 10 % 10) ∷ (48 + octet % 10) ∷ []

-- how a text spells an octet of a label: a dot and a backslash behind a backslash, another graphic octet as it is, and any
-- other by its decimal digits
abbrev pub spelling_of : ℕ → List ℕ
spelling_of octet =
    if octet == 46 || octet == 92 then 92 ∷ octet ∷ []
    else if is_ascii_graphic octet then octet ∷ []
    else 92 ∷ decimal_of octet

-- the labels, each with a dot behind it
abbrev pub dotted : List (List ℕ) → List ℕ
dotted [] = []
dotted (label ∷ labels) = flat_map spelling_of label ++ (46 ∷ dotted labels)

-- the text of the name with these labels; the root, which has none, is a dot
abbrev pub text_of_labels : List (List ℕ) → List ℕ
text_of_labels [] = 46 ∷ []
text_of_labels (label ∷ labels) = dotted (label ∷ labels)

-- the text of a name, which ends with a dot
abbrev pub text_of : List ℕ → List ℕ
text_of name = text_of_labels (labels_of name)

-- the text of each name spells that name, octet for octet
abbrev pub IsReadAgain : Type 0
IsReadAgain = (name : List ℕ) → IsWireForm name → Spells (text_of name) name
