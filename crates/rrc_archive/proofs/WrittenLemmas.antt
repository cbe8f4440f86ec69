-- SPDX-License-Identifier: MIT
-- Items and keys of a line of an archive are read one after another.
use Rattle.std.proofs.Common.{◌≡◌, ℕ, zero, suc, ◌+◌, ◌-◌, ◌<◌, ◌≤◌, List, [], ◌∷◌, length, take, drop, Option, Some, None, Err, Bool, true, false, refl, sym, ap, ◌∙◌, arith, position, option_map, unwrap_or, length-drop}
use Rattle.std.specs.List.{slice_split}
use Rattle.std.proofs.lemmas.List.Quantifiers.{position-Some}
use Rattle.rrc_name.specs.Key.{KeyOf}
use Rattle.rrc_text.specs.Gives.{◌>>=◌, Gives}
use Rattle.rrc_text.specs.Fields.{has_field}
use Rattle.rrc_text.specs.Commas.{is_comma, cut_round, cut_at_comma}
use Rattle.rrc_archive.specs.ArchiveFields.{with_written, written_behind, data_of, with_key, keys_behind, keys_of}
use Rattle.rrc_text.specs.declared.read.line_fault.LineFault.{LineFault}
use Rattle.rrc_text.specs.declared.read.line_fault.LineFault.TheVariants.{NotOne, Memory}
use Rattle.rrc_text.proofs.CommaLemmas.{split_at_comma}

-- behind a comma there are fewer octets
pub fewer : (octets piece more : List ℕ) → cut_at_comma octets ≡ Some (piece, more) → length more < length octets
fewer octets piece more is = by (position is_comma octets) refl is
  where
    by : (place : Option ℕ) → position is_comma octets ≡ place → option_map (cut_round octets) place ≡ Some (piece, more) → length more < length octets
    by None at is = absurd cc
    by (Some end) at is =
        let rest : drop (end + 1) octets ≡ more = ap (λ (o : Option (List ℕ × List ℕ)). (unwrap_or o ([], [])).1) is in
        omega (arith, ap length rest, length-drop (end + 1) octets, (position-Some is_comma octets end 0 at).0)

module _ (field : List ℕ) (items : List (List ℕ)) (rest : List ℕ) (told : written_behind items (slice_split is_comma rest) ≡ data_of field) where
  pub more_written : (piece more : List ℕ) (others : List (List ℕ)) → cut_at_comma rest ≡ Some (piece, more) → with_written items piece ≡ Some others
      → written_behind others (slice_split is_comma more) ≡ data_of field
  more_written piece more others comma said =
      sym (ap (λ (o : Option (List (List ℕ))). o >>= λ more. written_behind more (slice_split is_comma (behind))) said)
      ∙ (sym (ap (written_behind items) (split_at_comma rest piece more comma)) ∙ told)
    where
      behind : List ℕ
      behind = more

  pub last_written : (more : List (List ℕ)) → slice_split is_comma rest ≡ rest ∷ [] → with_written items rest ≡ Some more → data_of field ≡ Some more
  last_written more one said =
      sym told ∙ (ap (written_behind items) one ∙ ap (λ (o : Option (List (List ℕ))). o >>= λ more. written_behind more []) said)

  pub bad_written : (fault : LineFault) (piece : List ℕ) (pieces others : List (List ℕ)) → slice_split is_comma rest ≡ piece ∷ pieces
      → Gives {X = Unit {0}} (λ _. others) (Err fault) (with_written items piece) → Gives {X = List (List ℕ)} (λ answer. answer) (Err fault) (data_of field)
  bad_written NotOne piece pieces others split said =
      sym told ∙ (ap (written_behind items) split ∙ ap (λ (o : Option (List (List ℕ))). o >>= λ more. written_behind more pieces) said)
  bad_written Memory piece pieces others split said = tt

  -- an item has one octet at least
  pub nothing_left : length rest ≤ 0 → data_of field ≡ None
  nothing_left few = by rest few told
    where
      by : (rest : List ℕ) → length rest ≤ 0 → written_behind items (slice_split is_comma rest) ≡ data_of field → data_of field ≡ None
      by [] none told = sym told
      by (octet ∷ rest) some told = absurd (omega (arith, some))

abbrev key_step : ℕ → Bool → Option (List KeyOf × List ℕ) → List KeyOf → Option (List KeyOf)
key_step most more said keys = Rattle.std.proofs.Common.cond more (said >>= (λ more. keys_behind most more.0 more.1)) (Some keys)

module _ (octets : List ℕ) (keys : List KeyOf) (seen : ℕ) (rest : List ℕ) (told : keys_behind (length octets - seen) keys rest ≡ keys_of octets) where
  next : seen < length octets → keys_behind (length octets - seen) keys rest ≡ key_step (length octets - (seen + 1)) (has_field rest) (with_key keys rest) keys
  next within =
      let one : length octets - seen ≡ suc (length octets - (seen + 1)) = omega (arith, within) in
      ap (λ (n : ℕ). keys_behind n keys rest) one

  pub key_more : (more : List KeyOf) (behind : List ℕ) → seen < length octets → has_field rest ≡ true → with_key keys rest ≡ Some (more, behind)
      → keys_behind (length octets - (seen + 1)) more behind ≡ keys_of octets
  key_more more behind within has said =
      sym (ap (λ (b : Bool). key_step (length octets - (seen + 1)) b (with_key keys rest) keys) has
      ∙ ap (λ (o : Option (List KeyOf × List ℕ)). key_step (length octets - (seen + 1)) true o keys) said) ∙ (sym (next within) ∙ told)

  pub bad_key : (fault : LineFault) (others : List KeyOf × List ℕ) → seen < length octets → has_field rest ≡ true
      → Gives {X = Unit {0}} (λ _. others) (Err fault) (with_key keys rest) → Gives {X = List KeyOf} (λ answer. answer) (Err fault) (keys_of octets)
  bad_key NotOne others within has said =
      sym told ∙ (next within ∙ (ap (λ (b : Bool). key_step (length octets - (seen + 1)) b (with_key keys rest) keys) has
      ∙ ap (λ (o : Option (List KeyOf × List ℕ)). key_step (length octets - (seen + 1)) true o keys) said))
  bad_key Memory others within has said = tt

  pub no_more_keys : seen < length octets → has_field rest ≡ false → keys_of octets ≡ Some keys
  no_more_keys within has =
      sym told ∙ (next within ∙ ap (λ (b : Bool). key_step (length octets - (seen + 1)) b (with_key keys rest) keys) has)

  pub no_octets_left : length octets ≤ seen → keys_of octets ≡ Some keys
  no_octets_left past =
      let none : length octets - seen ≡ 0 = omega (arith, past) in
      sym told ∙ ap (λ (n : ℕ). keys_behind n keys rest) none
